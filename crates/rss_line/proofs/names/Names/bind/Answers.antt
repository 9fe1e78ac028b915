use Rattle.std.proofs.Common.{◌∙◌, ap, sym, List, Option, option_map}
use Rattle.rss_model.specs.Variables.{Meaning, Variable, with_meaning}
use Rattle.rss_model.specs.Plays.{set}
use Rattle.rss_line.specs.Named.{Named, meant, variables}
use Rattle.rss_line.proofs.Meanings.{means_put}
use Rattle.rss_line.proofs.names.Names.bind.Goals as goal

pub returns : goal.returns
returns c =
    let meaning = c.in-Some.meaning in
    let given = sym c.meaning_in.ensures ∙ ap (option_map meant) c.in-Some.is in
    ap variables c.in-Ok.ensures.entries
    ∙ (means_put c.self.inside.meanings.entries c.args.variable meaning
    ∙ (ap (λ (l : List Variable). with_meaning l c.args.variable (meant meaning)) (ap (λ (n : Named). n.variables) c.self.view_is)
    ∙ sym (ap (λ (o : Option Meaning). set c.args.self.now.variables c.args.variable o) given)))
