use Rattle.std.proofs.Common.{◌∙◌, ap, sym, Some, option_map}
use Rattle.std.specs.Prelude.{option_copied}
use Rattle.rss_model.specs.Variables.{meaning_of}
use Rattle.rss_line.specs.Named.{Named, meant}
use Rattle.rss_line.proofs.Meanings.{means_found, tid_is, tid_none, unset, no_tid}
use Rattle.rss_line.proofs.names.Names.tid.Goals as goal

pub returns-in_err-tid : goal.returns-in_err-tid
returns-in_err-tid c = rw c.from_residual.ensures (tid_none _ (λ x is. unset (
    ap (λ (n : Named). meaning_of n.variables c.args.variable) (sym c.self.view_is)
    ∙ (means_found c.self.inside.meanings.entries c.args.variable ∙ ap (option_map meant) (sym c.get.ensures.value ∙ ap option_copied c.in_err-tid.was))) is))

pub returns-in-Identifier : goal.returns-in-Identifier
returns-in-Identifier c = tid_is _ c.in-Identifier.tid (
    ap (λ (n : Named). meaning_of n.variables c.args.variable) (sym c.self.view_is)
    ∙ (means_found c.self.inside.meanings.entries c.args.variable ∙ ap (option_map meant) (sym c.get.ensures.value ∙ (ap option_copied c.in_ok-tid.was ∙ ap Some c.in-Identifier.is))))

pub returns-in-Number : goal.returns-in-Number
returns-in-Number c = tid_none _ (λ x is. no_tid (
    ap (λ (n : Named). meaning_of n.variables c.args.variable) (sym c.self.view_is)
    ∙ (means_found c.self.inside.meanings.entries c.args.variable ∙ ap (option_map meant) (sym c.get.ensures.value ∙ (ap option_copied c.in_ok-tid.was ∙ ap Some c.in-Number.is)))) is)
