use Rattle.std.proofs.Common.{◌∙◌, ap, sym, Some, option_map}
use Rattle.std.specs.Prelude.{option_copied}
use Rattle.rss_model.specs.Variables.{meaning_of}
use Rattle.rss_line.specs.Named.{Named, meant}
use Rattle.rss_line.proofs.Meanings.{means_found, number_is, number_none, unset, no_number}
use Rattle.rss_line.proofs.names.Names.number.Goals as goal

pub returns-in_err-number : goal.returns-in_err-number
returns-in_err-number c = rw c.from_residual.ensures (number_none _ (λ x is. unset (
    ap (λ (n : Named). meaning_of n.variables c.args.variable) (sym c.self.view_is)
    ∙ (means_found c.self.inside.meanings.entries c.args.variable ∙ ap (option_map meant) (sym c.get.ensures.value ∙ ap option_copied c.in_err-number.was))) is))

pub returns-in-Identifier : goal.returns-in-Identifier
returns-in-Identifier c = number_none _ (λ x is. no_number (
    ap (λ (n : Named). meaning_of n.variables c.args.variable) (sym c.self.view_is)
    ∙ (means_found c.self.inside.meanings.entries c.args.variable ∙ ap (option_map meant) (sym c.get.ensures.value ∙ (ap option_copied c.in_ok-number.was ∙ ap Some c.in-Identifier.is)))) is)

pub returns-in-Number : goal.returns-in-Number
returns-in-Number c = number_is _ c.in-Number.number (
    ap (λ (n : Named). meaning_of n.variables c.args.variable) (sym c.self.view_is)
    ∙ (means_found c.self.inside.meanings.entries c.args.variable ∙ ap (option_map meant) (sym c.get.ensures.value ∙ (ap option_copied c.in_ok-number.was ∙ ap Some c.in-Number.is))))
