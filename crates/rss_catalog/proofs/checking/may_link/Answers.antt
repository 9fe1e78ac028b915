-- What is said of the link at a place is said of the link that is tested.
use Rattle.std.proofs.Common.{◌∙◌, sym, refl, subst}
use Rattle.std.proofs.lemmas.Option.{none-some, same_Some}
use Rattle.rss_catalog.specs.Checking.{IsLinkIn}
use Rattle.rss_catalog.proofs.checking.may_link.Goals as goal

pub returns-in-Some : goal.returns-in-Some
returns-in-Some c = (
  λ it entry is. subst (IsLinkIn c.args.relations.now) (same_Some _ entry (sym c.in-Some.is ∙ is)) (c.is_link.ensures.0 it),
  λ may. c.is_link.ensures.1 (may _ c.in-Some.is),
)

pub returns-in-None : goal.returns-in-None
returns-in-None c = (λ it entry is. absurd (none-some entry (sym c.in-None.is ∙ is)), λ may. refl)
