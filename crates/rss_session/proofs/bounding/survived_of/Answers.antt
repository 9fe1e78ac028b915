-- Each number up to the last has its relation's changes, and no relation has a greater one.
use Rattle.std.proofs.Common.{inl, inr, sym, ◌∙◌, ap, arith}
use Rattle.std.proofs.lemmas.Bool.{cases_lt}
use Rattle.std.proofs.lemmas.Option.{none-some}
use Rattle.rss_stored.proofs.Relisted.{number_within_list}
use Rattle.rss_trans.specs.declared.sums.Sums.{Sums}
use Rattle.rss_trans.specs.Tables.{told}
use Rattle.rss_session.specs.Sessions.{few}
use Rattle.rss_session.specs.Weighing.{survived_now}
use Rattle.rss_session.proofs.Filled.{filled_none, filled_more}
use Rattle.rss_session.proofs.bounding.survived_of.Goals as goal

pub loop-place-init : goal.loop-place-init
loop-place-init c = filled_none (survived_now (told c.args.transactions.now))

pub loop-place-preserved : goal.loop-place-preserved
loop-place-preserved c = filled_more c.from.result c.few.result c.loop-place.invariant (omega (arith, c.from.ensures)) (omega (arith, c.from.ensures)) (c.few.ensures ∙ ap (λ (sums : Sums). few sums.p) c.relation_sums.ensures)

pub returns : goal.returns
returns c = λ number relation at. elim (cases_lt c.loop-place.place number) [
  | inl above ↦ absurd (none-some relation (sym (c.last_relation-place-end.ensures.none number (omega (arith, above))) ∙ at))
  | inr within ↦ let low = number_within_list c.args.catalog.now.listing.relations number relation at in c.loop-place.invariant.upto number (omega (arith, low.0)) within
]
