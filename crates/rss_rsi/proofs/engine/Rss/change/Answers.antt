use Rattle.std.proofs.Common.{ap, refl, sym, ◌∙◌, arith, ◌+◌}
use Rattle.std.specs.Prelude.{is_ok}
use Rattle.std.proofs.lemmas.Bool.{true≢false}
use Rattle.rss_base.specs.LogRecords.{record_size, longest_record}
use Rattle.rss_base.specs.Sizes.{largest_checkpoint}
use Rattle.rss_base.specs.declared.log_record.LogRecord.TheVariants as records
use Rattle.rss_store.specs.Parts.{view as store_view}
use Rattle.rss_store.specs.Stores.{StoreView}
use Rattle.rss_store.proofs.Definitions.{same_then}
use Rattle.rss_session.specs.Changes.{relation_told}
use Rattle.rss_session.proofs.StaysOpen.{same_listed}
use Rattle.rss_rsi.proofs.Ways.{ready_stay}
use Rattle.rss_rsi.proofs.Changes.{change_refused, change_made, change_failed, change_lacks}
use Rattle.rss_rsi.proofs.engine.Rss.change.Goals as goal

pub returns-in_err-saves_first-clause-did : goal.returns-in_err-saves_first-clause-did
returns-in_err-saves_first-clause-did g c =
    change_refused _ c.from_residual.ensures.1 c.requires.up c.in_err-saves_first.ensures.rules c.in_err-saves_first.ensures.short

pub returns-in_err-make-clause-did : goal.returns-in_err-make-clause-did
returns-in_err-make-clause-did g c =
    change_failed (ap (store_view g.S.Pages.view) c.reserve.ensures.store) c.reserve.ensures.shows c.reserve.ensures.saves c.make.ensures.goes
    _ c.from_residual-in_err-make.ensures.1 c.in_err-make.was true≢false c.in_ok-saves_first.ensures.rules c.make.ensures.sound c.make.ensures.moments

pub returns-clause-did : goal.returns-clause-did
returns-clause-did g c =
    change_made (ap (store_view g.S.Pages.view) c.reserve.ensures.store) c.reserve.ensures.shows c.reserve.ensures.saves c.make.ensures.goes
    _ refl (ap is_ok c.in_ok-make.was) c.in_ok-saves_first.ensures.rules c.in_ok-make.ensures.makes c.make.ensures.moments

pub make-requires-clause-weighed : goal.make-requires-clause-weighed
make-requires-clause-weighed g c = c.reserve.ensures.weighs (relation_told c.args.change) (record_size (records.Change c.args.transaction c.args.change)) ∙ sym c.in_ok-saves_first.ensures.weighed

pub returns-in_default-clause-did : goal.returns-in_default-clause-did
returns-in_default-clause-did g c =
    change_lacks (ap (store_view g.S.Pages.view) c.reserve.ensures.store) c.reserve.ensures.shows c.reserve.ensures.saves c.requires.up

pub invariant_of-self : goal.invariant_of-self
invariant_of-self g c = record {
  ready = λ up.
      let asked = c.requires.asked in
      let taken = c.reserve.ensures in
      let same = ap (store_view g.S.Pages.view) taken.store in
      ready_stay {appended = 0} asked.ready asked.counted (omega arith) taken.ready (omega (arith, ap (λ (s : StoreView). s.log.end) same)) (λ t. omega (arith, taken.saves t)) taken.stay (same_listed (ap (λ (s : StoreView). s.catalog.listing) same)) (record { locks = refl; scans = refl });
}

pub invariant_of-self-2 : goal.invariant_of-self-2
invariant_of-self-2 g c = record {
  ready = λ up.
      let asked = c.requires.asked in
      let taken = c.reserve.ensures in
      let made = c.in_ok-make.ensures in
      let same = ap (store_view g.S.Pages.view) taken.store in
      ready_stay {appended = longest_record + largest_checkpoint} asked.ready asked.counted (omega arith) made.ready (omega (arith, made.appends, ap (λ (s : StoreView). s.log.end) same)) (λ t. omega (arith, made.goes.saves t, taken.saves t))
      (λ u is. made.stay u (taken.stay u is)) (same_then (same_listed (ap (λ (s : StoreView). s.catalog.listing) same)) made.listed) (record { locks = refl; scans = refl });
}
