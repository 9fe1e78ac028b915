use Rattle.std.proofs.Common.{refl, arith}
use Rattle.rss_base.specs.declared.log_record.LogRecord.TheVariants as records
use Rattle.rss_stored.proofs.LogSteps.{change_ties}
use Rattle.rss_store.specs.Stores.{StoreView}
use Rattle.rss_store.specs.Parts.{view}
use Rattle.rss_store.proofs.Growing.{Appends, behind_grown}
use Rattle.rss_store.proofs.Altered.{alters_done, alters_fail, fault_passed, ready_made}
use Rattle.rss_store.proofs.Making.{makes_one, may_not_make}
use Rattle.rss_store.proofs.Spelled.{can_alter}
use Rattle.rss_store.proofs.store.DurableStore.change.Goals as goal

pub apply-requires : goal.apply-requires
apply-requires g c = record { may = can_alter c.requires.ready }

pub returns-in_err-apply-clause-sound : goal.returns-in_err-apply-clause-sound
returns-in_err-apply-clause-sound g c = λ place is told room state change by shown may.
    may_not_make c.args.change c.requires.ready (c.in_err-apply.ensures.sound place (fault_passed c.from_residual.ensures.1 is) told room) state change shown may

pub returns-in_err-apply-clause-did : goal.returns-in_err-apply-clause-did
returns-in_err-apply-clause-did g c = alters_fail _ c.from_residual.ensures.1 c.in_err-apply.ensures.makes refl refl

pub returns-clause-ready : goal.returns-clause-ready
returns-clause-ready g c =
    let old : StoreView = view g.S.Pages.view c.args.self.now in
    let new : StoreView = record { pages = g.S.Pages.view c.apply.new.tuples.pages; catalog = c.apply.new.catalog; log = c.append.new.self; root = c.args.self.now.root; number = c.args.self.now.number } in
    ready_made old new c.in_ok-apply.ensures.makes refl refl c.requires.ready (behind_grown _ c.append.ensures.appended c.requires.ready.log c.requires.room.before (omega (arith, c.requires.room.limit)))

pub returns-clause-makes : goal.returns-clause-makes
returns-clause-makes g c =
    let old : StoreView = view g.S.Pages.view c.args.self.now in
    let new : StoreView = record { pages = g.S.Pages.view c.apply.new.tuples.pages; catalog = c.apply.new.catalog; log = c.append.new.self; root = c.args.self.now.root; number = c.args.self.now.number } in
    let appends : Appends (records.Change c.args.transaction c.args.change) c.append.result c.args.self.now.log c.append.new.self = record { position = c.append.ensures.position; grown = c.append.ensures.appended; records = c.append.ensures.records } in
    λ told state change by shown may.
    makes_one c.args.change old new change_ties c.in_ok-apply.ensures.makes c.in_ok-apply.ensures.applies refl refl (g.met.S.Pages.are_counted c.apply.new.tuples.pages) c.requires.ready told c.append.result c.args.transaction appends state change by shown may

pub returns-clause-did : goal.returns-clause-did
returns-clause-did g c = alters_done c.append.result c.in_ok-apply.ensures.makes refl refl
