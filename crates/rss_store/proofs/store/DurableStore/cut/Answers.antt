use Rattle.std.proofs.Common.{arith}
use Rattle.rss_base.specs.declared.log_record.LogRecord.TheVariants as records
use Rattle.rss_stored.proofs.LogSteps.{restore_ties}
use Rattle.rss_store.specs.Parts.{view}
use Rattle.rss_store.proofs.Growing.{Appends, behind_grown}
use Rattle.rss_store.proofs.Cutting.{ready_with, cuts_at}
use Rattle.rss_store.proofs.store.DurableStore.cut.Goals as goal

pub returns-clause-ready : goal.returns-clause-ready
returns-clause-ready g c = ready_with c.requires.ready (behind_grown _ c.append.ensures.appended c.requires.ready.log (omega (arith, c.requires.room.before)) (omega (arith, c.requires.room.limit)))

pub returns-clause-cuts : goal.returns-clause-cuts
returns-clause-cuts g c =
    let appends : Appends (records.Restore c.args.transaction c.args.position) c.append.result c.args.self.now.log c.append.new.self = record { position = c.append.ensures.position; grown = c.append.ensures.appended; records = c.append.ensures.records } in
    λ told. cuts_at (view g.S.Pages.view c.args.self.now) c.append.new.self c.append.result c.args.transaction c.ranges.transaction.fits c.args.position c.ranges.position.fits restore_ties appends
