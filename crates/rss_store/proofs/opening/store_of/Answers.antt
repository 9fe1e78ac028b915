use Rattle.std.proofs.Common.{Err, sym, ◌∙◌, ap, subst, arith}
use Rattle.rss_base.specs.DiskRule.{Pages, IsTold}
use Rattle.rss_base.specs.Looking.{ChecksPages}
use Rattle.rss_base.specs.declared.fault.OpenFault.{OpenFault}
use Rattle.rss_page.specs.Slotted.{IsHeapKey}
use Rattle.rss_buffer.specs.BufferLaws.{saveable_by, holds_by, counted_by}
use Rattle.rss_buffer.specs.Devices.{device_of, buffer_view}
use Rattle.rss_buffer.specs.Views.{pages_view}
use Rattle.rss_buffer.proofs.SavingSteps.{fresh_unchanged}
use Rattle.rss_check.specs.Faults.{IsFirstFault, ArePassed}
use Rattle.rss_check.specs.Lines.{Links}
use Rattle.rss_check.specs.Looks.{FindsTables}
use Rattle.rss_check.specs.Passed.{IsViewOf}
use Rattle.rss_check.specs.Refused.{IsEarlyPlace, look_error}
use Rattle.rss_check.proofs.Refused.{unopened_look, look_device}
use Rattle.rss_store.specs.Opening.{IsHandedBack, ReadsFrom}
use Rattle.rss_store.proofs.Read.{found_read, reads_from}
use Rattle.rss_store.proofs.Unopened.{handed_back}
use Rattle.rss_store.proofs.opening.store_of.Goals as goal

-- ---- they are no store

pub returns-in-Err-clause-refused : goal.returns-in-Err-clause-refused
returns-in-Err-clause-refused g c =
    let back = ap (λ (d : _). (g.D.Device.view d).disk.contents) (sym c.in_ok-pages.ensures.device) in
    let did = subst (λ (b : _). ChecksPages IsHeapKey c.in-Err.ensures.did.0 (pages_view (buffer_view b)) (pages_view (buffer_view c.look_through.new.tuples.pages)) (Err c.in-Err.fault)) c.new-tuples.ensures c.in-Err.ensures.did.1 in
    let reads = did.looks.unwritten (fresh_unchanged c.in_ok-pages.ensures.fresh (saveable_by c.in_ok-pages.pages.holds)) in
    subst (λ (fault : OpenFault). IsHandedBack (g.D.Device.view c.args.device) (g.D.Device.view c.into_device.result) fault) (sym c.fault_of_look.ensures)
    (subst (λ (d : _). IsHandedBack (g.D.Device.view d) (g.D.Device.view c.into_device.result) (look_error c.in-Err.fault)) c.in_ok-pages.ensures.device
    (subst (λ (d : _). IsHandedBack (g.D.Device.view (device_of c.in_ok-pages.pages)) (g.D.Device.view d) (look_error c.in-Err.fault)) (sym (c.into_device.ensures ∙ ap (λ (b : _). device_of b) c.into_pages.ensures))
    (handed_back
    (unopened_look c.in-Err.fault (λ pages told. c.requires.holds pages (back ∙ told)) (omega (arith, c.requires.layout.half, c.requires.layout.slots))
    (λ place is pages told.
    let known : IsTold (pages_view (buffer_view c.in_ok-pages.pages)).disk = record { pages = pages; is = told } in
    let fault = subst (λ (b : _). (IsTold (pages_view (buffer_view b)).disk → IsEarlyPlace place)
    × (IsTold (pages_view (buffer_view b)).disk → (p : Pages) → IsViewOf p (pages_view (buffer_view b))
    → IsFirstFault p place))
    c.new-tuples.ensures (c.in-Err.ensures.early place (ap Err is), c.in-Err.ensures.first place (ap Err is)) in
    found_read c.requires.layout (saveable_by c.in_ok-pages.pages.holds) c.in_ok-pages.ensures.fresh
    (λ read key. holds_by (buffer_view c.in_ok-pages.pages) key) (λ p read. c.requires.holds p (back ∙ read))
    (λ p read. c.in_ok-pages.ensures.held p (back ∙ read)) known fault.0 fault.1))
    (λ failed. did.failed (ap Err (look_device c.in-Err.fault failed)))
    (record { contents = reads.contents; moments = reads.moments; same_writes = reads.same_writes; later = reads.later }))))

-- ---- they spell tables

pub returns-clause-read : goal.returns-clause-read
returns-clause-read g c =
    let back = ap (λ (d : _). (g.D.Device.view d).disk.contents) (sym c.in_ok-pages.ensures.device) in
    let log_is = c.log.view_is in
    let did = subst (λ (b : _). ChecksPages IsHeapKey c.in-Ok.ensures.did.0 (pages_view (buffer_view b)) (pages_view (buffer_view c.look_through.new.tuples.pages)) c.look_through.result) c.new-tuples.ensures (subst (λ (r : _). ChecksPages IsHeapKey c.in-Ok.ensures.did.0 (pages_view (buffer_view c.new-tuples.result.pages)) (pages_view (buffer_view c.look_through.new.tuples.pages)) r) (sym c.in-Ok.is) c.in-Ok.ensures.did.1) in
    let passes = subst (λ (b : _). IsTold (pages_view (buffer_view b)).disk → (p : Pages)
    → IsViewOf p (pages_view (buffer_view b)) → ArePassed p Links)
    c.new-tuples.ensures c.in-Ok.ensures.passes in
    let finds = subst (λ (b : _). FindsTables (pages_view (buffer_view b)) (pages_view (buffer_view c.look_through.new.tuples.pages)) c.in-Ok.catalog) c.new-tuples.ensures c.in-Ok.ensures.finds in
    subst (λ (d : _). ReadsFrom (g.D.Device.view d) (record { pages = pages_view (buffer_view c.look_through.new.tuples.pages); catalog = c.in-Ok.catalog; log = c.args.layout.log; root = c.args.layout.root; number = c.args.layout.number })) c.in_ok-pages.ensures.device
    (reads_from c.requires.layout (saveable_by c.in_ok-pages.pages.holds) c.in_ok-pages.ensures.fresh (λ read key. holds_by (buffer_view c.in_ok-pages.pages) key)
    (λ p read. c.requires.holds p (back ∙ read)) (λ p read. c.in_ok-pages.ensures.held p (back ∙ read)) did finds passes
    (counted_by c.look_through.new.tuples.pages.holds) c.requires.log (λ p read. c.requires.bytes p (back ∙ read)) _)
