use Rattle.std.proofs.Common.{◌≡◌, sym, ap, subst}
use Rattle.std.specs.Prelude.{false}
use Rattle.rss_buffer.specs.Devices.{device_of, buffer_view}
use Rattle.rss_buffer.specs.Views.{pages_view}
use Rattle.rss_lock.specs.Table.{told}
use Rattle.rss_scan.specs.Scans.{told as scans_told}
use Rattle.rss_session.specs.Parts.{view as session_view}
use Rattle.rss_store.specs.Parts.{view as store_view}
use Rattle.rss_rsi.specs.Opening.{OpensOver}
use Rattle.rss_rsi.specs.Views.{engine_view}
use Rattle.rss_rsi.proofs.Opened.{opened_ready, opens_over}
use Rattle.rss_rsi.proofs.opening.open.Goals as goal

pub new-requires-3-clause-ready : goal.new-requires-3-clause-ready
new-requires-3-clause-ready g c =
    opened_ready c.in_ok-store.ensures.opened (ap (store_view (λ b. pages_view (buffer_view b))) c.new-2.ensures.store) c.new-2.ensures.ready c.new-2.ensures.open

pub returns-clause-opened : goal.returns-clause-opened
returns-clause-opened g c =
    subst (λ (s : _). OpensOver (g.D.Device.view c.args.device) (g.D.Device.view (device_of s.store.tuples.pages)) (engine_view (record { session = session_view (λ b. pages_view (buffer_view b)) s; locks = told c.new-3.result.locks; scans = scans_told c.new-3.result.scans }) c.new-3.result.calls (c.new-3.result.down ≡ false))) (sym c.new-3.ensures.session)
    (opens_over _ c.in_ok-store.ensures.opened (ap (store_view (λ b. pages_view (buffer_view b))) c.new-2.ensures.store) c.new-3.ensures.none_locked c.new-3.ensures.none_scanned c.new-2.ensures.shows c.new-3.ensures.calls c.new-3.ensures.up)
