use Rattle.std.proofs.Common.{◌≡◌, ◌-◌, ◌*◌, Ok}
use Rattle.rss_base.specs.Sizes.{piece_bytes}
use Rattle.rss_base.specs.DiskRule.{Told}
use Rattle.rss_base.specs.Devices.{ReadsPages}
use Rattle.rss_base.specs.LogPages.{pieces}
use Rattle.rss_log.specs.Rings.{ring_bytes}
use Rattle.rss_log.proofs.log.read_pieces.Given as goal

abbrev pub invariant-loop-number : goal.invariant-loop-number
invariant-loop-number g l = record {
  read : Told (g.D.Device.view l.initial.device).disk (λ pages. ring_bytes l.ring (l.first * piece_bytes) ((l.number - l.first) * piece_bytes) ≡ pieces pages l.first_page l.log_pages l.first (l.number - l.first));
  did : ReadsPages {T = Unit {0}} (g.D.Device.view l.initial.device) (g.D.Device.view l.device) (Ok tt);
}
