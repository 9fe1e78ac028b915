use Rattle.std.proofs.Common.{rules, ◌≡◌, All, false}
use Rattle.rss_device.specs.MemPages.{has_key}
use Rattle.rss_device.proofs.Places.{none_has}
use Rattle.rss_device.proofs.mem_pages.MemPages.place.Goals as goal

pub unreachable-requires : goal.unreachable-requires
unreachable-requires c =
    let none : All (λ place. has_key c.args.key place ≡ false) c.args.self.now.places.items = search rules in
    let lacking = none_has c.args.self.now.places.items c.args.key none in
    cc
