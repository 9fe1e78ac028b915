use Rattle.std.proofs.Common.{rules, arith, ◌≡◌, ◌<◌, length, false, All, None, replicate}
use Rattle.std.specs.Prelude.{is_none}
use Rattle.rss_device.specs.MemPages.{place_at}
use Rattle.rss_device.proofs.Places.{none_counted, changes_free, stored_put, placed_after}
use Rattle.rss_device.proofs.mem_pages.MemPages.map.Goals as goal

pub unreachable-requires : goal.unreachable-requires
unreachable-requires c =
    let none : All (λ place. is_none place ≡ false) c.args.self.now.places.items = search rules in
    let count = none_counted is_none c.args.self.now.places.items none in
    omega arith

pub invariant_of-self : goal.invariant_of-self
invariant_of-self c =
    let inside : c.in-Some.at < length c.args.self.now.places.items = search rules in
    let free : place_at c.args.self.now.places.items c.in-Some.at ≡ None = search rules in
    record { placed = placed_after _ _ _ _ c.args.self.now.placed (changes_free _ _ _ (replicate 4096 0) None inside free c.requires.unmapped) c.requires.allowed }

pub returns-clause-stored : goal.returns-clause-stored
returns-clause-stored c =
    let inside : c.in-Some.at < length c.args.self.now.places.items = search rules in
    let free : place_at c.args.self.now.places.items c.in-Some.at ≡ None = search rules in
    stored_put _ _ _ (replicate 4096 0) None (changes_free _ _ _ (replicate 4096 0) None inside free c.requires.unmapped)
