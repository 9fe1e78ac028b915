use Rattle.std.proofs.Common.{rules, ◌≡◌, None, replicate}
use Rattle.rss_device.proofs.Places.{none_mapped, none_noted}
use Rattle.rss_device.proofs.mem_pages.MemPages.new.Goals as goal

pub returns-clause-mapped : goal.returns-clause-mapped
returns-clause-mapped c = λ key.
    let all : c.in_ok-places.places.items ≡ replicate c.args.slots None = search rules in
    rw all (none_mapped c.args.slots key)

pub returns-clause-notes : goal.returns-clause-notes
returns-clause-notes c = λ key.
    let all : c.in_ok-places.places.items ≡ replicate c.args.slots None = search rules in
    rw all (none_noted c.args.slots key)
