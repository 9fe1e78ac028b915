use Rattle.std.proofs.Common.{refl, sym, Some, None}
use Rattle.std.proofs.lemmas.Bool.{le-leb, leb-true}
use Rattle.rss_device.proofs.Places.{may_do_by, may_not}
use Rattle.rss_device.proofs.mem_pages.MemPages.may_do.Goals as goal

pub returns-in_default : goal.returns-in_default
returns-in_default c =
    let none = rw c.as_slice.ensures.value at c.in_default.ensures in
    (λ is. absurd (cc), λ may. absurd (may_not c.args.self.now.places.items c.args.key c.args.least (sym none) may))

pub returns-in-Some-note : goal.returns-in-Some-note
returns-in-Some-note c =
    let there = rw c.as_slice.ensures.value at c.in-Some.ensures in
    let may = may_do_by c.args.self.now.places.items c.args.key c.args.least c.in-Some.stored.now (Some c.in-Some-note.note) (sym there) c.in-Some-note.is in
    (λ is. may.1 (leb-true _ _ is), λ does. le-leb _ _ (may.0 does))

pub returns-in-None : goal.returns-in-None
returns-in-None c =
    let there = rw c.as_slice.ensures.value at c.in-Some.ensures in
    let may = may_do_by c.args.self.now.places.items c.args.key c.args.least c.in-Some.stored.now None (sym there) c.in-None.is in
    (λ is. may.1 tt, λ does. refl)
