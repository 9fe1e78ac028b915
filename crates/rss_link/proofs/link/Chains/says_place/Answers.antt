use Rattle.std.proofs.Common.{refl}
use Rattle.rss_link.proofs.Counted.{says_read, block_read, counted_within, counted_outside}
use Rattle.rss_link.proofs.link.Chains.says_place.Goals as goal

pub returns-in-Some-Within-clause-says : goal.returns-in-Some-Within-clause-says
returns-in-Some-Within-clause-says g c = λ told.
    let finds = (rw c.if-not-branch.false at c.in_ok-find.ensures.finds) told in
    counted_within finds.begins (c.is_mixed.ensures.no c.if-is_mixed.false)
    (says_read (finds.is refl) c.as_slice.ensures.bytes c.from.ensures _ (rw c.in-Some-Within.field-0-is at c.in-Some-Within.ensures))

pub returns-in-Some-Outside-clause-says : goal.returns-in-Some-Outside-clause-says
returns-in-Some-Outside-clause-says g c = λ told.
    let finds = (rw c.if-not-branch.false at c.in_ok-find.ensures.finds) told in
    counted_outside (c.is_mixed.ensures.no c.if-is_mixed.false)
    (says_read (finds.is refl) c.as_slice.ensures.bytes c.from.ensures _ (rw c.in-Some-Outside.field-0-is at c.in-Some-Outside.ensures))

pub returns-in-None-clause-says : goal.returns-in-None-clause-says
returns-in-None-clause-says g c = λ told.
    let finds = (rw c.if-not-branch.false at c.in_ok-find.ensures.finds) told in
    record {
      is_child = finds.begins;
      never = λ some distinct. c.in-None.ensures some.standing (block_read (finds.is refl) c.as_slice.ensures.bytes c.from.ensures some.standing some.says);
    }
