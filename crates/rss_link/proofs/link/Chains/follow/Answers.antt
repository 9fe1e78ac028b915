use Rattle.std.proofs.Common.{refl}
use Rattle.rss_link.proofs.Lists.{same_places, other_places}
use Rattle.rss_link.proofs.Counted.{says_read, followed, other_place}
use Rattle.rss_link.proofs.link.Chains.follow.Goals as goal
use Rattle.rss_link.proofs.link.Chains.follow.Goals.{then-ne-via-then-ne, then-ne-via-else-ne+then-ne-2}

pub returns-then-ne-clause-follows : goal.returns-then-ne-clause-follows
returns-then-ne-clause-follows g c = λ told.
    let finds = (rw c.if-not-branch.false at c.in_ok-find.ensures.finds) told in
    other_place (says_read (finds.is refl) c.as_slice.ensures.bytes c.from.ensures _ (rw c.in-Some-Within.field-0-is at c.in-Some-Within.ensures))
    (λ both. elim c.then-ne.branch [
      | then-ne-via-then-ne w ↦ other_places _ _ _ c.ne.ensures w.if-ne.true both.0
      | then-ne-via-else-ne+then-ne-2 w ↦ other_places _ _ _ w.ne-else-ne.ensures w.if-ne-2.true both.1
    ])

pub returns-clause-follows : goal.returns-clause-follows
returns-clause-follows g c = λ told.
    let finds = (rw c.if-not-branch.false at c.in_ok-find.ensures.finds) told in
    followed finds.begins (says_read (finds.is refl) c.as_slice.ensures.bytes c.from.ensures _ (rw c.in-Some-Within.field-0-is at c.in-Some-Within.ensures))
    (same_places _ _ _ c.ne.ensures c.if-ne.false) (same_places _ _ _ c.ne-else-ne.ensures c.if-ne-2.false)
