use Rattle.std.proofs.Common.{◌≡◌, ◌∙◌, ◌++◌, ◌∷◌, [], Option, sym, ap, subst, arith}
use Rattle.std.specs.Vec.{vec_capacity}
use Rattle.rss_base.specs.PageMap.{IsOwned}
use Rattle.rss_base.specs.declared.key.PageKey.{PageKey}
use Rattle.rss_pagemap.specs.declared.reading.Reading.{Reading}
use Rattle.rss_pagemap.specs.Taking.{memory, next}
use Rattle.rss_pagemap.proofs.Taken.{reading_more, sees_none, sees_key, seen_key, not_zeros, no_entry_at}
use Rattle.rss_pagemap.proofs.Maps.{same_entry}
use Rattle.rss_pagemap.proofs.reading.Reading.take_entry.Goals as goal
use Rattle.rss_pagemap.proofs.reading.Reading.take_entry.Goals.{in-Some-owner+in-Ok-true, in_default-owner}

pub returns-clause-reading : goal.returns-clause-reading
returns-clause-reading c = elim c.match-owner.branch [
  | in-Some-owner+in-Ok-true w ↦ reading_more c.args.self.now _ c.in-Some.owner c.requires (omega arith) (ap (λ (r : Reading). r.slots) w.self-is)
      (c.push_reserved.ensures.capacity ∙ ap (λ (r : Reading). vec_capacity r.owners) w.self-is)
      (c.push_reserved.ensures.items ∙ ap (λ (r : Reading). r.owners.items ++ c.match-owner.owner ∷ []) w.self-is ∙ ap (λ (o : Option PageKey). c.args.self.now.owners.items ++ o ∷ []) (w.owner-is ∙ sym w.in-Some-owner.is))
      c.in-Some.ensures.some.allowed
      (rw w.self-is (sees_key c.in-Some.owner w.in-Some-owner.key _ _ w.in-Some-owner.is (sym w.in-Ok-true.field-0-test ∙ w.in-Ok-true.ensures.added) (rw w.in-Ok-true.field-0-test at w.in-Ok-true.ensures.keys)))
  | in_default-owner w ↦ reading_more c.args.self.now _ c.in-Some.owner c.requires (omega arith) (ap (λ (r : Reading). r.slots) w.self-is)
      (c.push_reserved.ensures.capacity ∙ ap (λ (r : Reading). vec_capacity r.owners) w.self-is)
      (c.push_reserved.ensures.items ∙ ap (λ (r : Reading). r.owners.items ++ c.match-owner.owner ∷ []) w.self-is ∙ ap (λ (o : Option PageKey). c.args.self.now.owners.items ++ o ∷ []) w.owner-is)
      c.in-Some.ensures.some.allowed
      (sees_none _ _ _ w.in_default-owner.not-Some (ap (λ (r : Reading). r.seen.keys) w.self-is))
]

pub returns-then-ne-clause-refused : goal.returns-then-ne-clause-refused
returns-then-ne-clause-refused c = not_zeros _ _ _ c.len-slot.result (omega arith) c.if-slot-self.true (λ same. let differs = rw same at c.if-ne.ensures in cc)

pub returns-in_default-clause-refused : goal.returns-in_default-clause-refused
returns-in_default-clause-refused c = no_entry_at _ _ _ c.len-slot.result (omega arith) (omega arith) (λ owner is. absurd (c.in_default.ensures.none owner is))

pub returns-in-Ok-false-clause-refused : goal.returns-in-Ok-false-clause-refused
returns-in-Ok-false-clause-refused c = no_entry_at _ _ _ c.len-slot.result (omega arith) (omega arith) (λ owner is. subst (IsOwned _) (sym c.in-Some-owner.is ∙ same_entry (omega arith) c.in-Some.ensures.some is) (c.requires.owned c.in-Some-owner.key (seen_key _ _ (sym c.in-Ok-false.field-0-test ∙ c.in-Ok-false.ensures.added))))

pub returns-in-Err-clause-refused : goal.returns-in-Err-clause-refused
returns-in-Err-clause-refused c = memory

pub returns-clause-taken : goal.returns-clause-taken
returns-clause-taken c = next c.in-Some.owner (omega arith) c.in-Some.ensures.some (c.push_reserved.ensures.items ∙ pushed)
  where
    pushed : c.match-owner.self.owners.items ++ c.match-owner.owner ∷ [] ≡ c.args.self.now.owners.items ++ c.in-Some.owner ∷ []
    pushed = elim c.match-owner.branch [
      | in-Some-owner+in-Ok-true w ↦ ap (λ (r : Reading). r.owners.items ++ c.match-owner.owner ∷ []) w.self-is ∙ ap (λ (o : Option PageKey). c.args.self.now.owners.items ++ o ∷ []) (w.owner-is ∙ sym w.in-Some-owner.is)
      | in_default-owner w ↦ ap (λ (r : Reading). r.owners.items ++ c.match-owner.owner ∷ []) w.self-is ∙ ap (λ (o : Option PageKey). c.args.self.now.owners.items ++ o ∷ []) w.owner-is
    ]
