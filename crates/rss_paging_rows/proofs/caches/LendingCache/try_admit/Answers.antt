use Rattle.std.proofs.Common.{◌≡◌, false, Option, Some, None, is_some, refl, sym, ◌∙◌, rules}
use Rattle.rss_paging_rows.proofs.caches.LendingCache.try_admit.Goals as goal

none_of : {T : Type 0} (o : Option T) → false ≡ is_some o → o ≡ None
none_of None is = refl
none_of (Some x) is = absurd (cc)

-- a frame is free
pub admit-requires-clause-room : goal.admit-requires-clause-room
admit-requires-clause-room c = search rules

-- no frame has the page
pub admit-requires-clause-absent : goal.admit-requires-clause-absent
admit-requires-clause-absent c = none_of _ (sym c.if-has.false ∙ c.has.ensures)
