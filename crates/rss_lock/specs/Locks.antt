-- A lock table, as its callers see it: the relation machine's locks.
use Rattle.std.specs.Prelude.{◌≡◌, ℕ, ◌≤◌, Bool, false, List, length, take, slice_get, Some, None, Contains}
use Rattle.std.specs.List.{list_any}
use Rattle.std.specs.Ordering.{nat_cmp, ordering_then}
use Rattle.std.specs.declared.cmp.Ordering.{Ordering}
use Rattle.rss_base.specs.declared.name.Name.{Name}
use Rattle.rss_base.specs.declared.tid.Tid.{Tid}
use Rattle.rss_base.specs.declared.item.Item.{Item}
use Rattle.rss_base.specs.declared.item.Item.TheVariants.{Tuple}
use Rattle.rss_base.specs.declared.need.Mode.{Mode}
use Rattle.rss_base.specs.declared.need.Need.{Need}
use Rattle.rss_model.specs.Locks.{Locks, held, barred_by, first_bar, is_held_by_another}

-- locks: in which modes transactions hold items.
-- spare: so many items can be taken without memory.
pub record LocksView : Type 0 where
  pub locks : Locks
  pub spare : ℕ

-- The first need that is barred stands at this place, and this is the least transaction that bars it.
pub record IsFirstBar (locks : Locks) (t : ℕ) (needs : List Need) (place holder : ℕ) : Type 0 where
  pub need : Need
  pub there : slice_get needs place ≡ Some need
  pub barred : barred_by locks t need ≡ Some holder
  pub earlier : first_bar locks t (take place needs) ≡ None
  pub first : first_bar locks t needs ≡ Some (record { item = need.item; holder = holder })

-- so many transactions may hold locks at a time
abbrev pub holders_most : ℕ
holders_most = 32

-- t and the transactions that hold something are among so many
pub record AreFew (locks : Locks) (t : ℕ) : Type 0 where
  pub among : List ℕ
  pub few : length among ≤ holders_most
  pub own : Contains among t
  pub holders : (u : ℕ) (item : Item) (mode : Mode) → held locks u item ≡ Some mode → Contains among u

-- no other transaction holds anything
abbrev pub HoldsAlone : Locks → ℕ → Type 0
HoldsAlone locks t = (item : Item) → is_held_by_another locks t item ≡ false

-- another transaction holds a lock on this identifier in one of the relations
abbrev pub is_barred : Locks → ℕ → List Name → Tid → Bool
is_barred locks t relations tid =
    list_any (λ relation. is_held_by_another locks t (Tuple relation tid)) relations

-- identifiers go by page, and then by slot
abbrev pub tid_cmp : Tid → Tid → Ordering
tid_cmp a b = ordering_then (nat_cmp a.page b.page) (nat_cmp a.slot b.slot)
