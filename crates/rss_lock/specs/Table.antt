-- A lock table: the places of transactions, and who holds each item.
use Rattle.std.specs.Prelude.{◌≡◌, ◌≢◌, ℕ, ◌+◌, ◌-◌, ◌^◌, ◌<◌, ◌≤◌, min, Bool, true, false, nat_le, ◌==◌, ◌&&◌, if◌then◌else◌, List, [], ◌∷◌, length, replicate, slice_set, slice_index_or, Option, Some, None, is_some, is_none, IsSome, Contains}
use Rattle.std.specs.List.{list_any, AllByRecursion}
use Rattle.std.specs.Map.{lookup}
use Rattle.std.specs.FinMap as finite
use Rattle.rss_base.specs.declared.name.Name.{Name}
use Rattle.rss_base.specs.declared.tid.Tid.{Tid}
use Rattle.rss_base.specs.declared.item.Item.{Item}
use Rattle.rss_base.specs.declared.item.Item.TheVariants.{Tuple}
use Rattle.rss_base.specs.declared.need.Mode.{Mode}
use Rattle.rss_base.specs.declared.need.Mode.TheVariants.{X}
use Rattle.rss_base.specs.declared.need.Need.{Need}
use Rattle.rss_base.specs.Items.{same_item}
use Rattle.rss_model.specs.Locks.{Locks, Claim, claim, disagree, with_mode}
use Rattle.rss_lock.specs.declared.places.Holder.{Holder}
use Rattle.rss_lock.specs.declared.places.Grants.{Grants}
use Rattle.rss_lock.specs.Locks.{LocksView, holders_most}

-- ---- modes

-- the mode in which a transaction holds an item, if it does
abbrev pub Modes : Type 0
Modes = ℕ → Item → Option Mode

abbrev pub Holds : Modes → Item → ℕ → Type 0
Holds mode item t = IsSome (mode t item)

-- no two transactions hold an item in modes that disagree
abbrev pub AllAgree : Modes → Type 0
AllAgree mode =
    (t u : ℕ) (item : Item) (a b : Mode) → t ≢ u → mode t item ≡ Some a → mode u item ≡ Some b
    → disagree a b ≡ false

-- another transaction holds the item in a mode that disagrees with the one that t needs
pub record Bars (mode : Modes) (t : ℕ) (need : Need) (other : ℕ) : Type 0 where
  pub another : other ≢ t
  pub held : Mode
  pub holds : mode other need.item ≡ Some held
  pub disagrees : disagree held need.mode ≡ true

-- nobody bars t from the need
abbrev pub IsUnbarred : Modes → ℕ → Need → Type 0
IsUnbarred mode t need = (other : ℕ) → Bars mode t need other → ⊥

-- the least number of which the fact holds
pub record IsLeast (P : ℕ → Type 0) (n : ℕ) : Type 0 where
  pub here : P n
  pub least : (m : ℕ) → P m → n ≤ m

-- the least number of which the fact holds, if there is one
abbrev pub IsLeastOf : (ℕ → Type 0) → Option ℕ → Type 0
IsLeastOf P None = (n : ℕ) → P n → ⊥
IsLeastOf P (Some n) = IsLeast P n

abbrev pub set_mode : Modes → ℕ → Item → Mode → Modes
set_mode mode t item to u other = if (u == t) && same_item item other then Some to else mode u other

-- t gets what it needs
abbrev pub given : Modes → ℕ → Need → Modes
given mode t need = set_mode mode t need.item (with_mode (mode t need.item) need.mode)

-- t holds nothing any longer
abbrev pub without : ℕ → Modes → Modes
without t mode u item = if u == t then None else mode u item

-- t and the transactions that hold something are among so many
pub record HoldersAreFew (mode : Modes) (t : ℕ) : Type 0 where
  pub among : List ℕ
  pub few : length among ≤ holders_most
  pub own : Contains among t
  pub holders : (u : ℕ) (item : Item) → Holds mode item u → Contains among u

-- ---- the table

-- the holder of each place, how many first locks there have been, the items, and for how many more there is room
pub record Table : Type 0 where
  pub holders : List (Option Holder)
  pub firsts : ℕ
  pub entries : List (Item × Grants)
  pub room : ℕ

abbrev pub table : List (Option Holder) → ℕ → List (Item × Grants) → ℕ → Table
table holders firsts entries room =
    record { holders = holders; firsts = firsts; entries = entries; room = room }

-- ---- what it tells

abbrev pub is_of : ℕ → Option Holder → Bool
is_of t None = false
is_of t (Some holder) = holder.transaction == t

-- what a place's mode is, where it still counts
abbrev pub counted : Option Holder → ℕ → Option Mode → Option Mode
counted None as_of mode = None
counted (Some holder) as_of mode = if nat_le holder.since as_of then mode else None

abbrev pub first : List (Option Mode) → Option Mode
first [] = None
first (mode ∷ modes) = mode

abbrev pub rest : List (Option Mode) → List (Option Mode)
rest [] = []
rest (mode ∷ modes) = modes

-- the mode of t's place
abbrev pub held : ℕ → List (Option Holder) → ℕ → List (Option Mode) → Option Mode
held t [] as_of modes = None
held t (holder ∷ holders) as_of modes =
    if is_of t holder then counted holder as_of (first modes) else held t holders as_of (rest modes)

-- the modes of all places
abbrev pub current_modes : List (Option Holder) → ℕ → List (Option Mode) → List (Option Mode)
current_modes [] as_of modes = []
current_modes (holder ∷ holders) as_of modes =
    counted holder as_of (first modes) ∷ current_modes holders as_of (rest modes)

abbrev pub modes_on : List (Option Holder) → Option Grants → List (Option Mode)
modes_on holders None = replicate 32 None
modes_on holders (Some grants) = current_modes holders grants.as_of grants.modes

-- whether a mode still counts
abbrev pub is_held : List (Option Holder) → Grants → Bool
is_held holders grants = list_any is_some (current_modes holders grants.as_of grants.modes)

abbrev pub held_in : ℕ → List (Option Holder) → Option Grants → Option Mode
held_in t holders None = None
held_in t holders (Some grants) = held t holders grants.as_of grants.modes

abbrev pub grants_on : List (Item × Grants) → Item → Option Grants
grants_on entries item = lookup (same_item item) entries

abbrev pub mode_of : Table → Modes
mode_of t u item = held_in u t.holders (grants_on t.entries item)

-- the locks with one more, if it is held
abbrev pub add_lock : Claim → Option Mode → Locks → Locks
add_lock claim None locks = locks
add_lock claim (Some mode) locks = finite.insert locks claim mode

-- with those that the transactions with places have on an item
abbrev pub add_item : Modes → Item → List (Option Holder) → Locks → Locks
add_item mode item [] locks = locks
add_item mode item (None ∷ holders) locks = add_item mode item holders locks
add_item mode item (Some holder ∷ holders) locks =
    add_lock (claim holder.transaction item) (mode holder.transaction item) (add_item mode item holders locks)

abbrev pub add_items : Modes → List (Option Holder) → List (Item × Grants) → Locks
add_items mode holders [] = finite.empty
add_items mode holders (entry ∷ entries) = add_item mode entry.0 holders (add_items mode holders entries)

-- all of them: the machine's locks
unfoldable pub locks_of : Table → Locks
locks_of t = add_items (mode_of t) t.holders t.entries

abbrev pub told : Table → LocksView
told t = record { locks = locks_of t; spare = min t.room (2 ^ 64 - 1 - t.firsts) }

-- ---- who bars whom

-- a transaction besides this one holds the item in a mode that disagrees
pub record Disagrees (mode : Modes) (item : Item) (needed : Mode) (besides : Option ℕ) (t : ℕ)
    : Type 0 where
  pub another : Some t ≢ besides
  pub held : Mode
  pub holds : mode t item ≡ Some held
  pub disagrees : disagree held needed ≡ true

-- the same of a place, and of one of the places up to one
pub record DisagreesAt (holder : Option Holder) (mode : Option Mode) (needed : Mode) (besides : Option ℕ) (t : ℕ)
    : Type 0 where
  pub of : is_of t holder ≡ true
  pub another : Some t ≢ besides
  pub held : Mode
  pub holds : mode ≡ Some held
  pub disagrees : disagree held needed ≡ true

pub record DisagreesIn (holders : List (Option Holder)) (modes : List (Option Mode)) (needed : Mode) (besides : Option ℕ) (end t : ℕ)
    : Type 0 where
  pub place : ℕ
  pub within : place < end
  pub there : DisagreesAt (slice_index_or holders place None) (slice_index_or modes place None) needed besides t

abbrev pub lesser : Option ℕ → ℕ → ℕ
lesser None t = t
lesser (Some least) t = min least t

-- an item is the tuple with this identifier in one of the relations, and another transaction holds it
pub record BarsTid (holders : List (Option Holder)) (t : ℕ) (relations : List Name) (item : Item) (grants : Grants) (tid : Tid)
    : Type 0 where
  pub relation : Name
  pub listed : Contains relations relation
  pub is : item ≡ Tuple relation tid
  pub other : ℕ
  pub bars : DisagreesIn holders (current_modes holders grants.as_of grants.modes) X (Some t) 32 other

-- ---- the place of a transaction

-- no transaction but t has a place
abbrev pub AreAllOf : ℕ → List (Option Holder) → Type 0
AreAllOf t holders = (u : ℕ) → list_any (is_of u) holders ≡ true → u ≡ t

-- it has one, or a place is free
abbrev pub HasRoomFor : ℕ → List (Option Holder) → Type 0
HasRoomFor t holders = list_any (is_of t) holders ≡ false → list_any is_none holders ≡ true

-- t had this place, or has it now with the next first lock
pub data Places (t : ℕ) (holders : List (Option Holder)) (firsts : ℕ) : List (Option Holder) → ℕ → ℕ → Type 0 where
  had : (place : ℕ) → is_of t (slice_index_or holders place None) ≡ true
      → Places t holders firsts holders firsts place
  gets : (place : ℕ) → slice_index_or holders place None ≡ None → list_any (is_of t) holders ≡ false
      → Places t holders firsts
      (slice_set holders place (Some (record { transaction = t; since = firsts + 1 }))) (firsts + 1) place

-- ---- what stays

-- no transaction has two places
abbrev pub IsAlone : List (Option Holder) → Type 0
IsAlone [] = Unit {0}
IsAlone (None ∷ holders) = IsAlone holders
IsAlone (Some holder ∷ holders) =
    (list_any (is_of holder.transaction) holders ≡ false) × IsAlone holders

abbrev pub HasBegun : ℕ → Option Holder → Type 0
HasBegun firsts None = Unit {0}
HasBegun firsts (Some holder) = holder.since ≤ firsts

pub record IsTable (t : Table) : Type 0 where
  pub places : length t.holders ≡ 32
  pub alone : IsAlone t.holders
  pub begun : AllByRecursion (HasBegun t.firsts) t.holders
  pub past : (item : Item) (grants : Grants) → grants_on t.entries item ≡ Some grants → grants.as_of ≤ t.firsts
  -- each transaction with a place holds something
  pub shown : (u : ℕ) → list_any (is_of u) t.holders ≡ true → (item : Item) × Holds (mode_of t) item u
  pub agreed : AllAgree (mode_of t)
