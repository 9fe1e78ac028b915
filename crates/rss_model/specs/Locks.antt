-- Locks: in which modes transactions hold items, and which modes agree.
use Rattle.std.specs.Prelude.{◌≡◌, ℕ, Bool, true, false, not, ◌&&◌, ◌||◌, ◌==◌, List, [], ◌∷◌, find, Option, Some, None, option_map, unwrap_or}
use Rattle.std.specs.List.{list_any}
use Rattle.std.specs.Ordering.{nat_cmp}
use Rattle.std.specs.Cmp.Lexicographic.{slice_cmp}
use Rattle.std.specs.FinMap as map
use Rattle.std.specs.FinMap.{FinMap}
use Rattle.std.specs.declared.cmp.Ordering.{Ordering}
use Rattle.rss_base.specs.declared.item.Item.{Item}
use Rattle.rss_base.specs.declared.need.Need.{Need}
use Rattle.rss_base.specs.declared.need.Mode.{Mode}
use Rattle.rss_base.specs.declared.need.Mode.TheVariants.{IS, IX, S, SIX, X}
use Rattle.rss_model.specs.Items.{item_code, is_item}

-- ---- modes

-- Two transactions can't hold an item in these modes.
abbrev pub disagree : Mode → Mode → Bool
disagree IS IS = false
disagree IS IX = false
disagree IS S = false
disagree IS SIX = false
disagree IS X = true
disagree IX IS = false
disagree IX IX = false
disagree IX S = true
disagree IX SIX = true
disagree IX X = true
disagree S IS = false
disagree S IX = true
disagree S S = false
disagree S SIX = true
disagree S X = true
disagree SIX IS = false
disagree SIX IX = true
disagree SIX S = true
disagree SIX SIX = true
disagree SIX X = true
disagree X mode = true

-- the least mode that is both
abbrev pub joined : Mode → Mode → Mode
joined IS mode = mode
joined IX IS = IX
joined IX IX = IX
joined IX S = SIX
joined IX SIX = SIX
joined IX X = X
joined S IS = S
joined S IX = SIX
joined S S = S
joined S SIX = SIX
joined S X = X
joined SIX IS = SIX
joined SIX IX = SIX
joined SIX S = SIX
joined SIX SIX = SIX
joined SIX X = X
joined X mode = X

-- one mode has the other in it
abbrev pub Covers : Mode → Mode → Type 0
Covers held mode = joined held mode ≡ held

-- ---- who holds what

-- a transaction and an item that it holds
pub record Claim : Type 0 where
  pub by : ℕ
  pub item : Item

abbrev pub claim_code : Claim → List ℕ
claim_code claim = claim.by ∷ item_code claim.item

abbrev pub claim_cmp : Claim → Claim → Ordering
claim_cmp a b = slice_cmp nat_cmp (claim_code a) (claim_code b)

-- of each transaction, the modes in which it holds items
abbrev pub Locks : Type 0
Locks = FinMap claim_cmp Mode

abbrev pub claim : ℕ → Item → Claim
claim t item = record { by = t; item = item }

abbrev pub held : Locks → ℕ → Item → Option Mode
held locks t item = map.get locks (claim t item)

-- the transaction holds the item in a mode that has this one in it
pub record Holds (locks : Locks) (t : ℕ) (item : Item) (mode : Mode) : Type 0 where
  pub now : Mode
  pub there : held locks t item ≡ Some now
  pub covers : Covers now mode

-- ---- locks are taken and released

-- a mode joined with the one that is held, if any
abbrev pub with_mode : Option Mode → Mode → Mode
with_mode None mode = mode
with_mode (Some held) mode = joined held mode

abbrev pub with_lock : ℕ → Need → Locks → Locks
with_lock t need locks =
    map.insert locks (claim t need.item) (with_mode (held locks t need.item) need.mode)

-- the transaction holds all of these, the first of them first
abbrev pub granted : ℕ → List Need → Locks → Locks
granted t [] locks = locks
granted t (need ∷ needs) locks = granted t needs (with_lock t need locks)

abbrev pub released : ℕ → Locks → Locks
released t locks = map.retain_keys locks (λ claim. not (claim.by == t))

-- ---- what is busy

-- another transaction holds the item in a mode that disagrees
abbrev pub bars : ℕ → Need → Claim × Mode → Bool
bars t need lock = not (lock.0.by == t) && (is_item lock.0.item need.item && disagree lock.1 need.mode)

-- an item, and who holds it
pub record Bar : Type 0 where
  pub item : Item
  pub holder : ℕ

-- the least transaction that bars a need
abbrev pub barred_by : Locks → ℕ → Need → Option ℕ
barred_by locks t need = option_map (λ lock. lock.0.by) (find (bars t need) (map.entries locks))

-- the first need that is barred
abbrev pub first_bar : Locks → ℕ → List Need → Option Bar
first_bar locks t [] = None
first_bar locks t (need ∷ needs) =
    unwrap_or (option_map (λ holder. Some (record { item = need.item; holder = holder })) (barred_by locks t need))
    (first_bar locks t needs)

-- the least transaction that holds the item
abbrev pub least_holder : Locks → Item → Option ℕ
least_holder locks item =
    option_map (λ lock. lock.0.by) (find (λ lock. is_item lock.0.item item) (map.entries locks))

-- another transaction holds the item
abbrev pub is_held_by_another : Locks → ℕ → Item → Bool
is_held_by_another locks t item =
    list_any (λ lock. not (lock.0.by == t) && is_item lock.0.item item) (map.entries locks)

-- no two transactions hold an item in modes that disagree
abbrev pub AreApart : Locks → Type 0
AreApart locks =
    (t u : ℕ) (item : Item) (one other : Mode) → held locks t item ≡ Some one → held locks u item ≡ Some other
    → disagree one other ≡ true → t ≡ u

-- ---- laws

-- a mode that was joined disagrees with what one of its parts disagrees with
abbrev pub JoinDisagrees : Type 0
JoinDisagrees = (a b mode : Mode) → disagree (joined a b) mode ≡ (disagree a mode || disagree b mode)
