-- The pages in memory, the one that was used last first.
use Rattle.std.specs.Prelude.{◌≡◌, ℕ, Bool, true, false, if◌then◌else◌, List, [], ◌∷◌, ◌++◌, length, map, slice_index_or, Option, Some, None, unwrap_or, option_map, option_to_list}
use Rattle.rss_base.specs.Paged.{is_same}
use Rattle.rss_base.specs.declared.key.Space.TheVariants.{Home}
use Rattle.rss_base.specs.declared.key.PageKey.{PageKey}
use Rattle.rss_frames.specs.Table.{key_at}
use Rattle.rss_frames.specs.State.{State}

-- a page in memory, and whether it was changed
pub record Held : Type 0 where
  pub key : PageKey
  pub bytes : List ℕ
  pub changed : Bool

abbrev pub no_key : PageKey
no_key = record { segment = 0; space = Home; number = 0 }

-- what a frame holds
abbrev pub held_at : State → ℕ → Held
held_at s i = record {
  key = unwrap_or (key_at s.keys i) no_key;
  bytes = slice_index_or s.pages i [];
  changed = slice_index_or s.marks i false;
}

-- the pages in memory, the one that was used last first
unfoldable pub entries : State → List Held
entries s = map (held_at s) s.used

-- how many there may be
abbrev pub room : State → ℕ
room s = length s.keys

-- the entry of a page
unfoldable pub entry : PageKey → List Held → Option Held
entry key [] = None
entry key (e ∷ es) = if is_same e.key key then Some e else entry key es

-- the entries of all other pages
unfoldable pub others : PageKey → List Held → List Held
others key [] = []
others key (e ∷ es) = if is_same e.key key then others key es else e ∷ others key es

-- the page has these bytes there, and this mark
abbrev pub IsEntry : PageKey → List ℕ → Bool → List Held → Type 0
IsEntry key bytes changed es = entry key es ≡ Some (record { key = key; bytes = bytes; changed = changed })

abbrev pub bytes_of : Option Held → Option (List ℕ)
bytes_of = option_map (λ e. e.bytes)

-- a page that isn't there comes before all others, with these bytes and this mark
abbrev pub admitted : PageKey → List ℕ → Bool → List Held → List Held
admitted key bytes changed es = record { key = key; bytes = bytes; changed = changed } ∷ es

-- the page's entry goes before all others
abbrev pub fronted : PageKey → List Held → List Held
fronted key es = option_to_list (entry key es) ++ others key es

-- the same, with other bytes, and marked as changed
abbrev pub changed_to : PageKey → List ℕ → Held
changed_to key bytes = record { key = key; bytes = bytes; changed = true }

abbrev pub written : PageKey → List ℕ → List Held → List Held
written key bytes es = changed_to key bytes ∷ others key es

-- both pages go before all others with these bytes, the first one as changed, and the second one with this mark
abbrev pub both_changed : PageKey → PageKey → Bool → List ℕ → List ℕ → List Held → List Held
both_changed first second mark v w es = changed_to first v ∷ record { key = second; bytes = w; changed = mark } ∷ others first (others second es)

abbrev pub unchanged : PageKey → Held → Held
unchanged key e = record { key = e.key; bytes = e.bytes; changed = if is_same e.key key then false else e.changed }

-- the page is marked as unchanged
abbrev pub settled : PageKey → List Held → List Held
settled key = map (unchanged key)

abbrev pub name_of : Held → PageKey × Bool
name_of e = (e.key, e.changed)

-- the page that wasn't used for the longest time
unfoldable pub eldest : List Held → Option Held
eldest [] = None
eldest (e ∷ []) = Some e
eldest (e ∷ f ∷ es) = eldest (f ∷ es)

-- the page that was used last
abbrev pub newest : List Held → Option Held
newest [] = None
newest (e ∷ es) = Some e

-- no page stands there twice
unfoldable pub AreDistinct : List Held → Type 0
AreDistinct [] = Unit {0}
AreDistinct (e ∷ es) = (entry e.key es ≡ None) × AreDistinct es

-- these pages are in memory, in this order, and there may be so many
pub record Shows (s : State) (es : List Held) (n : ℕ) : Type 0 where
  pub are : entries s ≡ es
  pub room_is : room s ≡ n
