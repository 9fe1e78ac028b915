-- What one walk over the directory of a page finds.
use Rattle.std.specs.Prelude.{◌≡◌, ◌↔◌, ℕ, ◌+◌, ◌<◌, ◌≤◌, max, Bool, true, false, ◌&&◌, if◌then◌else◌, List, length as count, slice_index_or, Some, unwrap_or, IsTrue, MatchOption}
use Rattle.rss_base.specs.Sizes.{page_entries, page_bytes, bodies_room}
use Rattle.rss_page.specs.declared.entry_form.Entry.{Entry}
use Rattle.rss_page.specs.declared.entry_form.Entry.TheVariants.{Empty as EmptyEntry, Here as HereEntry, Forward as ForwardEntry}
use Rattle.rss_page.specs.declared.surveying.Survey.{Survey}
use Rattle.rss_page.specs.Content.{Content, Empty, Here}
use Rattle.rss_page.specs.Slotted.{bodies_at, entries, entry_of, body_bytes, place_of, length_of, IsSlotted, EndBy, OthersBeside}

-- what the entry of a slot holds
abbrev pub held_at : List Content → ℕ → Content
held_at contents slot = slice_index_or contents slot Empty

-- the entries of the first slots are not empty
abbrev pub AllTaken : List Content → ℕ → Type 0
AllTaken contents count = (slot : ℕ) → slot < count → held_at contents slot ≡ Empty → ⊥

-- the least slot whose entry is empty
pub record IsFirstEmpty (contents : List Content) (slot : ℕ) : Type 0 where
  pub low : slot < page_entries
  pub empty : held_at contents slot ≡ Empty
  pub lesser : AllTaken contents slot

-- no entry holds anything
abbrev pub IsVacant : List Content → Type 0
IsVacant contents = (slot : ℕ) → held_at contents slot ≡ Empty

-- The free bytes are those of the 3,056 that no body has. All bodies end where the last one does, and no earlier place will do.
pub record IsSurvey (page : List ℕ) (survey : Survey) : Type 0 where
  pub free : survey.free + body_bytes (entries page) ≡ bodies_room
  pub low : bodies_at ≤ survey.end
  pub high : survey.end ≤ page_bytes
  pub ends : EndBy page survey.end
  pub least : (end : ℕ) → bodies_at ≤ end → EndBy page end → survey.end ≤ end
  pub empty : MatchOption survey.first_empty (AllTaken (entries page) page_entries) (IsFirstEmpty (entries page))
  pub vacant : IsTrue survey.is_vacant ↔ IsVacant (entries page)

-- The entry of a slot has a body of so many bytes or more, and in a page no other body has any of them from this place on.
pub record IsOwnPlace (page : List ℕ) (slot length place : ℕ) : Type 0 where
  pub body : List ℕ
  pub here : held_at (entries page) slot ≡ Here body
  pub long : length ≤ count body
  pub beside : IsSlotted page → OthersBeside page slot place length

-- in a page, the entry of a slot has no body of so many bytes or more
abbrev pub HasNoneAsLong : List ℕ → ℕ → ℕ → Type 0
HasNoneAsLong page slot length = IsSlotted page → (body : List ℕ) → held_at (entries page) slot ≡ Here body → length ≤ count body → ⊥

-- ---- the order of bodies

-- the body, if there is one, begins at this place or behind it
abbrev pub StandsFrom : ℕ → Entry → Type 0
StandsFrom from EmptyEntry = Unit {0}
StandsFrom from (HereEntry place length) = from ≤ place
StandsFrom from (ForwardEntry page slot) = Unit {0}

-- a page, in which each body stands behind those of all lower slots
pub record IsOrdered (page : List ℕ) : Type 0 where
  pub slotted : IsSlotted page
  pub order : (low high : ℕ) → low < high → high < page_entries → StandsFrom (place_of (entry_of page low) + length_of (entry_of page low)) (entry_of page high)

-- ---- the walk

-- the entry holds nothing
abbrev pub is_empty : Entry → Bool
is_empty EmptyEntry = true
is_empty (HereEntry place length) = false
is_empty (ForwardEntry page slot) = false

-- The walk goes on with the entry of the next slot: its body is no longer free, and if it is empty, it is the least one where there was none.
pub record GoesOnWith (slot : ℕ) (entry : Entry) (old new : Survey) : Type 0 where
  pub free : new.free + length_of entry ≡ old.free
  pub end : new.end ≡ max old.end (place_of entry + length_of entry)
  pub first : new.first_empty ≡ (if is_empty entry then Some (unwrap_or old.first_empty slot) else old.first_empty)
  pub vacant : new.is_vacant ≡ is_empty entry && old.is_vacant
