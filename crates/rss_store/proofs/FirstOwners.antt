-- The owners of an empty store's slots.
use Rattle.std.proofs.Common.{◌≡◌, inl, inr, ℕ, suc, ◌+◌, ◌-◌, ◌<◌, ◌≤◌, List, [], ◌∷◌, ◌++◌, length, map, set, replicate, Option, Some, None, sym, ◌∙◌, ap, arith, append_assoc, length-append}
use Rattle.std.specs.List.{range_with_len}
use Rattle.std.proofs.lemmas.Bool.{cases_lt}
use Rattle.std.proofs.lemmas.List.{get_or_append_left, get_or-append_right, get_or_past, get_or-replicate, length-replicate}
use Rattle.std.proofs.lemmas.List.FromFn.{length-map-range_with_len, get_or-map-range_with_len, map-range_with_len_more}
use Rattle.std.proofs.lemmas.Option.{same_Some, none-some}
use Rattle.std.proofs.Math.Seq.{set-append_seam}
use Rattle.rss_base.specs.PageMap.{owner_of}
use Rattle.rss_base.specs.Paged.{page_key}
use Rattle.rss_base.specs.declared.key.Space.TheVariants.{System}
use Rattle.rss_base.specs.declared.key.PageKey.{PageKey}
use Rattle.rss_store.specs.Formatted.{system_owners}

abbrev system_page : ℕ → Option PageKey
system_page number = Some (page_key 0 System number)

abbrev front : ℕ → List (Option PageKey)
front count = map system_page (range_with_len 0 count)

front_length : (count : ℕ) → length (front count) ≡ count
front_length count = length-map-range_with_len system_page 0 count

pub owners_length : (slots count : ℕ) → count ≤ slots → length (system_owners slots count) ≡ slots
owners_length slots count few =
    let behind : length (replicate {A = Option PageKey} (slots - count) None) ≡ slots - count = length-replicate (slots - count) None in
    omega (arith, length-append (front count) (replicate (slots - count) None), front_length count, behind)

-- a slot with a page of the system space
pub owner_first : (slots count s : ℕ) → s < count → owner_of (system_owners slots count) s ≡ Some (page_key 0 System s)
owner_first slots count s lt =
    get_or_append_left (front count) (replicate (slots - count) None) None s (omega (arith, front_length count))
    ∙ get_or-map-range_with_len system_page 0 count s s None lt (omega arith)

-- a free one
all_none : (n s : ℕ) → owner_of (replicate n None) s ≡ None
all_none n s = elim (cases_lt s n) [
  | inl within ↦ get_or-replicate n s None None within
  | inr past ↦ get_or_past (replicate n None) s None (omega (arith, length-replicate {A = Option PageKey} n None))
]

pub owner_none : (slots count s : ℕ) → count ≤ s → owner_of (system_owners slots count) s ≡ None
owner_none slots count s past = get_or-append_right (front count) (replicate (slots - count) None) count s None (front_length count) past ∙ all_none (slots - count) (s - count)

-- which page a slot has
pub record IsSystemSlot (count s : ℕ) (key : PageKey) : Type 0 where
  pub within : s < count
  pub page : key ≡ page_key 0 System s

pub owner_is : (slots count s : ℕ) (key : PageKey) → owner_of (system_owners slots count) s ≡ Some key → IsSystemSlot count s key
owner_is slots count s key is = elim (cases_lt s count) [
  | inl lt ↦ record { within = lt; page = same_Some key (page_key 0 System s) (sym is ∙ owner_first slots count s lt) }
  | inr past ↦ absurd (none-some key (sym (owner_none slots count s past) ∙ is))
]

-- the next page gets its slot
pub owners_more : (slots count : ℕ) → count < slots → set (system_owners slots count) count (Some (page_key 0 System count)) ≡ system_owners slots (count + 1)
owners_more slots count few =
    let rest : List (Option PageKey) = replicate (slots - (count + 1)) None in
    let left : slots - count ≡ suc (slots - (count + 1)) = omega arith in
    let next : replicate (slots - count) None ≡ None ∷ rest = ap (λ (n : ℕ). replicate n None) left in
    ap (λ (l : List (Option PageKey)). set (front count ++ l) count (system_page count)) next
    ∙ ap (λ (n : ℕ). set (front count ++ None ∷ rest) n (system_page count)) (sym (front_length count))
    ∙ set-append_seam (front count) None rest (system_page count)
    ∙ sym (append_assoc (front count) (system_page count ∷ []) rest)
    ∙ ap (λ (l : List (Option PageKey)). l ++ rest) (sym (map-range_with_len_more system_page 0 count count (omega arith)))
