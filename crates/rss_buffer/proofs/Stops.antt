-- What a stop leaves of pages that are saved.
use Rattle.std.proofs.Common.{◌≡◌, ◌≢◌, ◌⊎◌, inl, inr, ⊎_elim, ℕ, ◌+◌, ◌-◌, ◌<◌, ◌≤◌, true, false, not, List, [], length, set, Option, Some, refl, sym, ◌∙◌, ap, subst, arith, length-set, get_or-set_other}
use Rattle.std.specs.Prelude.{is_some}
use Rattle.std.proofs.lemmas.Bool.{cases_eq, cases_lt, and_parts, leb-true, cond-false, false_from_ne_true, true≢false}
use Rattle.std.proofs.lemmas.Nat.{row_fits}
use Rattle.rss_base.specs.DiskRule.{Disk, Pages, page, Leaves, SameOff, IsAt, IsWithin}
use Rattle.rss_base.specs.Layout.{map_pages, map_at, slots_at, selected, selected_by, root_page, IsWellFormed}
use Rattle.rss_base.specs.PageMap.{owner_of}
use Rattle.rss_base.specs.Paged.{Held, HasFixed}
use Rattle.rss_base.specs.StoredPages.{SavesPages, HoldsPages}
use Rattle.rss_base.specs.declared.root.Root.{Root}
use Rattle.rss_base.specs.declared.key.PageKey.{PageKey}
use Rattle.rss_root.specs.Roots.{IsPhase}
use Rattle.rss_buffer.specs.Slots.{is_loose, fixed_by}
use Rattle.rss_buffer.specs.Buffered.{IsLoose}
use Rattle.rss_buffer.specs.Saved.{IsSaveable}
use Rattle.rss_buffer.proofs.Elsewhere.{below_slots, above_roots}
use Rattle.rss_buffer.proofs.Saves.{same_saves, holds_pages}

-- ---- where the pages of a map stand

-- beside the selector they use the selected root, the map area that it names, and the slots of the owners
data IsUsed (number : ℕ) (root : Root) (owners : List (Option PageKey)) (q : ℕ) : Type 0 where
  as_root : q ≡ number → IsUsed number root owners q
  as_map : IsWithin (map_at (length owners) root.area) (map_pages (length owners)) q → IsUsed number root owners q
  as_slot : (slot : ℕ) (key : PageKey) → owner_of owners slot ≡ Some key → q ≡ slots_at (length owners) root.log_pages + slot → IsUsed number root owners q

-- pages that are the same there, as many, and select the same root hold the same pages
same_holds : {before image : Pages} {number : ℕ} {root : Root} {owners : List (Option PageKey)} {held : Held} → HoldsPages before number root owners held → number ≡ selected image → length image ≡ length before → ((q : ℕ) → IsUsed number root owners q → page image q ≡ page before q) → HoldsPages image number root owners held
same_holds {before = before} {image = image} {number = number} {root = root} {owners = owners} {held = held} holds selects size same = record {
  root_there = record {
    selects = selects;
    there = record {
      spelled = ap (page image) (sym selects) ∙ same number (as_root refl) ∙ ap (page before) holds.root_there.selects ∙ holds.root_there.there.spelled;
      formed = holds.root_there.there.formed;
    };
    size = size ∙ holds.root_there.size;
  };
  count = holds.count;
  saved = same_saves root.log_pages root.area owners held before image (λ q within. same q (as_map within)) (λ slot key owned. same _ (as_slot slot key owned refl)) holds.saved;
}

-- ---- places that they don't use

used_rooted : {number : ℕ} {root : Root} {owners : List (Option PageKey)} (q : ℕ) → IsUsed number root owners q → (q ≡ number) ⊎ (3 ≤ q)
used_rooted q (as_root is) = inl is
used_rooted q (as_map within) = inr (omega (arith, within.0))
used_rooted q (as_slot slot key owned is) = inr (omega (arith, is))

loose_past : (first : ℕ) (owners : List (Option PageKey)) (q : ℕ) → IsLoose first owners q → first ≤ q
loose_past first owners q loose = leb-true first q (and_parts _ _ loose).0

used_fixed : {number : ℕ} {root : Root} {owners : List (Option PageKey)} (first q : ℕ) → first ≡ slots_at (length owners) root.log_pages → number < 3 → root.area < 2 → IsUsed number root owners q → IsLoose first owners q → ⊥
used_fixed {owners = owners} first q place low two (as_root is) loose = omega (arith, is, place, loose_past first owners q loose)
used_fixed {root = root} {owners = owners} first q place low two (as_map within) loose = omega (arith, below_slots (length owners) root.log_pages root.area first q two place within, loose_past first owners q loose)
used_fixed {owners = owners} first q place low two (as_slot slot key owned is) loose =
    let at : q - first ≡ slot = omega (arith, is, place) in
    let free : not (is_some (owner_of owners slot)) ≡ true = sym (ap (λ (s : ℕ). not (is_some (owner_of owners s))) at) ∙ (and_parts _ _ loose).1 in
    let taken : not (is_some (owner_of owners slot)) ≡ false = ap (λ (o : Option PageKey). not (is_some o)) owned in
    true≢false (sym free ∙ taken)

-- the areas are apart
areas_apart : (slots a b q : ℕ) → a < b → IsWithin (map_at slots a) (map_pages slots) q → IsWithin (map_at slots b) (map_pages slots) q → ⊥
areas_apart slots a b q lt in_a in_b = omega (arith, in_a.1, in_b.0, row_fits a (map_pages slots) b (map_pages slots) lt (omega arith))

used_outside : {number : ℕ} {root : Root} {owners : List (Option PageKey)} (area q : ℕ) → number < 3 → area < 2 → area ≢ root.area → IsUsed number root owners q → IsWithin (map_at (length owners) area) (map_pages (length owners)) q → ⊥
used_outside {owners = owners} area q low two other (as_root is) within = omega (arith, is, within.0)
used_outside {root = root} {owners = owners} area q low two other (as_map here) within = elim (cases_lt area root.area) [
  | inl below ↦ areas_apart (length owners) area root.area q below within here
  | inr past ↦ areas_apart (length owners) root.area area q (omega (arith, other)) here within
]
used_outside {root = root} {owners = owners} area q low two other (as_slot slot key owned is) within = omega (arith, is, below_slots (length owners) root.log_pages area (slots_at (length owners) root.log_pages) q two refl within)

-- ---- what a stop leaves

-- where what is fixed stands
pub fixed_holds : {pages image : Pages} {number : ℕ} {root : Root} {owners : List (Option PageKey)} {held : Held} → HoldsPages pages number root owners held → HasFixed (fixed_by (slots_at root.slots root.log_pages) owners (Some pages)) image → HoldsPages image number root owners held
fixed_holds {pages = pages} {image = image} {number = number} {root = root} {owners = owners} holds fixed =
    let first = slots_at root.slots root.log_pages in
    let place : first ≡ slots_at (length owners) root.log_pages = ap (λ (n : ℕ). slots_at n root.log_pages) (sym holds.count) in
    let same : (q : ℕ) → (IsLoose first owners q → ⊥) → page image q ≡ page pages q = λ q off. fixed.pages q (page pages q) (cond-false _ _ _ (false_from_ne_true (is_loose first owners q) off)) in
    let selects = holds.root_there.selects ∙ ap selected_by (sym (same 0 (λ loose. omega (arith, loose_past first owners 0 loose)))) in
    same_holds holds selects fixed.size (λ q used. same q (used_fixed first q place (omega (arith, holds.root_there.selects)) holds.root_there.there.formed.area used))

-- while others are saved to the other area
pub saving_holds : (area : ℕ) {before image : Pages} {number : ℕ} {root : Root} {owners : List (Option PageKey)} {held : Held} → HoldsPages before number root owners held → area < 2 → area ≢ root.area → SameOff (IsSaveable (slots_at root.slots root.log_pages) area owners) before image → HoldsPages image number root owners held
saving_holds area {number = number} {root = root} {owners = owners} holds two other saved =
    let first = slots_at root.slots root.log_pages in
    let place : first ≡ slots_at (length owners) root.log_pages = ap (λ (n : ℕ). slots_at n root.log_pages) (sym holds.count) in
    let low : number < 3 = omega (arith, holds.root_there.selects) in
    let selects = holds.root_there.selects ∙ ap selected_by (sym (saved.others 0 (⊎_elim (λ loose. omega (arith, loose_past first owners 0 loose)) (above_roots (length owners) area 0 (omega arith))))) in
    same_holds holds selects saved.size (λ q used. saved.others q (⊎_elim (used_fixed first q place low holds.root_there.there.formed.area used) (used_outside area q low two other used)))

-- one of the selector and the roots is written, and the same root selected
same_root : {before image : Pages} {number : ℕ} {root : Root} {owners : List (Option PageKey)} {held : Held} (at : ℕ) → at < 3 → at ≢ number → HoldsPages before number root owners held → number ≡ selected image → SameOff (IsAt at) before image → HoldsPages image number root owners held
same_root at low off holds selects same = same_holds holds selects same.size (λ q used. same.others q (λ is. ⊎_elim (λ here. off (sym is ∙ here)) (λ past. omega (arith, past, is)) (used_rooted q used)))

-- the other root is written
pub other_root : {before image : Pages} {number : ℕ} {root : Root} {owners : List (Option PageKey)} {held : Held} → HoldsPages before number root owners held → SameOff (IsAt (3 - number)) before image → HoldsPages image number root owners held
other_root {number = number} holds same =
    let named = holds.root_there.selects in
    same_root (3 - number) (omega (arith, named)) (omega (arith, named)) holds (named ∙ ap selected_by (sym (same.others 0 (omega (arith, named))))) same

-- while the root of those is put in place and selected
pub switching_holds : (old : Disk) {pages image : Pages} {number : ℕ} {root next : Root} {owners owners_next : List (Option PageKey)} {held held_next : Held} → ((left : Pages) → Leaves old left → HoldsPages left number root owners held) → HoldsPages pages number root owners held → SavesPages root.log_pages next.area pages owners_next held_next
    → length owners_next ≡ root.slots → next.slots ≡ root.slots → next.log_pages ≡ root.log_pages → IsWellFormed next → IsPhase old pages (3 - number) (root_page next) image → HoldsPages image number root owners held ⊎ HoldsPages image (3 - number) next owners_next held_next
switching_holds old leaves holds saves count slots log_pages formed (inl torn) = inl (other_root (leaves torn.before torn.was) torn.same)
switching_holds old {pages = pages} {image = image} {number = number} {next = next} {owners_next = owners_next} {held_next = held_next} leaves holds saves count slots log_pages formed (inr same) =
    let named = holds.root_there.selects in
    let rooted : Pages = set pages (3 - number) (root_page next) in
    elim (cases_eq (selected image) number) [
      | inl is ↦ inl (same_root 0 (omega arith) (omega (arith, named)) (other_root holds (record { size = length-set pages (3 - number) (root_page next); others = λ q off. get_or-set_other pages (3 - number) q (root_page next) [] off })) (sym is) same)
      | inr off ↦
          let now : selected image ≡ 3 - number = omega (arith, named, off) in
          let saves_next = subst (λ (n : ℕ). SavesPages n next.area pages owners_next held_next) (sym log_pages) saves in
          let switched = holds_pages pages (3 - number) next (page image 0) owners_next held_next (omega (arith, named)) (omega (arith, named)) now formed (count ∙ sym slots) (omega (arith, holds.root_there.size, slots, log_pages)) saves_next in
          inr (same_root 0 (omega arith) (omega (arith, named)) switched (sym now) (record { size = same.size ∙ sym (length-set rooted 0 (page image 0)); others = λ q off. same.others q off ∙ sym (get_or-set_other rooted 0 q (page image 0) [] off) }))
    ]
