-- A page whose entries are all empty.
use Rattle.std.proofs.Common.{◌≡◌, inl, inr, ℕ, ◌+◌, ◌*◌, ◌<◌, ◌≤◌, List, length, replicate, get_or, refl, sym, ◌∙◌, ap, subst, arith}
use Rattle.std.proofs.lemmas.List.{length-replicate, get_or-replicate}
use Rattle.rss_page.specs.declared.entry_form.Entry.{Entry}
use Rattle.rss_page.specs.declared.entry_form.Entry.TheVariants.{Empty as EmptyEntry}
use Rattle.rss_page.specs.Content.{Empty}
use Rattle.rss_page.specs.Slotted.{part, put, entry_from, entry_at, entry_of, content_of, entries, place_of, length_of, IsInBody, IsEntry, IsSlotted, Becomes, EndBy, IsWellFormed, IsHeapKey, header_bytes}
use Rattle.rss_base.specs.declared.key.PageKey.{PageKey}
use Rattle.rss_page.proofs.Parts.{length-put, part_put, part_kept, part_inside, part_zeros}
use Rattle.rss_page.proofs.Contents.{entries_are}

-- each entry is zeros
abbrev pub AreZeros : List ℕ → Type 0
AreZeros page = (slot : ℕ) → slot < 128 → entry_at page slot ≡ replicate 8 0

is_empty : (page : List ℕ) → AreZeros page → (slot : ℕ) → slot < 128 → entry_of page slot ≡ EmptyEntry
is_empty page each slot low = ap entry_from (each slot low)

pub empty_slotted : (page : List ℕ) → length page ≡ 4096 → AreZeros page → IsSlotted page
empty_slotted page size each = record {
  size = size;
  spelled = λ slot low. subst (IsEntry (get_or page 0 0)) (sym (each slot low)) (record { spelled = refl; allowed = tt });
  apart = λ a b byte a_low b_low in_a in_b. absurd (nothing (subst (λ (e : Entry). IsInBody e byte) (is_empty page each a a_low) in_a));
}
  where
    nothing : {byte : ℕ} → IsInBody EmptyEntry byte → ⊥
    nothing has = omega (arith, has.high)

pub empty_entries : (page : List ℕ) → AreZeros page → entries page ≡ replicate 128 Empty
empty_entries page each = entries_are page (replicate 128 Empty) (length-replicate 128 Empty) (λ slot low. ap (content_of page) (is_empty page each slot low) ∙ sym (get_or-replicate 128 slot Empty Empty low))

pub empty_ends : (page : List ℕ) → AreZeros page → EndBy page 1040
empty_ends page each slot low = subst (λ (e : Entry). place_of e + length_of e ≤ 1040) (sym (is_empty page each slot low)) (omega arith)

-- a page whose directory was written with zeros
pub cleared_zeros : (page zeros : List ℕ) → length page ≡ 4096 → zeros ≡ replicate 1024 0 → AreZeros (put page 16 zeros)
cleared_zeros page zeros size are slot low =
    let long : length zeros ≡ 1024 = ap (λ (l : List ℕ). length l) are ∙ length-replicate {A = ℕ} 1024 0 in
    part_inside page 16 zeros (8 * slot) 8 (omega arith) (omega arith) ∙ ap (λ (l : List ℕ). part l (8 * slot) 8) are ∙ part_zeros 1024 (8 * slot) 8 (omega arith)

pub cleared : (page zeros : List ℕ) → IsSlotted page → zeros ≡ replicate 1024 0 → Becomes page (put page 16 zeros) (replicate 128 Empty)
cleared page zeros is are =
    let long : length zeros ≡ 1024 = ap (λ (l : List ℕ). length l) are ∙ length-replicate {A = ℕ} 1024 0 in
    let size = is.size in
    let each = cleared_zeros page zeros is.size are in
    let header : part (put page 16 zeros) 0 16 ≡ part page 0 16 = part_kept page 16 zeros 0 16 (omega arith) (inl (omega arith)) in
    let slotted : IsSlotted (put page 16 zeros) = empty_slotted (put page 16 zeros) (length-put page 16 zeros (omega arith) ∙ is.size) each in
    record {
      header = header;
      slotted = slotted;
      holds = empty_entries (put page 16 zeros) each;
      formed = λ key was. record { space = was.space; header = header ∙ was.header; slotted = slotted };
    }

-- a new page: a header and zeros
pub new_zeros : (page header : List ℕ) → page ≡ put (replicate 4096 0) 0 header → length header ≡ 16 → AreZeros page
new_zeros page header is long slot low =
    let size = length-replicate {A = ℕ} 4096 0 in
    ap (λ (l : List ℕ). entry_at l slot) is ∙ part_kept (replicate 4096 0) 0 header (16 + 8 * slot) 8 (omega arith) (inr (omega arith)) ∙ part_zeros 4096 (16 + 8 * slot) 8 (omega arith)

pub new_formed : (key : PageKey) (page header : List ℕ) → IsHeapKey key → page ≡ put (replicate 4096 0) 0 header → header ≡ header_bytes key → length header ≡ 16 → IsWellFormed key page
new_formed key page header heap is spelled long =
    let size = length-replicate {A = ℕ} 4096 0 in
    record {
      space = heap;
      header = ap (λ (l : List ℕ). part l 0 16) is ∙ ap (λ (n : ℕ). part (put (replicate 4096 0) 0 header) 0 n) (sym long) ∙ part_put (replicate 4096 0) 0 header (omega arith) ∙ spelled;
      slotted = empty_slotted page (ap (λ (l : List ℕ). length l) is ∙ length-put (replicate 4096 0) 0 header (omega arith) ∙ size) (new_zeros page header is long);
    }
