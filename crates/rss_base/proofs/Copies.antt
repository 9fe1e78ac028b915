-- Bytes that are copied into a page.
use Rattle.std.proofs.Common.{◌≡◌, ℕ, ◌+◌, ◌≤◌, List, ◌++◌, length, take, drop, Some, None, sym, ◌∙◌, ap, arith}
use Rattle.std.specs.List.{slice_range}
use borrow.Rule.Slice.PartMut.{put_mid}
use Rattle.std.proofs.lemmas.List.{drop-drop, length-take, length-drop}
use Rattle.std.proofs.lemmas.Option.{same_Some}
use Rattle.rss_base.specs.DiskRule.{IsTold}
use Rattle.rss_base.specs.Notes.{Noted, with_note}
use Rattle.rss_base.specs.Paged.{Held, with_page}
use Rattle.rss_base.specs.Steps.{PagesView, PagesStep, WritesPage, CopiesBytes, no_page, with_bytes}
use Rattle.rss_base.specs.declared.key.PageKey.{PageKey}
use Rattle.rss_base.proofs.Steps.{all_mapped, all_held, all_notes}

pub length-range : (xs : List ℕ) (at count : ℕ) → at + count ≤ length xs → length (slice_range xs at (at + count)) ≡ count
length-range xs at count within = simp (length-take, length-drop) (omega (arith, within))

pub put_bytes : (at k : ℕ) (page ys bytes : List ℕ) → ys ≡ bytes → length bytes ≡ k → put_mid at k page ys ≡ with_bytes page at bytes
put_bytes at k page ys bytes same long = λ i. take at page ++ (same i ++ (drop-drop k at page ∙ ap (λ m. drop (at + m) page) (sym long)) i)

-- a page is written, with bytes that another one holds
pub copies_page : {from to : PageKey} {from_at to_at count : ℕ} {old new : PagesView} (source page : List ℕ) → (IsTold old.disk → old.held from ≡ Some source) → (IsTold old.disk → old.held to ≡ Some page)
    → WritesPage to (with_bytes page to_at (slice_range source from_at (from_at + count))) old new → CopiesBytes from from_at to to_at count old new
copies_page {to = to} {from_at = from_at} {to_at = to_at} {count = count} {old = old} source page is_source is_page wrote = record {
  mapped = wrote.mapped;
  held = λ told other_source other_page has_source has_page.
      let here : source ≡ other_source = same_Some _ _ (sym (is_source told) ∙ has_source) in
      let there : page ≡ other_page = same_Some _ _ (sym (is_page told) ∙ has_page) in
      wrote.held told ∙ (λ i. with_page old.held to (Some (with_bytes (there i) to_at (slice_range (here i) from_at (from_at + count)))));
  notes = wrote.notes;
}

-- bytes are copied, after calls that touch no page
pub copies_after : {from to : PageKey} {from_at to_at count asks outs : ℕ} {old mid new : PagesView} → PagesStep no_page asks outs old mid → CopiesBytes from from_at to to_at count mid new → CopiesBytes from from_at to to_at count old new
copies_after {from = from} {to = to} {from_at = from_at} {to_at = to_at} {count = count} step copies = record {
  mapped = copies.mapped ∙ all_mapped step;
  held = λ told source page is_source is_page.
      let held = all_held step told in
      copies.held (step.passes.leaves.told.0 told) source page (ap (λ (h : Held). h from) held ∙ is_source) (ap (λ (h : Held). h to) held ∙ is_page)
      ∙ ap (λ (h : Held). with_page h to (Some (with_bytes page to_at (slice_range source from_at (from_at + count))))) held;
  notes = copies.notes ∙ ap (λ (n : Noted). with_note n to None) (all_notes step);
}
