-- Pages that hold the same in home and overflow pages have the same tuples.
use Rattle.std.proofs.Common.{◌≡◌, ℕ, inl, inr, refl, sym, ◌∙◌, ap, subst}
use Rattle.std.specs.Prelude.{Option, List}
use Rattle.std.proofs.Math.Path.{fun_ext}
use Rattle.rss_base.specs.Paged.{Held, page_key}
use Rattle.rss_base.specs.Steps.{PagesView}
use Rattle.rss_base.specs.declared.key.Space.TheVariants.{Home, Overflow}
use Rattle.rss_base.specs.declared.key.PageKey.{PageKey}
use Rattle.rss_page.specs.Slotted.{IsHeapKey}
use Rattle.rss_page.specs.Surveyed.{held_at}
use Rattle.rss_tuple.specs.Directory.{bodies_of, body_by, contents_in, homes, overflows, Entries}
use Rattle.rss_tuple.specs.Heaps.{IsHeap, AreLinked, AreHeaps}

-- the home and overflow pages hold the same
abbrev pub SameHeaps : (old new : Held) → Type 0
SameHeaps old new = (key : PageKey) → IsHeapKey key → new key ≡ old key

module _ {old new : Held} (same : SameHeaps old new) where
  homes_same : (segment : ℕ) → homes new segment ≡ homes old segment
  homes_same segment = fun_ext (λ page. fun_ext (λ slot. ap (λ (b : Option (List ℕ)). held_at (contents_in b) slot) (same (page_key segment Home page) (inl refl))))

  overflows_same : (segment : ℕ) → overflows new segment ≡ overflows old segment
  overflows_same segment = fun_ext (λ page. fun_ext (λ slot. ap (λ (b : Option (List ℕ)). held_at (contents_in b) slot) (same (page_key segment Overflow page) (inr refl))))

  pub bodies_alike : bodies_of new ≡ bodies_of old
  bodies_alike = fun_ext (λ segment. fun_ext (λ tid. λ i. body_by (overflows_same segment i) (homes_same segment i tid.page tid.slot)))

  pub linked_alike : (segment : ℕ) → AreLinked (homes old segment) (overflows old segment) → AreLinked (homes new segment) (overflows new segment)
  linked_alike segment linked = subst (λ (o : Entries). AreLinked (homes new segment) o) (sym (overflows_same segment)) (subst (λ (h : Entries). AreLinked h (overflows old segment)) (sym (homes_same segment)) linked)

-- with the same notes, those of a tuple store are still such
pub heaps_alike : {old new : PagesView} → SameHeaps old.held new.held → ((key : PageKey) → IsHeapKey key → new.notes key ≡ old.notes key) → AreHeaps old → AreHeaps new
heaps_alike {old = old} {new = new} same notes heaps = record {
  formed = λ key bytes heap is. subst (IsHeap key bytes) (sym (notes key heap)) (heaps.formed key bytes heap (sym (same key heap) ∙ is));
  linked = λ segment. linked_alike same segment (heaps.linked segment);
}
