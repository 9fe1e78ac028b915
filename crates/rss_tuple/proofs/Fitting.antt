-- A body that isn't longer than the one in whose place it is put: it fits where that one stood.
use Rattle.std.proofs.Common.{◌≡◌, inl, inr, ℕ, ◌<◌, ◌≤◌, List, Option, Some, length, refl, sym, ◌∙◌, ap, subst}
use Rattle.std.specs.Prelude.{is_some}
use Rattle.std.proofs.lemmas.Bool.{cases_lt}
use Rattle.rss_base.specs.DiskRule.{IsTold}
use Rattle.rss_base.specs.Paged.{page_key}
use Rattle.rss_base.specs.Steps.{PagesView, no_page}
use Rattle.rss_base.specs.declared.key.PageKey.{PageKey}
use Rattle.rss_base.specs.declared.key.Space.TheVariants.{Home, Overflow}
use Rattle.rss_base.specs.declared.tid.Tid.{Tid}
use Rattle.rss_page.specs.Content.{Content, Empty, Here, Forward}
use Rattle.rss_page.specs.Slotted.{entries, HasRoom, IsHeapKey}
use Rattle.rss_page.specs.Surveyed.{held_at}
use Rattle.rss_tuple.specs.Directory.{contents_in, contents, content_at, homes, overflows, body_in, body_by}
use Rattle.rss_tuple.specs.Heaps.{AreFormed, AreHeaps}
use Rattle.rss_tuple.specs.TupleSteps.{tuples_in}
use Rattle.rss_tuple.specs.Placing.{FitsHome, NeverFitsAway, TakesOnly, TakesOne, home, overflow}
use Rattle.rss_tuple.specs.Calls.{HasTuple, IsNoLonger}
use Rattle.rss_tuple.proofs.Seen.{some_there, high_empty}
use Rattle.rss_tuple.proofs.Spots.{the_bytes}
use Rattle.rss_tuple.proofs.Placed.{mapped_there}
use Rattle.rss_tuple.proofs.Changes.{entry_there, fits_again}

here_some : (content : Content) (body : List ℕ) → content ≡ Here body → content ≡ Empty → ⊥
here_some content body here is = let never : Here body ≡ Empty = sym here ∙ is in absurd (cc)

low_there : (view : PagesView) (key : PageKey) (slot : ℕ) (body : List ℕ) → content_at view.held key slot ≡ Here body → slot < 128
low_there view key slot body here = elim (cases_lt slot 128) [
  | inl low ↦ low
  | inr high ↦ absurd (here_some _ body here (high_empty view.held key slot high))
]

fits_there : (view : PagesView) (key : PageKey) (slot count : ℕ) (body : List ℕ) → AreFormed view → IsHeapKey key → content_at view.held key slot ≡ Here body → count ≤ length body → HasRoom (contents view.held key) slot count
fits_there view key slot count body formed heap here few =
    let there = the_bytes (view.held key) (some_there view.held key slot (here_some _ body here)) in
    let stands : held_at (entries there.0) slot ≡ Here body = sym (ap (λ (p : Option (List ℕ)). held_at (contents_in p) slot) there.1) ∙ here in
    subst (λ (p : Option (List ℕ)). HasRoom (contents_in p) slot count) (sym there.1) (fits_again there.0 slot count body (formed key there.0 heap there.1).formed.slotted (low_there view key slot body here) stands few)

here_body : (content : Content) (body : List ℕ) → body_in content ≡ Some body → content ≡ Here body
here_body Empty body is = absurd (cc)
here_body (Here other) body is = cc
here_body (Forward page slot) body is = absurd (cc)

fits_again_there : (view : PagesView) (segment : ℕ) (tid : Tid) (count : ℕ) (body : List ℕ) (content : Content) → AreHeaps view → homes view.held segment tid.page tid.slot ≡ content → body_by (overflows view.held segment) content ≡ Some body → count ≤ length body → (FitsHome view segment tid count → ⊥) → NeverFitsAway view segment tid count → ⊥
fits_again_there view segment tid count body Empty are stands is few full away = absurd (cc)
fits_again_there view segment tid count body (Here other) are stands is few full away =
    let same : other ≡ body = cc in
    full (fits_there view (page_key segment Home tid.page) tid.slot count body are.formed (inl refl) (stands ∙ ap Here same) few)
fits_again_there view segment tid count body (Forward page slot) are stands is few full away =
    away page slot (record {
      leads = stands;
      room = fits_there view (page_key segment Overflow page) slot count body are.formed (inr refl) (here_body _ body is) few;
    })

-- so no page is taken for it
pub takes_no_page : (view new : PagesView) (segment : ℕ) (tid : Tid) (body : List ℕ) → HasTuple (tuples_in view) segment tid → ((key : PageKey) → is_some (view.held key) ≡ view.mapped key) → IsTold view.disk → IsNoLonger (tuples_in view) segment tid (length body) → TakesOne segment tid body view new → TakesOnly no_page view new
takes_no_page view new segment tid body has holds told few takes = record {
  each = λ key is. elim ((takes.may told).each key is) [
    | inl there ↦ inl there
    | inr may ↦ elim may [
      | home at none ↦ inl (mapped_there view key (page_key segment Home tid.page) tid.slot at (holds (page_key segment Home tid.page)) (entry_there view segment tid has told))
      | overflow at full away none ↦ absurd (fits_again_there view segment tid (length body) few.bytes _ (has.heaps told) refl few.body few.most full away)
    ]
  ];
}
