-- What there is to see of tuples, and what a call on them passes on, whatever it does.
use Rattle.std.specs.Prelude.{◌≡◌, ◌⊎◌, ℕ, Result, OnOk, IsSome}
use Rattle.rss_base.specs.DiskRule.{IsTold}
use Rattle.rss_base.specs.Paged.{page_key}
use Rattle.rss_base.specs.Steps.{PagesView, Keys, PagesCall, pages_in}
use Rattle.rss_base.specs.Tids.{IsBelow}
use Rattle.rss_base.specs.declared.tid.Tid.{Tid}
use Rattle.rss_base.specs.declared.fault.PageFault.{PageFault}
use Rattle.rss_base.specs.declared.key.Space.TheVariants.{Home, Overflow}
use Rattle.rss_tuple.specs.Directory.{Bodies, bodies_of}
use Rattle.rss_tuple.specs.Heaps.{AreHeaps}

-- The pages below, and where the device tells its contents the body at each identifier.
pub record TuplesView : Type 1 where
  pub pages : PagesView
  pub bodies : Bodies

-- the tuples that stand in pages
abbrev pub tuples_in : PagesView → TuplesView
tuples_in pages = record { pages = pages; bodies = bodies_of pages.held }

-- ---- sets of tuples and of pages

abbrev pub Tuples : Type 1
Tuples = ℕ → Tid → Type 0

abbrev pub no_tuple : Tuples
no_tuple segment tid = ⊥

abbrev pub only_tuple : ℕ → Tid → Tuples
only_tuple segment tid other_segment other = (other_segment ≡ segment) × (other ≡ tid)

-- the pages that a tuple may have: its home page, and the overflow pages of its segment
abbrev pub pages_for : ℕ → Tid → Keys
pages_for segment tid key = (key ≡ page_key segment Home tid.page) ⊎ pages_in segment Overflow key

-- ---- what each call passes on

-- A call touched no pages but these; so many it asked for at most, and as many may have left memory. Where it succeeded, the pages are still those of a tuple store, and no tuples were touched but these.
pub record TuplesCall {T : Type 0} (touched : Keys) (tuples : Tuples) (cost : ℕ) (old new : TuplesView) (result : Result T PageFault) : Type 0 where
  pub below : PagesCall touched cost cost old.pages new.pages result
  pub heaps : OnOk result (IsTold old.pages.disk → AreHeaps new.pages)
  pub others : OnOk result (IsTold old.pages.disk → (segment : ℕ) (tid : Tid) → (tuples segment tid → ⊥) → new.bodies segment tid ≡ old.bodies segment tid)

-- ---- what a call finds

-- a tuple stands at the identifier
abbrev pub IsLive : TuplesView → ℕ → Tid → Type 0
IsLive view segment tid = IsSome (view.bodies segment tid)

-- the least identifier with a property
pub record IsLeast (property : Tid → Type 0) (tid : Tid) : Type 0 where
  pub has : property tid
  pub least : (other : Tid) → IsBelow other tid → property other → ⊥

-- no identifier has it
abbrev pub NoneIs : (Tid → Type 0) → Type 0
NoneIs property = (tid : Tid) → property tid → ⊥
