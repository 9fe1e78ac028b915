-- What the calls on tuples may be given, and what those that put or choose ensure.
use Rattle.std.specs.Prelude.{◌≡◌, ◌⊎◌, ℕ, ◌*◌, ◌<◌, ◌≤◌, false, List, length, Option, Some, None, Result, Err, IfOk, IfSome, OnOk}
use Rattle.rss_base.specs.DiskRule.{IsTold}
use Rattle.rss_base.specs.Paged.{AreAmong, page_key}
use Rattle.rss_base.specs.Sizes.{segments, page_entries}
use Rattle.rss_base.specs.Steps.{pages_in}
use Rattle.rss_base.specs.declared.fault.PageFault.{PageFault}
use Rattle.rss_base.specs.declared.fault.PageFault.TheVariants.{Damaged}
use Rattle.rss_base.specs.declared.place.Place.TheVariants.{Page as PagePlace}
use Rattle.rss_base.specs.declared.key.Space.TheVariants.{Home}
use Rattle.rss_base.specs.declared.tid.Tid.{Tid}
use Rattle.rss_tuple.specs.Directory.{with_body, homes}
use Rattle.rss_tuple.specs.Heaps.{body_most, AreHeaps}
use Rattle.rss_tuple.specs.TupleSteps.{TuplesView, TuplesCall, IsLive, NoneIs, no_tuple, only_tuple, pages_for}
use Rattle.rss_tuple.specs.Placing.{IsNameable, IsFree, IsChosen, IsPlaced, TakesOne}

-- ---- what they may be given

pub record IsSegment (number : ℕ) : Type 0 where
  pub low : 1 ≤ number
  pub high : number ≤ segments

-- how many bytes the body of a tuple may have
pub record IsBodyLength (count : ℕ) : Type 0 where
  pub some : 1 ≤ count
  pub most : count ≤ body_most

-- a body of so many bytes may be put into this segment
pub record MayPut (number count : ℕ) : Type 0 where
  pub segment : IsSegment number
  pub length : IsBodyLength count

-- a body of so many bytes may be put at an identifier that no tuple has
pub record MayInsert (view : TuplesView) (segment : ℕ) (tid : Tid) (count : ℕ) : Type 0 where
  pub may : MayPut segment count
  pub page : tid.page < view.pages.slots
  pub slot : tid.slot < page_entries
  pub room : 0 < view.pages.spare
  pub heaps : IsTold view.pages.disk → AreHeaps view.pages
  pub absent : IsTold view.pages.disk → view.bodies segment tid ≡ None

-- a tuple stands at this identifier
pub record HasTuple (view : TuplesView) (segment : ℕ) (tid : Tid) : Type 0 where
  pub heaps : IsTold view.pages.disk → AreHeaps view.pages
  pub live : IsTold view.pages.disk → IsLive view segment tid

-- a page is spare where the body of a tuple is to be longer
abbrev pub HasSpare : TuplesView → ℕ → Tid → ℕ → Type 0
HasSpare view segment tid count = IsTold view.pages.disk → (bytes : List ℕ) → view.bodies segment tid ≡ Some bytes → length bytes < count → 0 < view.pages.spare

-- a body of so many bytes may be put in place of that of a tuple
pub record MayReplace (view : TuplesView) (segment : ℕ) (tid : Tid) (count : ℕ) : Type 0 where
  pub may : MayPut segment count
  pub there : HasTuple view segment tid
  pub room : HasSpare view segment tid count

-- a tuple stands at this identifier whose body has so many bytes at least
pub record IsNoLonger (view : TuplesView) (segment : ℕ) (tid : Tid) (count : ℕ) : Type 0 where
  pub bytes : List ℕ
  pub body : view.bodies segment tid ≡ Some bytes
  pub most : count ≤ length bytes

-- ---- where no tuple can stand

-- whatever the device tells: the home page of this identifier isn't mapped, or has no such slot
abbrev pub IsNowhere : TuplesView → ℕ → Tid → Type 0
IsNowhere view segment tid =
    (view.pages.mapped (page_key segment Home tid.page) ≡ false) ⊎ (page_entries ≤ tid.slot)

-- the home page of this identifier isn't what it should be
abbrev pub damaged_home : {T : Type 0} → ℕ → Tid → Result T PageFault
damaged_home segment tid = Err (Damaged (PagePlace (page_key segment Home tid.page)))

-- ---- what they ensure

-- The identifier of a new tuple was looked for: a free one that isn't barred. Nothing was changed.
pub record Chooses (segment length : ℕ) (barred : List Tid) (old new : TuplesView) (result : Result (Option Tid) PageFault) : Type 0 where
  pub named : IfOk result (λ found. IfSome found (IsNameable old.pages.slots barred))
  pub free : IfOk result (λ found. IfSome found (λ tid. IsTold old.pages.disk → IsFree old segment barred tid))
  pub chosen : IfOk result (λ found. IfSome found (λ tid. IsTold old.pages.disk → IsChosen old.pages segment length barred tid))
  pub none : IfOk result (λ found. found ≡ None → IsTold old.pages.disk → NoneIs (IsFree old segment barred))
  pub mapped : new.pages.mapped ≡ old.pages.mapped
  pub held : IsTold old.pages.disk → new.pages.held ≡ old.pages.held
  pub changed : AreAmong new.pages.changed old.pages.changed
  pub did : TuplesCall (pages_in segment Home) no_tuple (2 * old.pages.slots) old new result

-- A tuple has this body now, whatever it had, the body stands where it is to be, and a page was taken for it only where one has to be.
pub record PutsTuple {T : Type 0} (segment : ℕ) (tid : Tid) (body : List ℕ) (cost : ℕ) (old new : TuplesView) (result : Result T PageFault) : Type 0 where
  pub put : OnOk result (IsTold old.pages.disk → new.bodies ≡ with_body old.bodies segment tid (Some body))
  pub placed : OnOk result (IsTold old.pages.disk → IsPlaced old.pages segment tid body (homes new.pages.held segment tid.page tid.slot))
  pub takes : OnOk result (TakesOne segment tid body old.pages new.pages)
  pub did : TuplesCall (pages_for segment tid) (only_tuple segment tid) cost old new result
