-- Which identifier a new tuple gets, and in which page a body stands.
use Rattle.std.specs.Prelude.{◌≡◌, ◌⊎◌, ℕ, ◌+◌, ◌<◌, ◌≤◌, true, false, List, [], length, Contains, None}
use Rattle.rss_base.specs.Sizes.{page_entries, bodies_room}
use Rattle.rss_base.specs.Paged.{page_key}
use Rattle.rss_base.specs.Steps.{PagesView, Keys, only, pages_in}
use Rattle.rss_base.specs.DiskRule.{IsTold}
use Rattle.rss_base.specs.declared.key.PageKey.{PageKey}
use Rattle.rss_base.specs.declared.tid.Tid.{Tid}
use Rattle.rss_base.specs.declared.key.Space.{Space}
use Rattle.rss_base.specs.declared.key.Space.TheVariants.{Home, Overflow}
use Rattle.rss_page.specs.Content.{Content, Empty, Here, Forward}
use Rattle.rss_page.specs.Slotted.{body_bytes, HasRoom}
use Rattle.rss_page.specs.Surveyed.{held_at}
use Rattle.rss_tuple.specs.Directory.{contents, homes}
use Rattle.rss_tuple.specs.TupleSteps.{TuplesView, IsLeast, NoneIs}

-- ---- free entries

-- what is looked for in the pages of a space: a free entry that isn't barred, and so many free bytes
pub record Wanted : Type 0 where
  pub segment : ℕ
  pub space : Space
  pub length : ℕ
  pub barred : List Tid

abbrev pub home_for : ℕ → ℕ → List Tid → Wanted
home_for segment length barred = record { segment = segment; space = Home; length = length; barred = barred }

abbrev pub overflow_for : ℕ → ℕ → Wanted
overflow_for segment length = record { segment = segment; space = Overflow; length = length; barred = [] }

-- the entry of a slot is empty, and its identifier isn't barred
pub record IsOpen (contents : List Content) (barred : List Tid) (tid : Tid) : Type 0 where
  pub low : tid.slot < page_entries
  pub empty : held_at contents tid.slot ≡ Empty
  pub allowed : Contains barred tid → ⊥

-- a mapped page has the entry and the bytes that are looked for
pub record IsSpot (view : PagesView) (wanted : Wanted) (tid : Tid) : Type 0 where
  pub mapped : view.mapped (page_key wanted.segment wanted.space tid.page) ≡ true
  pub bytes : body_bytes (contents view.held (page_key wanted.segment wanted.space tid.page)) + wanted.length ≤ bodies_room
  pub open_there : IsOpen (contents view.held (page_key wanted.segment wanted.space tid.page)) wanted.barred tid

-- a home page that isn't mapped has an entry that isn't barred
pub record IsNew (view : PagesView) (segment : ℕ) (barred : List Tid) (tid : Tid) : Type 0 where
  pub within : tid.page < view.slots
  pub unmapped : view.mapped (page_key segment Home tid.page) ≡ false
  pub open_there : IsOpen [] barred tid

-- ---- the identifier of a new tuple

-- an identifier that isn't barred, of one of so many pages
pub record IsNameable (slots : ℕ) (barred : List Tid) (tid : Tid) : Type 0 where
  pub within : tid.page < slots
  pub low : tid.slot < page_entries
  pub allowed : Contains barred tid → ⊥

-- an identifier that a new tuple may get
pub record IsFree (view : TuplesView) (segment : ℕ) (barred : List Tid) (tid : Tid) : Type 0 where
  pub named : IsNameable view.pages.slots barred tid
  pub absent : view.bodies segment tid ≡ None

-- The identifier that a new tuple gets: the least one in a mapped home page that has room for its body; else the least one in a home page that isn't mapped; else the least one in a mapped home page, and its body goes to an overflow page.
pub data IsChosen (view : PagesView) (segment length : ℕ) (barred : List Tid) : Tid → Type 0 where
  in_room : {tid : Tid} → IsLeast (IsSpot view (home_for segment length barred)) tid
      → IsChosen view segment length barred tid
  on_new : {tid : Tid} → NoneIs (IsSpot view (home_for segment length barred))
      → IsLeast (IsNew view segment barred) tid → IsChosen view segment length barred tid
  by_entry : {tid : Tid} → NoneIs (IsSpot view (home_for segment length barred))
      → NoneIs (IsNew view segment barred) → IsLeast (IsSpot view (home_for segment 0 barred)) tid
      → IsChosen view segment length barred tid

-- ---- the place of a body

-- a body of this length fits in the home entry, where what stands there counts as free
abbrev pub FitsHome : PagesView → ℕ → Tid → ℕ → Type 0
FitsHome view segment tid length = HasRoom (contents view.held (page_key segment Home tid.page)) tid.slot length

-- the body stands in an overflow page, and one of this length fits there in its place
pub record FitsAway (view : PagesView) (segment : ℕ) (tid : Tid) (length page slot : ℕ) : Type 0 where
  pub leads : homes view.held segment tid.page tid.slot ≡ Forward page slot
  pub room : HasRoom (contents view.held (page_key segment Overflow page)) slot length

abbrev pub NeverFitsAway : PagesView → ℕ → Tid → ℕ → Type 0
NeverFitsAway view segment tid length = (page slot : ℕ) → FitsAway view segment tid length page slot → ⊥

-- a body of this length doesn't fit in an overflow page where it stands, and a page is spare
pub record MayMove (view : PagesView) (segment : ℕ) (tid : Tid) (length : ℕ) : Type 0 where
  pub never : NeverFitsAway view segment tid length
  pub room : 0 < view.spare

-- What the home entry of a tuple holds once its body was put: the body, where it fits there; else where it stands, where it fits there; else a way to the least overflow page with a free entry and the bytes, and there the least free entry; else to a new one.
pub data IsPlaced (view : PagesView) (segment : ℕ) (tid : Tid) (body : List ℕ) : Content → Type 0 where
  at_home : FitsHome view segment tid (length body) → IsPlaced view segment tid body (Here body)
  stays : {page slot : ℕ} → (FitsHome view segment tid (length body) → ⊥)
      → FitsAway view segment tid (length body) page slot → IsPlaced view segment tid body (Forward page slot)
  moves : {to : Tid} → (FitsHome view segment tid (length body) → ⊥)
      → NeverFitsAway view segment tid (length body)
      → IsLeast (IsSpot view (overflow_for segment (length body))) to
      → IsPlaced view segment tid body (Forward to.page to.slot)
  on_new : {page : ℕ} → (FitsHome view segment tid (length body) → ⊥)
      → NeverFitsAway view segment tid (length body)
      → NoneIs (IsSpot view (overflow_for segment (length body)))
      → view.mapped (page_key segment Overflow page) ≡ false
      → IsPlaced view segment tid body (Forward page 0)

-- ---- the pages that are taken

-- Each page that is mapped and wasn't is one of these.
pub record TakesOnly (keys : Keys) (old new : PagesView) : Type 0 where
  pub each : (key : PageKey) → new.mapped key ≡ true → (old.mapped key ≡ true) ⊎ keys key

-- A page that is taken for a body: the home page of its tuple, where there is none; or an overflow page, where the body fits neither at home, nor where it stands, nor in an overflow page that there is.
pub data MayTake (view : PagesView) (segment : ℕ) (tid : Tid) (body : List ℕ) (key : PageKey) : Type 0 where
  home : key ≡ page_key segment Home tid.page → view.held key ≡ None → MayTake view segment tid body key
  overflow : pages_in segment Overflow key → (FitsHome view segment tid (length body) → ⊥)
      → NeverFitsAway view segment tid (length body)
      → NoneIs (IsSpot view (overflow_for segment (length body))) → MayTake view segment tid body key

-- One page was taken at most, and only one that may be.
pub record TakesOne (segment : ℕ) (tid : Tid) (body : List ℕ) (old new : PagesView) : Type 0 where
  pub page : PageKey
  pub one : TakesOnly (only page) old new
  pub may : IsTold old.disk → TakesOnly (MayTake old segment tid body) old new
