-- What is found of a tuple in pages.
use Rattle.std.specs.Prelude.{◌≡◌, ◌⊎◌, ℕ, ◌<◌, ◌≤◌, Bool, true, false, List, length, Option, Some, MatchOption}
use Rattle.rss_base.specs.Paged.{Held, page_key}
use Rattle.rss_base.specs.Sizes.{page_entries}
use Rattle.rss_base.specs.Steps.{PagesView}
use Rattle.rss_base.specs.declared.key.PageKey.{PageKey}
use Rattle.rss_base.specs.declared.key.Space.TheVariants.{Home}
use Rattle.rss_base.specs.declared.tid.Tid.{Tid}
use Rattle.rss_page.specs.Content.{Content, Empty, Here, Forward}
use Rattle.rss_page.specs.Surveyed.{held_at}
use Rattle.rss_page.specs.declared.entry_form.Entry.{Entry}
use Rattle.rss_page.specs.declared.entry_form.Entry.TheVariants.{Empty as EmptyEntry, Here as HereEntry, Forward as ForwardEntry}
use Rattle.rss_base.specs.Tids.{IsAfter}
use Rattle.rss_tuple.specs.Directory.{content_at}
use Rattle.rss_tuple.specs.declared.body_at.BodyAt.{BodyAt}
use Rattle.rss_tuple.specs.Located.{place_in, IsInMemory, StandsAt}
use Rattle.rss_tuple.specs.TupleSteps.{TuplesView, IsLive, IsLeast, NoneIs}

-- ---- a fetch

-- whether there is a body, and if so, that it was read
abbrev pub IsFetched : Option (List ℕ) → Bool → List ℕ → Type 0
IsFetched body live read = MatchOption body (live ≡ false) (λ bytes. (live ≡ true) × (read ≡ bytes))

-- an entry of the page of a key holds this; a body stands where the entry says
abbrev pub IsHeldBy : Held → PageKey → Content → Entry → Type 0
IsHeldBy held key content EmptyEntry = content ≡ Empty
IsHeldBy held key content (HereEntry place length) =
    StandsAt held (λ bytes. content ≡ Here bytes) (place_in key place length)
IsHeldBy held key content (ForwardEntry page slot) = content ≡ Forward page slot

-- It may stand there: a body is one of a tuple's, in a page that is in memory, and a forward leads to one of the slots of a page.
abbrev pub IsInForm : PagesView → PageKey → Entry → Type 0
IsInForm view key EmptyEntry = Unit {0}
IsInForm view key (HereEntry place length) = IsInMemory view (place_in key place length)
IsInForm view key (ForwardEntry page slot) = slot < page_entries

-- what the home page of an identifier has for it is what an entry of the page says that is there now
abbrev pub IsHeldAt : PagesView → PagesView → ℕ → Tid → Entry → Type 0
IsHeldAt old new segment tid entry =
    let key = page_key segment Home tid.page in
    IsHeldBy new.held key (content_at old.held key tid.slot) entry

-- ---- the next tuple

-- an identifier stands at this one or behind it
abbrev pub IsFrom : Tid → Tid → Type 0
IsFrom from tid = (from.page < tid.page) ⊎ ((from.page ≡ tid.page) × (from.slot ≤ tid.slot))

-- a tuple stands there, behind another one
pub record IsNext (view : TuplesView) (segment : ℕ) (after : Option Tid) (tid : Tid) : Type 0 where
  pub behind : IsAfter after tid
  pub live : IsLive view segment tid

-- the least of them, if there is one
abbrev pub FindsNext : TuplesView → ℕ → Option Tid → Option Tid → Type 0
FindsNext view segment after found = MatchOption found (NoneIs (IsNext view segment after)) (IsLeast (IsNext view segment after))

-- the least of them, and where its body stands
pub record IsNextAt (view : TuplesView) (segment : ℕ) (after : Option Tid) (held : Held) (next : Tid × BodyAt) : Type 0 where
  pub least : IsLeast (IsNext view segment after) next.0
  pub stands : StandsAt held (λ bytes. view.bodies segment next.0 ≡ Some bytes) next.1

-- if there is one
abbrev pub FindsNextAt : TuplesView → ℕ → Option Tid → Held → Option (Tid × BodyAt) → Type 0
FindsNextAt view segment after held found =
    MatchOption found (NoneIs (IsNext view segment after)) (IsNextAt view segment after held)

-- the first slot from one on that holds something
pub record IsFirstTaken (contents : List Content) (from slot : ℕ) : Type 0 where
  pub from_there : from ≤ slot
  pub low : slot < page_entries
  pub taken : held_at contents slot ≡ Empty → ⊥
  pub lesser : (other : ℕ) → from ≤ other → other < slot → held_at contents other ≡ Empty

-- no slot from one on holds anything
abbrev pub NoneTaken : List Content → ℕ → Type 0
NoneTaken contents from = (slot : ℕ) → from ≤ slot → held_at contents slot ≡ Empty
