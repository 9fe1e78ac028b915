-- What a call is refused for by a test that looks neither at pages nor at room.
use Rattle.std.specs.Prelude.{◌≡◌, ℕ, Bool, List, [], ◌∷◌, Option, Some, None, is_some, Result, Ok, Err}
use Rattle.rss_base.specs.DiskRule.{IsTold}
use Rattle.rss_base.specs.Listings.{Listing, IsNumberOf, link_at}
use Rattle.rss_base.specs.declared.item.Item.{Item}
use Rattle.rss_base.specs.declared.item.Item.TheVariants.{Segment as SegmentItem, Relation as RelationItem, Tuple as TupleItem, Chain as ChainItem, Key as KeyItem}
use Rattle.rss_base.specs.declared.link.LinkEntry.{LinkEntry}
use Rattle.rss_base.specs.declared.name.Name.{Name}
use Rattle.rss_base.specs.declared.refusal.Kind.TheVariants.{Segment as SegmentKind, Relation as RelationKind, Image as ImageKind, Link as LinkKind}
use Rattle.rss_base.specs.declared.refusal.Refusal.{Refusal}
use Rattle.rss_base.specs.declared.refusal.Refusal.TheVariants.{NoSuch}
use Rattle.rss_base.specs.declared.value.Value.{Value}
use Rattle.rss_model.specs.Defining.{refused_unless}
use Rattle.rss_model.specs.Machine.{State}
use Rattle.rss_model.specs.Refusals.{image_of, unless_key_fits, link_of, unless_link_form}
use Rattle.rss_model.specs.ReplyText.{IsShort}
use Rattle.rss_model.specs.Steps.{first_of, unless_open}
use Rattle.rss_session.specs.Sessions.{SessionView}
use Rattle.rss_session.specs.Shown.{Shows}

-- the tests that an opening of a scan of an image begins with: they look neither at scans nor at locks
abbrev pub image_admission : State → ℕ → Name → Option (List Value) → Option Refusal
image_admission state t image from =
    first_of (unless_open state t ∷ refused_unless (is_some (image_of state image)) (NoSuch ImageKind)
    ∷ unless_key_fits state (image_of state image) from ∷ [])

-- there is the link; and where it is told whether a parent is given, one is exactly where the link has parents
abbrev pub unless_link : State → Name → Option Bool → Option Refusal
unless_link state link None = refused_unless (is_some (link_of state link)) (NoSuch LinkKind)
unless_link state link (Some given) = unless_link_form state link given

-- the tests that a call on a link begins with
abbrev pub link_admission : State → ℕ → Name → Option Bool → Option Refusal
link_admission state t link given = first_of (unless_open state t ∷ unless_link state link given ∷ [])

-- the link of this number has parents, or it hasn't
abbrev pub HasParents : Listing → ℕ → Bool → Type 0
HasParents listing number has =
    (link : LinkEntry) → link_at listing number ≡ Some link → is_some link.parent ≡ has

-- on a device that tells its contents the test says this in each state in which the session may be
abbrev pub Says : SessionView → (State → Option Refusal) → Option Refusal → Type 0
Says view test why =
    IsTold view.store.pages.disk → (state : State) → Shows view state → test state ≡ why

-- it refuses so, by a line that is short
abbrev pub Refuses : SessionView → (State → Option Refusal) → Refusal → Type 0
Refuses view test why = Says view test (Some why) × IsShort (Err why)

-- The test is passed where the result is a value, and refuses so where it is a refusal.
abbrev pub Tests : {T : Type 0} → SessionView → (State → Option Refusal) → Result T Refusal → Type 0
Tests view test (Ok value) = Says view test None
Tests view test (Err why) = Refuses view test why

-- the number is that of the segment, or of the relation
abbrev pub IsGranuleOf : Listing → Item → ℕ → Type 0
IsGranuleOf listing (SegmentItem name) number = IsNumberOf SegmentKind listing name number
IsGranuleOf listing (RelationItem name) number = IsNumberOf RelationKind listing name number
IsGranuleOf listing (TupleItem relation tid) number = ⊥
IsGranuleOf listing (ChainItem link parent) number = ⊥
IsGranuleOf listing (KeyItem image values) number = ⊥
