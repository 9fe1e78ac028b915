-- What a look at an image finds, and where a scan of it starts.
use Rattle.std.specs.Prelude.{◌≡◌, ℕ, List, Option, Some, None, IfSome}
use Rattle.rss_base.specs.DiskRule.{IsTold}
use Rattle.rss_base.specs.Listings.{Listing}
use Rattle.rss_base.specs.TupleTypes.{misfit}
use Rattle.rss_base.specs.declared.image.ImageEntry.{ImageEntry}
use Rattle.rss_base.specs.declared.refusal.Refusal.{Refusal}
use Rattle.rss_base.specs.declared.refusal.Refusal.TheVariants.{BadTuple}
use Rattle.rss_base.specs.declared.relation.RelationEntry.{RelationEntry}
use Rattle.rss_base.specs.declared.tid.Tid.{Tid}
use Rattle.rss_base.specs.declared.value.Value.{Value}
use Rattle.rss_model.specs.Kept.{Kept}
use Rattle.rss_model.specs.Machine.{State, now}
use Rattle.rss_stored.specs.Store.{IsListedImage}
use Rattle.rss_entries.specs.Seeking.{kinds_in, IsKeyIn, start_bytes}
use Rattle.rss_access.specs.Imaging.{IsOwner, IsNextEntry}
pub use Rattle.rss_access.specs.Imaging.{IsKeyLong}
use Rattle.rss_session.specs.Sessions.{SessionView}
use Rattle.rss_session.specs.Shown.{Shows}

-- where the image is unique, the tuple that has the key of these values in each state, other than `own`
abbrev pub FindsOwner : SessionView → ℕ → List ℕ → Option Tid → Option Tid → Type 0
FindsOwner view number bytes own found =
    IsTold view.store.pages.disk → (state : State) → Kept state → Shows view state
    → IsOwner (now state) view.store.catalog.listing number bytes own found

-- the pair of the entry that comes next in each state, behind the one that was given last, for a scan that starts at these bytes
abbrev pub FindsNextEntry : SessionView → ℕ → List ℕ → Option (List ℕ × Tid) → Option (List ℕ × Tid) → Type 0
FindsNextEntry view number start last found =
    IsTold view.store.pages.disk → (state : State) → Kept state → Shows view state
    → IsNextEntry (now state) view.store.catalog.listing number start last found

-- ---- where a scan starts

-- the values fit the fields of the image of this number
abbrev pub KeyFits : Listing → ℕ → List Value → Type 0
KeyFits listing number key =
    (image : ImageEntry) (relation : RelationEntry) → IsListedImage listing number image relation
    → misfit (kinds_in image relation) key ≡ None

-- or they don't, and the refusal tells the first that doesn't
pub record IsMisfit (listing : Listing) (number : ℕ) (key : List Value) (why : Refusal) : Type 0 where
  pub field : ℕ
  pub is : why ≡ BadTuple field
  pub first : (image : ImageEntry) (relation : RelationEntry) → IsListedImage listing number image relation
      → misfit (kinds_in image relation) key ≡ Some field

-- the bytes that a scan of an image starts at, from this key on or from its begin
pub record IsStartOf (image : ImageEntry) (relation : RelationEntry) (from : Option (List Value)) (start : List ℕ) : Type 0 where
  pub fit : IfSome from (IsKeyIn image relation)
  pub made : start ≡ start_bytes image relation from

abbrev pub StartsAt : Listing → ℕ → Option (List Value) → List ℕ → Type 0
StartsAt listing number from start =
    (image : ImageEntry) (relation : RelationEntry) → IsListedImage listing number image relation
    → IsStartOf image relation from start
