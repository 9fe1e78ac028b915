-- What is so once an image is taken away.
use Rattle.std.specs.Prelude.{◌≡◌, ℕ}
use Rattle.std.specs.FinMap as map
use Rattle.rss_base.specs.DiskRule.{IsTold}
use Rattle.rss_base.specs.Listings.{Listing}
use Rattle.rss_base.specs.declared.image.ImageEntry.{ImageEntry}
use Rattle.rss_base.specs.declared.name.Name.{Name}
use Rattle.rss_base.specs.declared.relation.RelationEntry.{RelationEntry}
use Rattle.rss_model.specs.Kept.{Kept}
use Rattle.rss_model.specs.Machine.{State}
use Rattle.rss_stored.specs.Store.{IsListedImage}
use Rattle.rss_model.specs.Defining.{with_definitions}
use Rattle.rss_model.specs.Tables.{Tables}
use Rattle.rss_session.specs.Calls.{IsRedefined}
use Rattle.rss_session.specs.Filling.{TouchesImages}
use Rattle.rss_session.specs.Sessions.{SessionView, CanSave}
use Rattle.rss_session.specs.Shown.{Shows}

-- The number is that of an image of this name, whose relation is listed.
pub record IsImageNamed (listing : Listing) (name : Name) (number : ℕ) : Type 0 where
  pub image : ImageEntry
  pub relation : RelationEntry
  pub at : IsListedImage listing number image relation
  pub named : image.name ≡ name

-- the tables without the image of this name
abbrev pub without_image : Tables → Name → Tables
without_image tables name = with_definitions (record tables.definitions {
  images = map.remove tables.definitions.images name;
}) tables

-- Nothing is open, and the tables without it may be committed, in each state in which the session was.
pub record TakesImage (name : Name) (old new : SessionView) : Type 0 where
  pub closed : old.opened.transactions ≡ map.empty
  pub touches : TouchesImages old new
  pub saves : CanSave new
  pub redefines : IsTold old.store.pages.disk → (state : State) → Kept state → Shows old state
      → IsRedefined new state (without_image state.base name)
