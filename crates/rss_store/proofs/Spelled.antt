-- What a store spells: it stays so, and changeable, where the pages of tuples and of images stay.
use Rattle.std.proofs.Common.{◌≡◌, inl, inr, ℕ, refl, sym, ◌∙◌, subst}
use Rattle.std.proofs.Math.Logic.{∥∥₁_map}
use Rattle.rss_base.specs.DiskRule.{IsTold}
use Rattle.rss_base.specs.Listings.{Listing}
use Rattle.rss_base.specs.Paged.{Held, page_key}
use Rattle.rss_base.specs.Steps.{PagesView, PagesStep}
use Rattle.rss_base.specs.declared.key.PageKey.{PageKey}
use Rattle.rss_base.specs.declared.key.Space.TheVariants.{Image, System}
use Rattle.rss_catalog.specs.Catalogs.{HasSystemPages}
use Rattle.rss_model.specs.Fits.{IsIdentifier}
use Rattle.rss_stored.specs.Store.{SpellsTables, AreNodesWithin}
use Rattle.rss_access.specs.Changes.{AccessView, CanAlter, HasTables}
use Rattle.rss_access.specs.Written.{content_of}
use Rattle.rss_access.proofs.Writing.{SameOffSystem, off_system, heaps_same, spells_same}
use Rattle.rss_store.specs.Changing.{access}
use Rattle.rss_store.specs.Stores.{StoreView, IsReady}

-- ---- pages that are touched

content_off_system : {listing : Listing} (key : PageKey) → content_of listing key → key.space ≡ System → ⊥
content_off_system key (inl heap) system = off_system key heap system
content_off_system key (inr image) system = let not : Image ≡ System = sym image.0 ∙ system in absurd (cc)

-- the pages of the system space stay
pub system_kept : {listing : Listing} {asks outs : ℕ} {old new : PagesView} → PagesStep (content_of listing) asks outs old new → HasSystemPages old.mapped → HasSystemPages new.mapped
system_kept step system page low = step.mapped_off (page_key 0 System page) (λ content. content_off_system (page_key 0 System page) content refl) ∙ system page low

-- ---- tables that are spelled

-- the nodes of images are those that were there
pub nodes_still : {old new : Held} {listing : Listing} {slots slots_too : ℕ} → slots_too ≡ slots → SameOffSystem old new → AreNodesWithin slots old listing → AreNodesWithin slots_too new listing
nodes_still {new = new} {listing = listing} slots same nodes =
    subst (λ (n : ℕ). AreNodesWithin n new listing) (sym slots) (λ number image relation l page node at.
    nodes number image relation l page node (record {
      bytes = at.bytes;
      there = sym (same (page_key relation.segment Image page) (λ system. let not : Image ≡ System = system in absurd (cc))) ∙ at.there;
      is = at.is;
    }))

module _ {old new : AccessView} (slots : new.pages.slots ≡ old.pages.slots) (listing : new.catalog.listing ≡ old.catalog.listing) where
  -- the same tables, where at most pages of the catalog were written
  tables_still : SameOffSystem old.pages.held new.pages.held → HasTables old → HasTables new
  tables_still same has =
      let spells : SpellsTables new.pages.held new.catalog.listing has.tables = subst (λ (l : Listing). SpellsTables new.pages.held l has.tables) (sym listing) (spells_same same has.spells) in
      record {
        tables = has.tables;
        spells = spells;
        tuples = has.tuples;
        tids = λ relation tid lives. subst (λ (n : ℕ). IsIdentifier n tid) (sym slots) (has.tids relation tid lives);
        few = has.few;
        links = has.links;
        nodes = subst (AreNodesWithin new.pages.slots new.pages.held) (sym listing) (nodes_still slots same has.nodes);
      }

  -- so they spell tables where they did
  pub has_tables_still : (IsTold new.pages.disk → IsTold old.pages.disk) → (IsTold old.pages.disk → SameOffSystem old.pages.held new.pages.held) → (IsTold old.pages.disk → ∥ HasTables old ∥₁)
      → IsTold new.pages.disk → ∥ HasTables new ∥₁
  has_tables_still told same has is = ∥∥₁_map (has (told is)) (tables_still (same (told is)))

  -- they may be changed on then
  pub alter_still : (IsTold new.pages.disk → IsTold old.pages.disk) → (IsTold old.pages.disk → SameOffSystem old.pages.held new.pages.held) → ((key : PageKey) → (key.space ≡ System → ⊥) → new.pages.notes key ≡ old.pages.notes key) → CanAlter old → CanAlter new
  alter_still told same notes can = record {
    heaps = λ is. heaps_same (same (told is)) notes (can.heaps (told is));
    tables = has_tables_still told same can.tables;
  }

-- ---- a store that is ready

-- its pages may be changed
pub can_alter : {view : StoreView} → IsReady view → CanAlter (access view)
can_alter ready = record { heaps = ready.heaps; tables = ready.tables }
