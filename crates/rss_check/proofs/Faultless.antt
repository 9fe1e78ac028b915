-- Pages in which no line of a check is broken are a store.
use Rattle.std.proofs.Common.{◌≡◌, inl, inr, ℕ, ◌-◌, ◌<◌, ◌≤◌, List, length, get_or, take, replicate, sym, ◌∙◌, subst, arith, length-append}
use Rattle.std.specs.Prelude.{Option, None, Contains, option_map}
use Rattle.std.proofs.lemmas.Bool.{cases_lt}
use Rattle.std.proofs.lemmas.List.{length-map, length-take, length-replicate}
use Rattle.rss_base.specs.DiskRule.{Pages}
use Rattle.rss_base.specs.Layout.{map_at, slots_at, HasRoot}
use Rattle.rss_base.specs.Listings.{Listing, HoldsListing}
use Rattle.rss_base.specs.PageMap.{number_limit, IsMap}
use Rattle.rss_base.specs.Paged.{Held}
use Rattle.rss_base.specs.Sizes.{relations_most, images_most}
use Rattle.rss_base.specs.StoredPages.{held_at}
use Rattle.rss_base.specs.Trees.{Pair, IsImage}
use Rattle.rss_base.specs.declared.image.ImageEntry.{ImageEntry}
use Rattle.rss_base.specs.declared.key.Space.{Space}
use Rattle.rss_base.specs.declared.key.Space.TheVariants.{Home, Overflow, Image, System}
use Rattle.rss_base.specs.declared.place.Place.{Place}
use Rattle.rss_base.specs.declared.relation.RelationEntry.{RelationEntry}
use Rattle.rss_base.specs.declared.root.Root.{Root}
use Rattle.rss_catalog.specs.Defined.{unrooted, front, up_to, IsListable}
use Rattle.rss_catalog.proofs.Fronts.{front_all}
use Rattle.rss_model.specs.Meter.{room_number}
use Rattle.rss_stored.specs.Store.{Stored, IsStore, HasLog, SpellsTables, AreNodesWithin, IsListedImage, held_in as held_of_store, meter_of, nodes_of}
use Rattle.rss_stored.proofs.ImagePages.{image_once}
use Rattle.rss_stored.proofs.Versions.{suits_any}
use Rattle.rss_entries.proofs.Standing.{AreLow}
use Rattle.rss_access.specs.Checking.{AreWithin}
use Rattle.rss_access.proofs.NodesReached.{IsWithinIn, all_within}
use Rattle.rss_check.specs.Faults.{Breaks, layout, undefined, image, no_way, no_room, AreStore}
use Rattle.rss_check.specs.Layouts.{Laid, held_in}
use Rattle.rss_check.specs.Lines.{Line}
use Rattle.rss_check.specs.Logs.{IsOver}
use Rattle.rss_check.specs.Spellings.{AreSuited, Spelling, held_of}
use Rattle.rss_check.proofs.Laying.{laid_found, allowed_in}
use Rattle.rss_check.proofs.NoFaults.{first_fits}

-- ---- definitions on all pages

front_long : {A : Type 0} (most count : ℕ) (items : List (Option A)) → length (front most count items) ≡ most → most < count → length items ≡ most
front_long {A} most count items long more = omega (arith, long, more, length-append (take count items) (replicate (most - count) None), length-take count items, length-replicate {A = Option A} (most - count) None)

-- they are one listing
whole_spelling : {pages : Pages} (laid : Laid pages) → AreSuited (held_in pages laid) laid.root.version 9 → Spelling pages
whole_spelling laid suited =
    let listing : Listing = suited.defined.listing in
    let listable : IsListable (up_to 9 listing) = suited.defined.are.listable in
    let relations = front_all relations_most 72 listing.relations (front_long relations_most 72 listing.relations listable.fit.relation_places (omega arith)) (omega arith) in
    let images = front_all images_most 192 listing.images (front_long images_most 192 listing.images (sym (length-map (up_to 9 listing).images (option_map unrooted)) ∙ listable.fit.paths.image_places) (omega arith)) (omega arith) in
    let whole : up_to 9 listing ≡ listing = λ i. record { segments = listing.segments; relations = relations i; images = images i; links = listing.links } in
    record {
      laid = laid;
      listing = listing;
      is = record {
        spells = λ page low. suited.defined.spells page (omega (arith, low));
        listable = subst IsListable whole listable;
      };
    }

module _ {pages : Pages} (unbroken : (line : Line) (place : Place) → Breaks pages line place → ⊥) where
  -- ---- identifiers in the nodes of images

  module _ (at : Spelling pages) (stored : Stored) (over : IsOver at stored) where
    abbrev held : Held
    held = held_of pages at

    abbrev slots : ℕ
    slots = at.laid.root.slots

    low_number : {n : ℕ} (space : Space) → n < number_limit slots space → n < 4294967295
    low_number Home low = omega (arith, low, at.laid.there.root_there.there.formed.slots_most)
    low_number Overflow low = omega (arith, low, at.laid.there.root_there.there.formed.slots_most)
    low_number Image low = omega (arith, low, at.laid.there.root_there.there.formed.slots_most)
    low_number System low = omega (arith, low)

    low : AreLow held
    low key there = low_number key.space (allowed_in pages at.laid.root at.laid.owners at.laid.there.map key there).number

    each : (number : ℕ) (of : ImageEntry) (relation : RelationEntry) → IsListedImage at.listing number of relation → IsWithinIn slots held stored.saved number of relation
    each number of relation listed =
        let one = over.saved.images.each number of relation listed in
        record { pages = one.0; spells = one.1; within = within one.0 (λ others pairs tree. image_once one.1.tree tree) }
      where
        within : (nodes : List ℕ) → ((others : List ℕ) (pairs : List Pair) → IsImage held (nodes_of number of relation) of.root of.levels others pairs → nodes ≡ others) → AreWithin slots held number of relation nodes
        within nodes same page node among there k d lt = elim (cases_lt (get_or node.entries k d).tid.page slots) [
          | inl less ↦ less
          | inr high ↦ absurd (unbroken _ _ (image at number of relation listed (λ others rows.
              let less = rows.within page node (subst (λ (l : List ℕ). Contains l page) (same others rows.pairs rows.tree) among) there k d lt in
              omega (arith, less, high))))
        ]

    nodes_within : AreNodesWithin slots held at.listing
    nodes_within = all_within low over.saved.listed over.saved.images each

    -- ---- the store

    held_same : held_of_store pages stored ≡ held
    held_same = λ i. held_at (slots_at (over.root i).slots (over.root i).log_pages) pages (over.owners i)

    -- what is said of what was read is said of the store
    moved : (P : Held → ℕ → Listing → Type 0) → P held slots at.listing → P (held_of_store pages stored) stored.root.slots stored.listing
    moved P is = subst (λ (h : Held). P h stored.root.slots stored.listing) (sym held_same)
        (subst (λ (r : Root). P held r.slots stored.listing) (sym over.root)
        (subst (P held slots) (sym over.listing) is))

    store_found : HasLog pages stored → room_number stored.saved.definitions (meter_of stored) ≤ stored.root.slots → IsStore pages stored
    store_found log room =
        let spells = moved (λ h n l. SpellsTables h l stored.saved) over.saved in
        record {
          root_there = subst (HasRoot pages stored.number) (sym over.root) (subst (λ (n : ℕ). HasRoot pages n at.laid.root) (sym over.number) at.laid.there.root_there);
          map = subst (λ (r : Root). IsMap r.slots pages (map_at r.slots r.area) stored.owners) (sym over.root)
              (subst (IsMap at.laid.root.slots pages (map_at at.laid.root.slots at.laid.root.area)) (sym over.owners) at.laid.there.map);
          system = moved (λ h n l. HoldsListing h l) at.is.spells;
          spells = spells;
          nodes = moved (λ h n l. AreNodesWithin n h l) nodes_within;
          fit = first_fits stored.root.slots stored.saved stored.saved.contents _ log.way.undo;
          log = log;
          room = room;
          version = suits_any stored.root.version spells.listed;
        }

  -- there is no such way about it
  pub stores_found : (AreStore pages → ⊥) → ⊥
  stores_found none = laid_found (λ place broken. unbroken _ _ (layout broken)) (λ laid.
      unbroken _ _ (undefined laid 9 (omega arith) (λ suited.
      let at = whole_spelling laid suited in
      unbroken _ _ (no_way at (λ stored over log. elim (cases_lt stored.root.slots (room_number stored.saved.definitions (meter_of stored))) [
        | inl less ↦ unbroken _ _ (no_room at stored over log less)
        | inr enough ↦ none (record { stored = stored; is = store_found at stored over log enough })
      ])))))
