-- The tree of a listed image, built or taken away.
use Rattle.std.proofs.Common.{◌≡◌, ◌^◌, ◌<◌, ◌≤◌, ℕ, true, List, [], ◌∷◌, length, refl, ◌∙◌, ap, subst, arith}
use Rattle.std.specs.Prelude.{Some, All}
use Rattle.std.proofs.lemmas.List.Elements.{All-head, All-tail}
use Rattle.rss_base.specs.Sizes.{page_entries}
use Rattle.rss_base.specs.Steps.{PagesView, AreCounted, pages_in}
use Rattle.rss_base.specs.Listings.{Listing, image_at, relation_at, with_image, with_root}
use Rattle.rss_base.specs.declared.key.PageKey.{PageKey}
use Rattle.rss_base.specs.declared.key.Space.TheVariants.{Image as ImageSpace}
use Rattle.rss_base.specs.declared.tid.Tid.{Tid}
use Rattle.rss_base.specs.declared.image.ImageEntry.{ImageEntry}
use Rattle.rss_base.specs.declared.relation.RelationEntry.{RelationEntry}
use Rattle.rss_levels.specs.Entries.{Each}
use Rattle.rss_image.specs.Images.{has_page, nodes_of, page_bound, AreAllMade}
use Rattle.rss_image.specs.declared.image.Image.{Image}
use Rattle.rss_image.proofs.Kept.{page_pair}
use Rattle.rss_image.proofs.Laid.{zeros_page}
use Rattle.rss_catalog.proofs.Numbered.{numbered_within, with_same}
use Rattle.rss_stored.specs.Store.{IsListedImage}
use Rattle.rss_entries.specs.Building.{pair_list, BuildsMade}
use Rattle.rss_entries.specs.Images.{image_of}
use Rattle.rss_entries.proofs.Showing.{same_entry, at_same}

-- ---- an image that begins elsewhere

module _ (number : ℕ) (image : ImageEntry) (relation : RelationEntry) {listed : Image} (is : listed ≡ image_of number image relation) where
  -- its pages are in its relation's segment
  pub pages_listed : (key : PageKey) → pages_in listed.segment ImageSpace key → pages_in relation.segment ImageSpace key
  pages_listed key touched = subst (λ (i : Image). pages_in i.segment ImageSpace key) is touched

  -- it is known by its nodes, but for where it begins
  begins_at : (built : Image) → nodes_of built ≡ record { segment = listed.segment; image = number; width = listed.width } → built ≡ image_of number (with_root built.root built.levels image) relation
  begins_at built nodes =
      (λ i. record { segment = (nodes i).segment; number = (nodes i).image; width = (nodes i).width; root = built.root; levels = built.levels })
      ∙ (λ i. record { segment = (is i).segment; number = number; width = (is i).width; root = built.root; levels = built.levels })

  -- and so it is listed
  pub listed_at : (built : Image) → nodes_of built ≡ record { segment = listed.segment; image = number; width = listed.width }
      → {old now : Listing} → IsListedImage old number image relation → now ≡ with_image old number (Some (with_root built.root built.levels image))
      → {other : ImageEntry} {others : RelationEntry} → IsListedImage now number other others → built ≡ image_of number other others
  listed_at built nodes {old = old} {now = now} its lists {other = other} {others = others} new =
      let within = numbered_within old.images number image its.at in
      let here : IsListedImage now number (with_root built.root built.levels image) relation = record {
        at = ap (λ (l : Listing). image_at l number) lists ∙ with_same old.images number (Some (with_root built.root built.levels image)) within.0 within.1;
        within = ap (λ (l : Listing). relation_at l image.relation) lists ∙ its.within;
      } in
      at_same (λ n e r. built ≡ image_of n e r) refl (same_entry here new refl) (begins_at built nodes)

-- ---- identifiers of the store

-- where a page is spare, there is a slot
pub some_slots : (view : PagesView) (width count : ℕ) → AreCounted view → page_bound width count ≤ view.spare → 0 < view.slots
some_slots view width count counted room = omega (arith, counted, room)

-- zeros name a page where there is a slot
pub builds_within : (image : Image) (pairs : List (List ℕ)) (view : PagesView) → 0 < view.slots → BuildsMade image pairs view → Each (λ p. has_page image.width view.slots p ≡ true) pairs → AreAllMade (has_page image.width view.slots) image view.held
builds_within image pairs view some made each = made (has_page image.width view.slots) (zeros_page image.width view.slots some) each

-- entries whose identifiers have pages below the number of slots
pub pairs_within : (width slots : ℕ) (entries : List (List ℕ × Tid)) → slots < 2 ^ 32 → All (λ entry. length entry.0 ≡ width) entries → All (λ entry. entry.1.slot < page_entries) entries → All (λ entry. entry.1.page < slots) entries
    → Each (λ p. has_page width slots p ≡ true) (pair_list entries)
pairs_within width slots [] few long slot page = tt
pairs_within width slots (e ∷ es) few long slot page =
    let low = All-head (λ (entry : List ℕ × Tid). entry.1.page < slots) e es page in
    let place = All-head (λ (entry : List ℕ × Tid). entry.1.slot < 128) e es slot in (
      page_pair width slots e.0 e.1 (All-head (λ (entry : List ℕ × Tid). length entry.0 ≡ width) e es long) (record { page = omega (arith, low, few); slot = omega (arith, place) }) low,
      pairs_within width slots es few (All-tail (λ (entry : List ℕ × Tid). length entry.0 ≡ width) e es long) (All-tail (λ (entry : List ℕ × Tid). entry.1.slot < 128) e es slot) (All-tail (λ (entry : List ℕ × Tid). entry.1.page < slots) e es page),
    )
