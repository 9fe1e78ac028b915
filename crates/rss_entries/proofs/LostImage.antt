-- Where an image was destroyed, the pages hold one image less.
use Rattle.std.proofs.Common.{◌≡◌, ◌≢◌, ◌+◌, length, arith, inl, inr, ⊎_elim, ℕ, true, List, refl, sym, ◌∙◌, ap, subst}
use Rattle.std.specs.Prelude.{None, Contains, is_some}
use Rattle.std.proofs.lemmas.Bool.{true≢false}
use Rattle.std.proofs.lemmas.Option.{same_Some}
use Rattle.rss_base.specs.Nodes.{IsNodePage}
use Rattle.rss_base.specs.Paged.{mapped_of, page_key}
use Rattle.rss_base.specs.Steps.{PagesView, PagesStep, AreCounted, pages_in}
use Rattle.rss_base.specs.Listings.{Listing, ListingFits}
use Rattle.rss_base.specs.declared.key.PageKey.{PageKey}
use Rattle.rss_base.specs.declared.key.Space.TheVariants.{Image as ImageSpace}
use Rattle.rss_base.specs.declared.image.ImageEntry.{ImageEntry}
use Rattle.rss_base.specs.declared.relation.RelationEntry.{RelationEntry}
use Rattle.rss_levels.specs.Entries.{IsIn}
use Rattle.rss_levels.proofs.Pages.{in_or_not}
use Rattle.rss_image.specs.Emptied.{Gives}
use Rattle.rss_image.specs.Images.{DestroysImage, ImageTree, nodes_of as image_nodes, pages_of}
use Rattle.rss_image.specs.declared.image.Image.{Image}
use Rattle.rss_tuple.proofs.Sets.{none_held}
use Rattle.rss_model.specs.Tables.{Tables}
use Rattle.rss_stored.specs.Store.{IsListedImage, SpellsImage, SpellsImages, nodes_of}
use Rattle.rss_stored.proofs.ImageMade.{LosesImage}
use Rattle.rss_model.proofs.LogLists.{by_same, by_test}
use Rattle.rss_entries.specs.Images.{image_of}
use Rattle.rss_entries.proofs.Fitting.{fitting_nodes}
use Rattle.rss_entries.proofs.Kept.{KeepsNodes, HoldsNode, image_node, one_image}
use Rattle.rss_entries.proofs.NewImage.{TouchesImages, heap_kept, image_key, segment_kept, shows_still}
use Rattle.rss_entries.proofs.Places.{places_same}
use Rattle.rss_entries.proofs.Shown.{byte_list}
use Rattle.rss_entries.proofs.Showing.{same_entry, at_same}
use Rattle.rss_entries.proofs.Standing.{IsRowed, rowed, contained}

module _ {old new : PagesView} {listing : Listing} {tables : Tables} (number : ℕ) (image : ImageEntry) (relation : RelationEntry) (fits : ListingFits listing) (at : IsListedImage listing number image relation) (images : SpellsImages old.held listing tables)
    (touches : TouchesImages relation.segment old new) (destroys : DestroysImage (image_of number image relation) old new) where
  -- the image's pages by its rows, wherever it shows the tables
  rows : (pages : List ℕ) → SpellsImage old.held tables number image relation pages → IsRowed old.held tables number image relation pages
  rows pages spells = rowed touches.low (fitting_nodes listing fits number image relation at) spells

  before : (pages : List ℕ) × SpellsImage old.held tables number image relation pages
  before = images.each number image relation at

  its : IsRowed old.held tables number image relation before.0
  its = rows before.0 before.1

  abbrev own : List ℕ
  own = pages_of its.tree

  gives : Gives (image_nodes (image_of number image relation)) own old new
  gives = (destroys (byte_list tables image relation) its.tree).gives

  -- no page of its own holds a node of another image
  keeps : (k : ℕ) (other : ImageEntry) (within : RelationEntry) → k ≢ number → KeepsNodes (nodes_of k other within) old.held new.held
  keeps k other within apart page bytes node there is = by_same within.segment relation.segment
      (λ same.
      let there_too = ap (λ (s : ℕ). old.held (page_key s ImageSpace page)) (sym same) ∙ there in
      ⊎_elim
      (λ (mine : IsIn own page).
      let held : HoldsNode old.held (nodes_of number image relation) page = image_node before.1.tree page (its.same.into page mine) in
      let bytes_are : held.at.bytes ≡ bytes = same_Some _ _ (sym held.at.there ∙ there_too) in
      absurd (apart (one_image is (subst (λ (b : List ℕ). IsNodePage (nodes_of number image relation) page b held.node) bytes_are held.at.is))))
      (λ (off : IsIn own page → ⊥). ap (λ (s : ℕ). new.held (page_key s ImageSpace page)) same ∙ gives.keeps.same page bytes off there_too)
      (in_or_not own page))
      (λ off. segment_kept touches (page_key within.segment ImageSpace page) off ∙ there)

  -- a page that is there was there
  fewer : (key : PageKey) → key.space ≡ ImageSpace → is_some (new.held key) ≡ true → is_some (old.held key) ≡ true
  fewer key space there = by_same key.segment relation.segment
      (λ same. by_test (is_some (old.held key)) (λ was. was) (λ off. absurd (not_there same (none_held (old.held key) off))))
      (λ apart. ap is_some (sym (segment_kept touches key apart)) ∙ there)
    where
      not_there : key.segment ≡ relation.segment → old.held key ≡ None → ⊥
      not_there same none =
          let is : key ≡ page_key relation.segment ImageSpace key.number = image_key key relation.segment same space in
          ⊎_elim
          (λ (own : ⊥). own)
          (λ (gone : new.held (page_key relation.segment ImageSpace key.number) ≡ None). true≢false (sym there ∙ ap is_some (ap new.held is ∙ gone)))
          (gives.loses_none key.number (inr (ap old.held (sym is) ∙ none)))

  -- the image's pages are given, wherever it shows the tables
  gone : (pages : List ℕ) → SpellsImage old.held tables number image relation pages → (key : PageKey) → key.space ≡ ImageSpace → key.segment ≡ relation.segment → Contains pages key.number → new.held key ≡ None
  gone pages spells key space segment among =
      let there : IsRowed old.held tables number image relation pages = rows pages spells in
      ⊎_elim
      (λ (own : ⊥). absurd own)
      (λ (none : new.held (page_key relation.segment ImageSpace key.number) ≡ None). ap new.held (image_key key relation.segment segment space) ∙ none)
      ((destroys (byte_list tables image relation) there.tree).gives.loses_none key.number (inl (there.same.back key.number (contained pages key.number among))))

  -- The pages hold the other images, and no page of this one.
  pub loses_image : LosesImage old.held new.held listing tables number
  loses_image = record {
    kept = heap_kept touches;
    others = λ k other within pages apart listed spells. shows_still (keeps k other within apart) spells;
    fewer = fewer;
    gone = λ other within pages listed spells key space segment among.
        let same = same_entry listed at refl in
        gone pages (at_same (λ n e r. SpellsImage old.held tables n e r pages) refl same spells) key space (segment ∙ ap (λ (r : RelationEntry). r.segment) same.relation) among;
  }

-- so many image pages fewer as the image has
pub lost_image_counted : {segment asks outs : ℕ} (old new : PagesView) (step : PagesStep (pages_in segment ImageSpace) asks outs old new) {image : Image} {pairs : List (List ℕ)} → AreCounted old → AreCounted new → DestroysImage image old new
    → (tree : ImageTree image old.held pairs) → mapped_of new.mapped ImageSpace new.slots + length (pages_of tree) ≡ mapped_of old.mapped ImageSpace old.slots
lost_image_counted {segment = segment} old new step {pairs = pairs} one two destroys tree = omega (arith, places_same segment old new one two step, (destroys pairs tree).spare)
