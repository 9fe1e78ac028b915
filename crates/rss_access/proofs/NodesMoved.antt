-- The identifiers in the nodes of images have pages below a number of slots still, once the entry of a tuple that has such an identifier is moved in one of them.
use Rattle.std.proofs.Common.{◌≡◌, ◌∙◌, ◌<◌, ℕ, Bool, true, sym, ap, subst, arith}
use Rattle.std.specs.Prelude.{List, ◌∷◌, [], All, IfSome, Option, Some, None}
use Rattle.rss_base.specs.DiskRule.{IsTold}
use Rattle.rss_base.specs.Nodes.{Node}
use Rattle.rss_base.specs.Paged.{Held}
use Rattle.rss_base.specs.Steps.{PagesView, PagesStep, pages_in}
use Rattle.rss_base.specs.Trees.{IsNodeAt}
use Rattle.rss_base.specs.TupleTypes.{kinds, chosen, key_bytes, misfit, IsStorable}
use Rattle.rss_base.specs.Listings.{Listing, field_numbers, with_image, with_root}
use Rattle.rss_base.specs.declared.image.ImageEntry.{ImageEntry}
use Rattle.rss_base.specs.declared.key.Space.TheVariants.{Image as ImageSpace}
use Rattle.rss_base.specs.declared.value.FieldForm.{FieldForm}
use Rattle.rss_base.specs.declared.value.Value.{Value}
use Rattle.rss_levels.specs.Entries.{zeros}
use Rattle.rss_levels.specs.Spots.{AreMade}
use Rattle.rss_node.specs.Nodes.{AreNodes}
use Rattle.rss_node.specs.declared.pair.Nodes.{Nodes}
use Rattle.rss_image.specs.Agreement.{base_of}
use Rattle.rss_image.specs.Images.{nodes_of as image_nodes, has_page, AreAllMade}
use Rattle.rss_image.specs.declared.image.Image.{Image}
use Rattle.rss_image.proofs.Kept.{page_pair}
use Rattle.rss_image.proofs.Laid.{zeros_page}
use Rattle.rss_model.specs.Tables.{Tables}
use Rattle.rss_stored.specs.Store.{AreNodesWithin, IsListedImage, nodes_of}
use Rattle.rss_entries.specs.Rooms.{width_of}
use Rattle.rss_entries.specs.Moving.{MovesEntry, MakesEntry, pair_with}
use Rattle.rss_entries.specs.Images.{TupleMove, CanMove, ShowBelow, image_of, key_of}
use Rattle.rss_entries.proofs.Entries.{length-key}
use Rattle.rss_entries.proofs.Fitting.{nodes_fit}
use Rattle.rss_entries.proofs.Showing.{IsPageOf, all_made, nodes_moved, own_node}
use Rattle.rss_entries.proofs.Shown.{IsSpelledTuple, key_fits, pair_is}
use Rattle.rss_entries.proofs.Standing.{AreLow, low_cells}
use Rattle.rss_access.proofs.NodesWithin.{made_below, nodes_below}

module _ {listing : Listing} {tables : Tables} (move : TupleMove) (can : CanMove listing move tables) (k : ℕ) (image : ImageEntry) (at : IsListedImage listing k image move.relation) (slots : ℕ) (named : move.tid.page < slots) where
  abbrev its_image : Image
  its_image = image_of k image move.relation

  abbrev is_good : List ℕ → Bool
  is_good pair = has_page (width_of image move.relation) slots pair

  fit : AreNodes (image_nodes its_image)
  fit = nodes_fit move can k image move.relation at

  zeros_good : is_good (zeros (width_of image move.relation)) ≡ true
  zeros_good = zeros_page (width_of image move.relation) slots (omega (arith, named))

  -- the image's nodes before
  good_before : {held : Held} → AreLow held → AreNodesWithin slots held listing → AreAllMade is_good its_image held
  good_before {held = held} low within pairs tree =
      made_below held (image_nodes its_image) fit (low_cells held low (image_nodes its_image)) slots zeros_good pairs (tree.top ∷ []) tree.lower tree.made
      (ap is_good tree.tree.low ∙ zeros_good, tt) tree.tree.stack (λ page is node node_at. within k image move.relation at page node node_at)

  -- the new pair
  good_pair : (values : List Value) → misfit (kinds move.relation.fields) values ≡ None → All IsStorable values → is_good (pair_with (key_of image move.relation) move.tid values) ≡ true
  good_pair values fits storable =
      let spelled : IsSpelledTuple move.relation move.tid values = record { fit = fits; storable = storable; spelled = can.tid } in
      let fields : List FieldForm = kinds (chosen (field_numbers image) move.relation.fields) in
      let long = length-key fields (chosen (field_numbers image) values) (key_bytes fields (chosen (field_numbers image) values)) (key_fits image move.relation move.tid values spelled) in
      ap is_good (sym (pair_is image move.relation move.tid values))
      ∙ page_pair (width_of image move.relation) slots (key_bytes fields (chosen (field_numbers image) values)) move.tid long can.tid named

  good_next : IfSome move.next (λ values. is_good (pair_with (key_of image move.relation) move.tid values) ≡ true)
  good_next = by move.next can.fit can.next_storable
    where
      by : (next : Option (List Value)) → IfSome next (λ values. misfit (kinds move.relation.fields) values ≡ None) → IfSome next (All IsStorable) → IfSome next (λ values. is_good (pair_with (key_of image move.relation) move.tid values) ≡ true)
      by None fits storable = tt
      by (Some values) fits storable = good_pair values fits storable

  module _ (its : image.relation ≡ move.number) {old new : PagesView} (told : IsTold old.disk) (old_low : AreLow old.held) (new_low : AreLow new.held) (show : ShowBelow k old.held listing move tables)
      (after : Image) (nodes : image_nodes after ≡ image_nodes its_image) (moves : MovesEntry (key_of image move.relation) move.tid move.was move.next its_image after old new)
      (makes : MakesEntry (key_of image move.relation) move.tid move.was move.next its_image after old new)
      {asks outs : ℕ} (step : PagesStep (pages_in move.relation.segment ImageSpace) asks outs old new) (within : AreNodesWithin slots old.held listing) where
    -- and after
    good_after : AreAllMade (has_page after.width slots) after new.held
    good_after pairs tree =
        subst (λ (w : ℕ). AreMade (has_page w slots) ((tree.top ∷ []) ∷ tree.lower)) (sym (ap (λ (n : Nodes). n.width) nodes))
        (all_made move can k image at its told old_low new_low show after nodes moves step makes is_good good_next (good_before old_low within) pairs tree)

    own_within : (page : ℕ) (node : Node) → IsNodeAt new.held (nodes_of k image move.relation) page node → All (λ e. e.tid.page < slots) node.entries
    own_within page node node_at =
        let of : IsPageOf after new.held page = own_node move can k image at its told old_low new_low show after nodes moves step page node node_at in
        nodes_below new.held (image_nodes after) (subst AreNodes (sym nodes) fit) (low_cells new.held new_low (image_nodes after)) slots (zeros_page after.width slots (omega (arith, named)))
        of.pairs (of.tree.top ∷ []) of.tree.lower (good_after of.pairs of.tree) of.tree.tree.stack page of.among node
        (subst (λ (n : Nodes). IsNodeAt new.held (base_of n) page node) (sym nodes) node_at)

    pub nodes_stay : (listing_now : Listing) → listing_now ≡ with_image listing k (Some (with_root after.root after.levels image)) → AreNodesWithin slots new.held listing_now
    nodes_stay listing_now is = nodes_moved move can k image at its told old_low new_low show after nodes moves step (λ (node : Node). All (λ e. e.tid.page < slots) node.entries) own_within within listing_now is
