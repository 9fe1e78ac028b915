-- How many pages images have and may have, where a tuple changes: there is room in each of them.
use Rattle.std.proofs.Common.{◌≡◌, ◌<◌, ◌≤◌, ◌+◌, ◌-◌, ℕ, suc, Bool, true, false, cond, List, [], ◌∷◌, length, get_or, map as list_map, refl, sym, ◌∙◌, ap, subst, arith, ⊎_elim}
use Rattle.std.specs.Prelude.{Option, Some, None, is_some, Contains, ◌==◌}
use Rattle.std.specs.Ordering.{nat_cmp, is_lt, is_eq}
use Rattle.std.specs.Cmp.Lexicographic.{slice_cmp}
use Rattle.std.proofs.lemmas.Bool.{cases_lt, eq-eqb, cond-true}
use Rattle.std.proofs.lemmas.List.{length-map}
use Rattle.std.proofs.lemmas.List.Sums.{sum_by-set}
use Rattle.std.proofs.lemmas.Option.{same_Some}
use Rattle.rss_base.specs.PageMap.{page_count}
use Rattle.rss_base.specs.Paged.{Held, Mapped, Backing, page_key, mapped_of, mapped_in, mapped_pages}
use Rattle.rss_base.specs.Steps.{PagesView, PagesStep, AreCounted, pages_in}
use Rattle.rss_base.specs.Listings.{Listing, ListingFits, relation_at, image_at, with_image, with_root}
use Rattle.rss_base.specs.declared.key.PageKey.{PageKey}
use Rattle.rss_base.specs.declared.key.Space.{Space}
use Rattle.rss_base.specs.declared.key.Space.TheVariants.{Home, Overflow, Image as ImageSpace, System}
use Rattle.rss_base.specs.declared.tid.Tid.{Tid}
use Rattle.rss_base.specs.declared.value.Value.{Value}
use Rattle.rss_base.specs.declared.image.ImageEntry.{ImageEntry}
use Rattle.rss_base.specs.declared.relation.RelationEntry.{RelationEntry}
use Rattle.rss_levels.specs.Entries.{IsIn}
use Rattle.rss_levels.specs.Spots.{with_pair}
use Rattle.rss_levels.specs.Removes.{without_pair}
use Rattle.rss_node.specs.Nodes.{AreNodes}
use Rattle.rss_image.specs.Images.{nodes_of, ImageTree, pages_of, page_bound}
use Rattle.rss_image.proofs.Putting.{spell_one}
use Rattle.rss_model.specs.Tables.{Tables}
use Rattle.rss_model.specs.Images.{Entry, image_list}
use Rattle.rss_stored.specs.Store.{AreCounts, IsListedImage, SpellsImage, SpellsImages, image_definition, pair_spelled}
use Rattle.rss_model.proofs.LogLists.{by_same}
use Rattle.rss_stored.proofs.Relisted.{number_within_list}
use Rattle.rss_entries.specs.Moving.{KeyKinds, MayMove, pair_with, moved_pairs}
use Rattle.rss_entries.specs.Rooms.{width_of, room_of, image_room, images_room, image_places}
use Rattle.rss_entries.specs.Images.{TupleMove, CanMove, AreTuples, after_move, image_of, key_of, ShowBelow}
use Rattle.rss_model.proofs.ImageCounts.{entries_counted}
use Rattle.rss_entries.proofs.Lists.{byte_list, moved_list, holds_entry, kept_list, list_long}
use Rattle.rss_entries.proofs.Standing.{AreLow, IsRowed, rowed, contained}
use Rattle.rss_entries.proofs.Fitting.{fitting_nodes, nodes_fit}
use Rattle.rss_model.proofs.MappedKeys.{same_mapped_of, same_mapped_in}
use Rattle.rss_entries.proofs.Amounts.{AreHeld, IsHeldIn, pairs_room, room_fits, mapped_few, mapped_but}
use Rattle.rss_entries.proofs.Showing.{at_its_place}

-- ---- as many pairs as tuples

byte_length : (tables : Tables) (image : ImageEntry) (relation : RelationEntry) → length (byte_list tables image relation) ≡ length (image_list tables (image_definition image relation))
byte_length tables image relation = length-map (list_map (pair_spelled image relation) (image_list tables (image_definition image relation))) _ ∙ length-map (image_list tables (image_definition image relation)) (pair_spelled image relation)

-- a pair more at most
longer : (pair : List ℕ) (pairs : List (List ℕ)) → length (with_pair pair pairs) ≡ suc (length pairs)
longer pair [] = refl
longer pair (x ∷ pairs) = by (is_lt (slice_cmp nat_cmp pair x)) (longer pair pairs)
  where
    by : (b : Bool) → length (with_pair pair pairs) ≡ suc (length pairs) → length (cond b (pair ∷ x ∷ pairs) (x ∷ with_pair pair pairs)) ≡ suc (length (x ∷ pairs))
    by true rest = refl
    by false rest = ap (λ (n : ℕ). suc n) rest

shorter : (pair : List ℕ) (pairs : List (List ℕ)) → length (without_pair pair pairs) ≤ length pairs
shorter pair [] = omega arith
shorter pair (x ∷ pairs) = by (is_eq (slice_cmp nat_cmp pair x)) (shorter pair pairs)
  where
    by : (b : Bool) → length (without_pair pair pairs) ≤ length pairs → length (cond b pairs (x ∷ without_pair pair pairs)) ≤ length (x ∷ pairs)
    by true rest = omega arith
    by false rest = omega (arith, rest)

moved_length : (key : KeyKinds) (tid : Tid) (was next : Option (List Value)) (pairs : List (List ℕ)) → length (moved_pairs key tid was next pairs) ≤ length pairs + 1
moved_length key tid None None pairs = omega arith
moved_length key tid (Some old) None pairs = omega (arith, shorter (pair_with key tid old) pairs)
moved_length key tid None (Some new) pairs = omega (arith, longer (pair_with key tid new) pairs)
moved_length key tid (Some old) (Some new) pairs = omega (arith, shorter (pair_with key tid old) pairs, longer (pair_with key tid new) (without_pair (pair_with key tid old) pairs))

-- at least as many as there are
room_least : (number : ℕ) (image : ImageEntry) (relation : RelationEntry) → relation.live ≤ pairs_room number image relation
room_least number image relation = by (image.relation == number)
  where
    by : (b : Bool) → relation.live ≤ cond b (relation.live + 1) relation.live
    by true = omega arith
    by false = omega arith

-- and one more of the relation of the number
room_more : (number : ℕ) (image : ImageEntry) (relation : RelationEntry) → image.relation ≡ number → pairs_room number image relation ≡ relation.live + 1
room_more number image relation its = cond-true (image.relation == number) (relation.live + 1) relation.live (eq-eqb image.relation number its)

-- each image has as many entries as its relation has tuples
abbrev pub AreLong : Listing → Tables → Type 0
AreLong listing tables = (number : ℕ) (image : ImageEntry) (relation : RelationEntry) → IsListedImage listing number image relation → length (image_list tables (image_definition image relation)) ≡ relation.live

pub counted_long : (listing : Listing) (tables : Tables) → AreTuples tables → AreCounts listing tables.contents → AreLong listing tables
counted_long listing tables tuples counts number image relation at =
    entries_counted tables relation.name (image_definition image relation).fields (λ tid held there. let of = tuples relation.name tid held there in (of.values, of.tuple))
    ∙ counts image.relation relation at.within

-- ---- an image that spells its list

-- a page of an image is one of each tree of it
among_tree : {held : Held} {tables : Tables} {number : ℕ} {image : ImageEntry} {relation : RelationEntry} {pages : List ℕ} → AreLow held → AreNodes (nodes_of (image_of number image relation)) → SpellsImage held tables number image relation pages
    → (page : ℕ) → Contains pages page → (pairs : List (List ℕ)) (tree : ImageTree (image_of number image relation) held pairs) → IsIn (pages_of tree) page
among_tree {held = held} {tables = tables} {number = number} {image = image} {relation = relation} {pages = pages} low fit spelled page among pairs tree =
    let rows : IsRowed held tables number image relation pages = rowed low fit spelled in
    let same = (spell_one (image_of number image relation) held (byte_list tables image relation) pairs rows.tree tree).pages_are in
    subst (λ (ns : List ℕ). IsIn ns page) same (rows.same.back page (contained pages page among))

held_in : {held : Held} {tables : Tables} {m : ℕ} {image : ImageEntry} {relation : RelationEntry} {pages : List ℕ} (number : ℕ) → AreLow held → AreNodes (nodes_of (image_of m image relation)) → SpellsImage held tables m image relation pages → length (byte_list tables image relation) ≤ pairs_room number image relation → IsHeldIn held number m image relation
held_in {held = held} {tables = tables} {m = m} {image = image} {relation = relation} {pages = pages} number low fit spelled few =
    let rows : IsRowed held tables m image relation pages = rowed low fit spelled in
    record { pairs = byte_list tables image relation; tree = rows.tree; few = room_fits held number m image relation fit (byte_list tables image relation) rows.tree few }

-- ---- at rest

module _ {held : Held} {listing : Listing} {tables : Tables} (number : ℕ) (low : AreLow held) (fits : ListingFits listing) (long : AreLong listing tables) (spelled : SpellsImages held listing tables) where
  pub rest_held : AreHeld held listing number
  rest_held = record {
    each = λ m image relation at. let one = spelled.each m image relation at in held_in number low (fitting_nodes listing fits m image relation at) one.1
        (omega (arith, byte_length tables image relation, long m image relation at, room_least number image relation));
    reached = λ key space there.
        let one = spelled.reached key space there in
        record {
          number = one.number;
          image = one.image;
          relation = one.relation;
          at = one.at;
          segment = one.segment;
          among = among_tree low (fitting_nodes listing fits one.number one.image one.relation one.at) one.spells key.number one.among;
        };
  }

-- two pages can be taken beside those that images may need
pub two_spare : {listing : Listing} {tables : Tables} (number : ℕ) (pages : PagesView) → AreLow pages.held → ((key : PageKey) → is_some (pages.held key) ≡ pages.mapped key) → ListingFits listing → AreTuples tables → AreCounts listing tables.contents → SpellsImages pages.held listing tables
    → 2 + images_room listing number ≤ image_places pages → 2 ≤ pages.spare
two_spare {listing = listing} {tables = tables} number pages low holds fits tuples counts spelled room =
    let few = mapped_few fits (rest_held number low fits (counted_long listing tables tuples counts) spelled) holds pages.slots in
    omega (arith, room, few)

-- ---- while a tuple changes

module _ {listing : Listing} {tables : Tables} (move : TupleMove) (can : CanMove listing move tables) where
  pub tables_long : AreLong listing tables
  tables_long = list_long move can

  -- as many pairs as there is room for, before the change and after it
  few_before : (m : ℕ) (image : ImageEntry) (relation : RelationEntry) → IsListedImage listing m image relation → length (byte_list tables image relation) ≤ pairs_room move.number image relation
  few_before m image relation at = omega (arith, byte_length tables image relation, tables_long m image relation at, room_least move.number image relation)

  few_after : (m : ℕ) (image : ImageEntry) (relation : RelationEntry) → IsListedImage listing m image relation → length (byte_list (after_move move tables) image relation) ≤ pairs_room move.number image relation
  few_after m image relation at = by_same image.relation move.number
      (λ its.
      let same : move.relation ≡ relation = same_Some _ _ (sym can.listed ∙ ap (relation_at listing) (sym its) ∙ at.within) in
      subst (λ (r : RelationEntry). length (byte_list (after_move move tables) image r) ≤ pairs_room move.number image r) same
      (moved_few (record { at = at.at; within = at.within ∙ ap Some (sym same) }) its))
      (λ other. omega (arith, byte_length (after_move move tables) image relation, ap (λ (es : List Entry). length es) (kept_list move can m image relation at other), tables_long m image relation at, room_least move.number image relation))
    where
      moved_few : IsListedImage listing m image move.relation → image.relation ≡ move.number → length (byte_list (after_move move tables) image move.relation) ≤ pairs_room move.number image move.relation
      moved_few at its = omega (
        arith,
        ap (λ (ps : List (List ℕ)). length ps) (moved_list move can m image at its),
        moved_length (key_of image move.relation) move.tid move.was move.next (byte_list tables image move.relation),
        byte_length tables image move.relation,
        tables_long m image move.relation at,
        room_more move.number image move.relation its,
      )

  module _ {k : ℕ} {held : Held} (low : AreLow held) (show : ShowBelow k held listing move tables) where
    pub show_held : AreHeld held listing move.number
    show_held = record {
      each = λ m image relation at. ⊎_elim
          (λ (before : m < k). held_in move.number low (nodes_fit move can m image relation at) (show.moved m image relation at before).1 (few_after m image relation at))
          (λ (past : k ≤ m). held_in move.number low (nodes_fit move can m image relation at) (show.rest m image relation at past).1 (few_before m image relation at))
          (cases_lt m k);
      reached = λ key space there.
          let one = show.reached key space there in
          record {
            number = one.number;
            image = one.image;
            relation = one.relation;
            at = one.at;
            segment = one.segment;
            among = ⊎_elim
                (λ (before : one.number < k). among_tree low (nodes_fit move can one.number one.image one.relation one.at) (one.moved before) key.number one.among)
                (λ (past : k ≤ one.number). among_tree low (nodes_fit move can one.number one.image one.relation one.at) (one.rest past) key.number one.among)
                (cases_lt one.number k);
          };
    }

    -- no more image pages are mapped than all images have room for
    pub images_few : {mapped : Mapped} → ((key : PageKey) → is_some (held key) ≡ mapped key) → (limit : ℕ) → mapped_of mapped ImageSpace limit ≤ images_room listing move.number
    images_few holds limit = mapped_few can.fits show_held holds limit

  -- the entry may be moved in the next image
  pub may_move : (k : ℕ) (image : ImageEntry) (pages : PagesView) → AreLow pages.held → ((key : PageKey) → is_some (pages.held key) ≡ pages.mapped key) → ShowBelow k pages.held listing move tables → IsListedImage listing k image move.relation → image.relation ≡ move.number
      → images_room listing move.number ≤ image_places pages → MayMove (key_of image move.relation) move.tid move.was (image_of k image move.relation) pages
  may_move k image pages low holds show at its enough =
      let before = show.rest k image move.relation at (omega arith) in
      let rows : IsRowed pages.held tables k image move.relation before.0 = rowed low (nodes_fit move can k image move.relation at) before.1 in
      let count : length (byte_list tables image move.relation) ≡ move.relation.live = byte_length tables image move.relation ∙ tables_long k image move.relation at in
      record {
        pairs = byte_list tables image move.relation;
        tree = rows.tree;
        holds = holds_entry move can k image at its;
        few = omega (arith, count, can.few move.number move.relation can.listed);
        room = λ pairs tree.
            let same : byte_list tables image move.relation ≡ pairs = (spell_one (image_of k image move.relation) pages.held (byte_list tables image move.relation) pairs rows.tree tree).pairs_are in
            let long : length pairs ≡ move.relation.live = ap (λ (ps : List (List ℕ)). length ps) (sym same) ∙ count in
            let bound : page_bound (width_of image move.relation) (length pairs + 1) ≡ room_of move.number image (Some move.relation) =
            ap (page_bound (width_of image move.relation)) (ap (λ (n : ℕ). n + 1) long ∙ sym (room_more move.number image move.relation its)) in
            let but = mapped_but can.fits (show_held low show) holds pages.slots k image move.relation at pairs tree in
            omega (arith, bound, but, enough);
      }

-- ---- what stays the same

-- as many pages can be taken or are images', where image pages alone were touched
pub places_same : (segment : ℕ) {asks outs : ℕ} (old new : PagesView) → AreCounted old → AreCounted new → PagesStep (pages_in segment ImageSpace) asks outs old new → image_places new ≡ image_places old
unfolding mapped_pages
places_same segment old new one two step =
    let slots : new.slots ≡ old.slots = step.passes.slots in
    let homes : mapped_of new.mapped Home new.slots ≡ mapped_of old.mapped Home old.slots = ap (mapped_of new.mapped Home) slots ∙ same_mapped_of old.mapped new.mapped Home old.slots (off Home (λ is. cc)) in
    let overs : mapped_of new.mapped Overflow new.slots ≡ mapped_of old.mapped Overflow old.slots = ap (mapped_of new.mapped Overflow) slots ∙ same_mapped_of old.mapped new.mapped Overflow old.slots (off Overflow (λ is. cc)) in
    let systems : mapped_in new.mapped System 10 0 ≡ mapped_in old.mapped System 10 0 = same_mapped_in old.mapped new.mapped System 10 0 (off System (λ is. cc) 0) in
    let shadows : page_count new.backing.shadow ≡ page_count old.backing.shadow = ap (λ (b : Backing). page_count b.shadow) step.passes.backing in
    omega (arith, one, two, slots, homes, overs, systems, shadows)
  where
    off : (space : Space) → (space ≡ ImageSpace → ⊥) → (s n : ℕ) → new.mapped (page_key s space n) ≡ old.mapped (page_key s space n)
    off space apart s n = step.mapped_off (page_key s space n) (λ touched. apart (ap (λ (key : PageKey). key.space) touched))

-- images need as much room, whatever root one of them has
pub rooms_same : (listing : Listing) (number k : ℕ) (image : ImageEntry) → image_at listing k ≡ Some image → (root levels : ℕ) (listing_now : Listing) → listing_now ≡ with_image listing k (Some (with_root root levels image)) → images_room listing_now number ≡ images_room listing number
rooms_same listing number k image at root levels listing_now is =
    let within = number_within_list listing.images k image at in
    let there : image_room listing number (get_or listing.images (k - 1) None) ≡ image_room listing number (Some image) = ap (image_room listing number) (at_its_place listing.images k image at) in
    let set = sum_by-set (image_room listing number) listing.images (k - 1) (Some (with_root root levels image)) None (omega (arith, within.0, within.1)) in
    ap (λ (l : Listing). images_room l number) is ∙ omega (arith, there, set)
