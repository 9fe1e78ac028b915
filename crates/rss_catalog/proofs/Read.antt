-- What the pages of a listing read as.
use Rattle.std.proofs.Common.{◌≡◌, ℕ, ◌+◌, ◌-◌, ◌*◌, ◌<◌, ◌≤◌, suc, List, [], ◌∷◌, length, take, drop, get_or, replicate, Option, None, refl, sym, ◌∙◌, ap, arith, mul-zero}
use Rattle.std.specs.Prelude.{map, option_map, flat_map, ◌==◌, nat_le}
use Rattle.std.proofs.lemmas.Bool.{cond-true, cond-false, ne_eqb, le-leb}
use Rattle.std.proofs.lemmas.List.{length-map, length-take, length-drop, take_all, get_or-take, get_or-drop}
use Rattle.rss_base.specs.Sizes.{page_bytes}
use Rattle.rss_base.specs.Listings.{Listing, catalog_page, padded, segment_spelled, relation_spelled, image_spelled, link_spelled, relations_on, images_on}
use Rattle.rss_base.specs.declared.name.Name.{Name}
use Rattle.rss_base.specs.declared.relation.RelationEntry.{RelationEntry}
use Rattle.rss_base.specs.declared.image.ImageEntry.{ImageEntry}
use Rattle.rss_base.specs.declared.link.LinkEntry.{LinkEntry}
use Rattle.rss_catalog.specs.Reading.{pieces, segment_of, relation_of, image_of, link_of}
use Rattle.rss_catalog.specs.Loading.{HasForm, segment_form, relation_form, image_form, link_form}
use Rattle.rss_catalog.specs.Defined.{unrooted, endless, settled, IsListable}
use Rattle.rss_catalog.proofs.Numbered.{has_number, numbered_map}
use Rattle.rss_catalog.proofs.Listed.{few_of}
use Rattle.rss_catalog.proofs.Pieces.{pieces_of, length-pieces}
use Rattle.rss_catalog.proofs.Plain.{images_page_is, links_page_is}
use Rattle.rss_catalog.proofs.Spelled.{IsNamed, segment_long, segment_back, AreFormed, marked_of, names_long, relation_long, relation_back}
use Rattle.rss_catalog.proofs.Imaged.{AreDrawn, drawn_of, image_long, image_back}
use Rattle.rss_catalog.proofs.Linked.{AreTied, tied_of, link_long, link_back}

-- ---- a listing's items

named_at : (listing : Listing) → IsListable listing → (k : ℕ) (d : Option Name) → k < length listing.segments → IsNamed (get_or listing.segments k d)
named_at listing fits k d low name is = fits.fit.segment_names (k + 1) name (has_number listing.segments k d name low is)

formed_at : (listing : Listing) → IsListable listing → (k : ℕ) (d : Option RelationEntry) → k < length listing.relations → AreFormed (get_or listing.relations k d)
formed_at listing fits k d low entry is =
    let fit = fits.fit.relations (k + 1) entry (has_number listing.relations k d entry low is) in
    record { name = fit.name; fields = names_long entry.fields fit.fields.names; few = few_of entry.fields fit.fields; live = fit.live; marked = marked_of entry.fields fit.fields.original }

-- an image of a listing that fits can be read
drawn_at : (listing : Listing) → IsListable listing → (k : ℕ) (d : Option ImageEntry) → k < length listing.images → AreDrawn (get_or listing.images k d)
drawn_at listing fits k d low entry is =
    let at = has_number listing.images k d entry low is in
    drawn_of (settled listing) entry (fits.fit.paths.images (k + 1) (unrooted entry) (numbered_map unrooted listing.images (k + 1) ∙ ap (option_map unrooted) at)) (fits.rooted (k + 1) entry at)

-- and so can a link
tied_at : (listing : Listing) → IsListable listing → (k : ℕ) (d : Option LinkEntry) → k < length listing.links → AreTied (get_or listing.links k d)
tied_at listing fits k d low entry is =
    let at = has_number listing.links k d entry low is in
    tied_of (settled listing) entry (fits.fit.paths.links (k + 1) (endless entry) (numbered_map endless listing.links (k + 1) ∙ ap (option_map endless) at)) (fits.ended (k + 1) entry at)

-- its places
pub images_long : (listing : Listing) → IsListable listing → length listing.images ≡ 128
images_long listing fits = sym (length-map listing.images (option_map unrooted)) ∙ fits.fit.paths.image_places

pub links_long : (listing : Listing) → IsListable listing → length listing.links ≡ 64
links_long listing fits = sym (length-map listing.links (option_map endless)) ∙ fits.fit.paths.link_places

-- what is read of each item that is spelled
all_read : {X : Type 0} (read : List ℕ → X) (spell : X → List ℕ) (xs : List X) → ((k : ℕ) (d : X) → k < length xs → read (spell (get_or xs k d)) ≡ get_or xs k d) → map read (map spell xs) ≡ xs
all_read read spell [] back = refl
all_read read spell (x ∷ xs) back =
    let here : read (spell x) ≡ x = back 0 x (omega arith) in
    let rest = all_read read spell xs (λ k d low. back (suc k) d (omega arith)) in
    λ i. here i ∷ rest i

-- what is read of a page that spells items of one width
page_read : {X : Type 0} (read : List ℕ → X) (spell : X → List ℕ) (width count : ℕ) (items : List X) (d : X) → length items ≡ count → ((k : ℕ) (d : X) → k < length items → length (spell (get_or items k d)) ≡ width) → ((k : ℕ) (d : X) → k < length items → read (spell (get_or items k d)) ≡ get_or items k d)
    → map read (pieces width count (padded page_bytes (flat_map spell items))) ≡ items
page_read read spell width count items d long each back =
    ap (map read) (pieces_of spell width items (replicate (4096 - length (flat_map spell items)) 0) count d each (omega (arith, long)) ∙ ap (map spell) (take_all count items (omega (arith, long))))
    ∙ all_read read spell items back

-- the page of the segments reads as them
pub segments_back : (listing : Listing) → IsListable listing → map segment_of (pieces 16 8 (catalog_page listing 0)) ≡ listing.segments
segments_back listing fits =
    page_read segment_of segment_spelled 16 8 listing.segments None fits.fit.segment_places (λ k d low. segment_long (get_or listing.segments k d) (named_at listing fits k d low)) (λ k d low. segment_back (get_or listing.segments k d) (named_at listing fits k d low))

-- the page of a number that has relations
pub relations_page_is : (listing : Listing) (page : ℕ) → 1 ≤ page → page ≤ 6 → catalog_page listing page ≡ padded page_bytes (flat_map relation_spelled (relations_on listing page))
relations_page_is listing page low high = ap (padded page_bytes) (cond-false (page == 0) _ _ (ne_eqb page 0 (λ is. omega arith)) ∙ cond-true (nat_le page 6) _ _ (le-leb page 6 high))

-- the relations of a page are some of the listing
on_formed : (listing : Listing) → IsListable listing → (page : ℕ) → (k : ℕ) (d : Option RelationEntry) → k < length (relations_on listing page) → AreFormed (get_or (relations_on listing page) k d)
on_formed listing fits page k d low entry is =
    let from = 8 * (page - 1) in
    let few = length-take 8 (drop from listing.relations) in
    let rest = length-drop from listing.relations in
    formed_at listing fits (from + k) d (omega (arith, few, rest, low)) entry (sym (get_or-take 8 (drop from listing.relations) k d (omega (arith, few, low)) ∙ get_or-drop from listing.relations k d) ∙ is)

pub relations_back : (listing : Listing) (page : ℕ) → IsListable listing → 1 ≤ page → page ≤ 6 → map relation_of (pieces 512 8 (catalog_page listing page)) ≡ relations_on listing page
relations_back listing page fits low high =
    let items = relations_on listing page in
    let long : length items ≡ 8 = length-take 8 (drop (8 * (page - 1)) listing.relations) ∙ omega (arith, length-drop (8 * (page - 1)) listing.relations, fits.fit.relation_places) in
    ap (λ (bytes : List ℕ). map relation_of (pieces 512 8 bytes)) (relations_page_is listing page low high)
    ∙ page_read relation_of relation_spelled 512 8 items None long (λ k d within. relation_long (get_or items k d) (on_formed listing fits page k d within)) (λ k d within. relation_back (get_or items k d) (on_formed listing fits page k d within))

-- the images of a page are some of the listing
on_drawn : (listing : Listing) → IsListable listing → (page : ℕ) → (k : ℕ) (d : Option ImageEntry) → k < length (images_on listing page) → AreDrawn (get_or (images_on listing page) k d)
on_drawn listing fits page k d low entry is =
    let from = 64 * (page - 1 - 6) in
    let few = length-take 64 (drop from listing.images) in
    let rest = length-drop from listing.images in
    drawn_at listing fits (from + k) d (omega (arith, few, rest, low)) entry (sym (get_or-take 64 (drop from listing.images) k d (omega (arith, few, low)) ∙ get_or-drop from listing.images k d) ∙ is)

pub images_back : (listing : Listing) (page : ℕ) → IsListable listing → 6 < page → page ≤ 8 → map image_of (pieces 64 64 (catalog_page listing page)) ≡ images_on listing page
images_back listing page fits low high =
    let items = images_on listing page in
    let from = 64 * (page - 1 - 6) in
    let long : length items ≡ 64 = length-take 64 (drop from listing.images) ∙ omega (arith, length-drop from listing.images, images_long listing fits) in
    ap (λ (bytes : List ℕ). map image_of (pieces 64 64 bytes)) (images_page_is listing page low high)
    ∙ page_read image_of image_spelled 64 64 items None long (λ k d within. image_long (get_or items k d) (on_drawn listing fits page k d within)) (λ k d within. image_back (get_or items k d) (on_drawn listing fits page k d within))

-- the page of the links reads as all of them
pub links_back : (listing : Listing) → IsListable listing → map link_of (pieces 64 64 (catalog_page listing 9)) ≡ listing.links
links_back listing fits =
    let items = listing.links in
    ap (λ (bytes : List ℕ). map link_of (pieces 64 64 bytes)) (links_page_is listing 9 (omega arith))
    ∙ page_read link_of link_spelled 64 64 items None (links_long listing fits) (λ k d low. link_long (get_or items k d) (tied_at listing fits k d low)) (λ k d low. link_back (get_or items k d) (tied_at listing fits k d low))

-- ---- how entries stand on pages

-- a part that has all of them
pub part_all : {X : Type 0} (items : List X) (count before : ℕ) → length items ≡ count → before ≡ 0 → take count (drop (count * before) items) ≡ items
part_all items count before long none = (λ i. take count (drop (count * none i) items)) ∙ ap (λ (n : ℕ). take count (drop n items)) (mul-zero count) ∙ take_all count items (omega (arith, long))

-- page 0 has segments
pub has_segments : HasForm segment_form 0 1
has_segments = record {
  within = omega arith;
  long = λ bytes. length-map (pieces 16 8 bytes) segment_of ∙ length-pieces 16 8 bytes;
  formed = λ before low listing fits.
      let here : 0 + before ≡ 0 = omega (arith, low) in
      ap (catalog_page listing) here ∙ ap (λ (l : List (Option Name)). padded page_bytes (flat_map segment_spelled l)) (sym (ap (λ (n : ℕ). map segment_of (pieces 16 8 (catalog_page listing n))) here ∙ segments_back listing fits));
  back = λ before low listing fits.
      let here : 0 + before ≡ 0 = omega (arith, low) in
      ap (λ (n : ℕ). map segment_of (pieces 16 8 (catalog_page listing n))) here ∙ segments_back listing fits ∙ sym (part_all listing.segments 8 before fits.fit.segment_places (omega (arith, low)));
}

-- pages 1 to 6 have relations
pub has_relations : HasForm relation_form 1 6
has_relations = record {
  within = omega arith;
  long = λ bytes. length-map (pieces 512 8 bytes) relation_of ∙ length-pieces 512 8 bytes;
  formed = λ before low listing fits.
      relations_page_is listing (1 + before) (omega arith) (omega arith) ∙ ap (λ (l : List (Option RelationEntry)). padded page_bytes (flat_map relation_spelled l)) (sym (relations_back listing (1 + before) fits (omega arith) (omega arith)));
  back = λ before low listing fits. relations_back listing (1 + before) fits (omega arith) (omega arith) ∙ ap (λ (n : ℕ). take 8 (drop (8 * n) listing.relations)) (omega arith);
}

-- pages 7 and 8 have images
pub has_images : HasForm image_form 7 2
has_images = record {
  within = omega arith;
  long = λ bytes. length-map (pieces 64 64 bytes) image_of ∙ length-pieces 64 64 bytes;
  formed = λ before low listing fits.
      images_page_is listing (7 + before) (omega arith) (omega arith) ∙ ap (λ (l : List (Option ImageEntry)). padded page_bytes (flat_map image_spelled l)) (sym (images_back listing (7 + before) fits (omega arith) (omega arith)));
  back = λ before low listing fits. images_back listing (7 + before) fits (omega arith) (omega arith) ∙ ap (λ (n : ℕ). take 64 (drop (64 * n) listing.images)) (omega arith);
}

-- page 9 has links
pub has_links : HasForm link_form 9 1
has_links = record {
  within = omega arith;
  long = λ bytes. length-map (pieces 64 64 bytes) link_of ∙ length-pieces 64 64 bytes;
  formed = λ before low listing fits.
      let here : 9 + before ≡ 9 = omega (arith, low) in
      links_page_is listing (9 + before) (omega arith) ∙ ap (λ (l : List (Option LinkEntry)). padded page_bytes (flat_map link_spelled l)) (sym (ap (λ (n : ℕ). map link_of (pieces 64 64 (catalog_page listing n))) here ∙ links_back listing fits));
  back = λ before low listing fits.
      let here : 9 + before ≡ 9 = omega (arith, low) in
      ap (λ (n : ℕ). map link_of (pieces 64 64 (catalog_page listing n))) here ∙ links_back listing fits ∙ sym (part_all listing.links 64 before (links_long listing fits) (omega (arith, low)));
}
