-- The first page up to which the tables, the images or the links don't fit is that of the listing.
use Rattle.std.proofs.Common.{◌∙◌, sym, arith}
use Rattle.std.proofs.lemmas.Bool.{false≢true}
use Rattle.rss_catalog.specs.Checking.{listing_of}
use Rattle.rss_catalog.proofs.Tested.{HasPlaces, bad_table, all_tables, bad_image, all_images, bad_link, none_bad}
use Rattle.rss_catalog.proofs.checking.first_bad.Goals as goal

pub returns-then-page-lt-IMAGE_PAGE : goal.returns-then-page-lt-IMAGE_PAGE
returns-then-page-lt-IMAGE_PAGE c =
    let listing = listing_of c.args.segment_names.now c.args.relations.now c.args.images.now c.args.links.now in
    let places : HasPlaces listing = record { segments_long = c.requires.segment_places; relations_long = c.requires.relation_places; images_long = c.requires.image_places; links_long = c.requires.link_places } in
    bad_table listing places _ c.first_bad_table-page.ensures (omega arith)

pub returns-then-page-lt-LINK_PAGE : goal.returns-then-page-lt-LINK_PAGE
returns-then-page-lt-LINK_PAGE c =
    let listing = listing_of c.args.segment_names.now c.args.relations.now c.args.images.now c.args.links.now in
    let places : HasPlaces listing = record { segments_long = c.requires.segment_places; relations_long = c.requires.relation_places; images_long = c.requires.image_places; links_long = c.requires.link_places } in
    bad_image listing places _ (all_tables listing places _ c.first_bad_table-page.ensures (omega arith)) c.first_bad_image-page.ensures.first c.first_bad_image-page.ensures.behind (omega arith)

pub returns-then-not-are_links : goal.returns-then-not-are_links
returns-then-not-are_links c =
    let listing = listing_of c.args.segment_names.now c.args.relations.now c.args.images.now c.args.links.now in
    let places : HasPlaces listing = record { segments_long = c.requires.segment_places; relations_long = c.requires.relation_places; images_long = c.requires.image_places; links_long = c.requires.link_places } in
    bad_link listing places (all_tables listing places _ c.first_bad_table-page.ensures (omega arith)) (all_images listing places _ c.first_bad_image-page.ensures.first (omega arith))
    (λ fits. false≢true (sym c.if-not-are_links.true ∙ c.are_links.ensures.1 fits))

pub returns : goal.returns
returns c =
    let listing = listing_of c.args.segment_names.now c.args.relations.now c.args.images.now c.args.links.now in
    let places : HasPlaces listing = record { segments_long = c.requires.segment_places; relations_long = c.requires.relation_places; images_long = c.requires.image_places; links_long = c.requires.link_places } in
    none_bad listing places (all_tables listing places _ c.first_bad_table-page.ensures (omega arith)) (all_images listing places _ c.first_bad_image-page.ensures.first (omega arith)) (c.are_links.ensures.0 c.if-not-are_links.false)
