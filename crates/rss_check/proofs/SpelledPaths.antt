-- Where tables are spelled that fit, the lines of images and links are broken nowhere.
use Rattle.std.proofs.Common.{◌≡◌, ◌<◌, true}
use Rattle.std.specs.Prelude.{is_some}
use Rattle.rss_base.specs.declared.key.PageKey.{PageKey}
use Rattle.rss_base.specs.declared.key.Space.TheVariants.{Image as ImageSpace}
use Rattle.rss_base.specs.declared.place.Place.{Place}
use Rattle.rss_model.specs.Tables.{Tables}
use Rattle.rss_model.specs.Fits.{Fits}
use Rattle.rss_stored.specs.Store.{SpellsTables, AreNodesWithin}
use Rattle.rss_access.specs.Changes.{AccessView}
use Rattle.rss_access.specs.Checking.{ShowsTuples, IsSound}
use Rattle.rss_access.proofs.RowsHad.{rows_had}
use Rattle.rss_check.specs.Lines.{Line}
use Rattle.rss_check.specs.Rows.{IsUsed}
use Rattle.rss_check.specs.Tuples.{BreaksPaths, image_in, unused_in, link_in}
use Rattle.rss_check.proofs.Found.{AreSound, links_spelled, shows_spelled, sound_spelled}

module _ (at : AccessView) {tables : Tables} (small : at.pages.slots < 4294967296)
    (spells : SpellsTables at.pages.held at.catalog.listing tables)
    (fit : Fits at.pages.slots tables) (nodes : AreNodesWithin at.pages.slots at.pages.held at.catalog.listing) where
  shows : ShowsTuples at tables
  shows = shows_spelled {at = at} spells fit

  sound : AreSound at tables
  sound = sound_spelled {at = at} spells fit nodes

  -- a page of images is one of an image
  used : (key : PageKey) → key.space ≡ ImageSpace → is_some (at.pages.held key) ≡ true
      → IsUsed at.pages.held at.pages.slots at.catalog.listing key
  used key space there =
      let one = spells.images.reached key space there in
      let its : IsSound at tables one.number one.image one.relation = record {
        pages = one.pages;
        spells = one.spells;
        within = λ page node among. nodes one.number one.image one.relation one.at page node;
        single = (sound.each one.number one.image one.relation one.at).single;
      } in
      record {
        number = one.number;
        image = one.image;
        relation = one.relation;
        nodes = one.pages;
        listed = one.at;
        rows = rows_had {at = at} small shows one.at its;
        segment = one.segment;
        among = one.among;
      }

  pub none_paths : {line : Line} {place : Place}
      → BreaksPaths at.pages.held at.pages.slots at.catalog.listing line place → ⊥
  none_paths (image_in number image relation listed not) =
      not (sound.each number image relation listed).pages
      (rows_had {at = at} small shows listed (sound.each number image relation listed))
  none_paths (unused_in key space there not) =
      let one = used key space there in
      not one.number one.image one.relation one.nodes one.listed one.rows one.segment one.among
  none_paths (link_in number link listed not) =
      let has = links_spelled {at = at} spells fit small number link listed in
      not (record { lists = has.chains.lists; spells = has.chains.spells; no_ends = has.no_ends })
