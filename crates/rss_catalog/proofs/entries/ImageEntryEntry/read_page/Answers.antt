-- What was read last is what the page reads as, and it is compared with the page.
use Rattle.std.proofs.Common.{◌≡◌, ◌∙◌, ap, length, arith, rules}
use Rattle.std.specs.Prelude.{map}
use Rattle.rss_catalog.specs.Reading.{pieces, image_of}
use Rattle.rss_catalog.specs.Loading.{image_form, page_with}
use Rattle.rss_catalog.proofs.Read.{has_images}
use Rattle.rss_catalog.proofs.PagesRead.{last_read, is_page}
use Rattle.rss_catalog.proofs.entries.ImageEntryEntry.read_page.Goals as goal

pub images_page-requires : goal.images_page-requires
images_page-requires c =
    let first : c.len-first.result ≡ length c.args.entries.now.items = search rules in
    let last = last_read c.args.entries.now.items (map image_of (pieces 64 64 c.args.page.now)) _ _ _ c.in_ok-read_images.ensures.read c.deref.ensures.value first in
    omega (arith, ap length last, has_images.long c.args.page.now)

pub returns-clause-formed : goal.returns-clause-formed
returns-clause-formed c =
    let first : c.len-first.result ≡ length c.args.entries.now.items = search rules in
    let last = last_read c.args.entries.now.items (map image_of (pieces 64 64 c.args.page.now)) _ _ _ c.in_ok-read_images.ensures.read c.deref.ensures.value first in
    is_page c.args.page.now c.images_page.result _ c.eq.result c.eq.ensures (c.images_page.ensures ∙ ap (page_with image_form) last)
