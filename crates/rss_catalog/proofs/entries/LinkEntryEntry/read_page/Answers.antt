-- What was read last is what the page reads as, and it is compared with the page.
use Rattle.std.proofs.Common.{◌≡◌, ◌∙◌, ap, length, arith, rules}
use Rattle.std.specs.Prelude.{map}
use Rattle.rss_catalog.specs.Reading.{pieces, link_of}
use Rattle.rss_catalog.specs.Loading.{link_form, page_with}
use Rattle.rss_catalog.proofs.Read.{has_links}
use Rattle.rss_catalog.proofs.PagesRead.{last_read, is_page}
use Rattle.rss_catalog.proofs.entries.LinkEntryEntry.read_page.Goals as goal

pub links_page-requires : goal.links_page-requires
links_page-requires c =
    let first : c.len-first.result ≡ length c.args.entries.now.items = search rules in
    let last = last_read c.args.entries.now.items (map link_of (pieces 64 64 c.args.page.now)) _ _ _ c.in_ok-read_links.ensures.read c.deref.ensures.value first in
    omega (arith, ap length last, has_links.long c.args.page.now)

pub returns-clause-formed : goal.returns-clause-formed
returns-clause-formed c =
    let first : c.len-first.result ≡ length c.args.entries.now.items = search rules in
    let last = last_read c.args.entries.now.items (map link_of (pieces 64 64 c.args.page.now)) _ _ _ c.in_ok-read_links.ensures.read c.deref.ensures.value first in
    is_page c.args.page.now c.links_page.result _ c.eq.result c.eq.ensures (c.links_page.ensures ∙ ap (page_with link_form) last)
