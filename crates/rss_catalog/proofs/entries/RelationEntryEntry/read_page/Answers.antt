-- What was read last is what the page reads as, and it is compared with the page.
use Rattle.std.proofs.Common.{◌≡◌, ◌∙◌, ap, sym, subst, length, arith, rules, All, List, Option}
use Rattle.std.specs.Prelude.{map}
use Rattle.rss_base.specs.declared.relation.RelationEntry.{RelationEntry}
use Rattle.rss_catalog.specs.Reading.{pieces, relation_of, HasFewFields}
use Rattle.rss_catalog.specs.Loading.{relation_form, page_with}
use Rattle.rss_catalog.proofs.Read.{has_relations}
use Rattle.rss_catalog.proofs.PagesRead.{last_read, few_eight, is_page}
use Rattle.rss_catalog.proofs.entries.RelationEntryEntry.read_page.Goals as goal

pub relations_page-requires-clause-many : goal.relations_page-requires-clause-many
relations_page-requires-clause-many c =
    let first : c.len-first.result ≡ length c.args.entries.now.items = search rules in
    let last = last_read c.args.entries.now.items (map relation_of (pieces 512 8 c.args.page.now)) _ _ _ c.in_ok-read_relations.ensures.read c.deref.ensures.value first in
    omega (arith, ap length last, has_relations.long c.args.page.now)

pub relations_page-requires-clause-few : goal.relations_page-requires-clause-few
relations_page-requires-clause-few c =
    let first : c.len-first.result ≡ length c.args.entries.now.items = search rules in
    subst (λ (l : List (Option RelationEntry)). All HasFewFields l) (sym (last_read c.args.entries.now.items (map relation_of (pieces 512 8 c.args.page.now)) _ _ _ c.in_ok-read_relations.ensures.read c.deref.ensures.value first)) (few_eight c.args.page.now)

pub returns-clause-formed : goal.returns-clause-formed
returns-clause-formed c =
    let first : c.len-first.result ≡ length c.args.entries.now.items = search rules in
    let last = last_read c.args.entries.now.items (map relation_of (pieces 512 8 c.args.page.now)) _ _ _ c.in_ok-read_relations.ensures.read c.deref.ensures.value first in
    is_page c.args.page.now c.relations_page.result _ c.eq.result c.eq.ensures (c.relations_page.ensures ∙ ap (page_with relation_form) last)
