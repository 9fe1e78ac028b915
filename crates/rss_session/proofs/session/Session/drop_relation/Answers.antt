use Rattle.std.proofs.Common.{◌≡◌, rules, ap, refl, sym, ◌∙◌, subst, arith}
use Rattle.std.specs.Prelude.{None, is_some}
use Rattle.std.proofs.lemmas.Bool.{true≢false}
use Rattle.rss_base.specs.Listings.{with_relation}
use Rattle.rss_base.specs.declared.name.Name.{Name}
use Rattle.rss_base.specs.declared.call.Call.TheVariants.{DropRelation}
use Rattle.rss_catalog.specs.Catalogs.{HasImageOf, HasLinkOf}
use Rattle.rss_model.specs.Defining.{if_any_open}
use Rattle.rss_stored.proofs.Relisted.{number_within_list}
use Rattle.rss_model.proofs.Tests.{refuses_at}
use Rattle.rss_session.specs.Definitions.{Relists}
use Rattle.rss_session.specs.Definitions.Relists.{drop_relation}
use Rattle.rss_access.proofs.Numbered.{entry_at, name_of}
use Rattle.rss_access.proofs.Recounting.{page_same}
use Rattle.rss_session.proofs.Defined.{refused, relation_lacks, relation_full, relation_imaged, relation_linked, relation_drops, redefines, relation_page, imaged_still}
use Rattle.rss_session.proofs.session.Session.drop_relation.Goals as goal
use Rattle.rss_session.proofs.session.Session.drop_relation.Goals.{then-relation-gt0-via-then-relation-gt0, then-relation-gt0-via-else-relation-gt0+then-has_image_of, then-relation-gt0-via-else-relation-gt0+else-has_image_of+then-has_link_of}

pub returns-in_err-test_rest : goal.returns-in_err-test_rest
returns-in_err-test_rest g c = refused g.S.Pages.view c.args.self.now (DropRelation c.args.name.now) if_any_open c.from_residual.result c.from_residual.ensures.1 (λ state. refuses_at _) c.in_err-test_rest.ensures.tests

pub returns-in_default : goal.returns-in_default
returns-in_default g c = record {
  tests = (λ told state shows. relation_lacks shows c.in_ok-test_rest.ensures.closed c.args.name.now c.in_default.ensures.none, search rules);
  redefines = tt;
  same = refl;
}

pub relation-requires : goal.relation-requires
relation-requires g c = ap is_some (entry_at c.args.self.now.store.catalog.listing c.args.name.now c.in-Some.number c.in-Some.ensures.some).at

pub returns-then-relation-gt0 : goal.returns-then-relation-gt0
returns-then-relation-gt0 g c =
    let entry = c.relation.result.now in
    let named = name_of c.args.self.now.store.catalog.listing c.args.name.now c.in-Some.number entry c.in-Some.ensures.some c.relation.ensures.is in record {
      tests = (
        λ told state shows. elim c.then-relation-gt0.branch [
          | then-relation-gt0-via-then-relation-gt0 w ↦ relation_full shows c.in_ok-test_rest.ensures.closed c.args.name.now c.in-Some.number c.in-Some.ensures.some entry c.relation.ensures.is named w.if-relation-gt0.true
          | then-relation-gt0-via-else-relation-gt0+then-has_image_of w ↦ relation_imaged shows c.in_ok-test_rest.ensures.closed c.args.name.now c.in-Some.number c.in-Some.ensures.some entry c.relation.ensures.is named (w.has_image_of.ensures.0 w.if-has_image_of.true)
          | then-relation-gt0-via-else-relation-gt0+else-has_image_of+then-has_link_of w ↦ relation_linked shows c.in_ok-test_rest.ensures.closed c.args.name.now c.in-Some.number c.in-Some.ensures.some entry c.relation.ensures.is named (w.has_link_of.ensures.0 w.if-has_link_of.true)
        ],
        search rules,
      );
      redefines = tt;
      same = refl;
    }

pub remove-requires-clause-no_link : goal.remove-requires-clause-no_link
remove-requires-clause-no_link g c = λ relation has. true≢false (sym (c.has_link_of.ensures.1 has) ∙ c.if-has_link_of.false)

pub returns : goal.returns
returns g c =
    let listing = c.args.self.now.store.catalog.listing in
    let entry = c.relation.result.now in
    let number = c.in-Some.number in
    let named = name_of listing c.args.name.now number entry c.in-Some.ensures.some c.relation.ensures.is in
    let within = number_within_list listing.relations number entry c.relation.ensures.is in
    let none : HasImageOf listing number → ⊥ = λ has. true≢false (sym (c.has_image_of.ensures.1 has) ∙ c.if-has_image_of.false) in
    let unlinked : HasLinkOf listing number → ⊥ = λ has. true≢false (sym (c.has_link_of.ensures.1 has) ∙ c.if-has_link_of.false) in
    let empty : entry.live ≡ 0 = omega (arith, c.if-relation-gt0.false) in record {
      tests = λ told state shows. relation_drops shows c.in_ok-test_rest.ensures.closed c.args.name.now number c.in-Some.ensures.some entry c.relation.ensures.is named empty none unlinked;
      redefines = redefines _ (λ fits. relation_page number (omega (arith, within.1, fits.relation_places))) (subst (λ (n : Name). Relists listing (DropRelation n) (with_relation listing number None)) named (drop_relation number entry c.relation.ensures.is empty none)) c.remove.ensures.lists (λ k low. page_same listing number None k) (c.remove.ensures.fits (λ e. absurd (cc))) (imaged_still listing number None within.0 none) c.in_ok-test_rest.ensures.closed
          (record { tuples = refl; log = refl; root = refl; number = refl; opened = refl; heap = refl; surviving = refl; entries = refl; survived = refl });
      same = tt;
    }
