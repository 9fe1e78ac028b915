use Rattle.std.proofs.Common.{◌≡◌, ◌∙◌, subst, sym, rules, refl, arith}
use Rattle.std.specs.Prelude.{Some, None}
use Rattle.rss_base.specs.Listings.{with_link}
use Rattle.rss_base.specs.declared.call.Call.TheVariants.{DropLink}
use Rattle.rss_base.specs.declared.name.Name.{Name}
use Rattle.rss_base.specs.declared.refusal.Refusal.TheVariants.{NotEmpty}
use Rattle.rss_catalog.specs.Catalogs.{link_page}
use Rattle.rss_model.specs.Defining.{if_any_open}
use Rattle.rss_model.specs.Steps.{refusal}
use Rattle.rss_model.proofs.Tests.{refuses_at}
use Rattle.rss_session.specs.Definitions.{Relists}
use Rattle.rss_session.specs.Definitions.Relists.{drop_link}
use Rattle.rss_session.proofs.Defined.{refused, redefines}
use Rattle.rss_session.proofs.LinkDefined.{link_named_so, link_lacks, drop_filled, drop_passes, are_empty}
use Rattle.rss_session.proofs.Linked.{link_pages}
use Rattle.rss_session.proofs.session.Session.drop_link.Goals as goal

pub returns-in_err-test_rest : goal.returns-in_err-test_rest
returns-in_err-test_rest g c = refused g.S.Pages.view c.args.self.now (DropLink _) if_any_open c.from_residual.result c.from_residual.ensures.1 (λ state. refuses_at _) c.in_err-test_rest.ensures.tests

pub returns-in_default : goal.returns-in_default
returns-in_default g c = record {
  tests = (λ told state shows. link_lacks shows c.in_ok-test_rest.ensures.closed c.args.name.now c.in_default.ensures.none, search rules);
  redefines = tt;
  same = refl;
}

pub returns-then-has_tuples : goal.returns-then-has_tuples
returns-then-has_tuples g c =
    let named = link_named_so c.args.self.now.store.catalog.listing c.args.name.now c.in-Some.number c.in-Some.ensures.some c.link-link.ensures.is in record {
      tests = (
        λ told state shows.
            subst (λ (n : Name). refusal state (DropLink n) ≡ Some NotEmpty) named (drop_filled shows c.in_ok-test_rest.ensures.closed c.in-Some.number c.link-link.ensures.is (sym c.has_tuples.ensures ∙ c.if-has_tuples.true)),
        search rules,
      );
      redefines = tt;
      same = refl;
    }

pub returns : goal.returns
returns g c =
    let listing = c.args.self.now.store.catalog.listing in
    let number = c.in-Some.number in
    let its = c.link-link.result.now in
    let named = link_named_so listing c.args.name.now number c.in-Some.ensures.some c.link-link.ensures.is in
    let filled = sym c.has_tuples.ensures ∙ c.if-has_tuples.false in record {
      tests = λ told state shows. subst (λ (n : Name). refusal state (DropLink n) ≡ None) named (drop_passes shows c.in_ok-test_rest.ensures.closed number c.link-link.ensures.is filled);
      redefines = redefines link_page (λ fits. omega arith)
          (subst (λ (n : Name). Relists listing (DropLink n) (with_link listing number None)) named (drop_link number its c.link-link.ensures.is (are_empty listing its filled)))
          c.remove.ensures.lists (link_pages listing number None) (c.remove.ensures.fits (λ e. absurd (cc))) (λ k image at. refl) c.in_ok-test_rest.ensures.closed
          (record { tuples = refl; log = refl; root = refl; number = refl; opened = refl; heap = refl; surviving = refl; entries = refl; survived = refl });
      same = tt;
    }
