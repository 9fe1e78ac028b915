use Rattle.std.proofs.Common.{◌∙◌, ap, subst, sym, rules, refl, arith}
use Rattle.std.specs.Prelude.{Option, Some, is_some}
use Rattle.std.proofs.lemmas.Bool.{true≢false}
use Rattle.rss_base.specs.Listings.{with_link}
use Rattle.rss_base.specs.declared.call.Call.TheVariants.{MakeLink}
use Rattle.rss_base.specs.declared.name.Name.{Name}
use Rattle.rss_catalog.specs.Catalogs.{link_page}
use Rattle.rss_model.specs.Defining.{if_any_open}
use Rattle.rss_model.proofs.Tests.{refuses_at}
use Rattle.rss_session.specs.Definitions.{Relists, link_entry}
use Rattle.rss_session.specs.Definitions.Relists.{link}
use Rattle.rss_session.proofs.Defined.{found, not_found, refused, refused_as, redefines}
use Rattle.rss_session.proofs.LinkDefined.{named_by, parent_lacks, child_lacks, link_known, link_twice, link_many, link_roles, link_filled, link_may, are_empty, role_left, link_fits}
use Rattle.rss_session.proofs.Linked.{link_pages}
use Rattle.rss_session.proofs.session.Session.make_link.Goals as goal
use Rattle.rss_session.proofs.session.Session.make_link.Goals.{then-is_some-via-then-is_some, then-is_some-via-else-is_some+then-is_parent}

pub returns-in_err-test_rest : goal.returns-in_err-test_rest
returns-in_err-test_rest g c = refused g.S.Pages.view c.args.self.now (MakeLink _ _ _) if_any_open c.from_residual.result c.from_residual.ensures.1 (λ state. refuses_at _) c.in_err-test_rest.ensures.tests

pub returns-in_err-parent : goal.returns-in_err-parent
returns-in_err-parent g c =
    refused_as g.S.Pages.view c.args.self.now (MakeLink _ _ _) c.from_residual-in_err-parent.result c.from_residual-in_err-parent.ensures.1 c.in_err-parent.ensures.refused
    (λ told state shows. parent_lacks shows c.in_ok-test_rest.ensures.closed c.args.name.now c.args.child.now _ c.in_err-parent.ensures.unlisted) (search rules)

pub returns-in_err-child : goal.returns-in_err-child
returns-in_err-child g c =
    refused_as g.S.Pages.view c.args.self.now (MakeLink _ _ _) c.from_residual-in_err-child.result c.from_residual-in_err-child.ensures.1 c.in_err-child.ensures.refused
    (λ told state shows. child_lacks shows c.in_ok-test_rest.ensures.closed c.args.name.now c.args.child.now _ c.in_err-child.ensures.unlisted) (search rules)

pub returns-then-is_some : goal.returns-then-is_some
returns-then-is_some g c =
    let are = named_by c.args.self.now.store.catalog.listing _ _ _ _ c.in_ok-parent.ensures.known c.in_ok-child.ensures.known in record {
      tests = (
        λ told state shows. elim c.then-is_some.branch [
          | then-is_some-via-then-is_some w ↦
              let some = found c.find.result c.find.ensures.some (sym c.is_some.ensures ∙ w.if-is_some.true) in
              link_known shows c.in_ok-test_rest.ensures.closed are c.args.name.now some.0 some.1
          | then-is_some-via-else-is_some+then-is_parent w ↦
              let fresh = not_found c.find.result c.find.ensures.none (sym c.is_some.ensures ∙ w.if-is_some.false) in
              link_twice shows c.in_ok-test_rest.ensures.closed are c.args.name.now fresh (sym w.is_parent.ensures ∙ w.if-is_parent.true)
        ],
        search rules,
      );
      redefines = tt;
      same = refl;
    }

pub returns-then-is_full : goal.returns-then-is_full
returns-then-is_full g c =
    let are = named_by c.args.self.now.store.catalog.listing _ _ _ _ c.in_ok-parent.ensures.known c.in_ok-child.ensures.known in
    let fresh = not_found c.find.result c.find.ensures.none (sym c.is_some.ensures ∙ c.if-is_some.false) in record {
      tests = (λ told state shows. link_many shows c.in_ok-test_rest.ensures.closed are c.args.name.now fresh (sym c.is_parent.ensures ∙ c.if-is_parent.false) (c.is_full.ensures.0 c.if-is_full.true), search rules);
      redefines = tt;
      same = refl;
    }

pub returns-then-has_no_role_left : goal.returns-then-has_no_role_left
returns-then-has_no_role_left g c =
    let are = named_by c.args.self.now.store.catalog.listing _ _ _ _ c.in_ok-parent.ensures.known c.in_ok-child.ensures.known in
    let fresh = not_found c.find.result c.find.ensures.none (sym c.is_some.ensures ∙ c.if-is_some.false) in record {
      tests = (
        λ told state shows.
            link_roles shows c.in_ok-test_rest.ensures.closed are c.args.name.now fresh (sym c.is_parent.ensures ∙ c.if-is_parent.false) (λ all. true≢false (sym (c.is_full.ensures.1 all) ∙ c.if-is_full.false))
            (sym c.has_no_role_left.ensures ∙ c.if-has_no_role_left.true),
        search rules,
      );
      redefines = tt;
      same = refl;
    }

pub has_tuples-requires-clause-child : goal.has_tuples-requires-clause-child
has_tuples-requires-clause-child g c = ap is_some (named_by c.args.self.now.store.catalog.listing _ _ _ _ c.in_ok-parent.ensures.known c.in_ok-child.ensures.known).at

pub has_tuples-requires-clause-parent : goal.has_tuples-requires-clause-parent
has_tuples-requires-clause-parent g c = (named_by c.args.self.now.store.catalog.listing _ _ _ _ c.in_ok-parent.ensures.known c.in_ok-child.ensures.known).upper

pub returns-then-has_tuples : goal.returns-then-has_tuples
returns-then-has_tuples g c =
    let are = named_by c.args.self.now.store.catalog.listing _ _ _ _ c.in_ok-parent.ensures.known c.in_ok-child.ensures.known in
    let fresh = not_found c.find.result c.find.ensures.none (sym c.is_some.ensures ∙ c.if-is_some.false) in record {
      tests = (
        λ told state shows.
            link_filled shows c.in_ok-test_rest.ensures.closed are c.args.name.now fresh (sym c.is_parent.ensures ∙ c.if-is_parent.false) (λ all. true≢false (sym (c.is_full.ensures.1 all) ∙ c.if-is_full.false))
            (sym c.has_no_role_left.ensures ∙ c.if-has_no_role_left.false) (sym c.has_tuples.ensures ∙ c.if-has_tuples.true),
        search rules,
      );
      redefines = tt;
      same = refl;
    }

pub add_link-requires-clause-entry : goal.add_link-requires-clause-entry
add_link-requires-clause-entry g c =
    let are = named_by c.args.self.now.store.catalog.listing _ _ _ _ c.in_ok-parent.ensures.known c.in_ok-child.ensures.known in
    link_fits c.args.self.now.store.catalog.listing c.args.name.now c.requires are (sym c.is_parent.ensures ∙ c.if-is_parent.false)

pub add_link-requires-clause-roles : goal.add_link-requires-clause-roles
add_link-requires-clause-roles g c = role_left c.args.self.now.store.catalog.listing c.args.name.now _ _ (sym c.has_no_role_left.ensures ∙ c.if-has_no_role_left.false)

pub returns : goal.returns
returns g c =
    let listing = c.args.self.now.store.catalog.listing in
    let name = c.args.name.now in
    let parent = c.in_ok-parent.parent in
    let child = c.in_ok-child.child in
    let number = c.add_link.result in
    let are = named_by listing _ _ parent child c.in_ok-parent.ensures.known c.in_ok-child.ensures.known in
    let fresh = not_found c.find.result c.find.ensures.none (sym c.is_some.ensures ∙ c.if-is_some.false) in
    let filled = sym c.has_tuples.ensures ∙ c.if-has_tuples.false in record {
      tests = λ told state shows.
          link_may shows c.in_ok-test_rest.ensures.closed are name fresh (sym c.is_parent.ensures ∙ c.if-is_parent.false) (λ all. true≢false (sym (c.is_full.ensures.1 all) ∙ c.if-is_full.false))
          (sym c.has_no_role_left.ensures ∙ c.if-has_no_role_left.false) filled;
      redefines = redefines link_page (λ fits. omega arith)
          (subst (λ (its : Option Name × Name). Relists listing (MakeLink name its.0 its.1) (with_link listing number (Some (link_entry name parent child)))) (λ i. (are.above i, are.named i))
          (link name parent child number are.relation are.at fresh c.add_link.ensures.least (are_empty listing (link_entry name parent child) filled)))
          c.add_link.ensures.lists (link_pages listing number (Some (link_entry name parent child))) c.add_link.ensures.fits (λ k image at. refl) c.in_ok-test_rest.ensures.closed
          (record { tuples = refl; log = refl; root = refl; number = refl; opened = refl; heap = refl; surviving = refl; entries = refl; survived = refl });
      same = tt;
    }
