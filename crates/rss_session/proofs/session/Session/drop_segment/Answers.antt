use Rattle.std.proofs.Common.{None, ◌∙◌, sym, rules, refl, arith}
use Rattle.std.proofs.lemmas.Bool.{true≢false}
use Rattle.rss_base.specs.declared.call.Call.TheVariants.{DropSegment}
use Rattle.rss_catalog.specs.Catalogs.{HasRelationIn}
use Rattle.rss_model.specs.Defining.{if_any_open}
use Rattle.rss_model.proofs.Tests.{refuses_at}
use Rattle.rss_session.specs.Definitions.Relists.{drop_segment}
use Rattle.rss_session.proofs.Defined.{refused, segment_lacks, segment_full, segment_drops, redefines, segment_pages}
use Rattle.rss_session.proofs.session.Session.drop_segment.Goals as goal

pub returns-in_err-test_rest : goal.returns-in_err-test_rest
returns-in_err-test_rest g c = refused g.S.Pages.view c.args.self.now (DropSegment c.args.name.now) if_any_open c.from_residual.result c.from_residual.ensures.1 (λ state. refuses_at _) c.in_err-test_rest.ensures.tests

pub returns-in_default : goal.returns-in_default
returns-in_default g c = record {
  tests = (λ told state shows. segment_lacks shows c.in_ok-test_rest.ensures.closed c.args.name.now c.in_default.ensures.none, search rules);
  redefines = tt;
  same = refl;
}

pub returns-then-has_relation_in : goal.returns-then-has_relation_in
returns-then-has_relation_in g c = record {
  tests = (λ told state shows. segment_full shows c.in_ok-test_rest.ensures.closed c.args.name.now c.in-Some.number c.in-Some.ensures.some (c.has_relation_in.ensures.0 c.if-has_relation_in.true), search rules);
  redefines = tt;
  same = refl;
}

pub returns : goal.returns
returns g c =
    let empty : HasRelationIn c.args.self.now.store.catalog.listing c.in-Some.number → ⊥ = λ has. true≢false (sym (c.has_relation_in.ensures.1 has) ∙ c.if-has_relation_in.false) in record {
      tests = λ told state shows. segment_drops shows c.in_ok-test_rest.ensures.closed c.args.name.now c.in-Some.number c.in-Some.ensures.some empty;
      redefines = redefines 0 (λ fits. omega arith) (drop_segment c.args.name.now c.in-Some.number c.in-Some.ensures.some empty) c.remove.ensures.lists (λ k low. segment_pages c.args.self.now.store.catalog.listing c.in-Some.number None k) (c.remove.ensures.fits (λ is has. empty has)) (λ k image at. refl) c.in_ok-test_rest.ensures.closed
          (record { tuples = refl; log = refl; root = refl; number = refl; opened = refl; heap = refl; surviving = refl; entries = refl; survived = refl });
      same = tt;
    }
