use Rattle.std.proofs.Common.{Some, ◌∙◌, sym, rules, refl, arith}
use Rattle.std.proofs.lemmas.Bool.{true≢false}
use Rattle.rss_base.specs.declared.call.Call.TheVariants.{MakeSegment}
use Rattle.rss_model.specs.Defining.{if_any_open}
use Rattle.rss_model.proofs.Tests.{refuses_at}
use Rattle.rss_session.specs.Definitions.Relists.{segment}
use Rattle.rss_session.proofs.Defined.{found, not_found, refused, segment_taken, segment_many, segment_may, redefines, segment_pages}
use Rattle.rss_session.proofs.session.Session.make_segment.Goals as goal

pub returns-in_err-test_rest : goal.returns-in_err-test_rest
returns-in_err-test_rest g c = refused g.S.Pages.view c.args.self.now (MakeSegment c.args.name.now) if_any_open c.from_residual.result c.from_residual.ensures.1 (λ state. refuses_at _) c.in_err-test_rest.ensures.tests

pub returns-then-is_some : goal.returns-then-is_some
returns-then-is_some g c =
    let some = found c.find.result c.find.ensures.some (sym c.is_some.ensures ∙ c.if-is_some.true) in record {
      tests = (λ told state shows. segment_taken shows c.in_ok-test_rest.ensures.closed c.args.name.now some.0 some.1, search rules);
      redefines = tt;
      same = refl;
    }

pub returns-then-is_full : goal.returns-then-is_full
returns-then-is_full g c =
    let fresh = not_found c.find.result c.find.ensures.none (sym c.is_some.ensures ∙ c.if-is_some.false) in record {
      tests = (λ told state shows. segment_many shows c.in_ok-test_rest.ensures.closed c.args.name.now fresh (c.is_full.ensures.0 c.if-is_full.true), search rules);
      redefines = tt;
      same = refl;
    }

pub returns : goal.returns
returns g c =
    let fresh = not_found c.find.result c.find.ensures.none (sym c.is_some.ensures ∙ c.if-is_some.false) in record {
      tests = λ told state shows. segment_may shows c.in_ok-test_rest.ensures.closed c.args.name.now fresh (λ all. true≢false (sym (c.is_full.ensures.1 all) ∙ c.if-is_full.false));
      redefines = redefines 0 (λ fits. omega arith) (segment c.args.name.now c.add_segment.result fresh c.add_segment.ensures.least) c.add_segment.ensures.lists (λ k low. segment_pages c.args.self.now.store.catalog.listing c.add_segment.result (Some c.args.name.now) k) c.add_segment.ensures.fits (λ k image at. refl) c.in_ok-test_rest.ensures.closed
          (record { tuples = refl; log = refl; root = refl; number = refl; opened = refl; heap = refl; surviving = refl; entries = refl; survived = refl });
      same = tt;
    }
