use Rattle.std.proofs.Common.{◌<◌, refl, subst, arith}
use Rattle.rss_base.specs.Paged.{Held, page_key}
use Rattle.rss_base.specs.Steps.{only}
use Rattle.rss_base.proofs.Steps.{is_in}
use Rattle.rss_base.proofs.Looking.{looks_then, looks_within}
use Rattle.rss_tuple.specs.Flaws.{NamesPage}
use Rattle.rss_tuple.proofs.Spots.{low_number}
use Rattle.rss_tuple.proofs.Looks.{looks_done, looks_call, looks_wider, looks_fails}
use Rattle.rss_tuple.proofs.LookedAll.{right_next, right_more, right_rest}
use Rattle.rss_tuple.proofs.Wrong.{names_next, right_onward, right_looked}
use Rattle.rss_tuple.proofs.checking.look_at_forms.Goals as goal
use Rattle.rss_tuple.proofs.checking.look_at_forms.Goals.{In-Some}

-- the page that is looked at has a number below the slots
low : (g : _) (c : In-Some g) → c.in-Some.number < (g.P.Pages.view c.args.pages.now).slots
low g c =
    let below = low_number (g.P.Pages.view c.loop-number.pages).slots c.args.segment c.args.space c.in-Some.number c.requires.space (g.met.P.Pages.allowed c.loop-number.pages (page_key c.args.segment c.args.space c.in-Some.number) c.in-Some.ensures.some.has) in
    omega (arith, below, c.loop-number.invariant.looks.step.passes.slots)

pub returns-in_err-look_at-clause-did : goal.returns-in_err-look_at-clause-did
returns-in_err-look_at-clause-did g c =
    let so = c.loop-number.invariant in
    let first = c.in-Some.ensures.some in
    let later = first.later in
    let over = so.later in
    let below = low g (goal.at.returns-in_err-look_at-clause-did g c).In-Some in
    let old = g.P.Pages.view c.args.pages.now in
    looks_fails _ c.from_residual.ensures.1 (looks_wider (λ key is. is) (omega arith) (λ told place names. names)
    (looks_call {asks_then = 1} so.looks (λ told place names. names_next old.held c.args.segment c.args.space c.args.first c.in-Some.number (omega arith)
    (right_next c.args.segment c.args.space c.args.first c.loop-number.from c.in-Some.number so.looks (λ told key. g.met.P.Pages.holds c.args.pages.now told key) first.none_before told (so.formed told))
    (subst (λ (h : Held). NamesPage h (only (page_key c.args.segment c.args.space c.in-Some.number)) place) (so.looks.held told) names))
    (looks_wider (is_in (page_key c.args.segment c.args.space c.in-Some.number) refl) (omega arith) (λ told place names. names) c.in_err-look_at.ensures.did)))

pub loop-number-preserved : goal.loop-number-preserved
loop-number-preserved g c =
    let so = c.loop-number.invariant in
    let last = c.in_ok-look_at.ensures in
    let first = c.in-Some.ensures.some in
    let later = first.later in
    let over = so.later in
    let old = g.P.Pages.view c.args.pages.now in
    record {
      low = let below = low g (goal.at.loop-number-preserved g c).In-Some in omega arith;
      later = omega arith;
      looks = looks_within (λ key is. is) (omega arith) (looks_then so.looks (looks_within {asks_now = 1} (is_in (page_key c.args.segment c.args.space c.in-Some.number) refl) (omega arith) last.did.looks));
      formed = λ told. right_more c.args.segment c.args.space c.args.first c.loop-number.from c.in-Some.number so.looks (λ told key. g.met.P.Pages.holds c.args.pages.now told key) first.none_before told (so.formed told)
          (right_looked old.held (page_key c.args.segment c.args.space c.in-Some.number) _ _ _ (so.looks.held told) (so.looks.step.passes.leaves.told.0 told) last.looks);
    }

pub returns-clause-formed : goal.returns-clause-formed
returns-clause-formed g c = λ told.
    let so = c.loop-number.invariant in
    right_onward (g.P.Pages.view c.args.pages.now).held c.args.segment c.args.space c.args.first
    (right_rest c.args.segment c.args.space c.args.first c.loop-number.from so.looks (λ told key. g.met.P.Pages.holds c.args.pages.now told key) c.in_default.ensures.none told (so.formed told))

pub returns-clause-did : goal.returns-clause-did
returns-clause-did g c =
    let so = c.loop-number.invariant in
    let low = so.low in
    looks_done _ (looks_within (λ key is. is) (omega arith) so.looks)
