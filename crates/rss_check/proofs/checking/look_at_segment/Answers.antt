use Rattle.std.proofs.Common.{◌≡◌, Err, false, ℕ, ◌-◌, [], get_or, sym, ◌∙◌, ap, subst, arith}
use Rattle.std.specs.Prelude.{is_some}
use Rattle.rss_base.specs.declared.fault.PageFault.TheVariants.{Damaged as PageDamaged}
use Rattle.rss_base.proofs.Looking.{passed_on}
use Rattle.rss_tuple.proofs.Flaws.{flaw_unsound, page_unsound}
use Rattle.rss_access.specs.Bodies.{is_body}
use Rattle.rss_check.proofs.Census.{seen_first, count_right, count_wrong, used_within}
use Rattle.rss_check.specs.Checks.{IsCountOf}
use Rattle.rss_check.specs.Lines.{IsFirst}
use Rattle.rss_check.specs.Tuples.{BreaksIn}
use Rattle.rss_check.proofs.SegmentFirst.{pages_right, page_least, flaw_first, count_first, segment_unbroken}
use Rattle.rss_check.proofs.checking.look_at_segment.Goals as goal

pub returns-in_err-flaw-clause-misses : goal.returns-in_err-flaw-clause-misses
returns-in_err-flaw-clause-misses g c = λ place is.
    let error = passed_on _ c.from_residual.ensures.1 is in
    record {
      is_not = λ told sound. page_unsound (g.P.Pages.view c.args.pages.now).held c.args.segment (is_body c.args.catalog.now.listing c.args.segment) sound.sound place (c.in_err-flaw.ensures.damaged place error told);
      elsewhere = λ room. c.in_err-flaw.ensures.elsewhere (error ∙ ap (λ (p : _). Err (PageDamaged p)) room);
    }

pub returns-in-Some-clause-wrong : goal.returns-in-Some-clause-wrong
returns-in-Some-clause-wrong g c = record {
  is_not = λ told sound. flaw_unsound (g.P.Pages.view c.args.pages.now).held c.args.segment (is_body c.args.catalog.now.listing c.args.segment) sound.sound c.in-Some.flaw ((rw c.in-Some.is at c.in_ok-flaw.ensures.flaw) told);
  elsewhere = c.flaw_place.ensures.elsewhere;
}

pub returns-then-not-has_count-clause-wrong : goal.returns-then-not-has_count-clause-wrong
returns-then-not-has_count-clause-wrong g c = record {
  is_not = λ told sound.
      let seen = ((rw c.in_default.is at c.in_ok-flaw.ensures.saw) told).rows [] seen_first in
      let no : c.has_count.result ≡ false = (let not = c.if-not-has_count.true in cc) in
      c.has_count.ensures.no no (count_wrong c.args.catalog.now.listing c.args.segment c.loop-number.number (g.P.Pages.view c.args.pages.now).held (g.P.Pages.view c.args.pages.now).slots _ (ap (λ (n : ℕ). get_or c.check.new.visitor.live (n - 1) 0) c.from.ensures ∙ seen.right c.loop-number.number (omega arith) (omega arith)) sound);
  elsewhere = λ room. cc (room);
}

pub returns-clause-checks : goal.returns-clause-checks
returns-clause-checks g c = record {
  is = λ told. record {
    sound = (rw c.in_default.is at c.in_ok-flaw.ensures.sound) told;
    counts = λ number relation at within.
        let seen = ((rw c.in_default.is at c.in_ok-flaw.ensures.saw) told).rows [] seen_first in
        let low = used_within c.args.catalog.now.listing number c.requires.fits.relation_places (ap is_some at) in
        count_right c.args.catalog.now.listing c.args.segment number (g.P.Pages.view c.args.pages.now).held (g.P.Pages.view c.args.pages.now).slots (get_or c.check.new.visitor.live (number - 1) 0) (seen.right number low.0 low.1) (c.loop-number.invariant number low.0 (omega (arith, low.1))) relation at within;
  };
  noted = rw c.in_default.is at c.in_ok-flaw.ensures.noted;
}

-- ---- what is broken first

pub returns-in_err-flaw-clause-page : goal.returns-in_err-flaw-clause-page
returns-in_err-flaw-clause-page g c = λ place is told.
    page_least (g.P.Pages.view c.args.pages.now).held (g.P.Pages.view c.args.pages.now).slots c.args.catalog.now.listing c.args.segment c.requires.listed (c.in_err-flaw.ensures.damaged place (passed_on _ c.from_residual.ensures.1 is) told)

pub returns-in-Some-clause-formed : goal.returns-in-Some-clause-formed
returns-in-Some-clause-formed g c = λ told place is.
    pages_right (g.P.Pages.view c.args.pages.now).held (g.P.Pages.view c.args.pages.now).slots c.args.catalog.now.listing c.args.segment c.requires.listed (c.in_ok-flaw.ensures.formed told) is

pub returns-in-Some-clause-first : goal.returns-in-Some-clause-first
returns-in-Some-clause-first g c = λ told few.
    subst (IsFirst (BreaksIn (g.P.Pages.view c.args.pages.now).held (g.P.Pages.view c.args.pages.now).slots c.args.catalog.now.listing c.args.segment)) (sym c.flaw_place.ensures.is)
    (flaw_first (g.P.Pages.view c.args.pages.now).held (g.P.Pages.view c.args.pages.now).slots c.args.catalog.now.listing c.args.segment c.requires.listed (c.in_ok-flaw.ensures.formed told)
    c.in-Some.flaw ((rw c.in-Some.is at c.in_ok-flaw.ensures.flaw) told))

pub returns-then-not-has_count-clause-formed : goal.returns-then-not-has_count-clause-formed
returns-then-not-has_count-clause-formed g c = λ told place is.
    pages_right (g.P.Pages.view c.args.pages.now).held (g.P.Pages.view c.args.pages.now).slots c.args.catalog.now.listing c.args.segment c.requires.listed (c.in_ok-flaw.ensures.formed told) is

pub returns-then-not-has_count-clause-first : goal.returns-then-not-has_count-clause-first
returns-then-not-has_count-clause-first g c = λ told few.
    let no : c.has_count.result ≡ false = (let not = c.if-not-has_count.true in cc) in
    let seen = ((rw c.in_default.is at c.in_ok-flaw.ensures.saw) told).rows [] seen_first in
    count_first (g.P.Pages.view c.args.pages.now).held (g.P.Pages.view c.args.pages.now).slots c.args.catalog.now.listing c.args.segment c.requires.listed
    ((rw c.in_default.is at c.in_ok-flaw.ensures.sound) told) c.requires.fits c.check.new.visitor.live seen few c.loop-number.number (omega arith) (omega arith) c.loop-number.invariant
    (λ is. c.has_count.ensures.no no (subst (λ (n : ℕ). IsCountOf c.args.catalog.now.listing c.args.segment c.loop-number.number (get_or c.check.new.visitor.live (n - 1) 0)) (sym c.from.ensures) is))

pub returns-clause-formed : goal.returns-clause-formed
returns-clause-formed g c = λ told place is.
    pages_right (g.P.Pages.view c.args.pages.now).held (g.P.Pages.view c.args.pages.now).slots c.args.catalog.now.listing c.args.segment c.requires.listed (c.in_ok-flaw.ensures.formed told) is

pub returns-clause-first : goal.returns-clause-first
returns-clause-first g c = λ told few.
    segment_unbroken (g.P.Pages.view c.args.pages.now).held (g.P.Pages.view c.args.pages.now).slots c.args.catalog.now.listing c.args.segment c.requires.listed ((returns-clause-checks g c).is told)
