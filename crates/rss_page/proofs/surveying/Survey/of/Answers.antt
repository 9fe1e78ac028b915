use Rattle.std.proofs.Common.{◌≡◌, ℕ, get_or, refl, sym, ap, subst, arith}
use Rattle.rss_page.specs.Marks.{IsWithin}
use Rattle.rss_page.specs.Slotted.{entry_of, length_of}
use Rattle.rss_page.proofs.Claimed.{entry_within}
use Rattle.rss_page.proofs.Walks.{IsSurveyOf, walk_none, walk_fits, walk_more, walk_all}
use Rattle.rss_page.proofs.surveying.Survey.of.Goals as goal

pub loop-slot-init : goal.loop-slot-init
loop-slot-init c = walk_none c.args.page.now _ refl refl refl refl

pub with-found-requires : goal.with-found-requires
with-found-requires c = record {
  within = subst IsWithin (sym c.entry.ensures.spelled) (entry_within (get_or c.args.page.now 0 0) (entry_of c.args.page.now c.loop-slot.slot) (c.requires.spelled c.loop-slot.slot c.loop-slot-test.true).allowed);
  room = omega (arith, ap length_of c.entry.ensures.spelled, walk_fits c.args.page.now c.loop-slot.slot c.loop-slot.found c.requires c.loop-slot-test.true c.loop-slot.invariant);
}

pub loop-slot-preserved : goal.loop-slot-preserved
loop-slot-preserved c = walk_more c.args.page.now c.loop-slot.slot c.entry.result c.loop-slot.found c.with-found.result c.requires.size (c.requires.spelled c.loop-slot.slot c.loop-slot-test.true).allowed c.loop-slot-test.true c.entry.ensures.spelled c.loop-slot.invariant c.with-found.ensures

pub returns : goal.returns
returns c =
    let all : c.loop-slot.slot ≡ 128 = omega arith in
    walk_all c.args.page.now c.loop-slot.found (subst (λ (n : ℕ). IsSurveyOf c.args.page.now n c.loop-slot.found) all c.loop-slot.invariant)
