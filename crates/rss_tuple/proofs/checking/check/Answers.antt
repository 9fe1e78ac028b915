use Rattle.std.proofs.Common.{rules, ◌≡◌, ◌+◌, ◌*◌, ℕ, List, Option, sym, ◌∙◌, ap, subst, arith, refl, inr}
use Rattle.std.specs.Prelude.{IfNone, IfSome, Result}
use Rattle.std.proofs.lemmas.List.{take_at}
use Rattle.rss_base.specs.DiskRule.{IsTold}
use Rattle.rss_base.specs.Paged.{Held, page_key}
use Rattle.rss_base.specs.Steps.{pages_in}
use Rattle.rss_base.specs.declared.fault.PageFault.{PageFault}
use Rattle.rss_base.specs.declared.key.Space.TheVariants.{Overflow}
use Rattle.rss_tuple.specs.Checked.{pages_of, IsSound, AreNoted, tuples_of}
use Rattle.rss_tuple.specs.Directory.{homes, overflows}
use Rattle.rss_tuple.specs.Flaws.{ArePagesRight, NamesPage, IsFirstFlaw}
use Rattle.rss_tuple.specs.Looks.{LooksCall, IsNotedAt, AreAllMarked, AreSeen, IsFirstUnmarked, Sees, in_front, nowhere}
use Rattle.rss_tuple.specs.declared.flaw.Flaw.{Flaw}
use Rattle.rss_base.proofs.Looking.{looks_within}
use Rattle.rss_tuple.proofs.Looks.{looks_done, looks_wider, looks_call, looks_fails}
use Rattle.rss_tuple.proofs.Flaws.{none_both, none_flawed, one_flawed}
use Rattle.rss_tuple.proofs.Wrong.{names_home, names_overflow, right_all}
use Rattle.rss_tuple.proofs.Checked.{in_home, in_overflow, entries_right, first_unled, all_sound, all_noted, noted_short, checks}
use Rattle.rss_tuple.proofs.checking.check.Goals as goal
use Rattle.rss_tuple.proofs.checking.check.Goals.{After-look_at_overflows, After-first_flaw}

-- the marks are those that the look at the home pages left
same_marks : (g : _) (c : After-look_at_overflows g) → c.as_slice.result.now ≡ c.look_at_homes.new.led
same_marks g c = c.as_slice.ensures.value ∙ take_at c.look_at_homes.new.led _ c.in-Ok.led.len (c.in_ok-wrong.ensures.size ∙ sym c.slots-slots.ensures ∙ search rules)

-- both looks as one
both : {T : Type 0} {result : Result T PageFault} (g : _) (c : After-look_at_overflows g) → LooksCall (NamesPage (g.P.Pages.view c.look_at_homes.new.pages).held (pages_in c.args.segment Overflow)) (pages_in c.args.segment Overflow) (g.P.Pages.view c.look_at_homes.new.pages).slots (g.P.Pages.view c.look_at_homes.new.pages) (g.P.Pages.view c.look_at_overflows.new.pages) result
    → LooksCall (NamesPage (g.P.Pages.view c.args.pages.now).held (pages_of c.args.segment)) (pages_of c.args.segment) (129 * (g.P.Pages.view c.args.pages.now).slots + (g.P.Pages.view c.look_at_homes.new.pages).slots) (g.P.Pages.view c.args.pages.now) (g.P.Pages.view c.look_at_overflows.new.pages) result
both g c last =
    let old = g.P.Pages.view c.args.pages.now in
    let homes = c.in_ok-wrong.ensures in
    looks_call (looks_within (in_home c.args.segment) (omega arith) homes.did.looks) (λ told place names. names_overflow old.held c.args.segment (homes.formed told)
    (subst (λ (h : Held). NamesPage h (pages_in c.args.segment Overflow) place) (homes.did.looks.held told) names))
    (looks_wider (in_overflow c.args.segment) (omega arith) (λ told place names. names) last)

-- where the device tells its contents, the overflow pages say what they said
told_mid : (g : _) (c : After-look_at_overflows g) → IsTold (g.P.Pages.view c.args.pages.now).disk → IsTold (g.P.Pages.view c.look_at_homes.new.pages).disk
told_mid g c told = c.in_ok-wrong.ensures.did.looks.step.passes.leaves.told.0 told

-- the pages are right
right : (g : _) (c : After-first_flaw g) → IsTold (g.P.Pages.view c.args.pages.now).disk → ArePagesRight (g.P.Pages.view c.args.pages.now).held (pages_of c.args.segment)
right g c told =
    let homes = c.in_ok-wrong.ensures in
    right_all (g.P.Pages.view c.args.pages.now).held c.args.segment (homes.formed told) (subst (λ (h : Held). ArePagesRight h (pages_in c.args.segment Overflow)) (homes.did.looks.held told) (c.in_ok-unled.ensures.formed (homes.did.looks.step.passes.leaves.told.0 told)))

-- the segment is sound
sound_so : (g : _) (c : After-first_flaw g) → c.as_slice.result.now ≡ c.look_at_homes.new.led → (told : IsTold (g.P.Pages.view c.args.pages.now).disk) → AreSeen (homes (g.P.Pages.view c.args.pages.now).held c.args.segment) (overflows (g.P.Pages.view c.args.pages.now).held c.args.segment) (g.V.Visitor.is_good c.args.visitor.now) c.look_at_homes.new.led (in_front (g.P.Pages.view c.args.pages.now).slots 0) → AreAllMarked (g.P.Pages.view c.look_at_homes.new.pages).held c.args.segment c.as_slice.result.now
    → IsSound (g.P.Pages.view c.args.pages.now).held c.args.segment (g.V.Visitor.is_good c.args.visitor.now)
sound_so g c same told seen marked =
    let old = g.P.Pages.view c.args.pages.now in
    let homes = c.in_ok-wrong.ensures in
    all_sound old c.args.segment (g.V.Visitor.is_good c.args.visitor.now) c.look_at_homes.new.led (g.met.P.Pages.holds c.args.pages.now told) (g.met.P.Pages.allowed c.args.pages.now) seen
    (subst (λ (h : Held). AreAllMarked h c.args.segment c.look_at_homes.new.led) (homes.did.looks.held told) (subst (AreAllMarked (g.P.Pages.view c.look_at_homes.new.pages).held c.args.segment) same marked))
    (right g c told)

-- ---- where a look fails

pub returns-in_err-wrong-clause-damaged : goal.returns-in_err-wrong-clause-damaged
returns-in_err-wrong-clause-damaged g c = λ place is told.
    let failed = looks_fails c.from_residual.result c.from_residual.ensures.1 c.in_err-wrong.ensures.did in
    names_home (g.P.Pages.view c.args.pages.now).held c.args.segment (failed.flawed place is told)

pub returns-in_err-wrong-clause-did : goal.returns-in_err-wrong-clause-did
returns-in_err-wrong-clause-did g c =
    let failed = looks_fails c.from_residual.result c.from_residual.ensures.1 c.in_err-wrong.ensures.did in
    record { looks = looks_within (in_home c.args.segment) (omega arith) failed.looks; failed = failed.failed }

pub returns-in_err-unled-clause-damaged : goal.returns-in_err-unled-clause-damaged
returns-in_err-unled-clause-damaged g c =
    let at = (goal.at.returns-in_err-unled-clause-damaged g c).After-look_at_overflows in
    (looks_fails c.from_residual-in_err-unled.result c.from_residual-in_err-unled.ensures.1 (both g at c.in_err-unled.ensures.did)).flawed

pub returns-in_err-unled-clause-did : goal.returns-in_err-unled-clause-did
returns-in_err-unled-clause-did g c =
    let at = (goal.at.returns-in_err-unled-clause-did g c).After-look_at_overflows in
    let same = c.in_ok-wrong.ensures.did.looks.step.passes.slots in
    checks (omega arith) (looks_fails c.from_residual-in_err-unled.result c.from_residual-in_err-unled.ensures.1 (both g at c.in_err-unled.ensures.did))

-- ---- where neither does

pub returns-clause-sound : goal.returns-clause-sound
returns-clause-sound g c =
    let at = (goal.at.returns-clause-sound g c).After-first_flaw in
    let mid = (goal.at.returns-clause-sound g c).After-look_at_overflows in
    let goal_is = IsTold (g.P.Pages.view c.args.pages.now).disk → IsSound (g.P.Pages.view c.args.pages.now).held c.args.segment (g.V.Visitor.is_good c.args.visitor.now) in
    subst (λ (f : Option Flaw). IfNone f goal_is) (sym c.first_flaw.ensures)
    (none_flawed _ _ goal_is _ _ (λ seen led told. sound_so g at (same_marks g mid) told (seen told) (led (told_mid g mid told))) c.in_ok-wrong.ensures.seen c.in_ok-unled.ensures.led)

pub returns-clause-saw : goal.returns-clause-saw
returns-clause-saw g c =
    let goal_is = IsTold (g.P.Pages.view c.args.pages.now).disk → Sees g.V.Visitor.is_good g.V.Visitor.saw c.args.visitor.now c.look_at_homes.new.visitor (tuples_of (g.P.Pages.view c.args.pages.now).held c.args.segment (g.P.Pages.view c.args.pages.now).slots) in
    subst (λ (f : Option Flaw). IfNone f goal_is) (sym c.first_flaw.ensures)
    (none_flawed _ _ goal_is _ _ (λ saw led. saw) c.in_ok-wrong.ensures.saw c.in_ok-unled.ensures.led)

pub returns-clause-noted : goal.returns-clause-noted
returns-clause-noted g c =
    let at = (goal.at.returns-clause-noted g c).After-first_flaw in
    let mid = (goal.at.returns-clause-noted g c).After-look_at_overflows in
    let old = g.P.Pages.view c.args.pages.now in
    let new = g.P.Pages.view c.look_at_overflows.new.pages in
    let homes = c.in_ok-wrong.ensures in
    let goal_is = IsTold old.disk → AreNoted c.args.segment new in
    subst (λ (f : Option Flaw). IfNone f goal_is) (sym c.first_flaw.ensures)
    (none_flawed _ _ goal_is _ _ (λ one two told. λ key bytes of is.
    let there = ap (λ (h : Held). h key) (sym ((both g mid c.in_ok-unled.ensures.did).looks.held told)) ∙ is in
    noted_short key bytes (new.notes key) ((sound_so g at (same_marks g mid) told (one.0 told) (two.0 (told_mid g mid told))).formed key bytes of there)
    (all_noted old.held c.args.segment (one.1 told) (λ k. subst (λ (h : Held). IsNotedAt h new (page_key c.args.segment Overflow k)) (homes.did.looks.held told) (two.1 (told_mid g mid told) k)) c.in_ok-unled.ensures.did.looks key bytes of there))
    (none_both _ _ _ homes.seen homes.noted) (none_both _ _ _ c.in_ok-unled.ensures.led c.in_ok-unled.ensures.noted))

pub returns-clause-formed : goal.returns-clause-formed
returns-clause-formed g c = λ told. right g (goal.at.returns-clause-formed g c).After-first_flaw told

pub returns-clause-flaw : goal.returns-clause-flaw
returns-clause-flaw g c =
    let at = (goal.at.returns-clause-flaw g c).After-first_flaw in
    let mid = (goal.at.returns-clause-flaw g c).After-look_at_overflows in
    let old = g.P.Pages.view c.args.pages.now in
    let homes = c.in_ok-wrong.ensures in
    let good = g.V.Visitor.is_good c.args.visitor.now in
    subst (λ (f : Option Flaw). IfSome f (λ (which : Flaw). IsTold old.disk → IsFirstFlaw old.held c.args.segment good which)) (sym c.first_flaw.ensures)
    (one_flawed _ _ _ (λ (which : Flaw). IsTold old.disk → IsFirstFlaw old.held c.args.segment good which) _ _ (λ tid stops told. record {
      wrong = (stops told).wrong (λ page bytes is. (right g at told (page_key c.args.segment Overflow page) bytes (refl, inr refl) is).formed);
      earlier = (stops told).earlier;
    }) (λ page seen first told.
    let holds = g.met.P.Pages.holds c.args.pages.now told in
    let allowed = g.met.P.Pages.allowed c.args.pages.now in (
      entries_right old c.args.segment good c.look_at_homes.new.led holds allowed (seen told),
      first_unled old c.args.segment good c.look_at_homes.new.led holds allowed (seen told) page
          (subst (λ (h : Held). IsFirstUnmarked h c.args.segment c.look_at_homes.new.led page) (homes.did.looks.held told)
          (subst (λ (l : List ℕ). IsFirstUnmarked (g.P.Pages.view c.look_at_homes.new.pages).held c.args.segment l page) (same_marks g mid) (first (told_mid g mid told)))),
    ))
    homes.stops homes.seen c.in_ok-unled.ensures.unled)

pub returns-clause-did : goal.returns-clause-did
returns-clause-did g c =
    let same = c.in_ok-wrong.ensures.did.looks.step.passes.slots in
    checks {names = nowhere} (omega arith) (looks_done _ (both g (goal.at.returns-clause-did g c).After-look_at_overflows c.in_ok-unled.ensures.did).looks)
