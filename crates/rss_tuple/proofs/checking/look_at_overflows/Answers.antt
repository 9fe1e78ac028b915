use Rattle.std.proofs.Common.{rules, ◌+◌, ◌*◌, ◌<◌, ◌≤◌, ℕ, get_or, refl, subst, arith}
use Rattle.rss_base.specs.DiskRule.{IsTold}
use Rattle.rss_base.specs.Paged.{Held, page_key}
use Rattle.rss_base.specs.Steps.{only, pages_in}
use Rattle.rss_base.specs.declared.key.Space.TheVariants.{Overflow}
use Rattle.rss_base.specs.Looking.{LooksStep}
use Rattle.rss_base.proofs.Steps.{is_in}
use Rattle.rss_base.proofs.Looking.{looks_then, looks_within}
use Rattle.rss_tuple.specs.Directory.{contents}
use Rattle.rss_tuple.specs.Flaws.{ArePagesRight, NamesPage}
use Rattle.rss_tuple.specs.Looks.{pages_from, IsRightAt, IsNotedAt, HasUnmarked}
use Rattle.rss_tuple.proofs.Spots.{low_number}
use Rattle.rss_tuple.proofs.Looks.{looks_done, looks_call, looks_wider, looks_fails}
use Rattle.rss_tuple.proofs.LookedAll.{looked_more, noted_more, noted_all, marked_more, marked_all, marked_next, right_next, right_more}
use Rattle.rss_tuple.proofs.Wrong.{names_next, names_first, names_behind, right_both, right_each, right_noted}
use Rattle.rss_tuple.proofs.checking.look_at_overflows.Goals as goal
use Rattle.rss_tuple.proofs.checking.look_at_overflows.Goals.{In-Some, Then-not-is_led}

-- the page that is looked at has a number below the slots
low : (g : _) (c : In-Some g) → c.in-Some.number < (g.P.Pages.view c.args.pages.now).slots
low g c =
    let below = low_number (g.P.Pages.view c.loop-number.pages).slots c.args.segment Overflow c.in-Some.number refl (g.met.P.Pages.allowed c.loop-number.pages (page_key c.args.segment Overflow c.in-Some.number) c.in-Some.ensures.some.has) in
    omega (arith, below, c.loop-number.invariant.looks.step.passes.slots)

-- the pages that were looked at are right
right_so : (g : _) (c : In-Some g) → IsTold (g.P.Pages.view c.args.pages.now).disk → (k : ℕ) → 0 ≤ k → k < c.loop-number.from → IsRightAt (g.P.Pages.view c.args.pages.now).held (page_key c.args.segment Overflow k)
right_so g c told k over less = right_noted (g.P.Pages.view c.args.pages.now).held (g.P.Pages.view c.loop-number.pages) (page_key c.args.segment Overflow k) (c.loop-number.invariant.noted told k less)

pub returns-in_err-is_led-clause-did : goal.returns-in_err-is_led-clause-did
returns-in_err-is_led-clause-did g c =
    let so = c.loop-number.invariant in
    let at = (goal.at.returns-in_err-is_led-clause-did g c).In-Some in
    let below = low g at in
    let first = c.in-Some.ensures.some in
    let later = first.later in
    let old = g.P.Pages.view c.args.pages.now in
    looks_fails _ c.from_residual.ensures.1 (looks_wider (λ key is. is) (omega arith) (λ told place names. names)
    (looks_call {asks_then = 1} so.looks (λ told place names. names_first old.held c.args.segment Overflow (names_next old.held c.args.segment Overflow 0 c.in-Some.number (omega arith)
    (right_next c.args.segment Overflow 0 c.loop-number.from c.in-Some.number so.looks (λ told key. g.met.P.Pages.holds c.args.pages.now told key) first.none_before told (right_so g at told))
    (subst (λ (h : Held). NamesPage h (only (page_key c.args.segment Overflow c.in-Some.number)) place) (so.looks.held told) names)))
    (looks_wider (is_in (page_key c.args.segment Overflow c.in-Some.number) refl) (omega arith) (λ told place names. names) c.in_err-is_led.ensures.did)))

-- and so is the page that was looked at last
right_now : (g : _) (c : Then-not-is_led g) → IsTold (g.P.Pages.view c.args.pages.now).disk → (k : ℕ) → k < c.in-Some.number + 1 → IsRightAt (g.P.Pages.view c.args.pages.now).held (page_key c.args.segment Overflow k)
right_now g c told k less =
    let so = c.loop-number.invariant in
    let old = g.P.Pages.view c.args.pages.now in
    let noted = c.in_ok-is_led.ensures.noted (so.looks.step.passes.leaves.told.0 told) in
    let last = right_noted old.held (g.P.Pages.view c.look_at_overflow.new.pages) (page_key c.args.segment Overflow c.in-Some.number) (subst (λ (h : Held). IsNotedAt h (g.P.Pages.view c.look_at_overflow.new.pages) (page_key c.args.segment Overflow c.in-Some.number)) (so.looks.held told) noted) in
    right_more c.args.segment Overflow 0 c.loop-number.from c.in-Some.number so.looks (λ told key. g.met.P.Pages.holds c.args.pages.now told key) c.in-Some.ensures.some.none_before told
    (λ j over early. right_noted old.held (g.P.Pages.view c.loop-number.pages) (page_key c.args.segment Overflow j) (so.noted told j early)) last k (omega arith) less

-- the pages in front of the rest
looked : (g : _) (c : Then-not-is_led g) → LooksStep (pages_in c.args.segment Overflow) (1 * (c.in-Some.number + 1)) (g.P.Pages.view c.args.pages.now) (g.P.Pages.view c.look_at_overflow.new.pages)
looked g c = looked_more 1 c.args.segment Overflow c.loop-number.from c.in-Some.number c.in-Some.ensures.some.later c.loop-number.invariant.looks c.in_ok-is_led.ensures.did.looks

told_then : (g : _) (c : Then-not-is_led g) → IsTold (g.P.Pages.view c.args.pages.now).disk → IsTold (g.P.Pages.view c.look_at_overflow.new.pages).disk
told_then g c told = (looked g c).step.passes.leaves.told.0 told

pub returns-in_err-look_at_forms-clause-did : goal.returns-in_err-look_at_forms-clause-did
returns-in_err-look_at_forms-clause-did g c =
    let at = (goal.at.returns-in_err-look_at_forms-clause-did g c).Then-not-is_led in
    let below = low g (goal.at.returns-in_err-look_at_forms-clause-did g c).In-Some in
    let same = (looked g at).step.passes.slots in
    let old = g.P.Pages.view c.args.pages.now in
    looks_fails _ c.from_residual-in_err-look_at_forms.ensures.1 (looks_wider (λ key is. is) (omega arith) (λ told place names. names)
    (looks_call (looked g at) (λ told place names. names_behind old.held c.args.segment Overflow (c.in-Some.number + 1) (right_now g at told)
    (subst (λ (h : Held). NamesPage h (pages_from c.args.segment Overflow (c.in-Some.number + 1)) place) ((looked g at).held told) names))
    c.in_err-look_at_forms.ensures.did))

pub returns-then-not-is_led-clause-formed : goal.returns-then-not-is_led-clause-formed
returns-then-not-is_led-clause-formed g c = λ told.
    let at = (goal.at.returns-then-not-is_led-clause-formed g c).Then-not-is_led in
    right_both (g.P.Pages.view c.args.pages.now).held c.args.segment Overflow (c.in-Some.number + 1) (right_now g at told)
    (subst (λ (h : Held). ArePagesRight h (pages_from c.args.segment Overflow (c.in-Some.number + 1))) ((looked g at).held told) (c.in_ok-look_at_forms.ensures.formed (told_then g at told)))

pub returns-then-not-is_led-clause-unled : goal.returns-then-not-is_led-clause-unled
returns-then-not-is_led-clause-unled g c = λ told.
    let so = c.loop-number.invariant in
    record {
      has = subst (λ (h : Held). HasUnmarked (contents h (page_key c.args.segment Overflow c.in-Some.number)) (get_or c.args.led.now c.in-Some.number 0)) (so.looks.held told) (c.in_ok-is_led.ensures.unled (search rules) (so.looks.step.passes.leaves.told.0 told));
      earlier = λ other less. marked_next c.args.segment Overflow c.loop-number.from c.in-Some.number c.args.led.now so.looks (λ told key. g.met.P.Pages.holds c.args.pages.now told key) c.in-Some.ensures.some.none_before told (so.led told) other less;
    }

pub returns-then-not-is_led-clause-did : goal.returns-then-not-is_led-clause-did
returns-then-not-is_led-clause-did g c =
    let at = (goal.at.returns-then-not-is_led-clause-did g c).Then-not-is_led in
    let below = low g (goal.at.returns-then-not-is_led-clause-did g c).In-Some in
    let same = (looked g at).step.passes.slots in
    looks_done _ (looks_within (λ key is. is) (omega arith) (looks_then (looked g at) c.in_ok-look_at_forms.ensures.did.looks))

pub loop-number-preserved : goal.loop-number-preserved
loop-number-preserved g c =
    let so = c.loop-number.invariant in
    let last = c.in_ok-is_led.ensures in
    let first = c.in-Some.ensures.some in
    record {
      low = let below = low g (goal.at.loop-number-preserved g c).In-Some in omega arith;
      looks = looked_more 1 c.args.segment Overflow c.loop-number.from c.in-Some.number first.later so.looks last.did.looks;
      noted = λ told. noted_more c.args.segment Overflow c.loop-number.from c.in-Some.number so.looks (λ told key. g.met.P.Pages.holds c.args.pages.now told key) first.none_before first.later told last.did.looks (so.noted told) last.noted;
      led = λ told. marked_more c.args.segment Overflow c.loop-number.from c.in-Some.number c.args.led.now so.looks (λ told key. g.met.P.Pages.holds c.args.pages.now told key) first.none_before first.later told (so.led told) (last.led (search rules));
    }

pub returns-clause-formed : goal.returns-clause-formed
returns-clause-formed g c = λ told. right_each (g.P.Pages.view c.args.pages.now).held c.args.segment Overflow (λ k. right_noted (g.P.Pages.view c.args.pages.now).held (g.P.Pages.view c.loop-number.pages) (page_key c.args.segment Overflow k)
    (noted_all c.args.segment Overflow c.loop-number.from c.loop-number.invariant.looks (λ told key. g.met.P.Pages.holds c.args.pages.now told key) c.in_default.ensures.none told (c.loop-number.invariant.noted told) k))

pub returns-clause-noted : goal.returns-clause-noted
returns-clause-noted g c = λ told. noted_all c.args.segment Overflow c.loop-number.from c.loop-number.invariant.looks (λ told key. g.met.P.Pages.holds c.args.pages.now told key) c.in_default.ensures.none told (c.loop-number.invariant.noted told)

pub returns-clause-led : goal.returns-clause-led
returns-clause-led g c = λ told. marked_all c.args.segment Overflow c.loop-number.from c.args.led.now c.loop-number.invariant.looks (λ told key. g.met.P.Pages.holds c.args.pages.now told key) c.in_default.ensures.none told (c.loop-number.invariant.led told)
