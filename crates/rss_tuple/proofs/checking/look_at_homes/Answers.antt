use Rattle.std.proofs.Common.{◌≡◌, ◌+◌, ◌*◌, ◌<◌, ◌≤◌, ℕ, Bool, List, refl, sym, ◌∙◌, subst, arith}
use Rattle.rss_base.specs.DiskRule.{IsTold}
use Rattle.rss_base.specs.Paged.{Held, page_key}
use Rattle.rss_base.specs.Steps.{only, pages_in}
use Rattle.rss_base.specs.declared.key.Space.TheVariants.{Home}
use Rattle.rss_base.specs.Looking.{LooksStep}
use Rattle.rss_base.proofs.Steps.{is_in}
use Rattle.rss_base.proofs.Looking.{looks_then, looks_within}
use Rattle.rss_page.specs.Content.{Empty}
use Rattle.rss_tuple.specs.Checked.{rows_on}
use Rattle.rss_tuple.specs.Directory.{homes, overflows}
use Rattle.rss_tuple.specs.Flaws.{ArePagesRight, NamesPage}
use Rattle.rss_tuple.specs.Looks.{pages_from, IsRightAt, IsNotedAt, Sees, in_front, AreSeen, StopsAt}
use Rattle.rss_tuple.proofs.Spots.{low_number}
use Rattle.rss_tuple.proofs.Looks.{looks_done, looks_call, looks_wider, looks_fails}
use Rattle.rss_tuple.proofs.LookedAll.{empty_between, looked_more, noted_more, noted_all, seen_up_to, seen_page, shown_more, shown_all, right_next, right_more}
use Rattle.rss_tuple.proofs.Wrong.{names_next, names_first, names_behind, right_both, right_each, right_noted}
use Rattle.rss_tuple.proofs.checking.look_at_homes.Goals as goal
use Rattle.rss_tuple.proofs.checking.look_at_homes.Goals.{In-Some, In-Some-wrong}

-- the page that is looked at has a number below the slots
low : (g : _) (c : In-Some g) → c.in-Some.number < (g.P.Pages.view c.args.pages.now).slots
low g c =
    let below = low_number (g.P.Pages.view c.loop-number.pages).slots c.args.segment Home c.in-Some.number refl (g.met.P.Pages.allowed c.loop-number.pages (page_key c.args.segment Home c.in-Some.number) c.in-Some.ensures.some.has) in
    omega (arith, below, c.loop-number.invariant.looks.step.passes.slots)

-- nothing stands in front of it that wasn't looked at
empty : (g : _) (c : In-Some g) → IsTold (g.P.Pages.view c.args.pages.now).disk → (p s : ℕ) → c.loop-number.from ≤ p → p < c.in-Some.number → homes (g.P.Pages.view c.args.pages.now).held c.args.segment p s ≡ Empty
empty g c told = empty_between (g.P.Pages.view c.args.pages.now) (g.P.Pages.view c.loop-number.pages) c.args.segment Home c.loop-number.from c.in-Some.number c.loop-number.invariant.looks.mapped (λ told key. g.met.P.Pages.holds c.args.pages.now told key) c.in-Some.ensures.some.none_before told

-- the pages that were looked at are right
right_so : (g : _) (c : In-Some g) → IsTold (g.P.Pages.view c.args.pages.now).disk → (k : ℕ) → 0 ≤ k → k < c.loop-number.from → IsRightAt (g.P.Pages.view c.args.pages.now).held (page_key c.args.segment Home k)
right_so g c told k over less = right_noted (g.P.Pages.view c.args.pages.now).held (g.P.Pages.view c.loop-number.pages) (page_key c.args.segment Home k) (c.loop-number.invariant.noted told k less)

pub look_at_home-requires-clause-seen : goal.look_at_home-requires-clause-seen
look_at_home-requires-clause-seen g c = λ now.
    let so = c.loop-number.invariant in
    let told = so.looks.step.passes.leaves.told.1 now in
    subst (λ (r : List ℕ → Bool). AreSeen (homes (g.P.Pages.view c.loop-number.pages).held c.args.segment) (overflows (g.P.Pages.view c.loop-number.pages).held c.args.segment) r c.loop-number.led (in_front c.in-Some.number 0)) (sym (so.shown told).rule)
    (subst (λ (h : Held). AreSeen (homes h c.args.segment) (overflows h c.args.segment) (g.V.Visitor.is_good c.args.visitor.now) c.loop-number.led (in_front c.in-Some.number 0)) (sym (so.looks.held told))
    (seen_up_to (g.P.Pages.view c.args.pages.now).held c.args.segment (g.V.Visitor.is_good c.args.visitor.now) c.loop-number.led c.loop-number.from c.in-Some.number c.in-Some.ensures.some.later (empty g (goal.at.look_at_home-requires-clause-seen g c).In-Some told) (so.seen told)))

pub returns-in_err-wrong-clause-did : goal.returns-in_err-wrong-clause-did
returns-in_err-wrong-clause-did g c =
    let so = c.loop-number.invariant in
    let at = (goal.at.returns-in_err-wrong-clause-did g c).In-Some in
    let below = low g at in
    let first = c.in-Some.ensures.some in
    let later = first.later in
    let old = g.P.Pages.view c.args.pages.now in
    looks_fails _ c.from_residual.ensures.1 (looks_wider (λ key is. is) (omega arith) (λ told place names. names)
    (looks_call {asks_then = 129} so.looks (λ told place names. names_first old.held c.args.segment Home (names_next old.held c.args.segment Home 0 c.in-Some.number (omega arith)
    (right_next c.args.segment Home 0 c.loop-number.from c.in-Some.number so.looks (λ told key. g.met.P.Pages.holds c.args.pages.now told key) first.none_before told (right_so g at told))
    (subst (λ (h : Held). NamesPage h (only (page_key c.args.segment Home c.in-Some.number)) place) (so.looks.held told) names)))
    (looks_wider (is_in (page_key c.args.segment Home c.in-Some.number) refl) (omega arith) (λ told place names. names) c.in_err-wrong.ensures.did)))

-- and so is the page that was looked at last
right_now : (g : _) (c : In-Some-wrong g) → IsTold (g.P.Pages.view c.args.pages.now).disk → (k : ℕ) → k < c.in-Some.number + 1 → IsRightAt (g.P.Pages.view c.args.pages.now).held (page_key c.args.segment Home k)
right_now g c told k less =
    let so = c.loop-number.invariant in
    let old = g.P.Pages.view c.args.pages.now in
    let noted = c.in_ok-wrong.ensures.noted (so.looks.step.passes.leaves.told.0 told) in
    let last = right_noted old.held (g.P.Pages.view c.look_at_home.new.pages) (page_key c.args.segment Home c.in-Some.number) (subst (λ (h : Held). IsNotedAt h (g.P.Pages.view c.look_at_home.new.pages) (page_key c.args.segment Home c.in-Some.number)) (so.looks.held told) noted) in
    right_more c.args.segment Home 0 c.loop-number.from c.in-Some.number so.looks (λ told key. g.met.P.Pages.holds c.args.pages.now told key) c.in-Some.ensures.some.none_before told
    (λ j over early. right_noted old.held (g.P.Pages.view c.loop-number.pages) (page_key c.args.segment Home j) (so.noted told j early)) last k (omega arith) less

-- the pages in front of the rest
looked : (g : _) (c : In-Some-wrong g) → LooksStep (pages_in c.args.segment Home) (129 * (c.in-Some.number + 1)) (g.P.Pages.view c.args.pages.now) (g.P.Pages.view c.look_at_home.new.pages)
looked g c = looked_more 129 c.args.segment Home c.loop-number.from c.in-Some.number c.in-Some.ensures.some.later c.loop-number.invariant.looks c.in_ok-wrong.ensures.did.looks

told_then : (g : _) (c : In-Some-wrong g) → IsTold (g.P.Pages.view c.args.pages.now).disk → IsTold (g.P.Pages.view c.look_at_home.new.pages).disk
told_then g c told = (looked g c).step.passes.leaves.told.0 told

pub returns-in_err-look_at_forms-clause-did : goal.returns-in_err-look_at_forms-clause-did
returns-in_err-look_at_forms-clause-did g c =
    let at = (goal.at.returns-in_err-look_at_forms-clause-did g c).In-Some-wrong in
    let below = low g (goal.at.returns-in_err-look_at_forms-clause-did g c).In-Some in
    let same = (looked g at).step.passes.slots in
    let old = g.P.Pages.view c.args.pages.now in
    looks_fails _ c.from_residual-in_err-look_at_forms.ensures.1 (looks_wider (λ key is. is) (omega arith) (λ told place names. names)
    (looks_call (looked g at) (λ told place names. names_behind old.held c.args.segment Home (c.in-Some.number + 1) (right_now g at told)
    (subst (λ (h : Held). NamesPage h (pages_from c.args.segment Home (c.in-Some.number + 1)) place) ((looked g at).held told) names))
    c.in_err-look_at_forms.ensures.did))

pub returns-in-Some-wrong-clause-formed : goal.returns-in-Some-wrong-clause-formed
returns-in-Some-wrong-clause-formed g c = λ told.
    let at = (goal.at.returns-in-Some-wrong-clause-formed g c).In-Some-wrong in
    right_both (g.P.Pages.view c.args.pages.now).held c.args.segment Home (c.in-Some.number + 1) (right_now g at told)
    (subst (λ (h : Held). ArePagesRight h (pages_from c.args.segment Home (c.in-Some.number + 1))) ((looked g at).held told) (c.in_ok-look_at_forms.ensures.formed (told_then g at told)))

pub returns-in-Some-wrong-clause-stops : goal.returns-in-Some-wrong-clause-stops
returns-in-Some-wrong-clause-stops g c = λ told.
    let so = c.loop-number.invariant in
    subst (λ (r : List ℕ → Bool). StopsAt (g.P.Pages.view c.args.pages.now).held c.args.segment r c.in-Some-wrong.tid) (so.shown told).rule
    (subst (λ (h : Held). StopsAt h c.args.segment (g.V.Visitor.is_good c.loop-number.visitor) c.in-Some-wrong.tid) (so.looks.held told)
    ((rw c.in-Some-wrong.is at c.in_ok-wrong.ensures.stops) (so.looks.step.passes.leaves.told.0 told)))

pub returns-in-Some-wrong-clause-did : goal.returns-in-Some-wrong-clause-did
returns-in-Some-wrong-clause-did g c =
    let at = (goal.at.returns-in-Some-wrong-clause-did g c).In-Some-wrong in
    let below = low g (goal.at.returns-in-Some-wrong-clause-did g c).In-Some in
    let same = (looked g at).step.passes.slots in
    looks_done _ (looks_within (λ key is. is) (omega arith) (looks_then (looked g at) c.in_ok-look_at_forms.ensures.did.looks))

pub loop-number-preserved : goal.loop-number-preserved
loop-number-preserved g c =
    let so = c.loop-number.invariant in
    let last = c.in_ok-wrong.ensures in
    let first = c.in-Some.ensures.some in
    let at = (goal.at.loop-number-preserved g c).In-Some in
    record {
      low = let below = low g at in omega arith;
      size = last.size ∙ so.looks.step.passes.slots;
      looks = looked_more 129 c.args.segment Home c.loop-number.from c.in-Some.number first.later so.looks last.did.looks;
      noted = λ told. noted_more c.args.segment Home c.loop-number.from c.in-Some.number so.looks (λ told key. g.met.P.Pages.holds c.args.pages.now told key) first.none_before first.later told last.did.looks (so.noted told) last.noted;
      seen = λ told. seen_page (g.P.Pages.view c.args.pages.now).held c.args.segment (g.V.Visitor.is_good c.args.visitor.now) c.look_at_home.new.led c.in-Some.number (subst (λ (h : Held). AreSeen (homes h c.args.segment) (overflows h c.args.segment) (g.V.Visitor.is_good c.args.visitor.now) c.look_at_home.new.led (in_front c.in-Some.number 128)) (so.looks.held told)
          (subst (λ (r : List ℕ → Bool). AreSeen (homes (g.P.Pages.view c.loop-number.pages).held c.args.segment) (overflows (g.P.Pages.view c.loop-number.pages).held c.args.segment) r c.look_at_home.new.led (in_front c.in-Some.number 128)) (so.shown told).rule ((rw c.in_default-wrong.is at last.seen) (so.looks.step.passes.leaves.told.0 told))));
      shown = λ told. shown_more (g.P.Pages.view c.args.pages.now).held c.args.segment c.loop-number.from c.in-Some.number first.later (empty g at told) (so.shown told)
          (subst (λ (h : Held). Sees g.V.Visitor.is_good g.V.Visitor.saw c.loop-number.visitor c.look_at_home.new.visitor (rows_on h c.args.segment c.in-Some.number)) (so.looks.held told) ((rw c.in_default-wrong.is at last.saw) (so.looks.step.passes.leaves.told.0 told)));
    }

pub returns-clause-formed : goal.returns-clause-formed
returns-clause-formed g c = λ told. right_each (g.P.Pages.view c.args.pages.now).held c.args.segment Home (λ k. right_noted (g.P.Pages.view c.args.pages.now).held (g.P.Pages.view c.loop-number.pages) (page_key c.args.segment Home k)
    (noted_all c.args.segment Home c.loop-number.from c.loop-number.invariant.looks (λ told key. g.met.P.Pages.holds c.args.pages.now told key) c.in_default.ensures.none told (c.loop-number.invariant.noted told) k))

pub returns-clause-noted : goal.returns-clause-noted
returns-clause-noted g c = λ told. noted_all c.args.segment Home c.loop-number.from c.loop-number.invariant.looks (λ told key. g.met.P.Pages.holds c.args.pages.now told key) c.in_default.ensures.none told (c.loop-number.invariant.noted told)

pub returns-clause-seen : goal.returns-clause-seen
returns-clause-seen g c = λ told.
    let so = c.loop-number.invariant in
    let old = g.P.Pages.view c.args.pages.now in
    seen_up_to old.held c.args.segment (g.V.Visitor.is_good c.args.visitor.now) c.loop-number.led c.loop-number.from old.slots so.low
    (empty_between old (g.P.Pages.view c.loop-number.pages) c.args.segment Home c.loop-number.from old.slots so.looks.mapped (λ told key. g.met.P.Pages.holds c.args.pages.now told key) (λ k from high. c.in_default.ensures.none k from) told) (so.seen told)

pub returns-clause-saw : goal.returns-clause-saw
returns-clause-saw g c = λ told.
    let so = c.loop-number.invariant in
    let old = g.P.Pages.view c.args.pages.now in
    shown_all old.held c.args.segment c.loop-number.from old.slots so.low
    (empty_between old (g.P.Pages.view c.loop-number.pages) c.args.segment Home c.loop-number.from old.slots so.looks.mapped (λ told key. g.met.P.Pages.holds c.args.pages.now told key) (λ k from high. c.in_default.ensures.none k from) told) (so.shown told)
