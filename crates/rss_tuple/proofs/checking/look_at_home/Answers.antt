use Rattle.std.proofs.Common.{rules, ◌≡◌, ◌∙◌, ℕ, sym, ap, subst, arith}
use Rattle.rss_base.specs.DiskRule.{IsTold}
use Rattle.rss_base.specs.Steps.{only}
use Rattle.rss_base.specs.declared.key.PageKey.{PageKey}
use Rattle.rss_base.specs.declared.key.Space.TheVariants.{Home}
use Rattle.rss_page.specs.Slotted.{entries}
use Rattle.rss_page.specs.Surveyed.{held_at}
use Rattle.rss_tuple.specs.Directory.{homes, overflows, body_by, tid_at}
use Rattle.rss_tuple.specs.Checked.{row_of}
use Rattle.rss_tuple.specs.Flaws.{NamesPage}
use Rattle.rss_tuple.specs.Looks.{Sees, StopsAt}
use Rattle.rss_base.proofs.Looking.{looks_then, looks_within, looks_more}
use Rattle.rss_tuple.proofs.Looks.{looks_done, looks_call, looks_wider, looks_fails}
use Rattle.rss_tuple.proofs.LookedPages.{entry_is, noted_still, page_seen, page_shown, page_stops, page_whole}
use Rattle.rss_tuple.proofs.checking.look_at_home.Goals as goal
use Rattle.rss_tuple.proofs.checking.look_at_home.Goals.{After-look_in}

pub returns-in_err-look_at-clause-did : goal.returns-in_err-look_at-clause-did
returns-in_err-look_at-clause-did g c = looks_fails _ c.from_residual.ensures.1 (looks_wider (λ key is. is ∙ c.home.ensures) (omega arith) (λ told place names. subst (λ (k : PageKey). NamesPage (g.P.Pages.view c.args.pages.now).held (only k) place) c.home.ensures names) c.in_err-look_at.ensures.did)

-- what is held is as before
same_held : (g : _) (c : After-look_in g) → IsTold (g.P.Pages.view c.args.pages.now).disk → (g.P.Pages.view c.loop-slot.pages).held ≡ (g.P.Pages.view c.args.pages.now).held
same_held g c told =
    let first = c.in_ok-look_at.ensures.did.looks in
    c.loop-slot.invariant.looks.held (first.step.passes.leaves.told.0 told) ∙ first.held told

told_now : (g : _) (c : After-look_in g) → IsTold (g.P.Pages.view c.args.pages.now).disk → IsTold (g.P.Pages.view c.loop-slot.pages).disk
told_now g c told = c.loop-slot.invariant.looks.step.passes.leaves.told.0 (c.in_ok-look_at.ensures.did.looks.step.passes.leaves.told.0 told)

-- the entry is that of the page
here : (g : _) (c : After-look_in g) → IsTold (g.P.Pages.view c.args.pages.now).disk → homes (g.P.Pages.view c.args.pages.now).held c.args.segment c.args.number c.loop-slot.slot ≡ held_at (entries c.look_at.new.into) c.from.result
here g c told = entry_is (g.P.Pages.view c.args.pages.now).held c.args.segment c.args.number c.home.result c.look_at.new.into c.home.ensures (c.in_ok-look_at.ensures.looks.held told) c.loop-slot.slot ∙ ap (held_at (entries c.look_at.new.into)) (sym c.from.ensures)

pub returns-in_err-is_right-clause-did : goal.returns-in_err-is_right-clause-did
returns-in_err-is_right-clause-did g c =
    let so = c.loop-slot.invariant in
    looks_fails _ c.from_residual-in_err-is_right.ensures.1 (looks_wider (λ key is. is ∙ c.home.ensures) (omega arith) (λ told place names. names)
    (looks_call {asks_then = 1} (looks_then c.in_ok-look_at.ensures.did.looks (looks_more so.looks)) (λ told place none. absurd none)
    (looks_wider (λ key none. absurd none) (omega arith) (λ told place none. none) c.in_err-is_right.ensures.did)))

pub returns-then-not-is_right-clause-noted : goal.returns-then-not-is_right-clause-noted
returns-then-not-is_right-clause-noted g c = λ told. noted_still c.args.segment c.args.number Home c.home.result c.look_at.new.into _ _ _ c.home.ensures c.in_ok-look_at.ensures.looks (looks_then c.loop-slot.invariant.looks c.in_ok-is_right.ensures.did.looks) told

pub returns-then-not-is_right-clause-stops : goal.returns-then-not-is_right-clause-stops
returns-then-not-is_right-clause-stops g c = λ told.
    let so = c.loop-slot.invariant in
    let at = (goal.at.returns-then-not-is_right-clause-stops g c).After-look_in in
    subst (λ (n : ℕ). StopsAt (g.P.Pages.view c.args.pages.now).held c.args.segment (g.V.Visitor.is_good c.args.visitor.now) (tid_at c.args.number n)) (sym c.from.ensures)
    (page_stops _ _ c.args.segment c.args.number c.loop-slot.slot _ (same_held g at told) (here g at told) (g.V.Visitor.is_good c.args.visitor.now) (g.V.Visitor.is_good c.loop-slot.visitor) c.loop-slot.led (so.shown told).rule (so.seen told) (c.in_ok-is_right.ensures.wrong (search rules) (told_now g at told)))

pub returns-then-not-is_right-clause-did : goal.returns-then-not-is_right-clause-did
returns-then-not-is_right-clause-did g c = looks_done _ (looks_within (λ key is. is ∙ c.home.ensures) (omega arith) (looks_then c.in_ok-look_at.ensures.did.looks (looks_more (looks_then c.loop-slot.invariant.looks c.in_ok-is_right.ensures.did.looks))))

pub loop-slot-preserved : goal.loop-slot-preserved
loop-slot-preserved g c =
    let so = c.loop-slot.invariant in
    let at = (goal.at.loop-slot-preserved g c).After-look_in in
    let last = c.in_ok-is_right.ensures in
    record {
      looks = looks_then so.looks last.did.looks;
      size = last.size ∙ so.size;
      seen = λ told. page_seen _ _ c.args.segment c.args.number c.loop-slot.slot _ (same_held g at told) (here g at told) (g.V.Visitor.is_good c.args.visitor.now) (g.V.Visitor.is_good c.loop-slot.visitor) c.loop-slot.led c.look_in.new.led (so.shown told).rule (so.seen told) (last.holds (search rules) (told_now g at told)) (last.marks (search rules));
      shown = λ told. page_shown _ _ c.args.segment c.args.number c.loop-slot.slot _ (same_held g at told) (here g at told) (so.shown told)
          (subst (λ (n : ℕ). Sees g.V.Visitor.is_good g.V.Visitor.saw c.loop-slot.visitor c.look_in.new.visitor (row_of (tid_at c.args.number n) (body_by (overflows (g.P.Pages.view c.loop-slot.pages).held c.args.segment) (held_at (entries c.look_at.new.into) c.from.result)))) c.from.ensures (last.saw (search rules) (told_now g at told)));
    }

pub returns-clause-noted : goal.returns-clause-noted
returns-clause-noted g c = λ told. noted_still c.args.segment c.args.number Home c.home.result c.look_at.new.into _ _ _ c.home.ensures c.in_ok-look_at.ensures.looks c.loop-slot.invariant.looks told

pub returns-clause-saw : goal.returns-clause-saw
returns-clause-saw g c = λ told. page_whole (g.P.Pages.view c.args.pages.now).held c.args.segment c.args.number c.loop-slot.slot (omega arith) (c.loop-slot.invariant.shown told)

pub returns-clause-did : goal.returns-clause-did
returns-clause-did g c = looks_done _ (looks_within (λ key is. is ∙ c.home.ensures) (omega arith) (looks_then c.in_ok-look_at.ensures.did.looks (looks_more c.loop-slot.invariant.looks)))
