use Rattle.std.proofs.Common.{◌≡◌, ◌∙◌, true, false, inl, inr, List, sym, ap, subst, arith, length}
use Rattle.rss_base.specs.DiskRule.{IsTold}
use Rattle.rss_base.proofs.Steps.{then_call, among, widens, fails}
use Rattle.rss_page.specs.Content.{Content}
use Rattle.rss_page.specs.Slotted.{HasRoom}
use Rattle.rss_tuple.specs.Directory.{contents_in}
use Rattle.rss_tuple.specs.Placing.{FitsHome}
use Rattle.rss_tuple.proofs.Seen.{on_ok, on_ok_then}
use Rattle.rss_tuple.proofs.Placed.{home_off, step_at, puts_home, puts_forward, read_off, read_key}
use Rattle.rss_tuple.proofs.Taken.{takes_step, takes_none, takes_away}
use Rattle.rss_tuple.proofs.placing.place.Goals as goal
use Rattle.rss_tuple.proofs.placing.place.Goals.{Else-has_room}

pub returns-then-has_room-clause-puts : goal.returns-then-has_room-clause-puts
returns-then-has_room-clause-puts g c =
    on_ok_then c.put_here.result (λ sets told.
    let there = c.requires.home.read.held told in
    puts_home c.args.segment c.args.tid c.args.body.now c.home-key.result _ _ c.home-key.ensures
    (subst (λ (l : List Content). HasRoom l c.args.tid.slot (length c.args.body.now)) (sym (ap contents_in there)) (c.has_room.ensures.0 c.if-has_room.true))
    (sets told) c.put_here.ensures.did.step told)
    c.put_here.ensures.sets

pub returns-then-has_room-clause-takes : goal.returns-then-has_room-clause-takes
returns-then-has_room-clause-takes g c = on_ok c.put_here.result (takes_none (takes_step (step_at c.home-key.ensures c.put_here.ensures.did.step) (inl c.requires.home.read.mapped)))

pub returns-then-has_room-clause-did : goal.returns-then-has_room-clause-did
returns-then-has_room-clause-did g c = widens (λ key is. inl (is ∙ c.home-key.ensures)) (omega arith) (omega arith) c.put_here.ensures.did

-- ---- where it doesn't fit at home

pub returns-in_err-to-clause-did : goal.returns-in_err-to-clause-did
returns-in_err-to-clause-did g c = fails _ c.from_residual.ensures.1 (λ key is. inr is) (omega arith) (omega arith) c.in_err-to.ensures.did

pub put_forward-requires-clause-may : goal.put_forward-requires-clause-may
put_forward-requires-clause-may g c =
    let step = c.in_ok-to.ensures.did.step in
    record {
      read = read_key (sym c.home-key.ensures) (read_off step (home_off c.args.segment c.args.tid.page c.args.segment) c.requires.home.read);
      low = c.requires.home.low;
      formed = λ told. (c.in_ok-to.ensures.puts (step.passes.leaves.told.1 told)).formed;
    }

-- the body doesn't fit in its home entry
full : (g : _) (c : Else-has_room g) → IsTold (g.P.Pages.view c.args.pages.now).disk → FitsHome (g.P.Pages.view c.args.pages.now) c.args.segment c.args.tid (length c.args.body.now) → ⊥
full g c told fits =
    let there = c.requires.home.read.held told in
    let never : c.has_room.result ≡ true = c.has_room.ensures.1 (subst (λ (l : List Content). HasRoom l c.args.tid.slot (length c.args.body.now)) (ap contents_in there) fits) in
    let not : c.has_room.result ≡ false = c.if-has_room.false in absurd (cc)

pub returns-clause-puts : goal.returns-clause-puts
returns-clause-puts g c =
    let step = c.in_ok-to.ensures.did.step in
    on_ok_then c.put_forward.result (λ sets told.
    let mid = step.passes.leaves.told.0 told in
    let full = full g (goal.at.returns-clause-puts g c).Else-has_room told in
    puts_forward c.args.segment c.args.tid c.args.body.now c.in_ok-to.to c.home-key.result _ _ _ c.home-key.ensures full (c.requires.away told full).never (c.in_ok-to.ensures.puts told) step (sets mid) c.put_forward.ensures.did.step told mid)
    c.put_forward.ensures.sets

pub returns-clause-takes : goal.returns-clause-takes
returns-clause-takes g c =
    let full = full g (goal.at.returns-clause-takes g c).Else-has_room in
    let read = read_off c.in_ok-to.ensures.did.step (home_off c.args.segment c.args.tid.page c.args.segment) c.requires.home.read in
    on_ok c.put_forward.result (takes_away full (λ told. (c.requires.away told (full told)).never) c.in_ok-to.ensures.puts c.in_ok-to.ensures.one
    (takes_step (step_at c.home-key.ensures c.put_forward.ensures.did.step) (inl read.mapped)))

pub returns-clause-did : goal.returns-clause-did
returns-clause-did g c = widens (λ key is. is) (omega arith) (omega arith) (then_call {asks_then = 1} {outs_then = 1} (among (λ key is. inr is) c.in_ok-to.ensures.did.step) (widens (λ key is. inl (is ∙ c.home-key.ensures)) (omega arith) (omega arith) c.put_forward.ensures.did))
