use Rattle.std.proofs.Common.{length, refl, inl, sym, arith}
use Rattle.rss_base.proofs.Steps.{then, then_call, among, widens, done, fails, is_in}
use Rattle.rss_tuple.specs.Directory.{tid_at}
use Rattle.rss_tuple.proofs.Seen.{found_damaged}
use Rattle.rss_tuple.proofs.Changes.{spare_after}
use Rattle.rss_tuple.proofs.Spots.{spot_room}
use Rattle.rss_tuple.proofs.Placed.{step_at, puts_found, puts_taken, read_key}
use Rattle.rss_tuple.proofs.Taken.{takes_step, takes_same}
use Rattle.rss_tuple.proofs.placing.put_away.Goals as goal

pub put_here-requires-clause-may : goal.put_here-requires-clause-may
put_here-requires-clause-may g c =
    let there = (rw c.in-Some.is at c.in_ok-to.ensures.found).there in
    record {
      read = read_key (sym c.overflow-key.ensures) there.read;
      low = there.has.first.is.low;
      formed = λ told. c.find_page.ensures.kept.formed (c.find_page.ensures.did.step.passes.leaves.told.1 told);
    }

pub put_here-requires-clause-found : goal.put_here-requires-clause-found
put_here-requires-clause-found g c = (rw c.in-Some.is at c.in_ok-to.ensures.found).there.found

pub put_here-requires-clause-room : goal.put_here-requires-clause-room
put_here-requires-clause-room g c =
    let there = (rw c.in-Some.is at c.in_ok-to.ensures.found).there in
    spot_room c.find_page.new.into _ (length c.args.body.now) there.has.first.is.low there.has.bytes

pub put_on_new-requires-clause-formed : goal.put_on_new-requires-clause-formed
put_on_new-requires-clause-formed g c = λ told. c.find_page.ensures.kept.formed (c.find_page.ensures.did.step.passes.leaves.told.1 told)

pub returns-in_err-put_here-in-Some-clause-did : goal.returns-in_err-put_here-in-Some-clause-did
returns-in_err-put_here-in-Some-clause-did g c =
    fails _ c.from_residual-in_err-put_here-in-Some.ensures.1 (λ key there. there) (omega arith) (omega arith) (then_call {asks_then = 1} {outs_then = 1} c.find_page.ensures.did.step (widens (is_in c.overflow-key.result c.overflow-key.ensures) (omega arith) (omega arith) c.in_err-put_here-in-Some.ensures.did))

pub returns-in_ok-put_here-in-Some-clause-puts : goal.returns-in_ok-put_here-in-Some-clause-puts
returns-in_ok-put_here-in-Some-clause-puts g c = λ told.
    let step = c.find_page.ensures.did.step in
    let mid = step.passes.leaves.told.0 told in
    let wrote = c.in_ok-put_here-in-Some.ensures in
    puts_found c.args.segment _ c.args.body.now c.find_page.new.into _ c.overflow-key.result _ _ _ refl c.overflow-key.ensures (rw c.in-Some.is at c.in_ok-to.ensures.found) c.find_page.ensures.kept (wrote.sets mid) wrote.did.step told mid

pub returns-in_ok-put_here-in-Some-clause-one : goal.returns-in_ok-put_here-in-Some-clause-one
returns-in_ok-put_here-in-Some-clause-one g c =
    let found = rw c.in-Some.is at c.in_ok-to.ensures.found in
    takes_same c.find_page.ensures.kept.mapped (takes_step (step_at c.overflow-key.ensures c.in_ok-put_here-in-Some.ensures.did.step) (inl found.there.read.mapped))

pub returns-in_ok-put_here-in-Some-clause-did : goal.returns-in_ok-put_here-in-Some-clause-did
returns-in_ok-put_here-in-Some-clause-did g c = widens (λ key there. there) (omega arith) (omega arith) (done _ (then c.find_page.ensures.did.step (among (is_in c.overflow-key.result c.overflow-key.ensures) c.in_ok-put_here-in-Some.ensures.did.step)))

pub returns-in_err-have_spare-in-None-clause-did : goal.returns-in_err-have_spare-in-None-clause-did
returns-in_err-have_spare-in-None-clause-did g c =
    let step = c.find_page.ensures.did.step in
    fails _ c.from_residual-in_err-have_spare-in-None.ensures.1 (λ key there. there) (omega arith) (omega arith) (found_damaged {T = Unit {0}} _ c.in_err-have_spare-in-None.ensures.damaged step (λ told.
    omega (arith, c.requires.room told, c.in_err-have_spare-in-None.ensures.none, spare_after step c.find_page.ensures.kept.mapped (g.met.P.Pages.are_counted c.args.pages.now) (g.met.P.Pages.are_counted c.find_page.new.pages))))

pub returns-in_err-page-in-None-clause-did : goal.returns-in_err-page-in-None-clause-did
returns-in_err-page-in-None-clause-did g c =
    fails _ c.from_residual-in_err-page-in-None.ensures.1 (λ key there. there) (omega arith) (omega arith) (then_call c.find_page.ensures.did.step c.in_err-page-in-None.ensures.did)

pub returns-in_ok-page-in-None-clause-puts : goal.returns-in_ok-page-in-None-clause-puts
returns-in_ok-page-in-None-clause-puts g c = λ told.
    let mid = c.find_page.ensures.did.step.passes.leaves.told.0 told in
    puts_taken c.args.segment _ c.args.body.now (tid_at c.in_ok-page-in-None.page 0) _ _ _ refl (rw c.in-None.is at c.in_ok-to.ensures.found) c.find_page.ensures.kept (λ key. g.met.P.Pages.holds c.args.pages.now told key) told (c.in_ok-page-in-None.ensures.takes mid)

pub returns-in_ok-page-in-None-clause-one : goal.returns-in_ok-page-in-None-clause-one
returns-in_ok-page-in-None-clause-one g c = takes_same c.find_page.ensures.kept.mapped c.in_ok-page-in-None.ensures.one

pub returns-in_ok-page-in-None-clause-did : goal.returns-in_ok-page-in-None-clause-did
returns-in_ok-page-in-None-clause-did g c = widens (λ key there. there) (omega arith) (omega arith) (done _ (then c.find_page.ensures.did.step c.in_ok-page-in-None.ensures.did.step))
