use Rattle.std.proofs.Common.{refl, sym, ◌∙◌, arith}
use Rattle.std.proofs.lemmas.Bool.{true≢false}
use Rattle.rss_base.proofs.Steps.{rests, fails, among, then, then_call, untouched}
use Rattle.rss_access.specs.Edits.{told_by}
use Rattle.rss_access.proofs.Fronts.{front_given, found_given, front_begun}
use Rattle.rss_access.proofs.Making.{short_prefix, used_listed, misfits_unlisted, misfits_tuple, misfits_room, misfits_count, damaged_makes, fails_makes, can_put, may_become_as, short_body, heap_told, images_told, may_move, widens_to, made}
use Rattle.rss_access.proofs.Rerooting.{rerooted_itself}
use Rattle.rss_access.proofs.Walked.{body_still}
use Rattle.rss_access.proofs.applying.alter.Goals as goal

pub relation-relation-requires : goal.relation-relation-requires
relation-relation-requires g c = used_listed c.args.catalog.now.listing c.args.change.number (sym c.used.ensures ∙ c.if-not-used.false)

pub put-requires-clause-may : goal.put-requires-clause-may
put-requires-clause-may g c = can_put c.in_ok-front.ensures.did.step (c.has_room.ensures.spare c.if-not-has_room.false) c.in_ok-front.ensures.heaps (g.met.P.Pages.are_counted c.args.tuples.now.pages) (g.met.P.Pages.are_counted c.front_of.new.tuples.pages)

pub put-requires-clause-short : goal.put-requires-clause-short
put-requires-clause-short g c = short_body c.relation-relation.result.now c.relation-relation.ensures.safe (told_by c.args.change) (front_given c.args.catalog.now.listing (told_by c.args.change) c.in_ok-front.field-0 c.in-Some.front c.in-Some.is c.in_ok-front.ensures.front) (may_become_as refl c.as_slice.ensures (c.may_become.ensures.yes c.if-not-may_become.false))

pub move_entries-requires-clause-may : goal.move_entries-requires-clause-may
move_entries-requires-clause-may g c = λ told. may_move c.args.change c.relation-relation.ensures.is (g.met.P.Pages.are_counted c.args.tuples.now.pages) (g.met.P.Pages.are_counted c.put.new.tuples.pages) c.in_ok-front.ensures.did.step (front_given c.args.catalog.now.listing (told_by c.args.change) c.in_ok-front.field-0 c.in-Some.front c.in-Some.is c.in_ok-front.ensures.front) (found_given (told_by c.args.change) _ c.in_ok-front.field-0 c.in-Some.front c.in-Some.is c.in_ok-front.ensures.some) (c.has_room.ensures.room c.if-not-has_room.false)
    (may_become_as c.slots.ensures c.as_slice.ensures (c.may_become.ensures.yes c.if-not-may_become.false)) (omega (arith, c.slots.ensures)) c.requires c.in_ok-put.ensures.did.step c.in_ok-put.ensures.changes told

-- ---- where it is refused

pub returns-then-not-used : goal.returns-then-not-used
returns-then-not-used g c = damaged_makes (rests _) refl (λ on has. misfits_unlisted c.args.change (g.P.Pages.view c.args.tuples.now.pages) c.args.catalog.now (sym c.used.ensures ∙ c.if-not-used.true))

pub returns-then-not-may_become : goal.returns-then-not-may_become
returns-then-not-may_become g c = damaged_makes (rests _) refl (λ on has. misfits_tuple c.args.change (g.P.Pages.view c.args.tuples.now.pages) c.args.catalog.now c.relation-relation.result.now c.relation-relation.ensures.is
    (λ front of found may. true≢false (sym (c.may_become.ensures.no (may_become_as (sym c.slots.ensures) (sym c.as_slice.ensures) may)) ∙ c.if-not-may_become.true)))

pub returns-then-not-has_room : goal.returns-then-not-has_room
returns-then-not-has_room g c = damaged_makes (rests _) refl (λ on has. misfits_room c.args.change (g.P.Pages.view c.args.tuples.now.pages) c.args.catalog.now c.relation-relation.result.now c.relation-relation.ensures.is
    (c.has_room.ensures.none c.if-not-has_room.true on has))

pub returns-in_default : goal.returns-in_default
returns-in_default g c = damaged_makes c.in_ok-front.ensures.did.step refl (λ on has. misfits_tuple c.args.change (g.P.Pages.view c.args.tuples.now.pages) c.args.catalog.now c.relation-relation.result.now c.relation-relation.ensures.is
    (λ front of found may. c.in_ok-front.ensures.none c.in_default.is on front of found))

pub returns-in_default-count : goal.returns-in_default-count
returns-in_default-count g c = damaged_makes c.in_ok-front.ensures.did.step refl (λ on has. misfits_count c.args.change (g.P.Pages.view c.args.tuples.now.pages) c.args.catalog.now c.relation-relation.result.now c.relation-relation.ensures.is
    (front_given c.args.catalog.now.listing (told_by c.args.change) c.in_ok-front.field-0 c.in-Some.front c.in-Some.is c.in_ok-front.ensures.front) (found_given (told_by c.args.change) _ c.in_ok-front.field-0 c.in-Some.front c.in-Some.is c.in_ok-front.ensures.some on) (c.count.ensures.none c.in_default-count.is))

-- ---- where a call fails

pub returns-in_err-front : goal.returns-in_err-front
returns-in_err-front g c = fails_makes _ _ c.from_residual.ensures.1 (fails _ c.from_residual.ensures.1 (λ key is. absurd is) (omega arith) (omega arith) c.in_err-front.ensures.did) (rerooted_itself _)

pub returns-in_err-put : goal.returns-in_err-put
returns-in_err-put g c =
    let looked = c.in_ok-front.ensures.did.step in
    fails_makes _ _ c.from_residual-in_err-put.ensures.1
    (fails _ c.from_residual-in_err-put.ensures.1 (heap_told c.args.change c.args.catalog.now.listing c.relation-relation.ensures.is) (omega (arith, looked.passes.slots)) (omega (arith, looked.passes.slots)) (then_call (untouched looked) c.in_err-put.ensures.did)) (rerooted_itself _)

pub returns-in_err-move_entries : goal.returns-in_err-move_entries
returns-in_err-move_entries g c =
    let looked = c.in_ok-front.ensures.did.step in
    let heaps = heap_told c.args.change c.args.catalog.now.listing c.relation-relation.ensures.is in
    let images = images_told c.args.change c.args.catalog.now.listing c.relation-relation.ensures.is in
    fails_makes _ _ c.from_residual-in_err-move_entries.ensures.1
    (fails _ c.from_residual-in_err-move_entries.ensures.1 (λ key is. is) (omega (arith, looked.passes.slots)) (omega (arith, looked.passes.slots)) (then_call (then (untouched looked) (among heaps c.in_ok-put.ensures.did.step)) (widens_to images c.in_err-move_entries.ensures.did)))
    c.in_err-move_entries.ensures.rerooted

-- ---- where it is made

pub returns : goal.returns
returns g c = made c.args.change c.relation-relation.ensures.is (g.met.P.Pages.are_counted c.args.tuples.now.pages) (g.met.P.Pages.are_counted c.put.new.tuples.pages) c.in_ok-front.ensures.did.step (front_given c.args.catalog.now.listing (told_by c.args.change) c.in_ok-front.field-0 c.in-Some.front c.in-Some.is c.in_ok-front.ensures.front) (found_given (told_by c.args.change) _ c.in_ok-front.field-0 c.in-Some.front c.in-Some.is c.in_ok-front.ensures.some) (c.has_room.ensures.room c.if-not-has_room.false)
    (may_become_as c.slots.ensures c.as_slice.ensures (c.may_become.ensures.yes c.if-not-may_become.false)) (omega (arith, c.slots.ensures)) c.requires c.in_ok-put.ensures.did.step c.in_ok-put.ensures.changes
    (g.met.P.Pages.are_counted c.move_entries.new.pages) c.in_ok-move_entries.ensures.moves c.in_ok-move_entries.ensures.nodes c.in_ok-move_entries.ensures.rerooted c.in_ok-move_entries.ensures.did.step c.in-Some-count.count c.in-Some-count.ensures.some c.in-Some-count.ensures.may c.recount.ensures.lists c.recount.ensures.keeps c.recount.ensures.fits

pub put-requires-clause-found : goal.put-requires-clause-found
put-requires-clause-found g c = λ told_mid.
    let step = c.in_ok-front.ensures.did.step in
    let told = step.passes.leaves.told.1 told_mid in
    body_still step told _ c.args.change.tid ∙ found_given (told_by c.args.change) _ c.in_ok-front.field-0 c.in-Some.front c.in-Some.is c.in_ok-front.ensures.some told

pub put-requires-clause-begun : goal.put-requires-clause-begun
put-requires-clause-begun g c = front_begun (front_given c.args.catalog.now.listing (told_by c.args.change) c.in_ok-front.field-0 c.in-Some.front c.in-Some.is c.in_ok-front.ensures.front)

pub front_of-requires-clause-short : goal.front_of-requires-clause-short
front_of-requires-clause-short g c = short_prefix c.args.change (c.may_become.ensures.yes c.if-not-may_become.false)
