use Rattle.std.proofs.Common.{◌<◌, List, subst, arith}
use Rattle.rss_base.specs.Paged.{page_key}
use Rattle.rss_base.specs.declared.key.Space.TheVariants.{Home}
use Rattle.rss_base.proofs.Steps.{within, done}
use Rattle.rss_page.specs.Content.{Content}
use Rattle.rss_tuple.specs.Finding.{IsFirstTaken, NoneTaken}
use Rattle.rss_tuple.proofs.Seen.{formed_after}
use Rattle.rss_tuple.proofs.Walks.{walked_none, none_next, found_next, walked_more, walk_call, walk_fails, contents_before, low_home}
use Rattle.rss_tuple.proofs.walking.next_taken.Goals as goal
use Rattle.rss_tuple.proofs.walking.next_taken.Goals.{In-Some}

pub loop-number-init : goal.loop-number-init
loop-number-init g c = walked_none _ c.args.segment c.args.after c.start_of-from.result c.start_of-from.ensures.low c.start_of-from.ensures.from

low : (g : _) (c : In-Some g) → c.in-Some.number < (g.P.Pages.view c.args.pages.now).slots
low g c = low_home (g.P.Pages.view c.args.pages.now) (g.P.Pages.view c.loop-number.pages) c.args.segment c.in-Some.number c.loop-number.invariant.step.passes.slots (g.met.P.Pages.allowed c.loop-number.pages (page_key c.args.segment Home c.in-Some.number) c.in-Some.ensures.some.has)

pub slot_in-low-requires : goal.slot_in-low-requires
slot_in-low-requires g c = c.loop-number.invariant.low

pub taken_in-requires-clause-formed : goal.taken_in-requires-clause-formed
taken_in-requires-clause-formed g c = formed_after c.loop-number.invariant.step (λ told. (c.requires.heaps told).formed)

pub overflow_add-from : goal.overflow_add-from
overflow_add-from g c =
    let below = low g (goal.at.overflow_add-from g c).In-Some in
    omega (arith, below, g.met.P.Pages.few_slots c.args.pages.now)

pub loop-number-preserved : goal.loop-number-preserved
loop-number-preserved g c =
    let so = c.loop-number.invariant in
    walked_more _ _ c.args.segment c.args.after c.loop-number.from so (λ told key. g.met.P.Pages.holds c.args.pages.now told key) c.in-Some.number c.slot_in-low.result c.in-Some.ensures.some c.slot_in-low.ensures.same c.slot_in-low.ensures.other _ (low g (goal.at.loop-number-preserved g c).In-Some)
    (λ told. subst (λ (l : List Content). NoneTaken l c.slot_in-low.result) (contents_before so.step c.home.ensures told) ((rw c.in_default-2.is at c.in_ok-slot.ensures.found) (so.step.passes.leaves.told.0 told)))
    c.in_ok-slot.ensures.did

pub returns-in_err-slot-clause-did : goal.returns-in_err-slot-clause-did
returns-in_err-slot-clause-did g c =
    let so = c.loop-number.invariant in
    walk_fails _ _ c.args.segment c.args.after c.loop-number.from so (λ told key. g.met.P.Pages.holds c.args.pages.now told key) c.in-Some.number c.slot_in-low.result c.in-Some.ensures.some c.slot_in-low.ensures.same c.slot_in-low.ensures.other _ _ c.from_residual.ensures.1 (low g (goal.at.returns-in_err-slot-clause-did g c).In-Some) c.in_err-slot.ensures.did

pub returns-in-Some-2-clause-next : goal.returns-in-Some-2-clause-next
returns-in-Some-2-clause-next g c = λ told.
    let so = c.loop-number.invariant in
    rw c.from.ensures (found_next _ _ c.args.segment c.args.after c.loop-number.from so (λ told key. g.met.P.Pages.holds c.args.pages.now told key) c.in-Some.number c.slot_in-low.result c.in-Some.ensures.some c.slot_in-low.ensures.same c.slot_in-low.ensures.other c.in-Some-2.slot (c.requires.heaps told) told
    (subst (λ (l : List Content). IsFirstTaken l c.slot_in-low.result c.in-Some-2.slot) (contents_before so.step c.home.ensures told) ((rw c.in-Some-2.is at c.in_ok-slot.ensures.found) (so.step.passes.leaves.told.0 told))))

pub returns-in-Some-2-clause-did : goal.returns-in-Some-2-clause-did
returns-in-Some-2-clause-did g c =
    let so = c.loop-number.invariant in
    done _ (walk_call _ _ c.args.segment c.args.after c.loop-number.from so (λ told key. g.met.P.Pages.holds c.args.pages.now told key) c.in-Some.number c.slot_in-low.result c.in-Some.ensures.some c.slot_in-low.ensures.same c.slot_in-low.ensures.other _ (low g (goal.at.returns-in-Some-2-clause-did g c).In-Some) c.in_ok-slot.ensures.did)

pub returns-clause-next : goal.returns-clause-next
returns-clause-next g c = none_next _ _ c.args.segment c.args.after c.loop-number.from c.loop-number.invariant (λ told key. g.met.P.Pages.holds c.args.pages.now told key) c.in_default.ensures.none

pub returns-clause-did : goal.returns-clause-did
returns-clause-did g c = done _ (within (λ key there. there) c.loop-number.invariant.few c.loop-number.invariant.few c.loop-number.invariant.step)
