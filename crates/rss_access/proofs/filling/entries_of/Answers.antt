-- Each tuple of the segment is looked at once, those of the relation are kept with their keys, and at last they are sorted.
use Rattle.std.proofs.Common.{rules, ◌≡◌, ◌+◌, ℕ, List, [], ◌∷◌, ◌++◌, length, Some, sym, ap, subst, arith, length-append}
use Rattle.std.proofs.lemmas.List.Sorted.{answers_always}
use Rattle.rss_base.specs.declared.tid.Tid.{Tid}
use Rattle.rss_base.proofs.Looking.{passed_on}
use Rattle.rss_base.proofs.Steps.{rests, then, then_call, fails}
use Rattle.rss_tuple.proofs.Seen.{heaps_after}
use Rattle.rss_access.specs.Changes.{both}
use Rattle.rss_access.specs.Filling.{keys_by}
use Rattle.rss_access.proofs.GatheredAll.{entries_are, entries_for, few_so_far, long_for, is_before, none_misspelled, ranked, sorted_rise}
use Rattle.rss_access.proofs.Gathering.{Gathered, apart_more, gathered_end, gathered_key, misspelled_back, walked_key, walked_past}
use Rattle.rss_access.proofs.Searching.{searches, searched, then_search, search_fails}
use Rattle.rss_access.proofs.filling.entries_of.Goals as goal

pub returns-in_default-clause-did : goal.returns-in_default-clause-did
returns-in_default-clause-did g c = searched {most = 0} _ (λ is. absurd (cc)) (rests (g.P.Pages.view c.args.tuples.now.pages))

pub next_live-requires-clause-heaps : goal.next_live-requires-clause-heaps
next_live-requires-clause-heaps g c = heaps_after c.loop-entries.invariant.0.step c.requires.heaps

pub returns-in_err-tid-clause-did : goal.returns-in_err-tid-clause-did
returns-in_err-tid-clause-did g c = searches {most = c.loop-entries.invariant.0.most + (g.P.Pages.view c.loop-entries.tuples.pages).slots} (fails _ c.from_residual.ensures.1 (λ key there. there) (omega arith) (omega arith) (then_call c.loop-entries.invariant.0.step c.in_err-tid.ensures.did.below))

pub returns-in_err-key-clause-fault : goal.returns-in_err-key-clause-fault
returns-in_err-key-clause-fault g c = λ relation place is told tables shows its few.
    let before = then c.loop-entries.invariant.0.step c.in_ok-tid.ensures.did.below.step in
    let wrong = c.in_err-key.ensures.fault place (passed_on _ c.from_residual-in_err-key.ensures.1 is) (before.passes.leaves.told.0 told) in
    none_misspelled (g.met.P.Pages.few_slots c.args.tuples.now.pages) shows c.args.number c.relation-relation.ensures.is c.in-Some.tid (misspelled_back c.args.catalog.now c.args.number c.relation-relation.result.now c.args.which.now before told c.in-Some.tid wrong)

pub returns-in_err-key-clause-did : goal.returns-in_err-key-clause-did
returns-in_err-key-clause-did g c = search_fails _ c.from_residual-in_err-key.ensures.1 (then_search (then c.loop-entries.invariant.0.step c.in_ok-tid.ensures.did.below.step) c.in_err-key.ensures.did)

pub returns-then-len-most-clause-fault : goal.returns-then-len-most-clause-fault
returns-then-len-most-clause-fault g c = λ relation place is told tables shows its few.
    let so = c.loop-entries.invariant.0 in
    let on = c.in_ok-tid.ensures.did.below.step in
    let key = (rw c.in-Some-2.is at c.in_ok-key.ensures.finds) ((then so.step on).passes.leaves.told.0 told) in
    let more = gathered_key c.args.catalog.now c.args.number c.relation-relation.result.now c.args.which.now so _ on c.in-Some.tid (rw c.in-Some.is at c.in_ok-tid.ensures.behind) (λ told. (rw c.in-Some.is at c.in_ok-tid.ensures.next) (so.step.passes.leaves.told.0 told)) c.in-Some-2.key told key in
    let most = few_so_far (g.met.P.Pages.few_slots c.args.tuples.now.pages) shows c.args.number c.relation-relation.ensures.is (apart_more so.apart c.in-Some.tid (rw c.in-Some.is at c.in_ok-tid.ensures.behind) c.in-Some-2.key) more in
    omega (arith, most, length-append c.loop-entries.entries.items ((c.in-Some-2.key, c.in-Some.tid) ∷ []), c.len.ensures, c.if-len-most.true)

pub returns-then-len-most-clause-did : goal.returns-then-len-most-clause-did
returns-then-len-most-clause-did g c = searched _ (λ is. absurd (cc)) (then (then c.loop-entries.invariant.0.step c.in_ok-tid.ensures.did.below.step) c.in_ok-key.ensures.did.step)

pub returns-then-is_err-clause-did : goal.returns-then-is_err-clause-did
returns-then-is_err-clause-did g c = searched _ (λ is. absurd (cc)) (then (then c.loop-entries.invariant.0.step c.in_ok-tid.ensures.did.below.step) c.in_ok-key.ensures.did.step)

pub loop-entries-preserved-else-is_err : goal.loop-entries-preserved-else-is_err
loop-entries-preserved-else-is_err g c =
    let so = c.loop-entries.invariant.0 in
    let on = c.in_ok-tid.ensures.did.below.step in
    let items : c.push.new.self.items ≡ c.loop-entries.entries.items ++ (c.in-Some-2.key, c.in-Some.tid) ∷ [] = rw c.if-is_err.ensures.negation at c.push.ensures.items in (
      subst (λ (l : List (List ℕ × Tid)). Gathered c.args.catalog.now c.args.number c.relation-relation.result.now c.args.which.now (g.P.Pages.view c.args.tuples.now.pages) (g.P.Pages.view c.key_at.new.tuples.pages) (Some c.in-Some.tid) l) (sym items)
          (walked_key c.args.catalog.now c.args.number c.relation-relation.result.now c.args.which.now so _ on c.in-Some.tid (rw c.in-Some.is at c.in_ok-tid.ensures.behind) (λ told. (rw c.in-Some.is at c.in_ok-tid.ensures.next) (so.step.passes.leaves.told.0 told)) _ (then on c.in_ok-key.ensures.did.step) (record { page = omega arith; slot = omega arith }) c.in-Some-2.key
          (rw c.in-Some-2.is at c.in_ok-key.ensures.long) (λ told. (rw c.in-Some-2.is at c.in_ok-key.ensures.finds) ((then so.step on).passes.leaves.told.0 told))),
      omega (arith, c.loop-entries.invariant.1, c.len.ensures, c.if-len-most.false, ap (λ (l : List (List ℕ × Tid)). length l) items, length-append c.loop-entries.entries.items ((c.in-Some-2.key, c.in-Some.tid) ∷ [])),
    )

pub loop-entries-preserved : goal.loop-entries-preserved
loop-entries-preserved g c =
    let so = c.loop-entries.invariant.0 in
    let on = c.in_ok-tid.ensures.did.below.step in (
      walked_past c.args.catalog.now c.args.number c.relation-relation.result.now c.args.which.now so _ on c.in-Some.tid (rw c.in-Some.is at c.in_ok-tid.ensures.behind) (λ told. (rw c.in-Some.is at c.in_ok-tid.ensures.next) (so.step.passes.leaves.told.0 told)) _ (then on c.in_ok-key.ensures.did.step) (record { page = omega arith; slot = omega arith })
          (λ told. (rw c.in_default-3.is at c.in_ok-key.ensures.finds) ((then so.step on).passes.leaves.told.0 told)),
      c.loop-entries.invariant.1,
    )

pub returns-clause-are : goal.returns-clause-are
returns-clause-are g c = λ relation told.
    let so = c.loop-entries.invariant.0 in
    let all = gathered_end c.args.catalog.now c.args.number c.relation-relation.result.now c.args.which.now so told ((rw c.in_default-2.is at c.in_ok-tid.ensures.next) (so.step.passes.leaves.told.0 told)) in
    entries_for (both (g.P.Pages.view c.args.tuples.now.pages) c.args.catalog.now) c.args.number c.relation-relation.result.now relation c.args.which.now _ c.relation-relation.ensures.is
    (entries_are {at = both (g.P.Pages.view c.args.tuples.now.pages) c.args.catalog.now} (g.met.P.Pages.few_slots c.args.tuples.now.pages) c.args.number c.relation-relation.result.now c.args.which.now
    (c.requires.numbers c.relation-relation.result.now c.relation-relation.ensures.is) _ _ all
    c.sort_unstable_by.ensures.permutation (c.sort_unstable_by.ensures.sorted is_before ranked (answers_always _ _ _ (λ f a r g called. search rules))))

pub returns-clause-long : goal.returns-clause-long
returns-clause-long g c = λ relation its.
    long_for c.args.catalog.now.listing c.args.number c.relation-relation.result.now relation c.args.which.now _ _ c.relation-relation.ensures.is its c.loop-entries.invariant.0.long c.sort_unstable_by.ensures.permutation

pub returns-clause-rising : goal.returns-clause-rising
returns-clause-rising g c =
    let so = c.loop-entries.invariant.0 in
    sorted_rise (keys_by c.relation-relation.result.now c.args.which.now) _ _ so.apart.apart so.long so.spelled
    c.sort_unstable_by.ensures.permutation (c.sort_unstable_by.ensures.sorted is_before ranked (answers_always _ _ _ (λ f a r g called. search rules)))

pub returns-clause-heaps : goal.returns-clause-heaps
returns-clause-heaps g c = λ told.
    let step = then c.loop-entries.invariant.0.step c.in_ok-tid.ensures.did.below.step in
    heaps_after step c.requires.heaps (step.passes.leaves.told.0 told)

pub returns-clause-did : goal.returns-clause-did
returns-clause-did g c = searched _ (λ is. absurd (cc)) (then c.loop-entries.invariant.0.step c.in_ok-tid.ensures.did.below.step)

pub returns-then-relation-gt-TUPLES_MOST-clause-did : goal.returns-then-relation-gt-TUPLES_MOST-clause-did
returns-then-relation-gt-TUPLES_MOST-clause-did g c = searched {most = 0} _ (λ is. absurd (cc)) (rests (g.P.Pages.view c.args.tuples.now.pages))
