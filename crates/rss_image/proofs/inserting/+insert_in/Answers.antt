use Rattle.std.proofs.Common.{◌≡◌, ◌-◌, ℕ, [], ◌∷◌, true, sym, subst, arith, Option, Some, None}
use Rattle.std.proofs.Math.Logic.{∥∥₁_elim, ∥∥₁_map}
use Rattle.std.proofs.Math.Bool.{Bool-set}
use Rattle.std.proofs.Math.Bridge.{le_prop}
use mathlib.Core.HLevel.{⊥_prop}
use Rattle.rss_base.proofs.Steps.{then, then_call, done, fails, widens, untouched, all_held}
use Rattle.rss_base.specs.Paged.{Held}
use Rattle.rss_base.specs.Entries.{Entry}
use Rattle.rss_levels.specs.Rows.{Cells, HoldsAt}
use Rattle.rss_node.specs.Nodes.{IsPassed}
use Rattle.rss_image.specs.Trees.{cells_of, spells}
use Rattle.rss_image.specs.Grown.{Grown, put_at}
use Rattle.rss_levels.proofs.Spotted.{at_place}
use Rattle.rss_image.specs.declared.halving.Split.{Split}
use Rattle.rss_image.specs.Inserted.{MayInsert, Inserted}
use Rattle.rss_image.proofs.Calls.{damage, held_is_mapped, keeps_none, spare_rests}
use Rattle.rss_image.proofs.Results.{on_ok}
use Rattle.rss_image.proofs.Places.{spot_node}
use Rattle.rss_image.proofs.Passing.{leaf_passed}
use Rattle.rss_image.proofs.Insertion.{leaf_done, inner_none, inner_some, still, never_first, leaf_room, inner_room, may_insert_below, Below}
use Rattle.rss_node.proofs.Lent.{lent_before, lent_child, lent_here, lent_within}
use Rattle.rss_image.proofs.inserting.+insert_in.Goals as goal

pub read_node-requires-clause-there : goal.read_node-requires-clause-there
read_node-requires-clause-there g t c = λ told. ∥∥₁_map (c.requires.there told) (λ may. spot_node c.args.of (g.P.Pages.view c.args.pages.now).held c.args.level c.args.number c.args.pair.now (record { pairs = may.pairs; spot = may.spot }))

pub grow-requires-clause-mapped : goal.grow-requires-clause-mapped
grow-requires-clause-mapped g t c = λ told_one.
    let of = c.args.of in
    let old : Cells = cells_of of (g.P.Pages.view c.args.pages.now).held in
    let one : Cells = cells_of of (g.P.Pages.view c.read_node.new.pages).held in
    let step = c.in_ok-read_node.ensures.did.step in
    let told = step.passes.leaves.told.1 told_one in
    let same : one ≡ old = keeps_none of (g.P.Pages.view c.args.pages.now) (g.P.Pages.view c.read_node.new.pages) step told in
    held_is_mapped of (g.P.Pages.view c.read_node.new.pages) c.args.level c.args.number c.read_node.new.into.next c.read_node.new.into.entries (g.met.P.Pages.holds c.read_node.new.pages told_one) (subst (λ (cs : Cells). HoldsAt (spells of) cs c.args.level c.args.number c.read_node.new.into.next c.read_node.new.into.entries) (sym same) (c.in_ok-read_node.ensures.holds told))

pub grow-requires-clause-room : goal.grow-requires-clause-room
grow-requires-clause-room g t c = λ told_one full.
    let of = c.args.of in
    let old = g.P.Pages.view c.args.pages.now in
    let step = c.in_ok-read_node.ensures.did.step in
    let told = step.passes.leaves.told.1 told_one in
    let spare = spare_rests old (g.P.Pages.view c.read_node.new.pages) step (g.met.P.Pages.are_counted c.args.pages.now) (g.met.P.Pages.are_counted c.read_node.new.pages) in
    ∥∥₁_elim (c.requires.there told) le_prop (λ may.
    let room = leaf_room of (cells_of of old.held) c.args.level c.args.number c.args.pair.now may.pairs may.spot c.read_node.new.into (c.in_ok-read_node.ensures.holds told) c.if-level-eq0.true old.spare may.room full in
    omega (arith, spare, room))

pub returns-then-level-eq0-clause-inserted : goal.returns-then-level-eq0-clause-inserted
returns-then-level-eq0-clause-inserted g t c = on_ok c.grow.result (λ split grown told pairs spot absent.
    let of = c.args.of in
    let old : Cells = cells_of of (g.P.Pages.view c.args.pages.now).held in
    let one : Cells = cells_of of (g.P.Pages.view c.read_node.new.pages).held in
    let step = c.in_ok-read_node.ensures.did.step in
    let same : one ≡ old = keeps_none of (g.P.Pages.view c.args.pages.now) (g.P.Pages.view c.read_node.new.pages) step told in
    let told_one = step.passes.leaves.told.0 told in
    let new : Cells = cells_of of (g.P.Pages.view c.grow.new.pages).held in
    let e : Entry = record { pair = c.args.pair.now; child = 0 } in
    leaf_done of old c.args.level c.args.number c.args.pair.now pairs spot c.read_node.new.into (c.in_ok-read_node.ensures.holds told) new c.place-at.result split c.if-level-eq0.true absent (lent_within c.lent.ensures c.place-at.result c.place-at.ensures.within) (leaf_passed of old c.args.level c.args.number c.args.pair.now pairs spot c.read_node.new.into (c.in_ok-read_node.ensures.holds told) c.if-level-eq0.true true c.place-at.result (lent_within c.lent.ensures c.place-at.result c.place-at.ensures.within) (lent_before c.lent.ensures true c.place-at.result c.args.pair.now c.place-at.ensures.before)) (lent_here c.lent.ensures true c.place-at.result c.args.pair.now c.place-at.ensures.here)
    (subst (λ (cs : Cells). Grown of c.args.level c.args.number c.read_node.new.into.next (put_at c.read_node.new.into.entries c.place-at.result e) cs new split) same (grown told_one))) c.grow.ensures.grown

pub returns-then-level-eq0-clause-spare : goal.returns-then-level-eq0-clause-spare
returns-then-level-eq0-clause-spare g t c =
    let spare = spare_rests (g.P.Pages.view c.args.pages.now) (g.P.Pages.view c.read_node.new.pages) c.in_ok-read_node.ensures.did.step (g.met.P.Pages.are_counted c.args.pages.now) (g.met.P.Pages.are_counted c.read_node.new.pages) in
    on_ok c.grow.result (λ split more. omega (arith, spare, more)) c.grow.ensures.spare

pub returns-then-level-eq0-clause-did : goal.returns-then-level-eq0-clause-did
returns-then-level-eq0-clause-did g t c = widens (λ key there. there) (omega arith) (omega arith) (then_call (untouched c.in_ok-read_node.ensures.did.step) c.grow.ensures.did)

pub returns-then-at-eq0-clause-did : goal.returns-then-at-eq0-clause-did
returns-then-at-eq0-clause-did g t c = widens (λ key there. there) (omega arith) (omega arith) (damage (untouched c.in_ok-read_node.ensures.did.step) c.damaged.ensures (λ told. ∥∥₁_elim (c.requires.there told) ⊥_prop (λ may.
    never_first c.args.of (cells_of c.args.of (g.P.Pages.view c.args.pages.now).held) c.args.level c.args.number c.args.pair.now may.pairs may.spot c.read_node.new.into (c.in_ok-read_node.ensures.holds told) (omega arith) c.requires.long
    (λ some passed. (lent_here c.lent.ensures true c.place-at.result c.args.pair.now c.place-at.ensures.here) (omega arith) (subst (λ (n : ℕ). IsPassed true (at_place c.read_node.new.into.entries n).pair c.args.pair.now) (sym c.if-at-eq0.true) passed)))))

pub insert_in-requires : goal.insert_in-requires
insert_in-requires g t c = λ κs lives. (
  omega (arith, c.decreases),
  (
    lives,
    (
      c.requires.of,
      (
        c.requires.long,
        (λ told_one.
            let of = c.args.of in
            let old = g.P.Pages.view c.args.pages.now in
            let one = g.P.Pages.view c.read_node.new.pages in
            let step = c.in_ok-read_node.ensures.did.step in
            let told = step.passes.leaves.told.1 told_one in
            let spare : one.spare ≡ old.spare = spare_rests old one step (g.met.P.Pages.are_counted c.args.pages.now) (g.met.P.Pages.are_counted c.read_node.new.pages) in
            ∥∥₁_map (c.requires.there told) (λ given.
            let may = may_insert_below of old.held old.spare c.args.level c.args.number c.args.pair.now given c.read_node.new.into (c.in_ok-read_node.ensures.holds told) c.place-at.result (omega arith) (omega arith) (lent_within c.lent.ensures c.place-at.result c.place-at.ensures.within) ((lent_before c.lent.ensures true c.place-at.result c.args.pair.now c.place-at.ensures.before) (omega arith)) (lent_here c.lent.ensures true c.place-at.result c.args.pair.now c.place-at.ensures.here) in
            subst (λ (h : Held). MayInsert of h one.spare (c.args.level - 1) c.child-child.result c.args.pair.now) (sym (all_held step told))
            (subst (λ (n : ℕ). MayInsert of old.held n (c.args.level - 1) c.child-child.result c.args.pair.now) (sym spare)
            (subst (λ (n : ℕ). MayInsert of old.held old.spare (c.args.level - 1) n c.args.pair.now) (sym (lent_child c.lent-2.ensures (c.place-at.result - 1) c.child-child.ensures)) may)))),
      ),
    ),
  ),
)

pub returns-in_err-below-clause-did : goal.returns-in_err-below-clause-did
returns-in_err-below-clause-did g t c = fails _ c.from_residual-in_err-below.ensures.1 (λ key there. there) (omega arith) (omega arith) (then_call (untouched c.in_ok-read_node.ensures.did.step) c.in_err-below.ensures.did)

pub grow-requires-in-Some-clause-mapped : goal.grow-requires-in-Some-clause-mapped
grow-requires-in-Some-clause-mapped g t c = λ told_two.
    let of = c.args.of in
    let old : Cells = cells_of of (g.P.Pages.view c.args.pages.now).held in
    let one : Cells = cells_of of (g.P.Pages.view c.read_node.new.pages).held in
    let step = c.in_ok-read_node.ensures.did.step in
    let told_one = c.in_ok-below.ensures.did.step.passes.leaves.told.1 told_two in
    let told = step.passes.leaves.told.1 told_one in
    let same : one ≡ old = keeps_none of (g.P.Pages.view c.args.pages.now) (g.P.Pages.view c.read_node.new.pages) step told in
    ∥∥₁_elim (c.requires.there told) (Bool-set _ _) (λ may.
    let e : Entry = record { pair = c.in-Some.split.pair; child = c.in-Some.split.number } in
    let two : Cells = cells_of of (g.P.Pages.view c.insert_in.new.pages).held in
    let does : Inserted of (c.args.level - 1) c.child-child.result c.args.pair.now (g.P.Pages.view c.read_node.new.pages) (g.P.Pages.view c.insert_in.new.pages) (Some c.in-Some.split) = subst (λ (b : Option Split). Inserted of (c.args.level - 1) c.child-child.result c.args.pair.now (g.P.Pages.view c.read_node.new.pages) (g.P.Pages.view c.insert_in.new.pages) b) c.in-Some.is (c.in_ok-below.ensures.inserted told_one) in
    let does_old = subst (λ (n : ℕ). Below of (c.args.level - 1) c.args.pair.now old n two (e ∷ [])) (lent_child c.lent-2.ensures (c.place-at.result - 1) c.child-child.ensures) (subst (λ (cs : Cells). Below of (c.args.level - 1) c.args.pair.now cs c.child-child.result two (e ∷ [])) same does) in
    held_is_mapped of (g.P.Pages.view c.insert_in.new.pages) c.args.level c.args.number _ _ (g.met.P.Pages.holds c.insert_in.new.pages told_two) (still of old c.args.level c.args.number c.args.pair.now may.pairs may.spot c.read_node.new.into (c.in_ok-read_node.ensures.holds told) c.place-at.result (omega arith) (omega arith) (lent_within c.lent.ensures c.place-at.result c.place-at.ensures.within) ((lent_before c.lent.ensures true c.place-at.result c.args.pair.now c.place-at.ensures.before) (omega arith)) (lent_here c.lent.ensures true c.place-at.result c.args.pair.now c.place-at.ensures.here) two (e ∷ []) does_old may.absent))

pub grow-requires-in-Some-clause-room : goal.grow-requires-in-Some-clause-room
grow-requires-in-Some-clause-room g t c = λ told_two full.
    let of = c.args.of in
    let old : Cells = cells_of of (g.P.Pages.view c.args.pages.now).held in
    let one : Cells = cells_of of (g.P.Pages.view c.read_node.new.pages).held in
    let two : Cells = cells_of of (g.P.Pages.view c.insert_in.new.pages).held in
    let step = c.in_ok-read_node.ensures.did.step in
    let told_one = c.in_ok-below.ensures.did.step.passes.leaves.told.1 told_two in
    let told = step.passes.leaves.told.1 told_one in
    let same : one ≡ old = keeps_none of (g.P.Pages.view c.args.pages.now) (g.P.Pages.view c.read_node.new.pages) step told in
    let spare = spare_rests (g.P.Pages.view c.args.pages.now) (g.P.Pages.view c.read_node.new.pages) step (g.met.P.Pages.are_counted c.args.pages.now) (g.met.P.Pages.are_counted c.read_node.new.pages) in
    ∥∥₁_elim (c.requires.there told) le_prop (λ may.
    let e : Entry = record { pair = c.in-Some.split.pair; child = c.in-Some.split.number } in
    let does : Inserted of (c.args.level - 1) c.child-child.result c.args.pair.now (g.P.Pages.view c.read_node.new.pages) (g.P.Pages.view c.insert_in.new.pages) (Some c.in-Some.split) = subst (λ (b : Option Split). Inserted of (c.args.level - 1) c.child-child.result c.args.pair.now (g.P.Pages.view c.read_node.new.pages) (g.P.Pages.view c.insert_in.new.pages) b) c.in-Some.is (c.in_ok-below.ensures.inserted told_one) in
    let does_old = subst (λ (n : ℕ). Below of (c.args.level - 1) c.args.pair.now old n two (e ∷ [])) (lent_child c.lent-2.ensures (c.place-at.result - 1) c.child-child.ensures) (subst (λ (cs : Cells). Below of (c.args.level - 1) c.args.pair.now cs c.child-child.result two (e ∷ [])) same does) in
    let room = inner_room of old c.args.level c.args.number c.args.pair.now may.pairs may.spot c.read_node.new.into (c.in_ok-read_node.ensures.holds told) c.place-at.result (omega arith) (omega arith) (lent_within c.lent.ensures c.place-at.result c.place-at.ensures.within) ((lent_before c.lent.ensures true c.place-at.result c.args.pair.now c.place-at.ensures.before) (omega arith)) (lent_here c.lent.ensures true c.place-at.result c.args.pair.now c.place-at.ensures.here) two e (g.P.Pages.view c.args.pages.now).spare does_old may.absent may.room full in
    omega (arith, spare, room, c.in_ok-below.ensures.spare))

pub returns-in-None-clause-inserted : goal.returns-in-None-clause-inserted
returns-in-None-clause-inserted g t c = λ told pairs spot absent.
    let of = c.args.of in
    let old : Cells = cells_of of (g.P.Pages.view c.args.pages.now).held in
    let one : Cells = cells_of of (g.P.Pages.view c.read_node.new.pages).held in
    let step = c.in_ok-read_node.ensures.did.step in
    let same : one ≡ old = keeps_none of (g.P.Pages.view c.args.pages.now) (g.P.Pages.view c.read_node.new.pages) step told in
    let told_one = step.passes.leaves.told.0 told in
    let two : Cells = cells_of of (g.P.Pages.view c.insert_in.new.pages).held in
    let does : Inserted of (c.args.level - 1) c.child-child.result c.args.pair.now (g.P.Pages.view c.read_node.new.pages) (g.P.Pages.view c.insert_in.new.pages) None = subst (λ (b : Option Split). Inserted of (c.args.level - 1) c.child-child.result c.args.pair.now (g.P.Pages.view c.read_node.new.pages) (g.P.Pages.view c.insert_in.new.pages) b) c.in-None.is (c.in_ok-below.ensures.inserted told_one) in
    let does_old = subst (λ (n : ℕ). Below of (c.args.level - 1) c.args.pair.now old n two []) (lent_child c.lent-2.ensures (c.place-at.result - 1) c.child-child.ensures) (subst (λ (cs : Cells). Below of (c.args.level - 1) c.args.pair.now cs c.child-child.result two []) same does) in
    inner_none of old c.args.level c.args.number c.args.pair.now pairs spot c.read_node.new.into (c.in_ok-read_node.ensures.holds told) c.place-at.result (omega arith) (omega arith) (lent_within c.lent.ensures c.place-at.result c.place-at.ensures.within) ((lent_before c.lent.ensures true c.place-at.result c.args.pair.now c.place-at.ensures.before) (omega arith)) (lent_here c.lent.ensures true c.place-at.result c.args.pair.now c.place-at.ensures.here) two does_old absent

pub returns-in-None-clause-spare : goal.returns-in-None-clause-spare
returns-in-None-clause-spare g t c =
    let spare = spare_rests (g.P.Pages.view c.args.pages.now) (g.P.Pages.view c.read_node.new.pages) c.in_ok-read_node.ensures.did.step (g.met.P.Pages.are_counted c.args.pages.now) (g.met.P.Pages.are_counted c.read_node.new.pages) in
    omega (arith, spare, c.in_ok-below.ensures.spare)

pub returns-in-None-clause-did : goal.returns-in-None-clause-did
returns-in-None-clause-did g t c = widens (λ key there. there) (omega arith) (omega arith) (done _ (then (untouched c.in_ok-read_node.ensures.did.step) c.in_ok-below.ensures.did.step))

pub returns-in-Some-clause-inserted : goal.returns-in-Some-clause-inserted
returns-in-Some-clause-inserted g t c = on_ok c.grow-in-Some.result (λ split grown told pairs spot absent.
    let of = c.args.of in
    let old : Cells = cells_of of (g.P.Pages.view c.args.pages.now).held in
    let one : Cells = cells_of of (g.P.Pages.view c.read_node.new.pages).held in
    let step = c.in_ok-read_node.ensures.did.step in
    let same : one ≡ old = keeps_none of (g.P.Pages.view c.args.pages.now) (g.P.Pages.view c.read_node.new.pages) step told in
    let told_one = step.passes.leaves.told.0 told in
    let two : Cells = cells_of of (g.P.Pages.view c.insert_in.new.pages).held in
    let new : Cells = cells_of of (g.P.Pages.view c.grow-in-Some.new.pages).held in
    let told_two = c.in_ok-below.ensures.did.step.passes.leaves.told.0 told_one in
    let e : Entry = record { pair = c.in-Some.split.pair; child = c.in-Some.split.number } in
    let does : Inserted of (c.args.level - 1) c.child-child.result c.args.pair.now (g.P.Pages.view c.read_node.new.pages) (g.P.Pages.view c.insert_in.new.pages) (Some c.in-Some.split) = subst (λ (b : Option Split). Inserted of (c.args.level - 1) c.child-child.result c.args.pair.now (g.P.Pages.view c.read_node.new.pages) (g.P.Pages.view c.insert_in.new.pages) b) c.in-Some.is (c.in_ok-below.ensures.inserted told_one) in
    let does_old = subst (λ (n : ℕ). Below of (c.args.level - 1) c.args.pair.now old n two (e ∷ [])) (lent_child c.lent-2.ensures (c.place-at.result - 1) c.child-child.ensures) (subst (λ (cs : Cells). Below of (c.args.level - 1) c.args.pair.now cs c.child-child.result two (e ∷ [])) same does) in
    inner_some of old c.args.level c.args.number c.args.pair.now pairs spot c.read_node.new.into (c.in_ok-read_node.ensures.holds told) c.place-at.result (omega arith) (omega arith) (lent_within c.lent.ensures c.place-at.result c.place-at.ensures.within) ((lent_before c.lent.ensures true c.place-at.result c.args.pair.now c.place-at.ensures.before) (omega arith)) (lent_here c.lent.ensures true c.place-at.result c.args.pair.now c.place-at.ensures.here) two new e split does_old (grown told_two) absent) c.grow-in-Some.ensures.grown

pub returns-in-Some-clause-spare : goal.returns-in-Some-clause-spare
returns-in-Some-clause-spare g t c =
    let spare = spare_rests (g.P.Pages.view c.args.pages.now) (g.P.Pages.view c.read_node.new.pages) c.in_ok-read_node.ensures.did.step (g.met.P.Pages.are_counted c.args.pages.now) (g.met.P.Pages.are_counted c.read_node.new.pages) in
    on_ok c.grow-in-Some.result (λ split more. omega (arith, spare, c.in_ok-below.ensures.spare, more)) c.grow-in-Some.ensures.spare

pub returns-in-Some-clause-did : goal.returns-in-Some-clause-did
returns-in-Some-clause-did g t c = widens (λ key there. there) (omega arith) (omega arith) (then_call (then (untouched c.in_ok-read_node.ensures.did.step) c.in_ok-below.ensures.did.step) c.grow-in-Some.ensures.did)

pub returns-in_err-read_node-clause-did : goal.returns-in_err-read_node-clause-did
returns-in_err-read_node-clause-did g t c = fails _ c.from_residual.ensures.1 (λ key none. absurd none) (omega arith) (omega arith) c.in_err-read_node.ensures.did
