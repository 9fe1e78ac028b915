use Rattle.std.proofs.Common.{ℕ, ◌+◌, length, refl, sym, subst, arith}
use Rattle.rss_image.specs.Checking.{IsSeenLeaf, leaf_part}
use Rattle.rss_image.proofs.Fits.{fine_holds, never_fits}
use Rattle.rss_image.proofs.Walked.{page_seen, leaf_passed, never_held, leaf_before}
use Rattle.rss_node.proofs.Headers.{has_room}
use Rattle.rss_image.proofs.checking.leaf_in.Goals as goal

pub returns-in_default-clause-never : goal.returns-in_default-clause-never
returns-in_default-clause-never c = λ no held there row seen stands room.
    never_held c.args.of c.args.slots held 0 c.args.number c.args.low.now c.args.fewest row (never_fits c.args.of c.args.slots 0 c.args.number c.args.fewest held c.args.page.now there (c.in_default.ensures.none refl)) stands

pub returns-clause-few : goal.returns-clause-few
returns-clause-few c = λ fits. omega (arith, has_room c.in-Some.node.width (length c.in-Some.node.entries) c.in-Some.ensures.few, c.check_leaf.ensures.pairs fits, c.check_leaf.ensures.pages fits, c.requires.few)

pub returns-clause-sees : goal.returns-clause-sees
returns-clause-sees c = λ yes held there row seen rises.
    let node = c.in-Some.node in
    let width = c.in-Some.ensures.is.width in
    let holds = fine_holds c.args.of c.args.slots 0 c.args.number held c.args.page.now node there c.in-Some.ensures.spelled c.in-Some.ensures.is c.in-Some.ensures.fit in
    let counted = page_seen c.args.of.width node.width row c.args.seen.now.pages c.args.seen.now (sym width) seen in
    let passed = c.check_leaf.ensures.yes yes row counted rises in
    leaf_passed c.args.of c.args.slots held 0 c.args.number c.args.low.now c.args.fewest node.next node.entries row c.args.seen.now.pages c.check_leaf.new.seen refl holds c.in-Some.ensures.filled
    (subst (λ (w : ℕ). IsSeenLeaf w node.next (leaf_part c.args.number c.args.low.now node.entries) row (c.args.seen.now.pages + 1) c.check_leaf.new.seen) width passed)

pub returns-clause-never : goal.returns-clause-never
returns-clause-never c = λ no held there row seen stands room.
    let node = c.in-Some.node in
    let holds = fine_holds c.args.of c.args.slots 0 c.args.number held c.args.page.now node there c.in-Some.ensures.spelled c.in-Some.ensures.is c.in-Some.ensures.fit in
    let counted = page_seen c.args.of.width node.width row c.args.seen.now.pages c.args.seen.now (sym c.in-Some.ensures.is.width) seen in
    let leaf = leaf_before c.args.of c.args.slots held 0 c.args.number c.args.low.now c.args.fewest node.next node.entries row refl holds stands in
    c.check_leaf.ensures.no no row counted leaf.leads leaf.rises
