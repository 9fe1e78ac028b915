use Rattle.std.proofs.Common.{◌-◌, ℕ, List, subst, sym, arith}
use Rattle.std.proofs.Math.Logic.{∥∥₁_elim, ∥∥₁_map}
use Rattle.rss_base.proofs.Steps.{then, then_call, done, fails, widens}
use Rattle.rss_image.proofs.Counted.{counts}
use Rattle.rss_image.proofs.Halves.{many}
use Rattle.rss_image.proofs.Kept.{AreMade-prop, one_made, cut_made, lower_made}
use Rattle.rss_image.proofs.Putting.{long_pair, spot_of}
use Rattle.rss_image.specs.Images.{MayCut, CutsPair}
use Rattle.rss_image.proofs.Cut.{may_remove, became_cut, became_lower, has_root}
use Rattle.rss_image.proofs.image.Image.remove.Goals as goal

pub remove_in-requires-clause-there : goal.remove_in-requires-clause-there
remove_in-requires-clause-there g c = λ told. ∥∥₁_map (c.requires.may told) (λ may. may_remove c.args.self.now (g.P.Pages.view c.args.pages.now).held c.pair_of-pair.result (long_pair c.args.self.now.width c.args.key.now c.args.tid c.pair_of-pair.result c.pair_of-pair.ensures c.requires.long) (subst (MayCut c.args.self.now (g.P.Pages.view c.args.pages.now).held) (sym c.pair_of-pair.ensures) may))

pub returns-then-self-eq1-clause-cuts : goal.returns-then-self-eq1-clause-cuts
returns-then-self-eq1-clause-cuts g c = λ told. subst (λ (p : List ℕ). CutsPair p c.args.self.now c.args.self.now (g.P.Pages.view c.args.pages.now) (g.P.Pages.view c.remove_in.new.pages)) c.pair_of-pair.ensures (λ pairs tree there.
    let image = c.args.self.now in
    let old = g.P.Pages.view c.args.pages.now in
    let rem = c.in_ok-left.ensures.removed told pairs (spot_of image old.held c.pair_of-pair.result pairs tree (long_pair c.args.self.now.width c.args.key.now c.args.tid c.pair_of-pair.result c.pair_of-pair.ensures c.requires.long)) in
    let counted = counts image old (g.P.Pages.view c.remove_in.new.pages) pairs tree told c.in_ok-left.ensures.did.step (g.met.P.Pages.holds c.args.pages.now told) (g.met.P.Pages.holds c.remove_in.new.pages (c.in_ok-left.ensures.did.step.passes.leaves.told.0 told)) (g.met.P.Pages.are_counted c.args.pages.now) (g.met.P.Pages.are_counted c.remove_in.new.pages) (g.met.P.Pages.allowed c.args.pages.now) (g.met.P.Pages.allowed c.remove_in.new.pages) in
    became_cut image old c.pair_of-pair.result pairs tree (long_pair c.args.self.now.width c.args.key.now c.args.tid c.pair_of-pair.result c.pair_of-pair.ensures c.requires.long) (many image.width c.requires.of.narrow) (g.P.Pages.view c.remove_in.new.pages) c.in_ok-left.left rem (λ high. absurd (omega (arith, high, c.if-self-eq1.true))) counted)

pub returns-then-left-gt1-clause-cuts : goal.returns-then-left-gt1-clause-cuts
returns-then-left-gt1-clause-cuts g c = λ told. subst (λ (p : List ℕ). CutsPair p c.args.self.now c.args.self.now (g.P.Pages.view c.args.pages.now) (g.P.Pages.view c.remove_in.new.pages)) c.pair_of-pair.ensures (λ pairs tree there.
    let image = c.args.self.now in
    let old = g.P.Pages.view c.args.pages.now in
    let rem = c.in_ok-left.ensures.removed told pairs (spot_of image old.held c.pair_of-pair.result pairs tree (long_pair c.args.self.now.width c.args.key.now c.args.tid c.pair_of-pair.result c.pair_of-pair.ensures c.requires.long)) in
    let counted = counts image old (g.P.Pages.view c.remove_in.new.pages) pairs tree told c.in_ok-left.ensures.did.step (g.met.P.Pages.holds c.args.pages.now told) (g.met.P.Pages.holds c.remove_in.new.pages (c.in_ok-left.ensures.did.step.passes.leaves.told.0 told)) (g.met.P.Pages.are_counted c.args.pages.now) (g.met.P.Pages.are_counted c.remove_in.new.pages) (g.met.P.Pages.allowed c.args.pages.now) (g.met.P.Pages.allowed c.remove_in.new.pages) in
    became_cut image old c.pair_of-pair.result pairs tree (long_pair c.args.self.now.width c.args.key.now c.args.tid c.pair_of-pair.result c.pair_of-pair.ensures c.requires.long) (many image.width c.requires.of.narrow) (g.P.Pages.view c.remove_in.new.pages) c.in_ok-left.left rem (λ high. omega (arith, c.if-left-gt1.true)) counted)

pub drop_root-requires-clause-there : goal.drop_root-requires-clause-there
drop_root-requires-clause-there g c = λ told_mid.
    let image = c.args.self.now in
    let old = g.P.Pages.view c.args.pages.now in
    let told = c.in_ok-left.ensures.did.step.passes.leaves.told.1 told_mid in
    ∥∥₁_map (c.requires.may told) (λ given.
    let may = subst (MayCut image old.held) (sym c.pair_of-pair.ensures) given in
    let rem = c.in_ok-left.ensures.removed told may.pairs (spot_of image old.held c.pair_of-pair.result may.pairs may.tree (long_pair c.args.self.now.width c.args.key.now c.args.tid c.pair_of-pair.result c.pair_of-pair.ensures c.requires.long)) in
    has_root image old c.pair_of-pair.result may.pairs may.tree (long_pair c.args.self.now.width c.args.key.now c.args.tid c.pair_of-pair.result c.pair_of-pair.ensures c.requires.long) (many image.width c.requires.of.narrow) (g.P.Pages.view c.remove_in.new.pages) c.in_ok-left.left rem (omega (arith, c.if-self-eq1.false, c.requires.low)))

pub returns-in_err-root-clause-did : goal.returns-in_err-root-clause-did
returns-in_err-root-clause-did g c = fails _ c.from_residual-in_err-root.ensures.1 (λ key there. there) (omega (arith, c.if-self-eq1.false, c.requires.low)) (omega (arith, c.if-self-eq1.false, c.requires.low)) (then_call c.in_ok-left.ensures.did.step c.in_err-root.ensures.did)

pub returns-clause-cuts : goal.returns-clause-cuts
returns-clause-cuts g c = λ told. subst (λ (p : List ℕ). CutsPair p c.args.self.now (record c.args.self.now { root = c.in_ok-root.root; levels = c.args.self.now.levels - 1 }) (g.P.Pages.view c.args.pages.now) (g.P.Pages.view c.drop_root.new.pages)) c.pair_of-pair.ensures (λ pairs tree there.
    let image = c.args.self.now in
    let old = g.P.Pages.view c.args.pages.now in
    let mid = g.P.Pages.view c.remove_in.new.pages in
    let rem = c.in_ok-left.ensures.removed told pairs (spot_of image old.held c.pair_of-pair.result pairs tree (long_pair c.args.self.now.width c.args.key.now c.args.tid c.pair_of-pair.result c.pair_of-pair.ensures c.requires.long)) in
    let told_mid = c.in_ok-left.ensures.did.step.passes.leaves.told.0 told in
    let told_new = c.in_ok-root.ensures.did.step.passes.leaves.told.0 told_mid in
    let counted = counts image old (g.P.Pages.view c.drop_root.new.pages) pairs tree told (then c.in_ok-left.ensures.did.step c.in_ok-root.ensures.did.step) (g.met.P.Pages.holds c.args.pages.now told) (g.met.P.Pages.holds c.drop_root.new.pages told_new) (g.met.P.Pages.are_counted c.args.pages.now) (g.met.P.Pages.are_counted c.drop_root.new.pages) (g.met.P.Pages.allowed c.args.pages.now) (g.met.P.Pages.allowed c.drop_root.new.pages) in
    became_lower image old c.pair_of-pair.result pairs tree (long_pair c.args.self.now.width c.args.key.now c.args.tid c.pair_of-pair.result c.pair_of-pair.ensures c.requires.long) (many image.width c.requires.of.narrow) mid (g.P.Pages.view c.drop_root.new.pages) c.in_ok-left.left c.in_ok-root.root rem (omega (arith, c.if-self-eq1.false, c.requires.low)) (omega (arith, c.if-left-gt1.false)) (c.in_ok-root.ensures.dropped told_mid) counted)

pub returns-clause-did : goal.returns-clause-did
returns-clause-did g c = widens (λ key there. there) (omega (arith, c.if-self-eq1.false, c.requires.low)) (omega (arith, c.if-self-eq1.false, c.requires.low)) (done _ (then c.in_ok-left.ensures.did.step c.in_ok-root.ensures.did.step))

pub returns-then-self-eq1-clause-made : goal.returns-then-self-eq1-clause-made
returns-then-self-eq1-clause-made g c = λ told good pairs tree made others other. ∥∥₁_elim (c.requires.may told) (AreMade-prop good other) (λ given.
    let image = c.args.self.now in
    let old = g.P.Pages.view c.args.pages.now in
    let long = (long_pair c.args.self.now.width c.args.key.now c.args.tid c.pair_of-pair.result c.pair_of-pair.ensures c.requires.long) in
    let may = subst (MayCut image old.held) (sym c.pair_of-pair.ensures) given in
    let rem = c.in_ok-left.ensures.removed told may.pairs (spot_of image old.held c.pair_of-pair.result may.pairs may.tree long) in
    cut_made image old c.pair_of-pair.result may.pairs may.tree long (many image.width c.requires.of.narrow) good (one_made image old.held good pairs tree made may.pairs may.tree) (g.P.Pages.view c.remove_in.new.pages) c.in_ok-left.left rem (λ high. absurd (omega (arith, high, c.if-self-eq1.true))) others other)

pub returns-then-left-gt1-clause-made : goal.returns-then-left-gt1-clause-made
returns-then-left-gt1-clause-made g c = λ told good pairs tree made others other. ∥∥₁_elim (c.requires.may told) (AreMade-prop good other) (λ given.
    let image = c.args.self.now in
    let old = g.P.Pages.view c.args.pages.now in
    let long = (long_pair c.args.self.now.width c.args.key.now c.args.tid c.pair_of-pair.result c.pair_of-pair.ensures c.requires.long) in
    let may = subst (MayCut image old.held) (sym c.pair_of-pair.ensures) given in
    let rem = c.in_ok-left.ensures.removed told may.pairs (spot_of image old.held c.pair_of-pair.result may.pairs may.tree long) in
    cut_made image old c.pair_of-pair.result may.pairs may.tree long (many image.width c.requires.of.narrow) good (one_made image old.held good pairs tree made may.pairs may.tree) (g.P.Pages.view c.remove_in.new.pages) c.in_ok-left.left rem (λ high. omega (arith, c.if-left-gt1.true)) others other)

pub returns-clause-made : goal.returns-clause-made
returns-clause-made g c = λ told good pairs tree made others other. ∥∥₁_elim (c.requires.may told) (AreMade-prop good other) (λ given.
    let image = c.args.self.now in
    let old = g.P.Pages.view c.args.pages.now in
    let mid = g.P.Pages.view c.remove_in.new.pages in
    let long = (long_pair c.args.self.now.width c.args.key.now c.args.tid c.pair_of-pair.result c.pair_of-pair.ensures c.requires.long) in
    let may = subst (MayCut image old.held) (sym c.pair_of-pair.ensures) given in
    let rem = c.in_ok-left.ensures.removed told may.pairs (spot_of image old.held c.pair_of-pair.result may.pairs may.tree long) in
    let told_mid = c.in_ok-left.ensures.did.step.passes.leaves.told.0 told in
    lower_made image old c.pair_of-pair.result may.pairs may.tree long (many image.width c.requires.of.narrow) good (one_made image old.held good pairs tree made may.pairs may.tree) mid (g.P.Pages.view c.drop_root.new.pages) c.in_ok-left.left c.in_ok-root.root rem (omega (arith, c.if-self-eq1.false, c.requires.low)) (omega (arith, c.if-left-gt1.false)) (c.in_ok-root.ensures.dropped told_mid) others other)
