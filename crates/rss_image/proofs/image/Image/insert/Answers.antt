use Rattle.std.proofs.Common.{◌∙◌, ap, ◌+◌, ℕ, List, sym, ◌-◌, subst, arith, Option, Some, None}
use Rattle.std.proofs.Math.Logic.{∥∥₁_elim, ∥∥₁_map}
use Rattle.std.proofs.Math.Bridge.{le_prop}
use mathlib.Core.HLevel.{⊥_prop}
use Rattle.rss_image.proofs.Calls.{damage}
use Rattle.rss_base.proofs.Steps.{rests, then, then_call, done, fails, widens}
use Rattle.rss_base.specs.Entries.{Entry}
use Rattle.rss_image.specs.Images.{nodes_of, MayPut, PutsPair}
use Rattle.rss_image.specs.Inserted.{Inserted}
use Rattle.rss_image.specs.declared.halving.Split.{Split}
use Rattle.rss_image.proofs.Counted.{counts}
use Rattle.rss_image.proofs.Halves.{many}
use Rattle.rss_image.proofs.Kept.{AreMade-prop, one_made, whole_made, split_made}
use Rattle.rss_image.proofs.Putting.{long_pair, slot_pair, spot_of, may_insert, root_room, became_whole, became_split, few_levels}
use Rattle.rss_image.proofs.image.Image.insert.Goals as goal

pub returns-then-self-gt-MOST_LEVELS-clause-did : goal.returns-then-self-gt-MOST_LEVELS-clause-did
returns-then-self-gt-MOST_LEVELS-clause-did g c = damage (rests _) c.damaged.ensures (λ told. ∥∥₁_elim (c.requires.may told) ⊥_prop (λ may.
    let image = c.args.self.now in
    let few = few_levels image (g.P.Pages.view c.args.pages.now).held (many image.width c.requires.of.narrow) may.pairs may.tree may.few in
    omega (arith, few, c.if-self-gt-MOST_LEVELS.true)))

pub insert_in-requires-clause-there : goal.insert_in-requires-clause-there
insert_in-requires-clause-there g c = λ told. ∥∥₁_map (c.requires.may told) (λ may. may_insert c.args.self.now (g.P.Pages.view c.args.pages.now) c.pair_of-pair.result (long_pair c.args.self.now.width c.args.key.now c.args.tid c.pair_of-pair.result c.pair_of-pair.ensures c.requires.long) (many c.args.self.now.width c.requires.of.narrow) (subst (MayPut c.args.self.now (g.P.Pages.view c.args.pages.now).held) (sym c.pair_of-pair.ensures) may) (c.requires.room told))

pub add_root-requires-clause-room : goal.add_root-requires-clause-room
add_root-requires-clause-room g c = λ told_mid.
    let image = c.args.self.now in
    let old = g.P.Pages.view c.args.pages.now in
    let mid = g.P.Pages.view c.insert_in.new.pages in
    let told = c.in_ok-insert_in.ensures.did.step.passes.leaves.told.1 told_mid in
    let split = c.in-Some.split in
    let e : Entry = record { pair = split.pair; child = split.number } in
    ∥∥₁_elim (c.requires.may told) le_prop (λ given.
    let may = subst (MayPut image old.held) (sym c.pair_of-pair.ensures) given in
    let does : Inserted (nodes_of image) (image.levels - 1) image.root c.pair_of-pair.result old mid (Some split) = subst (λ (b : Option Split). Inserted (nodes_of image) (image.levels - 1) image.root c.pair_of-pair.result old mid b) c.in-Some.is (c.in_ok-insert_in.ensures.inserted told) in
    let ins = does may.pairs (spot_of image old.held c.pair_of-pair.result may.pairs may.tree (long_pair c.args.self.now.width c.args.key.now c.args.tid c.pair_of-pair.result c.pair_of-pair.ensures c.requires.long)) may.absent in
    let room = root_room image old c.pair_of-pair.result may.pairs may.tree (long_pair c.args.self.now.width c.args.key.now c.args.tid c.pair_of-pair.result c.pair_of-pair.ensures c.requires.long) (many image.width c.requires.of.narrow) (c.requires.room told) mid e ins in
    omega (arith, room, c.in_ok-insert_in.ensures.spare))

pub returns-in_err-root-in-Some-clause-did : goal.returns-in_err-root-in-Some-clause-did
returns-in_err-root-in-Some-clause-did g c = fails _ c.from_residual-in_err-root-in-Some.ensures.1 (λ key there. there) (omega arith) (omega arith) (then_call c.in_ok-insert_in.ensures.did.step c.in_err-root-in-Some.ensures.did)

pub returns-in_ok-root-in-Some-clause-puts : goal.returns-in_ok-root-in-Some-clause-puts
returns-in_ok-root-in-Some-clause-puts g c = λ told. subst (λ (p : List ℕ). PutsPair p c.args.self.now (record c.args.self.now { root = c.in_ok-root-in-Some.root; levels = c.args.self.now.levels + 1 }) (g.P.Pages.view c.args.pages.now) (g.P.Pages.view c.add_root.new.pages)) c.pair_of-pair.ensures (λ pairs tree absent.
    let image = c.args.self.now in
    let old = g.P.Pages.view c.args.pages.now in
    let mid = g.P.Pages.view c.insert_in.new.pages in
    let split = c.in-Some.split in
    let e : Entry = record { pair = split.pair; child = split.number } in
    let room = many image.width c.requires.of.narrow in
    let does : Inserted (nodes_of image) (image.levels - 1) image.root c.pair_of-pair.result old mid (Some split) = subst (λ (b : Option Split). Inserted (nodes_of image) (image.levels - 1) image.root c.pair_of-pair.result old mid b) c.in-Some.is (c.in_ok-insert_in.ensures.inserted told) in
    let ins = does pairs (spot_of image old.held c.pair_of-pair.result pairs tree (long_pair c.args.self.now.width c.args.key.now c.args.tid c.pair_of-pair.result c.pair_of-pair.ensures c.requires.long)) absent in
    let told_mid = c.in_ok-insert_in.ensures.did.step.passes.leaves.told.0 told in
    let told_new = c.in_ok-root-in-Some.ensures.did.step.passes.leaves.told.0 told_mid in
    let counted = counts image old (g.P.Pages.view c.add_root.new.pages) pairs tree told (then c.in_ok-insert_in.ensures.did.step c.in_ok-root-in-Some.ensures.did.step) (g.met.P.Pages.holds c.args.pages.now told) (g.met.P.Pages.holds c.add_root.new.pages told_new) (g.met.P.Pages.are_counted c.args.pages.now) (g.met.P.Pages.are_counted c.add_root.new.pages) (g.met.P.Pages.allowed c.args.pages.now) (g.met.P.Pages.allowed c.add_root.new.pages) in
    became_split image old c.pair_of-pair.result pairs tree (long_pair c.args.self.now.width c.args.key.now c.args.tid c.pair_of-pair.result c.pair_of-pair.ensures c.requires.long) room (slot_pair c.args.self.now.width c.args.key.now c.args.tid c.pair_of-pair.result c.pair_of-pair.ensures c.requires.long c.requires.slot) mid (g.P.Pages.view c.add_root.new.pages) e c.in_ok-root-in-Some.root ins (c.in_ok-root-in-Some.ensures.rooted told_mid) counted)

pub returns-in_ok-root-in-Some-clause-did : goal.returns-in_ok-root-in-Some-clause-did
returns-in_ok-root-in-Some-clause-did g c = widens (λ key there. there) (omega arith) (omega arith) (done _ (then c.in_ok-insert_in.ensures.did.step c.in_ok-root-in-Some.ensures.did.step))

pub returns-in-None-clause-puts : goal.returns-in-None-clause-puts
returns-in-None-clause-puts g c = λ told. subst (λ (p : List ℕ). PutsPair p c.args.self.now c.args.self.now (g.P.Pages.view c.args.pages.now) (g.P.Pages.view c.insert_in.new.pages)) c.pair_of-pair.ensures (λ pairs tree absent.
    let image = c.args.self.now in
    let old = g.P.Pages.view c.args.pages.now in
    let new = g.P.Pages.view c.insert_in.new.pages in
    let room = many image.width c.requires.of.narrow in
    let does : Inserted (nodes_of image) (image.levels - 1) image.root c.pair_of-pair.result old new None = subst (λ (b : Option Split). Inserted (nodes_of image) (image.levels - 1) image.root c.pair_of-pair.result old new b) c.in-None.is (c.in_ok-insert_in.ensures.inserted told) in
    let ins = does pairs (spot_of image old.held c.pair_of-pair.result pairs tree (long_pair c.args.self.now.width c.args.key.now c.args.tid c.pair_of-pair.result c.pair_of-pair.ensures c.requires.long)) absent in
    let counted = counts image old new pairs tree told c.in_ok-insert_in.ensures.did.step (g.met.P.Pages.holds c.args.pages.now told) (g.met.P.Pages.holds c.insert_in.new.pages (c.in_ok-insert_in.ensures.did.step.passes.leaves.told.0 told)) (g.met.P.Pages.are_counted c.args.pages.now) (g.met.P.Pages.are_counted c.insert_in.new.pages) (g.met.P.Pages.allowed c.args.pages.now) (g.met.P.Pages.allowed c.insert_in.new.pages) in
    became_whole image old c.pair_of-pair.result pairs tree (long_pair c.args.self.now.width c.args.key.now c.args.tid c.pair_of-pair.result c.pair_of-pair.ensures c.requires.long) room (slot_pair c.args.self.now.width c.args.key.now c.args.tid c.pair_of-pair.result c.pair_of-pair.ensures c.requires.long c.requires.slot) new ins counted)

pub returns-in_ok-root-in-Some-clause-made : goal.returns-in_ok-root-in-Some-clause-made
returns-in_ok-root-in-Some-clause-made g c = λ told good fine pairs tree made others other. ∥∥₁_elim (c.requires.may told) (AreMade-prop good other) (λ given.
    let image = c.args.self.now in
    let old = g.P.Pages.view c.args.pages.now in
    let mid = g.P.Pages.view c.insert_in.new.pages in
    let split = c.in-Some.split in
    let e : Entry = record { pair = split.pair; child = split.number } in
    let long = (long_pair c.args.self.now.width c.args.key.now c.args.tid c.pair_of-pair.result c.pair_of-pair.ensures c.requires.long) in
    let may = subst (MayPut image old.held) (sym c.pair_of-pair.ensures) given in
    let does : Inserted (nodes_of image) (image.levels - 1) image.root c.pair_of-pair.result old mid (Some split) = subst (λ (b : Option Split). Inserted (nodes_of image) (image.levels - 1) image.root c.pair_of-pair.result old mid b) c.in-Some.is (c.in_ok-insert_in.ensures.inserted told) in
    let ins = does may.pairs (spot_of image old.held c.pair_of-pair.result may.pairs may.tree long) may.absent in
    let told_mid = c.in_ok-insert_in.ensures.did.step.passes.leaves.told.0 told in
    split_made image old c.pair_of-pair.result may.pairs may.tree long (many image.width c.requires.of.narrow) good (one_made image old.held good pairs tree made may.pairs may.tree) mid (g.P.Pages.view c.add_root.new.pages) e c.in_ok-root-in-Some.root (ap good c.pair_of-pair.ensures ∙ fine) ins (c.in_ok-root-in-Some.ensures.rooted told_mid) others other)

pub returns-in-None-clause-made : goal.returns-in-None-clause-made
returns-in-None-clause-made g c = λ told good fine pairs tree made others other. ∥∥₁_elim (c.requires.may told) (AreMade-prop good other) (λ given.
    let image = c.args.self.now in
    let old = g.P.Pages.view c.args.pages.now in
    let new = g.P.Pages.view c.insert_in.new.pages in
    let long = (long_pair c.args.self.now.width c.args.key.now c.args.tid c.pair_of-pair.result c.pair_of-pair.ensures c.requires.long) in
    let may = subst (MayPut image old.held) (sym c.pair_of-pair.ensures) given in
    let does : Inserted (nodes_of image) (image.levels - 1) image.root c.pair_of-pair.result old new None = subst (λ (b : Option Split). Inserted (nodes_of image) (image.levels - 1) image.root c.pair_of-pair.result old new b) c.in-None.is (c.in_ok-insert_in.ensures.inserted told) in
    let ins = does may.pairs (spot_of image old.held c.pair_of-pair.result may.pairs may.tree long) may.absent in
    whole_made image old c.pair_of-pair.result may.pairs may.tree long (many image.width c.requires.of.narrow) good (one_made image old.held good pairs tree made may.pairs may.tree) new (ap good c.pair_of-pair.ensures ∙ fine) ins others other)
