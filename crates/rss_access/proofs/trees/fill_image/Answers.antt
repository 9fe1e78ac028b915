-- The image that is built is the one that is listed, but for where it begins, and the catalog is told that.
use Rattle.std.proofs.Common.{◌<◌, ◌≤◌, ℕ, length, sym, subst, arith}
use Rattle.rss_base.proofs.Steps.{among, done, fails}
use Rattle.rss_image.specs.Images.{page_bound}
use Rattle.rss_image.specs.declared.image.Image.{Image}
use Rattle.rss_entries.specs.Building.{pair_list}
use Rattle.rss_access.specs.Trees.{BuildsTree}
use Rattle.rss_access.proofs.Looking.{width_passed, key_long}
use Rattle.rss_access.proofs.Built.{pages_listed, listed_at, some_slots, builds_within}
use Rattle.rss_access.proofs.trees.fill_image.Goals as goal

pub build-requires-clause-long : goal.build-requires-clause-long
build-requires-clause-long g c = λ k d low. key_long c.image_of-listed.ensures.listed c.image_of-listed.ensures.is _ (c.requires.long k d low)

pub build-requires-clause-room : goal.build-requires-clause-room
build-requires-clause-room g c =
    let listed = c.image_of-listed.ensures.listed in
    subst (λ (width : ℕ). page_bound width (length c.args.entries.now) ≤ (g.P.Pages.view c.args.pages.now).spare) (sym (width_passed listed c.image_of-listed.ensures.is))
    (c.requires.room listed.image listed.relation listed.at)

pub returns-in_err-image-clause-did : goal.returns-in_err-image-clause-did
returns-in_err-image-clause-did g c = λ image relation its.
    fails _ c.from_residual.ensures.1 (pages_listed c.args.number image relation (c.image_of-listed.ensures.is image relation its)) (omega arith) (omega arith) c.in_err-image.ensures.did

pub returns-clause-fills : goal.returns-clause-fills
returns-clause-fills g c =
    let listed = c.image_of-listed.ensures.listed in
    let built = c.in_ok-image.image in
    let does = c.in_ok-image.ensures in
    let lists = c.set_root.ensures.lists listed.image listed.at.at in
    let some = some_slots (g.P.Pages.view c.args.pages.now) _ _ (g.met.P.Pages.are_counted c.args.pages.now) (c.requires.room listed.image listed.relation listed.at) in
    record {
      root = built.root;
      levels = built.levels;
      low = does.low;
      lists = c.set_root.ensures.lists;
      fits = c.set_root.ensures.fits;
      builds = λ told image relation new.
          subst (λ (i : Image). BuildsTree i (pair_list c.args.entries.now) (g.P.Pages.view c.args.pages.now) (g.P.Pages.view c.build.new.pages))
          (listed_at c.args.number listed.image listed.relation (c.image_of-listed.ensures.is listed.image listed.relation listed.at) built does.is listed.at lists.is new)
          (record { becomes = does.built told; within = builds_within built (pair_list c.args.entries.now) (g.P.Pages.view c.build.new.pages) (subst (λ (n : ℕ). 0 < n) (sym does.did.step.passes.slots) some) (does.made told) });
    }

pub returns-clause-did : goal.returns-clause-did
returns-clause-did g c = λ image relation its. done tt (among (pages_listed c.args.number image relation (c.image_of-listed.ensures.is image relation its)) c.in_ok-image.ensures.did.step)
