-- Where the root or the levels have changed, the catalog lists them; else it lists them already.
use Rattle.std.proofs.Common.{◌≡◌, sym, ◌∙◌, ap, arith}
use Rattle.rss_base.specs.declared.image.ImageEntry.{ImageEntry}
use Rattle.std.proofs.lemmas.Option.{same_Some}
use Rattle.rss_access.proofs.Rooted.{reroots_set, reroots_same}
use Rattle.rss_access.proofs.moving.reroot.Goals as goal

pub returns-then-image-root-clause-reroots : goal.returns-then-image-root-clause-reroots
returns-then-image-root-clause-reroots c = λ image at. reroots_set c.args.number c.args.root c.args.levels image at c.requires.few (c.set_root.ensures.lists image at) c.set_root.ensures.fits

pub returns-else-image-levels-clause-reroots : goal.returns-else-image-levels-clause-reroots
returns-else-image-levels-clause-reroots c = λ image at.
    let one : c.image-image.result.now ≡ image = same_Some _ _ (sym c.image-image.ensures.is ∙ at) in
    reroots_same c.args.catalog.now c.args.number c.args.root c.args.levels image at
    (omega (arith, c.if-image-root.false, ap (λ (e : ImageEntry). e.root) one)) (omega (arith, c.if-image-levels.false, ap (λ (e : ImageEntry). e.levels) one))
