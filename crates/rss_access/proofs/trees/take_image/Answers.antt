-- The image is that of the catalog's entry, whose pages are given.
use Rattle.std.proofs.Common.{sym, ◌∙◌, subst}
use Rattle.std.proofs.Math.Logic.{∥∥₁_map}
use Rattle.rss_image.specs.Images.{HasImage, DestroysImage}
use Rattle.rss_image.specs.declared.image.Image.{Image}
use Rattle.rss_access.proofs.ImageRooms.{image_used}
use Rattle.rss_access.proofs.Looking.{has_image}
use Rattle.rss_access.proofs.trees.take_image.Goals as goal

pub destroy-requires-clause-there : goal.destroy-requires-clause-there
destroy-requires-clause-there g c = λ told.
    let view = g.P.Pages.view c.args.pages.now in
    let listed = c.image_of-image.ensures.listed in
    ∥∥₁_map (c.requires.may.tables told) (λ has.
    subst (λ (i : Image). HasImage i view.held) (sym (c.image_of-image.ensures.is listed.image listed.relation listed.at))
    (has_image (g.met.P.Pages.few_slots c.args.pages.now) (g.met.P.Pages.holds c.args.pages.now told) (g.met.P.Pages.allowed c.args.pages.now) listed.at has))

pub remove-requires-clause-used : goal.remove-requires-clause-used
remove-requires-clause-used g c = image_used c.args.catalog.now.listing c.args.number ∙ c.requires.there

pub returns-clause-takes : goal.returns-clause-takes
returns-clause-takes g c = record {
  lists = c.remove.ensures.lists;
  fits = c.remove.ensures.fits (λ other. absurd (cc));
  destroys = λ told image relation its. subst (λ (i : Image). DestroysImage i (g.P.Pages.view c.args.pages.now) (g.P.Pages.view c.destroy.new.pages)) (c.image_of-image.ensures.is image relation its) (c.in_ok-destroy.ensures.destroyed told);
}
