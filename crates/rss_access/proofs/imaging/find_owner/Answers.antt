-- The image is that of the catalog's entry, which shows the tables that the pages spell.
use Rattle.std.proofs.Common.{◌+◌, ◌*◌, ℕ, List, sym, ap, subst}
use Rattle.std.proofs.Math.Logic.{∥∥₁_map}
use Rattle.std.proofs.lemmas.Result.{IfOk-weaker}
use Rattle.rss_base.specs.Steps.{PagesCall, no_page}
use Rattle.rss_base.specs.TupleTypes.{SpellsSome}
use Rattle.rss_base.specs.declared.value.FieldForm.{FieldForm}
use Rattle.rss_image.specs.declared.image.Image.{Image}
use Rattle.rss_image.specs.Images.{HasImage}
use Rattle.rss_tuple.proofs.Seen.{on_ok}
use Rattle.rss_entries.specs.Moving.{KeyKinds}
use Rattle.rss_access.proofs.Looking.{shows_fit, single, has_image, heaps_looked, key_width_passed, levels_passed}
use Rattle.rss_access.proofs.imaging.find_owner.Goals as goal

pub find_owner-requires-clause-width : goal.find_owner-requires-clause-width
find_owner-requires-clause-width g c = key_width_passed c.image_of-image.ensures.listed c.image_of-image.ensures.is c.key_fields-key.ensures.is

pub find_owner-requires-clause-spelled : goal.find_owner-requires-clause-spelled
find_owner-requires-clause-spelled g c =
    let listed = c.image_of-image.ensures.listed in
    subst (λ (fields : List FieldForm). SpellsSome fields c.args.values.now) (ap (λ (k : KeyKinds). k.fields) (sym (c.key_fields-key.ensures.is listed.image listed.relation listed.at)))
    (c.requires.spelled listed.image listed.relation listed.at)

pub find_owner-requires-clause-there : goal.find_owner-requires-clause-there
find_owner-requires-clause-there g c = λ told.
    let view = g.P.Pages.view c.args.tuples.now.pages in
    let listed = c.image_of-image.ensures.listed in
    ∥∥₁_map (c.requires.may.tables told) (λ has.
    subst (λ (i : Image). HasImage i view.held) (sym (c.image_of-image.ensures.is listed.image listed.relation listed.at))
    (has_image (g.met.P.Pages.few_slots c.args.tuples.now.pages) (g.met.P.Pages.holds c.args.tuples.now.pages told) (g.met.P.Pages.allowed c.args.tuples.now.pages) listed.at has))

pub returns-clause-owner : goal.returns-clause-owner
returns-clause-owner g c = IfOk-weaker c.find_owner.result _ _ (λ found owner told tables spells fit image relation listed unique values spelled.
    let view = g.P.Pages.view c.args.tuples.now.pages in
    owner told c.args.catalog.now.listing tables c.args.number image relation (shows_fit view spells listed (g.met.P.Pages.few_slots c.args.tuples.now.pages) fit)
    (c.image_of-image.ensures.is image relation listed) (c.key_fields-key.ensures.is image relation listed)
    (single view spells listed fit unique) values spelled) c.find_owner.ensures.owner

pub returns-clause-heaps : goal.returns-clause-heaps
returns-clause-heaps g c = on_ok c.find_owner.result (λ told. heaps_looked c.find_owner.ensures.did.step told (c.requires.may.heaps told))

pub returns-clause-did : goal.returns-clause-did
returns-clause-did g c = λ image at.
    subst (λ (n : ℕ). PagesCall no_page (2 * (n + 1)) (2 * (n + 1)) (g.P.Pages.view c.args.tuples.now.pages) (g.P.Pages.view c.find_owner.new.pages) c.find_owner.result)
    (levels_passed c.image_of-image.ensures.listed c.image_of-image.ensures.is at) c.find_owner.ensures.did
