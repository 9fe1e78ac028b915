-- The move is given the image of the catalog's entry, and the values that the change tells; the catalog lists its root then.
use Rattle.std.proofs.Common.{◌≡◌, ℕ, refl, sym, ◌∙◌, ap, arith}
use Rattle.std.specs.Prelude.{Some}
use Rattle.std.proofs.Math.Logic.{∥∥₁_map}
use Rattle.std.proofs.lemmas.Option.{same_Some}
use Rattle.rss_base.specs.Listings.{Listing, image_at}
use Rattle.rss_base.specs.declared.image.ImageEntry.{ImageEntry}
use Rattle.rss_base.specs.declared.relation.RelationEntry.{RelationEntry}
use Rattle.rss_base.proofs.Steps.{among, done, fails}
use Rattle.rss_image.specs.declared.image.Image.{Image}
use Rattle.rss_entries.specs.Images.{image_of, key_of}
use Rattle.rss_entries.specs.Moving.{KeyKinds}
use Rattle.rss_access.specs.declared.edit.TupleChange.{TupleChange}
use Rattle.rss_access.specs.Told.{number_told}
use Rattle.rss_access.specs.Edits.{told_by}
use Rattle.rss_access.specs.Moved.{IsImageOf}
use Rattle.rss_access.proofs.ImageMoves.{Passes, number_lent, tid_lent, held_low, was_given, next_given, own_relation, its_pages, may_be_moved, shows_one_more, nodes_one_more, entry_stays}
use Rattle.rss_access.proofs.Looking.{key_width_passed}
use Rattle.rss_access.proofs.moving.move_image.Goals as goal

pub move_entry-requires-clause-width : goal.move_entry-requires-clause-width
move_entry-requires-clause-width g c = key_width_passed c.image_of-image.ensures.listed c.image_of-image.ensures.is c.key_fields-key.ensures.is

pub move_entry-requires-clause-was : goal.move_entry-requires-clause-was
move_entry-requires-clause-was g c =
    let listed = c.image_of-image.ensures.listed in
    was_given c.args.change listed.image listed.relation (c.key_fields-key.ensures.is listed.image listed.relation listed.at) (c.requires.values listed.relation (own_relation listed.at c.requires.of)) c.was.result c.was.ensures

pub move_entry-requires-clause-next : goal.move_entry-requires-clause-next
move_entry-requires-clause-next g c =
    let listed = c.image_of-image.ensures.listed in
    next_given c.args.change listed.image listed.relation (c.key_fields-key.ensures.is listed.image listed.relation listed.at) (c.requires.values listed.relation (own_relation listed.at c.requires.of)) c.next.result c.next.ensures

-- the image is one of the change's relation
its_relation : {listing : Listing} {number : ℕ} {image : ImageEntry} (change : TupleChange) → image_at listing number ≡ Some image → IsImageOf listing number change.number → image.relation ≡ number_told (told_by change)
its_relation change at of = ap (λ (e : ImageEntry). e.relation) (same_Some _ _ (sym at ∙ of.at)) ∙ of.of ∙ sym (number_lent change)

-- what the move is given for it
its_passes : {listing : Listing} {number : ℕ} {image : ImageEntry} {relation : RelationEntry} {key : KeyKinds} {passed : Image} (change : TupleChange) → image_at listing number ≡ Some image → IsImageOf listing number change.number
    → key ≡ key_of image relation → passed ≡ image_of number image relation → Passes (told_by change) number image relation key passed change.tid
its_passes change at of key_is image_is = record { of = its_relation change at of; key_is = key_is; image_is = image_is; tid_is = tid_lent change }

pub move_entry-requires-clause-may : goal.move_entry-requires-clause-may
move_entry-requires-clause-may g c = λ disk values others spelled _.
    let listed = c.image_of-image.ensures.listed in
    let holds = g.met.P.Pages.holds c.args.pages.now disk in
    ∥∥₁_map (c.requires.may disk) (λ may. may_be_moved listed.at.at listed.at.within
    (record { before = c.was.ensures; after = c.next.ensures })
    (its_passes c.args.change listed.at.at c.requires.of (c.key_fields-key.ensures.is listed.image listed.relation listed.at) (c.image_of-image.ensures.is listed.image listed.relation listed.at))
    (held_low (g.P.Pages.view c.args.pages.now) (g.met.P.Pages.few_slots c.args.pages.now) holds (g.met.P.Pages.allowed c.args.pages.now))
    may.move may.tables may.shows holds values spelled)

pub returns-clause-moves : goal.returns-clause-moves
returns-clause-moves g c = λ disk move tables shows.
    let listed = c.image_of-image.ensures.listed in
    let step = c.in_ok-move_entry.ensures.did.step in
    let low = held_low (g.P.Pages.view c.args.pages.now) (g.met.P.Pages.few_slots c.args.pages.now) (g.met.P.Pages.holds c.args.pages.now disk) (g.met.P.Pages.allowed c.args.pages.now) in
    let new_low = held_low (g.P.Pages.view c.move_entry.new.pages) (g.met.P.Pages.few_slots c.move_entry.new.pages) (g.met.P.Pages.holds c.move_entry.new.pages (step.passes.leaves.told.0 disk)) (g.met.P.Pages.allowed c.move_entry.new.pages) in
    shows_one_more listed.at.at listed.at.within
    (record { before = c.was.ensures; after = c.next.ensures })
    (its_passes c.args.change listed.at.at c.requires.of (c.key_fields-key.ensures.is listed.image listed.relation listed.at) (c.image_of-image.ensures.is listed.image listed.relation listed.at))
    low move tables shows disk new_low (g.met.P.Pages.are_counted c.args.pages.now) (g.met.P.Pages.are_counted c.move_entry.new.pages) step
    c.move_entry.new.image c.in_ok-move_entry.ensures.of (c.in_ok-move_entry.ensures.moves disk) (c.reroot.ensures.reroots listed.image listed.at.at)

pub returns-clause-nodes : goal.returns-clause-nodes
returns-clause-nodes g c = λ disk move tables shows.
    let listed = c.image_of-image.ensures.listed in
    let step = c.in_ok-move_entry.ensures.did.step in
    let low = held_low (g.P.Pages.view c.args.pages.now) (g.met.P.Pages.few_slots c.args.pages.now) (g.met.P.Pages.holds c.args.pages.now disk) (g.met.P.Pages.allowed c.args.pages.now) in
    let new_low = held_low (g.P.Pages.view c.move_entry.new.pages) (g.met.P.Pages.few_slots c.move_entry.new.pages) (g.met.P.Pages.holds c.move_entry.new.pages (step.passes.leaves.told.0 disk)) (g.met.P.Pages.allowed c.move_entry.new.pages) in
    nodes_one_more listed.at.at listed.at.within
    (record { before = c.was.ensures; after = c.next.ensures })
    (its_passes c.args.change listed.at.at c.requires.of (c.key_fields-key.ensures.is listed.image listed.relation listed.at) (c.image_of-image.ensures.is listed.image listed.relation listed.at))
    low move tables shows disk new_low (g.met.P.Pages.are_counted c.args.pages.now) (g.met.P.Pages.are_counted c.move_entry.new.pages) step
    c.move_entry.new.image c.in_ok-move_entry.ensures.of (c.in_ok-move_entry.ensures.moves disk) (c.reroot.ensures.reroots listed.image listed.at.at) (c.in_ok-move_entry.ensures.made disk)

pub returns-clause-rerooted : goal.returns-clause-rerooted
returns-clause-rerooted g c = let listed = c.image_of-image.ensures.listed in (c.reroot.ensures.reroots listed.image listed.at.at).rerooted

pub returns-in_err-move_entry-clause-did : goal.returns-in_err-move_entry-clause-did
returns-in_err-move_entry-clause-did g c =
    let listed = c.image_of-image.ensures.listed in
    fails _ c.from_residual.ensures.1 (its_pages c.args.catalog.now.listing c.args.number c.args.change.number listed.image listed.relation (c.image_of-image.ensures.is listed.image listed.relation listed.at) (own_relation listed.at c.requires.of)) (omega arith) (omega arith) c.in_err-move_entry.ensures.did

pub returns-clause-did : goal.returns-clause-did
returns-clause-did g c =
    let listed = c.image_of-image.ensures.listed in
    done tt (among (its_pages c.args.catalog.now.listing c.args.number c.args.change.number listed.image listed.relation (c.image_of-image.ensures.is listed.image listed.relation listed.at) (own_relation listed.at c.requires.of)) c.in_ok-move_entry.ensures.did.step)

pub returns-in_err-move_entry-clause-stays : goal.returns-in_err-move_entry-clause-stays
returns-in_err-move_entry-clause-stays g c = λ keeps.
    let listed = c.image_of-image.ensures.listed in
    let stays = entry_stays c.args.change listed.at c.requires.of (c.key_fields-key.ensures.is listed.image listed.relation listed.at) (c.requires.values listed.relation (own_relation listed.at c.requires.of))
    (record { before = c.was.ensures; after = c.next.ensures }) keeps c.in_err-move_entry.ensures.stays in
    record { pages = stays.pages; catalog = refl }

pub returns-clause-stays : goal.returns-clause-stays
returns-clause-stays g c = λ keeps.
    let listed = c.image_of-image.ensures.listed in
    let stays = entry_stays c.args.change listed.at c.requires.of (c.key_fields-key.ensures.is listed.image listed.relation listed.at) (c.requires.values listed.relation (own_relation listed.at c.requires.of))
    (record { before = c.was.ensures; after = c.next.ensures }) keeps c.in_ok-move_entry.ensures.stays in
    let same : c.move_entry.new.image ≡ image_of c.args.number listed.image listed.relation = stays.image ∙ c.image_of-image.ensures.is listed.image listed.relation listed.at in
    record { pages = stays.pages; catalog = c.reroot.ensures.same listed.image listed.at.at (ap (λ (i : Image). i.root) (sym same)) (ap (λ (i : Image). i.levels) (sym same)) }
