use Rattle.std.proofs.Common.{◌≡◌, ℕ, List, sym, ◌∙◌, ap, subst}
use Rattle.rss_base.specs.TupleTypes.{kinds, chosen, Spells, IsKeyOf}
use Rattle.rss_base.specs.Listings.{field_numbers}
use Rattle.rss_base.specs.declared.value.FieldForm.{FieldForm}
use Rattle.rss_image.specs.Images.{FindsAnother}
use Rattle.rss_image.specs.declared.image.Image.{Image}
use Rattle.rss_entries.specs.Moving.{KeyKinds}
use Rattle.rss_entries.specs.Seeking.{kinds_in}
use Rattle.rss_entries.proofs.Entries.{length-key}
use Rattle.rss_stored.proofs.ImageFields.{chosen_kinds}
use Rattle.rss_entries.proofs.Owners.{owner_found}
use Rattle.rss_entries.proofs.Telling.{shown, shown_tree}
use Rattle.rss_entries.proofs.seeking.find_owner.Goals as goal

pub another-requires-clause-long : goal.another-requires-clause-long
another-requires-clause-long g c =
    let spelled = c.requires.spelled in
    length-key _ _ c.key.new.into (c.key.ensures spelled.0 spelled.1) ∙ sym c.requires.width

pub returns-clause-owner : goal.returns-clause-owner
returns-clause-owner g c = λ told listing tables number entry relation shows image_is key_is single values spelled.
    let view = g.P.Pages.view c.args.pages.now in
    let tree = shown_tree view shows (g.met.P.Pages.few_slots c.args.pages.now) (g.met.P.Pages.holds c.args.pages.now told) (g.met.P.Pages.allowed c.args.pages.now) in
    let fields : kinds c.args.key.fields.now ≡ kinds relation.fields = ap (λ (k : KeyKinds). k.fields) key_is in
    let which : c.args.key.which.now ≡ field_numbers entry = ap (λ (k : KeyKinds). k.which) key_is in
    let given : Spells (kinds c.args.key.fields.now) c.args.values.now values = subst (λ (ks : List FieldForm). Spells ks c.args.values.now values) (sym fields) spelled in
    let kinds_are : chosen c.args.key.which.now (kinds c.args.key.fields.now) ≡ kinds_in entry relation = (λ i. chosen (which i) (fields i)) ∙ chosen_kinds (field_numbers entry) relation.fields in
    let made : IsKeyOf (kinds_in entry relation) (chosen (field_numbers entry) values) c.key.new.into =
    subst (λ (ks : List FieldForm). IsKeyOf ks (chosen (field_numbers entry) values) c.key.new.into) kinds_are
    (subst (λ (ns : List ℕ). IsKeyOf (chosen c.args.key.which.now (kinds c.args.key.fields.now)) (chosen ns values) c.key.new.into) which (c.key.ensures values given)) in
    let another = subst (λ (i : Image). FindsAnother c.key.new.into c.args.own i view c.in_ok-found.found) image_is (c.in_ok-found.ensures.found told) in
    owner_found (shown shows) values c.key.new.into made c.args.own c.in_ok-found.found c.tid_is_spelled.ensures c.tid_is_spelled-2.ensures single (another _ tree)
