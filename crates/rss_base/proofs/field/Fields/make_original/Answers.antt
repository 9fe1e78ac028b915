use Rattle.std.proofs.Common.{◌≡◌, List, length, take, map, ◌∙◌, ap, arith, ◌++◌, [], drop}
use Rattle.std.proofs.lemmas.List.{take_all, append-nil, drop_all}
use Rattle.rss_base.specs.declared.field.FieldDef.{FieldDef}
use Rattle.rss_base.specs.TupleTypes.{as_original}
use Rattle.rss_base.proofs.Originals.{all_original}
use Rattle.rss_base.proofs.field.Fields.make_original.Goals as goal

pub returns : goal.returns
returns c =
    let fields = c.self.inside.fields in
    let new = c.loop-field.field-items in
    let were : c.deref_mut-field-items.result.now ≡ fields.items = c.deref_mut-field-items.ensures.value in
    let long : length new ≡ length c.deref_mut-field-items.result.now = c.loop-field.auto.field-items in
    let same : length new ≡ length fields.items = long ∙ ap (λ (l : List FieldDef). length l) were in
    let count = fields.ok in
    let none : drop (length new) fields.items ≡ [] = drop_all (length new) fields.items (omega arith) in
    ap (λ (l : List FieldDef). take fields.len (new ++ l)) none ∙ ap (take fields.len) (append-nil new) ∙ take_all fields.len new (omega arith)
    ∙ all_original c.deref_mut-field-items.result.now new long (λ k d below. c.loop-field.invariant.done k d (omega arith))
    ∙ ap (map as_original) (were ∙ c.self.view_is)
