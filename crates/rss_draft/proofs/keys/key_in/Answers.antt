use Rattle.std.proofs.Common.{ℕ, List, length, take, refl, sym, ◌∙◌, ap, subst}
use Rattle.std.specs.Prelude.{All}
use Rattle.rss_base.specs.Listings.{IsFieldNumber}
use Rattle.rss_base.specs.TupleTypes.{kinds, chosen, SpellsSome}
use Rattle.rss_base.specs.declared.field.FieldDef.{FieldDef}
use Rattle.rss_draft.proofs.OwnersNow.{numbers_within, key_of_values}
use Rattle.rss_draft.proofs.keys.key_in.Goals as goal

pub made_of-requires : goal.made_of-requires
made_of-requires c =
    subst (λ (fields : List FieldDef). SpellsSome (kinds fields) c.args.values.now) (sym c.as_slice-fields.ensures)
    (c.requires.spelled c.image-entry.result.now c.relation.result.now (record { at = c.image-entry.ensures.is; within = c.relation.ensures.is }))

pub chosen_values-requires : goal.chosen_values-requires
chosen_values-requires c =
    subst (λ (n : ℕ). All (IsFieldNumber (length c.in_ok-tuple.tuple)) (take n c.image-entry.result.now.fields)) (sym c.from.ensures)
    (numbers_within c.image-entry.ensures.safe c.relation.ensures.is c.in_ok-tuple.tuple (rw c.as_slice-fields.ensures at c.in_ok-tuple.ensures.is.fit))

pub returns : goal.returns
returns c =
    key_of_values c.image-entry.ensures.is c.relation.ensures.is c.in_ok-tuple.tuple (λ values spells. (rw c.as_slice-fields.ensures at c.in_ok-tuple.ensures.only) values spells) _ refl
    (c.in_ok-values.ensures ∙ ap (λ (n : ℕ). chosen (take n c.image-entry.result.now.fields) c.in_ok-tuple.tuple) c.from.ensures)
