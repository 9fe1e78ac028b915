-- The tests of a relation's fields, in their order.
use Rattle.std.specs.Prelude.{nat_le, List, [], ◌∷◌, Option}
use Rattle.rss_base.specs.TupleTypes.{kinds, width, most_width, are_kinds}
use Rattle.rss_base.specs.declared.field.FieldDef.{FieldDef}
use Rattle.rss_base.specs.declared.refusal.LimitKind.TheVariants.{Fields as FieldLimit, Width as WidthLimit}
use Rattle.rss_base.specs.declared.refusal.Refusal.{Refusal}
use Rattle.rss_base.specs.declared.refusal.Refusal.TheVariants.{Limit}
use Rattle.rss_model.specs.Defining.{refused_unless}

abbrev pub fields_tests : List FieldDef → List (Option Refusal)
fields_tests fields =
    refused_unless (are_kinds (kinds fields)) (Limit FieldLimit)
    ∷ refused_unless (nat_le (width (kinds fields)) most_width) (Limit WidthLimit)
    ∷ []
