use Rattle.std.proofs.Common.{◌∙◌, sym, length, arith}
use Rattle.std.proofs.lemmas.Bool.{eqb-true, eqb-false}
use Rattle.rss_catalog.proofs.Tested.{fields_tested, tested_fields}
use Rattle.rss_catalog.proofs.checking.are_fields.Goals as goal

pub returns-then-is_empty : goal.returns-then-is_empty
returns-then-is_empty c = (λ it. absurd (cc), λ are. absurd (omega (arith, (fields_tested c.args.fields.now are).some, eqb-true (length c.args.fields.now) 0 (sym c.is_empty.ensures ∙ c.if-is_empty.true))))

pub returns-then-fields-gt-MOST_FIELDS : goal.returns-then-fields-gt-MOST_FIELDS
returns-then-fields-gt-MOST_FIELDS c = (λ it. absurd (cc), λ are. absurd (omega (arith, (fields_tested c.args.fields.now are).few, c.if-fields-gt-MOST_FIELDS.true)))

pub returns-then-not-are_kinds : goal.returns-then-not-are_kinds
returns-then-not-are_kinds c = (λ it. absurd (cc), λ are. sym c.if-not-are_kinds.true ∙ c.are_kinds.ensures.1 (fields_tested c.args.fields.now are).kinds_fit)

pub returns-then-width-gt-MOST_WIDTH : goal.returns-then-width-gt-MOST_WIDTH
returns-then-width-gt-MOST_WIDTH c = (λ it. absurd (cc), λ are. absurd (omega (arith, are.narrow, c.width.ensures, c.if-width-gt-MOST_WIDTH.true)))

pub returns-then-not-are_field_names : goal.returns-then-not-are_field_names
returns-then-not-are_field_names c = (λ it. absurd (cc), λ are. sym c.if-not-are_field_names.true ∙ c.are_field_names.ensures.1 (fields_tested c.args.fields.now are).names)

pub returns-then-not-are_original : goal.returns-then-not-are_original
returns-then-not-are_original c = (λ it. absurd (cc), λ are. sym c.if-not-are_original.true ∙ c.are_original.ensures.1 are.original)

pub returns : goal.returns
returns c = (
  λ it. tested_fields c.args.fields.now (record {
    some = omega (arith, eqb-false (length c.args.fields.now) 0 (sym c.is_empty.ensures ∙ c.if-is_empty.false));
    few = omega (arith, c.if-fields-gt-MOST_FIELDS.false);
    kinds_fit = c.are_kinds.ensures.0 c.if-not-are_kinds.false;
    narrow = omega (arith, c.width.ensures, c.if-width-gt-MOST_WIDTH.false);
    names = c.are_field_names.ensures.0 c.if-not-are_field_names.false;
    apart = c.are_apart.ensures.0 it;
    original = c.are_original.ensures.0 c.if-not-are_original.false;
  }),
  λ are. c.are_apart.ensures.1 are.apart,
)
