-- Each test is a part of what a key is.
use Rattle.std.proofs.Common.{◌∙◌, ◌≡◌, sym, ap, List, arith}
use Rattle.std.proofs.lemmas.Bool.{leb-true, le-leb}
use Rattle.rss_base.specs.TupleTypes.{kinds, chosen, key_width}
use Rattle.rss_base.specs.declared.value.FieldForm.{FieldForm}
use Rattle.rss_catalog.proofs.Keyed.{chosen_kinds, numbers_of}
use Rattle.rss_catalog.proofs.checking.is_key.Goals as goal

pub returns-then-not-are_numbers : goal.returns-then-not-are_numbers
returns-then-not-are_numbers c = (λ it. absurd (cc), λ is. sym c.if-not-are_numbers.true ∙ c.are_numbers.ensures.1 is.within)

pub returns-then-not-are_different : goal.returns-then-not-are_different
returns-then-not-are_different c = (λ it. absurd (cc), λ is. sym c.if-not-are_different.true ∙ c.are_different.ensures.1 is.different)

pub key_width-requires-clause-numbers : goal.key_width-requires-clause-numbers
key_width-requires-clause-numbers c = numbers_of c.args.fields.now c.args.numbers.now (c.are_numbers.ensures.0 c.if-not-are_numbers.false)

pub returns : goal.returns
returns c =
    let width : c.key_width.result ≡ key_width (kinds (chosen c.args.numbers.now c.args.fields.now)) = c.key_width.ensures ∙ ap (λ (l : List FieldForm). key_width l) (sym (chosen_kinds c.args.numbers.now c.args.fields.now)) in (
      λ it. record {
        within = c.are_numbers.ensures.0 c.if-not-are_numbers.false;
        different = c.are_different.ensures.0 c.if-not-are_different.false;
        narrow = let low = leb-true c.key_width.result 120 it in omega (arith, low, width);
      },
      λ is. le-leb c.key_width.result 120 (omega (arith, is.narrow, width)),
    )
