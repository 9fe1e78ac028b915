-- The numbers in front are tested as a key, and those behind as zeros.
use Rattle.std.proofs.Common.{◌≡◌, ◌≤◌, ◌-◌, ◌∙◌, ℕ, List, sym, ap, subst, arith, length, take, drop, All}
use Rattle.std.proofs.lemmas.List.{take_all, length-drop}
use Rattle.rss_catalog.specs.Checking.{IsKeyOf}
use Rattle.rss_catalog.proofs.Keyed.{zeros_behind, zeros_there}
use Rattle.rss_catalog.proofs.checking.has_key_of.Goals as goal

-- what stands behind the numbers
rest_of : (fields : List ℕ) (from count : ℕ) → length fields ≡ 16 → from ≡ count → take (16 - from) (drop from fields) ≡ drop count fields
rest_of fields from count long same = take_all (16 - from) (drop from fields) (omega (arith, length-drop from fields, long)) ∙ ap (λ (n : ℕ). drop n fields) same

pub returns-then-not-are_zeros : goal.returns-then-not-are_zeros
returns-then-not-are_zeros c =
    let fields = c.args.image.now.fields in
    let long : length fields ≡ 16 = omega arith in
    let rest = rest_of fields c.from-count.result c.args.image.now.count long c.from-count.ensures in (
      λ it. absurd (cc),
      λ is. sym c.if-not-are_zeros.true ∙ c.are_zeros.ensures.1 (subst (λ (l : List ℕ). All (λ byte. byte ≡ 0) l) (sym rest) (zeros_there fields c.args.image.now.count long is.few is.places)),
    )

pub returns : goal.returns
returns c =
    let fields = c.args.image.now.fields in
    let count = c.args.image.now.count in
    let long : length fields ≡ 16 = omega arith in
    let few : count ≤ 16 = omega arith in
    let rest = rest_of fields c.from-count.result count long c.from-count.ensures in (
      λ it. record {
        some = omega arith;
        few = few;
        places = zeros_behind fields count long few (subst (λ (l : List ℕ). All (λ byte. byte ≡ 0) l) rest (c.are_zeros.ensures.0 c.if-not-are_zeros.false));
        key = subst (λ (n : ℕ). IsKeyOf c.args.fields.now (take n fields)) c.from-count.ensures (c.is_key.ensures.0 it);
      },
      λ is. c.is_key.ensures.1 (subst (λ (n : ℕ). IsKeyOf c.args.fields.now (take n fields)) (sym c.from-count.ensures) is.key),
    )
