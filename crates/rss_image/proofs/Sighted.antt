-- The pairs that were seen of a tree.
use Rattle.std.proofs.Common.{◌≡◌, ◌<◌, ◌≤◌, ◌-◌, ℕ, suc, zero, List, [], ◌∷◌, length, drop, refl, ◌∙◌, ap, arith, Some}
use Rattle.rss_base.specs.declared.tid.Tid.{Tid}
use Rattle.rss_base.specs.Entries.{Entry}
use Rattle.rss_levels.proofs.Spotted.{at_place}
use Rattle.rss_node.specs.Pairs.{key_from, tid_from}
use Rattle.rss_image.specs.Checking.{AreSeen, pairs_in, first_keyed, first_repeat, repeated, with_seen}
use Rattle.rss_image.specs.declared.checking.Seen.{Seen}

repeats_next : (width : ℕ) (e : Entry) (es : List Entry) → repeated (key_from width e.pair) (first_keyed width (pairs_in es)) (first_repeat width (pairs_in es)) ≡ first_repeat width (pairs_in (e ∷ es))
repeats_next width e [] = refl
repeats_next width e (d ∷ es) = refl

-- one more entry is seen
pub one_seen : (width : ℕ) (e : Entry) (es : List Entry) (key : List ℕ) (tid : Tid) (before after : Seen) → key ≡ key_from width e.pair → tid ≡ tid_from width e.pair → after ≡ with_seen key tid before → AreSeen width es before → AreSeen width (e ∷ es) after
one_seen width e es key tid before after key_is tid_is is seen = record {
  first_is = ap (λ (s : Seen). s.first) is ∙ (λ i. Some (key_is i, tid_is i));
  pairs_are = ap (λ (s : Seen). s.pairs) is ∙ omega (arith, seen.pairs_are);
  repeats_are = ap (λ (s : Seen). s.repeats) is ∙ (λ i. repeated (key_is i) (seen.first_is i) (seen.repeats_are i)) ∙ repeats_next width e es;
}

drop_at : (es : List Entry) (n : ℕ) → n < length es → drop n es ≡ at_place es n ∷ drop (suc n) es
drop_at [] n low = absurd (omega arith)
drop_at (e ∷ es) zero low = refl
drop_at (e ∷ es) (suc n) low = drop_at es n (omega (arith, low))

-- what stands from a place on, where that place isn't the first
pub drop_before : (es : List Entry) (n : ℕ) → 0 < n → n ≤ length es → drop (n - 1) es ≡ at_place es (n - 1) ∷ drop n es
drop_before es n some low =
    let same : suc (n - 1) ≡ n = omega (arith, some) in
    drop_at es (n - 1) (omega (arith, some, low)) ∙ ap (λ (k : ℕ). at_place es (n - 1) ∷ drop k es) same

pub drop_none : (es : List Entry) (n : ℕ) → n ≡ 0 → drop n es ≡ es
drop_none es n none = ap (λ (k : ℕ). drop k es) none

pub drop_length : (es : List Entry) (n : ℕ) → n ≡ length es → drop n es ≡ []
drop_length es n is = ap (λ (k : ℕ). drop k es) is ∙ all es
  where
    all : (ds : List Entry) → drop (length ds) ds ≡ []
    all [] = refl
    all (d ∷ ds) = all ds
