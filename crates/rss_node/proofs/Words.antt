-- The order of bytes, by their first words.
use Rattle.std.proofs.Common.{◌≡◌, ◌%◌, ◌^◌, ◌<◌, ◌≤◌, ℕ, List, length, take, drop, sym, ap, ◌∙◌, arith, length-take-le}
use Rattle.std.proofs.lemmas.List.{take-append-drop}
use Rattle.std.specs.Cmp.{nat_cmp_is}
use Rattle.std.specs.Cmp.Lexicographic.{slice_cmp}
use Rattle.std.specs.Int.{w64, to_be_bytes}
use Rattle.std.specs.Ordering.{nat_cmp, ordering_then}
use Rattle.std.specs.declared.cmp.Ordering.{Ordering}
use Rattle.std.specs.declared.cmp.Ordering.TheVariants.{Less, Greater}
use Rattle.rss_value.proofs.Numbers.{high_first_cmp}
use Rattle.rss_value.proofs.Orders.{slice_cmp-append}

module _ (a b : List ℕ) (first second : ℕ) (long : 8 ≤ length a) (long_too : 8 ≤ length b) (first_is : to_be_bytes w64 first ≡ take 8 a) (second_is : to_be_bytes w64 second ≡ take 8 b) (fits : first < 2 ^ 64) (fits_too : second < 2 ^ 64) where
  -- the order of two words is that of their numbers
  words_cmp : slice_cmp nat_cmp (take 8 a) (take 8 b) ≡ nat_cmp first second
  words_cmp =
      let small : first % 256 ^ 8 ≡ first = omega arith in
      let small_too : second % 256 ^ 8 ≡ second = omega arith in
      (λ i. slice_cmp nat_cmp (sym first_is i) (sym second_is i)) ∙ high_first_cmp 8 first second ∙ (λ i. nat_cmp (small i) (small_too i))

  -- and decides that of all bytes, but where it is the same
  fronts_cmp : slice_cmp nat_cmp a b ≡ ordering_then (nat_cmp first second) (slice_cmp nat_cmp (drop 8 a) (drop 8 b))
  fronts_cmp =
      (λ i. slice_cmp nat_cmp (sym (take-append-drop 8 a) i) (sym (take-append-drop 8 b) i))
      ∙ slice_cmp-append nat_cmp (take 8 a) (take 8 b) (drop 8 a) (drop 8 b) (length-take-le 8 a long ∙ sym (length-take-le 8 b long_too))
      ∙ ap (λ (o : Ordering). ordering_then o (slice_cmp nat_cmp (drop 8 a) (drop 8 b))) words_cmp

  pub words_less : first < second → Less ≡ slice_cmp nat_cmp a b
  words_less less = ap (λ (o : Ordering). ordering_then o (slice_cmp nat_cmp (drop 8 a) (drop 8 b))) (nat_cmp_is first second Less less) ∙ sym fronts_cmp

  pub words_greater : second < first → Greater ≡ slice_cmp nat_cmp a b
  words_greater less = ap (λ (o : Ordering). ordering_then o (slice_cmp nat_cmp (drop 8 a) (drop 8 b))) (nat_cmp_is first second Greater less) ∙ sym fronts_cmp
