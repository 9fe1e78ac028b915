-- Lemmas on numbers in use, as bits in words.
use Rattle.std.proofs.Common.{◌≡◌, ◌≢◌, ℕ, ◌+◌, ◌-◌, ◌*◌, ◌/◌, ◌%◌, ◌^◌, ◌<◌, ◌≤◌, inl, inr, Bool, true, false, ◌==◌, max, bit_or, List, [], ◌∷◌, length, slice_index, get_or, set, replicate, w64, refl, sym, ◌∙◌, ap, subst, arith, length-set, get_or-set_same, get_or-set_other}
use Rattle.std.specs.Int.{bit_at, bit_not, trailing_ones}
use Rattle.std.proofs.lemmas.Bool.{cases_eq, eq-eqb, ne_eqb, true≢false}
use Rattle.std.proofs.lemmas.List.{length-replicate, get_or-replicate, same_lists}
use Rattle.std.proofs.lemmas.List.FromFn.{length-map-range_with_len, get_or-map-range_with_len}
use Rattle.std.proofs.lemmas.Nat.{div-mul-add, mod-mul-add, pow_pos}
use Rattle.std.proofs.lemmas.Nat.Bits.{bit_at-zero, bit_at_ones, bit_at_or, bit_at_not, bit_at_mask_below, bit_at_mask_inside, bit_at-lt}
use Rattle.std.proofs.Math.Pow.{pow-sub-lt}
use Rattle.rss_shadow.specs.Numbers.{is_set, in_use, AreBits, AreClear, TellFull, AreNumbers, IsPut, IsSetFrom}

-- ---- the list of what is in use
pub length_in_use : (bound : ℕ) (words : List ℕ) → length (in_use bound words) ≡ bound
length_in_use bound words = length-map-range_with_len (λ n. is_set words n) 0 bound

pub at_in_use : (bound : ℕ) (words : List ℕ) (number : ℕ) (default : Bool) → number < bound → get_or (in_use bound words) number default ≡ is_set words number
at_in_use bound words number default within = get_or-map-range_with_len (λ n. is_set words n) 0 bound number number default within (omega arith)

pub within_view : (bound : ℕ) (words : List ℕ) (used : List Bool) (number : ℕ) → in_use bound words ≡ used → number < length used → number < bound
within_view bound words used number view within = omega (arith, length_in_use bound words, ap length view)

-- ---- a number that is put in or out
module _ {words after : List ℕ} {number : ℕ} {value : Bool} (put : IsPut words number value after) where
  pub in_use-put : (bound : ℕ) → number < bound → in_use bound after ≡ set (in_use bound words) number value
  in_use-put bound within =
      let long = length_in_use bound words in
      let long_after = length_in_use bound after in
      let long_set = length-set (in_use bound words) number value in
      same_lists _ _ (cc) (λ k d h.
      let below : k < bound = omega arith in
      at_in_use bound after k d below ∙ elim (cases_eq k number) [
        | inl same ↦ ap (λ n. is_set after n) same ∙ put.here ∙ sym (ap (λ n. get_or (set (in_use bound words) number value) n d) same ∙ get_or-set_same (in_use bound words) number value d (omega arith))
        | inr apart ↦ put.others k apart ∙ sym (get_or-set_other (in_use bound words) number k value d apart ∙ at_in_use bound words k d below)
      ])

  AreBits-put : {bound : ℕ} → AreBits bound words → number < bound → AreBits bound after
  AreBits-put bits within = record {
    count = put.count ∙ bits.count;
    past = λ other above below. put.others other (λ same. omega arith) ∙ bits.past other above (omega arith);
  }

  TellFull-put : {full full_after : List ℕ} {now_full : Bool} → TellFull words full → now_full ≡ (slice_index after (number / 64) == 2 ^ 64 - 1) → IsPut full (number / 64) now_full full_after → TellFull after full_after
  TellFull-put {full} {full_after} tells now upper = record {
    tell = λ word within. elim (cases_eq word (number / 64)) [
      | inl same ↦ ap (λ w. is_set full_after w) same ∙ upper.here ∙ now ∙ ap (λ w. slice_index after w == 2 ^ 64 - 1) (sym same)
      | inr apart ↦ upper.others word apart ∙ tells.tell word (omega arith) ∙ ap (λ w. w == 2 ^ 64 - 1) (sym (put.other_words word apart))
    ];
  }

-- the three levels after a number is put in or out
pub AreNumbers-put : {bound number : ℕ} {numbers numbers' words words' groups groups' : List ℕ} {used word_full group_full : Bool} → AreNumbers bound numbers words groups → number < bound → IsPut numbers number used numbers' → word_full ≡ (slice_index numbers' (number / 64) == 2 ^ 64 - 1) → IsPut words (number / 64) word_full words' → group_full ≡ (slice_index words' (number / 64 / 64) == 2 ^ 64 - 1) → IsPut groups (number / 64 / 64) group_full groups' → AreNumbers bound numbers' words' groups'
AreNumbers-put {bound} {number} {numbers} {numbers'} {words} {words'} {groups} {groups'} all within put word put_word group put_group =
    let count = all.numbers_hold.count in
    let count_words = all.words_hold.count in
    record {
      some = all.some;
      few = all.few;
      numbers_hold = AreBits-put put all.numbers_hold within;
      words_hold = rw (put.count) (AreBits-put put_word all.words_hold (omega arith));
      groups_hold = rw (put_word.count) (AreBits-put put_group all.groups_hold (omega arith));
      words_full = TellFull-put put all.words_full word put_word;
      groups_full = TellFull-put put_word all.groups_full group put_group;
    }

-- ---- bits of a word
pub full_word : (words : List ℕ) (number : ℕ) → slice_index words (number / 64) ≡ 2 ^ 64 - 1 → is_set words number ≡ true
full_word words number full = eq-eqb _ _ (ap (λ w. bit_at w (number % 64)) full ∙ bit_at_ones 64 (number % 64) (omega arith))

pub is_set_at : (words : List ℕ) (word bit : ℕ) → bit < 64 → is_set words (word * 64 + bit) ≡ (bit_at (slice_index words word) bit == 1)
is_set_at words word bit within = rw (div-mul-add word 64 bit within, mod-mul-add word 64 bit within)

pub ones_of_full : trailing_ones w64 (2 ^ 64 - 1) ≡ 64
unfolding lib.Count.count_trailing_zeros
ones_of_full = refl

pub clear_bit : (word bit : ℕ) → bit_at word bit ≡ 0 → (bit_at word bit == 1) ≡ false
clear_bit word bit zero = ap (λ b. b == 1) zero

-- ---- words of which no bit below the bound is set
TellFull-clear : {bound : ℕ} {words full : List ℕ} → AreClear bound words → AreClear (length words) full → TellFull words full
TellFull-clear {bound} {words} lower upper = record {
  tell = λ word within.
      let count = lower.bits.count in
      let first : word * 64 / 64 ≡ word = omega arith in
      upper.clear word within ∙ sym (ne_eqb _ _ (λ full. true≢false (sym (full_word words (word * 64) (ap (λ w. slice_index words w) first ∙ full)) ∙ lower.clear (word * 64) (omega arith))));
}

module _ (bound count last : ℕ) (some : 0 < bound) (counts : count ≡ (bound + 63) / 64) (from : IsSetFrom (bound % 64) last) where
  ends : List ℕ
  ends = set (replicate count 0) (count - 1) last

  ends_count : length ends ≡ count
  unfolding ends
  ends_count = length-set (replicate count 0) (count - 1) last ∙ length-replicate count 0

  -- the bit of a number in the last word, and in another
  in_last : (number : ℕ) → number / 64 ≡ count - 1 → is_set ends number ≡ (bit_at last (number % 64) == 1)
  unfolding ends
  in_last number there =
      ap (λ w. bit_at (slice_index ends w) (number % 64) == 1) there ∙ ap (λ w. bit_at w (number % 64) == 1) (get_or-set_same (replicate count 0) (count - 1) last 0 (omega (arith, length-replicate {A = ℕ} count 0)))

  in_other : (number : ℕ) → number / 64 < count → number / 64 ≢ count - 1 → is_set ends number ≡ false
  unfolding ends
  in_other number within apart = clear_bit _ _ (ap (λ w. bit_at w (number % 64)) (get_or-set_other (replicate count 0) (count - 1) (number / 64) last 0 apart ∙ get_or-replicate count (number / 64) 0 0 within) ∙ bit_at-zero (number % 64))

  clear_in_last : (number : ℕ) → number < bound → number / 64 ≡ count - 1 → bit_at last (number % 64) ≡ 0
  clear_in_last number below there = elim (cases_eq (bound % 64) 0) [
    | inl none ↦ ap (λ w. bit_at w (number % 64)) (from.zero_at_none none) ∙ bit_at-zero (number % 64)
    | inr some_set ↦ from.below (number % 64) (omega arith)
  ]

  pub AreClear-ends : AreClear bound (set (replicate count 0) (count - 1) last)
  unfolding ends
  AreClear-ends = record {
    bits = record {
      count = ends_count ∙ counts;
      past = λ number above below.
          let long = ends_count in
          in_last number (omega arith) ∙ eq-eqb _ _ (from.above (number % 64) (omega arith) (omega arith) (omega arith));
    };
    clear = λ number below. elim (cases_eq (number / 64) (count - 1)) [
      | inl there ↦ in_last number there ∙ clear_bit _ _ (clear_in_last number below there)
      | inr apart ↦ in_other number (omega arith) apart
    ];
  }

-- a single word
AreClear-single : (bound last : ℕ) → 0 < bound → bound < 64 → IsSetFrom bound last → AreClear bound (last ∷ [])
AreClear-single bound last some few from =
    let same : bound % 64 ≡ bound = omega arith in
    AreClear-ends bound 1 last some (omega arith) (rw same from)

-- three levels of which no bit below the bound is set
pub AreNumbers-clear : (bound count last : ℕ) {numbers words : List ℕ} {groups : ℕ} → 0 < bound → bound ≤ 65536 → count ≡ (bound + 63) / 64 → AreClear bound numbers → AreClear count words → groups ≡ (count + 63) / 64 → IsSetFrom groups last → AreNumbers bound numbers words (last ∷ [])
AreNumbers-clear bound count last {numbers} {words} some few counts lower middle grouped from =
    let count_is : count ≡ length numbers = counts ∙ sym lower.bits.count in
    let middle : AreClear (length numbers) words = subst (λ n. AreClear n words) count_is middle in
    let upper = AreClear-single (length words) last (omega (arith, middle.bits.count, lower.bits.count)) (omega (arith, middle.bits.count, lower.bits.count)) (rw (middle.bits.count, ← count_is, ← grouped) from) in
    record {
      some = some;
      few = few;
      numbers_hold = lower.bits;
      words_hold = middle.bits;
      groups_hold = upper.bits;
      words_full = TellFull-clear lower middle;
      groups_full = TellFull-clear middle upper;
    }

pub in_use-clear : {bound : ℕ} {words : List ℕ} → AreClear bound words → in_use bound words ≡ replicate bound false
in_use-clear {bound} {words} bits =
    let long = length_in_use bound words in
    same_lists _ _ (long ∙ sym (length-replicate bound false)) (λ k d h.
    let below : k < bound = omega arith in
    at_in_use bound words k d below ∙ bits.clear k below ∙ sym (get_or-replicate bound k false d below))

-- the bits from one on are cleared in the mask, and set below it
module _ (word bit : ℕ) where
  bit_at-masked : (other : ℕ) → other < 64 → bit_at (bit_or word (bit_not w64 (2 ^ 64 - 2 ^ bit))) other ≡ max (bit_at word other) (1 - bit_at (2 ^ 64 - 2 ^ bit) other)
  bit_at-masked other few = bit_at_or word (bit_not w64 (2 ^ 64 - 2 ^ bit)) other ∙ ap (λ n. max (bit_at word other) n) (bit_at_not w64 (2 ^ 64 - 2 ^ bit) other (pow-sub-lt 64 (pow_pos bit)) few)

  pub masked_below : bit < 64 → (other : ℕ) → other < bit → bit_at (bit_or word (bit_not w64 (2 ^ 64 - 2 ^ bit))) other ≡ 1
  masked_below within other before = omega (arith, bit_at-masked other (omega arith), bit_at_mask_below bit 64 other before, bit_at-lt word other)

  pub masked_others : (other : ℕ) → bit ≤ other → other < 64 → bit_at (bit_or word (bit_not w64 (2 ^ 64 - 2 ^ bit))) other ≡ bit_at word other
  masked_others other from few = omega (arith, bit_at-masked other few, bit_at_mask_inside bit 64 other from few)

-- ---- words of which all bits are set
set_in_ones : (n number : ℕ) → number < 64 * n → is_set (replicate n (2 ^ 64 - 1)) number ≡ true
set_in_ones n number within = full_word (replicate n (2 ^ 64 - 1)) number (get_or-replicate n (number / 64) (2 ^ 64 - 1) 0 (omega arith))

long_ones : (n : ℕ) → length (replicate n (2 ^ 64 - 1)) ≡ n
long_ones n = length-replicate {A = ℕ} n (2 ^ 64 - 1)

AreBits-ones : (bound n : ℕ) → n ≡ (bound + 63) / 64 → AreBits bound (replicate n (2 ^ 64 - 1))
AreBits-ones bound n counts = record {
  count = long_ones n ∙ counts;
  past = λ number above below. set_in_ones n number (omega (arith, long_ones n));
}

TellFull-ones : (n m : ℕ) → m ≡ (n + 63) / 64 → TellFull (replicate n (2 ^ 64 - 1)) (replicate m (2 ^ 64 - 1))
TellFull-ones n m counts = record {
  tell = λ word within.
      let few : word < n = omega (arith, long_ones n) in
      set_in_ones m word (omega arith) ∙ sym (eq-eqb _ _ (get_or-replicate n word (2 ^ 64 - 1) 0 few));
}

pub AreNumbers-ones : (bound n m : ℕ) → 0 < bound → bound ≤ 65536 → n ≡ (bound + 63) / 64 → m ≡ (n + 63) / 64 → AreNumbers bound (replicate n (2 ^ 64 - 1)) (replicate m (2 ^ 64 - 1)) ((2 ^ 64 - 1) ∷ [])
AreNumbers-ones bound n m some few counts counts_words =
    let one : replicate 1 (2 ^ 64 - 1) ≡ (2 ^ 64 - 1) ∷ [] = refl in
    let single : 1 ≡ (m + 63) / 64 = omega arith in
    record {
      some = some;
      few = few;
      numbers_hold = AreBits-ones bound n counts;
      words_hold = rw (long_ones n) (AreBits-ones n m counts_words);
      groups_hold = rw (long_ones m, ← one) (AreBits-ones m 1 single);
      words_full = TellFull-ones n m counts_words;
      groups_full = rw (← one) (TellFull-ones m 1 single);
    }

pub in_use-ones : (bound n : ℕ) → n ≡ (bound + 63) / 64 → in_use bound (replicate n (2 ^ 64 - 1)) ≡ replicate bound true
in_use-ones bound n counts =
    let words = replicate n (2 ^ 64 - 1) in
    let long = length_in_use bound words in
    same_lists _ _ (long ∙ sym (length-replicate bound true)) (λ k d h.
    let below : k < bound = omega arith in
    at_in_use bound words k d below ∙ set_in_ones n k (omega arith) ∙ sym (get_or-replicate bound k true d below))
