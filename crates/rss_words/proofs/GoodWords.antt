-- Words that are a command, by how many they are.
use Rattle.std.proofs.Common.{◌≡◌, ℕ, ◌<◌, ◌≤◌, ◌^◌, false, List, [], ◌∷◌, length, map, get_or, refl, sym, ap, ◌∙◌, subst, arith}
use Rattle.std.specs.Prelude.{◌↔◌, ◌==◌, codes, decimal, slice_index_or, IsTrue, nat_le}
use Rattle.std.proofs.lemmas.Bool.Decides.{nat_tests}
use Rattle.std.proofs.lemmas.Fmt.{decimal_injective}
use Rattle.std.proofs.lemmas.List.{get_or-map}
use Rattle.rss_model.specs.Generator.{most_employees}
use Rattle.rss_words.specs.Words.{IsPlain, IsTask, IsNumber, IsCount, AskFor, IsCommand}
use Rattle.rss_words.specs.declared.command.Command.{Command}
use Rattle.rss_words.specs.declared.command.Command.TheVariants.{OnFile, Format, Generate, Trial}

-- a word, by what is read of it
pub item : {S : Type 0} (f : S → List ℕ) (words : List S) (k : ℕ) (x : S) (text : List ℕ) → k < length words → x ≡ get_or words k x → text ≡ f x → slice_index_or (map f words) k [] ≡ text
item f words k x text low is same = get_or-map f words k x [] low ∙ (ap f (sym is) ∙ sym same)

pub distinct : (a b : ℕ) → (a == b) ≡ false → a ≡ b → ⊥
distinct a b off same = grind (arith, nat_tests)

-- ---- the words, one by one

three : (words : List (List ℕ)) → length words ≡ 3 → words ≡ slice_index_or words 0 [] ∷ slice_index_or words 1 [] ∷ slice_index_or words 2 [] ∷ []
three [] many = absurd (omega arith)
three (a ∷ []) many = absurd (omega arith)
three (a ∷ b ∷ []) many = absurd (omega arith)
three (a ∷ b ∷ c ∷ []) many = refl
three (a ∷ b ∷ c ∷ d ∷ words) many = absurd (omega arith)

four : (words : List (List ℕ)) → length words ≡ 4 → words ≡ slice_index_or words 0 [] ∷ slice_index_or words 1 [] ∷ slice_index_or words 2 [] ∷ slice_index_or words 3 [] ∷ []
four [] many = absurd (omega arith)
four (a ∷ []) many = absurd (omega arith)
four (a ∷ b ∷ []) many = absurd (omega arith)
four (a ∷ b ∷ c ∷ []) many = absurd (omega arith)
four (a ∷ b ∷ c ∷ d ∷ []) many = refl
four (a ∷ b ∷ c ∷ d ∷ e ∷ words) many = absurd (omega arith)

five : (words : List (List ℕ)) → length words ≡ 5 → words ≡ slice_index_or words 0 [] ∷ slice_index_or words 1 [] ∷ slice_index_or words 2 [] ∷ slice_index_or words 3 [] ∷ slice_index_or words 4 [] ∷ []
five [] many = absurd (omega arith)
five (a ∷ []) many = absurd (omega arith)
five (a ∷ b ∷ []) many = absurd (omega arith)
five (a ∷ b ∷ c ∷ []) many = absurd (omega arith)
five (a ∷ b ∷ c ∷ d ∷ []) many = absurd (omega arith)
five (a ∷ b ∷ c ∷ d ∷ e ∷ []) many = refl
five (a ∷ b ∷ c ∷ d ∷ e ∷ g ∷ words) many = absurd (omega arith)

-- ---- which command, by how many words

pub on_file_good : (words : List (List ℕ)) → length words ≡ 3 → IsTask (slice_index_or words 1 []) → IsPlain (slice_index_or words 2 []) → IsCommand words
on_file_good words many is plain = record {
  command = OnFile is.task;
  asked = record {
    program = slice_index_or words 0 [];
    file = slice_index_or words 2 [];
    spelled = three words many ∙ ap (λ (w : List ℕ). slice_index_or words 0 [] ∷ w ∷ slice_index_or words 2 [] ∷ []) is.spelled;
    plain = plain;
  };
}

pub generate_good : (words : List (List ℕ)) → length words ≡ 4 → slice_index_or words 1 [] ≡ codes "gen" → IsNumber (slice_index_or words 2 []) → IsCount (slice_index_or words 3 []) → IsCommand words
generate_good words many name number count = record {
  command = Generate number.n count.n;
  asked = record {
    program = slice_index_or words 0 [];
    spelled = four words many
        ∙ (ap (λ (w : List ℕ). slice_index_or words 0 [] ∷ w ∷ slice_index_or words 2 [] ∷ slice_index_or words 3 [] ∷ []) name
        ∙ (ap (λ (w : List ℕ). slice_index_or words 0 [] ∷ codes "gen" ∷ w ∷ slice_index_or words 3 [] ∷ []) number.spelled
        ∙ ap (λ (w : List ℕ). slice_index_or words 0 [] ∷ codes "gen" ∷ decimal number.n ∷ w ∷ []) count.spelled));
    number_fits = number.fits;
    some = count.some;
    few = count.few;
  };
}

pub format_good : (words : List (List ℕ)) → length words ≡ 5 → slice_index_or words 1 [] ≡ codes "format" → IsPlain (slice_index_or words 2 []) → IsNumber (slice_index_or words 3 []) → IsNumber (slice_index_or words 4 []) → IsCommand words
format_good words many name plain slots log_pages = record {
  command = Format slots.n log_pages.n;
  asked = record {
    program = slice_index_or words 0 [];
    file = slice_index_or words 2 [];
    spelled = five words many
        ∙ (ap (λ (w : List ℕ). slice_index_or words 0 [] ∷ w ∷ slice_index_or words 2 [] ∷ slice_index_or words 3 [] ∷ slice_index_or words 4 [] ∷ []) name
        ∙ (ap (λ (w : List ℕ). slice_index_or words 0 [] ∷ codes "format" ∷ slice_index_or words 2 [] ∷ w ∷ slice_index_or words 4 [] ∷ []) slots.spelled
        ∙ ap (λ (w : List ℕ). slice_index_or words 0 [] ∷ codes "format" ∷ slice_index_or words 2 [] ∷ decimal slots.n ∷ w ∷ []) log_pages.spelled));
    plain = plain;
    slots_fit = slots.fits;
    log_pages_fit = log_pages.fits;
  };
}

pub trial_good : (words : List (List ℕ)) → length words ≡ 5 → slice_index_or words 1 [] ≡ codes "trial" → IsPlain (slice_index_or words 2 []) → IsNumber (slice_index_or words 3 []) → IsCount (slice_index_or words 4 []) → IsCommand words
trial_good words many name plain number count = record {
  command = Trial number.n count.n;
  asked = record {
    program = slice_index_or words 0 [];
    file = slice_index_or words 2 [];
    spelled = five words many
        ∙ (ap (λ (w : List ℕ). slice_index_or words 0 [] ∷ w ∷ slice_index_or words 2 [] ∷ slice_index_or words 3 [] ∷ slice_index_or words 4 [] ∷ []) name
        ∙ (ap (λ (w : List ℕ). slice_index_or words 0 [] ∷ codes "trial" ∷ slice_index_or words 2 [] ∷ w ∷ slice_index_or words 4 [] ∷ []) number.spelled
        ∙ ap (λ (w : List ℕ). slice_index_or words 0 [] ∷ codes "trial" ∷ slice_index_or words 2 [] ∷ decimal number.n ∷ w ∷ []) count.spelled));
    plain = plain;
    number_fits = number.fits;
    some = count.some;
    few = count.few;
  };
}

pub good_on_file : (words : List (List ℕ)) → length words ≡ 3 → IsCommand words → IsTask (slice_index_or words 1 []) × IsPlain (slice_index_or words 2 [])
good_on_file words many good = asks good.command good.asked
  where
    asks : (command : Command) → AskFor words command → IsTask (slice_index_or words 1 []) × IsPlain (slice_index_or words 2 [])
    asks (OnFile task) are = (
      record { task = task; spelled = ap (λ (w : List (List ℕ)). slice_index_or w 1 []) are.spelled },
      subst IsPlain (sym (ap (λ (w : List (List ℕ)). slice_index_or w 2 []) are.spelled)) are.plain,
    )
    asks (Format slots log_pages) are = absurd (distinct 3 5 refl (sym many ∙ ap length are.spelled))
    asks (Generate number count) are = absurd (distinct 3 4 refl (sym many ∙ ap length are.spelled))
    asks (Trial number count) are = absurd (distinct 3 5 refl (sym many ∙ ap length are.spelled))

pub good_generate : (words : List (List ℕ)) → length words ≡ 4 → IsCommand words → IsCount (slice_index_or words 3 [])
good_generate words many good = asks good.command good.asked
  where
    asks : (command : Command) → AskFor words command → IsCount (slice_index_or words 3 [])
    asks (OnFile _) are = absurd (distinct 4 3 refl (sym many ∙ ap length are.spelled))
    asks (Format slots log_pages) are = absurd (distinct 4 5 refl (sym many ∙ ap length are.spelled))
    asks (Generate number count) are = record {
      n = count;
      spelled = ap (λ (w : List (List ℕ)). slice_index_or w 3 []) are.spelled;
      some = are.some;
      few = are.few;
    }
    asks (Trial number count) are = absurd (distinct 4 5 refl (sym many ∙ ap length are.spelled))

-- of five words the second says which command they are
abbrev first_byte : List (List ℕ) → ℕ
first_byte words = slice_index_or (slice_index_or words 1 []) 0 0

pub good_format : (words : List (List ℕ)) → length words ≡ 5 → slice_index_or words 1 [] ≡ codes "format" → IsCommand words → IsNumber (slice_index_or words 4 [])
good_format words many name good = asks good.command good.asked
  where
    asks : (command : Command) → AskFor words command → IsNumber (slice_index_or words 4 [])
    asks (OnFile _) are = absurd (distinct 5 3 refl (sym many ∙ ap length are.spelled))
    asks (Generate number count) are = absurd (distinct 5 4 refl (sym many ∙ ap length are.spelled))
    asks (Format slots log_pages) are = record {
      n = log_pages;
      spelled = ap (λ (w : List (List ℕ)). slice_index_or w 4 []) are.spelled;
      fits = are.log_pages_fit;
    }
    asks (Trial number count) are = absurd (distinct 102 116 refl (sym (ap (λ (w : List ℕ). slice_index_or w 0 0) name) ∙ ap first_byte are.spelled))

pub good_trial : (words : List (List ℕ)) → length words ≡ 5 → slice_index_or words 1 [] ≡ codes "trial" → IsCommand words → IsCount (slice_index_or words 4 [])
good_trial words many name good = asks good.command good.asked
  where
    asks : (command : Command) → AskFor words command → IsCount (slice_index_or words 4 [])
    asks (OnFile _) are = absurd (distinct 5 3 refl (sym many ∙ ap length are.spelled))
    asks (Generate number count) are = absurd (distinct 5 4 refl (sym many ∙ ap length are.spelled))
    asks (Format slots log_pages) are = absurd (distinct 116 102 refl (sym (ap (λ (w : List ℕ). slice_index_or w 0 0) name) ∙ ap first_byte are.spelled))
    asks (Trial number count) are = record {
      n = count;
      spelled = ap (λ (w : List (List ℕ)). slice_index_or w 4 []) are.spelled;
      some = are.some;
      few = are.few;
    }

-- ---- how many employees

pub count_few : (word : List ℕ) (n most : ℕ) → n < 2 ^ 64 → word ≡ decimal n → most ≡ most_employees → 1 ≤ n → IsTrue (nat_le n most) ↔ IsCount word
count_few word n most fits spelled is some = (
  λ few. record { n = n; spelled = spelled; some = some; few = grind (arith, nat_tests) },
  λ count.
      let small : count.n < 2 ^ 64 = omega (arith, count.few) in
      let same : n ≡ count.n = decimal_injective n count.n fits small (sym spelled ∙ count.spelled) in
      let few : n ≤ most = omega (arith, same, is, count.few) in
      grind (arith, nat_tests),
)

pub count_none : (word : List ℕ) (n : ℕ) → n < 2 ^ 64 → word ≡ decimal n → n < 1 → IsTrue (nat_le 1 n) ↔ IsCount word
count_none word n fits spelled none = (
  λ some. absurd (grind (arith, nat_tests)),
  λ count.
      let small : count.n < 2 ^ 64 = omega (arith, count.few) in
      let same : n ≡ count.n = decimal_injective n count.n fits small (sym spelled ∙ count.spelled) in
      absurd (omega (arith, same, count.some)),
)
