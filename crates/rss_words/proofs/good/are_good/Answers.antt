use Rattle.std.proofs.Common.{rules, arith, ◌≡◌, ◌∙◌, [], map, length, sym, subst}
use Rattle.std.proofs.lemmas.List.{length-map}
use Rattle.std.specs.Prelude.{slice_index_or, codes, string_bytes}
use Rattle.rss_words.specs.Words.{IsPlain, IsTask, IsNumber, IsCount}
use Rattle.rss_words.proofs.GoodWords.{item, on_file_good, good_on_file, generate_good, good_generate, format_good, good_format, trial_good, good_trial}
use Rattle.rss_words.proofs.good.are_good.Goals as goal

pub returns-then-is_task : goal.returns-then-is_task
returns-then-is_task c =
    let words = c.args.words.now in
    let many : length words ≡ 3 = omega (arith, c.in-len3.len_at_least, c.in-len3.len_below) in
    let texts = map string_bytes words in
    let all : length texts ≡ 3 = length-map words string_bytes ∙ many in
    let name : slice_index_or texts 1 [] ≡ c.as_str.result.now = item string_bytes words 1 c.name-item.result c.as_str.result.now (omega arith) c.name-item.is c.as_str.ensures.value in
    let file : slice_index_or texts 2 [] ≡ c.as_str-then-is_task.result.now = item string_bytes words 2 c.file-item.result c.as_str-then-is_task.result.now (omega arith) c.file-item.is c.as_str-then-is_task.ensures.value in (
      λ yes. on_file_good texts all (subst IsTask (sym name) (c.is_task.ensures.0 c.if-is_task.true)) (subst IsPlain (sym file) (c.is_plain.ensures.0 yes)),
      λ good. c.is_plain.ensures.1 (subst IsPlain file (good_on_file texts all good).1),
    )

pub returns-else-is_task : goal.returns-else-is_task
returns-else-is_task c =
    let words = c.args.words.now in
    let many : length words ≡ 3 = omega (arith, c.in-len3.len_at_least, c.in-len3.len_below) in
    let texts = map string_bytes words in
    let all : length texts ≡ 3 = length-map words string_bytes ∙ many in
    let name : slice_index_or texts 1 [] ≡ c.as_str.result.now = item string_bytes words 1 c.name-item.result c.as_str.result.now (omega arith) c.name-item.is c.as_str.ensures.value in (
      λ yes. absurd (cc),
      λ good. c.is_task.ensures.1 (subst IsTask name (good_on_file texts all good).0),
    )

pub returns-then-is_number : goal.returns-then-is_number
returns-then-is_number c =
    let words = c.args.words.now in
    let many : length words ≡ 4 = omega (arith, c.in-len4.len_at_least, c.in-len4.len_below) in
    let texts = map string_bytes words in
    let all : length texts ≡ 4 = length-map words string_bytes ∙ many in
    let gen : c.as_str-in-len4.result.now ≡ codes "gen" = search rules in
    let name : slice_index_or texts 1 [] ≡ codes "gen" = item string_bytes words 1 c.name-item-then-words-lt5.result c.as_str-in-len4.result.now (omega arith) c.name-item-then-words-lt5.is c.as_str-in-len4.ensures.value ∙ gen in
    let number : slice_index_or texts 2 [] ≡ c.as_str-then-eq.result.now = item string_bytes words 2 c.number-item.result c.as_str-then-eq.result.now (omega arith) c.number-item.is c.as_str-then-eq.ensures.value in
    let count : slice_index_or texts 3 [] ≡ c.as_str-then-is_number.result.now = item string_bytes words 3 c.count-item.result c.as_str-then-is_number.result.now (omega arith) c.count-item.is c.as_str-then-is_number.ensures.value in (
      λ yes. generate_good texts all name (subst IsNumber (sym number) (c.is_number.ensures.0 c.if-is_number.true)) (subst IsCount (sym count) (c.is_count.ensures.0 yes)),
      λ good. c.is_count.ensures.1 (subst IsCount count (good_generate texts all good)),
    )

pub returns-then-is_number-2 : goal.returns-then-is_number-2
returns-then-is_number-2 c =
    let words = c.args.words.now in
    let many : length words ≡ 5 = omega (arith, c.in-len5.len_at_least, c.in-len5.len_below) in
    let texts = map string_bytes words in
    let all : length texts ≡ 5 = length-map words string_bytes ∙ many in
    let name : slice_index_or texts 1 [] ≡ codes "format" = item string_bytes words 1 c.name-item-then-words-lt6.result c.as_str-in-len5.result.now (omega arith) c.name-item-then-words-lt6.is c.as_str-in-len5.ensures.value ∙ c.in-format.is in
    let file : slice_index_or texts 2 [] ≡ c.as_str-in-format.result.now = item string_bytes words 2 c.file-item-then-words-lt6.result c.as_str-in-format.result.now (omega arith) c.file-item-then-words-lt6.is c.as_str-in-format.ensures.value in
    let slots : slice_index_or texts 3 [] ≡ c.as_str-then-is_plain.result.now = item string_bytes words 3 c.first-item.result c.as_str-then-is_plain.result.now (omega arith) c.first-item.is c.as_str-then-is_plain.ensures.value in
    let log_pages : slice_index_or texts 4 [] ≡ c.as_str-then-is_number-2.result.now = item string_bytes words 4 c.second-item.result c.as_str-then-is_number-2.result.now (omega arith) c.second-item.is c.as_str-then-is_number-2.ensures.value in (
      λ yes. format_good texts all name (subst IsPlain (sym file) (c.is_plain-in-format.ensures.0 c.if-is_plain.true)) (subst IsNumber (sym slots) (c.is_number-then-is_plain.ensures.0 c.if-is_number-2.true)) (subst IsNumber (sym log_pages) (c.is_number-then-is_number-2.ensures.0 yes)),
      λ good. c.is_number-then-is_number-2.ensures.1 (subst IsNumber log_pages (good_format texts all name good)),
    )

pub returns-then-is_number-3 : goal.returns-then-is_number-3
returns-then-is_number-3 c =
    let words = c.args.words.now in
    let many : length words ≡ 5 = omega (arith, c.in-len5.len_at_least, c.in-len5.len_below) in
    let texts = map string_bytes words in
    let all : length texts ≡ 5 = length-map words string_bytes ∙ many in
    let name : slice_index_or texts 1 [] ≡ codes "trial" = item string_bytes words 1 c.name-item-then-words-lt6.result c.as_str-in-len5.result.now (omega arith) c.name-item-then-words-lt6.is c.as_str-in-len5.ensures.value ∙ c.in-trial.is in
    let file : slice_index_or texts 2 [] ≡ c.as_str-in-trial.result.now = item string_bytes words 2 c.file-item-then-words-lt6.result c.as_str-in-trial.result.now (omega arith) c.file-item-then-words-lt6.is c.as_str-in-trial.ensures.value in
    let number : slice_index_or texts 3 [] ≡ c.as_str-then-is_plain-2.result.now = item string_bytes words 3 c.first-item.result c.as_str-then-is_plain-2.result.now (omega arith) c.first-item.is c.as_str-then-is_plain-2.ensures.value in
    let count : slice_index_or texts 4 [] ≡ c.as_str-then-is_number-3.result.now = item string_bytes words 4 c.second-item.result c.as_str-then-is_number-3.result.now (omega arith) c.second-item.is c.as_str-then-is_number-3.ensures.value in (
      λ yes. trial_good texts all name (subst IsPlain (sym file) (c.is_plain-in-trial.ensures.0 c.if-is_plain-2.true)) (subst IsNumber (sym number) (c.is_number-then-is_plain-2.ensures.0 c.if-is_number-3.true)) (subst IsCount (sym count) (c.is_count-then-is_number-3.ensures.0 yes)),
      λ good. c.is_count-then-is_number-3.ensures.1 (subst IsCount count (good_trial texts all name good)),
    )
