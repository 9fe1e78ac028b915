use Rattle.std.proofs.Common.{◌≡◌, ◌∙◌, map, length, refl, arith}
use Rattle.std.proofs.lemmas.List.{length-map}
use Rattle.std.specs.Prelude.{string_bytes}
use Rattle.rss_words.proofs.GoodWords.{item}
use Rattle.rss_words.proofs.Named.{named_by_three, named_by_five, named_good}
use Rattle.rss_words.proofs.naming.file_word.Goals as goal

pub returns-then-not-are_good-clause-none : goal.returns-then-not-are_good-clause-none
returns-then-not-are_good-clause-none c = λ file named. cc (c.if-not-are_good.ensures.1 (named_good named))

pub returns-in-len3-clause-file : goal.returns-in-len3-clause-file
returns-in-len3-clause-file c =
    let words = c.args.words.now in
    let many : length words ≡ 3 = omega (arith, c.in-len3.len_at_least, c.in-len3.len_below) in
    named_by_three (map string_bytes words) c.as_str.result.now (length-map words string_bytes ∙ many)
    (item string_bytes words 2 c.file-item.result c.as_str.result.now (omega arith) c.file-item.is c.as_str.ensures.value)
    (c.if-not-are_good.ensures.0 refl)

pub returns-in-len5-clause-file : goal.returns-in-len5-clause-file
returns-in-len5-clause-file c =
    let words = c.args.words.now in
    let many : length words ≡ 5 = omega (arith, c.in-len5.len_at_least, c.in-len5.len_below) in
    named_by_five (map string_bytes words) c.as_str-in-len5.result.now (length-map words string_bytes ∙ many)
    (item string_bytes words 2 c.file-item-then-words-lt6.result c.as_str-in-len5.result.now (omega arith) c.file-item-then-words-lt6.is c.as_str-in-len5.ensures.value)
    (c.if-not-are_good.ensures.0 refl)
