use Rattle.std.proofs.Common.{◌≡◌, ◌∙◌, sym, ap, arith}
use Rattle.std.specs.Prelude.{Some, decimal, option_map}
use Rattle.std.proofs.lemmas.Option.{none-some, same_Some}
use Rattle.std.proofs.lemmas.Fmt.{decimal_injective}
use Rattle.clap.specs.Words.{found_of}
use Rattle.clap.proofs.WalkLemmas.{first_value-rows}
use Rattle.rss_words.proofs.parsing.number_in.Goals as goal

pub returns-in_err-get_str : goal.returns-in_err-get_str
returns-in_err-get_str c = λ n has.
    let text : option_map (λ s. s.now) c.get_str.result ≡ Some (decimal n) = c.get_str.ensures ∙ (first_value-rows (found_of c.args.values.now) c.args.name.now ∙ has.word) in
    absurd (none-some (decimal n) (rw c.in_err-get_str.was at text))

pub returns-in_err-number : goal.returns-in_err-number
returns-in_err-number c = λ n has.
    let text : option_map (λ s. s.now) c.get_str.result ≡ Some (decimal n) = c.get_str.ensures ∙ (first_value-rows (found_of c.args.values.now) c.args.name.now ∙ has.word) in
    let word : c.in_ok-get_str.field-0.now ≡ decimal n = same_Some c.in_ok-get_str.field-0.now (decimal n) (rw c.in_ok-get_str.was at text) in
    absurd (c.in_err-number.ensures.none n has.fits word)

pub returns : goal.returns
returns c = λ n has.
    let text : option_map (λ s. s.now) c.get_str.result ≡ Some (decimal n) = c.get_str.ensures ∙ (first_value-rows (found_of c.args.values.now) c.args.name.now ∙ has.word) in
    let word : c.in_ok-get_str.field-0.now ≡ decimal n = same_Some c.in_ok-get_str.field-0.now (decimal n) (rw c.in_ok-get_str.was at text) in
    ap Some (decimal_injective c.in_ok-number.number n (omega arith) has.fits (sym c.in_ok-number.ensures.some ∙ word))
