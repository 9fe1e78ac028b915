use Rattle.std.proofs.Common.{◌≡◌, ◌∙◌, ◌^◌, ◌-◌, ℕ, List, replicate, ap, arith, rules}
use Rattle.rss_shadow.specs.Numbers.{in_use}
use Rattle.rss_shadow.proofs.Bits.{AreNumbers-ones, in_use-ones}
use Rattle.rss_shadow.proofs.numbers.NumberSet.all.Goals as goal

pub invariant_of-result : goal.invariant_of-result
invariant_of-result c =
    let numbers : c.in_ok-vec.field-0.items ≡ replicate c.div_ceil-words.result (2 ^ 64 - 1) = search rules in
    let words : c.in_ok-vec-2.field-0.items ≡ replicate c.div_ceil-groups.result (2 ^ 64 - 1) = search rules in
    rw (numbers, words) (AreNumbers-ones c.args.len c.div_ceil-words.result c.div_ceil-groups.result c.requires.some c.requires.few (omega arith) (omega arith))

pub returns : goal.returns
returns c =
    let numbers : c.in_ok-vec.field-0.items ≡ replicate c.div_ceil-words.result (2 ^ 64 - 1) = search rules in
    ap (λ (words : List ℕ). in_use c.args.len words) numbers ∙ in_use-ones c.args.len c.div_ceil-words.result (omega arith)
