-- Pairs are ordered by their bytes.
use Rattle.std.proofs.Common.{◌≡◌, ℕ, ◌%◌, ◌^◌, ◌<◌, ◌++◌, length, refl, ap, ◌∙◌, arith}
use Rattle.std.specs.Int.{w16, w32, to_be_bytes}
use Rattle.std.specs.Ordering.{nat_cmp, ordering_then}
use Rattle.std.specs.Cmp.Lexicographic.{slice_cmp}
use Rattle.std.specs.declared.cmp.Ordering.{Ordering}
use Rattle.rss_base.specs.Trees.{Pair, pair_cmp}
use Rattle.rss_value.proofs.Orders.{slice_cmp-append}
use Rattle.rss_value.proofs.Numbers.{high_first_cmp}
use Rattle.rss_base.specs.Tids.{IsSpelledTid}
use Rattle.rss_node.specs.Pairs.{pair_bytes}

four_cmp : (a b : ℕ) → a < 2 ^ 32 → b < 2 ^ 32 → slice_cmp nat_cmp (to_be_bytes w32 a) (to_be_bytes w32 b) ≡ nat_cmp a b
four_cmp a b low high =
    let one : a % 256 ^ 4 ≡ a = omega arith in
    let two : b % 256 ^ 4 ≡ b = omega arith in
    high_first_cmp 4 a b ∙ (λ i. nat_cmp (one i) (two i))

two_cmp : (a b : ℕ) → a < 2 ^ 16 → b < 2 ^ 16 → slice_cmp nat_cmp (to_be_bytes w16 a) (to_be_bytes w16 b) ≡ nat_cmp a b
two_cmp a b low high =
    let one : a % 256 ^ 2 ≡ a = omega arith in
    let two : b % 256 ^ 2 ≡ b = omega arith in
    high_first_cmp 2 a b ∙ (λ i. nat_cmp (one i) (two i))

pub pairs_ordered : (a b : Pair) → length a.key ≡ length b.key → IsSpelledTid a.tid → IsSpelledTid b.tid → slice_cmp nat_cmp (pair_bytes a.key a.tid) (pair_bytes b.key b.tid) ≡ pair_cmp a b
pairs_ordered a b long first second =
    let tail : slice_cmp nat_cmp (to_be_bytes w32 a.tid.page ++ to_be_bytes w16 a.tid.slot) (to_be_bytes w32 b.tid.page ++ to_be_bytes w16 b.tid.slot) ≡ ordering_then (nat_cmp a.tid.page b.tid.page) (nat_cmp a.tid.slot b.tid.slot) =
    slice_cmp-append nat_cmp (to_be_bytes w32 a.tid.page) (to_be_bytes w32 b.tid.page) (to_be_bytes w16 a.tid.slot) (to_be_bytes w16 b.tid.slot) refl
    ∙ (λ i. ordering_then (four_cmp a.tid.page b.tid.page first.page second.page i) (two_cmp a.tid.slot b.tid.slot first.slot second.slot i)) in
    slice_cmp-append nat_cmp a.key b.key (to_be_bytes w32 a.tid.page ++ to_be_bytes w16 a.tid.slot) (to_be_bytes w32 b.tid.page ++ to_be_bytes w16 b.tid.slot) long
    ∙ ap (λ (o : Ordering). ordering_then (slice_cmp nat_cmp a.key b.key) o) tail
