-- The order of pairs.
use Rattle.std.proofs.Common.{◌≡◌, ℕ, List, ap, sym, ◌∙◌}
use Rattle.std.specs.Ordering.{nat_cmp, ordering_reverse}
use Rattle.std.specs.Cmp.Lexicographic.{slice_cmp}
use Rattle.std.specs.declared.cmp.Ordering.TheVariants.{Less, Equal, Greater}
use Rattle.std.proofs.lemmas.Cmp.{nat_list_cmp_total, tied_itself}
use Rattle.rss_base.specs.Entries.{IsLess}

pub less_trans : {a b c : List ℕ} → IsLess a b → IsLess b c → IsLess a c
less_trans {a = a} {b = b} {c = c} one two = record { is = nat_list_cmp_total.trans a b c one.is two.is }

pub less_never : {a : List ℕ} → IsLess a a → ⊥
less_never {a = a} one = let same : slice_cmp nat_cmp a a ≡ Equal = tied_itself nat_list_cmp_total a in let never : Less ≡ Equal = sym one.is ∙ same in cc

pub less_asym : {a b : List ℕ} → IsLess a b → IsLess b a → ⊥
less_asym one two = less_never (less_trans one two)

pub equal_never : (a b : List ℕ) → slice_cmp nat_cmp a b ≡ Equal → IsLess b a → ⊥
equal_never a b same less = let back : slice_cmp nat_cmp a b ≡ Greater = nat_list_cmp_total.antisymm a b ∙ ap ordering_reverse less.is in let never : Equal ≡ Greater = sym same ∙ back in cc

pub greater_less : (a b : List ℕ) → slice_cmp nat_cmp a b ≡ Greater → IsLess b a
greater_less a b is = record { is = nat_list_cmp_total.antisymm b a ∙ ap ordering_reverse is }
