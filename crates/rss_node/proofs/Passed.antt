-- Which pairs a search passes.
use Rattle.std.proofs.Common.{◌≡◌, ℕ, Bool, true, false, List, sym, ◌∙◌}
use Rattle.std.specs.Ordering.{nat_cmp}
use Rattle.std.specs.Cmp.Lexicographic.{slice_cmp}
use Rattle.std.specs.declared.cmp.Ordering.TheVariants.{Less, Equal, Greater}
use Rattle.rss_base.proofs.Entries.{less_asym, equal_never, greater_less}
use Rattle.rss_node.specs.Nodes.{IsPassed}

pub passed_less : (beyond : Bool) (pair target : List ℕ) → Less ≡ slice_cmp nat_cmp pair target → IsPassed beyond pair target
passed_less true pair target is = λ less. less_asym (record { is = sym is }) less
passed_less false pair target is = record { is = sym is }

pub passed_equal : (beyond : Bool) (pair target : List ℕ) → Equal ≡ slice_cmp nat_cmp pair target → beyond ≡ true → IsPassed beyond pair target
passed_equal true pair target is e = λ less. equal_never pair target (sym is) less
passed_equal false pair target is e = cc

pub equal_not : (beyond : Bool) (pair target : List ℕ) → Equal ≡ slice_cmp nat_cmp pair target → beyond ≡ false → IsPassed beyond pair target → ⊥
equal_not true pair target is e = cc
equal_not false pair target is e = λ less. let never : Less ≡ Equal = sym less.is ∙ sym is in cc

pub greater_not : (beyond : Bool) (pair target : List ℕ) → Greater ≡ slice_cmp nat_cmp pair target → IsPassed beyond pair target → ⊥
greater_not true pair target is passed = passed (greater_less pair target (sym is))
greater_not false pair target is passed = let never : Less ≡ Greater = sym passed.is ∙ sym is in cc
