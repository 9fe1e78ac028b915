-- Fields that are made original ones, one behind the other.
use Rattle.std.proofs.Common.{◌≡◌, ℕ, suc, ◌<◌, ◌≤◌, List, [], ◌∷◌, length, map, get_or, refl, arith}
use Rattle.rss_base.specs.declared.field.FieldDef.{FieldDef}
use Rattle.rss_base.specs.TupleTypes.{as_original}

-- those below this place are, and the others are as they were
pub record AreOriginal (old new : List FieldDef) (end : ℕ) : Type 0 where
  pub done : (k : ℕ) (d : FieldDef) → k < end → get_or new k d ≡ as_original (get_or old k d)
  pub others : (k : ℕ) (d : FieldDef) → end ≤ k → get_or new k d ≡ get_or old k d

-- so are all
pub all_original : (old new : List FieldDef) → length new ≡ length old → ((k : ℕ) (d : FieldDef) → k < length old → get_or new k d ≡ as_original (get_or old k d)) → new ≡ map as_original old
all_original [] [] long each = refl
all_original [] (n ∷ ns) long each = absurd (omega arith)
all_original (o ∷ os) [] long each = absurd (omega arith)
all_original (o ∷ os) (n ∷ ns) long each =
    let here : n ≡ as_original o = each 0 o (omega arith) in
    let rest = all_original os ns (omega arith) (λ k d below. each (suc k) d (omega arith)) in
    λ i. here i ∷ rest i
