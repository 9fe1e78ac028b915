-- Lists of entries in which no key is repeated.
use Rattle.std.proofs.Common.{◌≡◌, ◌≤◌, List, [], ◌∷◌, length, refl, arith}
use Rattle.std.specs.Prelude.{None, map as list_map}
use Rattle.rss_model.specs.Images.{Entry, repeated}

-- one at most
pub alone : {A : Type 0} (list : List (Entry × A)) → length list ≤ 1 → repeated (list_map (λ e. e.0) list) ≡ None
alone [] few = refl
alone (e ∷ []) few = refl
alone (e ∷ f ∷ list) few = absurd (omega (arith, few))
