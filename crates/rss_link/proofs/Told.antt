-- A body that is only known to be there.
use Rattle.std.proofs.Common.{◌≡◌, Option, Some, ap}
use Rattle.std.specs.Prelude.{IsSome, is_some}
use Rattle.std.proofs.Math.Bool.{Bool-set}
use Rattle.std.proofs.Math.Logic.{∥∥₁_elim}

pub live_by : {W A : Type 0} (o : Option A) (body : W → A) → ((w : W) → o ≡ Some (body w)) → ∥ W ∥₁ → IsSome o
live_by o body there told = ∥∥₁_elim told (Bool-set _ _) (λ w. ap is_some (there w))
