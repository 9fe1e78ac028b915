-- Calls that fail on purpose.
use Rattle.std.specs.Prelude.{ℕ, zero, suc, Option, Some, None}

-- the number of the call that fails, once one more call was made: the calls after it don't fail
abbrev pub after_call : Option ℕ → Option ℕ
after_call None = None
after_call (Some zero) = None
after_call (Some (suc calls)) = Some calls
