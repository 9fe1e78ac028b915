-- How the state of the draws is moved on.
use Rattle.std.specs.Prelude.{ℕ, ◌+◌, ◌*◌, ◌%◌, ◌^◌}

-- by a multiplication and an addition
abbrev pub moved : ℕ → ℕ → ℕ → ℕ
moved factor addend state = (state * factor % 2 ^ 64 + addend) % 2 ^ 64
