-- Places in a block, by units.
use mathlib.Core.Path.{◌≡◌, refl, ap, ap₂}
use Prim.Native.Nat.{ℕ, ◌+◌}
use native.Mathlib.Omega.{arith}
use denote.RawPtr.{Ptr, block_ptr, null_ptr}
use Rattle.rss_frames.specs.Seated.{past}

pub past-past : (p : Ptr) (a b : ℕ) → past (past p a) b ≡ past p (a + b)
past-past (block_ptr b o) x y = ap (block_ptr b) (omega arith)
past-past null_ptr x y = refl

pub past_same : {p q : Ptr} {a b : ℕ} → p ≡ q → a ≡ b → past p a ≡ past q b
past_same e f = ap₂ past e f
