-- Which transactions hold locks in the tests.
use Rattle.std.specs.Prelude.{◌≡◌, ℕ, ◌<◌, Some}
use Rattle.rss_base.specs.declared.item.Item.{Item}
use Rattle.rss_base.specs.declared.need.Mode.{Mode}
use Rattle.rss_model.specs.Locks.{Locks, held}

-- all that hold something have numbers below 32
abbrev pub HeldBelow : Locks → Type 0
HeldBelow locks = (u : ℕ) (item : Item) (mode : Mode) → held locks u item ≡ Some mode → u < 32
