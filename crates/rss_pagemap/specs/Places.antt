-- Where a map is out of form.
use Rattle.std.specs.Prelude.{ℕ, ◌≤◌}
use Rattle.rss_base.specs.declared.place.Place.{Place}
use Rattle.rss_base.specs.declared.place.Place.TheVariants.{Slot}

-- a slot, or the place behind the last one
abbrev pub IsSlotPlace : ℕ → Place → Type 0
IsSlotPlace slots (Slot slot) = slot ≤ slots
IsSlotPlace slots place = ⊥
