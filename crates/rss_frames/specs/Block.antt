-- What the parts of a block own.
use Rattle.std.specs.Prelude.{ℕ}
use base.Fml.{Fml, fwand}
use mir.Syntax.{Ty, ty_int, ty_array, w128}
use mir.Raw.{raw}
use denote.RattleType.{RattleType}
use denote.Memory.{lone}
use denote.RawPtr.{Ptr, room_for}

-- the type that a block of so many units of 16 bytes is asked for as
abbrev pub units : ℕ → Ty
units k = raw (ty_array (ty_int w128) k)

-- room for so many units
abbrev pub part_owns : Ptr → ℕ → Fml
part_owns p k = room_for (units k) p

-- t's right to free the block
abbrev pub lease_owns : (Ty → Ptr → Fml) → Ptr → ℕ → Fml
lease_owns t p k = t (units k) p

-- the way back to the units from room for so many of a type
abbrev pub seat_owns : RattleType → Ptr → ℕ → ℕ → Fml
seat_owns R p k count = fwand (room_for (raw (ty_array (lone R.mir) count)) p) (room_for (units k) p)
