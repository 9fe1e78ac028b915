-- Rows that lie in parts of a block, one after the other.
use Rattle.std.specs.Prelude.{◌≡◌, ℕ, ◌+◌, ◌*◌, ◌/◌, ◌<◌, Vec}
use denote.RawPtr.{Ptr, ◌+ₚ◌}
use Rattle.std_alloc.specs.Vec.{vec_capacity, vec_ptr}
use Rattle.std_alloc.specs.declared.vec.lodged.Lodged.{Lodged}
use Rattle.rss_frames.specs.declared.block.Seat.{Seat}

-- how many units of 16 bytes so many values of this size take
abbrev pub units_for : ℕ → ℕ → ℕ
units_for count size = (count * size + 15) / 16

-- how many units an order of so many frames takes
abbrev pub order_units : ℕ → ℕ
order_units room = units_for (room + 1) 4 + units_for (room + 1) 4

-- and a table with so many buckets but one
abbrev pub table_units : ℕ → ℕ → ℕ
table_units room mask = units_for room 12 + units_for (room + mask + 1) 4

-- how many units all rows of so many frames take
abbrev pub units_of : ℕ → ℕ → ℕ
units_of frames mask = table_units frames mask + order_units frames + order_units frames + units_for frames 4096 + units_for frames 1

-- so many units on
abbrev pub past : Ptr → ℕ → Ptr
past p units = p +ₚ units * 16

-- room for so many values from here on is the seat's
pub record Sits {X : Type 0} (row : Ptr) (cap : ℕ) (seat : Seat X) : Type 0 where
  pub some : 0 < seat.count
  pub at : row ≡ seat.ptr
  pub room : cap ≡ seat.count

abbrev pub IsSeated : {X : Type 0} → Vec X Lodged → Seat X → Type 0
IsSeated row seat = Sits (vec_ptr row) (vec_capacity row) seat

-- one seat comes after the other
abbrev pub AreNext : {X Y : Type 0} → Seat X → Seat Y → Type 0
AreNext one other = other.ptr ≡ past one.ptr one.len

-- two rows, one after the other
abbrev pub AreSeated : {X Y : Type 0} → Vec X Lodged → Seat X → Vec Y Lodged → Seat Y → Type 0
AreSeated one one_seat other other_seat = IsSeated one one_seat × IsSeated other other_seat × AreNext one_seat other_seat
