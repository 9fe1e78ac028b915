-- How the rows of frames lie in their block.
use Rattle.std.specs.Prelude.{◌≡◌, ℕ, ◌+◌, ◌*◌, ◌^◌, ◌<◌, Bool, List}
use denote.RawPtr.{Ptr}
use Rattle.rss_frames.specs.declared.block.Part.{Part}
use Rattle.rss_frames.specs.declared.block.Seat.{Seat}
use Rattle.rss_frames.specs.declared.block.Lease.{Lease}
use Rattle.rss_frames.specs.Seated.{past}

-- so many units from here on
abbrev pub Span : Type 0
Span = Ptr × ℕ

abbrev pub end_of : Span → Ptr
end_of s = past s.0 s.1

-- The table, both orders, the bytes, the marks and the rest come one after the other in the block that this allocator lent. They are all of it.
pub record FillsBlock {A : Type 0} (table used free : Span) (pages : Seat (List ℕ)) (marks : Seat Bool) (rest : Part) (lease : Lease A) (alloc : A) : Type 0 where
  pub begins : table.0 ≡ lease.ptr
  pub used_next : used.0 ≡ end_of table
  pub free_next : free.0 ≡ end_of used
  pub pages_next : pages.ptr ≡ end_of free
  pub rest_next : rest.ptr ≡ past marks.ptr marks.len
  pub whole : table.1 + (used.1 + (free.1 + (pages.len + (marks.len + rest.len)))) ≡ lease.len
  pub small : lease.len * 16 < 2 ^ 63
  pub by : lease.alloc ≡ alloc
