-- How a source in memory was set up.
use Rattle.std.specs.Prelude.{ℕ, List, Option, Some}
use Rattle.rss_base.specs.Streams.{Stream}
use Rattle.rss_device.specs.declared.source.MemSource.{MemSource}

-- how many bytes it gives a read at most, where that isn't 0
abbrev pub piece_of : MemSource → ℕ
piece_of source = source.piece

-- the number of the read that fails, counted from 0 from here on
abbrev pub failing_read : MemSource → Option ℕ
failing_read source = source.reads_before_fault

-- the bytes that are left
abbrev pub bytes_left : MemSource → List ℕ
bytes_left source = source.left.now

-- it tells them
abbrev pub view_of : MemSource → Stream
view_of source = record { bytes = Some (bytes_left source); faults = source.faults }
