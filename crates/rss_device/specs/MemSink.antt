-- How a sink in memory was set up.
use Rattle.std.specs.Prelude.{ℕ, Option, Some}
use Rattle.rss_base.specs.Streams.{Stream}
use Rattle.rss_device.specs.declared.sink.MemSink.{MemSink}

-- how many bytes it takes a write at most, where that isn't 0
abbrev pub most_taken : MemSink → ℕ
most_taken sink = sink.at_most

-- the number of the write that fails, counted from 0 from here on
abbrev pub failing_write : MemSink → Option ℕ
failing_write sink = sink.writes_before_fault

-- it tells the bytes that it has taken
abbrev pub view_of : MemSink → Stream
view_of sink = record { bytes = Some sink.bytes.items; faults = sink.faults }
