-- What there is to see of a text.
use Rattle.std.specs.Prelude.{[], take, Some}
use Rattle.rss_base.specs.Streams.{Stream}
use Rattle.rss_c.specs.declared.text.RssText.{RssText}

abbrev pub text_view : RssText → Stream
text_view text = record { bytes = Some (take text.length text.bytes); faults = text.faults }

-- with nothing written
abbrev pub empty_text : Stream
empty_text = record { bytes = Some []; faults = 0 }
