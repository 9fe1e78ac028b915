use Rattle.std.proofs.Common.{◌∙◌, ap, sym, refl}
use Rattle.std.specs.Prelude.{map}
use Rattle.rss_catalog.specs.Reading.{segment_of}
use Rattle.rss_catalog.proofs.Pieces.{pieces_none, piece_read}
use Rattle.rss_catalog.proofs.decoding.read_segments.Goals as goal

pub loop-place-init : goal.loop-place-init
loop-place-init c = c.in_ok-segments.ensures.items ∙ sym (ap (map segment_of) (pieces_none 16 c.args.page.now))

pub loop-place-preserved : goal.loop-place-preserved
loop-place-preserved c = piece_read segment_of 16 c.loop-place.place _ c.args.page.now _ _ _ c.loop-place.invariant c.in_ok-push.ensures.items refl c.read_segment.ensures
