use Rattle.std.proofs.Common.{◌∙◌, sym, refl}
use Rattle.rss_catalog.proofs.Spelled.{fields_none, field_read}
use Rattle.rss_catalog.proofs.decoding.read_fields.Goals as goal

pub loop-place-init : goal.loop-place-init
loop-place-init c = c.in_ok-fields.ensures ∙ sym (fields_none c.args.originals c.args.bytes.now)

pub loop-place-preserved : goal.loop-place-preserved
loop-place-preserved c = field_read c.args.originals c.loop-place.place _ c.args.bytes.now _ _ _ c.loop-place.invariant c.in_ok-push.ensures.ok refl c.read_field.ensures
