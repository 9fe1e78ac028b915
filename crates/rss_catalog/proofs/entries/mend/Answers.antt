-- One more is put in its place.
use Rattle.std.proofs.Common.{◌∙◌, None, ap, sym, arith}
use Rattle.std.specs.Prelude.{map, option_map}
use Rattle.std.proofs.lemmas.List.{length-set, length-map, get_or-map, get_or_default, get_or-set_other}
use Rattle.rss_catalog.proofs.Tested.{put_more}
use Rattle.rss_catalog.proofs.entries.mend.Goals as goal

pub loop-place-preserved : goal.loop-place-preserved
loop-place-preserved g c =
    let old = c.args.entries.now in
    let f = option_map g.E.Placed.mended in
    let low = c.loop-place-test.true in
    record {
      long = length-set c.loop-place.entries _ _ ∙ c.loop-place.invariant.long;
      same = put_more c.loop-place.entries (map f old) c.loop-place.place _ None (omega (arith, c.loop-place.invariant.long, low)) (omega (arith, length-map old f, low)) c.loop-place.invariant.same
          (c.mended.ensures ∙ ap f (c.index-entries-place.is ∙ get_or_default c.loop-place.entries c.loop-place.place c.index-entries-place.result None (omega (arith, c.loop-place.invariant.long, low)) ∙ c.loop-place.invariant.rest c.loop-place.place (omega arith)) ∙ sym (get_or-map f old c.loop-place.place None None (omega (arith, low))));
      rest = λ k past. get_or-set_other c.loop-place.entries c.loop-place.place k _ None (λ same. omega (arith, same, past)) ∙ c.loop-place.invariant.rest k (omega (arith, past));
    }
