-- Each name is put at the place of its entry.
use Rattle.std.proofs.Common.{◌∙◌, None, ap, sym, arith}
use Rattle.std.specs.Prelude.{map, option_map}
use Rattle.std.proofs.lemmas.List.{length-set, length-map, get_or-map, get_or_default}
use Rattle.rss_catalog.proofs.Tested.{put_more}
use Rattle.rss_catalog.proofs.checking.names_of.Goals as goal

pub loop-place-preserved : goal.loop-place-preserved
loop-place-preserved g c =
    let entries = c.args.entries.now in
    let name = option_map g.E.Entry.named in
    record {
      long = length-set c.loop-place.names _ _ ∙ c.loop-place.invariant.long;
      same = put_more c.loop-place.names (map name entries) c.loop-place.place _ None (omega (arith, c.loop-place.invariant.long, c.loop-place-test.true)) (omega (arith, length-map entries name, c.loop-place-test.true)) c.loop-place.invariant.same
          (c.name_of.ensures ∙ ap name (c.index-entries-place.is ∙ get_or_default entries c.loop-place.place c.index-entries-place.result None c.loop-place-test.true) ∙ sym (get_or-map name entries c.loop-place.place None None c.loop-place-test.true));
    }
