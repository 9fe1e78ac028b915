use Rattle.std.proofs.Common.{length, false, sym, ◌∙◌, ap, arith}
use Rattle.std.proofs.lemmas.List.{length-replicate}
use Rattle.rss_frames.specs.Keyed.{Keyed}
use Rattle.rss_frames.specs.Recency.{Recency}
use Rattle.rss_frames.proofs.Changes.{fresh}
use Rattle.rss_frames.proofs.Moves.{past_same}
use Rattle.rss_frames.proofs.Shown.{entries_none}
use Rattle.rss_frames.proofs.frames.Frames.laid.Goals as goal

pub invariant_of-result : goal.invariant_of-result
invariant_of-result c =
    let n = c.args.frames in let by = c.requires.lease in
    let t = c.new-table.ensures in let u = c.new-used.ensures in let f = c.all_free-free.ensures in
    let p = c.row_of-pages.ensures in let m = c.row_of-changed.ensures in
    let table_at = ap (λ (k : Keyed). k.start) t.table in let table_units = ap (λ (k : Keyed). k.units) t.table in
    let used_at = ap (λ (r : Recency). r.start) u.order in let used_units = ap (λ (r : Recency). r.units) u.order in (
      fresh _ c.new-used.result.0 c.all_free-free.result.0 _ _ n c.requires.some (ap (λ (k : Keyed). k.keys) t.table)
          (ap (λ (r : Recency). r.frames) u.order) (ap (λ (r : Recency). r.room) u.order) f.room f.all
          (ap length p.items ∙ length-replicate n _) (ap length m.items ∙ length-replicate n false),
      (p.seated, m.seated, m.at ∙ p.rest.0 ∙ past_same (sym p.at) (sym p.units)),
      record {
        begins = table_at ∙ sym by.0;
        used_next = used_at ∙ t.rest ∙ past_same (sym table_at) (sym table_units);
        free_next = f.at ∙ u.rest ∙ past_same (sym used_at) (sym used_units);
        pages_next = p.at ∙ f.rest ∙ past_same (sym f.at) (sym f.units);
        rest_next = m.rest.0 ∙ past_same (sym m.at) (sym m.units);
        whole = omega (
          arith,
          table_units,
          used_units,
          f.units,
          p.units,
          m.units,
          t.len,
          u.len,
          f.len,
          p.rest.1,
          m.rest.1,
          by.1,
        );
        small = omega (arith, c.requires.small, by.1);
        by = by.2;
      },
    )

pub returns : goal.returns
returns c = record {
  are = entries_none _ (ap (λ (r : Recency). r.frames) c.new-used.ensures.order);
  room_is = ap (λ (k : Keyed). length k.keys) c.new-table.ensures.table ∙ length-replicate c.args.frames _;
}
