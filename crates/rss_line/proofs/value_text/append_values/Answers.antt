use Rattle.std.proofs.Common.{rules, ◌∷◌, [], take, arith, vec_len, vec_capacity}
use Rattle.rss_model.specs.ReplyText.{values_text}
use Rattle.rss_line.proofs.Pieces.{on_err, full_from, piece_fits, piece_said, values_text-append}
use Rattle.rss_line.proofs.value_text.append_values.Goals as goal

pub returns-in_err-append_value : goal.returns-in_err-append_value
returns-in_err-append_value c = record {
  ok = search rules;
  full = on_err c.from_residual.result (
      let i = c.loop-value.value-index in
      full_from c.args.into.now.items c.loop-value.into.items (values_text (take i c.args.values.now)) (values_text (c.value-item.result ∷ [])) (values_text c.args.values.now)
      (vec_capacity c.args.into.now) (vec_capacity c.loop-value.into) (vec_len c.args.into.now) (vec_len c.loop-value.into)
      c.args.into.now.ok.0 c.loop-value.into.ok.0 c.loop-value.invariant.said c.loop-value.invariant.room c.in_err-append_value.ensures.full
      (piece_fits values_text values_text-append c.args.values.now i c.value-item.result c.value-item.result c.value-item.is (omega arith)));
  capacity = search rules;
}

pub loop-value-preserved : goal.loop-value-preserved
loop-value-preserved c = let i = c.loop-value.value-index in record {
  said = piece_said values_text values_text-append c.args.values.now i c.value-item.result c.value-item.result c.value-item.is (omega arith)
      c.args.into.now.items c.loop-value.into.items c.append_value.new.into.items c.loop-value.invariant.said c.in_ok-append_value.ensures.ok;
  room = omega arith;
}
