use Rattle.std.proofs.Common.{rules, ◌∷◌, [], take, get_or, refl, arith, vec_len, vec_capacity}
use Rattle.rss_model.specs.Spellings.{doubled}
use Rattle.rss_line.proofs.Pieces.{on_err, full_from, piece_fits, piece_said, doubled-append}
use Rattle.rss_line.proofs.value_text.append_doubled.Goals as goal

pub returns-in_err-append_escaped : goal.returns-in_err-append_escaped
returns-in_err-append_escaped c = record {
  ok = search rules;
  full = on_err c.from_residual.result (
      let i = c.loop-byte.byte-index in
      full_from c.args.into.now.items c.loop-byte.into.items (doubled (take i c.args.text.now)) (doubled ((get_or c.args.text.now i 0) ∷ [])) (doubled c.args.text.now)
      (vec_capacity c.args.into.now) (vec_capacity c.loop-byte.into) (vec_len c.args.into.now) (vec_len c.loop-byte.into)
      c.args.into.now.ok.0 c.loop-byte.into.ok.0 c.loop-byte.invariant.said c.loop-byte.invariant.room c.in_err-append_escaped.ensures.full
      (piece_fits doubled doubled-append c.args.text.now i (get_or c.args.text.now i 0) 0 refl (omega arith)));
  capacity = search rules;
}

pub loop-byte-preserved : goal.loop-byte-preserved
loop-byte-preserved c = let i = c.loop-byte.byte-index in record {
  said = piece_said doubled doubled-append c.args.text.now i (get_or c.args.text.now i 0) 0 refl (omega arith)
      c.args.into.now.items c.loop-byte.into.items c.append_escaped.new.into.items c.loop-byte.invariant.said c.in_ok-append_escaped.ensures.ok;
  room = omega arith;
}
