use Rattle.std.proofs.Common.{rules, ◌∷◌, [], take, get_or, refl, arith, vec_len, vec_capacity}
use Rattle.rss_line.specs.Words.{with_words}
use Rattle.rss_line.proofs.Pieces.{on_err, full_from, piece_fits, piece_said, words-append}
use Rattle.rss_line.proofs.word.append_words.Goals as goal

pub returns-in_err-append_word : goal.returns-in_err-append_word
returns-in_err-append_word c = record {
  ok = search rules;
  full = on_err c.from_residual.result (
      let i = c.loop-word.word-index in
      full_from c.args.into.now.items c.loop-word.into.items (with_words [] (take i c.args.words.now)) (with_words [] (get_or c.args.words.now i _ ∷ [])) (with_words [] c.args.words.now)
      (vec_capacity c.args.into.now) (vec_capacity c.loop-word.into) (vec_len c.args.into.now) (vec_len c.loop-word.into)
      c.args.into.now.ok.0 c.loop-word.into.ok.0 c.loop-word.invariant.said c.loop-word.invariant.room c.in_err-append_word.ensures.full
      (piece_fits (with_words []) words-append c.args.words.now i (get_or c.args.words.now i _) _ refl (omega arith)));
  capacity = search rules;
}

pub loop-word-preserved : goal.loop-word-preserved
loop-word-preserved c = let i = c.loop-word.word-index in record {
  said = piece_said (with_words []) words-append c.args.words.now i (get_or c.args.words.now i _) _ refl (omega arith)
      c.args.into.now.items c.loop-word.into.items c.append_word.new.into.items c.loop-word.invariant.said c.in_ok-append_word.ensures.ok;
  room = omega arith;
}
