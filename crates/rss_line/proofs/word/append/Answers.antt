use Rattle.std.proofs.Common.{rules, ◌∙◌, [], ◌++◌, length, ap, sym, arith, append_assoc, length-append}
use Rattle.rss_line.specs.Words.{with_words}
use Rattle.rss_line.proofs.Pieces.{on_err, words_behind}
use Rattle.rss_line.proofs.word.append.Goals as goal

pub returns-in_err-append_bytes : goal.returns-in_err-append_bytes
returns-in_err-append_bytes c = record {
  ok = search rules;
  full = on_err c.from_residual.result (
      let behind = words_behind c.args.text.now c.args.words.now in
      omega (arith, c.in_err-append_bytes.ensures.full, c.as_bytes.ensures.len, ap length c.as_bytes.ensures.value, ap length behind, length-append c.args.text.now (with_words [] c.args.words.now)));
  capacity = search rules;
}

pub returns-in_err-append_words : goal.returns-in_err-append_words
returns-in_err-append_words c = record {
  ok = search rules;
  full = on_err c.from_residual-in_err-append_words.result (
      let behind = words_behind c.args.text.now c.args.words.now in
      let said = c.in_ok-append_bytes.ensures.ok in
      omega (
        arith,
        c.in_err-append_words.ensures.full,
        c.append_bytes.ensures.capacity,
        c.args.into.now.ok.0,
        c.append_bytes.new.into.ok.0,
        ap length said,
        ap length c.as_bytes.ensures.value,
        length-append c.args.into.now.items c.as_bytes.result.now,
        ap length behind,
        length-append c.args.text.now (with_words [] c.args.words.now),
      ));
  capacity = search rules;
}

pub returns : goal.returns
returns c = record {
  ok = c.in_ok-append_words.ensures.ok
      ∙ (ap (λ l. l ++ with_words [] c.args.words.now) (c.in_ok-append_bytes.ensures.ok ∙ ap (λ l. c.args.into.now.items ++ l) c.as_bytes.ensures.value)
      ∙ (append_assoc c.args.into.now.items c.args.text.now (with_words [] c.args.words.now) ∙ ap (λ l. c.args.into.now.items ++ l) (sym (words_behind c.args.text.now c.args.words.now))));
  full = search rules;
  capacity = search rules;
}
