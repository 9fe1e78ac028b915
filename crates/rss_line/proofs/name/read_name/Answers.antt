use Rattle.std.proofs.Common.{◌∙◌, ap, sym, Some}
use Rattle.std.proofs.lemmas.Bool.{false≢true}
use Rattle.rss_line.proofs.NameTexts.{name_from, name_text_of, same_name}
use Rattle.rss_line.proofs.name.read_name.Goals as goal

pub returns-then-is_name_text : goal.returns-then-is_name_text
returns-then-is_name_text c =
    let word = c.args.word.now in
    record {
      some = name_from word c.padded.result (c.is_name_text.ensures.0 c.if-is_name_text.true) c.padded.ensures;
      all = λ name is. ap Some (same_name c.padded.result name (c.padded.ensures ∙ sym (name_text_of word name is).1));
    }

pub returns-else-is_name_text : goal.returns-else-is_name_text
returns-else-is_name_text c = record {
  some = tt;
  all = λ name is. absurd (false≢true (sym c.if-is_name_text.false ∙ c.is_name_text.ensures.1 (name_text_of c.args.word.now name is).0));
}
