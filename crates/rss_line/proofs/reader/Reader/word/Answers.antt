use Rattle.std.proofs.Common.{◌∙◌, sym, subst, List, ℕ}
use Rattle.std.specs.Str.{IsUtf8}
use Rattle.std.proofs.lemmas.Str.{IsUtf8-from_ascii}
use Rattle.rss_model.specs.Script.{Begins}
use Rattle.rss_line.proofs.reader.Reader.word.Goals as goal

pub returns-in_default-clause-reads : goal.returns-in_default-clause-reads
returns-in_default-clause-reads c = record {
  ok = tt;
  all = λ word rest begins plain.
      let same = c.bytes.ensures.all word rest begins plain in
      c.in_default.ensures.cases.0 (subst IsUtf8 (sym same.0) (IsUtf8-from_ascii word plain.ascii));
}

pub returns-clause-reads : goal.returns-clause-reads
returns-clause-reads c = record {
  ok = subst (λ (w : List ℕ). Begins c.args.self.now w c.bytes.new.self) (sym c.in-Ok.ensures.cases.0) c.bytes.ensures.ok;
  all = λ word rest begins plain.
      let same = c.bytes.ensures.all word rest begins plain in
      (c.in-Ok.ensures.cases.0 ∙ same.0, same.1);
}
