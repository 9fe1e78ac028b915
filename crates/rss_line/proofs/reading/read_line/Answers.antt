use Rattle.std.proofs.Common.{◌∙◌, List, ℕ, Ok, ap, sym, subst}
use Rattle.std.proofs.lemmas.Bool.{false≢true}
use Rattle.rss_base.specs.declared.call.Call.{Call}
use Rattle.rss_model.specs.Forms.{IsEmpty, IsWords, IsStatement, Spells}
use Rattle.rss_line.specs.Reads.{ReadsWords}
use Rattle.rss_line.specs.declared.reading.Line.TheVariants.{Call as CallLine}
use Rattle.rss_line.proofs.Lines.{blank_no_call, ok_same, no_line, spelled_line, call_same}
use Rattle.rss_line.proofs.reading.read_line.Goals as goal

pub returns-then-is_empty-clause-only : goal.returns-then-is_empty-clause-only
returns-then-is_empty-clause-only c = λ bind call spells. absurd (blank_no_call (subst IsEmpty c.new-reader.ensures (c.is_empty.ensures.0 c.if-is_empty.true)) spells)

pub returns-in_err-bind-clause-words : goal.returns-in_err-bind-clause-words
returns-in_err-bind-clause-words c = λ was. subst (IsWords c.args.names.now.variables) c.new-reader.ensures
    (no_line c.from_residual.result (λ empty. false≢true (sym c.if-is_empty.false ∙ c.is_empty.ensures.1 empty)) c.in_err-bind.ensures c.from_residual.ensures.1 was)

pub returns-clause-call : goal.returns-clause-call
returns-clause-call c = λ bind call is.
    let reads = subst (λ (l : List ℕ). ReadsWords (IsStatement c.args.names.now.variables) l (Ok (c.in_ok-bind.bind, c.in_ok-bind.call))) c.new-reader.ensures c.in_ok-bind.ensures in
    let same = call_same (ok_same is) in
    subst (λ (made : Call). Spells c.args.names.now.variables c.args.line.now bind made) same.1
    (subst (λ v. Spells c.args.names.now.variables c.args.line.now v c.in_ok-bind.call) same.0 (spelled_line c.if-line-gt-LINE_LIMIT.false reads))

pub returns-clause-only : goal.returns-clause-only
returns-clause-only c = λ bind call spells.
    let reads = subst (λ (l : List ℕ). ReadsWords (IsStatement c.args.names.now.variables) l (Ok (c.in_ok-bind.bind, c.in_ok-bind.call))) c.new-reader.ensures c.in_ok-bind.ensures in
    ap (λ x. CallLine x.0 x.1) (reads.all spells.words (bind, call) spells.spaced spells.says).0
