use Rattle.std.proofs.Common.{◌≡◌, ◌++◌, List, ℕ, Ok, sym, subst}
use Rattle.rss_model.specs.Spellings.{doubled}
use Rattle.rss_line.specs.Reads.{ReadsByte}
use Rattle.rss_line.proofs.ValueTexts.{text_more}
use Rattle.rss_line.proofs.reader.Reader.text_of_bytes.Goals as goal

pub loop-text-preserved : goal.loop-text-preserved
loop-text-preserved c =
    let old = c.args.self.now in
    let new = c.text_byte.new.self in
    let read = subst (λ o. ReadsByte c.loop-text.self new (Ok o)) c.in-Some.is c.in_ok-byte.ensures in
    subst (λ (text : List ℕ). old ≡ doubled text ++ new) (sym c.in_ok-push.ensures.ok)
    (text_more old c.loop-text.self new c.loop-text.text c.in-Some.byte c.loop-text.invariant read)
