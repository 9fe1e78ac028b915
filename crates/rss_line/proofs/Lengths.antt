-- How many bytes a text has.
use Rattle.std.proofs.Common.{◌≡◌, ◌∙◌, ℕ, ◌+◌, ◌<◌, ◌≤◌, true, false, List, [], ◌∷◌, ◌++◌, length, Option, Some, None, Result, Ok, Err, IsErrAnd, inl, inr, refl, ap, arith, append-nil, length-append}
use Rattle.std.specs.Prelude.{is_some}
use Rattle.std.proofs.lemmas.Bool.{cases_eq}
use Rattle.rss_model.specs.Spellings.{quote, doubled}
use Rattle.rss_line.specs.Reads.{ReadsByte, HasLength}
use Rattle.rss_line.specs.declared.fault.LineFault.{LineFault}
use Rattle.rss_line.specs.declared.fault.LineFault.TheVariants.{Words, NoMemory}
use Rattle.rss_line.proofs.Cuts.{at_quote, off_quote}
use Rattle.rss_line.proofs.ValueTexts.{text_more}

-- So many bytes of a text were counted of old, and the rest is left.
pub record Counts (old : List ℕ) (count : ℕ) (left : List ℕ) : Type 0 where
  pub text : List ℕ
  pub counted : old ≡ doubled text ++ left
  pub count_is : count ≡ length text
  pub within : count + length left ≤ length old

pub counts_none : (old : List ℕ) → Counts old 0 old
counts_none old = record { text = []; counted = refl; count_is = refl; within = omega arith }

-- a byte takes a byte of the line at least
pub byte_shorter : (b : ℕ) (mid new : List ℕ) → mid ≡ doubled (b ∷ []) ++ new → length new < length mid
byte_shorter b mid new read = elim (cases_eq b quote) [
  | inl at ↦ let long = ap length (read ∙ ap (λ l. l ++ new) (at_quote b [] at)) in omega (arith, long)
  | inr off ↦ let long = ap length (read ∙ ap (λ l. l ++ new) (off_quote b [] off)) in omega (arith, long)
]

module _ {old mid : List ℕ} {count : ℕ} (counts : Counts old count mid) (new : List ℕ) where
  pub counts_more : (byte : Option ℕ) → ReadsByte mid new (Ok byte) → true ≡ is_some byte → Counts old (count + 1) new
  counts_more None read is = absurd (cc)
  counts_more (Some b) read is = record {
    text = counts.text ++ b ∷ [];
    counted = text_more old mid new counts.text b counts.counted read;
    count_is = omega (arith, counts.count_is, length-append counts.text (b ∷ []));
    within = omega (arith, counts.within, byte_shorter b mid new read);
  }

  -- what is left grows shorter, and so the count stays below the line's length
  pub counts_less : (byte : Option ℕ) → ReadsByte mid new (Ok byte) → true ≡ is_some byte → length new < length mid
  counts_less None read is = absurd (cc)
  counts_less (Some b) read is = byte_shorter b mid new read

  pub counts_end : (byte : Option ℕ) → ReadsByte mid new (Ok byte) → false ≡ is_some byte → HasLength old (Ok count)
  counts_end (Some b) read is = absurd (cc)
  counts_end None read is = (counts.text, new, (counts.counted ∙ ap (λ l. doubled counts.text ++ l) read.0, read.1), counts.count_is)

  pub counts_stops : (fault : LineFault) (r : Result ℕ LineFault) → ReadsByte mid new (Err fault) → IsErrAnd r (λ why. why ≡ fault) → HasLength old r
  counts_stops fault (Ok n) over is = absurd is
  counts_stops Words (Err Words) over is = (counts.text, counts.counted ∙ ap (λ l. doubled counts.text ++ l) over ∙ append-nil (doubled counts.text))
  counts_stops Words (Err NoMemory) over is = tt
  counts_stops NoMemory (Err fault) over is = absurd over
