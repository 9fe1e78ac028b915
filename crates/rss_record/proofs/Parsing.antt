-- What bytes spell, as they grow and as their front goes.
use Rattle.std.proofs.Common.{◌≡◌, ℕ, ◌+◌, ◌-◌, ◌<◌, List, [], ◌∷◌, ◌++◌, length, drop, append_assoc, append-nil, refl, sym, ◌∙◌, ap, subst, arith}
use Rattle.std.proofs.lemmas.List.{length-append}
use Rattle.std.proofs.Math.Seq.{drop-append_seam}
use Rattle.rss_base.specs.declared.change.Change.TheVariants.{Insert, Delete, Update, Connect, Disconnect}
use Rattle.rss_base.specs.declared.log_record.LogRecord.{LogRecord}
use Rattle.rss_base.specs.declared.log_record.LogRecord.TheVariants as records
use Rattle.rss_base.specs.LogRecords.{record_bytes, record_size, IsSpellable, Placed, spelled, ArePlaced, Parses}
use Rattle.rss_record.proofs.Records.{one_front}

pub some_bytes : (r : LogRecord) → 0 < record_size r
some_bytes (records.Change by (Insert relation tid values)) = omega arith
some_bytes (records.Change by (Delete relation tid values)) = omega arith
some_bytes (records.Change by (Update relation tid old new)) = omega arith
some_bytes (records.Change by (Connect link parent child left)) = omega arith
some_bytes (records.Change by (Disconnect link parent child left)) = omega arith
some_bytes (records.Restore by position) = omega arith
some_bytes (records.End by) = omega arith
some_bytes (records.Abort by) = omega arith
some_bytes (records.Checkpoint marks) = omega arith

-- ---- more records

pub spelled-append : (ps qs : List Placed) → spelled (ps ++ qs) ≡ spelled ps ++ spelled qs
spelled-append [] qs = refl
spelled-append (p ∷ ps) qs = ap (λ (l : List ℕ). record_bytes p.is ++ l) (spelled-append ps qs) ∙ sym (append_assoc (record_bytes p.is) (spelled ps) (spelled qs))

pub placed_append : (from mid until : ℕ) (ps qs : List Placed) → ArePlaced from ps mid → ArePlaced mid qs until → ArePlaced from (ps ++ qs) until
placed_append from mid until [] qs front back = subst (λ (n : ℕ). ArePlaced n qs until) (sym front) back
placed_append from mid until (p ∷ ps) qs front back = (front.0, front.1, placed_append (from + record_size p.is) mid until ps qs front.2 back)

pub parses_append : {xs ys : List ℕ} {from mid until : ℕ} {ps qs : List Placed} → Parses xs from ps mid → Parses ys mid qs until → Parses (xs ++ ys) from (ps ++ qs) until
parses_append {from = from} {mid = mid} {until = until} {ps = ps} {qs = qs} front back = record {
  spells = (λ i. front.spells i ++ back.spells i) ∙ sym (spelled-append ps qs);
  placed = placed_append from mid until ps qs front.placed back.placed;
}

-- one record
pub parses_one : (at : ℕ) (r : LogRecord) → IsSpellable r → Parses (record_bytes r) at (record { at = at; is = r } ∷ []) (at + record_size r)
parses_one at r formed = record { spells = sym (append-nil (record_bytes r)); placed = (refl, formed, refl) }

-- ---- positions

pub placed_length : (from until : ℕ) (ps : List Placed) → ArePlaced from ps until → until ≡ from + length (spelled ps)
placed_length from until [] placed = omega arith
placed_length from until (p ∷ ps) placed = omega (arith, placed_length (from + record_size p.is) until ps placed.2, length-append (record_bytes p.is) (spelled ps))

pub parses_length : {bytes : List ℕ} {from until : ℕ} {ps : List Placed} → Parses bytes from ps until → until ≡ from + length bytes
parses_length {from = from} {until = until} {ps = ps} is = placed_length from until ps is.placed ∙ ap (λ (l : List ℕ). from + length l) (sym is.spells)

-- ---- a front goes

-- the position between the two
pub placed_split : (from until : ℕ) (ps qs : List Placed) → ArePlaced from (ps ++ qs) until → (mid : ℕ) × (ArePlaced from ps mid × ArePlaced mid qs until)
placed_split from until [] qs placed = (from, (refl, placed))
placed_split from until (p ∷ ps) qs placed =
    let rest : (mid : ℕ) × (ArePlaced (from + record_size p.is) ps mid × ArePlaced mid qs until) = placed_split (from + record_size p.is) until ps qs placed.2 in
    (rest.0, ((placed.0, placed.1, rest.1.0), rest.1.1))

pub parses_drop : {bytes : List ℕ} {from until : ℕ} (mid : ℕ) (ps qs : List Placed) → Parses bytes from (ps ++ qs) until → ArePlaced from ps mid → ArePlaced mid qs until → Parses (drop (mid - from) bytes) mid qs until
parses_drop {bytes = bytes} {from = from} mid ps qs is front back =
    let at : mid - from ≡ length (spelled ps) = omega (arith, placed_length from mid ps front) in
    record {
      spells = (λ i. drop (at i) ((is.spells ∙ spelled-append ps qs) i)) ∙ drop-append_seam (spelled ps) (spelled qs);
      placed = back;
    }

-- ---- the same bytes spell the same records

nonempty : (r : LogRecord) (xs : List ℕ) → [] ≡ record_bytes r ++ xs → ⊥
nonempty r xs e = omega (arith, some_bytes r, length-append (record_bytes r) xs, ap length e)

spelled_once : (from until until_too : ℕ) (ps qs : List Placed) → ArePlaced from ps until → ArePlaced from qs until_too → spelled ps ≡ spelled qs → ps ≡ qs
spelled_once from until until_too [] [] first second e = refl
spelled_once from until until_too [] (q ∷ qs) first second e = absurd (nonempty q.is (spelled qs) e)
spelled_once from until until_too (p ∷ ps) [] first second e = absurd (nonempty p.is (spelled ps) (sym e))
spelled_once from until until_too (p ∷ ps) (q ∷ qs) first second e =
    let parts : (p.is ≡ q.is) × (spelled ps ≡ spelled qs) = one_front p.is q.is (spelled ps) (spelled qs) first.1 second.1 e in
    let rest : ps ≡ qs = spelled_once (from + record_size p.is) until until_too ps qs first.2 (subst (λ (r : LogRecord). ArePlaced (from + record_size r) qs until_too) (sym parts.0) second.2) parts.1 in
    λ i. record { at = (first.0 ∙ sym second.0) i; is = parts.0 i } ∷ rest i

pub parses_once : {bytes : List ℕ} {from until until_too : ℕ} {ps qs : List Placed} → Parses bytes from ps until → Parses bytes from qs until_too → ps ≡ qs
parses_once {from = from} {until = until} {until_too = until_too} {ps = ps} {qs = qs} first second = spelled_once from until until_too ps qs first.placed second.placed (sym first.spells ∙ second.spells)

-- a position parts the records in one way
pub split_once : (from mid : ℕ) (xs ys zs ws : List Placed) → ArePlaced from xs mid → ArePlaced from zs mid → xs ++ ys ≡ zs ++ ws → (xs ≡ zs) × (ys ≡ ws)
split_once from mid [] ys [] ws first second e = (refl, e)
split_once from mid [] ys (z ∷ zs) ws first second e = absurd (omega (arith, first, placed_length (from + record_size z.is) mid zs second.2, some_bytes z.is))
split_once from mid (x ∷ xs) ys [] ws first second e = absurd (omega (arith, second, placed_length (from + record_size x.is) mid xs first.2, some_bytes x.is))
split_once from mid (x ∷ xs) ys (z ∷ zs) ws first second e =
    let same : x ≡ z = cc (e) in
    let rest : xs ++ ys ≡ zs ++ ws = cc (e) in
    let parts : (xs ≡ zs) × (ys ≡ ws) = split_once (from + record_size x.is) mid xs ys zs ws first.2 (subst (λ (p : Placed). ArePlaced (from + record_size p.is) zs mid) (sym same) second.2) rest in
    ((λ i. same i ∷ parts.0 i), parts.1)
