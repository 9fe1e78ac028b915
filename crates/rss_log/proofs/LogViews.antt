-- The log by its fields, and its bytes by their positions.
use Rattle.std.proofs.Common.{◌≡◌, ℕ, ◌+◌, ◌-◌, ◌*◌, ◌/◌, ◌%◌, ◌<◌, ◌≤◌, List, [], ◌∷◌, ◌++◌, length, take, drop, append_assoc, inl, inr, ◌⊎◌, refl, sym, ◌∙◌, ap, subst, drop-drop, arith}
use Rattle.std.specs.Prelude.{min}
use Rattle.std.proofs.Math.Seq.{take-append-add}
use Rattle.std.proofs.lemmas.Bool.{cases_lt}
use Rattle.std.proofs.lemmas.List.{length-append, take-append-drop, drop-append-le, drop_at, take_at}
use Rattle.std.specs.Global.{Vec}
use Rattle.std.specs.Vec.{with_items}
use Rattle.rss_base.specs.Sizes.{piece_bytes}
use Rattle.rss_base.specs.declared.log_record.LogRecord.{LogRecord}
use Rattle.rss_base.specs.LogRecords.{record_bytes, record_size, longest_record, Placed, spelled, ArePlaced, Parses, IsSpellable, BeginsWith}
use Rattle.rss_record.proofs.Records.{record_most}
use Rattle.rss_log.specs.Rings.{ring_bytes, IsPut}
use Rattle.rss_log.specs.Logs.{LogView, IsRing, IsLog, piece_start, free_of, bytes_from, piece_of, tail_of, HasRecords, with_bytes, with_head}
use Rattle.rss_log.specs.Inside.{view_of, log_view, IsInside}
use Rattle.rss_log.specs.declared.log.Log.TheInside.{Inside}
use Rattle.rss_log.proofs.RingBytes.{length-ring_bytes, drop-ring_bytes, take-ring_bytes, written_behind}
use Rattle.rss_record.proofs.Parsing.{placed_length, placed_split, parses_append, parses_one, parses_drop}

pub is_log_of : (pages head end : ℕ) (ring : List ℕ) → IsRing pages head end → IsLog (view_of pages head end ring)
is_log_of pages head end ring is = record { ring = is; long = length-ring_bytes ring (piece_start head) (end - piece_start head) }

pub is_log : (log : Inside) → IsInside log → IsLog (log_view log)
is_log log is = is_log_of log.pages log.head log.end log.ring.items is.ring

-- the bytes from a position on, in the ring
pub bytes_at : (log : Inside) (position : ℕ) → piece_start log.head ≤ position → position ≤ log.end → bytes_from (log_view log) position ≡ ring_bytes log.ring.items position (log.end - position)
bytes_at log position low high =
    drop-ring_bytes log.ring.items (piece_start log.head) position (log.end - piece_start log.head) low (omega arith)
    ∙ ap (ring_bytes log.ring.items position) (omega arith)

pub length-bytes_from : (log : Inside) (position : ℕ) → piece_start log.head ≤ position → position ≤ log.end → length (bytes_from (log_view log) position) ≡ log.end - position
length-bytes_from log position low high = ap length (bytes_at log position low high) ∙ length-ring_bytes log.ring.items position (log.end - position)

pub long_enough : (all n : ℕ) → n ≡ min all 4400 → (all ≤ n) ⊎ (longest_record ≤ n)
long_enough all n is = elim (cases_lt n longest_record) [ inl lt ↦ inl (omega arith) | inr le ↦ inr le ]

pub piece_in : (log : Inside) (number : ℕ) → log.head / piece_bytes ≤ number → number < log.end / piece_bytes → piece_of (log_view log) number ≡ ring_bytes log.ring.items (number * piece_bytes) piece_bytes
piece_in log number low high =
    ap (take piece_bytes) (bytes_at log (number * piece_bytes) (omega arith) (omega arith))
    ∙ take-ring_bytes log.ring.items (number * piece_bytes) piece_bytes (log.end - number * piece_bytes) (omega arith)

pub tail_of_ring : (pages head end : ℕ) (ring : List ℕ) → head ≤ end → tail_of (view_of pages head end ring) ≡ ring_bytes ring (end - end % piece_bytes) (end % piece_bytes)
tail_of_ring pages head end ring order =
    let at : piece_start end ≡ end - end % piece_bytes = omega arith in
    let size : piece_start head + (end - piece_start head) - piece_start end ≡ end % piece_bytes = omega arith in
    drop-ring_bytes ring (piece_start head) (piece_start end) (end - piece_start head) (omega arith) (omega arith) ∙ (λ i. ring_bytes ring (at i) (size i))

pub tail_in : (log : Inside) → log.head ≤ log.end → tail_of (log_view log) ≡ ring_bytes log.ring.items (log.end - log.end % piece_bytes) (log.end % piece_bytes)
tail_in log order = tail_of_ring log.pages log.head log.end log.ring.items order

pub front_in : (log : Inside) (position n : ℕ) → piece_start log.head ≤ position → position + n ≤ log.end → ring_bytes log.ring.items position n ≡ take n (bytes_from (log_view log) position)
front_in log position n low high =
    sym (take-ring_bytes log.ring.items position n (log.end - position) (omega arith)) ∙ ap (take n) (sym (bytes_at log position low (omega arith)))

-- the items of a ring that was written to
pub ring_kept : (ring : Vec ℕ) (items : List ℕ) → length items ≡ length ring.items → (with_items ring items).items ≡ items
ring_kept ring items long = take_at items (drop (length items) ring.items) ring.len (long ∙ sym ring.ok.0)

-- ---- a later head

pub head_view : (log : Inside) (head : ℕ) → log.head ≤ head → head ≤ log.end → view_of log.pages head log.end log.ring.items ≡ with_head (log_view log) head
head_view log head low high =
    let kept : ring_bytes log.ring.items (piece_start head) (log.end - piece_start head) ≡ drop (piece_start head - piece_start log.head) (log_view log).kept = sym (bytes_at log (piece_start head) (omega arith) (omega arith)) in
    λ i. record { pages = log.pages; head = head; end = log.end; kept = kept i }

pub later_records : (log : LogView) (head : ℕ) (gone ps : List Placed) → log.head ≤ head → HasRecords log (gone ++ ps) → ArePlaced log.head gone head → HasRecords (with_head log head) ps
later_records log head gone ps low has placed =
    let parts : (mid : ℕ) × (ArePlaced log.head gone mid × ArePlaced mid ps log.end) = placed_split log.head log.end gone ps has.placed in
    let mid : parts.0 ≡ head = omega (arith, placed_length log.head parts.0 gone parts.1.0, placed_length log.head head gone placed) in
    let stay : ArePlaced head ps log.end = subst (λ (n : ℕ). ArePlaced n ps log.end) mid parts.1.1 in
    let same : drop (head - log.head) (bytes_from log log.head) ≡ bytes_from (with_head log head) head =
    drop-drop (head - log.head) (log.head - piece_start log.head) log.kept
    ∙ ap (λ (n : ℕ). drop n log.kept) (omega arith)
    ∙ sym (drop-drop (head - piece_start head) (piece_start head - piece_start log.head) log.kept) in
    subst (λ (bytes : List ℕ). Parses bytes head ps log.end) same (parses_drop head gone ps has placed stay)

-- ---- bytes at the end

pub appended_view : (log : Inside) (ring bytes : List ℕ) (size : ℕ) → IsInside log → size ≡ length bytes → length bytes ≤ free_of (log_view log) → IsPut log.end bytes log.ring.items ring → view_of log.pages log.head (log.end + size) ring ≡ with_bytes (log_view log) bytes
appended_view log ring bytes size is long room put =
    let kept : ring_bytes ring (piece_start log.head) (log.end + size - piece_start log.head) ≡ (log_view log).kept ++ bytes =
    ap (λ (n : ℕ). ring_bytes ring (piece_start log.head) (log.end + n - piece_start log.head)) long
    ∙ written_behind log.ring.items ring bytes (piece_start log.head) log.end put.long (omega (arith, is.ring.order)) (omega (arith, is.ring.order, is.ring.room, is.size)) put.written put.others in
    λ i. record { pages = log.pages; head = log.head; end = log.end + long i; kept = kept i }

pub more_records : (log : LogView) (r : LogRecord) (ps : List Placed) → IsLog log → IsSpellable r → HasRecords log ps → HasRecords (with_bytes log (record_bytes r)) (ps ++ record { at = log.end; is = r } ∷ [])
more_records log r ps is spellable has =
    let grown : bytes_from (with_bytes log (record_bytes r)) log.head ≡ bytes_from log log.head ++ record_bytes r = drop-append-le (log.head - piece_start log.head) log.kept (record_bytes r) (omega (arith, is.long, is.ring.order)) in
    subst (λ (bytes : List ℕ). Parses bytes log.head (ps ++ record { at = log.end; is = r } ∷ []) (log.end + record_size r)) (sym grown) (parses_append has (parses_one log.end r spellable))

-- ---- a record among bytes

-- what begins the front of bytes begins them
pub front_begins : (all : List ℕ) (n : ℕ) (r : LogRecord) (rest : List ℕ) → BeginsWith (take n all) r rest → BeginsWith all r (drop (record_size r) all)
front_begins all n r rest begins =
    let whole : all ≡ record_bytes r ++ (rest ++ drop n all) = sym (take-append-drop n all) ∙ ap (λ (l : List ℕ). l ++ drop n all) begins.is ∙ append_assoc (record_bytes r) rest (drop n all) in
    let behind : drop (record_size r) all ≡ rest ++ drop n all = ap (drop (record_size r)) whole ∙ drop_at (record_bytes r) (rest ++ drop n all) (record_size r) refl in
    record { spellable = begins.spellable; is = whole ∙ ap (λ (l : List ℕ). record_bytes r ++ l) (sym behind) }

-- and what begins bytes begins a front of them that is long enough
pub begins_front : (all : List ℕ) (n : ℕ) (r : LogRecord) (rest : List ℕ) → (length all ≤ n) ⊎ (longest_record ≤ n) → BeginsWith all r rest → BeginsWith (take n all) r (take (n - record_size r) rest)
begins_front all n r rest long begins =
    let size : length all ≡ record_size r + length rest = ap length begins.is ∙ length-append (record_bytes r) rest in
    let fits : record_size r ≤ n = elim long [ inl le ↦ omega (arith, size) | inr le ↦ omega (arith, record_most r begins.spellable.bounded) ] in
    let parts : n ≡ length (record_bytes r) + (n - record_size r) = omega (arith, fits) in
    record { spellable = begins.spellable; is = ap (take n) begins.is ∙ ap (λ (k : ℕ). take k (record_bytes r ++ rest)) parts ∙ take-append-add (record_bytes r) rest (n - record_size r) }

-- a record that was read from a front of the log's bytes
pub found_in : (log : LogView) (position n s : ℕ) (front : List ℕ) (r : LogRecord) (rest : List ℕ) → piece_start log.head ≤ position → front ≡ take n (bytes_from log position) → BeginsWith front r rest → s ≡ record_size r → BeginsWith (bytes_from log position) r (bytes_from log (position + s))
found_in log position n s front r rest low front_is begins size =
    let behind : drop (record_size r) (bytes_from log position) ≡ bytes_from log (position + s) =
    ap (λ (k : ℕ). drop k (bytes_from log position)) (sym size) ∙ drop-drop s (position - piece_start log.head) log.kept ∙ ap (λ (k : ℕ). drop k log.kept) (omega arith) in
    subst (BeginsWith (bytes_from log position) r) behind (front_begins (bytes_from log position) n r rest (subst (λ (l : List ℕ). BeginsWith l r rest) front_is begins))

pub refused_in : (all front : List ℕ) (n : ℕ) → front ≡ take n all → (length all ≤ n) ⊎ (longest_record ≤ n) → ((r : LogRecord) (rest : List ℕ) → BeginsWith front r rest → ⊥) → (r : LogRecord) (rest : List ℕ) → BeginsWith all r rest → ⊥
refused_in all front n front_is long none r rest begins = none r (take (n - record_size r) rest) (subst (λ (l : List ℕ). BeginsWith l r (take (n - record_size r) rest)) (sym front_is) (begins_front all n r rest long begins))

-- a record of the log's list stands at its position
pub listed : (log : LogView) (before after : List Placed) (p : Placed) → HasRecords log (before ++ p ∷ after) → BeginsWith (bytes_from log p.at) p.is (bytes_from log (p.at + record_size p.is))
listed log before after p has =
    let parts : (mid : ℕ) × (ArePlaced log.head before mid × ArePlaced mid (p ∷ after) log.end) = placed_split log.head log.end before (p ∷ after) has.placed in
    let at : p.at ≡ parts.0 = parts.1.1.0 in
    let low : parts.0 ≡ log.head + length (spelled before) = placed_length log.head parts.0 before parts.1.0 in
    let rest = parses_drop parts.0 before (p ∷ after) has parts.1.0 parts.1.1 in
    let there : bytes_from log p.at ≡ record_bytes p.is ++ spelled after =
    ap (λ (k : ℕ). drop k log.kept) (omega (arith, at, low)) ∙ sym (drop-drop (parts.0 - log.head) (log.head - piece_start log.head) log.kept) ∙ rest.spells in
    let behind : bytes_from log (p.at + record_size p.is) ≡ spelled after =
    ap (λ (k : ℕ). drop k log.kept) (omega (arith, at, low))
    ∙ sym (drop-drop (record_size p.is) (p.at - piece_start log.head) log.kept)
    ∙ ap (drop (record_size p.is)) there
    ∙ drop_at (record_bytes p.is) (spelled after) (record_size p.is) refl in
    record { spellable = parts.1.1.1; is = there ∙ ap (λ (l : List ℕ). record_bytes p.is ++ l) (sym behind) }
