-- Records that stand in a log.
use Rattle.std.proofs.Common.{◌≡◌, ℕ, ◌+◌, ◌-◌, ◌<◌, ◌≤◌, List, [], ◌∷◌, ◌++◌, length, drop, append_assoc, append-nil, refl, sym, ◌∙◌, ap, subst, drop-drop, arith}
use Rattle.std.specs.Prelude.{Result, Err, IfErr, IsErrAnd}
use Rattle.std.proofs.lemmas.List.{drop_at, drop_all, map-append}
use Rattle.std.proofs.lemmas.Result.{err_from_is_err_and}
use Rattle.rss_base.specs.declared.fault.PageFault.{PageFault}
use Rattle.rss_base.specs.declared.log_record.LogRecord.{LogRecord}
use Rattle.rss_base.specs.LogRecords.{record_bytes, record_size, Placed, spelled, ArePlaced, BeginsWith}
use Rattle.rss_record.proofs.Records.{one_front}
use Rattle.rss_record.proofs.Parsing.{some_bytes, spelled-append, placed_append, placed_length, placed_split, parses_drop}
use Rattle.rss_log.specs.Logs.{LogView, IsLog, piece_start, bytes_from, HasRecords}
use Rattle.rss_restart.specs.declared.survey.walk.Placed.{Placed as PlacedEvent}
use Rattle.rss_restart.specs.Reading.{Stand, Finds, Reads, IsBroken, none_begins, goes_beyond, IsReadFault, event_at}

-- behind the bytes of a record
behind : (log : LogView) (at : ℕ) (r : LogRecord) (rest : List ℕ) → log.head ≤ at → bytes_from log at ≡ record_bytes r ++ rest → bytes_from log (at + record_size r) ≡ rest
behind log at r rest low is =
    let same : at + record_size r - piece_start log.head ≡ at - piece_start log.head + record_size r = omega (arith, low) in
    ap (λ (k : ℕ). drop k log.kept) same
    ∙ sym (drop-drop (record_size r) (at - piece_start log.head) log.kept)
    ∙ ap (drop (record_size r)) is
    ∙ drop_at (record_bytes r) rest (record_size r) refl

module _ (log : LogView) where
  module _ (from until : ℕ) (p : Placed) (ps : List Placed) (low : log.head ≤ from) (stand : Stand log from (p ∷ ps) until) where
    front_bytes : bytes_from log from ≡ record_bytes p.is ++ (spelled ps ++ bytes_from log until)
    front_bytes = stand.bytes ∙ append_assoc (record_bytes p.is) (spelled ps) (bytes_from log until)

    pub rest_stand : Stand log (from + record_size p.is) ps until
    rest_stand = record { placed = stand.placed.2; bytes = behind log from p.is (spelled ps ++ bytes_from log until) low front_bytes }

    pub first_begins : BeginsWith (bytes_from log from) p.is (bytes_from log (from + record_size p.is))
    first_begins = record {
      spellable = stand.placed.1;
      is = front_bytes ∙ ap (λ (l : List ℕ). record_bytes p.is ++ l) (sym rest_stand.bytes);
    }

  -- one record more
  pub one_stands : (from at next : ℕ) (ps : List Placed) (r : LogRecord) → Stand log from ps at → BeginsWith (bytes_from log at) r (bytes_from log next) → next ≡ at + record_size r → Stand log from (ps ++ record { at = at; is = r } ∷ []) next
  one_stands from at next ps r stand begins size =
      let last : List Placed = record { at = at; is = r } ∷ [] in
      let all : spelled (ps ++ last) ≡ spelled ps ++ record_bytes r = spelled-append ps last ∙ ap (λ (l : List ℕ). spelled ps ++ l) (append-nil (record_bytes r)) in
      record {
        placed = placed_append from at next ps last stand.placed (refl, begins.spellable, sym size);
        bytes = stand.bytes
            ∙ ap (λ (l : List ℕ). spelled ps ++ l) begins.is
            ∙ sym (append_assoc (spelled ps) (record_bytes r) (bytes_from log next))
            ∙ ap (λ (l : List ℕ). l ++ bytes_from log next) (sym all);
      }

  -- records that reach as far at least begin with those that stand there
  pub ahead : (from at until : ℕ) (ps qs : List Placed) → log.head ≤ from → at ≤ until → Stand log from ps at → Stand log from qs until → (rs : List Placed) × ((qs ≡ ps ++ rs) × Stand log at rs until)
  ahead from at until [] qs low le first second = (qs, (refl, subst (λ (n : ℕ). Stand log n qs until) first.placed second))
  ahead from at until (p ∷ ps) [] low le first second = absurd (omega (arith, second.placed, placed_length (from + record_size p.is) at ps first.placed.2, some_bytes p.is, le))
  ahead from at until (p ∷ ps) (q ∷ qs) low le first second =
      let a = first_begins from at p ps low first in
      let b = first_begins from until q qs low second in
      let same : p.is ≡ q.is = (one_front p.is q.is (bytes_from log (from + record_size p.is)) (bytes_from log (from + record_size q.is)) a.spellable b.spellable (sym a.is ∙ b.is)).0 in
      let tail : Stand log (from + record_size p.is) qs until = subst (λ (r : LogRecord). Stand log (from + record_size r) qs until) (sym same) (rest_stand from until q qs low second) in
      let more = ahead (from + record_size p.is) at until ps qs (omega (arith, low)) le (rest_stand from at p ps low first) tail in
      (more.0, ((λ i. record { at = (second.placed.0 ∙ sym first.placed.0) i; is = sym same i } ∷ more.1.0 i), more.1.1))

  -- so there is one list of them
  pub stand_once : (from until : ℕ) (ps qs : List Placed) → log.head ≤ from → Stand log from ps until → Stand log from qs until → qs ≡ ps
  stand_once from until ps qs low first second = none (ahead from until until ps qs low (omega arith) first second)
    where
      none : (rs : List Placed) × ((qs ≡ ps ++ rs) × Stand log until rs until) → qs ≡ ps
      none ([], more) = more.0 ∙ append-nil ps
      none (r ∷ rs, more) = absurd (omega (arith, placed_length (until + record_size r.is) until rs more.1.placed.2, some_bytes r.is))

  -- where no record begins, or one that reaches further, no records stand
  pub no_record : (at until : ℕ) (ps : List Placed) → log.head ≤ at → at < until → ((r : LogRecord) (rest : List ℕ) → BeginsWith (bytes_from log at) r rest → ⊥) → Stand log at ps until → ⊥
  no_record at until [] low some none stand = omega (arith, stand.placed)
  no_record at until (p ∷ ps) low some none stand = none p.is (bytes_from log (at + record_size p.is)) (first_begins at until p ps low stand)

  pub too_long : (at next until : ℕ) (r : LogRecord) (ps : List Placed) → log.head ≤ at → at < until → until < next → next ≡ at + record_size r → BeginsWith (bytes_from log at) r (bytes_from log next) → Stand log at ps until → ⊥
  too_long at next until r [] low some long size begins stand = omega (arith, stand.placed)
  too_long at next until r (p ∷ ps) low some long size begins stand =
      let a = first_begins at until p ps low stand in
      let same : r ≡ p.is = (one_front r p.is (bytes_from log next) (bytes_from log (at + record_size p.is)) begins.spellable a.spellable (sym begins.is ∙ a.is)).0 in
      omega (arith, size, long, ap record_size same, placed_length (at + record_size p.is) until ps stand.placed.2)

  pub read_more : (from at next : ℕ) (events : List PlacedEvent) (event : PlacedEvent) → Reads log from at events → Finds log at next event → Reads log from next (events ++ event ∷ [])
  read_more from at next events event reads finds =
      let last : List Placed = record { at = at; is = finds.r } ∷ [] in
      record {
        ps = reads.ps ++ last;
        stand = one_stands from at next reads.ps finds.r reads.stand finds.begins finds.behind;
        is = (λ i. reads.is i ++ finds.is i ∷ []) ∙ sym (map-append event_at reads.ps last);
      }

  pub none_from : (from at until : ℕ) (events : List PlacedEvent) → log.head ≤ from → at ≤ until → Reads log from at events → ((qs : List Placed) → Stand log at qs until → ⊥) → (ps : List Placed) → Stand log from ps until → ⊥
  none_from from at until events low le reads none ps stand =
      let more = ahead from at until reads.ps ps low le reads.stand stand in
      none more.0 more.1.1

  -- what can't be read on is damage at a position of the log
  module _ (at until : ℕ) (low : log.head ≤ at) (order : at ≤ until) (high : until ≤ log.end) where
    log_fault : {fault : PageFault} → IsBroken log at until fault → IsReadFault log fault
    log_fault (none_begins none) = record { at = at; low = low; high = omega (arith, order, high); is = refl }
    log_fault (goes_beyond r rest begins beyond) = record { at = until; low = omega (arith, low, order); high = high; is = refl }

    pub read_fault : {U : Type 0} {fault : PageFault} (result : Result U PageFault) → IsErrAnd result (λ why. why ≡ fault) → IsBroken log at until fault → IfErr result (IsReadFault log)
    read_fault {U = U} result is broken =
        let why = err_from_is_err_and result is in
        subst (λ (r : Result U PageFault). IfErr r (IsReadFault log)) (sym (why.1 ∙ ap Err why.2)) (log_fault broken)

  -- the records of a log, up to a position and from there on
  module _ (xs ys : List Placed) (mid : ℕ) (is : IsLog log) (has : HasRecords log (xs ++ ys)) (placed : ArePlaced log.head xs mid) where
    later_placed : ArePlaced mid ys log.end
    later_placed =
        let parts : (m : ℕ) × (ArePlaced log.head xs m × ArePlaced m ys log.end) = placed_split log.head log.end xs ys has.placed in
        let same : parts.0 ≡ mid = omega (arith, placed_length log.head parts.0 xs parts.1.0, placed_length log.head mid xs placed) in
        subst (λ (n : ℕ). ArePlaced n ys log.end) same parts.1.1

    none_behind : bytes_from log log.end ≡ []
    none_behind = drop_all (log.end - piece_start log.head) log.kept (omega (arith, is.long))

    later_bytes : bytes_from log mid ≡ spelled ys
    later_bytes =
        let low : mid ≡ log.head + length (spelled xs) = placed_length log.head mid xs placed in
        let same : mid - piece_start log.head ≡ log.head - piece_start log.head + (mid - log.head) = omega (arith, low) in
        ap (λ (k : ℕ). drop k log.kept) same
        ∙ sym (drop-drop (mid - log.head) (log.head - piece_start log.head) log.kept)
        ∙ (parses_drop mid xs ys has placed later_placed).spells

    pub later_stand : Stand log mid ys log.end
    later_stand = record {
      placed = later_placed;
      bytes = later_bytes ∙ sym (append-nil (spelled ys)) ∙ ap (λ (l : List ℕ). spelled ys ++ l) (sym none_behind);
    }

    pub older_stand : Stand log log.head xs mid
    older_stand = record {
      placed = placed;
      bytes = has.spells ∙ spelled-append xs ys ∙ ap (λ (l : List ℕ). spelled xs ++ l) (sym later_bytes);
    }
