-- A checkpoint ties the state to the log behind it, over the tables of now.
use Rattle.std.proofs.Common.{◌≡◌, ◌⊎◌, inl, inr, ⊎_elim, ℕ, suc, ◌+◌, ◌≤◌, List, [], ◌∷◌, ◌++◌, append-nil, length, map, min, Option, Some, None, refl, sym, ◌∙◌, ap, subst, arith}
use Rattle.std.specs.Prelude.{Bool, true, false, ◌==◌, ◌||◌, nat_le, is_some, if◌then◌else◌}
use Rattle.std.specs.List.{AllByRecursion, list_any}
use Rattle.std.proofs.lemmas.Bool.{eq-eqb, ne_eqb}
use Rattle.std.proofs.lemmas.Bool.Decides.{nat_tests}
use Rattle.std.proofs.lemmas.List.Elements.{All-append, All-from_recursion}
use Rattle.rss_base.specs.declared.log_record.LogRecord.{LogRecord}
use Rattle.rss_base.specs.declared.log_record.LogRecord.TheVariants as records
use Rattle.rss_base.specs.LogRecords as bytes
use Rattle.rss_base.specs.LogRecords.{ArePlaced, IsSpellable, record_size}
use Rattle.rss_base.specs.Listings.{Listing}
use Rattle.rss_record.proofs.Parsing.{some_bytes, placed_append}
use Rattle.rss_record.proofs.Marks.{length-marks_bytes}
use Rattle.rss_model.specs.Tables.{Definitions, Contents, Tables, tuple_count}
use Rattle.rss_model.specs.Changes.{Change, after, undone}
use Rattle.rss_model.specs.Fits.{Fits}
use Rattle.rss_model.specs.Meter.{Stamp, changes_of, changers, least_position}
use Rattle.rss_model.specs.Machine.{State, now}
use Rattle.rss_model.specs.Rules.{saved_now}
use Rattle.rss_model.specs.Kept.{up_to}
use Rattle.rss_model.specs.Records.{Checkpoint, Placed, Listed, changes_in, is_by, list_after, Rise}
use Rattle.rss_model.specs.Recovers.{AreRising, older_of, first_in, named_in, NamesLists, lists_at}
use Rattle.rss_model.specs.Meanings.{Logged, as_bytes, as_entries, SameDefinitions, Says, says_checkpoint, MeansIt, is_listed}
use Rattle.rss_model.specs.Ties.{records as all_records, Ties}
use Rattle.rss_model.specs.EngineLogs.{EngineLog, newer_logged, all_logged, entries_of, lists_now, saved_log, FitsMixed, AreOwn, stamp_of, IsMeterOf, TiesState, HaveFields}
use Rattle.rss_stored.specs.LogLaws.{head_behind, SavesTie, CheckpointTies}
use Rattle.rss_model.proofs.LogLists.{by_test, by_same, false_true}
use Rattle.rss_model.proofs.LogChanging.{undo_all}
use Rattle.rss_model.proofs.LogAppending.{list_after-append, head_list}
use Rattle.rss_model.proofs.LogTying.{ties_checkpoint}
use Rattle.rss_stored.proofs.LogPlaced.{placed_rise, entries_append, bytes_append}
use Rattle.rss_model.proofs.Mixing.{In, each_of, all_of, in_right}
use Rattle.rss_stored.proofs.LogGrowing.{fits_now}
use Rattle.rss_model.proofs.LogMeaning.{says_same, means_it_same, fields_kept}
use Rattle.rss_stored.proofs.LogFinding.{stands_now, means_now}

-- ---- the records from a position on

record IsParted (from until : ℕ) (ls : List Logged) (at : ℕ) : Type 0 where
  pub dropped : List Logged
  pub kept : List Logged
  pub split : ls ≡ dropped ++ kept
  pub gone : ArePlaced from (as_bytes dropped) at
  pub stay : ArePlaced at (as_bytes kept) until

-- from the end on there is none
at_end : (from until at : ℕ) (ls : List Logged) → ArePlaced from (as_bytes ls) until → at ≡ until → IsParted from until ls at
at_end from until at ls placed is = record {
  dropped = ls;
  kept = [];
  split = sym (append-nil ls);
  gone = subst (ArePlaced from (as_bytes ls)) (sym is) placed;
  stay = is;
}

-- from where one stands on
at_record : (from until at : ℕ) (ls : List Logged) (m : Logged) → ArePlaced from (as_bytes ls) until → In m ls → m.at ≡ at → IsParted from until ls at
at_record from until at [] m placed is place = absurd is
at_record from until at (l ∷ ls) m placed (inl e) place =
    let here : from ≡ at = sym placed.0 ∙ ap (λ (k : Logged). k.at) e ∙ place in record {
      dropped = [];
      kept = l ∷ ls;
      split = refl;
      gone = here;
      stay = subst (λ (n : ℕ). ArePlaced n (as_bytes (l ∷ ls)) until) here placed;
    }
at_record from until at (l ∷ ls) m placed (inr is) place =
    let rest = at_record (from + record_size l.told) until at ls m placed.2 is place in record {
      dropped = l ∷ rest.dropped;
      kept = rest.kept;
      split = ap (λ (k : List Logged). l ∷ k) rest.split;
      gone = (placed.0, placed.1, rest.gone);
      stay = rest.stay;
    }

-- ---- the least position

-- with one change more
least_more : (end rest : ℕ) (l : Listed) (ls : List Listed) → (rest ≡ end) ⊎ ((k : Listed) × In k ls × (k.at ≡ rest)) → (min l.at rest ≡ end) ⊎ ((k : Listed) × In k (l ∷ ls) × (k.at ≡ min l.at rest))
least_more end rest l ls least = by_test (nat_le l.at rest)
    (λ e. let here : l.at ≡ min l.at rest = grind (arith, nat_tests) in inr (l, inl refl, here))
    (λ e. let behind : min l.at rest ≡ rest = grind (arith, nat_tests) in ⊎_elim
    (λ is. inl (behind ∙ is))
    (λ found. inr (found.0, inr found.1, found.2 ∙ sym behind))
    least)

-- it is the end, or that of a listed change
least_is : (end : ℕ) (ls : List Listed) → (least_position end (map stamp_of ls) ≡ end) ⊎ ((k : Listed) × In k ls × (k.at ≡ least_position end (map stamp_of ls)))
least_is end [] = inl refl
least_is end (l ∷ ls) = least_more end (least_position end (map stamp_of ls)) l ls (least_is end ls)

-- none is before it
least_below : (end n : ℕ) (ls : List Listed) → n ≤ least_position end (map stamp_of ls) → AllByRecursion (λ (l : Listed). n ≤ l.at) ls
least_below end n [] le = tt
least_below end n (l ∷ ls) le = (omega (arith, le), least_below end n ls (omega (arith, le)))

-- ---- how many transactions are named

rising_less : (less least : ℕ) (named : List (ℕ × ℕ)) → less ≤ least → AreRising least named → AreRising less named
rising_less less least [] le rising = tt
rising_less less least (m ∷ ms) le rising = let first = rising.0 in (omega (arith, le, first), rising.1)

none_named : (least t : ℕ) (named : List (ℕ × ℕ)) → suc t ≤ least → AreRising least named → named_in t named ≡ None
none_named least t [] lt rising = refl
none_named least t (m ∷ ms) lt rising =
    let first = rising.0 in
    let other : (m.0 == t) ≡ false = ne_eqb m.0 t (λ e. absurd (omega (arith, lt, first, e))) in
    rw other (none_named (m.0 + 1) t ms (omega (arith, lt, first)) rising.1)

-- the names of the others
record IsWithout (least t : ℕ) (named : List (ℕ × ℕ)) : Type 0 where
  pub rest : List (ℕ × ℕ)
  pub rising : AreRising least rest
  pub count : length named ≡ suc (length rest)
  pub gone : named_in t rest ≡ None
  pub others : (u : ℕ) → (u ≡ t → ⊥) → named_in u rest ≡ named_in u named

without : (least t : ℕ) (named : List (ℕ × ℕ)) → AreRising least named → is_some (named_in t named) ≡ true → IsWithout least t named
without least t [] rising some = absurd (cc (some))
without least t (m ∷ ms) rising some = by_same m.0 t
    (λ e. record {
      rest = ms;
      rising = let first = rising.0 in rising_less least (m.0 + 1) ms (omega (arith, first)) rising.1;
      count = refl;
      gone = none_named (m.0 + 1) t ms (omega (arith, e)) rising.1;
      others = λ u apart. let other : (m.0 == u) ≡ false = ne_eqb m.0 u (λ f. apart (sym f ∙ e)) in rw other refl;
    })
    (λ e.
    let off : (m.0 == t) ≡ false = ne_eqb m.0 t e in
    let less = without (m.0 + 1) t ms rising.1 (rw off at some) in record {
      rest = m ∷ less.rest;
      rising = (rising.0, less.rising);
      count = ap suc less.count;
      gone = rw off less.gone;
      others = λ u apart. ap (λ (o : Option ℕ). if m.0 == u then Some m.1 else o) (less.others u apart);
    })

-- a transaction is named where it has a stamp
some_older : (a b : Option ℕ) → is_some (older_of a b) ≡ (is_some a || is_some b)
some_older None b = refl
some_older (Some at) b = refl

has_stamp : ℕ → List Listed → Bool
has_stamp t ls = list_any (λ (other : Stamp). other.by == t) (map stamp_of ls)

first_stamped : (t : ℕ) (ls : List Listed) → is_some (first_in t ls) ≡ has_stamp t ls
unfolding has_stamp
first_stamped t [] = refl
first_stamped t (l ∷ ls) = some_older (first_in t ls) (if is_by t l then Some l.at else None) ∙ by_test (is_by t l)
    (λ e. rw e (either (is_some (first_in t ls))))
    (λ e. rw e (neither (is_some (first_in t ls)) ∙ first_stamped t ls))
  where
    either : (b : Bool) → (b || true) ≡ true
    either true = refl
    either false = refl

    neither : (b : Bool) → (b || false) ≡ b
    neither true = refl
    neither false = refl

stamp_here : (t : ℕ) (l : Listed) (ls : List Listed) → l.change.by ≡ t → has_stamp t (l ∷ ls) ≡ true
unfolding has_stamp
stamp_here t l ls e = let here : (l.change.by == t) ≡ true = eq-eqb l.change.by t e in rw here refl

stamp_off : (t : ℕ) (l : Listed) (ls : List Listed) → (l.change.by ≡ t → ⊥) → has_stamp t (l ∷ ls) ≡ has_stamp t ls
unfolding has_stamp
stamp_off t l ls e = let off : (l.change.by == t) ≡ false = ne_eqb l.change.by t e in rw off refl

no_stamp : (t : ℕ) → has_stamp t [] ≡ false
unfolding has_stamp
no_stamp t = refl

more_changers : (l : Listed) (ls : List Listed) → has_stamp l.change.by ls ≡ true → changers (map stamp_of (l ∷ ls)) ≡ changers (map stamp_of ls)
unfolding has_stamp
more_changers l ls e = rw e refl

new_changer : (l : Listed) (ls : List Listed) → has_stamp l.change.by ls ≡ false → changers (map stamp_of (l ∷ ls)) ≡ suc (changers (map stamp_of ls))
unfolding has_stamp
new_changer l ls e = rw e (omega arith)

count_named : (named : List (ℕ × ℕ)) (ls : List Listed) → AreRising 0 named → ((t : ℕ) → is_some (named_in t named) ≡ has_stamp t ls) → length named ≡ changers (map stamp_of ls)
count_named [] [] rising same = refl
count_named (m ∷ ms) [] rising same =
    let here : (m.0 == m.0) ≡ true = eq-eqb m.0 m.0 refl in
    let some : is_some (named_in m.0 (m ∷ ms)) ≡ true = rw here refl in
    false_true some (same m.0 ∙ no_stamp m.0)
count_named named (l ∷ ls) rising same = by_test (has_stamp l.change.by ls)
    (λ e. count_named named ls rising (λ t. same t ∙ by_same l.change.by t
    (λ f. stamp_here t l ls f ∙ sym (subst (λ (u : ℕ). has_stamp u ls ≡ true) f e))
    (λ f. stamp_off t l ls f))
    ∙ sym (more_changers l ls e))
    (λ e.
    let less = without 0 l.change.by named rising (same l.change.by ∙ stamp_here l.change.by l ls refl) in
    less.count
    ∙ ap suc (count_named less.rest ls less.rising (λ t. by_same t l.change.by
    (λ f. ap is_some (subst (λ (u : ℕ). named_in u less.rest ≡ None) (sym f) less.gone) ∙ sym (subst (λ (u : ℕ). has_stamp u ls ≡ false) (sym f) e))
    (λ f. ap is_some (less.others t f) ∙ same t ∙ stamp_off t l ls (λ g. f (sym g)))))
    ∙ sym (new_changer l ls e))

-- ---- a checkpoint

module _ (listing other : Listing) (at_checkpoint : Tables) (log : EngineLog) (state : State) (named : List (ℕ × ℕ))
    (is : TiesState listing at_checkpoint log state) (same : SameDefinitions listing other) (names : NamesLists named (lists_now log)) (formed : IsSpellable (records.Checkpoint named)) where
  abbrev told : LogRecord
  told = records.Checkpoint named

  abbrev head : ℕ
  head = head_behind log state

  abbrev ls : List Listed
  ls = lists_now log

  head_is : head ≡ least_position log.end (map stamp_of ls)
  head_is = ap (least_position log.end) is.meter.stamps

  parted : IsParted log.head log.end (all_logged log) head
  parted = ⊎_elim
      (λ (end : least_position log.end (map stamp_of ls) ≡ log.end). at_end log.head log.end head (all_logged log) is.placed (head_is ∙ end))
      (λ (found : (k : Listed) × In k ls × (k.at ≡ least_position log.end (map stamp_of ls))).
      let stands = stands_now listing log is.placed found.0 found.1 in
      at_record log.head log.end head (all_logged log) stands.logged is.placed stands.there (stands.at ∙ found.2 ∙ sym head_is))
      (least_is log.end ls)

  abbrev kept : List Logged
  kept = parted.kept

  abbrev dropped : List Logged
  dropped = parted.dropped

  abbrev behind : EngineLog
  behind = saved_log log head kept named

  abbrev checkpoint : Logged
  checkpoint = record { at = log.end; told = told; is = Checkpoint named }

  entries_parted : all_records (entries_of log) ≡ as_entries dropped ++ as_entries kept
  entries_parted =
      ap (λ (ps : List Placed). as_entries log.older ++ ps) (sym (entries_append log.written log.pending))
      ∙ sym (entries_append log.older (newer_logged log))
      ∙ ap as_entries parted.split
      ∙ entries_append dropped kept

  all_behind : AllByRecursion (λ (l : Listed). head ≤ l.at) ls
  all_behind = least_below log.end head ls (omega (arith, head_is))

  gone : Rise log.head (as_entries dropped) head
  gone = placed_rise log.head head dropped parted.gone

  stay : Rise head (as_entries kept) log.end
  stay = placed_rise head log.end kept parted.stay

  ties : Ties state.base.contents state.changes (after state.base.contents state.changes) (entries_of behind)
  ties = ties_checkpoint is.ties head (record_size told) (as_entries dropped) (as_entries kept) named (some_bytes told) entries_parted gone stay all_behind names

  same_lists : lists_at (as_entries kept) ≡ ls
  same_lists =
      head_list log.head head log.end (as_entries dropped) (as_entries kept) gone stay
      (subst (λ (ps : List Placed). AllByRecursion (λ (l : Listed). head ≤ l.at) (list_after [] ps)) entries_parted all_behind)
      ∙ ap (list_after []) (sym entries_parted)

  same_changes : changes_in (lists_at (as_entries kept)) ≡ state.changes
  same_changes = ap changes_in same_lists ∙ is.ties.changes_are

  -- what fits before it fits behind it
  fits_same : FitsMixed state.size.slots (now state) (undone (now state).contents (changes_in (lists_at (as_entries kept)))) (changes_in (lists_at (as_entries kept)))
  fits_same =
      let fit : FitsMixed state.size.slots (now state) state.base.contents state.changes =
      λ counts. subst (λ (d : Definitions). Fits state.size.slots (record { definitions = d; contents = after state.base.contents (up_to counts state.changes) })) (sym is.definitions)
      (fits_now listing at_checkpoint log state is counts) in
      let base : undone (now state).contents (changes_in (lists_at (as_entries kept))) ≡ state.base.contents =
      ap (undone (now state).contents) same_changes ∙ undo_all state.base.contents state.changes is.ties.chained in
      subst (λ (b : Contents). FitsMixed state.size.slots (now state) b (changes_in (lists_at (as_entries kept)))) (sym base)
      (subst (λ (cs : List Change). FitsMixed state.size.slots (now state) state.base.contents cs) (sym same_changes) fit)

  -- ---- what its records mean

  abbrev says : Logged → Type 0
  says l = Says other l.told l.is

  abbrev means : Logged → Type 0
  means l = MeansIt other l.told l.is

  in_log : (l : Logged) → In l kept → In l (all_logged log)
  in_log l there = subst (In l) (sym parted.split) (in_right dropped kept l there)

  says_it : (l : Logged) → In l kept → Says listing l.told l.is
  says_it l there = each_of (λ (m : Logged). Says listing m.told m.is) (all_logged log) is.own.say l (in_log l there)

  own : AreOwn other behind
  own = record {
    say = All-append says kept (checkpoint ∷ []) (all_of says kept (λ l there. says_same listing other same (says_it l there))) (All-from_recursion says (checkpoint ∷ []) (says_checkpoint, tt));
    newer = All-from_recursion means (checkpoint ∷ []) (tt, tt);
    listed = all_of (λ (l : Logged). is_listed l.at (lists_at (as_entries kept)) ≡ true → MeansIt other l.told l.is) kept
        (λ l there now_listed. means_it_same listing other same (says_it l there)
        (means_now listing log is.placed is.own l (in_log l there) (ap (is_listed l.at) (sym same_lists) ∙ now_listed)));
  }

  -- ---- what its meter counts

  lists_behind : lists_now behind ≡ ls
  lists_behind = list_after-append [] (as_entries kept) (record { at = log.end; is = Checkpoint named } ∷ []) ∙ same_lists

  how_many : length named ≡ changers state.meter.stamps
  how_many =
      count_named named ls names.rising (λ t. ap is_some (names.firsts t) ∙ first_stamped t ls)
      ∙ ap changers (sym is.meter.stamps)

  meter : IsMeterOf (now state).contents behind (saved_now state)
  meter = record {
    surviving = ap (λ (cs : List Change). length cs) (sym same_changes) ∙ count_changes (lists_at (as_entries kept));
    since = refl;
    traffic = λ relation. λ i. record {
      entries = tuple_count (now state).contents relation;
      surviving = changes_of (sym same_changes i) relation;
      since = 0;
    };
    stamps = is.meter.stamps ∙ ap (map stamp_of) (sym lists_behind);
    head = ap (λ (n : ℕ). least_position n state.meter.stamps) is.meter.end;
    end = omega (arith, is.meter.end, how_many, length-marks_bytes named);
  }
    where
      count_changes : (lists : List Listed) → length (changes_in lists) ≡ length lists
      count_changes [] = refl
      count_changes (l ∷ lists) = ap suc (count_changes lists)

  placed : ArePlaced head (as_bytes (all_logged behind)) (log.end + record_size told)
  placed =
      subst (λ (ps : List bytes.Placed). ArePlaced head ps (log.end + record_size told)) (sym (bytes_append kept (checkpoint ∷ [])))
      (placed_append head log.end (log.end + record_size told) (as_bytes kept) (as_bytes (checkpoint ∷ [])) parted.stay (refl, formed, refl))

  saves_tie : SavesTie other log state named
  saves_tie = record {
    dropped = dropped;
    kept = kept;
    split = parted.split;
    gone = parted.gone;
    stay = parted.stay;
    ties = record {
      ties = ties;
      definitions = refl;
      fields = fields_kept listing other same state.base.definitions (subst (HaveFields listing) (sym is.definitions) is.fields);
      fits = (fits_same, fits_same);
      placed = placed;
      own = own;
      meter = meter;
    };
  }

pub checkpoint_ties : CheckpointTies
checkpoint_ties listing other at_checkpoint log state named is same names formed = saves_tie listing other at_checkpoint log state named is same names formed
