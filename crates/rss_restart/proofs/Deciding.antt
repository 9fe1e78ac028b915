-- What the positions of a walk back say of the changes of a log.
use Rattle.std.proofs.Common.{◌≡◌, ℕ, ◌+◌, ◌<◌, ◌≤◌, List, [], ◌∷◌, ◌++◌, map, reverse, min, append_assoc, append-nil, refl, sym, ◌∙◌, ap, arith}
use Rattle.std.specs.Prelude.{Bool, true, false, not, ◌&&◌, ◌==◌, if◌then◌else◌, nat_le, nat_lt, filter}
use Rattle.std.specs.List.{AllByRecursion}
use Rattle.std.proofs.lemmas.Bool.{ltb-true, ltb-false, leb-true, leb-false, lt-ltb, le-ltb, le-leb, lt-leb}
use Rattle.std.proofs.lemmas.List.{map-append, reverse-append}
use Rattle.rss_base.specs.Listings.{Listing}
use Rattle.rss_base.specs.declared.log_record.LogRecord.{LogRecord}
use Rattle.rss_base.specs.LogRecords.{record_size, ArePlaced}
use Rattle.rss_record.proofs.Parsing.{some_bytes, placed_length}
use Rattle.rss_model.specs.Records.{LogEntry, Changed, Restore, End, Abort, Checkpoint, Listed, listed, list_after, is_by, is_cut}
use Rattle.rss_model.specs.Restart.{survives_by, survives, stays, losers}
use Rattle.rss_model.specs.Recovers.{lists_at}
use Rattle.rss_model.specs.Meanings.{Says, says_change, says_restore, says_end, says_abort, says_checkpoint, Logged, as_bytes, as_entries, is_redone}
use Rattle.rss_model.proofs.LogLists.{by_test, filter_yes, filter_no, filter_same, filter_filter, all_filter}
use Rattle.rss_restart.specs.declared.survey.walk.Placed.{Placed as PlacedEvent}
use Rattle.rss_restart.specs.declared.survey.walk.Kept.{Kept}
use Rattle.rss_restart.specs.Events.{every, passed, front, kept_at, position, lost, surviving_in, surviving_below, listed_in, redone_in, undone_in}
use Rattle.rss_restart.specs.Reading.{event_told, event_at}
use Rattle.rss_restart.specs.Surveys.{redone_at}

-- ---- tests

lt_min : (n b f : ℕ) → (not (nat_le f n) && nat_lt n b) ≡ nat_lt n (min b f)
lt_min n b f = by_test (nat_le f n)
    (λ e. ap (λ (t : Bool). not t && nat_lt n b) e ∙ sym (le-ltb n (min b f) (omega (arith, leb-true f n e))))
    (λ e. ap (λ (t : Bool). not t && nat_lt n b) e ∙ by_test (nat_lt n b)
    (λ g. g ∙ sym (lt-ltb n (min b f) (omega (arith, leb-false f n e, ltb-true n b g))))
    (λ g. g ∙ sym (le-ltb n (min b f) (omega (arith, ltb-false n b g)))))

not_lt : (n b : ℕ) → not (nat_lt n b) ≡ nat_le b n
not_lt n b = by_test (nat_lt n b)
    (λ g. ap not g ∙ sym (lt-leb b n (ltb-true n b g)))
    (λ g. ap not g ∙ sym (le-leb b n (ltb-false n b g)))

none_lt : (n : ℕ) → nat_lt n 0 ≡ false
none_lt n = le-ltb n 0 (omega arith)

-- ---- a transaction's change in front of a record

restore_lt : (same : Bool) (n b f : ℕ) → (not (same && nat_le f n) && nat_lt n b) ≡ nat_lt n (if same then min b f else b)
restore_lt true n b f = lt_min n b f
restore_lt false n b f = refl

end_lt : (same : Bool) (n b : ℕ) → n < every → (if same then true else nat_lt n b) ≡ nat_lt n (if same then every else b)
end_lt true n b low = sym (lt-ltb n every low)
end_lt false n b low = refl

gone_lt : (same : Bool) (n b : ℕ) → (not same && nat_lt n b) ≡ nat_lt n (if same then 0 else b)
gone_lt true n b = sym (none_lt n)
gone_lt false n b = refl

module _ (listing : Listing) where
  survive_step : (t n b : ℕ) (r : LogRecord) (e : LogEntry) → n < every → Says listing r e → survives_by t n e (nat_lt n b) ≡ nat_lt n (passed every (event_told r) t b)
  survive_step t n b _ _ low (says_change told) = refl
  survive_step t n b _ _ low (says_restore {by = by} {position = first}) = restore_lt (t == by) n b first
  survive_step t n b _ _ low (says_end {by = by}) = end_lt (t == by) n b low
  survive_step t n b _ _ low (says_abort {by = by}) = gone_lt (t == by) n b
  survive_step t n b _ _ low says_checkpoint = refl

-- ---- parts of lists

map_filter : {X Y : Type 0} (f : X → Y) (p : X → Bool) (q : Y → Bool) (xs : List X) → ((x : X) → p x ≡ q (f x)) → map f (filter p xs) ≡ filter q (map f xs)
map_filter f p q [] same = refl
map_filter f p q (x ∷ xs) same = by_test (p x)
    (λ e. ap (map f) (filter_yes p x xs e) ∙ ap (λ ys. f x ∷ ys) (map_filter f p q xs same) ∙ sym (filter_yes q (f x) (map f xs) (sym (same x) ∙ e)))
    (λ e. ap (map f) (filter_no p x xs e) ∙ map_filter f p q xs same ∙ sym (filter_no q (f x) (map f xs) (sym (same x) ∙ e)))

abbrev AreLow : List Listed → Type 0
AreLow ls = AllByRecursion (λ l. l.at < every) ls

abbrev as_kept : Listed → Kept
as_kept l = record { at = l.at; by = l.change.by }

abbrev below : (ℕ → ℕ) → List Kept → List Kept
below f ks = filter (λ k. nat_lt k.at (f k.by)) ks

all_below : (ls : List Listed) → AreLow ls → map as_kept ls ≡ below (λ t. every) (map as_kept ls)
all_below [] low = refl
all_below (l ∷ ls) low =
    ap (λ (ks : List Kept). as_kept l ∷ ks) (all_below ls low.1)
    ∙ sym (filter_yes (λ k. nat_lt k.at every) (as_kept l) (map as_kept ls) (lt-ltb l.at every low.0))

-- where some are gone that a lower bound leaves out
below_less : (test : Kept → Bool) (f g : ℕ → ℕ) (ls : List Listed) → ((k : Kept) → (not (test k) && nat_lt k.at (f k.by)) ≡ nat_lt k.at (g k.by)) → below f (map as_kept (filter (λ l. not (test (as_kept l))) ls)) ≡ below g (map as_kept ls)
below_less test f g ls same =
    ap (below f) (map_filter as_kept (λ l. not (test (as_kept l))) (λ k. not (test k)) ls (λ l. refl))
    ∙ filter_filter (λ k. nat_lt k.at (f k.by)) (λ k. not (test k)) (map as_kept ls)
    ∙ filter_same (λ k. not (test k) && nat_lt k.at (f k.by)) (λ k. nat_lt k.at (g k.by)) (map as_kept ls) same

low_listed : (ls : List Listed) (at : ℕ) (e : LogEntry) → at < every → AreLow ls → AreLow (listed ls at e)
low_listed ls at (Changed c) here low = (here, low)
low_listed ls at (Restore t first) here low = all_filter (λ l. l.at < every) (λ l. l.at < every) (λ l. not (is_cut t first l)) ls (λ l e lt. lt) low
low_listed ls at (End t) here low = all_filter (λ l. l.at < every) (λ l. l.at < every) (λ l. not (is_by t l)) ls (λ l e lt. lt) low
low_listed ls at (Abort t) here low = all_filter (λ l. l.at < every) (λ l. l.at < every) (λ l. not (is_by t l)) ls (λ l e lt. lt) low
low_listed ls at (Checkpoint named) here low = low

-- ---- the positions of a log

abbrev AllLow : List Logged → Type 0
AllLow ls = AllByRecursion (λ l. l.at < every) ls

pub all_low : (from until : ℕ) (ls : List Logged) → ArePlaced from (as_bytes ls) until → until ≤ every → AllLow ls
all_low from until [] placed le = tt
all_low from until (l ∷ ls) placed le = (
  omega (arith, placed.0, placed_length (from + record_size l.told) until (as_bytes ls) placed.2, some_bytes l.told),
  all_low (from + record_size l.told) until ls placed.2 le,
)

low_lists : (ls : List Listed) (ps : List Logged) → AllLow ps → AreLow ls → AreLow (list_after ls (as_entries ps))
low_lists ls [] rest low = low
low_lists ls (p ∷ ps) rest low = low_lists (listed ls p.at p.is) ps rest.1 (low_listed ls p.at p.is rest.0 low)

abbrev events : List Logged → List PlacedEvent
events ls = map event_at (as_bytes ls)

module _ (listing : Listing) where
  abbrev AreTold : List Logged → Type 0
  AreTold ls = AllByRecursion (λ l. Says listing l.told l.is) ls

  -- ---- what survives

  survives_below : (newer : List Logged) (t n : ℕ) → AreTold newer → n < every → survives t n (as_entries newer) ≡ nat_lt n (surviving_below (events newer) t)
  survives_below [] t n told low = sym (none_lt n)
  survives_below (l ∷ ls) t n told low =
      ap (survives_by t n l.is) (survives_below ls t n told.1 low)
      ∙ survive_step listing t n (surviving_below (events ls) t) l.told l.is low told.0

  lost_are : (newer : List Logged) (ls : List Listed) → AreTold newer → AreLow ls → map position (lost (surviving_below (events newer)) (map as_kept ls)) ≡ map (λ l. l.at) (losers (as_entries newer) ls)
  lost_are newer [] told low = refl
  lost_are newer (l ∷ ls) told low =
      let at : ℕ = surviving_below (events newer) l.change.by in
      let is_lost : Kept → Bool = λ k. nat_le (surviving_below (events newer) k.by) k.at in
      let loses : Listed → Bool = λ k. not (stays (as_entries newer) k) in
      let same : loses l ≡ is_lost (as_kept l) = ap not (survives_below newer l.change.by l.at told low.0) ∙ not_lt l.at at in
      let rest = lost_are newer ls told low.1 in
      by_test (loses l)
      (λ e. ap (map position) (filter_yes is_lost (as_kept l) (map as_kept ls) (sym same ∙ e))
      ∙ ap (λ (ps : List ℕ). l.at ∷ ps) rest
      ∙ sym (ap (map (λ (k : Listed). k.at)) (filter_yes loses l ls e)))
      (λ e. ap (map position) (filter_no is_lost (as_kept l) (map as_kept ls) (sym same ∙ e))
      ∙ rest
      ∙ sym (ap (map (λ (k : Listed). k.at)) (filter_no loses l ls e)))

  -- ---- what is listed

  changed_step : (f : ℕ → ℕ) (at by : ℕ) (ks : List Kept) → below f (record { at = at; by = by } ∷ ks) ≡ (if nat_lt at (f by) then record { at = at; by = by } ∷ [] else []) ++ below f ks
  changed_step f at by ks = by_test (nat_lt at (f by))
      (λ e. filter_yes (λ k. nat_lt k.at (f k.by)) (record { at = at; by = by }) ks e ∙ sym (ap (λ (b : Bool). (if b then record { at = at; by = by } ∷ [] else []) ++ below f ks) e))
      (λ e. filter_no (λ k. nat_lt k.at (f k.by)) (record { at = at; by = by }) ks e ∙ sym (ap (λ (b : Bool). (if b then record { at = at; by = by } ∷ [] else []) ++ below f ks) e))

  listed_step : (f : ℕ → ℕ) (at : ℕ) (r : LogRecord) (e : LogEntry) (ls : List Listed) → Says listing r e → below f (map as_kept (listed ls at e)) ≡ kept_at at (event_told r) f ++ below (λ t. passed 0 (event_told r) t (f t)) (map as_kept ls)
  listed_step f at _ _ ls (says_change {by = by} {made = made} told) = ap (λ (u : ℕ). below f (record { at = at; by = u } ∷ map as_kept ls)) told.maker ∙ changed_step f at by (map as_kept ls)
  listed_step f at _ _ ls (says_restore {by = by} {position = first}) = below_less (λ k. k.by == by && nat_le first k.at) f (λ t. if t == by then min (f t) first else f t) ls (λ k. restore_lt (k.by == by) k.at (f k.by) first)
  listed_step f at _ _ ls (says_end {by = by}) = below_less (λ k. k.by == by) f (λ t. if t == by then 0 else f t) ls (λ k. gone_lt (k.by == by) k.at (f k.by))
  listed_step f at _ _ ls (says_abort {by = by}) = below_less (λ k. k.by == by) f (λ t. if t == by then 0 else f t) ls (λ k. gone_lt (k.by == by) k.at (f k.by))
  listed_step f at _ _ ls says_checkpoint = refl

  listed_are : (ls : List Listed) (ps : List Logged) → AreTold ps → AllLow ps → AreLow ls → map as_kept (list_after ls (as_entries ps)) ≡ listed_in (events ps) ++ below (front 0 (λ t. every) (events ps)) (map as_kept ls)
  listed_are ls [] told rest low = all_below ls low
  listed_are ls (p ∷ ps) told rest low =
      listed_are (listed ls p.at p.is) ps told.1 rest.1 (low_listed ls p.at p.is rest.0 low)
      ∙ ap (λ (ks : List Kept). listed_in (events ps) ++ ks) (listed_step (front 0 (λ t. every) (events ps)) p.at p.told p.is ls told.0)
      ∙ sym (append_assoc (listed_in (events ps)) (kept_at p.at (event_told p.told) (front 0 (λ t. every) (events ps))) (below (front 0 (λ t. every) (events (p ∷ ps))) (map as_kept ls)))

  pub undone_are : (older newer : List Logged) → AreTold older → AreTold newer → AllLow older → undone_in (events older) (events newer) ≡ map (λ l. l.at) (losers (as_entries newer) (lists_at (as_entries older)))
  undone_are older newer told told_newer low =
      let same : map as_kept (lists_at (as_entries older)) ≡ listed_in (events older) = listed_are [] older told low tt ∙ append-nil (listed_in (events older)) in
      ap (λ (ks : List Kept). map position (lost (surviving_below (events newer)) ks)) (sym same)
      ∙ lost_are newer (lists_at (as_entries older)) told_newer (low_lists [] older low tt)

  -- ---- what is done again

  redone_here : (at : ℕ) (r : LogRecord) (e : LogEntry) (later : List Logged) → AreTold later → at < every → Says listing r e → map position (reverse (kept_at at (event_told r) (surviving_below (events later)))) ≡ (if is_redone e at later then at ∷ [] else [])
  redone_here at _ _ later told low (says_change {by = by} {made = made} is) =
      let f : ℕ → ℕ = surviving_below (events later) in
      let same : nat_lt at (f by) ≡ survives made.by at (as_entries later) = sym (survives_below later by at told low) ∙ ap (λ (u : ℕ). survives u at (as_entries later)) (sym is.maker) in
      by_test (nat_lt at (f by))
      (λ e. ap (λ (b : Bool). map position (reverse (if b then record { at = at; by = by } ∷ [] else []))) e ∙ sym (ap (λ (b : Bool). if b then at ∷ [] else []) (sym same ∙ e)))
      (λ e. ap (λ (b : Bool). map position (reverse (if b then record { at = at; by = by } ∷ [] else []))) e ∙ sym (ap (λ (b : Bool). if b then at ∷ [] else []) (sym same ∙ e)))
  redone_here at _ _ later told low says_restore = refl
  redone_here at _ _ later told low says_end = refl
  redone_here at _ _ later told low says_abort = refl
  redone_here at _ _ later told low says_checkpoint = refl

  in_front : (b : Bool) (n : ℕ) (ns : List ℕ) → (if b then n ∷ [] else []) ++ ns ≡ (if b then n ∷ ns else ns)
  in_front true n ns = refl
  in_front false n ns = refl

  pub redone_are : (newer : List Logged) → AreTold newer → AllLow newer → redone_in (events newer) ≡ redone_at newer
  redone_are [] told low = refl
  redone_are (l ∷ later) told low =
      let here : List Kept = kept_at l.at (event_told l.told) (surviving_below (events later)) in
      ap (map position) (reverse-append (surviving_in (events later)) here)
      ∙ map-append position (reverse here) (reverse (surviving_in (events later)))
      ∙ (λ i. redone_here l.at l.told l.is later told.1 low.0 told.0 i ++ redone_are later told.1 low.1 i)
      ∙ in_front (is_redone l.is l.at later) l.at (redone_at later)
