-- What a restart adds: as many pages of the heap, and as many tuples of a relation, as the meter of the checkpoint allows.
use Rattle.std.proofs.Common.{◌≡◌, ℕ, ◌+◌, ◌≤◌, Bool, true, false, List, [], ◌∷◌, length, refl, sym, ap, arith}
use Rattle.std.specs.Prelude.{Option, not, filter, count_by}
use Rattle.std.proofs.lemmas.List.Sums.{sum_by-cons, count_by-le-length}
use Rattle.rss_base.specs.DiskRule.{Pages}
use Rattle.rss_base.specs.declared.name.Name.{Name}
use Rattle.rss_base.specs.declared.item.Item.{Item}
use Rattle.rss_model.specs.Items.{Content}
use Rattle.rss_model.specs.Tables.{Contents, put, tuple_count}
use Rattle.rss_model.specs.Changes.{Change, undone}
use Rattle.rss_model.specs.Meanings.{Logged, as_entries, is_change, is_change_of}
use Rattle.rss_model.specs.Meter.{heap_pages, counts_for, entries_most}
use Rattle.rss_model.specs.Records.{LogEntry, Changed, Restore, End, Abort, Checkpoint, Placed, Listed, changes_in}
use Rattle.rss_model.specs.Restart.{survives, stays, losers, redo, redone, restarted}
use Rattle.rss_stored.specs.Store.{Stored, listed_at, HasLog, meter_of}
use Rattle.rss_model.proofs.Counts.{one_if}
use Rattle.rss_model.proofs.LogLists.{by_test}
use Rattle.rss_stored.proofs.LogPlaced.{restarts_log}
use Rattle.rss_model.proofs.Rooming.{heap_put, put_count, undone_most}

-- ---- each change that is undone or done again counts once at most

abbrev counts_entry : (Item → Bool) → LogEntry → Bool
counts_entry counts (Changed c) = counts c.item
counts_entry counts entry = false

module _ (measure : Contents → ℕ) (counts : Item → Bool) (puts : (contents : Contents) (item : Item) (held : Option Content) → measure (put contents item held) ≤ measure contents + one_if (counts item)) where
  redo_most : (contents : Contents) (at : ℕ) (e : LogEntry) (ps : List Placed) → measure (redo contents at e ps) ≤ measure contents + one_if (counts_entry counts e)
  redo_most contents at (Changed c) ps = by_test (survives c.by at ps)
      (λ e. rw e (omega (arith, puts contents c.item c.new)))
      (λ e. rw e (omega arith))
  redo_most contents at (Restore t first) ps = omega arith
  redo_most contents at (End t) ps = omega arith
  redo_most contents at (Abort t) ps = omega arith
  redo_most contents at (Checkpoint named) ps = omega arith

  redone_most : (contents : Contents) (ls : List Logged) → measure (redone contents (as_entries ls)) ≤ measure contents + count_by (λ l. counts_entry counts l.is) ls
  redone_most contents [] = omega arith
  redone_most contents (l ∷ ls) = omega (
    arith,
    redone_most (redo contents l.at l.is (as_entries ls)) ls,
    redo_most contents l.at l.is (as_entries ls),
    sum_by-cons (λ (m : Logged). one_if (counts_entry counts m.is)) l ls,
  )

  abbrev of_changes : List Change → ℕ
  of_changes ds = count_by (λ d. counts d.item) ds

  fewer : (p : Listed → Bool) (ls : List Listed) → of_changes (changes_in (filter p ls)) ≤ of_changes (changes_in ls)
  fewer p [] = omega arith
  fewer p (l ∷ ls) =
      let all = sum_by-cons (λ (d : Change). one_if (counts d.item)) l.change (changes_in ls) in
      by_test (p l)
      (λ e. rw e (omega (arith, fewer p ls, all, sum_by-cons (λ (d : Change). one_if (counts d.item)) l.change (changes_in (filter p ls)))))
      (λ e. rw e (omega (arith, fewer p ls, all)))

  restarted_most : (contents : Contents) (lists : List Listed) (newer : List Logged) → measure (restarted contents lists (as_entries newer)) ≤ measure contents + of_changes (changes_in lists) + count_by (λ l. counts_entry counts l.is) newer
  restarted_most contents lists newer =
      let lost = losers (as_entries newer) lists in
      omega (arith, undone_most measure counts puts contents (changes_in lost), redone_most (undone contents (changes_in lost)) newer, fewer (λ l. not (stays (as_entries newer) l)) lists)

  -- over the tables of a checkpoint
  recovered_most : {pages : Pages} {is : Stored} → HasLog pages is → measure is.tables.contents ≤ measure is.saved.contents + of_changes (changes_in (listed_at is)) + count_by (λ l. counts_entry counts l.is) is.newer
  recovered_most {is = is} log = omega (arith, ap measure (restarts_log log).gives, restarted_most is.saved.contents (listed_at is) is.newer)

-- ---- so there is no more than the meter of the checkpoint allows

same_counts : (p q : LogEntry → Bool) (ls : List Logged) → ((e : LogEntry) → p e ≡ q e) → count_by (λ l. p l.is) ls ≡ count_by (λ l. q l.is) ls
same_counts p q ls same = ap (λ (test : LogEntry → Bool). count_by (λ l. test l.is) ls) (λ i e. same e i)

changes_long : (ls : List Listed) → length (changes_in ls) ≡ length ls
changes_long [] = omega arith
changes_long (l ∷ ls) = omega (arith, changes_long ls)

pub recovered_pages : {pages : Pages} {is : Stored} → HasLog pages is → heap_pages is.root.slots is.tables ≤ heap_pages is.root.slots is.saved + (meter_of is).surviving + (meter_of is).since
recovered_pages {is = is} log =
    let slots : ℕ = is.root.slots in
    let heap : Contents → ℕ = λ contents. heap_pages slots (record is.saved { contents = contents }) in
    let most = recovered_most heap (λ item. true) (λ contents item held. heap_put slots is.saved.definitions contents held item) log in
    let entries = same_counts (counts_entry (λ item. true)) is_change is.newer any in
    let same : record is.saved { contents = is.tables.contents } ≡ is.tables = λ i. record { definitions = sym log.definitions i; contents = is.tables.contents } in
    omega (arith, most, entries, ap (heap_pages slots) same, count_by-le-length (λ (d : Change). true) (changes_in (listed_at is)), changes_long (listed_at is))
  where
    any : (e : LogEntry) → counts_entry (λ item. true) e ≡ is_change e
    any (Changed c) = refl
    any (Restore t first) = refl
    any (End t) = refl
    any (Abort t) = refl
    any (Checkpoint named) = refl

pub recovered_count : {pages : Pages} {is : Stored} → HasLog pages is → (relation : Name) → tuple_count is.tables.contents relation ≤ entries_most ((meter_of is).traffic relation)
recovered_count {is = is} log relation =
    let most = recovered_most (λ contents. tuple_count contents relation) (λ item. counts_for item relation) (put_count relation) log in
    omega (arith, most, same_counts (counts_entry (λ item. counts_for item relation)) (is_change_of relation) is.newer any)
  where
    any : (e : LogEntry) → counts_entry (λ item. counts_for item relation) e ≡ is_change_of relation e
    any (Changed c) = refl
    any (Restore t first) = refl
    any (End t) = refl
    any (Abort t) = refl
    any (Checkpoint named) = refl
