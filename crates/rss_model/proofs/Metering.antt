-- What the meter says stays so with each step: there is room for all pages.
use Rattle.std.proofs.Common.{◌≡◌, inl, inr, ℕ, ◌+◌, ◌*◌, ◌≤◌, true, false, List, [], ◌∷◌, length, refl, sym, ◌∙◌, ap, subst, arith}
use Rattle.std.specs.Prelude.{nat_le, ◌==◌, map}
use Rattle.std.proofs.lemmas.Bool.{ne_eqb, eq-eqb}
use Rattle.std.proofs.lemmas.List.Sums.{sum_by-cons}
use Rattle.rss_base.specs.declared.name.Name.{Name}
use Rattle.rss_base.specs.declared.item.Item.{Item}
use Rattle.rss_model.specs.Tables.{Contents, put, tuple_count}
use Rattle.rss_model.specs.Changes.{Change, maker, own, mine, theirs, kept_to, cut_off, undone, after, Chained}
use Rattle.rss_model.specs.Meter.{Stamp, heap_pages, changes_of, counts_for}
use Rattle.rss_model.specs.Machine.{State, now}
use Rattle.rss_model.specs.Steps.{stamp_by, size_for, MayUndo}
use Rattle.rss_model.specs.Kept.{AreStamps, IsMetered, Kept}
use Rattle.rss_model.proofs.Counts.{one_if}
use Rattle.rss_model.proofs.LogLists.{by_test, by_same}
use Rattle.rss_model.proofs.LogChanging.{undone_off, undo_one, NotAt}
use Rattle.rss_model.proofs.Mixing.{In, own_here, own_off, cut_here, cut_few, cut_off_it, still_in, Lone, cut_none, at_least}
use Rattle.rss_model.proofs.Stamps.{kept_thin, kept_and_cut, alike_kept, later_end, thin_stamps}
use Rattle.rss_model.proofs.Rooming.{undone_heap, undone_count}
use Rattle.rss_model.proofs.EndKeeping.{lone_kept}

-- ---- what is cut off

module _ (t n : ℕ) where
  pub off_here : (c : Change) (cs : List Change) → c.by ≡ t → nat_le n (length (own t cs)) ≡ true → cut_off maker t n (c ∷ cs) ≡ c ∷ cut_off maker t n cs
  off_here c cs e f = let here : (c.by == t) ≡ true = eq-eqb c.by t e in rw (here, f) refl

  pub off_few : (c : Change) (cs : List Change) → nat_le n (length (own t cs)) ≡ false → cut_off maker t n (c ∷ cs) ≡ cut_off maker t n cs
  off_few c cs f = by_test (c.by == t) (λ e. rw (e, f) refl) (λ e. rw e refl)

  pub off_other : (c : Change) (cs : List Change) → (c.by ≡ t → ⊥) → cut_off maker t n (c ∷ cs) ≡ cut_off maker t n cs
  off_other c cs e = let off : (c.by == t) ≡ false = ne_eqb c.by t e in rw off refl

  off_none : (cs : List Change) → nat_le n (length (own t cs)) ≡ false → cut_off maker t n cs ≡ []
  off_none [] few = refl
  off_none (c ∷ cs) few = off_few c cs (still_in n t c cs few) ∙ off_none cs (still_in n t c cs few)

  off_not_at : (i : Item) (cs : List Change) → ((d : Change) → In d cs → d.by ≡ t → d.item ≡ i → ⊥) → NotAt i (cut_off maker t n cs)
  off_not_at i [] its = tt
  off_not_at i (c ∷ cs) its =
      let rest = off_not_at i cs (λ d is. its d (inr is)) in
      by_same c.by t
      (λ e. by_test (nat_le n (length (own t cs)))
      (λ f. subst (NotAt i) (sym (off_here c cs e f)) (its c (inl refl) e, rest))
      (λ f. subst (NotAt i) (sym (off_few c cs f)) rest))
      (λ e. subst (NotAt i) (sym (off_other c cs e)) rest)

  -- undoing what is cut off leaves what is kept
  pub undo_cut : (base : Contents) (cs : List Change) → Lone cs → Chained base cs → undone (after base cs) (cut_off maker t n cs) ≡ after base (kept_to maker t n cs)
  undo_cut base [] lone chained = refl
  undo_cut base (c ∷ cs) lone chained =
      let rest = undo_cut base cs (λ a b is also. lone a b (inr is) (inr also)) chained.1 in
      by_same c.by t
      (λ e. by_test (nat_le n (length (own t cs)))
      (λ f. ap (undone (after base (c ∷ cs))) (off_here c cs e f) ∙ ap (λ (k : Contents). undone k (cut_off maker t n cs)) (undo_one base c cs chained.0) ∙ rest ∙ ap (after base) (sym (cut_here t n c cs e f)))
      (λ f. ap (undone (after base (c ∷ cs))) (off_few c cs f ∙ off_none cs f) ∙ ap (λ (l : List Change). after base (c ∷ l)) (sym (cut_none t n cs f)) ∙ ap (after base) (sym (cut_few t n c cs f))))
      (λ e. ap (undone (after base (c ∷ cs))) (off_other c cs e)
      ∙ undone_off (after base cs) c.item c.new (cut_off maker t n cs) (off_not_at c.item cs (λ d is mine same. e (sym (lone d c (inr is) (inl refl) same) ∙ mine)))
      ∙ ap (λ (k : Contents). put k c.item c.new) rest ∙ ap (after base) (sym (cut_off_it t n c cs e)))

  pub cut_counts : (relation : Name) (cs : List Change) → changes_of (kept_to maker t n cs) relation + changes_of (cut_off maker t n cs) relation ≡ changes_of cs relation
  cut_counts relation [] = refl
  cut_counts relation (c ∷ cs) =
      let rest = cut_counts relation cs in
      let cons = λ (ds : List Change). sum_by-cons (λ (d : Change). one_if (counts_for d.item relation)) c ds in
      by_same c.by t
      (λ e. by_test (nat_le n (length (own t cs)))
      (λ f. omega (arith, rest, cons cs, cons (cut_off maker t n cs), ap (λ (l : List Change). changes_of l relation) (cut_here t n c cs e f), ap (λ (l : List Change). changes_of l relation) (off_here c cs e f)))
      (λ f. omega (arith, rest, cons cs, cons (kept_to maker t n cs), ap (λ (l : List Change). changes_of l relation) (cut_few t n c cs f), ap (λ (l : List Change). changes_of l relation) (off_few c cs f))))
      (λ e. omega (arith, rest, cons cs, cons (kept_to maker t n cs), ap (λ (l : List Change). changes_of l relation) (cut_off_it t n c cs e), ap (λ (l : List Change). changes_of l relation) (off_other c cs e)))

-- all of it
pub kept_none : {A : Type 0} (f : A → ℕ) (t : ℕ) (xs : List A) → kept_to f t 0 xs ≡ theirs f t xs
kept_none f t [] = refl
kept_none f t (x ∷ xs) = by_test (f x == t)
    (λ e. let z : nat_le 0 (length (mine f t xs)) ≡ true = at_least (length (mine f t xs)) in rw (e, z) (kept_none f t xs))
    (λ e. rw e (ap (λ (l : List _). x ∷ l) (kept_none f t xs)))

pub cut_all : (t : ℕ) (cs : List Change) → cut_off maker t 0 cs ≡ own t cs
cut_all t [] = refl
cut_all t (c ∷ cs) = by_same c.by t
    (λ e. off_here t 0 c cs e (at_least (length (own t cs))) ∙ ap (λ (l : List Change). c ∷ l) (cut_all t cs) ∙ sym (own_here t c cs e))
    (λ e. off_other t 0 c cs e ∙ cut_all t cs ∙ sym (own_off t c cs e))

-- ---- a way back

module _ {state : State} (kept : Kept state) (metered : IsMetered state) (t n size over : ℕ) (undo : MayUndo (now state) (cut_off maker t n state.changes) state.meter.over over) where
  abbrev cs : List Change
  cs = state.changes

  abbrev stamps : List Stamp
  stamps = kept_to stamp_by t n state.meter.stamps

  same_now : undone (now state).contents (cut_off maker t n cs) ≡ after state.base.contents (kept_to maker t n cs)
  same_now = undo_cut t n state.base.contents cs (lone_kept kept) kept.chained

  pub makers : map stamp_by stamps ≡ map maker (kept_to maker t n cs)
  makers = alike_kept stamp_by maker state.meter.stamps cs metered.makers t n

  pub back_heap : heap_pages state.size.slots (record state.base { contents = after state.base.contents (kept_to maker t n cs) }) + over + 2 * length (kept_to maker t n cs) ≤ state.meter.heap + 2 * state.meter.surviving + 4 * state.meter.since
  back_heap =
      let undone_at = undone_heap state.size.slots undo in
      let same = ap (λ (k : Contents). heap_pages state.size.slots (record state.base { contents = k })) same_now in
      omega (arith, undone_at, same, kept_and_cut maker t n cs, metered.heap)

  pub back_tuples : (relation : Name) → tuple_count (after state.base.contents (kept_to maker t n cs)) relation + changes_of (kept_to maker t n cs) relation ≤ (state.meter.traffic relation).entries + (state.meter.traffic relation).surviving + 2 * (state.meter.traffic relation).since
  back_tuples relation =
      let counts = undone_count relation (now state).contents (cut_off maker t n cs) in
      let same = ap (λ (k : Contents). tuple_count k relation) same_now in
      let held = metered.tuples relation in
      omega (arith, counts, same, cut_counts t n relation cs, held)

  pub back_positions : AreStamps state.meter.head (state.meter.end + size_for (cut_off maker t n cs) size) stamps
  back_positions = later_end state.meter.head state.meter.end (state.meter.end + size_for (cut_off maker t n cs) size) stamps (omega arith) (thin_stamps state.meter.head state.meter.end (kept_thin stamp_by t n state.meter.stamps) metered.positions)
