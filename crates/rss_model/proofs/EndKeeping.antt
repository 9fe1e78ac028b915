-- What is kept where changes are taken back or committed, and where transactions begin.
use Rattle.std.proofs.Common.{◌≡◌, ◌⊎◌, inl, inr, ⊎_elim, ℕ, zero, suc, ◌+◌, ◌-◌, ◌≤◌, ◌<◌, true, false, List, [], ◌∷◌, ◌++◌, length, take, refl, sym, ◌∙◌, ap, subst, arith}
use Rattle.std.specs.Prelude.{Option, Some, None, is_some, is_none, option_and_then, not, ◌==◌, min, nat_le, count_by}
use Rattle.std.specs.Ordering.{nat_cmp, eq_by_cmp}
use Rattle.std.specs.Cmp.{nat_cmp_total}
use Rattle.std.specs.FinMap as finite
use Rattle.std.specs.FinMap.{FinMap, get-insert, get-remove, get-retain_keys, get-empty, get-entries, empty_of_len, len-insert, len-remove, len-entries, nat_cmp-IsAntisymmetric}
use Rattle.std.specs.FinMap.Entries.{find as found}
use Rattle.std.proofs.lemmas.Bool.{eqb-true, eq-eqb, leb-false, cond-true, cond-false}
use Rattle.std.proofs.lemmas.List.Sums.{sum_by-cons}
use Rattle.rss_base.specs.declared.name.Name.{Name}
use Rattle.rss_base.specs.declared.item.Item.{Item}
use Rattle.rss_base.specs.declared.item.Item.TheVariants.{Relation as RelationItem}
use Rattle.rss_base.specs.declared.need.Mode.TheVariants.{S}
use Rattle.rss_base.specs.declared.call.Call.TheVariants.{Begin}
use Rattle.rss_model.specs.Tables.{Contents, content, tuple_count}
use Rattle.rss_model.specs.Changes.{Change, IsChange, maker, own, others, kept_to, after, is_delete_of, Chained}
use Rattle.rss_model.specs.Fits.{Fits, tuple_limit}
use Rattle.rss_model.specs.Scans.{Scan, scans_most, scan_of, if_by, closed}
use Rattle.rss_model.specs.Machine.{State, with_changes}
use Rattle.rss_model.specs.Refusals.{tests, refusal}
use Rattle.rss_model.specs.Steps.{is_open, transaction_limit, left_at, begun, with_save, own_count, restored, gone, ended}
use Rattle.rss_model.specs.Kept.{up_to, IsGuarded, Kept}
use Rattle.rss_model.proofs.Contents.{tied, not_tied}
use Rattle.rss_model.proofs.Counts.{one_if}
use Rattle.rss_model.proofs.Counting.{used_in, mixed_uses}
use Rattle.rss_model.proofs.LogLists.{by_test, by_same, false_true}
use Rattle.rss_model.proofs.LogChanging.{put_other, after_frame}
use Rattle.rss_model.proofs.Locking.{released_was, released_holds, apart_released}
use Rattle.rss_model.proofs.Mixing.{In, each_of, all_of, in_filter, many, agree, others_here, others_off, up_skip, up_take, with_count, count_here, count_off, up_others, up_cut, up_end, in_cut, Lone}
use Rattle.rss_model.proofs.OpenKeeping.{guards_to, keeps_marks}
use Rattle.rss_model.proofs.Stamps.{kept_and_cut, theirs_and_mine}
use Rattle.rss_model.proofs.Testing.{all_none, holds_not}
use Rattle.rss_model.proofs.ChangeKeeping.{lone_of, guards_of, not_many}

-- ---- maps by numbers

module _ {V : Type 0} (m : FinMap nat_cmp V) (t : ℕ) where
  pub insert_here : (v : V) (u : ℕ) → u ≡ t → finite.get (finite.insert m t v) u ≡ Some v
  insert_here v u e = get-insert nat_cmp_total m t v u ∙ cond-true _ _ _ (subst (λ (k : ℕ). eq_by_cmp nat_cmp k t ≡ true) (sym e) (tied nat_cmp_total nat_cmp-IsAntisymmetric t))

  pub insert_other : (v : V) (u : ℕ) → (u ≡ t → ⊥) → finite.get (finite.insert m t v) u ≡ finite.get m u
  insert_other v u e = get-insert nat_cmp_total m t v u ∙ cond-false _ _ _ (not_tied nat_cmp_total nat_cmp-IsAntisymmetric u t e)

  pub remove_here : (u : ℕ) → u ≡ t → finite.get (finite.remove m t) u ≡ None
  remove_here u e = get-remove nat_cmp_total m t u ∙ cond-true _ _ _ (subst (λ (k : ℕ). eq_by_cmp nat_cmp k t ≡ true) (sym e) (tied nat_cmp_total nat_cmp-IsAntisymmetric t))

  pub remove_other : (u : ℕ) → (u ≡ t → ⊥) → finite.get (finite.remove m t) u ≡ finite.get m u
  remove_other u e = get-remove nat_cmp_total m t u ∙ cond-false _ _ _ (not_tied nat_cmp_total nat_cmp-IsAntisymmetric u t e)

  pub insert_some : (v : V) (u : ℕ) → is_some (finite.get m u) ≡ true → is_some (finite.get (finite.insert m t v) u) ≡ true
  insert_some v u some = by_same u t (λ e. ap is_some (insert_here v u e)) (λ e. ap is_some (insert_other v u e) ∙ some)

  pub insert_len : (v : V) → is_some (finite.get m t) ≡ true → finite.len (finite.insert m t v) ≡ finite.len m
  insert_len v some = len-insert nat_cmp_total m t v ∙ cond-true _ _ _ some

  pub insert_more : (v : V) → finite.len (finite.insert m t v) ≤ finite.len m + 1
  insert_more v = by_test (finite.contains_key m t)
      (λ e. omega (arith, len-insert nat_cmp_total m t v, cond-true _ (finite.len m) (finite.len m + 1) e))
      (λ e. omega (arith, len-insert nat_cmp_total m t v, cond-false _ (finite.len m) (finite.len m + 1) e))

  pub remove_len : finite.len (finite.remove m t) ≤ finite.len m
  remove_len = by_test (finite.contains_key m t)
      (λ e. omega (arith, len-remove nat_cmp_total m t, cond-true _ (finite.len m - 1) (finite.len m) e))
      (λ e. omega (arith, len-remove nat_cmp_total m t, cond-false _ (finite.len m - 1) (finite.len m) e))

-- a part of a map is no longer
module _ {V : Type 0} where
  some_len : (m : FinMap nat_cmp V) (k : ℕ) (v : V) → finite.get m k ≡ Some v → 1 ≤ finite.len m
  some_len m k v is = by (finite.len m) refl
    where
      by : (n : ℕ) → finite.len m ≡ n → 1 ≤ n
      by zero e = absurd (none_some (sym (get-empty nat_cmp k) ∙ ap (λ (l : FinMap nat_cmp V). finite.get l k) (sym (empty_of_len m e)) ∙ is))
        where
          none_some : {x : V} → None ≡ Some x → ⊥
          none_some e = cc (e)
      by (suc n) e = omega arith

  pub len_less : (m : FinMap nat_cmp V) (k : ℕ) (v : V) → finite.get m k ≡ Some v → finite.len (finite.remove m k) + 1 ≡ finite.len m
  len_less m k v is = omega (arith, len-remove nat_cmp_total m k, cond-true _ (finite.len m - 1) (finite.len m) (ap is_some is), some_len m k v is)

  first_entry : (m : FinMap nat_cmp V) → (finite.len m ≡ 0) ⊎ ((k : ℕ) × (v : V) × (finite.get m k ≡ Some v))
  first_entry m = by (finite.entries m) refl
    where
      by : (es : List (ℕ × V)) → finite.entries m ≡ es → (finite.len m ≡ 0) ⊎ ((k : ℕ) × (v : V) × (finite.get m k ≡ Some v))
      by [] e = inl (len-entries m ∙ ap length e)
      by (p ∷ es) e = inr (p.0, p.1, get-entries m p.0 ∙ ap (found nat_cmp p.0) e ∙ cond-true _ _ _ (tied nat_cmp_total nat_cmp-IsAntisymmetric p.0))

  pub part_len : (n : ℕ) (a b : FinMap nat_cmp V) → finite.len b ≤ n → ((k : ℕ) (v : V) → finite.get a k ≡ Some v → finite.get b k ≡ Some v) → finite.len a ≤ finite.len b
  part_len zero a b short part = ⊎_elim (λ e. omega (arith, e)) (λ some. absurd (omega (arith, short, some_len b some.0 some.1 (part some.0 some.1 some.2)))) (first_entry a)
  part_len (suc n) a b short part = ⊎_elim (λ e. omega (arith, e))
      (λ some.
      let there = part some.0 some.1 some.2 in
      let less = len_less b some.0 some.1 there in
      let rest = part_len n (finite.remove a some.0) (finite.remove b some.0) (omega (arith, short, less)) (λ k v is. by_same k some.0
      (λ e. absurd (clash (sym (remove_here a some.0 k e) ∙ is)))
      (λ e. remove_other b some.0 k e ∙ part k v (sym (remove_other a some.0 k e) ∙ is))) in
      omega (arith, less, rest, len_less a some.0 some.1 some.2))
      (first_entry a)
    where
      clash : {x : V} → None ≡ Some x → ⊥
      clash e = cc (e)

-- ---- parts of the changes as mixtures

pub up_every : (counts : ℕ → ℕ) (cs : List Change) → ((u : ℕ) → length cs < counts u) → up_to counts cs ≡ cs
up_every counts [] more = refl
up_every counts (c ∷ cs) more = up_take counts c cs (not_many (counts c.by) c.by cs (less c.by)) ∙ ap (λ (l : List Change). c ∷ l) (up_every counts cs less)
  where
    less : (u : ℕ) → length cs < counts u
    less u = let m = more u in omega (arith, m)

module _ (t : ℕ) (cs : List Change) where
  abbrev all : ℕ → ℕ
  all u = length cs + 1

  pub others_short : length (others t cs) ≤ length cs
  others_short = omega (arith, theirs_and_mine maker t cs)

  pub others_mixed : others t cs ≡ up_to (with_count t 0 all) cs
  others_mixed = sym (up_every all (others t cs) (λ u. omega (arith, others_short))) ∙ up_others t all cs

  pub cut_mixed : (n : ℕ) → kept_to maker t n cs ≡ up_to (with_count t (min (length cs + 1) n) all) cs
  cut_mixed n = sym (up_every all (kept_to maker t n cs) (λ u. omega (arith, kept_and_cut maker t n cs))) ∙ up_cut t n all cs

  pub end_now : (base : Contents) → Lone cs → after (after base (own t cs)) (others t cs) ≡ after base cs
  end_now base lone =
      ap (after (after base (own t cs))) (sym (up_every all (others t cs) (λ u. omega (arith, others_short))))
      ∙ up_end base t (length cs + 1) all cs lone (not_many (length cs + 1) t cs (omega arith))
      ∙ ap (after base) (up_every (with_count t (length cs + 1) all) cs (λ u. by_same u t
      (λ e. omega (arith, count_here t (length cs + 1) u all e))
      (λ e. omega (arith, count_off t (length cs + 1) u all e))))

pub chained_up : (base : Contents) (counts : ℕ → ℕ) (cs : List Change) → Lone cs → Chained base cs → Chained base (up_to counts cs)
chained_up base counts [] lone chained = chained
chained_up base counts (c ∷ cs) lone chained =
    let rest = chained_up base counts cs (λ a b is also. lone a b (inr is) (inr also)) chained.1 in
    by_test (many counts c.by cs)
    (λ e. subst (Chained base) (sym (up_skip counts c cs e)) rest)
    (λ e. subst (Chained base) (sym (up_take counts c cs e)) (
      chained.0 ∙ sym (agree base c.by counts (λ o. o) c.item cs e chained.1 (λ d is at off. absurd (off (lone d c (inr is) (inl refl) at)))),
      rest,
    ))

pub after_none : (base : Contents) (i : Item) (cs : List Change) → ((c : Change) → In c cs → c.item ≡ i → ⊥) → content (after base cs) i ≡ content base i
after_none base i [] off = refl
after_none base i (c ∷ cs) off = put_other (after base cs) c.item i c.new (λ e. off c (inl refl) (sym e)) ∙ after_none base i cs (λ d is. off d (inr is))

pub rebased : (a b : Contents) (cs : List Change) → ((c : Change) → In c cs → content a c.item ≡ content b c.item) → Chained b cs → Chained a cs
rebased a b [] same chained = chained
rebased a b (c ∷ cs) same chained = (chained.0 ∙ sym (after_frame a b cs c.item (same c (inl refl))), rebased a b cs (λ d is. same d (inr is)) chained.1)

fewer_deletes : (relation : Name) (t : ℕ) (cs : List Change) → count_by (is_delete_of relation) (others t cs) ≤ count_by (is_delete_of relation) cs
fewer_deletes relation t [] = omega arith
fewer_deletes relation t (c ∷ cs) =
    let more = sum_by-cons (λ (d : Change). one_if (is_delete_of relation d)) c cs in
    by_same c.by t
    (λ e. omega (arith, ap (count_by (is_delete_of relation)) (others_here t c cs e), fewer_deletes relation t cs, more))
    (λ e. omega (arith, ap (count_by (is_delete_of relation)) (others_off t c cs e), fewer_deletes relation t cs, more, sum_by-cons (λ (d : Change). one_if (is_delete_of relation d)) c (others t cs)))

pub in_others : (t : ℕ) (cs : List Change) (c : Change) → In c (others t cs) → In c cs × (c.by ≡ t → ⊥)
in_others t cs c is = let of = in_filter (λ (k : Change). not (k.by == t)) cs c is in (of.0, (λ e. false_true (of.1) (ap not (eq-eqb c.by t e))))

pub in_own : (t : ℕ) (cs : List Change) (c : Change) → In c (own t cs) → In c cs × (c.by ≡ t)
in_own t cs c is = let of = in_filter (λ (k : Change). k.by == t) cs c is in (of.0, eqb-true c.by t of.1)

pub lone_kept : {state : State} → Kept state → Lone state.changes
lone_kept {state = state} kept = lone_of state.locks state.changes kept.apart (λ c is. (guards_of kept c is).item)

-- ---- begin, save and restore

pub keeps_begin : {old : State} → Kept old → (t : ℕ) → refusal old (Begin t) ≡ None → Kept (begun t old)
keeps_begin {old = old} kept t is =
    let passed = all_none (tests old (Begin t)) is in
    let few : nat_le transaction_limit (finite.len old.marks) ≡ false = holds_not (nat_le transaction_limit (finite.len old.marks)) _ (passed 1 None (omega arith)) in
    keeps_marks kept (finite.insert old.marks t []) (omega (arith, insert_more old.marks t [], leb-false transaction_limit (finite.len old.marks) few)) (λ u was. insert_some old.marks t [] u was)

pub keeps_save : {old : State} → Kept old → (t : ℕ) (marks : List ℕ) → finite.get old.marks t ≡ Some marks → Kept (with_save t marks old)
keeps_save {old = old} kept t marks has =
    keeps_marks kept (finite.insert old.marks t (marks ++ own_count old t ∷ [])) (omega (arith, insert_len old.marks t (marks ++ own_count old t ∷ []) (ap is_some has), kept.few)) (λ u was. insert_some old.marks t _ u was)

module _ {old : State} (kept : Kept old) (t : ℕ) where
  uses_less : (relation : Name) (counts : ℕ → ℕ) (ds : List Change) → ds ≡ up_to counts old.changes → used_in relation old.base.contents ds ≤ tuple_limit
  uses_less relation counts ds same = omega (arith, ap (used_in relation old.base.contents) same, mixed_uses relation old.base.contents counts old.changes (lone_kept kept) kept.chained, kept.counted relation)

  chained_less : (counts : ℕ → ℕ) (ds : List Change) → ds ≡ up_to counts old.changes → Chained old.base.contents ds
  chained_less counts ds same = subst (Chained old.base.contents) (sym same) (chained_up old.base.contents counts old.changes (lone_kept kept) kept.chained)

  pub keeps_restore : (save : ℕ) (marks : List ℕ) (over : ℕ) → finite.get old.marks t ≡ Some marks → Kept (restored t save marks over old)
  keeps_restore save marks over has =
      let n : ℕ = left_at marks save in
      let new : State = restored t save marks over old in
      let still = λ (u : ℕ) (was : is_open old u ≡ true). insert_some old.marks t (take save marks) u was in
      record {
        few = omega (arith, insert_len old.marks t (take save marks) (ap is_some has), kept.few);
        few_scans = kept.few_scans;
        opened = all_of (λ c. is_open new c.by ≡ true) new.changes (λ c is. still c.by (each_of (λ k. is_open old k.by ≡ true) old.changes kept.opened c (in_cut t n old.changes c is)));
        holders = λ u i m is. still u (kept.holders u i m is);
        scanners = λ number scan is. still scan.by (kept.scanners number scan is);
        scanned = kept.scanned;
        along = kept.along;
        kinds = all_of IsChange new.changes (λ c is. each_of IsChange old.changes kept.kinds c (in_cut t n old.changes c is));
        chained = chained_less _ new.changes (cut_mixed t old.changes n);
        fit = λ counts. subst (λ (l : List Change). Fits old.size.slots (with_changes old.base l)) (sym (up_cut t n counts old.changes)) (kept.fit (with_count t (min (counts t) n) counts));
        guarded = all_of (IsGuarded new) new.changes (λ c is. guards_to old new c refl (λ i m hold. hold) (guards_of kept c (in_cut t n old.changes c is)));
        apart = kept.apart;
        counted = λ relation. uses_less relation _ new.changes (cut_mixed t old.changes n);
      }

  -- ---- end and abort

  scan_left : (number : ℕ) (scan : Scan) → finite.get (closed t old.scans) number ≡ Some scan → (finite.get old.scans number ≡ Some scan) × (scan.by ≡ t → ⊥)
  scan_left number scan is =
      let found = get-retain_keys old.scans (λ k. is_none (scan_of old.scans t k)) number (λ x tie. ap (λ (k : ℕ). is_none (scan_of old.scans t k)) (sym (nat_cmp-IsAntisymmetric number x tie))) in
      by_test (is_none (scan_of old.scans t number))
      (λ e. let was : finite.get old.scans number ≡ Some scan = sym (found ∙ cond-true _ _ _ e) ∙ is in (was, λ same. false_true e (ap (λ (o : Option Scan). is_none (option_and_then (if_by t) o)) was ∙ mine scan same)))
      (λ e. absurd (none_some (sym (found ∙ cond-false _ _ _ e) ∙ is)))
    where
      none_some : {A : Type 0} {x : A} → None ≡ Some x → ⊥
      none_some e = cc (e)

      mine : (s : Scan) → s.by ≡ t → is_none (if_by t s) ≡ false
      mine s same = let here : (s.by == t) ≡ true = eq-eqb s.by t same in rw here refl

  scans_fewer : finite.len (closed t old.scans) ≤ scans_most
  scans_fewer = omega (arith, less, kept.few_scans)
    where
      less : finite.len (closed t old.scans) ≤ finite.len old.scans
      less = part_len (finite.len old.scans) (closed t old.scans) old.scans (omega arith) (λ number scan is. (scan_left number scan is).0)

  still_open : (u : ℕ) → (u ≡ t → ⊥) → is_open old u ≡ true → is_some (finite.get (finite.remove old.marks t) u) ≡ true
  still_open u off was = ap is_some (remove_other old.marks t u off) ∙ was

  pub keeps_abort : (over : ℕ) → Kept (gone t over old)
  keeps_abort over =
      let new : State = gone t over old in
      record {
        few = omega (arith, remove_len old.marks t, kept.few);
        few_scans = scans_fewer;
        opened = all_of (λ c. is_open new c.by ≡ true) new.changes (λ c is. let of = in_others t old.changes c is in still_open c.by of.1 (each_of (λ k. is_open old k.by ≡ true) old.changes kept.opened c of.0));
        holders = λ u i m is. let was = released_was t u old.locks i m is in still_open u was.0 (kept.holders u i m was.1);
        scanners = λ number scan is. let was = scan_left number scan is in still_open scan.by was.1 (kept.scanners number scan was.0);
        scanned = λ number scan relation is at. let was = scan_left number scan is in released_holds t scan.by old.locks (RelationItem relation) S was.1 (kept.scanned number scan relation was.0 at);
        along = λ number scan is. kept.along number scan (scan_left number scan is).0;
        kinds = all_of IsChange new.changes (λ c is. each_of IsChange old.changes kept.kinds c (in_others t old.changes c is).0);
        chained = chained_less _ new.changes (others_mixed t old.changes);
        fit = λ counts. subst (λ (l : List Change). Fits old.size.slots (with_changes old.base l)) (sym (up_others t counts old.changes)) (kept.fit (with_count t 0 counts));
        guarded = all_of (IsGuarded new) new.changes (λ c is. let of = in_others t old.changes c is in guards_to old new c refl (λ i m hold. released_holds t c.by old.locks i m of.1 hold) (guards_of kept c of.0));
        apart = apart_released t old.locks kept.apart;
        counted = λ relation. uses_less relation _ new.changes (others_mixed t old.changes);
      }

  pub keeps_end : Kept (ended t old)
  keeps_end =
      let new : State = ended t old in
      let aborted = keeps_abort old.meter.over in
      record {
        few = aborted.few;
        few_scans = aborted.few_scans;
        opened = aborted.opened;
        holders = aborted.holders;
        scanners = aborted.scanners;
        scanned = aborted.scanned;
        along = aborted.along;
        kinds = aborted.kinds;
        chained = rebased (after old.base.contents (own t old.changes)) old.base.contents new.changes
            (λ c is. let of = in_others t old.changes c is in after_none old.base.contents c.item (own t old.changes) (λ d mine same. let its = in_own t old.changes d mine in of.1 (sym (lone_kept kept d c its.0 of.0 same) ∙ its.1))) aborted.chained;
        fit = λ counts. subst (λ (m : Contents). Fits old.size.slots (record old.base { contents = m }))
            (sym (up_end old.base.contents t (length old.changes + 1) counts old.changes (lone_kept kept) (not_many (length old.changes + 1) t old.changes (omega arith))))
            (kept.fit (with_count t (length old.changes + 1) counts));
        guarded = all_of (IsGuarded new) new.changes (λ c is. guards_to (gone t old.meter.over old) new c refl (λ i m hold. hold) (each_of (IsGuarded (gone t old.meter.over old)) new.changes aborted.guarded c is));
        apart = aborted.apart;
        counted = λ relation. omega (arith, ap (λ (m : Contents). tuple_count m relation) (end_now t old.changes old.base.contents (lone_kept kept)), fewer_deletes relation t old.changes, kept.counted relation);
      }
