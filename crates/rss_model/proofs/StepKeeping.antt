-- Each step of the machine keeps what is to be kept, and what that says.
use Rattle.std.proofs.Common.{◌≡◌, inl, inr, ℕ, zero, suc, ◌≤◌, ◌<◌, Bool, true, false, List, [], ◌∷◌, ◌++◌, length, get_or, refl, sym, ◌∙◌, ap, subst, arith}
use Rattle.std.specs.Prelude.{Option, Some, None, All, is_some, nat_le, count_by, if◌then◌else◌}
use Rattle.std.specs.Ordering.{nat_cmp}
use Rattle.std.specs.FinMap as finite
use Rattle.std.specs.FinMap.{FinMap, get-empty, len-empty}
use Rattle.std.proofs.lemmas.Bool.{true≢false}
use Rattle.std.proofs.lemmas.List.{length-append}
use Rattle.std.proofs.lemmas.Bool.Decides.{nat_tests}
use Rattle.rss_base.specs.declared.item.Item.{Item}
use Rattle.rss_base.specs.declared.need.Mode.{Mode}
use Rattle.rss_base.specs.declared.call.Call.{Call}
use Rattle.rss_base.specs.declared.call.Call.TheVariants.{Fetch, Parent, Lock}
use Rattle.rss_model.specs.Tables.{Tables, Contents, content, tuple_count}
use Rattle.rss_model.specs.Changes.{Change, own, after, Chained, is_delete_of}
use Rattle.rss_model.specs.Fits.{Fits}
use Rattle.rss_model.specs.Locks.{claim_cmp, Locks, held}
use Rattle.rss_model.specs.Scans.{Scan, Scans}
use Rattle.rss_model.specs.Machine.{StoreSize, State, with_changes, now}
use Rattle.rss_model.specs.Needs.{needs}
use Rattle.rss_model.specs.Callers.{caller}
use Rattle.rss_model.specs.Restart.{OnlyBy}
use Rattle.rss_model.specs.Rules.{saved_now}
use Rattle.rss_model.specs.Defining.{defined, DefinesNames}
use Rattle.rss_model.specs.Steps.{is_open, refusal, locked_by, keeps_locks, redefined}
use Rattle.rss_model.specs.Steps.StepBy.{refuses, begins, saves, restores, ends, aborts, inserts, fetches, updates, deletes, connects, disconnects, finds, finds_none, opens, gives, stops, closes, locks, checkpoints, defines}
use Rattle.rss_model.specs.Kept.{up_to, IsGuarded, Kept, StepsKeep, RestKeeps, KeptFit, EachFits, FirstFindsBase, LastLeavesNow, OwnersAreAlone, StepsLeaveSize}
use Rattle.rss_model.proofs.Committing.{locked_size}
use Rattle.rss_model.proofs.LogLists.{by_same}
use Rattle.rss_model.proofs.LogChanging.{put_here, put_other}
use Rattle.rss_model.proofs.Mixing.{In, each_of, all_of, many, own_here, own_off, up_skip, up_take, still_in, with_count, count_here, count_off, at_least}
use Rattle.rss_model.proofs.OpenKeeping.{keeps_meter, keeps_granted, keeps_refused}
use Rattle.rss_model.proofs.Testing.{clears}
use Rattle.rss_model.proofs.ChangeKeeping.{base_fits, now_fits}
use Rattle.rss_model.proofs.TupleKeeping.{keeps_insert, keeps_update, keeps_delete}
use Rattle.rss_model.proofs.ChainKeeping.{keeps_connect, keeps_disconnect}
use Rattle.rss_model.proofs.EndKeeping.{keeps_begin, keeps_save, keeps_restore, keeps_abort, keeps_end, after_none, lone_kept}
use Rattle.rss_model.proofs.ScanKeeping.{keeps_opening, keeps_giving, keeps_closing}
use Rattle.rss_model.proofs.Redefining.{none_open, defined_fits}

-- ---- a definition

-- where nothing is open nothing is changed
pub none_changed : {state : State} → Kept state → state.marks ≡ finite.empty → state.changes ≡ []
none_changed {state = state} kept closed = by state.changes refl
  where
    by : (changes : List Change) → state.changes ≡ changes → changes ≡ []
    by [] is = refl
    by (change ∷ rest) is =
        let has = subst (All (λ (c : Change). is_open state c.by ≡ true)) is kept.opened in
        absurd (true≢false (sym (has 0 change (omega arith)) ∙ ap (λ (marks : FinMap nat_cmp (List ℕ)). is_some (finite.get marks change.by)) closed ∙ ap is_some (get-empty nat_cmp change.by)))

pub none_is_open : (state : State) → state.marks ≡ finite.empty → (t : ℕ) → is_open state t ≡ true → ⊥
none_is_open state closed t has = true≢false (sym has ∙ ap (λ (marks : FinMap nat_cmp (List ℕ)). is_some (finite.get marks t)) closed ∙ ap is_some (get-empty nat_cmp t))

keeps_define : {old : State} → Kept old → (call : Call) (next : Tables) → refusal old call ≡ None → DefinesNames call → defined call old.base ≡ Some next → Kept (redefined next old)
keeps_define {old = old} kept call next is names so =
    let closed = none_open old call next is so in
    let none = none_changed kept closed in
    let fits = defined_fits old (base_fits old kept.fit) call next is names so in
    record {
      few = kept.few;
      few_scans = kept.few_scans;
      opened = kept.opened;
      holders = kept.holders;
      scanners = kept.scanners;
      scanned = λ number scan relation at along. absurd (none_is_open old closed scan.by (kept.scanners number scan at));
      along = λ number scan at. absurd (none_is_open old closed scan.by (kept.scanners number scan at));
      kinds = kept.kinds;
      chained = subst (Chained next.contents) (sym none) tt;
      fit = λ counts. subst (λ (l : List Change). Fits old.size.slots (with_changes next (up_to counts l))) (sym none) fits;
      guarded = all_of (IsGuarded (redefined next old)) old.changes (λ c is_in. absurd (subst (In c) none is_in));
      apart = kept.apart;
      counted = λ relation. omega (arith, fits.few relation, ap (λ (l : List Change). tuple_count (after next.contents l) relation) none, ap (count_by (is_delete_of relation)) none);
    }

-- ---- all steps

pub steps_keep : StepsKeep
steps_keep old _ _ _ (refuses call why is) kept = keeps_refused kept call why is
steps_keep old _ _ _ (begins t is) kept = keeps_begin kept t is
steps_keep old _ _ _ (saves t marks is has) kept = keeps_save kept t marks has
steps_keep old _ _ _ (restores t save marks over is has undo) kept = keeps_restore kept t save marks over has
steps_keep old _ _ _ (ends t is) kept = keeps_end kept t
steps_keep old _ _ _ (aborts t over is undo) kept = keeps_abort kept t over
steps_keep old _ _ _ (inserts t relation values tid over is free counted) kept = keeps_insert kept t relation values tid over is free
steps_keep old _ _ _ (fetches t relation tid values is found) kept = keeps_granted kept t (needs (now old) (Fetch t relation tid)) (clears old t (Fetch t relation tid) None refl is (tt {0}))
steps_keep old _ _ _ (updates t relation tid was values over is found counted) kept = keeps_update kept t relation tid was values over is found
steps_keep old _ _ _ (deletes t relation tid was over is found counted) kept = keeps_delete kept t relation tid was over is found
steps_keep old _ _ _ (connects t link child parent spot over is counted) kept = keeps_connect kept t link child parent spot over is
steps_keep old _ _ _ (disconnects t link child item over is found counted) kept = keeps_disconnect kept t link child over is item found
steps_keep old _ _ _ (finds t link child parent item is has under) kept = keeps_granted kept t (needs (now old) (Parent t link child)) (clears old t (Parent t link child) None refl is (tt {0}))
steps_keep old _ _ _ (finds_none t link child is none) kept = keeps_granted kept t (needs (now old) (Parent t link child)) (clears old t (Parent t link child) None refl is (tt {0}))
steps_keep old _ _ _ (opens call t number path is by along low free) kept = keeps_opening kept call t number path is by along
steps_keep old _ _ _ (gives t number scan given values is has next) kept = keeps_giving kept t number scan given has
steps_keep old _ _ _ (stops t number scan is has next) kept = kept
steps_keep old _ _ _ (closes t number is) kept = keeps_closing kept number
steps_keep old _ _ _ (locks t item exclusive is granule) kept = keeps_granted kept t (needs (now old) (Lock t item exclusive)) (clears old t (Lock t item exclusive) None refl is (tt {0}))
steps_keep old _ _ _ (checkpoints is) kept = keeps_meter kept (saved_now old)
steps_keep old _ _ _ (defines call definitions is names so) kept = keeps_define kept call definitions is names so

left_size : (keeps : Bool) (by : Option ℕ) (call : Call) (old : State) → (if keeps then locked_by by call old else old).size ≡ old.size
left_size true by call old = locked_size by call old
left_size false by call old = refl

pub steps_leave_size : StepsLeaveSize
steps_leave_size old _ _ _ (refuses call why is) = left_size (keeps_locks why) (caller call) call old
steps_leave_size old _ _ _ (begins t is) = refl
steps_leave_size old _ _ _ (saves t marks is has) = refl
steps_leave_size old _ _ _ (restores t save marks over is has undo) = refl
steps_leave_size old _ _ _ (ends t is) = refl
steps_leave_size old _ _ _ (aborts t over is undo) = refl
steps_leave_size old _ _ _ (inserts t relation values tid over is free counted) = refl
steps_leave_size old _ _ _ (fetches t relation tid values is found) = refl
steps_leave_size old _ _ _ (updates t relation tid was values over is found counted) = refl
steps_leave_size old _ _ _ (deletes t relation tid was over is found counted) = refl
steps_leave_size old _ _ _ (connects t link child parent spot over is counted) = refl
steps_leave_size old _ _ _ (disconnects t link child item over is found counted) = refl
steps_leave_size old _ _ _ (finds t link child parent item is has under) = refl
steps_leave_size old _ _ _ (finds_none t link child is none) = refl
steps_leave_size old _ _ _ (opens call t number path is by along low free) = locked_size (caller call) call old
steps_leave_size old _ _ _ (gives t number scan given values is has next) = refl
steps_leave_size old _ _ _ (stops t number scan is has next) = refl
steps_leave_size old _ _ _ (closes t number is) = refl
steps_leave_size old _ _ _ (locks t item exclusive is granule) = refl
steps_leave_size old _ _ _ (checkpoints is) = refl
steps_leave_size old _ _ _ (defines call definitions is names so) = refl

-- ---- at rest

pub rest_keeps : RestKeeps
rest_keeps size tables state rest fit =
    let none = rest.none_changed in
    let fits : Fits state.size.slots state.base = subst (λ (s : StoreSize). Fits s.slots state.base) (sym rest.same_size) (subst (Fits size.slots) (sym rest.committed) fit) in
    record {
      few = omega (arith, ap finite.len rest.none_open, len-empty nat_cmp (List ℕ));
      few_scans = omega (arith, ap finite.len rest.none_scanned, len-empty nat_cmp Scan);
      opened = λ k d lt. absurd (omega (arith, lt, ap length none));
      holders = λ t item mode is. absurd (no_lock t item mode is);
      scanners = λ number scan is. absurd (no_scan number scan is);
      scanned = λ number scan relation is along. absurd (no_scan number scan is);
      along = λ number scan is. absurd (no_scan number scan is);
      kinds = λ k d lt. absurd (omega (arith, lt, ap length none));
      chained = subst (Chained state.base.contents) (sym none) (tt {0});
      fit = λ counts. subst (λ (l : List Change). Fits state.size.slots (with_changes state.base (up_to counts l))) (sym none) fits;
      guarded = λ k d lt. absurd (omega (arith, lt, ap length none));
      apart = λ t u item one other first second bad. absurd (no_lock t item one first);
      counted = λ relation. omega (arith, fits.few relation, ap (λ (l : List Change). tuple_count (after state.base.contents l) relation) none, ap (count_by (is_delete_of relation)) none);
    }
  where
    clash : {A : Type 0} {x : A} → None ≡ Some x → ⊥
    clash e = cc (e)

    no_lock : (t : ℕ) (item : Item) (mode : Mode) → held state.locks t item ≡ Some mode → ⊥
    no_lock t item mode is = clash (sym (get-empty claim_cmp _) ∙ ap (λ (l : Locks). held l t item) (sym rest.none_locked) ∙ is)

    no_scan : (number : ℕ) (scan : Scan) → finite.get state.scans number ≡ Some scan → ⊥
    no_scan number scan is = clash (sym (get-empty nat_cmp number) ∙ ap (λ (s : Scans). finite.get s number) (sym rest.none_scanned) ∙ is)

-- ---- what it says

pub kept_fit : KeptFit
kept_fit state kept = (base_fits state kept.fit, now_fits state kept.fit)

too_few : (n : ℕ) → nat_le (suc n) n ≡ false
too_few n = grind (arith, nat_tests)

not_more : (n m : ℕ) → n ≤ m → nat_le n m ≡ true
not_more n m le = grind (arith, nat_tests)

module _ (t n : ℕ) where
  abbrev only : ℕ → ℕ
  only = with_count t n (λ u. 0)

  skips_others : (c : Change) (cs : List Change) → (c.by ≡ t → ⊥) → up_to only (c ∷ cs) ≡ up_to only cs
  skips_others c cs off = up_skip only c cs (ap (λ (k : ℕ). nat_le k (length (own c.by cs))) (count_off t n c.by (λ u. 0) off) ∙ at_least (length (own c.by cs)))

  its_test : (c : Change) (cs : List Change) → c.by ≡ t → many only c.by cs ≡ nat_le n (length (own t cs))
  its_test c cs e = ap (λ (k : ℕ). nat_le k (length (own c.by cs))) (count_here t n c.by (λ u. 0) e) ∙ ap (λ (u : ℕ). nat_le n (length (own u cs))) e

  -- all of a transaction's changes
  pub own_up : (cs : List Change) → nat_le n (length (own t cs)) ≡ false → up_to (with_count t n (λ u. 0)) cs ≡ own t cs
  own_up [] few = refl
  own_up (c ∷ cs) few = by_same c.by t
      (λ e. up_take only c cs (its_test c cs e ∙ still_in n t c cs few) ∙ ap (λ (l : List Change). c ∷ l) (own_up cs (still_in n t c cs few)) ∙ sym (own_here t c cs e))
      (λ e. skips_others c cs e ∙ own_up cs (still_in n t c cs few) ∙ sym (own_off t c cs e))

-- the oldest of them
first_up : (t : ℕ) (cs newer older : List Change) → own t cs ≡ newer ++ older → up_to (with_count t (length older) (λ u. 0)) cs ≡ older
first_up t [] [] older is = is
first_up t [] (d ∷ newer) older is = absurd (cc (is))
first_up t (c ∷ cs) newer older is = by_same c.by t
    (λ e. of c cs newer e (sym (own_here t c cs e) ∙ is) (λ rest at. first_up t cs rest older at))
    (λ e. skips_others t (length older) c cs e ∙ first_up t cs newer older (sym (own_off t c cs e) ∙ is))
  where
    tail_of : {a b : Change} {l m : List Change} → a ∷ l ≡ b ∷ m → l ≡ m
    tail_of e = cc (e)

    of : (c : Change) (cs newer : List Change) → c.by ≡ t → c ∷ own t cs ≡ newer ++ older → ((rest : List Change) → own t cs ≡ rest ++ older → up_to (with_count t (length older) (λ u. 0)) cs ≡ older) → up_to (with_count t (length older) (λ u. 0)) (c ∷ cs) ≡ older
    of c cs [] e at rest =
        let few : nat_le (length older) (length (own t cs)) ≡ false = ap (λ (l : List Change). nat_le (length l) (length (own t cs))) (sym at) ∙ too_few (length (own t cs)) in
        up_take (with_count t (length older) (λ u. 0)) c cs (its_test t (length older) c cs e ∙ few) ∙ ap (λ (l : List Change). c ∷ l) (own_up t (length older) cs few) ∙ at
    of c cs (d ∷ newer) e at rest =
        let same : own t cs ≡ newer ++ older = tail_of at in
        up_skip (with_count t (length older) (λ u. 0)) c cs (its_test t (length older) c cs e ∙ not_more (length older) (length (own t cs)) (omega (arith, ap length same, length-append newer older))) ∙ rest newer same

pub each_fits : EachFits
each_fits state t kept newer older is = subst (λ (l : List Change). Fits state.size.slots (with_changes state.base l)) (first_up t state.changes newer older is) (kept.fit (with_count t (length older) (λ u. 0)))

chained_at : (base : Contents) (change : Change) (newer older : List Change) → Chained base (newer ++ change ∷ older) → change.old ≡ content (after base older) change.item
chained_at base change [] older chained = chained.0
chained_at base change (c ∷ newer) older chained = chained_at base change newer older chained.1

pub first_finds_base : FirstFindsBase
first_finds_base state change newer older kept is off =
    chained_at state.base.contents change newer older (subst (Chained state.base.contents) is kept.chained)
    ∙ after_none state.base.contents change.item older (each_of (λ other. other.item ≡ change.item → ⊥) older off)

left_at_last : (base : Contents) (change : Change) (newer older : List Change) → ((c : Change) → In c newer → c.item ≡ change.item → ⊥) → change.new ≡ content (after base (newer ++ change ∷ older)) change.item
left_at_last base change [] older off = sym (put_here (after base older) change.item change.item change.new refl)
left_at_last base change (c ∷ newer) older off = left_at_last base change newer older (λ d is. off d (inr is)) ∙ sym (put_other (after base (newer ++ change ∷ older)) c.item change.item c.new (λ e. off c (inl refl) (sym e)))

pub last_leaves_now : LastLeavesNow
last_leaves_now state change newer older kept is off =
    left_at_last state.base.contents change newer older (each_of (λ other. other.item ≡ change.item → ⊥) newer off) ∙ ap (λ (l : List Change). content (after state.base.contents l) change.item) (sym is)

in_of : {A : Type 0} (xs : List A) (x : A) (k : ℕ) → k < length xs → get_or xs k x ≡ x → In x xs
in_of [] x k lt is = absurd (omega (arith, lt))
in_of (y ∷ xs) x zero lt is = inl is
in_of (y ∷ xs) x (suc k) lt is = inr (in_of xs x k (omega (arith, lt)) is)

pub owners_are_alone : OwnersAreAlone
owners_are_alone state kept one other first second same = lone_kept kept one other (in_of state.changes one first.0 first.1 first.2) (in_of state.changes other second.0 second.1 second.2) same

-- of an item that was changed last no other transaction has a change
pub only_its_own : {state : State} → Kept state → (change : Change) (older : List Change) → state.changes ≡ change ∷ older → OnlyBy change.by change.item older
only_its_own kept change older is = by older (λ other there. there)
  where
    by : (rest : List Change) → ((other : Change) → In other rest → In other older) → OnlyBy change.by change.item rest
    by [] within = tt
    by (other ∷ rest) within = (
      lone_kept kept other change (subst (In other) (sym is) (inr (within other (inl refl)))) (subst (In change) (sym is) (inl refl)),
      by rest (λ o there. within o (inr there)),
    )
