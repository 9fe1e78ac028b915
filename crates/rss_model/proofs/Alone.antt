-- A transaction with nothing of others.
use Rattle.std.proofs.Common.{◌≡◌, ℕ, true, false, List, [], ◌∷◌, length, refl, sym, ◌∙◌, ap}
use Rattle.std.specs.Prelude.{Option, Some, None, is_some, is_none, option_and_then, ◌==◌, nat_le, if◌then◌else◌}
use Rattle.std.specs.Ordering.{nat_cmp}
use Rattle.std.specs.Cmp.{nat_cmp_total}
use Rattle.std.specs.FinMap as finite
use Rattle.std.specs.FinMap.{FinMap, get-empty, get-retain_keys, same_map, nat_cmp-IsAntisymmetric}
use Rattle.std.proofs.lemmas.Bool.{ne_eqb, eq-eqb}
use Rattle.rss_base.specs.declared.item.Item.{Item}
use Rattle.rss_base.specs.declared.need.Need.{Need}
use Rattle.rss_base.specs.declared.need.Mode.{Mode}
use Rattle.rss_model.specs.Tables.{Tables, Contents}
use Rattle.rss_model.specs.Changes.{Change, maker, own, others, kept_to}
use Rattle.rss_model.specs.Locks.{Claim, claim_cmp, claim, Locks, held, with_mode, with_lock, granted, released}
use Rattle.rss_model.specs.Scans.{Scan, Scans, if_by, scan_of, closed}
use Rattle.rss_model.specs.Meter.{Meter}
use Rattle.rss_model.specs.Machine.{StoreSize, State}
use Rattle.rss_model.proofs.LogLists.{by_test, by_same}
use Rattle.rss_model.proofs.LogChanging.{by_item}
use Rattle.rss_model.proofs.Locking.{claim_total, claim_apart, held_here, held_there, released_others, held_released}
use Rattle.rss_model.proofs.Mixing.{own_here, own_off, others_here, others_off, cut_here, cut_few, cut_off_it}
use Rattle.rss_model.proofs.EndKeeping.{insert_here, insert_other, remove_here, remove_other}

abbrev pub Marks : Type 0
Marks = FinMap nat_cmp (List ℕ)

abbrev pub only_marks : ℕ → Marks → Marks
only_marks t marks = finite.retain_keys marks (λ k. k == t)

abbrev pub only_locks : ℕ → Locks → Locks
only_locks t locks = finite.retain_keys locks (λ c. c.by == t)

abbrev pub only_scans : ℕ → Scans → Scans
only_scans t scans = finite.retain_keys scans (λ k. is_some (scan_of scans t k))

-- with nothing of others, on other contents
abbrev pub alone : ℕ → Contents → Meter → State → State
alone t contents meter state = record {
  size = state.size;
  base = record { definitions = state.base.definitions; contents = contents };
  changes = own t state.changes;
  marks = only_marks t state.marks;
  locks = only_locks t state.locks;
  scans = only_scans t state.scans;
  meter = meter;
}

-- with nothing of anyone
abbrev pub shut : StoreSize → Tables → Meter → State
shut size base meter = record { size = size; base = base; changes = []; marks = finite.empty; locks = finite.empty; scans = finite.empty; meter = meter }

abbrev pub state_of : StoreSize → Tables → Meter → List Change → Marks → Locks → Scans → State
state_of size base meter changes marks locks scans = record { size = size; base = base; changes = changes; marks = marks; locks = locks; scans = scans; meter = meter }

pub state_is : (size : StoreSize) (base : Tables) (meter : Meter) {c d : List Change} {k n : Marks} {l o : Locks} {p q : Scans} → c ≡ d → k ≡ n → l ≡ o → p ≡ q
    → state_of size base meter c k l p ≡ state_of size base meter d n o q
state_is size base meter changes marks locks scans = λ i. state_of size base meter (changes i) (marks i) (locks i) (scans i)

-- ---- save points

module _ (t : ℕ) (marks : Marks) where
  marks_found : (u : ℕ) → finite.get (only_marks t marks) u ≡ (if u == t then finite.get marks u else None)
  marks_found u = get-retain_keys marks (λ k. k == t) u (λ x tie. ap (λ (n : ℕ). n == t) (sym (nat_cmp-IsAntisymmetric u x tie)))

  pub marks_here : (u : ℕ) → u ≡ t → finite.get (only_marks t marks) u ≡ finite.get marks u
  marks_here u e = marks_found u ∙ rw (eq-eqb u t e)

  pub marks_off : (u : ℕ) → (u ≡ t → ⊥) → finite.get (only_marks t marks) u ≡ None
  marks_off u e = marks_found u ∙ rw (ne_eqb u t e)

same_marks : (a b : Marks) → ((u : ℕ) → finite.get a u ≡ finite.get b u) → a ≡ b
same_marks a b same = same_map nat_cmp_total nat_cmp-IsAntisymmetric a b same

pub marks_set : (t : ℕ) (marks : Marks) (v : List ℕ) → finite.insert (only_marks t marks) t v ≡ only_marks t (finite.insert marks t v)
marks_set t marks v = same_marks _ _ (λ u. by_same u t
    (λ e. insert_here (only_marks t marks) t v u e ∙ sym (marks_here t (finite.insert marks t v) u e ∙ insert_here marks t v u e))
    (λ e. insert_other (only_marks t marks) t v u e ∙ marks_off t marks u e ∙ sym (marks_off t (finite.insert marks t v) u e)))

pub marks_unset : (t u : ℕ) (marks : Marks) (v : List ℕ) → (u ≡ t → ⊥) → only_marks u (finite.insert marks t v) ≡ only_marks u marks
marks_unset t u marks v off = same_marks _ _ (λ k. by_same k u
    (λ e. marks_here u (finite.insert marks t v) k e ∙ insert_other marks t v k (λ f. off (sym e ∙ f)) ∙ sym (marks_here u marks k e))
    (λ e. marks_off u (finite.insert marks t v) k e ∙ sym (marks_off u marks k e)))

pub marks_left : (t u : ℕ) (marks : Marks) → (u ≡ t → ⊥) → only_marks u (finite.remove marks t) ≡ only_marks u marks
marks_left t u marks off = same_marks _ _ (λ k. by_same k u
    (λ e. marks_here u (finite.remove marks t) k e ∙ remove_other marks t k (λ f. off (sym e ∙ f)) ∙ sym (marks_here u marks k e))
    (λ e. marks_off u (finite.remove marks t) k e ∙ sym (marks_off u marks k e)))

pub marks_end : (t : ℕ) (marks : Marks) → finite.remove (only_marks t marks) t ≡ finite.empty
marks_end t marks = same_marks _ _ (λ u. by_same u t
    (λ e. remove_here (only_marks t marks) t u e ∙ sym (get-empty nat_cmp u))
    (λ e. remove_other (only_marks t marks) t u e ∙ marks_off t marks u e ∙ sym (get-empty nat_cmp u)))

-- ---- locks

module _ (t : ℕ) (locks : Locks) where
  locks_found : (u : ℕ) (i : Item) → held (only_locks t locks) u i ≡ (if u == t then held locks u i else None)
  locks_found u i = get-retain_keys locks (λ c. c.by == t) (claim u i) (λ x tie. ap (λ (c : Claim). c.by == t) (sym (claim_apart (claim u i) x tie)))

  pub locks_here : (u : ℕ) (i : Item) → u ≡ t → held (only_locks t locks) u i ≡ held locks u i
  locks_here u i e = locks_found u i ∙ rw (eq-eqb u t e)

  pub locks_off : (u : ℕ) (i : Item) → (u ≡ t → ⊥) → held (only_locks t locks) u i ≡ None
  locks_off u i e = locks_found u i ∙ rw (ne_eqb u t e)

same_locks : (a b : Locks) → ((u : ℕ) (i : Item) → held a u i ≡ held b u i) → a ≡ b
same_locks a b same = same_map claim_total claim_apart a b (λ c. same c.by c.item)

lock_set : (t : ℕ) (need : Need) (locks : Locks) → with_lock t need (only_locks t locks) ≡ only_locks t (with_lock t need locks)
lock_set t need locks = same_locks _ _ (λ u i. by_same u t
    (λ e. by_item i need.item
    (λ f. (λ k. held (with_lock t need (only_locks t locks)) (e k) (f k)) ∙ held_here t need (only_locks t locks) ∙ ap (λ (o : Option Mode). Some (with_mode o need.mode)) (locks_here t locks t need.item refl)
    ∙ sym (locks_here t (with_lock t need locks) u i e ∙ (λ k. held (with_lock t need locks) (e k) (f k)) ∙ held_here t need locks))
    (λ f. held_there t need (only_locks t locks) u i (λ g. f) ∙ locks_here t locks u i e ∙ sym (locks_here t (with_lock t need locks) u i e ∙ held_there t need locks u i (λ g. f))))
    (λ e. held_there t need (only_locks t locks) u i (λ g h. e g) ∙ locks_off t locks u i e ∙ sym (locks_off t (with_lock t need locks) u i e)))

pub lock_unset : (t u : ℕ) (need : Need) (locks : Locks) → (u ≡ t → ⊥) → only_locks u (with_lock t need locks) ≡ only_locks u locks
lock_unset t u need locks off = same_locks _ _ (λ v i. by_same v u
    (λ e. locks_here u (with_lock t need locks) v i e ∙ held_there t need locks v i (λ f g. off (sym e ∙ f)) ∙ sym (locks_here u locks v i e))
    (λ e. locks_off u (with_lock t need locks) v i e ∙ sym (locks_off u locks v i e)))

pub locks_set : (t : ℕ) (needs : List Need) (locks : Locks) → granted t needs (only_locks t locks) ≡ only_locks t (granted t needs locks)
locks_set t [] locks = refl
locks_set t (need ∷ needs) locks = ap (granted t needs) (lock_set t need locks) ∙ locks_set t needs (with_lock t need locks)

pub locks_unset : (t u : ℕ) (needs : List Need) (locks : Locks) → (u ≡ t → ⊥) → only_locks u (granted t needs locks) ≡ only_locks u locks
locks_unset t u [] locks off = refl
locks_unset t u (need ∷ needs) locks off = locks_unset t u needs (with_lock t need locks) off ∙ lock_unset t u need locks off

pub locks_left : (t u : ℕ) (locks : Locks) → (u ≡ t → ⊥) → only_locks u (released t locks) ≡ only_locks u locks
locks_left t u locks off = same_locks _ _ (λ v i. by_same v u
    (λ e. locks_here u (released t locks) v i e ∙ released_others t v locks i (λ f. off (sym e ∙ f)) ∙ sym (locks_here u locks v i e))
    (λ e. locks_off u (released t locks) v i e ∙ sym (locks_off u locks v i e)))

pub locks_end : (t : ℕ) (locks : Locks) → released t (only_locks t locks) ≡ finite.empty
locks_end t locks = same_locks _ _ (λ v i. by_same v t
    (λ e. held_released t v (only_locks t locks) i ∙ rw (eq-eqb v t e) (sym (get-empty claim_cmp (claim v i))))
    (λ e. released_others t v (only_locks t locks) i e ∙ locks_off t locks v i e ∙ sym (get-empty claim_cmp (claim v i))))

-- ---- scans

if_twice : (t : ℕ) (o : Option Scan) → option_and_then (if_by t) (option_and_then (if_by t) o) ≡ option_and_then (if_by t) o
if_twice t None = refl
if_twice t (Some scan) = by_test (scan.by == t) (λ e. rw (e, e) refl) (λ e. rw e refl)

pub if_mine : (t : ℕ) (scan : Scan) → scan.by ≡ t → if_by t scan ≡ Some scan
if_mine t scan e = let here : (scan.by == t) ≡ true = eq-eqb scan.by t e in rw here refl

pub if_not : (t : ℕ) (scan : Scan) → (scan.by ≡ t → ⊥) → if_by t scan ≡ None
if_not t scan e = let off : (scan.by == t) ≡ false = ne_eqb scan.by t e in rw off refl

module _ (t : ℕ) (scans : Scans) where
  pub scans_at : (n : ℕ) → finite.get (only_scans t scans) n ≡ scan_of scans t n
  scans_at n = get-retain_keys scans (λ k. is_some (scan_of scans t k)) n (λ x tie. ap (λ (k : ℕ). is_some (scan_of scans t k)) (sym (nat_cmp-IsAntisymmetric n x tie))) ∙ by (finite.get scans n)
    where
      by : (o : Option Scan) → (if is_some (option_and_then (if_by t) o) then o else None) ≡ option_and_then (if_by t) o
      by None = refl
      by (Some scan) = by_test (scan.by == t) (λ e. rw e refl) (λ e. rw e refl)

  pub scan_alone : (n : ℕ) → scan_of (only_scans t scans) t n ≡ scan_of scans t n
  scan_alone n = ap (option_and_then (if_by t)) (scans_at n) ∙ if_twice t (finite.get scans n)

same_scans : (a b : Scans) → ((n : ℕ) → finite.get a n ≡ finite.get b n) → a ≡ b
same_scans a b same = same_map nat_cmp_total nat_cmp-IsAntisymmetric a b same

pub scans_set : (t n : ℕ) (scan : Scan) (scans : Scans) → scan.by ≡ t → finite.insert (only_scans t scans) n scan ≡ only_scans t (finite.insert scans n scan)
scans_set t n scan scans mine = same_scans _ _ (λ k. by_same k n
    (λ e. insert_here (only_scans t scans) n scan k e ∙ sym (scans_at t (finite.insert scans n scan) k ∙ ap (option_and_then (if_by t)) (insert_here scans n scan k e) ∙ if_mine t scan mine))
    (λ e. insert_other (only_scans t scans) n scan k e ∙ scans_at t scans k ∙ sym (scans_at t (finite.insert scans n scan) k ∙ ap (option_and_then (if_by t)) (insert_other scans n scan k e))))

-- a number that isn't another's
pub scans_unset : (t u n : ℕ) (scan : Scan) (scans : Scans) → scan.by ≡ t → (u ≡ t → ⊥) → scan_of scans u n ≡ None → only_scans u (finite.insert scans n scan) ≡ only_scans u scans
scans_unset t u n scan scans mine off free = same_scans _ _ (λ k. by_same k n
    (λ e. scans_at u (finite.insert scans n scan) k ∙ ap (option_and_then (if_by u)) (insert_here scans n scan k e) ∙ if_not u scan (λ f. off (sym f ∙ mine)) ∙ sym (scans_at u scans k ∙ ap (scan_of scans u) e ∙ free))
    (λ e. scans_at u (finite.insert scans n scan) k ∙ ap (option_and_then (if_by u)) (insert_other scans n scan k e) ∙ sym (scans_at u scans k)))

pub scans_cut : (t n : ℕ) (scans : Scans) → finite.remove (only_scans t scans) n ≡ only_scans t (finite.remove scans n)
scans_cut t n scans = same_scans _ _ (λ k. by_same k n
    (λ e. remove_here (only_scans t scans) n k e ∙ sym (scans_at t (finite.remove scans n) k ∙ ap (option_and_then (if_by t)) (remove_here scans n k e)))
    (λ e. remove_other (only_scans t scans) n k e ∙ scans_at t scans k ∙ sym (scans_at t (finite.remove scans n) k ∙ ap (option_and_then (if_by t)) (remove_other scans n k e))))

pub scans_uncut : (u n : ℕ) (scans : Scans) → scan_of scans u n ≡ None → only_scans u (finite.remove scans n) ≡ only_scans u scans
scans_uncut u n scans free = same_scans _ _ (λ k. by_same k n
    (λ e. scans_at u (finite.remove scans n) k ∙ ap (option_and_then (if_by u)) (remove_here scans n k e) ∙ sym (scans_at u scans k ∙ ap (scan_of scans u) e ∙ free))
    (λ e. scans_at u (finite.remove scans n) k ∙ ap (option_and_then (if_by u)) (remove_other scans n k e) ∙ sym (scans_at u scans k)))

closed_found : (t n : ℕ) (scans : Scans) → finite.get (closed t scans) n ≡ (if is_none (scan_of scans t n) then finite.get scans n else None)
closed_found t n scans = get-retain_keys scans (λ k. is_none (scan_of scans t k)) n (λ x tie. ap (λ (k : ℕ). is_none (scan_of scans t k)) (sym (nat_cmp-IsAntisymmetric n x tie)))

pub scans_left : (t u : ℕ) (scans : Scans) → (u ≡ t → ⊥) → only_scans u (closed t scans) ≡ only_scans u scans
scans_left t u scans off = same_scans _ _ (λ n. scans_at u (closed t scans) n ∙ ap (option_and_then (if_by u)) (closed_found t n scans) ∙ by (finite.get scans n) ∙ sym (scans_at u scans n))
  where
    by : (o : Option Scan) → option_and_then (if_by u) (if is_none (option_and_then (if_by t) o) then o else None) ≡ option_and_then (if_by u) o
    by None = refl
    by (Some scan) = by_same scan.by t
        (λ e. ap (λ (p : Option Scan). option_and_then (if_by u) (if is_none p then Some scan else None)) (if_mine t scan e) ∙ sym (if_not u scan (λ f. off (sym f ∙ e))))
        (λ e. ap (λ (p : Option Scan). option_and_then (if_by u) (if is_none p then Some scan else None)) (if_not t scan e))

pub scans_end : (t : ℕ) (scans : Scans) → closed t (only_scans t scans) ≡ finite.empty
scans_end t scans = same_scans _ _ (λ n. closed_found t n (only_scans t scans) ∙ (λ i. if is_none (scan_alone t scans n i) then scans_at t scans n i else None) ∙ by (scan_of scans t n) ∙ sym (get-empty nat_cmp n))
  where
    by : (o : Option Scan) → (if is_none o then o else None) ≡ None
    by None = refl
    by (Some scan) = refl

-- ---- changes

pub own_own : (t : ℕ) (cs : List Change) → own t (own t cs) ≡ own t cs
own_own t [] = refl
own_own t (c ∷ cs) = by_same c.by t
    (λ e. ap (own t) (own_here t c cs e) ∙ own_here t c (own t cs) e ∙ ap (λ (l : List Change). c ∷ l) (own_own t cs) ∙ sym (own_here t c cs e))
    (λ e. ap (own t) (own_off t c cs e) ∙ own_own t cs ∙ sym (own_off t c cs e))

pub others_own : (t : ℕ) (cs : List Change) → others t (own t cs) ≡ []
others_own t [] = refl
others_own t (c ∷ cs) = by_same c.by t
    (λ e. ap (others t) (own_here t c cs e) ∙ others_here t c (own t cs) e ∙ others_own t cs)
    (λ e. ap (others t) (own_off t c cs e) ∙ others_own t cs)

pub own_gone : (t : ℕ) (cs : List Change) → own t (others t cs) ≡ []
own_gone t [] = refl
own_gone t (c ∷ cs) = by_same c.by t
    (λ e. ap (own t) (others_here t c cs e) ∙ own_gone t cs)
    (λ e. ap (own t) (others_off t c cs e) ∙ own_off t c (others t cs) e ∙ own_gone t cs)

pub own_cut : (t n : ℕ) (cs : List Change) → kept_to maker t n (own t cs) ≡ own t (kept_to maker t n cs)
own_cut t n [] = refl
own_cut t n (c ∷ cs) = by_same c.by t
    (λ e. let same : nat_le n (length (own t (own t cs))) ≡ nat_le n (length (own t cs)) = ap (λ (l : List Change). nat_le n (length l)) (own_own t cs) in
    by_test (nat_le n (length (own t cs)))
    (λ f. ap (kept_to maker t n) (own_here t c cs e) ∙ cut_here t n c (own t cs) e (same ∙ f) ∙ own_cut t n cs ∙ ap (own t) (sym (cut_here t n c cs e f)))
    (λ f. ap (kept_to maker t n) (own_here t c cs e) ∙ cut_few t n c (own t cs) (same ∙ f) ∙ ap (λ (l : List Change). c ∷ l) (own_cut t n cs) ∙ sym (ap (own t) (cut_few t n c cs f) ∙ own_here t c (kept_to maker t n cs) e)))
    (λ e. ap (kept_to maker t n) (own_off t c cs e) ∙ own_cut t n cs ∙ sym (ap (own t) (cut_off_it t n c cs e) ∙ own_off t c (kept_to maker t n cs) e))
