-- Serial runs, and what they tell of a run.
use Rattle.std.proofs.Common.{◌≡◌, ◌⊎◌, inl, inr, ⊎_elim, ℕ, Bool, true, false, List, [], ◌∷◌, ◌++◌, refl, sym, ◌∙◌, ap, subst}
use Rattle.std.specs.Prelude.{Option, Some, None, is_some, ◌==◌, if◌then◌else◌, Ok, reverse}
use Rattle.std.specs.FinMap as finite
use Rattle.std.specs.FinMap.{get-empty, same_map, nat_cmp-IsAntisymmetric}
use Rattle.std.specs.Ordering.{nat_cmp}
use Rattle.std.specs.Cmp.{nat_cmp_total}
use Rattle.std.proofs.lemmas.Bool.{ne_eqb, eq-eqb, true≢false}
use Rattle.std.proofs.lemmas.List.{reverse-append}
use Rattle.rss_base.specs.declared.name.Name.{Name}
use Rattle.rss_base.specs.declared.tid.Tid.{Tid}
use Rattle.rss_base.specs.declared.value.Value.{Value}
use Rattle.rss_base.specs.declared.item.Item.{Item}
use Rattle.rss_base.specs.declared.item.Item.TheVariants.{Tuple}
use Rattle.rss_base.specs.declared.need.Mode.{Mode}
use Rattle.rss_base.specs.declared.need.Mode.TheVariants.{X}
use Rattle.rss_base.specs.declared.call.Call.TheVariants.{Insert}
use Rattle.rss_base.specs.declared.answer.Reply.TheVariants.{Tid as Identifier}
use Rattle.rss_model.specs.Tables.{Tables, Contents, content, segment_of}
use Rattle.rss_model.specs.Changes.{Change, own}
use Rattle.rss_model.specs.Locks.{Locks, claim_cmp, held, Holds}
use Rattle.rss_model.specs.Scans.{Scans, scan_of}
use Rattle.rss_model.specs.Meter.{Meter}
use Rattle.rss_model.specs.Machine.{State, now, is_open}
use Rattle.rss_model.specs.Callers.{caller}
use Rattle.rss_model.specs.Steps.{IsFree}
use Rattle.rss_model.specs.Runs.{Turn}
use Rattle.rss_model.specs.Serial.{LoneStep, SerialRun, part_of, is_turn_of, stretch_from, stretch, kept_turns}
use Rattle.rss_model.specs.Serial.SerialRun.{stays, turns}
use Rattle.rss_model.specs.Kept.{Kept}
use Rattle.rss_model.proofs.LogLists.{by_same, none_some}
use Rattle.rss_model.proofs.Locking.{claim_total, claim_apart}
use Rattle.rss_model.proofs.Mixing.{In, each_of, own_off}
use Rattle.rss_model.proofs.EndKeeping.{after_none}
use Rattle.rss_model.proofs.Alone.{Marks, alone, shut, state_is, only_marks, only_locks, only_scans, marks_here, marks_off, locks_here, locks_off, scans_at}
use Rattle.rss_model.proofs.Steady.{Agrees}
use Rattle.rss_model.proofs.ScanKeeping.{its_scan}

-- ---- runs, the newest turn first

pub data Lone (start : State) : List Turn → State → Type 0 where
  still : Lone start [] start
  more : {older : List Turn} {state : State} {new : State} (turn : Turn) → Lone start older state → LoneStep state turn.call turn.answer new → Lone start (turn ∷ older) new

pub to_serial : {start s : State} {ts : List Turn} → Lone start ts s → SerialRun start (reverse ts) s
to_serial still = stays
to_serial {start = start} {s = s} (more {older = older} turn run step) = subst (λ (l : List Turn). SerialRun start l s) (sym (reverse-append (turn ∷ []) older)) (turns turn (to_serial run) step)

pub lone_then : {start mid s : State} {older newer : List Turn} → Lone start older mid → Lone mid newer s → Lone start (newer ++ older) s
lone_then first still = first
lone_then first (more turn run step) = more turn (lone_then first run) step

-- ---- whose turn it is

pub turn_of : (u t : ℕ) (turn : Turn) → caller turn.call ≡ Some t → is_turn_of u turn ≡ (t == u)
turn_of u t turn by = rw by refl

pub turn_of_none : (u : ℕ) (turn : Turn) → caller turn.call ≡ None → is_turn_of u turn ≡ false
turn_of_none u turn by = rw by refl

pub stretch_here : (t : ℕ) (turn : Turn) (h : List Turn) → caller turn.call ≡ Some t → stretch t (turn ∷ h) ≡ stretch_from (part_of turn.call turn.answer) turn (stretch t h)
stretch_here t turn h by = ap (λ (b : Bool). if b then stretch_from (part_of turn.call turn.answer) turn (stretch t h) else stretch t h) (turn_of t t turn by ∙ eq-eqb t t refl)

pub stretch_off : (u t : ℕ) (turn : Turn) (h : List Turn) → caller turn.call ≡ Some t → (u ≡ t → ⊥) → stretch u (turn ∷ h) ≡ stretch u h
stretch_off u t turn h by off = ap (λ (b : Bool). if b then stretch_from (part_of turn.call turn.answer) turn (stretch u h) else stretch u h) (turn_of u t turn by ∙ ne_eqb t u (λ e. off (sym e)))

pub stretch_none : (u : ℕ) (turn : Turn) (h : List Turn) → caller turn.call ≡ None → stretch u (turn ∷ h) ≡ stretch u h
stretch_none u turn h by = ap (λ (b : Bool). if b then stretch_from (part_of turn.call turn.answer) turn (stretch u h) else stretch u h) (turn_of_none u turn by)

-- ---- identifiers that were given

-- the turn inserted a tuple with this identifier
pub record IsInsert (turn : Turn) (relation : Name) (tid : Tid) : Type 0 where
  pub by : ℕ
  pub values : List Value
  pub call : turn.call ≡ Insert by relation values
  pub answer : turn.answer ≡ Ok (Identifier tid)

abbrev pub Inserted : List Turn → Name → Tid → Type 0
Inserted [] relation tid = ⊥
Inserted (turn ∷ ts) relation tid = IsInsert turn relation tid ⊎ Inserted ts relation tid

-- the transaction holds the item, or there is nothing and nobody has changed it
abbrev pub OwnOrNone : ℕ → State → Item → Type 0
OwnOrNone u s i = Holds s.locks u i X ⊎ ((content s.base.contents i ≡ None) × ((c : Change) → In c s.changes → c.item ≡ i → ⊥))

-- other tables have nothing where it was given an identifier
abbrev pub FreeIn : ℕ → List Turn → State → Contents → Type 0
FreeIn u ts s b = (relation other : Name) (tid : Tid) → Inserted ts relation tid → segment_of s.base other ≡ segment_of s.base relation → Holds s.locks u (Tuple other tid) X ⊎ (content b (Tuple other tid) ≡ None)

abbrev pub IdsHeld : ℕ → List Turn → State → Type 0
IdsHeld u ts s = (relation : Name) (tid : Tid) → Inserted ts relation tid → Holds s.locks u (Tuple relation tid) X × ((other : Name) → segment_of s.base other ≡ segment_of s.base relation → OwnOrNone u s (Tuple other tid))

-- ---- what is told

abbrev pub base_with : State → Contents → Tables
base_with s b = record { definitions = s.base.definitions; contents = b }

abbrev pub RunsAlone : ℕ → List Turn → State → Type 0
RunsAlone u ts s = (b : Contents) (m : Meter) → Agrees u s.locks s.base.definitions s.base.contents b → FreeIn u ts s b → (later : Meter) × Lone (shut s.size (base_with s b) m) ts (alone u b later s)

-- Those that ended ran one after another, and each that is open goes on as it would alone, from any tables that agree on what it has locked.
pub record Told (start : State) (h : List Turn) (s : State) : Type 0 where
  pub kept : Kept s
  pub ended : (m : Meter) × Lone start (kept_turns h) (shut s.size s.base m)
  pub idle : (u : ℕ) → is_open s u ≡ false → stretch u h ≡ []
  pub each : (u : ℕ) → RunsAlone u (stretch u h) s
  pub ids : (u : ℕ) → IdsHeld u (stretch u h) s

-- ---- a transaction that isn't open

none_own : (u : ℕ) (cs : List Change) → ((c : Change) → In c cs → c.by ≡ u → ⊥) → own u cs ≡ []
none_own u [] off = refl
none_own u (c ∷ cs) off = own_off u c cs (off c (inl refl)) ∙ none_own u cs (λ d is. off d (inr is))

none_of : {A : Type 0} (o : Option A) → ((a : A) → o ≡ Some a → ⊥) → o ≡ None
none_of None off = refl
none_of (Some a) off = absurd (off a refl)

pub alone_shut : {s : State} → Kept s → (u : ℕ) (b : Contents) (m : Meter) → is_open s u ≡ false → alone u b m s ≡ shut s.size (base_with s b) m
alone_shut {s = s} kept u b m closed = state_is s.size (base_with s b) m
    (none_own u s.changes (λ c is at. off c.by at (each_of (λ d. is_open s d.by ≡ true) s.changes kept.opened c is)))
    (same_map nat_cmp_total nat_cmp-IsAntisymmetric (only_marks u s.marks) finite.empty (λ k. by_same k u
    (λ e. marks_here u s.marks k e ∙ none_of (finite.get s.marks k) (λ v is. off k e (ap is_some is)) ∙ sym (get-empty nat_cmp k))
    (λ e. marks_off u s.marks k e ∙ sym (get-empty nat_cmp k))))
    (same_map claim_total claim_apart (only_locks u s.locks) finite.empty (λ c. by_same c.by u
    (λ e. locks_here u s.locks c.by c.item e ∙ none_of (held s.locks c.by c.item) (λ mode is. off c.by e (kept.holders c.by c.item mode is)) ∙ sym (get-empty claim_cmp c))
    (λ e. locks_off u s.locks c.by c.item e ∙ sym (get-empty claim_cmp c))))
    (same_map nat_cmp_total nat_cmp-IsAntisymmetric (only_scans u s.scans) finite.empty (λ n. scans_at u s.scans n ∙ none_of (scan_of s.scans u n) (λ scan is. let its = its_scan s.scans u n scan is in off scan.by its.1 (kept.scanners n scan its.0)) ∙ sym (get-empty nat_cmp n)))
  where
    off : (v : ℕ) → v ≡ u → is_open s v ≡ true → ⊥
    off v e has = true≢false (sym has ∙ ap (is_open s) e ∙ closed)

-- ---- another's step

-- what is one transaction's, in two states
pub record Unseen (u : ℕ) (s : State) (changes : List Change) (marks : Marks) (locks : Locks) (scans : Scans) : Type 0 where
  pub same_changes : own u changes ≡ own u s.changes
  pub same_marks : only_marks u marks ≡ only_marks u s.marks
  pub same_locks : only_locks u locks ≡ only_locks u s.locks
  pub same_scans : only_scans u scans ≡ only_scans u s.scans

pub unseen_held : {u : ℕ} {s : State} {changes : List Change} {marks : Marks} {locks : Locks} {scans : Scans} → Unseen u s changes marks locks scans → (i : Item) → held locks u i ≡ held s.locks u i
unseen_held {u = u} {s = s} {locks = locks} unseen i = sym (locks_here u locks u i refl) ∙ ap (λ (l : Locks). held l u i) unseen.same_locks ∙ locks_here u s.locks u i refl

pub unseen_open : {u : ℕ} {s : State} {changes : List Change} {marks : Marks} {locks : Locks} {scans : Scans} → Unseen u s changes marks locks scans → is_some (finite.get marks u) ≡ is_open s u
unseen_open {u = u} {s = s} {marks = marks} unseen = ap is_some (sym (marks_here u marks u refl) ∙ ap (λ (l : Marks). finite.get l u) unseen.same_marks ∙ marks_here u s.marks u refl)

pub holds_by : {a b : Locks} {u : ℕ} → ((i : Item) → held a u i ≡ held b u i) → (i : Item) (m : Mode) → Holds a u i m → Holds b u i m
holds_by same i m hold = record { now = hold.now; there = sym (same i) ∙ hold.there; covers = hold.covers }

-- where a change is new, its item was free, or there was something
abbrev pub NewAt : State → ℕ → Change → Type 0
NewAt s t c = (other : Name) (tid : Tid) → c.item ≡ Tuple other tid → IsFree s t other tid ⊎ (is_some (content (now s).contents (Tuple other tid)) ≡ true)

-- nobody comes between a transaction and an identifier that it was given
pub ids_other : (s : State) (u t : ℕ) → (u ≡ t → ⊥) → (relation other : Name) (tid : Tid) → segment_of s.base other ≡ segment_of s.base relation → Holds s.locks u (Tuple relation tid) X → content s.base.contents (Tuple other tid) ≡ None → ((c : Change) → In c s.changes → c.item ≡ Tuple other tid → ⊥)
    → (c : Change) → NewAt s t c → c.item ≡ Tuple other tid → ⊥
ids_other s u t off relation other tid segment hold none free c new at = ⊎_elim
    (λ f. none_some (sym (f.alone relation u (sym segment) off) ∙ hold.there))
    (λ some. true≢false (sym some ∙ ap is_some (after_none s.base.contents (Tuple other tid) s.changes free ∙ none)))
    (new other tid at)
