-- The transactions that a checkpoint names, each with the position of its first change.
use Rattle.std.proofs.Common.{◌≡◌, ℕ, ◌+◌, ◌<◌, ◌≤◌, true, false, Bool, List, [], ◌∷◌, ◌++◌, refl, sym, ◌∙◌, ap, subst, arith}
use Rattle.std.specs.Prelude.{Option, Some, option_map, slice_get, min, ◌==◌, if◌then◌else◌}
use Rattle.std.specs.List.{AllByRecursion}
use Rattle.std.specs.FinMap as finite
use Rattle.std.specs.FinMap.{get-entries}
use Rattle.std.proofs.lemmas.Option.{same_Some}
use Rattle.rss_model.specs.Recovers.{named_in}
use Rattle.rss_trans.specs.declared.noted.Noted.{Noted}
use Rattle.rss_trans.specs.Transactions.{Transaction, OpenView, transaction_in, first_position, marks_of}
use Rattle.rss_trans.proofs.Told.{done}
use Rattle.rss_trans.proofs.Summing.{Entries, named_is, order_of, all_named, rising_is}
use Rattle.rss_store.specs.Commits.{least_mark}
use Rattle.rss_session.specs.Sessions.{AreRising}

-- ---- the least of the marks

pub low_least : (low end : ℕ) (marks : List (ℕ × ℕ)) → low ≤ end → AllByRecursion (λ m. low ≤ m.1) marks → low ≤ least_mark end marks
low_least low end [] le all = le
low_least low end (m ∷ ms) le all = low_least low (min end m.1) ms (omega (arith, le, all.0)) all.1

pub least_end : (end : ℕ) (marks : List (ℕ × ℕ)) → least_mark end marks ≤ end
least_end end [] = omega arith
least_end end (m ∷ ms) = let rest = least_end (min end m.1) ms in omega (arith, rest)

pub least_all : (end : ℕ) (marks : List (ℕ × ℕ)) → AllByRecursion (λ m. least_mark end marks ≤ m.1) marks
least_all end [] = tt
least_all end (m ∷ ms) = (let rest = least_end (min end m.1) ms in omega (arith, rest), least_all (min end m.1) ms)

-- ---- from transactions to marks, and back

first_of : (view : OpenView) (t place : ℕ) → named_in t (marks_of (finite.entries view.transactions)) ≡ Some place → first_position (transaction_in view t) ≡ Some place
first_of view t place named =
    ap (λ (o : Option Transaction). first_position (done o)) (get-entries view.transactions t)
    ∙ sym (named_is t (finite.entries view.transactions) (order_of view)) ∙ named

any_least : (es : Entries) → AllByRecursion (λ f. 0 ≤ f.0) es
any_least [] = tt
any_least (e ∷ es) = (omega arith, any_least es)

pub all_marked : (view : OpenView) (P : ℕ × ℕ → Type 0) → ((t place : ℕ) → first_position (transaction_in view t) ≡ Some place → P (t, place)) → AllByRecursion P (marks_of (finite.entries view.transactions))
all_marked view P each =
    let es = finite.entries view.transactions in
    all_named P 0 (marks_of es) (rising_is 0 es (any_least es) (order_of view)) (λ t place above named. each t place (first_of view t place named))

named_all : (P : ℕ → Type 0) (t place : ℕ) (marks : List (ℕ × ℕ)) → AllByRecursion (λ m. P m.1) marks → named_in t marks ≡ Some place → P place
named_all P t place [] all is = absurd (cc (is))
named_all P t place (m ∷ ms) all is = by (m.0 == t) is (named_all P t place ms all.1)
  where
    by : (b : Bool) → (if b then Some m.1 else named_in t ms) ≡ Some place → (named_in t ms ≡ Some place → P place) → P place
    by true same rest = subst P (same_Some m.1 place same) all.0
    by false same rest = rest same

pub marked_all : (view : OpenView) (P : ℕ → Type 0) (t place : ℕ) → AllByRecursion (λ m. P m.1) (marks_of (finite.entries view.transactions)) → first_position (transaction_in view t) ≡ Some place → P place
marked_all view P t place all first =
    named_all P t place (marks_of (finite.entries view.transactions)) all
    (named_is t (finite.entries view.transactions) (order_of view)
    ∙ ap (λ (o : Option Transaction). first_position (done o)) (sym (get-entries view.transactions t)) ∙ first)

-- ---- changes that stand one behind another

pub rising_ends : (low high : ℕ) (notes : List Noted) → AreRising low high notes → low ≤ high
rising_ends low high [] rising = rising
rising_ends low high (n ∷ ns) rising = let rest = rising_ends (n.position + 1) high ns rising.1 in omega (arith, rest, rising.0)

pub rising_higher : (low high more : ℕ) (notes : List Noted) → high ≤ more → AreRising low high notes → AreRising low more notes
rising_higher low high more [] le rising = omega (arith, le, rising)
rising_higher low high more (n ∷ ns) le rising = (rising.0, rising_higher (n.position + 1) high more ns le rising.1)

pub rising_from : (low other high : ℕ) (notes : List Noted) → other ≤ high → ((place : ℕ) → option_map (λ (n : Noted). n.position) (slice_get notes 0) ≡ Some place → other ≤ place) → AreRising low high notes → AreRising other high notes
rising_from low other high [] le each rising = le
rising_from low other high (n ∷ ns) le each rising = (each n.position refl, rising.1)

pub rising_push : (low high more : ℕ) (notes : List Noted) (note : Noted) → high ≤ note.position → note.position < more → AreRising low high notes → AreRising low more (notes ++ note ∷ [])
rising_push low high more [] note at below rising = (omega (arith, rising, at), omega (arith, below))
rising_push low high more (n ∷ ns) note at below rising = (rising.0, rising_push (n.position + 1) high more ns note at below rising.1)

pub first_placed : (low high : ℕ) (notes : List Noted) (place : ℕ) → option_map (λ (n : Noted). n.position) (slice_get notes 0) ≡ Some place → AreRising low high notes → (low ≤ place) × (place < high)
first_placed low high [] place is rising = absurd (cc (is))
first_placed low high (n ∷ ns) place is rising =
    let at : n.position ≡ place = same_Some n.position place is in
    let rest = rising_ends (n.position + 1) high ns rising.1 in
    (omega (arith, at, rising.0), omega (arith, at, rest))
