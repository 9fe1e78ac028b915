-- What is asked of what is kept is what the machine has.
use Rattle.std.proofs.Common.{◌≡◌, inl, inr, ℕ, suc, ◌+◌, ◌-◌, ◌<◌, ◌≤◌, Bool, true, false, cond, T, ◌&&◌, List, [], ◌∷◌, length, map, reverse, refl, sym, ◌∙◌, ap, subst, arith}
use Rattle.std.specs.Prelude.{Option, Some, None, is_some, option_map, MatchOption, slice_get, nat_lt}
use Rattle.std.specs.Ordering.{eq_by_cmp, is_lt, nat_cmp}
use Rattle.std.specs.Cmp.{nat_cmp_total}
use Rattle.std.specs.FinMap as finite
use Rattle.std.specs.FinMap.{nat_cmp-IsAntisymmetric, get-entries, len-entries, entries_sorted}
use Rattle.std.specs.FinMap.Entries as listed
use Rattle.std.proofs.lemmas.Bool.{eq-eqb}
use Rattle.std.proofs.lemmas.Bool.Decides.{nat_tests}
use Rattle.std.proofs.lemmas.Option.{slice_get-map}
use Rattle.rss_base.specs.Listings.{Listing}
use Rattle.rss_model.specs.Changes.{own}
use Rattle.rss_model.specs.Steps.{left_at}
use Rattle.rss_model.specs.Records.{Listed, changes_in, is_by, own_in}
use Rattle.rss_model.proofs.LogLists.{by_test}
use Rattle.rss_model.proofs.Mixing.{In, all_of}
use Rattle.rss_trans.specs.declared.noted.Noted.{Noted}
use Rattle.rss_trans.specs.Transactions.{Transaction, OpenView, is_open, transaction_in, count_at, newest_after}
use Rattle.rss_trans.specs.Told.{AreNotesOf, TellsOpen, OpenTold, KeysTold, CountTold, SavesTold, ChangesTold, MakersOpen, positions_of, PositionsTold, IsNewest, NewestTold}
use Rattle.rss_trans.proofs.Noting.{notes_count, mine_stamped, positions_noted, IsLast, last_is}
use Rattle.rss_trans.proofs.Told.{Marked, saves_of, done, open_is, marked_saves, count_own}

pub open_told : OpenTold
open_told listing view marks ls is t = open_is is t

pub saves_told : SavesTold
saves_told listing view marks ls t saves is has = marked_saves is t saves has

pub changes_told : ChangesTold
changes_told listing view marks ls is t = count_own is t

-- ---- as many, under the same keys

abbrev saved : List (ℕ × Transaction) → List (ℕ × List ℕ)
saved [] = []
saved (e ∷ es) = (e.0, e.1.saves) ∷ saved es

below_saved : (x : ℕ) (es : List (ℕ × Transaction)) → listed.below_all nat_cmp x (saved es) ≡ listed.below_all nat_cmp x es
below_saved x [] = refl
below_saved x (e ∷ es) = ap (λ (b : Bool). is_lt (nat_cmp x e.0) && b) (below_saved x es)

sorted_saved : (es : List (ℕ × Transaction)) → listed.is_sorted nat_cmp (saved es) ≡ listed.is_sorted nat_cmp es
sorted_saved [] = refl
sorted_saved (e ∷ es) = λ i. below_saved e.0 es i && sorted_saved es i

find_saved : (q : ℕ) (es : List (ℕ × Transaction)) → listed.find nat_cmp q (saved es) ≡ option_map saves_of (listed.find nat_cmp q es)
find_saved q [] = refl
find_saved q (e ∷ es) = ap (cond (eq_by_cmp nat_cmp q e.0) (Some e.1.saves)) (find_saved q es) ∙ by (eq_by_cmp nat_cmp q e.0)
  where
    by : (b : Bool) → cond b (Some e.1.saves) (option_map saves_of (listed.find nat_cmp q es)) ≡ option_map saves_of (cond b (Some e.1) (listed.find nat_cmp q es))
    by true = refl
    by false = refl

same_entries : {listing : Listing} {view : OpenView} {marks : Marked} {ls : List Listed} → TellsOpen listing view marks ls → saved (finite.entries view.transactions) ≡ finite.entries marks
same_entries {view = view} {marks = marks} is = listed.same_entries nat_cmp nat_cmp_total nat_cmp-IsAntisymmetric (saved (finite.entries view.transactions)) (finite.entries marks)
    (subst T (sym (sorted_saved (finite.entries view.transactions))) (entries_sorted view.transactions))
    (entries_sorted marks)
    (λ q. find_saved q (finite.entries view.transactions) ∙ ap (option_map saves_of) (sym (get-entries view.transactions q)) ∙ is.saves q ∙ get-entries marks q)

keys_saved : (es : List (ℕ × Transaction)) → map (λ e. e.0) (saved es) ≡ map (λ e. e.0) es
keys_saved [] = refl
keys_saved (e ∷ es) = ap (λ (ks : List ℕ). e.0 ∷ ks) (keys_saved es)

length_saved : (es : List (ℕ × Transaction)) → length (saved es) ≡ length es
length_saved [] = refl
length_saved (e ∷ es) = ap suc (length_saved es)

pub keys_told : KeysTold
keys_told listing view marks ls is = sym (keys_saved (finite.entries view.transactions)) ∙ ap (λ (es : List (ℕ × List ℕ)). map (λ e. e.0) es) (same_entries is)

pub count_told : CountTold
count_told listing view marks ls is = len-entries view.transactions ∙ sym (length_saved (finite.entries view.transactions)) ∙ ap (λ (es : List (ℕ × List ℕ)). length es) (same_entries is) ∙ sym (len-entries marks)

-- ---- who made changes

own_some : (l : Listed) (ls : List Listed) → In l ls → 1 ≤ length (own_in l.change.by ls)
own_some l [] is = absurd is
own_some l (k ∷ ks) (inl e) =
    let here : is_by l.change.by k ≡ true = ap (λ (m : Listed). is_by l.change.by m) e ∙ eq-eqb l.change.by l.change.by refl in
    rw here (omega arith)
own_some l (k ∷ ks) (inr is) =
    let rest : 1 ≤ length (own_in l.change.by ks) = own_some l ks is in
    by_test (is_by l.change.by k) (λ e. rw e (omega arith)) (λ e. rw e rest)

pub makers_open : MakersOpen
makers_open listing view marks ls is = all_of (λ l. is_open view l.change.by ≡ true) ls (λ l there. by_test (is_open view l.change.by) (λ e. e)
    (λ closed. absurd (omega (
      arith,
      own_some l ls there,
      notes_count listing (transaction_in view l.change.by).changes (own_in l.change.by ls) (is.changes l.change.by),
      none (finite.get view.transactions l.change.by) closed,
    ))))
  where
    none : (o : Option Transaction) → is_some o ≡ false → length (done o).changes ≡ 0
    none None closed = refl
    none (Some x) closed = absurd (cc (closed))

-- ---- where changes stand

pub positions_told : PositionsTold
positions_told listing view marks ls is t =
    positions_noted listing (transaction_in view t).changes (own_in t ls) (is.changes t)
    ∙ ap (λ ss. reverse (map (λ stamp. stamp.at) ss)) (sym (mine_stamped t ls))

newest_some : (x : Transaction) (save n at : ℕ) → count_at x save < length x.changes → length x.changes ≡ n + 1 → option_map (λ (note : Noted). note.position) (slice_get x.changes n) ≡ Some at → newest_after x save ≡ Some at
newest_some x save n at more count read =
    let yes : nat_lt (count_at x save) (length x.changes) ≡ true = grind (arith, nat_tests) in
    let less : length x.changes - 1 ≡ n = omega arith in
    rw (yes, less) read

newest_none : (x : Transaction) (save : ℕ) → length x.changes ≤ count_at x save → newest_after x save ≡ None
newest_none x save few =
    let no : nat_lt (count_at x save) (length x.changes) ≡ false = grind (arith, nat_tests) in
    rw no refl

module _ (x : Transaction) (t save left : ℕ) (ls : List Listed) (left_is : count_at x save ≡ left) (count : length x.changes ≡ length (own t (changes_in ls))) (positions : map (λ note. note.position) x.changes ≡ positions_of t ls) where
  abbrev Tells : Option ℕ → Type 0
  Tells o = MatchOption o (length (own t (changes_in ls)) ≤ left) (λ at. IsNewest t left at ls)

  newest_last : count_at x save < length x.changes → IsLast x.changes t ls → Tells (newest_after x save)
  newest_last more last =
      let last_count = last.count in
      subst Tells (sym (newest_some x save last.older_count last.place more last.count last.read)) (record {
        older = last.older_count;
        count = omega arith;
        more = omega arith;
        stands = last.stands;
        stamped = ap (λ (ps : List ℕ). slice_get ps last.older_count) (sym positions) ∙ slice_get-map (λ (note : Noted). note.position) x.changes last.older_count ∙ last.read;
      })

  newest_by : (listing : Listing) → AreNotesOf listing x.changes (own_in t ls) → Tells (newest_after x save)
  newest_by listing notes = by_test (nat_lt (count_at x save) (length x.changes))
      (λ e. let more : count_at x save < length x.changes = grind (arith, nat_tests) in newest_last more (last_is listing x.changes t ls notes (omega arith)))
      (λ e. let few : length x.changes ≤ count_at x save = grind (arith, nat_tests) in subst Tells (sym (newest_none x save few)) (omega arith))

pub newest_told : NewestTold
newest_told listing view marks ls t save saves is has =
    newest_by (transaction_in view t) t save (left_at saves save) ls (ap (λ (s : List ℕ). left_at s save) (marked_saves is t saves has)) (count_own is t) (positions_told listing view marks ls is t)
    listing (is.changes t)
