-- A transaction that goes back or ends: what is counted of all of them, and where the changes stand.
use Rattle.std.proofs.Common.{◌≡◌, ℕ, zero, suc, ◌+◌, ◌-◌, ◌<◌, ◌≤◌, Bool, true, false, cond, List, [], ◌∷◌, length, take, refl, sym, ◌∙◌, ap, subst, arith}
use Rattle.std.specs.Prelude.{Option, Some, None, min, is_some, option_map, slice_get, nat_lt, count_by, sum_by}
use Rattle.std.specs.Ordering.{nat_cmp}
use Rattle.std.specs.Cmp.{nat_cmp_total}
use Rattle.std.specs.FinMap as finite
use Rattle.std.specs.FinMap.{FinMap, nat_cmp-IsAntisymmetric, same_map}
use Rattle.std.proofs.lemmas.Bool.Decides.{nat_tests}
use Rattle.std.proofs.lemmas.List.{take_all, length-take}
use Rattle.std.proofs.lemmas.Option.{same_Some, slice_get-get_or}
use Rattle.rss_model.proofs.LogLists.{by_same, by_test}
use Rattle.rss_trans.specs.declared.noted.Noted.{Noted}
use Rattle.rss_trans.specs.Transactions.{Transaction, OpenView, is_open, transaction_in, any, change_count, without_newest, count_at, newest_after, Steps, Ends}
use Rattle.rss_trans.proofs.Told.{done}
use Rattle.rss_trans.proofs.Summing.{count_any}
use Rattle.rss_session.specs.Sessions.{AreRising, sums_in}
use Rattle.rss_session.specs.Calls.{taken_to}
use Rattle.rss_session.proofs.Sums.{gone_sum, changed_sum, get_open, here, elsewhere, gone_here, gone_elsewhere}
use Rattle.rss_session.proofs.Marked.{rising_ends}

abbrev pub one_if : Bool → ℕ
one_if b = cond b 1 0

abbrev pub changers : ℕ → ℕ
changers count = one_if (nat_lt 0 count)

abbrev has : Transaction → Bool
has x = nat_lt 0 (change_count any x)

has_some : (x : Transaction) → one_if (has x) ≡ changers (length x.changes)
has_some x = ap (λ (n : ℕ). changers n) (count_any x.changes)

-- ---- one of them becomes another

module _ (old new : OpenView) (t : ℕ) (x : Transaction) (opened : is_open old t ≡ true) (put : new.transactions ≡ finite.insert old.transactions t x) where
  pub put_here : transaction_in new t ≡ x
  put_here = ap done (ap (λ m. finite.get m t) put ∙ here old.transactions t x)

  put_other : (u : ℕ) → (u ≡ t → ⊥) → finite.get new.transactions u ≡ finite.get old.transactions u
  put_other u off = ap (λ m. finite.get m u) put ∙ elsewhere old.transactions t x u off

  pub put_p : (sums_in new).p + length (transaction_in old t).changes ≡ (sums_in old).p + length x.changes
  put_p =
      let more = changed_sum (change_count any) old.transactions t x (transaction_in old t) (get_open old t opened) in
      let is = ap (λ m. sum_by (change_count any) (finite.values m)) put in
      omega (arith, more, is, count_any (transaction_in old t).changes, count_any x.changes)

  pub put_q : (sums_in new).q + changers (length (transaction_in old t).changes) ≡ (sums_in old).q + changers (length x.changes)
  put_q =
      let more = changed_sum (λ (y : Transaction). one_if (has y)) old.transactions t x (transaction_in old t) (get_open old t opened) in
      let is = ap (λ m. count_by has (finite.values m)) put in
      omega (arith, more, is, has_some (transaction_in old t), has_some x)

  pub put_open : is_open new t ≡ true
  put_open = ap is_some (ap (λ m. finite.get m t) put ∙ here old.transactions t x)

  pub put_opened : (u : ℕ) → is_open new u ≡ true → is_open old u ≡ true
  put_opened u is = by_same u t
      (λ same. ap (is_open old) same ∙ opened)
      (λ off. ap is_some (sym (put_other u off)) ∙ is)

  pub put_placed : (low high : ℕ) → AreRising low high x.changes → ((u : ℕ) → AreRising low high (transaction_in old u).changes) → (u : ℕ) → AreRising low high (transaction_in new u).changes
  put_placed low high rising placed u = by_same u t
      (λ is. subst (λ (y : Transaction). AreRising low high y.changes) (sym (ap (transaction_in new) is ∙ put_here)) rising)
      (λ off. subst (λ (y : Transaction). AreRising low high y.changes) (sym (ap done (put_other u off))) (placed u))

-- ---- one of them goes

module _ (old new : OpenView) (t : ℕ) (opened : is_open old t ≡ true) (ends : Ends t old new) where
  gone_other : (u : ℕ) → (u ≡ t → ⊥) → finite.get new.transactions u ≡ finite.get old.transactions u
  gone_other u off = ap (λ m. finite.get m u) ends.transactions ∙ gone_elsewhere old.transactions t u off

  gone_now : finite.get new.transactions t ≡ None
  gone_now = ap (λ m. finite.get m t) ends.transactions ∙ gone_here old.transactions t

  pub gone_p : (sums_in new).p + length (transaction_in old t).changes ≡ (sums_in old).p
  gone_p =
      let less = gone_sum (change_count any) old.transactions t (transaction_in old t) (get_open old t opened) in
      let is = ap (λ m. sum_by (change_count any) (finite.values m)) ends.transactions in
      omega (arith, less, is, count_any (transaction_in old t).changes)

  pub gone_q : (sums_in new).q + changers (length (transaction_in old t).changes) ≡ (sums_in old).q
  gone_q =
      let less = gone_sum (λ (y : Transaction). one_if (has y)) old.transactions t (transaction_in old t) (get_open old t opened) in
      let is = ap (λ m. count_by has (finite.values m)) ends.transactions in
      omega (arith, less, is, has_some (transaction_in old t))

  pub gone_opened : (u : ℕ) → is_open new u ≡ true → is_open old u ≡ true
  gone_opened u is = by_same u t
      (λ same. absurd (none (ap is_some (sym (ap (finite.get new.transactions) same ∙ gone_now)) ∙ is)))
      (λ off. ap is_some (sym (gone_other u off)) ∙ is)
    where
      none : false ≡ true → ⊥
      none e = cc (e)

  pub gone_placed : (low high : ℕ) → ((u : ℕ) → AreRising low high (transaction_in old u).changes) → (u : ℕ) → AreRising low high (transaction_in new u).changes
  gone_placed low high placed u = by_same u t
      (λ is. subst (λ (y : Transaction). AreRising low high y.changes) (sym (ap (λ (o : Option Transaction). done o) (ap (finite.get new.transactions) is ∙ gone_now))) (rising_ends low high (transaction_in old t).changes (placed t)))
      (λ off. subst (λ (y : Transaction). AreRising low high y.changes) (sym (ap done (gone_other u off))) (placed u))

-- ---- the newest changes are taken away

take_none : {A : Type 0} (n : ℕ) → ◌≡◌ {A = List A} (take n []) []
take_none n = grind arith

rising_taken : (low high n : ℕ) (notes : List Noted) → AreRising low high notes → AreRising low high (take n notes)
rising_taken low high n [] rising = subst (AreRising low high) (sym (take_none n)) rising
rising_taken low high zero (note ∷ notes) rising = rising_ends low high (note ∷ notes) rising
rising_taken low high (suc n) (note ∷ notes) rising = (rising.0, rising_taken (note.position + 1) high n notes rising.1)

pub taken_placed : (low high n : ℕ) (x : Transaction) → AreRising low high x.changes → AreRising low high (taken_to n x).changes
taken_placed low high n x rising = rising_taken low high n x.changes rising

-- where one of them stands
pub placed_at : (low high n position : ℕ) (notes : List Noted) → option_map (λ (note : Noted). note.position) (slice_get notes n) ≡ Some position → AreRising low high notes → (low ≤ position) × (position < high)
placed_at low high n position [] is rising = absurd (cc (is))
placed_at low high zero position (note ∷ notes) is rising =
    let at : note.position ≡ position = same_Some note.position position is in
    let rest = rising_ends (note.position + 1) high notes rising.1 in
    (omega (arith, at, rising.0), omega (arith, at, rest))
placed_at low high (suc n) position (note ∷ notes) is rising =
    let rest = placed_at (note.position + 1) high n position notes is rising.1 in
    (omega (arith, rest.0, rising.0), rest.1)

-- all of them stay
pub taken_all : (view : OpenView) (t n : ℕ) → is_open view t ≡ true → length (transaction_in view t).changes ≤ n → Steps t (taken_to n) view view
taken_all view t n opened all = record {
  transactions = sym (put_whole ∙ put_again);
  since = refl;
  since_of = refl;
}
  where
    put_whole : finite.insert view.transactions t (taken_to n (transaction_in view t)) ≡ finite.insert view.transactions t (transaction_in view t)
    put_whole = ap (λ (notes : List Noted). finite.insert view.transactions t (record { changes = notes; saves = (transaction_in view t).saves })) (take_all n (transaction_in view t).changes all)

    put_again : finite.insert view.transactions t (transaction_in view t) ≡ view.transactions
    put_again = same_map nat_cmp_total nat_cmp-IsAntisymmetric _ _ (λ q. by_same q t
        (λ e. ap (finite.get (finite.insert view.transactions t (transaction_in view t))) e ∙ here view.transactions t (transaction_in view t) ∙ sym (ap (finite.get view.transactions) e ∙ get_open view t opened))
        (λ off. elsewhere view.transactions t (transaction_in view t) q off))

put_twice : (m : FinMap nat_cmp Transaction) (t : ℕ) (x y : Transaction) → finite.insert (finite.insert m t x) t y ≡ finite.insert m t y
put_twice m t x y = same_map nat_cmp_total nat_cmp-IsAntisymmetric _ _ (λ q. by_same q t
    (λ e. ap (finite.get (finite.insert (finite.insert m t x) t y)) e ∙ here (finite.insert m t x) t y ∙ sym (ap (finite.get (finite.insert m t y)) e ∙ here m t y))
    (λ off. elsewhere (finite.insert m t x) t y q off ∙ elsewhere m t x q off ∙ sym (elsewhere m t y q off)))

pub length_taken : (n : ℕ) (notes : List Noted) → length (take n notes) ≡ min n (length notes)
length_taken n notes = grind (arith, length-take)

take_less : (n : ℕ) (notes : List Noted) → suc n ≤ length notes → take (length (take (suc n) notes) - 1) (take (suc n) notes) ≡ take n notes
take_less n notes le =
    let count : length (take (suc n) notes) - 1 ≡ n = omega (arith, length_taken (suc n) notes, le) in
    ap (λ (k : ℕ). take k (take (suc n) notes)) count ∙ again n notes
  where
    again : (k : ℕ) (ns : List Noted) → take k (take (suc k) ns) ≡ take k ns
    again k [] = ap (take k) (take_none (suc k))
    again zero (note ∷ ns) = refl
    again (suc k) (note ∷ ns) = ap (λ (l : List Noted). note ∷ l) (again k ns)

-- one of those that stayed is taken away
pub taken_then : (old mid new : OpenView) (t n : ℕ) → is_open old t ≡ true → suc n ≤ length (transaction_in old t).changes → Steps t (taken_to (suc n)) old mid → Steps t without_newest mid new → Steps t (taken_to n) old new
taken_then old mid new t n opened le first second =
    let there : transaction_in mid t ≡ taken_to (suc n) (transaction_in old t) = put_here old mid t _ opened first.transactions in
    record {
      transactions = second.transactions
          ∙ (λ i. finite.insert (first.transactions i) t (without_newest (there i)))
          ∙ put_twice old.transactions t _ _
          ∙ ap (λ (notes : List Noted). finite.insert old.transactions t (record { changes = notes; saves = (transaction_in old t).saves })) (take_less n (transaction_in old t).changes le);
      since = second.since ∙ first.since;
      since_of = second.since_of ∙ first.since_of;
    }

-- ---- the newest change

-- it has this position and so many older ones
pub record IsLastAt (x : Transaction) (save position : ℕ) : Type 0 where
  pub older : ℕ
  pub count : length x.changes ≡ older + 1
  pub more : count_at x save ≤ older
  pub place : option_map (λ (note : Noted). note.position) (slice_get x.changes older) ≡ Some position

pub newest_at : (x : Transaction) (save position : ℕ) → newest_after x save ≡ Some position → IsLastAt x save position
newest_at x save position is = by_test (nat_lt (count_at x save) (length x.changes))
    (λ e. let more : count_at x save < length x.changes = grind (arith, nat_tests) in record {
      older = length x.changes - 1;
      count = omega (arith, more);
      more = omega (arith, more);
      place = rw e at is;
    })
    (λ e. absurd (none (rw e at is)))
  where
    none : ◌≡◌ {A = Option ℕ} None (Some position) → ⊥
    none e = cc (e)

pub newest_none : (x : Transaction) (save : ℕ) → newest_after x save ≡ None → length x.changes ≤ count_at x save
newest_none x save is = by_test (nat_lt (count_at x save) (length x.changes))
    (λ e. let more : count_at x save < length x.changes = grind (arith, nat_tests) in
    let d : Noted = record { position = 0; relation = None; is_delete = false } in
    absurd (some (sym (ap (option_map (λ (note : Noted). note.position)) (slice_get-get_or x.changes (length x.changes - 1) d (omega (arith, more)))) ∙ (rw e at is))))
    (λ e. let few : length x.changes ≤ count_at x save = grind (arith, nat_tests) in few)
  where
    some : {k : ℕ} → ◌≡◌ {A = Option ℕ} (Some k) None → ⊥
    some e = cc (e)

pub some_newer : (x : Transaction) (save : ℕ) → true ≡ is_some (newest_after x save) → count_at x save < length x.changes
some_newer x save is = by (newest_after x save) refl is
  where
    by : (o : Option ℕ) → newest_after x save ≡ o → true ≡ is_some o → count_at x save < length x.changes
    by None at some = absurd (cc (some))
    by (Some position) at some = let last = newest_at x save position at in omega (arith, last.count, last.more)

pub none_newer : (x : Transaction) (save : ℕ) → false ≡ is_some (newest_after x save) → length x.changes ≤ count_at x save
none_newer x save is = by (newest_after x save) refl is
  where
    by : (o : Option ℕ) → newest_after x save ≡ o → false ≡ is_some o → length x.changes ≤ count_at x save
    by None at none = newest_none x save at
    by (Some position) at none = absurd (cc (none))

-- ---- one of those that stay

pub taken_get : (n k : ℕ) (notes : List Noted) → k < n → slice_get (take n notes) k ≡ slice_get notes k
taken_get n k [] less = ap (λ (l : List Noted). slice_get l k) (take_none n)
taken_get zero k (note ∷ notes) less = absurd (omega (arith, less))
taken_get (suc n) zero (note ∷ notes) less = refl
taken_get (suc n) (suc k) (note ∷ notes) less = taken_get n k notes (omega (arith, less))

-- there is one where its position is found
pub none_from : (n : ℕ) (notes : List Noted) → ◌≡◌ {A = Option ℕ} None (option_map (λ (note : Noted). note.position) (slice_get notes n)) → length notes ≤ n
none_from n [] none = omega arith
none_from zero (note ∷ notes) none = absurd (cc (none))
none_from (suc n) (note ∷ notes) none = let rest = none_from n notes none in omega (arith, rest)
