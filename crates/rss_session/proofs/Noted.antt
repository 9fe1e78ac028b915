-- A change more of a transaction: what is counted of all of them, and where the changes stand.
use Rattle.std.proofs.Common.{◌≡◌, ℕ, ◌+◌, ◌<◌, ◌≤◌, Bool, true, false, cond, [], ◌∷◌, ◌++◌, length, sym, ◌∙◌, ap, subst, arith}
use Rattle.std.specs.Prelude.{is_some, nat_lt, count_by, sum_by, if◌then◌else◌, Option, Result, Ok, Err}
use Rattle.std.specs.FinMap as finite
use Rattle.std.proofs.lemmas.Bool.{true≢false}
use Rattle.std.proofs.lemmas.Bool.Decides.{nat_tests}
use Rattle.std.proofs.lemmas.List.{length-append}
use Rattle.rss_base.specs.declared.refusal.Refusal.{Refusal}
use Rattle.rss_log.specs.Logs.{free_of}
use Rattle.rss_model.proofs.LogLists.{by_same, by_test}
use Rattle.rss_trans.specs.declared.noted.Noted.{Noted}
use Rattle.rss_trans.specs.Transactions.{Transaction, OpenView, is_open, transaction_in, any, change_count, with_change, Notes}
use Rattle.rss_trans.proofs.Told.{done}
use Rattle.rss_trans.proofs.Summing.{count_any}
use Rattle.rss_session.specs.Sessions.{SessionView, AreRising, sums_in}
use Rattle.rss_session.specs.Weighing.{changers_with, needed_with, room_with, goes_on, weighed_saved, weighed}
use Rattle.rss_session.proofs.Sums.{changed_sum, get_open, here, elsewhere}
use Rattle.rss_session.proofs.Marked.{rising_higher, rising_push}

-- ---- how many

abbrev one : Bool → ℕ
one b = cond b 1 0

module _ {old new : OpenView} {t : ℕ} {note : Noted} (opened : is_open old t ≡ true) (notes : Notes t note old new) where
  length_now : length (with_change note (transaction_in old t)).changes ≡ length (transaction_in old t).changes + 1
  length_now = length-append (transaction_in old t).changes (note ∷ [])

  pub noted_p : (sums_in new).p ≡ (sums_in old).p + 1
  noted_p =
      let more = changed_sum (change_count any) old.transactions t (with_change note (transaction_in old t)) (transaction_in old t) (get_open old t opened) in
      let is = ap (λ m. sum_by (change_count any) (finite.values m)) notes.transactions in
      omega (arith, more, is, length_now, count_any (transaction_in old t).changes, count_any ((transaction_in old t).changes ++ note ∷ []))

  abbrev has : Transaction → Bool
  has x = nat_lt 0 (change_count any x)

  pub noted_q : (sums_in new).q ≡ changers_with old t
  noted_q =
      let more = changed_sum (λ (x : Transaction). one (has x)) old.transactions t (with_change note (transaction_in old t)) (transaction_in old t) (get_open old t opened) in
      let is = ap (λ m. count_by has (finite.values m)) notes.transactions in
      let now_has : has (with_change note (transaction_in old t)) ≡ true = let count = count_any ((transaction_in old t).changes ++ note ∷ []) in let long = length_now in grind (arith, nat_tests) in
      by_test (nat_lt 0 (length (transaction_in old t).changes))
      (λ e. let had : has (transaction_in old t) ≡ true = ap (nat_lt 0) (count_any (transaction_in old t).changes) ∙ e in
      rw e (omega (arith, more, is, ap one now_has, ap one had)))
      (λ e. let had : has (transaction_in old t) ≡ false = ap (nat_lt 0) (count_any (transaction_in old t).changes) ∙ e in
      rw e (omega (arith, more, is, ap one now_has, ap one had)))

  -- ---- where they stand

  in_here : transaction_in new t ≡ with_change note (transaction_in old t)
  in_here = ap done (ap (λ m. finite.get m t) notes.transactions ∙ here old.transactions t (with_change note (transaction_in old t)))

  in_other : (u : ℕ) → (u ≡ t → ⊥) → finite.get new.transactions u ≡ finite.get old.transactions u
  in_other u off = ap (λ m. finite.get m u) notes.transactions ∙ elsewhere old.transactions t (with_change note (transaction_in old t)) u off

  pub noted_placed : (low high more : ℕ) → high ≡ note.position → high < more → ((u : ℕ) → AreRising low high (transaction_in old u).changes) → (u : ℕ) → AreRising low more (transaction_in new u).changes
  noted_placed low high more at below placed u = by_same u t
      (λ is. subst (λ (x : Transaction). AreRising low more x.changes) (sym (ap (transaction_in new) is ∙ in_here)) (rising_push low high more (transaction_in old t).changes note (omega (arith, at)) (omega (arith, at, below)) (placed t)))
      (λ off. subst (λ (x : Transaction). AreRising low more x.changes) (sym (ap done (in_other u off))) (rising_higher low high more (transaction_in old u).changes (omega (arith, below)) (placed u)))

  pub noted_open : (u : ℕ) → is_open new u ≡ true → is_open old u ≡ true
  noted_open u is = by_same u t
      (λ same. ap (is_open old) same ∙ opened)
      (λ off. ap is_some (sym (in_other u off)) ∙ is)

-- ---- what was weighed

-- it goes on
pub record Goes (view : SessionView) (t : ℕ) (number : Option ℕ) (size : ℕ) : Type 0 where
  pub room : room_with view number ≤ view.store.root.slots
  pub log : needed_with view t size ≤ free_of view.store.log

pub weighed_on : (view : SessionView) (t : ℕ) (number : Option ℕ) (size : ℕ) → weighed view t number size ≡ Ok false → goes_on view t number size ≡ true
weighed_on view t number size is = by_test (goes_on view t number size)
    (λ e. e)
    (λ e. absurd (not_saved (rw e at is)))
  where
    saved_not : (full fits : Bool) (one two : Refusal) → (if full then Err one else (if fits then Ok true else Err two)) ≡ Ok false → ⊥
    saved_not true fits one two is = cc (is)
    saved_not false true one two is = absurd (true≢false (inside is))
      where
        inside : ◌≡◌ {A = Result Bool Refusal} (Ok true) (Ok false) → true ≡ false
        inside e = cc (e)
    saved_not false false one two is = cc (is)

    not_saved : weighed_saved view t number size ≡ Ok false → ⊥
    not_saved saved = saved_not _ _ _ _ saved

pub weighed_goes : (view : SessionView) (t : ℕ) (number : Option ℕ) (size : ℕ) → weighed view t number size ≡ Ok false → Goes view t number size
weighed_goes view t number size is =
    let on : goes_on view t number size ≡ true = weighed_on view t number size is in
    record { room = grind (arith, nat_tests); log = grind (arith, nat_tests) }
