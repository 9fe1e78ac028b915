-- The finite map that the entries of a table make, and what becomes of it when they change.
use Rattle.std.proofs.Common.{◌≡◌, inl, inr, ℕ, Bool, true, false, cond, T, ◌&&◌, List, [], ◌∷◌, length, refl, sym, ◌∙◌, ap, subst}
use Rattle.std.specs.Prelude.{Option, Some, None, is_some, unwrap_or}
use Rattle.std.specs.BTreeMap.{insert_entry}
use Rattle.std.specs.List.{AllByRecursion}
use Rattle.std.specs.List.Sorted.{IsStrictlySortedBy}
use Rattle.std.specs.Map.{remove_entry, keys_of, values_of}
use Rattle.std.specs.declared.cmp.Ordering.{Ordering}
use Rattle.std.specs.declared.cmp.Ordering.TheVariants.{Less, Equal, Greater}
use Rattle.std.specs.Ordering.{eq_by_cmp, is_lt, nat_cmp, match_ordering}
use Rattle.std.specs.Cmp.{Equal-is, nat_cmp_total, eq_by_cmp_equiv}
use Rattle.std.specs.FinMap as finite
use Rattle.std.specs.FinMap.{FinMap, nat_cmp-IsAntisymmetric, entries-from_sorted, get-from_sorted, entries-insert, get-insert, get-remove, len-entries, same_entries_map, same_map, get-empty}
use Rattle.std.specs.FinMap.Entries as listed
use Rattle.std.proofs.lemmas.Bool.{cases_Bool, cond-true, cond-false}
use Rattle.std.proofs.lemmas.Map.{lookup-remove_entry}
use Rattle.std.proofs.lemmas.Map.Keys.{IsDistinct-from_sorted}
use Rattle.rss_trans.specs.Transactions.{Transaction, nothing}
use Rattle.rss_trans.specs.Tallies.{Kept}
use Rattle.rss_trans.specs.Tables.{at, find, changed, shown}
use mathlib.Core.Bool.{true≢false}

abbrev pub Entries : Type 0
Entries = List (ℕ × Transaction)

abbrev pub Made : Entries → FinMap nat_cmp Transaction
Made es = finite.from_sorted es

-- ---- in order

both : (a b : Bool) → T a → T b → T (a && b)
both true b p q = q
both false b p q = p

below_listed : (x : ℕ) (es : Entries) → AllByRecursion (λ y. nat_cmp x y ≡ Less) (keys_of es) → T (listed.below_all nat_cmp x es)
below_listed x [] all = tt
below_listed x (e ∷ es) all = both _ _ (subst (λ (o : Ordering). T (is_lt o)) (sym all.0) tt) (below_listed x es all.1)

pub sorted_listed : (es : Entries) → IsStrictlySortedBy nat_cmp (keys_of es) → T (listed.is_sorted nat_cmp es)
unfolding IsStrictlySortedBy
sorted_listed [] sorted = tt
sorted_listed (e ∷ es) sorted = both _ _ (below_listed e.0 es sorted.0) (sorted_listed es sorted.1)

-- ---- what is found

lookup_is : (t : ℕ) (es : Entries) → listed.find nat_cmp t es ≡ find t es
lookup_is t [] = refl
lookup_is t (e ∷ es) = ap (cond (eq_by_cmp nat_cmp t e.0) (Some e.1)) (lookup_is t es)

module _ (es : Entries) (sorted : IsStrictlySortedBy nat_cmp (keys_of es)) where
  pub entries_made : finite.entries (Made es) ≡ es
  entries_made = entries-from_sorted nat_cmp es (sorted_listed es sorted)

  pub get_made : (t : ℕ) → finite.get (Made es) t ≡ find t es
  get_made t = get-from_sorted nat_cmp es t (sorted_listed es sorted) ∙ lookup_is t es

  pub len_made : finite.len (Made es) ≡ length es
  len_made = len-entries (Made es) ∙ ap (λ (l : Entries). length l) entries_made

  pub values_made : finite.values (Made es) ≡ values_of es
  values_made = ap values_of entries_made

  pub keys_made : finite.keys (Made es) ≡ keys_of es
  keys_made = ap keys_of entries_made

-- ---- a change of one

insert_is : (t : ℕ) (x : Transaction) (es : Entries) → insert_entry nat_cmp es t x ≡ listed.put nat_cmp t x es
insert_is t x [] = refl
insert_is t x (e ∷ es) = by (nat_cmp t e.0) (insert_is t x es)
  where
    by : (o : Ordering) → insert_entry nat_cmp es t x ≡ listed.put nat_cmp t x es → match_ordering o ((t, x) ∷ e ∷ es) ((e.0, x) ∷ es) (e ∷ insert_entry nat_cmp es t x) ≡ listed.by_order o ((t, x) ∷ e ∷ es) ((e.0, x) ∷ es) (e ∷ listed.put nat_cmp t x es)
    by Less later = refl
    by Equal later = refl
    by Greater later = ap (λ (l : Entries). e ∷ l) later

pub insert_made : (es new : Entries) (t : ℕ) (x : Transaction) → IsStrictlySortedBy nat_cmp (keys_of es) → IsStrictlySortedBy nat_cmp (keys_of new) → new ≡ insert_entry nat_cmp es t x → Made new ≡ finite.insert (Made es) t x
insert_made es new t x sorted then is = same_entries_map (Made new) (finite.insert (Made es) t x)
    (entries_made new then ∙ is ∙ insert_is t x es ∙ ap (listed.put nat_cmp t x) (sym (entries_made es sorted)) ∙ sym (entries-insert nat_cmp_total (Made es) t x))

-- what is found after a step
find_changed : (t q : ℕ) (step : Transaction → Transaction) (es : Entries) (x : Transaction) → find t es ≡ Some x → find q (changed t step es) ≡ cond (eq_by_cmp nat_cmp q t) (Some (step x)) (find q es)
find_changed t q step [] x found = absurd (cc)
find_changed t q step (e ∷ es) x found = elim (cases_Bool (at t e.0)) [
  | inl here ↦
      let same : t ≡ e.0 = nat_cmp-IsAntisymmetric t e.0 ((Equal-is (nat_cmp t e.0)).0 here) in
      let held : Some e.1 ≡ Some x = sym (cond-true _ _ _ here) ∙ found in
      let one : e.1 ≡ x = cc in
      ap (find q) (cond-true (at t e.0) ((e.0, step e.1) ∷ es) (e ∷ changed t step es) here)
      ∙ (λ i. cond (eq_by_cmp nat_cmp q (sym same i)) (Some (step (one i))) (find q es))
      ∙ twice (eq_by_cmp nat_cmp q t) (Some (step x)) (Some e.1) (find q es)
      ∙ ap (λ (n : ℕ). cond (eq_by_cmp nat_cmp q t) (Some (step x)) (cond (eq_by_cmp nat_cmp q n) (Some e.1) (find q es))) same
  | inr off ↦
      let later = find_changed t q step es x (sym (cond-false _ _ _ off) ∙ found) in
      ap (find q) (cond-false (at t e.0) ((e.0, step e.1) ∷ es) (e ∷ changed t step es) off)
      ∙ ap (cond (at q e.0) (Some e.1)) later
      ∙ swapped (at q e.0) (eq_by_cmp nat_cmp q t) (Some e.1) (Some (step x)) (find q es) (λ a b. true≢false (sym (tie q e.0 t a b) ∙ off))
]
  where
    twice : {A : Type 0} (b : Bool) (x y z : A) → cond b x z ≡ cond b x (cond b y z)
    twice true x y z = refl
    twice false x y z = refl

    swapped : {A : Type 0} (a b : Bool) (x y z : A) → (a ≡ true → b ≡ true → ⊥) → cond a x (cond b y z) ≡ cond b y (cond a x z)
    swapped true true x y z apart = absurd (apart refl refl)
    swapped true false x y z apart = refl
    swapped false b x y z apart = refl

    -- what ties with q and what t ties with are one
    tie : (q e t : ℕ) → at q e ≡ true → at q t ≡ true → at t e ≡ true
    tie q e t a b =
        let one : q ≡ t = nat_cmp-IsAntisymmetric q t ((Equal-is (nat_cmp q t)).0 b) in
        subst (λ (n : ℕ). at n e ≡ true) one a

pub step_made : (es new : Entries) (t : ℕ) (step : Transaction → Transaction) → IsStrictlySortedBy nat_cmp (keys_of es) → IsStrictlySortedBy nat_cmp (keys_of new) → is_some (find t es) ≡ true → new ≡ changed t step es → Made new ≡ finite.insert (Made es) t (step (unwrap_or (finite.get (Made es) t) nothing))
step_made es new t step sorted then some is = by (find t es) refl some
  where
    by : (o : Option Transaction) → find t es ≡ o → is_some o ≡ true → Made new ≡ finite.insert (Made es) t (step (unwrap_or (finite.get (Made es) t) nothing))
    by None found some = absurd (true≢false (sym some))
    by (Some x) found some =
        let held : unwrap_or (finite.get (Made es) t) nothing ≡ x = ap (λ (o : Option Transaction). unwrap_or o nothing) (get_made es sorted t ∙ found) in
        same_map nat_cmp_total nat_cmp-IsAntisymmetric (Made new) (finite.insert (Made es) t (step (unwrap_or (finite.get (Made es) t) nothing))) (λ q.
        get_made new then q
        ∙ ap (find q) is
        ∙ find_changed t q step es x found
        ∙ (λ i. cond (eq_by_cmp nat_cmp q t) (Some (step (sym held i))) (sym (get_made es sorted q) i))
        ∙ sym (get-insert nat_cmp_total (Made es) t (step (unwrap_or (finite.get (Made es) t) nothing)) q))

pub remove_made : (es new : Entries) (t : ℕ) → IsStrictlySortedBy nat_cmp (keys_of es) → IsStrictlySortedBy nat_cmp (keys_of new) → new ≡ remove_entry (at t) es → Made new ≡ finite.remove (Made es) t
remove_made es new t sorted then is = same_map nat_cmp_total nat_cmp-IsAntisymmetric (Made new) (finite.remove (Made es) t) (λ q.
    get_made new then q
    ∙ ap (find q) is
    ∙ lookup-remove_entry (eq_by_cmp_equiv nat_cmp_total) (at t) (λ x y same. ap (λ (n : ℕ). eq_by_cmp nat_cmp n y) (nat_cmp-IsAntisymmetric t x ((Equal-is (nat_cmp t x)).0 same))) q es (IsDistinct-from_sorted nat_cmp (keys_of es) sorted)
    ∙ ap (λ (b : Bool). cond b None (find q es)) ((eq_by_cmp_equiv nat_cmp_total).symm t q)
    ∙ ap (cond (eq_by_cmp nat_cmp q t) None) (sym (get_made es sorted q))
    ∙ sym (get-remove nat_cmp_total (Made es) t q))

pub none_made : Made [] ≡ finite.empty
unfolding IsStrictlySortedBy
none_made = same_map nat_cmp_total nat_cmp-IsAntisymmetric (Made []) finite.empty (λ q. get_made [] sorted q ∙ sym (get-empty nat_cmp q))
  where
    sorted : IsStrictlySortedBy nat_cmp []
    sorted = tt

pub new_made : (keys : List (ℕ × ℕ)) (slots : List (Option Kept)) → keys ≡ [] → Made (shown keys slots) ≡ finite.empty
new_made keys slots none = ap (λ (ks : List (ℕ × ℕ)). Made (shown ks slots)) none ∙ none_made
