-- One open transaction takes a step, and the others stay as they are.
use Rattle.std.proofs.Common.{◌≡◌, ◌≢◌, inl, inr, ℕ, ◌-◌, ◌^◌, ◌<◌, ◌≤◌, Bool, true, false, List, length, get_or, set, refl, sym, ◌∙◌, ap, subst, arith, get_or-set_same, get_or-set_other, eqb-true, eq-eqb}
use Rattle.std.specs.Prelude.{Option, Some, None, is_some, IsSome, OnSome, option_map, unwrap_or, slice_index}
use Rattle.std.specs.BTreeMap.{insert_entry}
use Rattle.std.specs.List.Sorted.{IsStrictlySortedBy}
use Rattle.std.specs.FinMap as map
use Rattle.std.specs.Map.{lookup, remove_entry, keys_of}
use Rattle.std.specs.Ordering.{nat_cmp}
use Rattle.std.specs.Prelude.{◌==◌}
use mathlib.Core.Bool.{true≢false}
use Rattle.rss_trans.specs.declared.noted.Noted.{Noted}
use Rattle.rss_trans.specs.Transactions.{Transaction, nothing, is_open, transaction_in, IsSame, Begins, Steps, Notes, Ends, of_relation, is_in, counted, with_change}
use Rattle.rss_trans.specs.Tallies.{Kept}
use Rattle.rss_trans.specs.Tables.{at, find, changed, Table, table, told, kept_at, shown, room_of, IsTable}
use Rattle.rss_trans.proofs.Mapping.{get_made, insert_made, step_made, remove_made}
use Rattle.rss_trans.proofs.Counting.{cases}
use Rattle.rss_trans.proofs.Showing.{find-shown, found_key, all_found, shown_set, there_set, changed_id, within_slots, shown_insert, there_insert, apart_insert, off_vacant, shown_remove, there_remove, apart_remove, keys_of-shown, key_found}

-- ---- a step

-- the transactions are shown in order
pub in_order : (t : Table) → IsTable t → IsStrictlySortedBy nat_cmp (keys_of (shown t.keys t.slots))
in_order t is = subst (IsStrictlySortedBy nat_cmp) (sym (keys_of-shown t.keys t.slots)) is.order

module _ (t : Table) (is : IsTable t) (n : ℕ) where
  -- what the map has is what is shown
  pub found_in : map.get (told t).transactions n ≡ find n (shown t.keys t.slots)
  found_in = get_made (shown t.keys t.slots) (in_order t is) n

  -- it is open where it has a key
  pub open_test : is_open (told t) n ≡ is_some (lookup (at n) t.keys)
  open_test = ap is_some found_in ∙ ap is_some (find-shown n t.keys t.slots) ∙ by (lookup (at n) t.keys)
    where
      by : (o : Option ℕ) → is_some (option_map (λ key. (kept_at t.slots key).transaction) o) ≡ is_some o
      by None = refl
      by (Some key) = refl

  -- an open transaction has a record
  pub open_key : is_open (told t) n ≡ true → IsSome (lookup (at n) t.keys)
  open_key has = found_key n t.keys t.slots (sym (ap is_some found_in) ∙ has)

  module _ (key : ℕ) (at_key : lookup (at n) t.keys ≡ Some key) where
    pub there : IsSome (get_or t.slots key None)
    there = all_found (λ k. IsSome (get_or t.slots k None)) n t.keys key at_key is.there

    pub shown_key : is_some (find n (shown t.keys t.slots)) ≡ true
    shown_key = key_found n t.keys t.slots (ap is_some at_key)

    pub not_none : get_or t.slots key None ≡ None → ⊥
    not_none none = let empty : Option Kept = None in let e : is_some empty ≡ true = ap is_some (sym none) ∙ there in cc

    pub opened : transaction_in (told t) n ≡ (kept_at t.slots key).transaction
    opened = ap (λ (o : Option Transaction). unwrap_or o nothing) (found_in ∙ find-shown n t.keys t.slots ∙ ap (option_map (λ k. (kept_at t.slots k).transaction)) at_key)

    module _ (kept : Kept) (found : get_or t.slots key None ≡ Some kept) where
      kept_is : kept_at t.slots key ≡ kept
      kept_is = ap (λ (o : Option Kept). unwrap_or o (record { transaction = nothing; room = 0 })) found

      pub opened_kept : transaction_in (told t) n ≡ kept.transaction
      opened_kept = opened ∙ ap (λ (k : Kept). k.transaction) kept_is

      pub room_kept : room_of t n ≡ kept.room
      room_kept = ap (λ (o : Option ℕ). unwrap_or (option_map (λ k. (kept_at t.slots k).room) o) 0) at_key ∙ ap (λ (k : Kept). k.room) kept_is

      module _ (new : Kept) where
        abbrev after : Table
        after = table t.keys (set t.slots key (Some new)) t.since t.since_of

        pub stepped_table : IsTable after
        stepped_table = record {
          few = is.few;
          order = is.order;
          there = there_set t.keys t.slots key new (within_slots t.slots key there) is.there;
          apart = is.apart;
          relations = is.relations;
          below = is.below;
        }

        pub stepped_shown : (step : Transaction → Transaction) → new.transaction ≡ step kept.transaction → shown t.keys (set t.slots key (Some new)) ≡ changed n step (shown t.keys t.slots)
        stepped_shown step made = shown_set n step t.keys t.slots key new at_key is.apart (within_slots t.slots key there) (made ∙ ap (λ (k : Kept). step k.transaction) (sym kept_is))

        pub stepped : (step : Transaction → Transaction) → new.transaction ≡ step kept.transaction → Steps n step (told t) (told after)
        stepped step made = record { transactions = step_made (shown t.keys t.slots) (shown after.keys after.slots) n step (in_order t is) (in_order after stepped_table) shown_key (stepped_shown step made); since = refl; since_of = refl }

        pub kept_same : new.transaction ≡ kept.transaction → IsSame (told t) (told after)
        kept_same made = record { transactions = ap map.from_sorted (stepped_shown (λ x. x) made ∙ changed_id n (shown t.keys t.slots)); since = refl; since_of = refl }

        pub room_after : room_of after n ≡ new.room
        room_after =
            ap (λ (o : Option ℕ). unwrap_or (option_map (λ k. (kept_at (set t.slots key (Some new)) k).room) o) 0) at_key
            ∙ ap (λ (o : Option Kept). (unwrap_or o (record { transaction = nothing; room = 0 })).room) (get_or-set_same t.slots key (Some new) None (within_slots t.slots key there))

      -- a change is noted
      module _ (change : Noted) (new : Kept) (since : ℕ) (since_of : List ℕ) (made : new.transaction ≡ with_change change kept.transaction) where
        abbrev noted_after : Table
        noted_after = table t.keys (set t.slots key (Some new)) since since_of

        pub noted_table : length since_of ≡ 256 → ((relation : ℕ) → slice_index since_of relation ≤ 2 ^ 64 - 1) → IsTable noted_after
        noted_table long below = record {
          few = is.few;
          order = is.order;
          there = there_set t.keys t.slots key new (within_slots t.slots key there) is.there;
          apart = is.apart;
          relations = long;
          below = below;
        }

        pub noted : since ≡ counted t.since true → ((relation : ℕ) → slice_index since_of relation ≡ counted (slice_index t.since_of relation) (of_relation relation change)) → Notes n change (told t) (told noted_after)
        noted all counts = record {
          transactions = step_made (shown t.keys t.slots) (shown noted_after.keys noted_after.slots) n (with_change change) (in_order t is) (in_order (after new) (stepped_table new)) shown_key (stepped_shown new (with_change change) made);
          since = all;
          since_of = counts;
        }

    pub ended_table : IsStrictlySortedBy nat_cmp (keys_of (remove_entry (at n) t.keys)) → length (remove_entry (at n) t.keys) ≤ 32 → IsTable (table (remove_entry (at n) t.keys) (set t.slots key None) t.since t.since_of)
    ended_table order few = record {
      few = few;
      order = order;
      there = there_remove n t.keys t.slots key at_key is.apart is.there;
      apart = apart_remove n t.keys is.apart;
      relations = is.relations;
      below = is.below;
    }

    pub ended : IsStrictlySortedBy nat_cmp (keys_of (remove_entry (at n) t.keys)) → Ends n (told t) (told (table (remove_entry (at n) t.keys) (set t.slots key None) t.since t.since_of))
    ended order = record {
      transactions = remove_made (shown t.keys t.slots) (shown (remove_entry (at n) t.keys) (set t.slots key None)) n (in_order t is)
          (subst (IsStrictlySortedBy nat_cmp) (sym (keys_of-shown (remove_entry (at n) t.keys) (set t.slots key None))) order)
          (shown_remove n t.keys t.slots key at_key is.apart);
      since = refl;
      since_of = refl;
    }

  -- a transaction begins
  module _ (key : ℕ) (new : List (Option Kept)) (vacant : get_or t.slots key None ≡ None) (same : (other : ℕ) → other ≢ key → get_or new other None ≡ get_or t.slots other None) (kept : Kept) (put : get_or new key None ≡ Some kept) where
    pub begun_table : IsStrictlySortedBy nat_cmp (keys_of (insert_entry nat_cmp t.keys n key)) → length (insert_entry nat_cmp t.keys n key) ≤ 32 → IsTable (table (insert_entry nat_cmp t.keys n key) new t.since t.since_of)
    begun_table order few =
        let off = off_vacant t.slots key t.keys vacant is.there in
        record {
          few = few;
          order = order;
          there = there_insert t.slots new key same n t.keys (ap is_some put) off is.there;
          apart = apart_insert t.keys n key off is.apart;
          relations = is.relations;
          below = is.below;
        }

    pub begun : IsStrictlySortedBy nat_cmp (keys_of (insert_entry nat_cmp t.keys n key)) → kept.transaction ≡ nothing → Begins n (told t) (told (table (insert_entry nat_cmp t.keys n key) new t.since t.since_of))
    begun order made = record {
      transactions = insert_made (shown t.keys t.slots) (shown (insert_entry nat_cmp t.keys n key) new) n nothing (in_order t is)
          (subst (IsStrictlySortedBy nat_cmp) (sym (keys_of-shown (insert_entry nat_cmp t.keys n key) new)) order)
          (shown_insert t.slots new key same n nothing t.keys (ap (λ (o : Option Kept). (unwrap_or o (record { transaction = nothing; room = 0 })).transaction) put ∙ made) (off_vacant t.slots key t.keys vacant is.there));
      since = refl;
      since_of = refl;
    }

-- ---- the counts since a checkpoint

abbrev pub AreBelow : List ℕ → Type 0
AreBelow counts = (relation : ℕ) → slice_index counts relation ≤ 2 ^ 64 - 1

abbrev pub AreCounted : List ℕ → List ℕ → Noted → Type 0
AreCounted old new change = (relation : ℕ) → slice_index new relation ≡ counted (slice_index old relation) (of_relation relation change)

stays : (count : ℕ) (more : Bool) → count ≤ 2 ^ 64 - 1 → more ≡ false → count ≡ counted count more
stays count more below is = let e : count ≡ counted count false = omega arith in e ∙ ap (counted count) (sym is)

pub counts_none : (since_of : List ℕ) (change : Noted) → AreBelow since_of → change.relation ≡ None → AreCounted since_of since_of change
counts_none since_of change below none relation = stays (slice_index since_of relation) (of_relation relation change) (below relation) (ap (is_in relation) none)

pub counts_in : (since_of : List ℕ) (change : Noted) (number count : ℕ) → AreBelow since_of → change.relation ≡ Some number → number < length since_of → count ≡ counted (slice_index since_of number) true → AreCounted since_of (set since_of number count) change
counts_in since_of change number count below is within more relation =
    let test : of_relation relation change ≡ (number == relation) = ap (is_in relation) is in
    let own : of_relation number change ≡ true = ap (is_in number) is ∙ eq-eqb number number refl in
    elim (cases (number == relation)) [
      | inl so ↦
          let one : number ≡ relation = eqb-true number relation so in
          subst (λ (k : ℕ). slice_index (set since_of number count) k ≡ counted (slice_index since_of k) (of_relation k change)) one
          (get_or-set_same since_of number count 0 within ∙ more ∙ ap (counted (slice_index since_of number)) (sym own))
      | inr off ↦
          get_or-set_other since_of number relation count 0 (λ e. true≢false (sym (eq-eqb number relation (sym e)) ∙ off))
          ∙ stays (slice_index since_of relation) (of_relation relation change) (below relation) (test ∙ off)
    ]

pub below_more : (old new : List ℕ) (change : Noted) → AreCounted old new change → AreBelow new
below_more old new change counts relation = let e = counts relation in omega arith

-- ---- the same, of the lists that the maps answer with

pub of_some : {A : Type 0} (o : Option A) (P : Type 0) → IsSome o → OnSome o P → P
of_some None P some p = absurd (true≢false (sym some))
of_some (Some x) P some p = p

pub ended_as : (t : Table) (is : IsTable t) (n key : ℕ) → lookup (at n) t.keys ≡ Some key → (keys : List (ℕ × ℕ)) (slots : List (Option Kept)) → keys ≡ remove_entry (at n) t.keys → slots ≡ set t.slots key None → IsStrictlySortedBy nat_cmp (keys_of keys) → length keys ≤ 32 → IsTable (table keys slots t.since t.since_of) × Ends n (told t) (told (table keys slots t.since t.since_of))
ended_as t is n key at_key keys slots are left order few =
    let P : List (ℕ × ℕ) → List (Option Kept) → Type 0 = λ ks ss. IsTable (table ks ss t.since t.since_of) × Ends n (told t) (told (table ks ss t.since t.since_of)) in
    subst (λ (ss : List (Option Kept)). P keys ss) (sym left)
    (subst (λ (ks : List (ℕ × ℕ)). P ks (set t.slots key None)) (sym are)
    (ended_table t is n key at_key (subst (λ (ks : List (ℕ × ℕ)). IsStrictlySortedBy nat_cmp (keys_of ks)) are order) (subst (λ (ks : List (ℕ × ℕ)). length ks ≤ 32) are few), ended t is n key at_key (subst (λ (ks : List (ℕ × ℕ)). IsStrictlySortedBy nat_cmp (keys_of ks)) are order)))

pub begun_as : (t : Table) (is : IsTable t) (n key : ℕ) (keys : List (ℕ × ℕ)) (slots : List (Option Kept)) (kept : Kept) → keys ≡ insert_entry nat_cmp t.keys n key → get_or t.slots key None ≡ None → ((other : ℕ) → other ≢ key → get_or slots other None ≡ get_or t.slots other None) → get_or slots key None ≡ Some kept → kept.transaction ≡ nothing → IsStrictlySortedBy nat_cmp (keys_of keys) → length keys ≤ 32 → IsTable (table keys slots t.since t.since_of) × Begins n (told t) (told (table keys slots t.since t.since_of))
begun_as t is n key keys slots kept are vacant same put made order few =
    subst (λ (ks : List (ℕ × ℕ)). IsTable (table ks slots t.since t.since_of) × Begins n (told t) (told (table ks slots t.since t.since_of))) (sym are)
    (begun_table t is n key slots vacant same kept put (subst (λ (ks : List (ℕ × ℕ)). IsStrictlySortedBy nat_cmp (keys_of ks)) are order) (subst (λ (ks : List (ℕ × ℕ)). length ks ≤ 32) are few), begun t is n key slots vacant same kept put (subst (λ (ks : List (ℕ × ℕ)). IsStrictlySortedBy nat_cmp (keys_of ks)) are order) made)
