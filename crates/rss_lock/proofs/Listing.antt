-- The tuples that others hold, gathered from the items of a lock table.
use Rattle.std.proofs.Common.{◌≡◌, ◌≢◌, ◌⊎◌, inl, inr, ◌↔◌, ℕ, Bool, true, List, [], ◌∷◌, ◌++◌, get_or, refl, sym, ◌∙◌, ap, subst, arith, append_assoc}
use Rattle.std.specs.Prelude.{nat_eq, Option, Some, None, is_some, All, Contains}
use Rattle.std.specs.Cmp.{IsTotalOrder, decided, nat_cmp_total, unsigned_ties}
use Rattle.std.proofs.Common.{◌&&◌}
use Rattle.std.specs.declared.cmp.Ordering.{Ordering}
use Rattle.std.specs.declared.cmp.Ordering.TheVariants.{Less, Equal, Greater}
use Rattle.std.specs.Ordering.{eq_by_cmp, is_eq, nat_cmp, ordering_then}
use Rattle.std.specs.List.{dedup}
use Rattle.std.specs.List.Sorted.{IsPermutation, IsSorted, IsStrictlySortedBy}
use Rattle.std.proofs.lemmas.Cmp.{on_total, then_total}
use Rattle.std.proofs.lemmas.List.{append-nil}
use Rattle.std.proofs.lemmas.List.Elements.{Contains-append_left, Contains-append_right, Contains-append_cases}
use Rattle.std.proofs.lemmas.List.Kept.{Contains-dedup, Contains-from_dedup, IsStrictlySortedBy-dedup}
use Rattle.std.proofs.lemmas.List.Sorted.{Contains-permutation, IsPermutation-sym}
use Rattle.std.proofs.lemmas.Map.Views.{Contains-from_lookup}
use Rattle.rss_base.specs.declared.name.Name.{Name}
use Rattle.rss_base.specs.declared.tid.Tid.{Tid}
use Rattle.rss_base.specs.declared.item.Item.{Item}
use Rattle.rss_base.specs.declared.item.Item.TheVariants.{Tuple}
use Rattle.rss_base.specs.declared.need.Mode.TheVariants.{X}
use Rattle.rss_base.proofs.Equal.{item_decides, same_tid, tid_decides}
use Rattle.rss_lock.specs.declared.places.Holder.{Holder}
use Rattle.rss_lock.specs.declared.places.Grants.{Grants}
use Rattle.rss_lock.specs.Locks.{tid_cmp}
use Rattle.rss_lock.specs.Table.{Modes, Holds, Table, held_in, grants_on, mode_of, IsTable, BarsTid, Disagrees}
use Rattle.rss_lock.proofs.Barring.{some_held, from_place, to_place}

abbrev pub Entry : Type 0
Entry = Item × Grants

-- another transaction holds a lock on this identifier in one of the relations
pub record IsBarred (mode : Modes) (t : ℕ) (relations : List Name) (tid : Tid) : Type 0 where
  pub relation : Name
  pub listed : Contains relations relation
  pub other : ℕ
  pub another : other ≢ t
  pub holds : Holds mode (Tuple relation tid) other

module _ (holders : List (Option Holder)) (t : ℕ) (relations : List Name) where
  -- one of these items is the tuple, and another transaction holds it
  pub record IsAmong (entries : List Entry) (tid : Tid) : Type 0 where
    pub entry : Entry
    pub there : Contains entries entry
    pub bars : BarsTid holders t relations entry.0 entry.1 tid

  -- the identifiers are those of the items that were looked at
  pub record Gathers (entries rest : List Entry) (tids : List Tid) : Type 0 where
    pub done : List Entry
    pub split : entries ≡ done ++ rest
    pub each : (tid : Tid) → Contains tids tid ↔ IsAmong done tid

  earlier : (done : List Entry) (entry : Entry) (tid : Tid) → IsAmong done tid → IsAmong (done ++ entry ∷ []) tid
  earlier done entry tid among = record { entry = among.entry; there = Contains-append_left done (entry ∷ []) among.entry among.there; bars = among.bars }

  latest : (done : List Entry) (entry : Entry) (tid : Tid) → BarsTid holders t relations entry.0 entry.1 tid → IsAmong (done ++ entry ∷ []) tid
  latest done entry tid bars = record { entry = entry; there = Contains-append_right done (entry ∷ []) entry (0, omega arith, refl); bars = bars }

  only : {A : Type 0} (x y : A) → Contains (x ∷ []) y → x ≡ y
  only x y there = let first : there.0 ≡ 0 = omega (arith, there.1) in subst (λ (k : ℕ). get_or (x ∷ []) k y ≡ y) first there.2

  later : (done : List Entry) (entry : Entry) (tid : Tid) → IsAmong (done ++ entry ∷ []) tid → IsAmong done tid ⊎ BarsTid holders t relations entry.0 entry.1 tid
  later done entry tid among = elim (Contains-append_cases done (entry ∷ []) among.entry among.there) [
    | inl before ↦ inl (record { entry = among.entry; there = before; bars = among.bars })
    | inr last ↦ inr (subst (λ (e : Entry). BarsTid holders t relations e.0 e.1 tid) (sym (only entry among.entry last)) among.bars)
  ]

  moved : (entries done : List Entry) (rest : List Entry) (entry : Entry) (next : List Entry) → rest ≡ entry ∷ next → entries ≡ done ++ rest → entries ≡ (done ++ entry ∷ []) ++ next
  moved entries done rest entry next is split = split ∙ ap (λ (l : List Entry). done ++ l) is ∙ sym (append_assoc done (entry ∷ []) next)

  pub gathers_skip : (entries rest : List Entry) (tids : List Tid) (entry : Entry) (next : List Entry) → rest ≡ entry ∷ next → ((tid : Tid) → BarsTid holders t relations entry.0 entry.1 tid → ⊥) → Gathers entries rest tids → Gathers entries next tids
  gathers_skip entries rest tids entry next is none old = record {
    done = old.done ++ entry ∷ [];
    split = moved entries old.done rest entry next is old.split;
    each = λ tid. (
      λ there. earlier old.done entry tid ((old.each tid).0 there),
      λ among. elim (later old.done entry tid among) [ inl before ↦ (old.each tid).1 before | inr bars ↦ absurd (none tid bars) ],
    );
  }

  pub gathers_one : (entries rest : List Entry) (tids : List Tid) (entry : Entry) (next : List Entry) (found : Tid) → rest ≡ entry ∷ next → BarsTid holders t relations entry.0 entry.1 found → ((tid : Tid) → BarsTid holders t relations entry.0 entry.1 tid → found ≡ tid) → Gathers entries rest tids → Gathers entries next (tids ++ found ∷ [])
  gathers_one entries rest tids entry next found is bars one old = record {
    done = old.done ++ entry ∷ [];
    split = moved entries old.done rest entry next is old.split;
    each = λ tid. (
      λ there. elim (Contains-append_cases tids (found ∷ []) tid there) [
        | inl before ↦ earlier old.done entry tid ((old.each tid).0 before)
        | inr last ↦ latest old.done entry tid (subst (BarsTid holders t relations entry.0 entry.1) (only found tid last) bars)
      ],
      λ among. elim (later old.done entry tid among) [
        | inl before ↦ Contains-append_left tids (found ∷ []) tid ((old.each tid).1 before)
        | inr here ↦ Contains-append_right tids (found ∷ []) tid (0, omega arith, one tid here)
      ],
    );
  }

  pub gathers_all : (entries : List Entry) (tids : List Tid) → Gathers entries [] tids → (tid : Tid) → Contains tids tid ↔ IsAmong entries tid
  gathers_all entries tids all tid = subst (λ (l : List Entry). Contains tids tid ↔ IsAmong l tid) (sym (append-nil all.done) ∙ sym all.split) (all.each tid)

-- ---- what the table tells of them

module _ (table : Table) (is : IsTable table) (t : ℕ) (relations : List Name) (found : All (λ e. grants_on table.entries e.0 ≡ Some e.1) table.entries) where
  there_at : (e : Entry) → Contains table.entries e → grants_on table.entries e.0 ≡ Some e.1
  there_at e there = subst (λ (f : Entry). grants_on table.entries f.0 ≡ Some f.1) there.2 (found there.0 e there.1)

  to_barred : (tid : Tid) → IsAmong table.holders t relations table.entries tid → IsBarred (mode_of table) t relations tid
  to_barred tid among =
      let bars = among.bars in
      let at : grants_on table.entries (Tuple bars.relation tid) ≡ Some among.entry.1 = ap (grants_on table.entries) (sym bars.is) ∙ there_at among.entry among.there in
      let disagrees = from_place table is (Tuple bars.relation tid) among.entry.1 at X (Some t) bars.other bars.bars in
      record {
        relation = bars.relation;
        listed = bars.listed;
        other = bars.other;
        another = λ same. disagrees.another (ap Some same);
        holds = ap is_some disagrees.holds;
      }

  from_barred : (tid : Tid) → IsBarred (mode_of table) t relations tid → IsAmong table.holders t relations table.entries tid
  from_barred tid barred = by (grants_on table.entries (Tuple barred.relation tid)) refl
    where
      by : (o : Option Grants) → grants_on table.entries (Tuple barred.relation tid) ≡ o → IsAmong table.holders t relations table.entries tid
      by None none = absurd (let nothing : is_some (held_in barred.other table.holders None) ≡ true = ap (λ (o : Option Grants). is_some (held_in barred.other table.holders o)) (sym none) ∙ barred.holds in cc)
      by (Some g) at =
          let held = some_held (mode_of table) (Tuple barred.relation tid) barred.other (mode_of table barred.other (Tuple barred.relation tid)) refl barred.holds in
          let disagrees : Disagrees (mode_of table) (Tuple barred.relation tid) X (Some t) barred.other = record { another = λ same. barred.another (cc); held = held.held; holds = held.holds; disagrees = held.disagrees } in
          record {
            entry = (Tuple barred.relation tid, g);
            there = Contains-from_lookup (λ x y e. (item_decides x y).0 e) (Tuple barred.relation tid) g table.entries at;
            bars = record {
              relation = barred.relation;
              listed = barred.listed;
              is = refl;
              other = barred.other;
              bars = to_place table is (Tuple barred.relation tid) g at X (Some t) barred.other disagrees;
            };
          }

  pub barred_iff : (tids : List Tid) → Gathers table.holders t relations table.entries [] tids → (tid : Tid) → Contains tids tid ↔ IsBarred (mode_of table) t relations tid
  barred_iff tids all tid =
      let each = gathers_all table.holders t relations table.entries tids all tid in
      (λ there. to_barred tid (each.0 there), λ barred. each.1 (from_barred tid barred))

-- ---- sorted, and each once

tid_total : IsTotalOrder tid_cmp
tid_total = then_total (on_total (λ (u : Tid). u.page) nat_cmp_total) (on_total (λ (u : Tid). u.slot) nat_cmp_total)

pub sorted_iff : (tids sorted : List Tid) → IsPermutation tids sorted → (tid : Tid) → Contains (dedup same_tid sorted) tid ↔ Contains tids tid
sorted_iff tids sorted moves tid = (
  λ there. Contains-permutation sorted tids tid (IsPermutation-sym tids sorted moves) (Contains-from_dedup same_tid sorted tid there),
  λ there. Contains-dedup (decided same_tid tid_decides) (λ x y e. (tid_decides x y).0 e) sorted tid (Contains-permutation tids sorted tid moves there),
)

both_tie : (a b : Bool) (o p : Ordering) → a ≡ is_eq o → b ≡ is_eq p → a && b ≡ is_eq (ordering_then o p)
both_tie a b Less p one two = ap (λ (x : Bool). x && b) one
both_tie a b Equal p one two = (λ i. one i && two i)
both_tie a b Greater p one two = ap (λ (x : Bool). x && b) one

tid_ties : (s u : Tid) → same_tid s u ≡ eq_by_cmp tid_cmp s u
tid_ties s u = both_tie (nat_eq s.page u.page) (nat_eq s.slot u.slot) (nat_cmp s.page u.page) (nat_cmp s.slot u.slot) (unsigned_ties s.page u.page) (unsigned_ties s.slot u.slot)

pub sorted_strictly : (sorted : List Tid) → IsSorted tid_cmp sorted → IsStrictlySortedBy tid_cmp (dedup same_tid sorted)
sorted_strictly sorted is = IsStrictlySortedBy-dedup tid_total tid_ties sorted is
