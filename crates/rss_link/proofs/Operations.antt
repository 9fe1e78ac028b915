-- Chains in the words of the machine, whose lists have a tuple put in or taken out.
use Rattle.std.proofs.Common.{◌≡◌, inl, inr, Bool, true, false, eqb, List, [], ◌∷◌, ◌++◌, length, Option, Some, None, refl, sym, ◌∙◌, ap, subst, arith, append_assoc}
use Rattle.std.specs.Prelude.{◌||◌, not}
use Rattle.std.proofs.lemmas.Bool.{cases_Bool, eqb-true, cond-true, cond-false}
use Rattle.std.proofs.lemmas.List.Elements.{filter-append}
use Rattle.rss_base.specs.Prefixes.{Ends, is_tid, first_of, last_of, neighbours_from, neighbours_in}
use Rattle.rss_base.specs.declared.tid.Tid.{Tid}
use Rattle.rss_tuple.specs.Directory.{Bodies}
use Rattle.rss_model.specs.Chains.{stands_in, with_behind, without}
use Rattle.rss_link.specs.declared.link.Chains.{Chains}
use Rattle.rss_link.specs.Blocks.{neighbours}
use Rattle.rss_link.specs.Chains.{Lists, Linkage, Stands, relinked}
use Rattle.rss_link.specs.Links.{SpellChains}
use Rattle.rss_link.specs.Calls.{LinkView, spot, IsChildOf, IsFree, Relinks}
use Rattle.rss_link.proofs.Lists.{last_from, last_is_from, last_behind, false_true, false_where, eqb_itself}
use Rattle.rss_link.proofs.Splices.{IsFreeAt, length_cons}

-- ---- whether two are one

pub is_tid-itself : (a : Tid) → is_tid a a ≡ true
is_tid-itself a = cond-true (eqb a.page a.page) (eqb a.slot a.slot) false (eqb_itself a.page) ∙ eqb_itself a.slot

pub is_tid-true : (a b : Tid) → is_tid a b ≡ true → a ≡ b
is_tid-true a b is = elim (cases_Bool (eqb a.page b.page)) [
  | inl same ↦
      let pages : a.page ≡ b.page = eqb-true _ _ same in
      let slots : a.slot ≡ b.slot = eqb-true _ _ (sym (cond-true (eqb a.page b.page) (eqb a.slot b.slot) false same) ∙ is) in
      λ i. record { page = pages i; slot = slots i }
  | inr differ ↦ absurd (false_true false refl (sym (cond-false (eqb a.page b.page) (eqb a.slot b.slot) false differ) ∙ is))
]

pub is_tid-off : (a b : Tid) → (a ≡ b → ⊥) → is_tid a b ≡ false
is_tid-off a b off = false_where (is_tid a b) (λ is. off (is_tid-true a b is))

-- ---- tuples that are not in a list

abbrev pub IsNotIn : Tid → List Tid → Type 0
IsNotIn t xs = (b a : List Tid) → xs ≡ b ++ t ∷ a → ⊥

pub not_first : (t x : Tid) (xs : List Tid) → IsNotIn t (x ∷ xs) → x ≡ t → ⊥
not_first t x xs off is = off [] xs (ap (λ (y : Tid). y ∷ xs) is)

pub not_rest : (t x : Tid) (xs : List Tid) → IsNotIn t (x ∷ xs) → IsNotIn t xs
not_rest t x xs off b a is = off (x ∷ b) a (ap (λ (l : List Tid). x ∷ l) is)

-- ---- a tuple that is put in, or taken out

with_behind_at : (left child : Tid) (front after : List Tid) → IsNotIn left front → with_behind (Some left) child (front ++ left ∷ after) ≡ front ++ left ∷ child ∷ after
with_behind_at left child [] after off = cond-true (is_tid left left) (left ∷ child ∷ after) (left ∷ with_behind (Some left) child after) (is_tid-itself left)
with_behind_at left child (x ∷ front) after off =
    cond-false (is_tid x left) (x ∷ child ∷ (front ++ left ∷ after)) (x ∷ with_behind (Some left) child (front ++ left ∷ after)) (is_tid-off x left (not_first left x front off))
    ∙ ap (λ (l : List Tid). x ∷ l) (with_behind_at left child front after (not_rest left x front off))

kept_all : (child : Tid) (xs : List Tid) → IsNotIn child xs → without child xs ≡ xs
kept_all child [] off = refl
kept_all child (x ∷ xs) off =
    cond-true (not (is_tid x child)) (x ∷ without child xs) (without child xs) (ap not (is_tid-off x child (not_first child x xs off)))
    ∙ ap (λ (l : List Tid). x ∷ l) (kept_all child xs (not_rest child x xs off))

without_at : (child : Tid) (before after : List Tid) → IsNotIn child before → IsNotIn child after → without child (before ++ child ∷ after) ≡ before ++ after
without_at child before after off off_too =
    filter-append (λ (tid : Tid). not (is_tid tid child)) before (child ∷ after)
    ∙ (λ i. kept_all child before off i ++ (cond-false (not (is_tid child child)) (child ∷ without child after) (without child after) (ap not (is_tid-itself child)) ∙ kept_all child after off_too) i)

-- ---- the neighbours of a tuple

neighbours_at : (t : Tid) (previous : Option Tid) (before after : List Tid) → IsNotIn t before → neighbours_from previous (before ++ t ∷ after) t ≡ Some (neighbours (last_from previous before) (first_of after))
neighbours_at t previous [] after off = cond-true (is_tid t t) (Some (neighbours previous (first_of after))) (neighbours_from (Some t) after t) (is_tid-itself t)
neighbours_at t previous (x ∷ before) after off =
    cond-false (is_tid x t) (Some (neighbours previous (first_of (before ++ t ∷ after)))) (neighbours_from (Some x) (before ++ t ∷ after) t) (is_tid-off x t (not_first t x before off))
    ∙ neighbours_at t (Some x) before after (not_rest t x before off)

-- ---- whether a tuple stands in a list

pub or_true : (a b : Bool) → b ≡ true → (a || b) ≡ true
or_true true b is = refl
or_true false b is = is

pub stands_there : (t : Tid) (b a : List Tid) → stands_in t (b ++ t ∷ a) ≡ true
stands_there t [] a = ap (λ (x : Bool). x || stands_in t a) (is_tid-itself t)
stands_there t (x ∷ b) a = or_true (is_tid t x) (stands_in t (b ++ t ∷ a)) (stands_there t b a)

pub record IsSplit (t : Tid) (xs : List Tid) : Type 0 where
  pub before : List Tid
  pub after : List Tid
  pub is : xs ≡ before ++ t ∷ after

pub split_at : (t : Tid) (xs : List Tid) → stands_in t xs ≡ true → IsSplit t xs
split_at t [] is = absurd (false_true false refl is)
split_at t (x ∷ xs) is = elim (cases_Bool (is_tid t x)) [
  | inl same ↦ record { before = []; after = xs; is = ap (λ (y : Tid). y ∷ xs) (sym (is_tid-true t x same)) }
  | inr differ ↦
      let rest = split_at t xs (sym (ap (λ (b : Bool). b || stands_in t xs) differ) ∙ is) in
      record { before = x ∷ rest.before; after = rest.after; is = ap (λ (l : List Tid). x ∷ l) rest.is }
]

pub in_chain : (lists : Lists) (parent : Option Tid) (t : Tid) → stands_in t (lists parent) ≡ true → IsChildOf lists parent t
in_chain lists parent t is = let split = split_at t (lists parent) is in record { before = split.before; after = split.after; is = split.is }

pub chain_has : (lists : Lists) (parent : Option Tid) (t : Tid) → IsChildOf lists parent t → stands_in t (lists parent) ≡ true
chain_has lists parent t there = ap (stands_in t) there.is ∙ stands_there t there.before there.after

-- ---- chains that are spelled

-- the same list by another word
pub relists : {link : Chains} {old new : LinkView} {linkage : Linkage} {parent : Option Tid} {one other : List Tid} → other ≡ one → Relinks link old new linkage (relinked linkage parent one) → Relinks link old new linkage (relinked linkage parent other)
relists {link = link} {old = old} {new = new} {linkage = linkage} {parent = parent} is = subst (λ (list : List Tid). Relinks link old new linkage (relinked linkage parent list)) (sym is)

abbrev pub stands_under : {lists : Lists} {parent : Option Tid} {t : Tid} → IsChildOf lists parent t → Stands lists t
stands_under {parent = parent} there = record { parent = parent; before = there.before; after = there.after; is = there.is }

module _ {link : Chains} {kept : Ends} {bodies : Bodies} {linkage : Linkage} (spells : SpellChains link kept bodies linkage) where
  not_before : (t : Tid) (stands : Stands linkage.lists t) → IsNotIn t stands.before
  not_before t stands b a is =
      let other : Stands linkage.lists t = record {
        parent = stands.parent;
        before = b;
        after = a ++ t ∷ stands.after;
        is = stands.is ∙ ap (λ (l : List Tid). l ++ t ∷ stands.after) is ∙ append_assoc b (t ∷ a) (t ∷ stands.after);
      } in
      omega (arith, (spells.chains.once t stands other).1, ap length is, length_cons b t a)

  pub not_behind : (t : Tid) (stands : Stands linkage.lists t) → IsNotIn t stands.after
  not_behind t stands b a is =
      let other : Stands linkage.lists t = record {
        parent = stands.parent;
        before = stands.before ++ t ∷ b;
        after = a;
        is = stands.is ∙ ap (λ (l : List Tid). stands.before ++ t ∷ l) is ∙ sym (append_assoc stands.before (t ∷ b) (t ∷ a));
      } in
      omega (arith, (spells.chains.once t stands other).1, length_cons stands.before t b)

  pub taken_out : {parent : Option Tid} {t : Tid} → (there : IsChildOf linkage.lists parent t) → without t (linkage.lists parent) ≡ there.before ++ there.after
  taken_out {t = t} there =
      let stands = stands_under there in
      ap (without t) there.is ∙ without_at t there.before there.after (not_before t stands) (not_behind t stands)

  pub neighbours_are : {parent : Option Tid} {t : Tid} → (there : IsChildOf linkage.lists parent t) → neighbours_in (linkage.lists parent) t ≡ Some (neighbours (last_of there.before) (first_of there.after))
  neighbours_are {t = t} there =
      ap (λ (l : List Tid). neighbours_in l t) there.is ∙ neighbours_at t None there.before there.after (not_before t (stands_under there))
      ∙ ap (λ (p : Option Tid). Some (neighbours p (first_of there.after))) (sym (last_is_from there.before))

  -- where a child is put
  pub record IsSpot (child : Tid) (parent left : Option Tid) : Type 0 where
    pub before : List Tid
    pub after : List Tid
    pub at : IsFreeAt link linkage (spot child parent left) before after
    pub list : with_behind left child (linkage.lists parent) ≡ before ++ child ∷ after

  pub free_at : {child : Tid} {parent left : Option Tid} → IsFree link linkage (spot child parent left) → IsSpot child parent left
  free_at {parent = parent} {left = None} free = record {
    before = [];
    after = linkage.lists parent;
    at = record { child = free.child; outside = free.outside; parted = record { is_parent = free.is_parent; is = refl; behind = refl } };
    list = refl;
  }
  free_at {child = child} {parent = parent} {left = Some left} free =
      let there = free.behind in
      record {
        before = there.before ++ left ∷ [];
        after = there.after;
        at = record {
          child = free.child;
          outside = free.outside;
          parted = record {
            is_parent = free.is_parent;
            is = there.is ∙ sym (append_assoc there.before (left ∷ []) there.after);
            behind = sym (last_behind there.before [] left);
          };
        };
        list = ap (with_behind (Some left) child) there.is
            ∙ with_behind_at left child there.before there.after (not_before left (stands_under there))
            ∙ sym (append_assoc there.before (left ∷ []) (child ∷ there.after));
      }
