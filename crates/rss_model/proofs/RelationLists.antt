-- The lists of images and relations: each entry is a tuple's, and what a relation's list has next is the least identifier behind another.
use Rattle.std.proofs.Common.{◌≡◌, inl, inr, ⊎_elim, ◌<◌, Bool, true, List, [], ◌∷◌, refl, sym, ◌∙◌, ap}
use Rattle.std.specs.Prelude.{Option, Some, None, option_map, flat_map, find, ⊤, map as list_map}
use Rattle.std.specs.Ordering.{nat_cmp, is_gt, ordering_then, ordering_reverse, MatchOrdering}
use Rattle.std.specs.Cmp.{nat_cmp_is}
use Rattle.std.proofs.lemmas.Cmp.{ranked}
use Rattle.std.specs.FinMap as finite
use Rattle.std.specs.FinMap.{get-from_entries, entries_sorted, is_sorted}
use Rattle.std.specs.declared.cmp.Ordering.{Ordering}
use Rattle.std.specs.declared.cmp.Ordering.TheVariants.{Less, Equal, Greater}
use Rattle.std.proofs.Math.Dec.{T}
use Rattle.std.proofs.lemmas.Option.{same_Some}
use Rattle.rss_base.specs.Trees.{tid_cmp}
use Rattle.rss_base.specs.declared.name.Name.{Name}
use Rattle.rss_base.specs.declared.tid.Tid.{Tid}
use Rattle.rss_base.specs.declared.value.Value.{Value}
use Rattle.rss_base.specs.declared.item.Item.TheVariants.{Tuple}
use Rattle.rss_base.specs.Tids.{IsBelow, IsAfter}
use Rattle.rss_model.specs.Items.{Values}
use Rattle.rss_model.specs.Tables.{Tables, content, fields_in}
use Rattle.rss_model.specs.Images.{Entry, entry, entry_cmp, entries_by, key_of, relation_list, next_entry}
use Rattle.rss_model.specs.Scans.{RelationPath, next_along}
use Rattle.rss_model.proofs.ImageLists.{entry_total, entry_apart, listed, the_map, given, T_parts}
use Rattle.rss_model.proofs.LogLists.{by_test, false_true, none_some}
use Rattle.rss_model.proofs.Locking.{in_found, find_in}
use Rattle.rss_model.proofs.Mixing.{In}
use Rattle.rss_model.proofs.SeenAlike.{got_in, tuple_in, all_below}

-- ---- each entry is a tuple's

-- a key has its entry
entry_in : {A B : Type 0} (es : List (A × B)) (a : A) → In a (list_map (λ e. e.0) es) → (b : B) × In (a, b) es
entry_in [] a is = absurd is
entry_in {B = B} (e ∷ es) a (inl same) = (e.1, inl (λ i. (same i, e.1)))
entry_in (e ∷ es) a (inr is) = let rest = entry_in es a is in (rest.0, inr rest.1)

pub entry_there : (tables : Tables) (relation : Name) (names : List Name) (e : Entry) → In e (entries_by tables relation names) → (values : List Value) × (content tables.contents (Tuple relation e.tid) ≡ Some (Values values)) × (entry (key_of (fields_in tables.definitions relation) names values) e.tid ≡ e)
entry_there tables relation names e is =
    let of = entry_in (finite.entries (the_map tables relation names)) e is in
    let got : finite.get (the_map tables relation names) e ≡ Some of.0 = got_in entry_total entry_apart (the_map tables relation names) e of.0 of.1 in
    let its = tuple_in tables.definitions relation names tables.contents e (in_found entry_apart (flat_map (given tables relation names) (finite.entries tables.contents)) e of.0 (sym (get-from_entries entry_total (flat_map (given tables relation names) (finite.entries tables.contents)) e) ∙ got)) in
    let same : its.0 ≡ e.tid = ap (λ (x : Entry). x.tid) its.3 in
    (its.1, ap (λ (t : Tid). content tables.contents (Tuple relation t)) (sym same) ∙ its.2, ap (entry (key_of (fields_in tables.definitions relation) names its.1)) (sym same) ∙ its.3)

-- what comes next along a list stands in it
pub next_in : (start : Option (List Value)) (last : Option Entry) (entries : List Entry) (e : Entry) → next_entry start last entries ≡ Some e → In e entries
next_in None None [] e is = none_some is
next_in None None (f ∷ entries) e is = inl (same_Some _ _ is)
next_in (Some key) None entries e is = (find_in _ entries e is).0
next_in None (Some last) entries e is = (find_in _ entries e is).0
next_in (Some key) (Some last) entries e is = (find_in _ entries e is).0

-- ---- the least entry that passes

first_passes : (p : Entry → Bool) (es : List (Entry × ⊤)) → T (is_sorted entry_cmp es) → (e : Entry) → In e (list_map (λ g. g.0) es) → p e ≡ true → ((f : Entry) → In f (list_map (λ g. g.0) es) → p f ≡ true → entry_cmp f e ≡ Less → ⊥) → find p (list_map (λ g. g.0) es) ≡ Some e
first_passes p [] sorted e is passes least = absurd is
first_passes p (g ∷ es) sorted e is passes least =
    let parts = T_parts _ _ sorted in
    by_test (p g.0)
    (λ t. rw t (⊎_elim (λ same. ap (λ (x : Entry). Some x) same)
    (λ i. let of = entry_in es e i in absurd (least g.0 (inl refl) t (all_below entry_total entry_apart g.0 es parts.0 (e, of.0) of.1))) is))
    (λ t. rw t (⊎_elim (λ same. false_true (ap p same ∙ passes) t)
    (λ i. first_passes p es parts.1 e i passes (λ f j. least f (inr j))) is))

none_passes : (p : Entry → Bool) (entries : List Entry) → ((f : Entry) → In f entries → p f ≡ true → ⊥) → find p entries ≡ None
none_passes p [] none = refl
none_passes p (e ∷ entries) none = by_test (p e) (λ t. absurd (none e (inl refl) t)) (λ t. rw t (none_passes p entries (λ f i. none f (inr i))))

-- ---- the order of identifiers

tid_less : (a b : Tid) → IsBelow a b → tid_cmp a b ≡ Less
tid_less a b (inl page) = let first = nat_cmp_is a.page b.page Less page in rw (sym first) refl
tid_less a b (inr here) = let first = nat_cmp_is a.page b.page Equal here.0 in let second = nat_cmp_is a.slot b.slot Less here.1 in rw (sym first, sym second) refl

less_below : (a b : Tid) → tid_cmp a b ≡ Less → IsBelow a b
less_below a b is = by (nat_cmp a.page b.page) (nat_cmp a.slot b.slot) (ranked a.page b.page _ refl) (ranked a.slot b.slot _ refl) is
  where
    by : (first second : Ordering) → MatchOrdering first (a.page < b.page) (a.page ≡ b.page) (b.page < a.page) → MatchOrdering second (a.slot < b.slot) (a.slot ≡ b.slot) (b.slot < a.slot) → ordering_then first second ≡ Less → IsBelow a b
    by Less second page slot is = inl page
    by Equal Less page slot is = inr (page, slot)
    by Equal Equal page slot is = absurd (cc (is))
    by Equal Greater page slot is = absurd (cc (is))
    by Greater second page slot is = absurd (cc (is))

-- an entry stands behind another one exactly where that is below it
gt_less : (a b : Entry) → is_gt (entry_cmp a b) ≡ true → entry_cmp b a ≡ Less
gt_less a b is = entry_total.antisymm b a ∙ turned (entry_cmp a b) is
  where
    turned : (o : Ordering) → is_gt o ≡ true → ordering_reverse o ≡ Less
    turned Less is = absurd (cc (is))
    turned Equal is = absurd (cc (is))
    turned Greater is = refl

less_gt : (a b : Entry) → entry_cmp b a ≡ Less → is_gt (entry_cmp a b) ≡ true
less_gt a b is = ap is_gt (entry_total.antisymm a b ∙ ap ordering_reverse is)

-- ---- what a relation's list has next

-- an entry stands behind the one with this identifier, or is any where there is none
abbrev is_behind : Option Tid → Entry → Bool
is_behind None e = true
is_behind (Some after) e = is_gt (entry_cmp e (entry [] after))

next_found : (after : Option Tid) (entries : List Entry) → next_entry None (option_map (entry []) after) entries ≡ find (is_behind after) entries
next_found None [] = refl
next_found None (e ∷ entries) = refl
next_found (Some after) entries = refl

after_behind : (after : Option Tid) (tid : Tid) → IsAfter after tid → is_behind after (entry [] tid) ≡ true
after_behind None tid is = refl
after_behind (Some after) tid is = less_gt (entry [] tid) (entry [] after) (tid_less after tid is)

behind_after : (after : Option Tid) (tid : Tid) → is_behind after (entry [] tid) ≡ true → IsAfter after tid
behind_after None tid is = tt
behind_after (Some after) tid is = less_below after tid (gt_less (entry [] tid) (entry [] after) is)

-- a tuple of the relation stands behind this identifier, or anywhere where there is none
pub record StandsAfter (tables : Tables) (relation : Name) (after : Option Tid) (tid : Tid) : Type 0 where
  pub values : List Value
  pub there : content tables.contents (Tuple relation tid) ≡ Some (Values values)
  pub behind : IsAfter after tid

module _ (tables : Tables) (relation : Name) (after : Option Tid) where
  -- an entry of the list that stands behind it
  stands_after : (e : Entry) → In e (relation_list tables relation) → is_behind after e ≡ true → StandsAfter tables relation after e.tid × (entry [] e.tid ≡ e)
  stands_after e is passes =
      let its = entry_there tables relation [] e is in
      (record { values = its.0; there = its.1; behind = behind_after after e.tid (ap (is_behind after) its.2 ∙ passes) }, its.2)

  pub next_is : (tid : Tid) → StandsAfter tables relation after tid → ((other : Tid) → IsBelow other tid → StandsAfter tables relation after other → ⊥) → next_along tables (RelationPath relation) (option_map (entry []) after) ≡ Some (entry [] tid)
  next_is tid stands least =
      next_found after (relation_list tables relation)
      ∙ first_passes (is_behind after) (finite.entries (the_map tables relation [])) (entries_sorted (the_map tables relation [])) (entry [] tid) (listed tables relation [] tid stands.values stands.there) (after_behind after tid stands.behind)
      (λ e is passes less. let its = stands_after e is passes in least e.tid (less_below e.tid tid (ap (λ (x : Entry). entry_cmp x (entry [] tid)) its.1 ∙ less)) its.0)

  pub next_none : ((other : Tid) → StandsAfter tables relation after other → ⊥) → next_along tables (RelationPath relation) (option_map (entry []) after) ≡ None
  next_none none = next_found after (relation_list tables relation) ∙ none_passes (is_behind after) (relation_list tables relation) (λ e is passes. none e.tid (stands_after e is passes).0)
