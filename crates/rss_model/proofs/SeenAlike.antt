-- What is read of tables by locks is the same in tables that agree.
use Rattle.std.proofs.Common.{◌≡◌, inl, inr, ⊎_elim, Bool, true, false, List, [], ◌∷◌, refl, sym, ◌∙◌, ap, subst}
use Rattle.std.specs.Prelude.{Option, Some, None, is_some, option_and_then, flat_map, ⊤, ◌&&◌, ◌||◌, find, if◌then◌else◌}
use Rattle.std.specs.Ordering.{eq_by_cmp}
use Rattle.std.specs.Cmp.{IsTotalOrder, Equal-is}
use Rattle.std.specs.FinMap as finite
use Rattle.std.specs.FinMap.{FinMap, IsAntisymmetric, get-entries, get-from_entries, entries_sorted, is_sorted, same_map}
use Rattle.std.specs.FinMap.Entries.{find as found, below_all}
use Rattle.std.specs.declared.cmp.Ordering.{Ordering}
use Rattle.std.specs.declared.cmp.Ordering.TheVariants.{Less, Equal}
use Rattle.std.proofs.lemmas.Option.{same_Some}
use Rattle.std.proofs.Math.Dec.{T}
use Rattle.rss_base.specs.declared.name.Name.{Name}
use Rattle.rss_base.specs.declared.tid.Tid.{Tid}
use Rattle.rss_base.specs.declared.value.Value.{Value}
use Rattle.rss_base.specs.declared.field.FieldDef.{FieldDef}
use Rattle.rss_base.specs.declared.item.Item.{Item}
use Rattle.rss_base.specs.declared.item.Item.TheVariants.{Segment, Relation, Tuple, Chain, Key}
use Rattle.rss_model.specs.Items.{Content, Values, Tuples, name_cmp, is_name}
use Rattle.rss_model.specs.Tables.{ImageDef, LinkDef, Definitions, Tables, Contents, content, fields_in}
use Rattle.rss_model.specs.Chains.{stands_in, chain, chain_with, is_connected, is_parent_relation}
use Rattle.rss_model.specs.Images.{Entry, entry, entry_cmp, entry_of, entries_by, is_key, key_in, key_of, has_key, is_other, tid_of, owner_of_key}
use Rattle.rss_model.proofs.Codes.{name_total, name_apart, item_total, item_apart}
use Rattle.rss_model.proofs.Contents.{tied}
use Rattle.rss_model.proofs.LogLists.{by_test, false_true, none_some}
use Rattle.rss_model.proofs.Locking.{find_in, in_found, in_entries}
use Rattle.rss_model.proofs.Mixing.{In, in_parts}
use Rattle.rss_model.proofs.Testing.{in_flat}
use Rattle.rss_model.proofs.Viewing.{keyed, keyed_is, stands}
use Rattle.rss_model.proofs.ChangeKeeping.{not_owned, in_no_chain}
use Rattle.rss_model.proofs.ChainKeeping.{chain_found}
use Rattle.rss_model.proofs.ImageLists.{entry_total, entry_apart, found_in, T_parts, lt_less}

-- ---- entries of a map

pub not_below : {K : Type 0} {R : K → K → Ordering} → IsTotalOrder R → IsAntisymmetric R → (k : K) → R k k ≡ Less → ⊥
not_below {R = R} total apart k less = unlike (sym less ∙ (Equal-is (R k k)).0 (tied total apart k))
  where
    unlike : Less ≡ Equal → ⊥
    unlike e = cc (e)

module _ {K V : Type 0} {R : K → K → Ordering} (total : IsTotalOrder R) (apart : IsAntisymmetric R) where
  pub all_below : (k : K) (es : List (K × V)) → T (below_all R k es) → (e : K × V) → In e es → R k e.0 ≡ Less
  all_below k [] below e is = absurd is
  all_below k (f ∷ es) below e is = let parts = T_parts _ _ below in ⊎_elim (λ g. ap (λ (p : K × V). R k p.0) (sym g) ∙ lt_less _ parts.0) (λ i. all_below k es parts.1 e i) is

  found_it : (es : List (K × V)) → T (is_sorted R es) → (q : K) (v : V) → In (q, v) es → found R q es ≡ Some v
  found_it [] sorted q v is = absurd is
  found_it (e ∷ es) sorted q v (inl same) = let here : eq_by_cmp R q e.0 ≡ true = ap (λ (p : K × V). eq_by_cmp R q p.0) same ∙ tied total apart q in rw here (ap (λ (p : K × V). Some p.1) same)
  found_it (e ∷ es) sorted q v (inr is) =
      let parts = T_parts _ _ sorted in
      by_test (eq_by_cmp R q e.0)
      (λ t. absurd (not_below total apart q (ap (λ (k : K). R k q) (apart q e.0 ((Equal-is (R q e.0)).0 t)) ∙ all_below e.0 es parts.0 (q, v) is)))
      (λ t. rw t (found_it es parts.1 q v is))

  pub got_in : (m : FinMap R V) (q : K) (v : V) → In (q, v) (finite.entries m) → finite.get m q ≡ Some v
  got_in m q v is = get-entries m q ∙ found_it (finite.entries m) (entries_sorted m) q v is

-- ---- chains

pub chain_same : (a b : Contents) (link : Name) (child : Tid) → ((parent : Option Tid) → stands child (content a (Chain link parent)) ≡ stands child (content b (Chain link parent)))
    → ((p q : Option Tid) → stands_in child (chain a link p) ≡ true → stands_in child (chain a link q) ≡ true → p ≡ q) → chain_with a link child ≡ chain_with b link child
chain_same a b link child same once = by (chain_with a link child) (chain_with b link child) refl refl
  where
    by : (o p : Option Item) → chain_with a link child ≡ o → chain_with b link child ≡ p → chain_with a link child ≡ chain_with b link child
    by None None is is' = is ∙ sym is'
    by None (Some j) is is' = let has = chain_found b link child j is' in absurd (false_true (same has.0 ∙ has.2) (in_no_chain a link child is has.0))
    by (Some i) None is is' = let has = chain_found a link child i is in absurd (false_true (sym (same has.0) ∙ has.2) (in_no_chain b link child is' has.0))
    by (Some i) (Some j) is is' =
        let one = chain_found a link child i is in
        let other = chain_found b link child j is' in
        is ∙ ap (λ (k : Item). Some k) (one.1 ∙ ap (Chain link) (once one.0 other.0 one.2 (same other.0 ∙ other.2)) ∙ sym other.1) ∙ sym is'

-- ---- keys

keyed_parts : (relation : Name) (fields : List FieldDef) (names : List Name) (key : List Value) (but : Option Tid) (item : Item) (held : Content) (tid : Tid) → has_key relation fields names key but (item, held) ≡ true → tid_of item ≡ Some tid
    → (values : List Value) × (item ≡ Tuple relation tid) × (held ≡ Values values) × (is_key (key_of fields names values) key ≡ true) × (is_other but tid ≡ true)
keyed_parts relation fields names key but (Segment name) held tid is at = absurd (cc (is))
keyed_parts relation fields names key but (Relation name) held tid is at = absurd (cc (is))
keyed_parts relation fields names key but (Tuple name id) (Tuples tids) tid is at = absurd (cc (is))
keyed_parts relation fields names key but (Tuple name id) (Values values) tid is at =
    let same : id ≡ tid = same_Some _ _ at in
    by_test (is_name relation name)
    (λ e. by_test (is_key (key_of fields names values) key)
    (λ f. by_test (is_other but id)
    (λ g. (values, (λ i. Tuple (sym (name_apart relation name ((Equal-is (name_cmp relation name)).0 e)) i) (same i)), refl, f, subst (λ (x : Tid). is_other but x ≡ true) same g))
    (λ g. false_true is (rw (e, f, g) refl)))
    (λ f. false_true is (rw (e, f) refl)))
    (λ e. false_true is (rw e refl))
keyed_parts relation fields names key but (Chain link parent) held tid is at = absurd (cc (is))
keyed_parts relation fields names key but (Key image values) held tid is at = absurd (cc (is))

module _ (tables : Tables) (image : ImageDef) (but : Option Tid) (key : List Value) where
  pub owner_has : (tid : Tid) → owner_of_key tables image but key ≡ Some tid → (keyed (key_in tables.definitions image) key (content tables.contents (Tuple image.relation tid)) ≡ true) × (is_other but tid ≡ true)
  unfolding owner_of_key
  owner_has tid is = by (find owns (finite.entries tables.contents)) refl
    where
      owns : Item × Content → Bool
      owns = has_key image.relation (fields_in tables.definitions image.relation) image.fields key but

      by : (o : Option (Item × Content)) → find owns (finite.entries tables.contents) ≡ o → (keyed (key_in tables.definitions image) key (content tables.contents (Tuple image.relation tid)) ≡ true) × (is_other but tid ≡ true)
      by None e = none_some (sym (ap (option_and_then (λ (h : Item × Content). tid_of h.0)) e) ∙ is)
      by (Some held) e =
          let at = find_in owns (finite.entries tables.contents) held e in
          let of = keyed_parts image.relation (fields_in tables.definitions image.relation) image.fields key but held.0 held.1 tid at.1 (sym (ap (option_and_then (λ (h : Item × Content). tid_of h.0)) e) ∙ is) in
          let there : content tables.contents (Tuple image.relation tid) ≡ Some (Values of.0) = ap (content tables.contents) (sym of.1) ∙ got_in item_total item_apart tables.contents held.0 held.1 at.0 ∙ ap (λ (c : Content). Some c) of.2 in
          (ap (keyed (key_in tables.definitions image) key) there ∙ keyed_is (key_in tables.definitions image) key of.0 of.3, of.4)

pub owner_same : (definitions : Definitions) (a b : Contents) (image : ImageDef) (but : Option Tid) (key : List Value)
    → ((tid : Tid) → keyed (key_in definitions image) key (content a (Tuple image.relation tid)) ≡ keyed (key_in definitions image) key (content b (Tuple image.relation tid)))
    → ((one other : Tid) → keyed (key_in definitions image) key (content a (Tuple image.relation one)) ≡ true → keyed (key_in definitions image) key (content a (Tuple image.relation other)) ≡ true → one ≡ other)
    → owner_of_key (record { definitions = definitions; contents = a }) image but key ≡ owner_of_key (record { definitions = definitions; contents = b }) image but key
owner_same definitions a b image but key same once = by (owner_of_key first image but key) (owner_of_key second image but key) refl refl
  where
    first : Tables
    first = record { definitions = definitions; contents = a }

    second : Tables
    second = record { definitions = definitions; contents = b }

    by : (o p : Option Tid) → owner_of_key first image but key ≡ o → owner_of_key second image but key ≡ p → owner_of_key first image but key ≡ owner_of_key second image but key
    by None None is is' = is ∙ sym is'
    by None (Some j) is is' = let has = owner_has second image but key j is' in absurd (false_true has.1 (not_owned first image but key is j (same j ∙ has.0)))
    by (Some i) None is is' = let has = owner_has first image but key i is in absurd (false_true has.1 (not_owned second image but key is' i (sym (same i) ∙ has.0)))
    by (Some i) (Some j) is is' =
        let one = owner_has first image but key i is in
        let other = owner_has second image but key j is' in
        is ∙ ap (λ (k : Tid). Some k) (once i j one.0 (same j ∙ other.0)) ∙ sym is'

-- ---- lists of images

flat_in : {A B : Type 0} (f : A → List B) (xs : List A) (b : B) → In b (flat_map f xs) → (x : A) × In x xs × In b (f x)
flat_in f [] b is = absurd is
flat_in f (x ∷ xs) b is = ⊎_elim (λ i. (x, inl refl, i)) (λ i. let rest = flat_in f xs b i in (rest.0, inr rest.1, rest.2)) (in_parts (f x) (flat_map f xs) b is)

one_of : {A : Type 0} (t : Bool) (x b : A) → In b (if t then x ∷ [] else []) → (t ≡ true) × (x ≡ b)
one_of true x b (inl e) = (refl, e)
one_of true x b (inr is) = absurd is
one_of false x b is = absurd is

module _ (definitions : Definitions) (relation : Name) (names : List Name) where
  abbrev fields : List FieldDef
  fields = fields_in definitions relation

  abbrev given : Item × Content → List (Entry × ⊤)
  given held = entry_of relation fields names held.0 held.1

  of_given : (item : Item) (held : Content) (e : Entry × ⊤) → In e (entry_of relation fields names item held) → (tid : Tid) × (values : List Value) × (item ≡ Tuple relation tid) × (held ≡ Values values) × (entry (key_of fields names values) tid ≡ e.0)
  of_given (Segment name) held e is = absurd is
  of_given (Relation name) held e is = absurd is
  of_given (Tuple name tid) (Tuples tids) e is = absurd is
  of_given (Tuple name tid) (Values values) e is =
      let of = one_of (is_name relation name) (entry (key_of fields names values) tid, tt) e is in
      (tid, values, ap (λ (n : Name). Tuple n tid) (sym (name_apart relation name ((Equal-is (name_cmp relation name)).0 of.0))), refl, ap (λ (p : Entry × ⊤). p.0) of.1)
  of_given (Chain link parent) held e is = absurd is
  of_given (Key image values) held e is = absurd is

  -- an entry stems from a tuple that is there
  pub tuple_in : (a : Contents) (q : Entry) → In (q, tt) (flat_map given (finite.entries a)) → (tid : Tid) × (values : List Value) × (content a (Tuple relation tid) ≡ Some (Values values)) × (entry (key_of fields names values) tid ≡ q)
  tuple_in a q is =
      let at = flat_in given (finite.entries a) (q, tt) is in
      let of = of_given at.0.0 at.0.1 (q, tt) at.2 in
      (of.0, of.1, ap (content a) (sym of.2) ∙ got_in item_total item_apart a at.0.0 at.0.1 at.1 ∙ ap (λ (c : Content). Some c) of.3, of.4)

  some_in : (a b : Contents) → ((tid : Tid) → content a (Tuple relation tid) ≡ content b (Tuple relation tid)) → (q : Entry) → is_some (found entry_cmp q (flat_map given (finite.entries a))) ≡ true → is_some (found entry_cmp q (flat_map given (finite.entries b))) ≡ true
  some_in a b same q is =
      let of = tuple_in a q (in_found entry_apart (flat_map given (finite.entries a)) q tt (only (found entry_cmp q (flat_map given (finite.entries a))) is)) in
      let there : content b (Tuple relation of.0) ≡ Some (Values of.1) = sym (same of.0) ∙ of.2 in
      let named : is_name relation relation ≡ true = tied name_total name_apart relation in
      let one : In (q, tt) (given (Tuple relation of.0, Values of.1)) = rw named (inl (ap (λ (e : Entry). (e, tt)) of.3)) in
      found_in entry_total entry_apart (flat_map given (finite.entries b)) q tt (in_flat given (finite.entries b) (Tuple relation of.0, Values of.1) (q, tt) (in_entries item_apart b (Tuple relation of.0) (Values of.1) there) one)
    where
      only : (o : Option ⊤) → is_some o ≡ true → o ≡ Some tt
      only None is = absurd (cc (is))
      only (Some tt) is = refl

  both_or_none : (o p : Option ⊤) → (is_some o ≡ true → is_some p ≡ true) → (is_some p ≡ true → is_some o ≡ true) → o ≡ p
  both_or_none None None to back = refl
  both_or_none None (Some t) to back = absurd (false_true (back refl) refl)
  both_or_none (Some t) None to back = absurd (false_true (to refl) refl)
  both_or_none (Some t) (Some u) to back = refl

  pub entries_same : (a b : Contents) → ((tid : Tid) → content a (Tuple relation tid) ≡ content b (Tuple relation tid)) → entries_by (record { definitions = definitions; contents = a }) relation names ≡ entries_by (record { definitions = definitions; contents = b }) relation names
  entries_same a b same = ap finite.keys (same_map entry_total entry_apart (finite.from_entries {R = entry_cmp} (flat_map given (finite.entries a))) (finite.from_entries {R = entry_cmp} (flat_map given (finite.entries b))) (λ q.
      get-from_entries entry_total (flat_map given (finite.entries a)) q
      ∙ both_or_none _ _ (some_in a b same q) (some_in b a (λ tid. sym (same tid)) q)
      ∙ sym (get-from_entries entry_total (flat_map given (finite.entries b)) q)))

-- ---- links of a tuple

pub find_same : {A : Type 0} (p q : A → Bool) (xs : List A) → ((x : A) → In x xs → p x ≡ q x) → find p xs ≡ find q xs
find_same p q [] same = refl
find_same p q (x ∷ xs) same = by_test (q x)
    (λ e. rw (same x (inl refl) ∙ e, e) refl)
    (λ e. rw (same x (inl refl) ∙ e, e) (find_same p q xs (λ y is. same y (inr is))))

pub connected_same : (a b : Contents) (relation : Name) (tid : Tid) (link : Name × LinkDef) → (link.1.child ≡ relation → chain_with a link.0 tid ≡ chain_with b link.0 tid) → (is_parent_relation link.1 relation ≡ true → content a (Chain link.0 (Some tid)) ≡ content b (Chain link.0 (Some tid)))
    → is_connected a relation tid link ≡ is_connected b relation tid link
connected_same a b relation tid link child parent = λ i. first i || second i
  where
    first : (is_name relation link.1.child && is_some (chain_with a link.0 tid)) ≡ (is_name relation link.1.child && is_some (chain_with b link.0 tid))
    first = by_test (is_name relation link.1.child)
        (λ e. ap (λ (o : Option Item). is_name relation link.1.child && is_some o) (child (sym (name_apart relation link.1.child ((Equal-is (name_cmp relation link.1.child)).0 e)))))
        (λ e. rw e refl)

    second : (is_parent_relation link.1 relation && is_some (content a (Chain link.0 (Some tid)))) ≡ (is_parent_relation link.1 relation && is_some (content b (Chain link.0 (Some tid))))
    second = by_test (is_parent_relation link.1 relation)
        (λ e. ap (λ (o : Option Content). is_parent_relation link.1 relation && is_some o) (parent e))
        (λ e. rw e refl)
