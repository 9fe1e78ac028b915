-- The sums over open transactions, and what a checkpoint's record names, are those of the machine's changes.
use Rattle.std.proofs.Common.{◌≡◌, ℕ, suc, ◌+◌, ◌-◌, ◌^◌, ◌<◌, ◌≤◌, Bool, true, false, cond, T, not, ◌&&◌, List, [], ◌∷◌, ◌++◌, length, map, refl, sym, ◌∙◌, ap, subst, arith}
use Rattle.std.specs.Prelude.{Option, Some, None, is_some, is_none, option_map, slice_get, nat_lt, ◌==◌, if◌then◌else◌, sum_by, count_by}
use Rattle.std.specs.List.{AllByRecursion, list_any, cons_option}
use Rattle.std.specs.Ordering.{nat_cmp}
use Rattle.std.specs.Cmp.{ranked, Equal-is, eq_by_cmp_equiv}
use Rattle.std.specs.declared.cmp.Ordering.TheVariants.{Less}
use Rattle.std.specs.FinMap as finite
use Rattle.std.specs.FinMap.{FinMap, get-entries, len-entries, entries_sorted}
use Rattle.std.specs.FinMap.Entries as listed
use Rattle.std.proofs.lemmas.Bool.{eq-eqb, ne_eqb, cond-true, cond-false}
use Rattle.std.proofs.lemmas.Bool.Decides.{nat_tests}
use Rattle.std.proofs.lemmas.List.{length-map}
use Rattle.std.proofs.lemmas.List.Elements.{recursion_from_All}
use Rattle.std.proofs.lemmas.List.Filters.{sum_by-filter_both}
use Rattle.std.proofs.lemmas.List.Sums.{sum_by-cons, sum_by_push}
use Rattle.std.proofs.lemmas.Option.{same_Some}
use Rattle.rss_base.specs.declared.item.Item.{Item}
use Rattle.rss_base.specs.declared.item.Item.TheVariants.{Segment, Relation, Tuple, Chain, Key}
use Rattle.rss_base.specs.declared.name.Name.{Name}
use Rattle.rss_base.specs.declared.refusal.Kind.TheVariants as kinds
use Rattle.rss_base.specs.LogRecords.{DoesMarkFit}
use Rattle.rss_base.specs.Listings.{Listing, IsNumberOf, AreListedOnce}
use Rattle.rss_model.specs.Items.{name_cmp, is_name, is_tuple_of}
use Rattle.rss_model.specs.Changes.{Change, is_delete_of}
use Rattle.rss_model.specs.Meter.{Stamp, Traffic, changers, changes_of}
use Rattle.rss_model.specs.Records.{Listed, changes_in, is_by, own_in, others_in}
use Rattle.rss_model.specs.Recovers.{AreRising, older_of, first_in, named_in}
use Rattle.rss_model.specs.EngineLogs.{stamp_of}
use Rattle.rss_model.proofs.Codes.{name_total, name_apart}
use Rattle.rss_model.proofs.ImageLists.{lt_less}
use Rattle.rss_model.proofs.LogLists.{by_test, by_same, all_weaker}
use Rattle.rss_model.proofs.Stamps.{theirs_and_mine}
use Rattle.rss_trans.specs.declared.noted.Noted.{Noted}
use Rattle.rss_trans.specs.Transactions.{Transaction, OpenView, is_open, any, is_in, of_relation, change_count, delete_count, first_position, marks_of, counted, sums_of}
use Rattle.rss_trans.specs.Told.{IsNumbered, is_tuple, IsNoteOf, AreNotesOf, TellsOpen, listed_by, NamesTold, NamesCounted, NamesFew, NamesSpelled, SumsTold, ChangersTold, OwedTold, DeletesTold, SinceTold, SinceSaved, SinceStays}
use Rattle.rss_trans.proofs.Noting.{notes_count, own_of_others, own_of_others_other}
use Rattle.rss_trans.proofs.Asked.{count_told}
use Rattle.rss_trans.proofs.Told.{done, key_here, key_off}

abbrev pub Entries : Type 0
Entries = List (ℕ × Transaction)

-- ---- keys in order

abbrev pub AreOrdered : Entries → Type 0
AreOrdered [] = Unit {0}
AreOrdered (e ∷ es) = AllByRecursion (λ f. e.0 < f.0) es × AreOrdered es

first : (a b : Bool) → T (a && b) → T a
first true b p = tt
first false b p = p

second : (a b : Bool) → T (a && b) → T b
second true b p = p
second false b p = absurd p

below_is : (x : ℕ) (es : Entries) → T (listed.below_all nat_cmp x es) → AllByRecursion (λ f. x < f.0) es
below_is x [] all = tt
below_is x (e ∷ es) all = (ranked x e.0 Less (sym (lt_less (nat_cmp x e.0) (first _ _ all))), below_is x es (second _ _ all))

ordered : (es : Entries) → T (listed.is_sorted nat_cmp es) → AreOrdered es
ordered [] sorted = tt
ordered (e ∷ es) sorted = (below_is e.0 es (first _ _ sorted), ordered es (second _ _ sorted))

abbrev pub found : ℕ → Entries → Option Transaction
found t es = listed.find nat_cmp t es

found_here : (t : ℕ) (e : ℕ × Transaction) (es : Entries) → t ≡ e.0 → found t (e ∷ es) ≡ Some e.1
found_here t e es is = cond-true _ _ _ (key_here t e.0 is)

found_off : (t : ℕ) (e : ℕ × Transaction) (es : Entries) → (t ≡ e.0 → ⊥) → found t (e ∷ es) ≡ found t es
found_off t e es off = cond-false _ _ _ (key_off t e.0 off)

none_below : (t : ℕ) (es : Entries) → AllByRecursion (λ f. t < f.0) es → found t es ≡ None
none_below t [] all = refl
none_below t (e ∷ es) all = found_off t e es (λ is. absurd (omega (arith, all.0, is))) ∙ none_below t es all.1

-- ---- the changes of each transaction make up all of them

abbrev Tell : Listing → Entries → List Listed → Type 0
Tell listing es ls = (t : ℕ) → AreNotesOf listing (done (found t es)).changes (own_in t ls)

told_entries : {listing : Listing} {view : OpenView} {marks : FinMap nat_cmp (List ℕ)} {ls : List Listed} → TellsOpen listing view marks ls → Tell listing (finite.entries view.transactions) ls
told_entries {listing = listing} {view = view} {ls = ls} is t = subst (λ (o : Option Transaction). AreNotesOf listing (done o).changes (own_in t ls)) (get-entries view.transactions t) (is.changes t)

pub order_of : (view : OpenView) → AreOrdered (finite.entries view.transactions)
order_of view = ordered (finite.entries view.transactions) (entries_sorted view.transactions)

no_changes : (listing : Listing) (ls : List Listed) → Tell listing [] ls → ls ≡ []
no_changes listing [] tell = refl
no_changes listing (l ∷ ls) tell =
    let here : is_by l.change.by l ≡ true = eq-eqb l.change.by l.change.by refl in
    let some : length (own_in l.change.by (l ∷ ls)) ≡ suc (length (own_in l.change.by ls)) = rw here refl in
    absurd (omega (arith, some, notes_count listing [] (own_in l.change.by (l ∷ ls)) (tell l.change.by)))

others_tell : (listing : Listing) (e : ℕ × Transaction) (es : Entries) (ls : List Listed) → AreOrdered (e ∷ es) → Tell listing (e ∷ es) ls → Tell listing es (others_in e.0 ls)
others_tell listing e es ls order tell t = by_same t e.0
    (λ is. subst (λ (o : Option Transaction). AreNotesOf listing (done o).changes (own_in t (others_in e.0 ls))) (sym (ap (λ (u : ℕ). found u es) is ∙ none_below e.0 es order.0))
    (subst (AreNotesOf listing []) (sym (ap (λ (u : ℕ). own_in u (others_in e.0 ls)) is ∙ own_of_others e.0 ls)) refl))
    (λ off. subst (λ (o : Option Transaction). AreNotesOf listing (done o).changes (own_in t (others_in e.0 ls))) (found_off t e es off)
    (subst (AreNotesOf listing (done (found t (e ∷ es))).changes) (sym (own_of_others_other e.0 t ls off)) (tell t)))

first_tells : (listing : Listing) (e : ℕ × Transaction) (es : Entries) (ls : List Listed) → Tell listing (e ∷ es) ls → AreNotesOf listing e.1.changes (own_in e.0 ls)
first_tells listing e es ls tell = subst (λ (o : Option Transaction). AreNotesOf listing (done o).changes (own_in e.0 ls)) (found_here e.0 e es refl) (tell e.0)

-- a sum over transactions, of what is counted of each one's changes
module _ (listing : Listing) (of_one all : List Listed → ℕ) (parts : (t : ℕ) (ls : List Listed) → all ls ≡ of_one (own_in t ls) + all (others_in t ls)) (zero_of : all [] ≡ 0)
    (count : Transaction → ℕ) (counts : (x : Transaction) (ls : List Listed) → AreNotesOf listing x.changes ls → count x ≡ of_one ls) where
  sum_is : (es : Entries) (ls : List Listed) → AreOrdered es → Tell listing es ls → sum_by count (map (λ e. e.1) es) ≡ all ls
  sum_is [] ls order tell = sym (ap all (no_changes listing ls tell) ∙ zero_of)
  sum_is (e ∷ es) ls order tell =
      let rest = sum_is es (others_in e.0 ls) order.1 (others_tell listing e es ls order tell) in
      let here = counts e.1 (own_in e.0 ls) (first_tells listing e es ls tell) in
      omega (arith, sum_by-cons count e.1 (map (λ f. f.1) es), rest, here, parts e.0 ls)

-- ---- how many

pub count_any : (notes : List Noted) → count_by any notes ≡ length notes
count_any [] = refl
count_any (n ∷ ns) = omega (arith, sum_by-cons (λ (c : Noted). cond (any c) 1 0) n ns, count_any ns)

pub sums_told : SumsTold
sums_told listing view marks ls since is = sum_is listing (λ ks. length ks) (λ ks. length ks)
    (λ t ks. omega (arith, theirs_and_mine listed_by t ks)) refl
    (change_count any) (λ x ks notes. count_any x.changes ∙ notes_count listing x.changes ks notes)
    (finite.entries view.transactions) ls (order_of view) (told_entries is)

-- ---- of how many transactions

abbrev one_if : Bool → ℕ
one_if b = cond b 1 0

abbrev some_in : List Listed → ℕ
some_in ls = one_if (nat_lt 0 (length ls))

has_stamp : (t : ℕ) (ls : List Listed) → list_any (λ (other : Stamp). other.by == t) (map stamp_of ls) ≡ nat_lt 0 (length (own_in t ls))
has_stamp t [] = refl
has_stamp t (l ∷ ls) = by_test (is_by t l)
    (λ e. let more : nat_lt 0 (suc (length (own_in t ls))) ≡ true = grind (arith, nat_tests) in simp e (sym more))
    (λ e. simp e (has_stamp t ls))

same_stamp : (t u : ℕ) (ls : List Listed) → (u ≡ t → ⊥) → list_any (λ (other : Stamp). other.by == u) (map stamp_of (others_in t ls)) ≡ list_any (λ (other : Stamp). other.by == u) (map stamp_of ls)
same_stamp t u ls off = has_stamp u (others_in t ls) ∙ ap (λ (ks : List Listed). nat_lt 0 (length ks)) (own_of_others_other t u ls off) ∙ sym (has_stamp u ls)

parted_changers : (t : ℕ) (ls : List Listed) → changers (map stamp_of ls) ≡ some_in (own_in t ls) + changers (map stamp_of (others_in t ls))
parted_changers t [] = refl
parted_changers t (l ∷ ls) =
    let rest = parted_changers t ls in
    by_same l.change.by t
    (λ is. let mine : is_by t l ≡ true = eq-eqb l.change.by t is in
    let stamped : list_any (λ (other : Stamp). other.by == l.change.by) (map stamp_of ls) ≡ nat_lt 0 (length (own_in t ls)) = ap (λ (u : ℕ). list_any (λ (other : Stamp). other.by == u) (map stamp_of ls)) is ∙ has_stamp t ls in
    let more : nat_lt 0 (suc (length (own_in t ls))) ≡ true = grind (arith, nat_tests) in
    simp (mine, stamped, more) (here (nat_lt 0 (length (own_in t ls))) (changers (map stamp_of ls)) (changers (map stamp_of (others_in t ls))) rest))
    (λ off. let other : is_by t l ≡ false = ne_eqb l.change.by t off in
    let same = same_stamp t l.change.by ls off in
    simp (other, same) (there (list_any (λ (other : Stamp). other.by == l.change.by) (map stamp_of ls)) (changers (map stamp_of ls)) (some_in (own_in t ls)) (changers (map stamp_of (others_in t ls))) rest))
  where
    here : (b : Bool) (all others : ℕ) → all ≡ one_if b + others → (if b then all else 1 + all) ≡ 1 + others
    here true all others is = is
    here false all others is = omega (arith, is)

    there : (b : Bool) (all own others : ℕ) → all ≡ own + others → (if b then all else 1 + all) ≡ own + (if b then others else 1 + others)
    there true all own others is = is
    there false all own others is = omega (arith, is)

pub changers_told : ChangersTold
changers_told listing view marks ls since is = sum_is listing some_in (λ ks. changers (map stamp_of ks))
    parted_changers refl
    (λ x. one_if (nat_lt 0 (change_count any x)))
    (λ x ks notes. ap (λ (n : ℕ). one_if (nat_lt 0 n)) (count_any x.changes ∙ notes_count listing x.changes ks notes))
    (finite.entries view.transactions) ls (order_of view) (told_entries is)

pub owed_told : OwedTold
owed_told listing view marks ls since is =
    omega (arith, length-map ls stamp_of, sums_told listing view marks ls since is, changers_told listing view marks ls since is)

-- ---- of a relation

module _ (listing : Listing) (once : AreListedOnce kinds.Relation listing) (relation : Name) (number : ℕ) (numbered : IsNumberOf kinds.Relation listing relation number) where
  pub in_relation : (item : Item) (noted : Option ℕ) → IsNumbered listing item noted → is_in number noted ≡ is_tuple_of relation item
  in_relation (Segment name) noted is = ap (is_in number) is
  in_relation (Relation name) noted is = ap (is_in number) is
  in_relation (Chain link parent) noted is = ap (is_in number) is
  in_relation (Key image values) noted is = ap (is_in number) is
  in_relation (Tuple name tid) noted is = ap (is_in number) is.1 ∙ by_same is.0 number
      (λ e.
      let same : name ≡ relation = same_Some name relation (sym is.2 ∙ subst (λ (n : ℕ). IsNumberOf kinds.Relation listing relation n) (sym e) numbered) in
      eq-eqb is.0 number e ∙ sym (ap (is_name relation) same ∙ (eq_by_cmp_equiv name_total).refl relation))
      (λ off. ne_eqb is.0 number off ∙ sym (by_test (is_name relation name)
      (λ e. let same : relation ≡ name = name_apart relation name ((Equal-is (name_cmp relation name)).0 e) in
      absurd (off (once is.0 number relation (subst (λ (n : Name). IsNumberOf kinds.Relation listing n is.0) (sym same) is.2) numbered)))
      (λ e. e)))

  deletes_one : (item : Item) (a b : Bool) → (is_tuple_of relation item && ((is_tuple item && a) && b)) ≡ ((is_tuple_of relation item && a) && b)
  deletes_one (Segment name) a b = refl
  deletes_one (Relation name) a b = refl
  deletes_one (Chain link parent) a b = refl
  deletes_one (Key image values) a b = refl
  deletes_one (Tuple name tid) a b = by (is_name relation name)
    where
      by : (c : Bool) → (c && (a && b)) ≡ ((c && a) && b)
      by true = refl
      by false = refl

  deletes_noted : (note : Noted) (l : Listed) → IsNoteOf listing note l → (of_relation number note && note.is_delete) ≡ is_delete_of relation l.change
  deletes_noted note l is =
      (λ i. in_relation l.change.item note.relation is.relation i && is.is_delete i)
      ∙ deletes_one l.change.item (is_some l.change.old) (is_none l.change.new)

  abbrev deletes : List Listed → ℕ
  deletes ls = count_by (λ (l : Listed). is_delete_of relation l.change) ls

  count_deletes : (notes : List Noted) (ls : List Listed) → AreNotesOf listing notes ls → count_by (λ c. of_relation number c && c.is_delete) notes ≡ deletes ls
  count_deletes notes [] is = ap (count_by (λ c. of_relation number c && c.is_delete)) is
  count_deletes notes (l ∷ ls) is =
      ap (count_by (λ c. of_relation number c && c.is_delete)) is.2
      ∙ omega (arith, sum_by_push (λ (c : Noted). one_if (of_relation number c && c.is_delete)) is.0 is.1, sum_by-cons (λ (k : Listed). one_if (is_delete_of relation k.change)) l ls, ap one_if (deletes_noted is.1 l is.3), count_deletes is.0 ls is.4)

  in_changes : (ls : List Listed) → deletes ls ≡ count_by (is_delete_of relation) (changes_in ls)
  in_changes [] = refl
  in_changes (l ∷ ls) = omega (arith, sum_by-cons (λ (k : Listed). one_if (is_delete_of relation k.change)) l ls, sum_by-cons (λ (c : Change). one_if (is_delete_of relation c)) l.change (changes_in ls), in_changes ls)

  parted_deletes : (t : ℕ) (ls : List Listed) → deletes ls ≡ deletes (own_in t ls) + deletes (others_in t ls)
  parted_deletes t ls = sym (sum_by-filter_both (is_by t) (λ l. not (is_by t l)) (λ _. refl) (λ (k : Listed). one_if (is_delete_of relation k.change)) ls)

pub deletes_told : DeletesTold
deletes_told listing view marks ls since number relation is once numbered =
    sum_is listing (deletes listing once relation number numbered) (deletes listing once relation number numbered)
    (parted_deletes listing once relation number numbered) refl
    (delete_count (of_relation number)) (λ x ks notes. count_deletes listing once relation number numbered x.changes ks notes)
    (finite.entries view.transactions) ls (order_of view) (told_entries is)
    ∙ in_changes listing once relation number numbered ls

-- how many changes a relation's tuples have
module _ (listing : Listing) (once : AreListedOnce kinds.Relation listing) (relation : Name) (number : ℕ) (numbered : IsNumberOf kinds.Relation listing relation number) where
  abbrev its : List Listed → ℕ
  its ls = count_by (λ (l : Listed). is_tuple_of relation l.change.item) ls

  count_its : (notes : List Noted) (ls : List Listed) → AreNotesOf listing notes ls → count_by (of_relation number) notes ≡ its ls
  count_its notes [] is = ap (count_by (of_relation number)) is
  count_its notes (l ∷ ls) is =
      ap (count_by (of_relation number)) is.2
      ∙ omega (arith, sum_by_push (λ (c : Noted). one_if (of_relation number c)) is.0 is.1, sum_by-cons (λ (k : Listed). one_if (is_tuple_of relation k.change.item)) l ls, ap one_if (in_relation listing once relation number numbered l.change.item is.1.relation is.3.relation), count_its is.0 ls is.4)

  its_changes : (ls : List Listed) → its ls ≡ changes_of (changes_in ls) relation
  its_changes [] = refl
  its_changes (l ∷ ls) = omega (arith, sum_by-cons (λ (k : Listed). one_if (is_tuple_of relation k.change.item)) l ls, sum_by-cons (λ (c : Change). one_if (is_tuple_of relation c.item)) l.change (changes_in ls), its_changes ls)

  parted_its : (t : ℕ) (ls : List Listed) → its ls ≡ its (own_in t ls) + its (others_in t ls)
  parted_its t ls = sym (sum_by-filter_both (is_by t) (λ l. not (is_by t l)) (λ _. refl) (λ (k : Listed). one_if (is_tuple_of relation k.change.item)) ls)

  pub relation_told : (view : OpenView) (marks : FinMap nat_cmp (List ℕ)) (ls : List Listed) (since : ℕ) → TellsOpen listing view marks ls → (sums_of (of_relation number) since (finite.values view.transactions)).p ≡ changes_of (changes_in ls) relation
  relation_told view marks ls since is =
      sum_is listing its its parted_its refl (change_count (of_relation number)) (λ x ks notes. count_its x.changes ks notes) (finite.entries view.transactions) ls (order_of view) (told_entries is)
      ∙ its_changes ls

-- ---- names

abbrev first_of : List Listed → Option ℕ
first_of [] = None
first_of (l ∷ ls) = older_of (first_of ls) (Some l.at)

older_none : (o : Option ℕ) → older_of o None ≡ o
older_none None = refl
older_none (Some at) = refl

first_own : (t : ℕ) (ls : List Listed) → first_in t ls ≡ first_of (own_in t ls)
first_own t [] = refl
first_own t (l ∷ ls) = by_test (is_by t l)
    (λ e. simp e (ap (λ (o : Option ℕ). older_of o (Some l.at)) (first_own t ls)))
    (λ e. simp e (older_none (first_in t ls) ∙ first_own t ls))

abbrev place_of : Option Noted → Option ℕ
place_of o = option_map (λ (note : Noted). note.position) o

first_noted : (listing : Listing) (notes : List Noted) (ls : List Listed) → AreNotesOf listing notes ls → place_of (slice_get notes 0) ≡ first_of ls
first_noted listing notes [] is = ap (λ (ns : List Noted). place_of (slice_get ns 0)) is
first_noted listing notes (l ∷ ls) is =
    ap (λ (ns : List Noted). place_of (slice_get ns 0)) is.2
    ∙ more is.0 is.1
    ∙ (λ i. older_of (first_noted listing is.0 ls is.4 i) (Some (is.3.position i)))
  where
    more : (before : List Noted) (note : Noted) → place_of (slice_get (before ++ note ∷ []) 0) ≡ older_of (place_of (slice_get before 0)) (Some note.position)
    more [] note = refl
    more (n ∷ before) note = refl

abbrev marked : ℕ → Option ℕ → Option (ℕ × ℕ)
marked t o = option_map (λ position. (t, position)) o

pub named_is : (t : ℕ) (es : Entries) → AreOrdered es → named_in t (marks_of es) ≡ first_position (done (found t es))
named_is t [] order = refl
named_is t (e ∷ es) order = by_same t e.0
    (λ is. by_first (first_position e.1) refl is (named_is t es order.1))
    (λ off. by_off (first_position e.1) (λ back. off (sym back)) ∙ named_is t es order.1 ∙ sym (ap (λ (o : Option Transaction). first_position (done o)) (found_off t e es off)))
  where
    by_first : (o : Option ℕ) → first_position e.1 ≡ o → t ≡ e.0 → named_in t (marks_of es) ≡ first_position (done (found t es)) → named_in t (cons_option (marked e.0 o) (marks_of es)) ≡ first_position (done (found t (e ∷ es)))
    by_first None at is rest =
        rest ∙ ap (λ (o : Option Transaction). first_position (done o)) (ap (λ (u : ℕ). found u es) is ∙ none_below e.0 es order.0)
        ∙ sym (ap (λ (o : Option Transaction). first_position (done o)) (found_here t e es is) ∙ at)
    by_first (Some place) at is rest =
        let here : (e.0 == t) ≡ true = eq-eqb e.0 t (sym is) in
        simp here (sym (ap (λ (o : Option Transaction). first_position (done o)) (found_here t e es is) ∙ at))

    by_off : (o : Option ℕ) → (e.0 ≡ t → ⊥) → named_in t (cons_option (marked e.0 o) (marks_of es)) ≡ named_in t (marks_of es)
    by_off None off = refl
    by_off (Some place) off = let other : (e.0 == t) ≡ false = ne_eqb e.0 t off in simp other refl

pub rising_is : (least : ℕ) (es : Entries) → AllByRecursion (λ f. least ≤ f.0) es → AreOrdered es → AreRising least (marks_of es)
rising_is least [] all order = tt
rising_is least (e ∷ es) all order = by (first_position e.1) (rising_is least es all.1 order.1) (all.0, rising_is (e.0 + 1) es (all_weaker (λ f. e.0 < f.0) (λ f. e.0 + 1 ≤ f.0) es (λ f lt. omega (arith, lt)) order.0) order.1)
  where
    by : (o : Option ℕ) → AreRising least (marks_of es) → (least ≤ e.0) × AreRising (e.0 + 1) (marks_of es) → AreRising least (cons_option (marked e.0 o) (marks_of es))
    by None without more = without
    by (Some place) without more = more

pub names_told : NamesTold
names_told listing view marks ls is = record {
  rising = rising_is 0 (finite.entries view.transactions) (any_least (finite.entries view.transactions)) (order_of view);
  firsts = λ t. named_is t (finite.entries view.transactions) (order_of view)
      ∙ first_noted listing (done (found t (finite.entries view.transactions))).changes (own_in t ls) (told_entries is t)
      ∙ sym (first_own t ls);
}
  where
    any_least : (es : Entries) → AllByRecursion (λ f. 0 ≤ f.0) es
    any_least [] = tt
    any_least (e ∷ es) = (omega arith, any_least es)

count_marks : (es : Entries) → length (marks_of es) ≡ sum_by (λ x. one_if (nat_lt 0 (change_count any x))) (map (λ e. e.1) es)
count_marks [] = refl
count_marks (e ∷ es) = by e.1.changes (marks_of es) ∙ omega (arith, count_marks es, sum_by-cons (λ x. one_if (nat_lt 0 (change_count any x))) e.1 (map (λ f. f.1) es))
  where
    by : (notes : List Noted) (rest : List (ℕ × ℕ)) → length (cons_option (marked e.0 (place_of (slice_get notes 0))) rest) ≡ one_if (nat_lt 0 (count_by any notes)) + length rest
    by [] rest = omega arith
    by (n ∷ ns) rest =
        let some : nat_lt 0 (count_by any (n ∷ ns)) ≡ true = let count = count_any (n ∷ ns) in grind (arith, nat_tests) in
        rw some (omega arith)

pub names_counted : NamesCounted
names_counted listing view marks ls is = count_marks (finite.entries view.transactions) ∙ changers_told listing view marks ls 0 is

pub marks_few : (es : Entries) → length (marks_of es) ≤ length es
marks_few [] = omega arith
marks_few (e ∷ es) = by (first_position e.1) (marks_few es)
  where
    by : (o : Option ℕ) → length (marks_of es) ≤ length es → length (cons_option (marked e.0 o) (marks_of es)) ≤ suc (length es)
    by None few = omega (arith, few)
    by (Some place) few = omega (arith, few)

pub names_few : NamesFew
names_few view = omega (arith, marks_few (finite.entries view.transactions), len-entries view.transactions)

-- what holds of each name that is found holds of all
pub all_named : (P : ℕ × ℕ → Type 0) (least : ℕ) (named : List (ℕ × ℕ)) → AreRising least named → ((t place : ℕ) → least ≤ t → named_in t named ≡ Some place → P (t, place)) → AllByRecursion P named
all_named P least [] rising each = tt
all_named P least (m ∷ ms) rising each =
    let here : (m.0 == m.0) ≡ true = eq-eqb m.0 m.0 refl in (
      each m.0 m.1 rising.0 (rw here refl),
      all_named P (m.0 + 1) ms rising.1 (λ t place above is.
          let off : (m.0 == t) ≡ false = ne_eqb m.0 t (λ e. absurd (omega (arith, above, e))) in
          each t place (omega (arith, above, rising.0)) (rw off is)),
    )

first_low : (t place most : ℕ) (ls : List Listed) → AllByRecursion (λ l. l.at < most) ls → first_in t ls ≡ Some place → place < most
first_low t place most [] low is = absurd (cc (is))
first_low t place most (l ∷ ls) low is = by (first_in t ls) refl (first_low t place most ls low.1)
  where
    own_place : (b : Bool) → (if b then Some l.at else None) ≡ Some place → place < most
    own_place true same = let e : l.at ≡ place = same_Some l.at place same in omega (arith, e, low.0)
    own_place false same = absurd (cc (same))

    with_it : (o : Option ℕ) → first_in t ls ≡ o → older_of o (if is_by t l then Some l.at else None) ≡ Some place
    with_it o at = sym (ap (λ (first : Option ℕ). older_of first (if is_by t l then Some l.at else None)) at) ∙ is

    by : (o : Option ℕ) → first_in t ls ≡ o → (first_in t ls ≡ Some place → place < most) → place < most
    by None none rest = own_place (is_by t l) (with_it None none)
    by (Some at) some rest = rest (some ∙ with_it (Some at) some)

pub names_spelled : NamesSpelled
names_spelled listing view marks ls is few low positions =
    let names = names_told listing view marks ls is in record {
      bounded = omega (arith, marks_few (finite.entries view.transactions), len-entries view.transactions, count_told listing view marks ls is, few);
      fits = all_named DoesMarkFit 0 (marks_of (finite.entries view.transactions)) names.rising (λ t place above named. (
        low t (opened t place (sym (named_is t (finite.entries view.transactions) (order_of view)) ∙ named)),
        first_low t place (2 ^ 64) ls (recursion_from_All (λ l. l.at < 2 ^ 64) ls positions) (sym (names.firsts t) ∙ named),
      ));
    }
  where
    opened : (t place : ℕ) → first_position (done (found t (finite.entries view.transactions))) ≡ Some place → is_open view t ≡ true
    opened t place first = ap is_some (get-entries view.transactions t) ∙ by (found t (finite.entries view.transactions)) first
      where
        by : (o : Option Transaction) → first_position (done o) ≡ Some place → is_some o ≡ true
        by None first = absurd (cc (first))
        by (Some x) first = refl

-- ---- since a checkpoint

one_more : (count : ℕ) (traffic : Traffic) (b : Bool) → count ≡ traffic.since → count < 2 ^ 64 - 1 → counted count b
    ≡ (if b then record { entries = traffic.entries; surviving = traffic.surviving; since = traffic.since + 1 } else traffic).since
one_more count traffic true is below = omega (arith, is, below)
one_more count traffic false is below = omega (arith, is, below)

no_more : (traffic : Traffic) (all : ℕ) (b : Bool) → traffic.since ≤ all → (if b then record { entries = traffic.entries; surviving = traffic.surviving; since = traffic.since + 1 } else traffic).since ≤ all + 1
no_more traffic all true le = omega (arith, le)
no_more traffic all false le = omega (arith, le)

pub since_told : SinceTold
since_told listing old new definitions now note l over is once told notes below = record {
  all = notes.since ∙ (let same = is.all in omega (arith, same, below));
  each = λ relation number numbered.
      notes.since_of number
      ∙ ap (counted (old.since_of number)) (in_relation listing once relation number numbered l.change.item note.relation told.relation)
      ∙ one_more (old.since_of number) (now.traffic relation) (is_tuple_of relation l.change.item) (is.each relation number numbered) (omega (arith, is.each relation number numbered, is.fewer relation, below));
  fewer = λ relation. no_more (now.traffic relation) now.since (is_tuple_of relation l.change.item) (is.fewer relation);
}

pub since_saved : SinceSaved
since_saved listing old new slots tables changes now is = record {
  all = is.since;
  each = λ relation number numbered. is.since_of number;
  fewer = λ relation. omega arith;
}

pub since_stays : SinceStays
since_stays listing old new size over stamps now is since since_of = record {
  all = since ∙ is.all;
  each = λ relation number numbered. ap (λ (counts : ℕ → ℕ). counts number) since_of ∙ is.each relation number numbered;
  fewer = is.fewer;
}
