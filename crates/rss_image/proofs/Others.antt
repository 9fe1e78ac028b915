-- What a look for a key says of the other pairs.
use Rattle.std.specs.FinMap.{slice_cmp-IsAntisymmetric, nat_cmp-IsAntisymmetric}
use Rattle.std.proofs.Common.{◌≡◌, ◌<◌, ◌⊎◌, inl, inr, ⊎_elim, ℕ, suc, zero, Bool, true, false, List, [], ◌∷◌, ◌++◌, length, map, replicate, refl, sym, ◌∙◌, ap, subst, arith, Option, Some, None}
use Rattle.std.specs.List.{Contains, slice_index_or}
use Rattle.std.specs.Prelude.{IfSome}
use Rattle.std.specs.Ordering.{nat_cmp, ordering_then}
use Rattle.std.specs.Cmp.Lexicographic.{slice_cmp}
use Rattle.std.specs.declared.cmp.Ordering.{Ordering}
use Rattle.std.specs.declared.cmp.Ordering.TheVariants.{Less, Equal, Greater}
use Rattle.std.proofs.lemmas.Cmp.{nat_list_cmp_total, tied_itself}
use Rattle.rss_base.specs.Paged.{Held}
use Rattle.rss_base.specs.LogRecords.{tid_bytes}
use Rattle.rss_base.specs.declared.tid.Tid.{Tid}
use Rattle.rss_base.specs.Entries.{Entry, IsLess}
use Rattle.rss_levels.specs.Entries.{Each, Pairwise}
use Rattle.rss_levels.specs.Rows.{Row, Cells, Spell, IsStack, leaf_entry}
use Rattle.rss_levels.specs.Sought.{is_passed, first_from}
use Rattle.rss_levels.proofs.Lists.{each_weaker, each_unmap}
use Rattle.rss_base.proofs.Entries.{less_never, less_asym}
use Rattle.rss_levels.proofs.Order.{zeros_least}
use Rattle.rss_value.proofs.Orders.{slice_cmp-append}
use Rattle.rss_node.specs.Pairs.{pair_bytes}
use Rattle.rss_image.specs.Trees.{cells_of, spells}
use Rattle.rss_image.specs.Images.{ImageTree, nodes_of, IsPairOf, IsAnother, found_bytes, least_tid}
use Rattle.rss_image.specs.declared.image.Image.{Image}
use Rattle.rss_image.proofs.Nested.{items_rise}

-- ---- the pairs of an image rise

of_leaves : (pairs : List (List ℕ)) → Pairwise (λ a b. IsLess a.pair b.pair) (map leaf_entry pairs) → Pairwise IsLess pairs
of_leaves [] all = tt
of_leaves (p ∷ pairs) all = (each_unmap (λ (e : Entry). IsLess p e.pair) leaf_entry pairs all.0, of_leaves pairs all.1)

stack_rises : (spell : Spell) (cells : Cells) (width : ℕ) (pairs : List (List ℕ)) (rows : List Row) → IsStack spell cells width pairs rows → Pairwise IsLess pairs
stack_rises spell cells width pairs [] stack = absurd stack
stack_rises spell cells width pairs (row ∷ []) stack = of_leaves pairs (subst (Pairwise (λ a b. IsLess a.pair b.pair)) stack.1.pairs_are (items_rise row stack.1.rises))
stack_rises spell cells width pairs (row ∷ lower ∷ rows) stack = stack_rises spell cells width pairs (lower ∷ rows) stack.2

pub pairs_rise : {image : Image} {held : Held} {pairs : List (List ℕ)} → ImageTree image held pairs → Pairwise IsLess pairs
pairs_rise {image = image} {held = held} {pairs = pairs} tree = stack_rises (spells (nodes_of image)) (cells_of (nodes_of image) held) image.width pairs ((tree.top ∷ []) ∷ tree.lower) tree.tree.stack

-- ---- what a search says of each pair

each_contained : (P : List ℕ → Type 0) (pairs : List (List ℕ)) (t : List ℕ) → Each P pairs → Contains pairs t → P t
each_contained P pairs t all has = at pairs has.0 all has.1 has.2
  where
    at : (ps : List (List ℕ)) (k : ℕ) → Each P ps → k < length ps → slice_index_or ps k t ≡ t → P t
    at [] k all low is = absurd (omega arith)
    at (p ∷ ps) zero all low is = subst P is all.0
    at (p ∷ ps) (suc k) all low is = at ps k all.1 (omega arith) is

pub record IsFirst (beyond : Bool) (target : List ℕ) (pairs : List (List ℕ)) (p : List ℕ) : Type 0 where
  pub there : Contains pairs p
  pub stops : is_passed beyond p target ≡ false
  pub others : Each (λ q. (is_passed beyond q target ≡ true) ⊎ ((q ≡ p) ⊎ IsLess p q)) pairs

later : (x p : List ℕ) (xs : List (List ℕ)) → Contains xs p → Contains (x ∷ xs) p
later x p xs has = (suc has.0, omega (arith, has.1), has.2)

pub is_first : (beyond : Bool) (target : List ℕ) (pairs : List (List ℕ)) (p : List ℕ) → Pairwise IsLess pairs → first_from beyond target pairs ≡ Some p → IsFirst beyond target pairs p
is_first beyond target [] p rises is = absurd (cc)
is_first beyond target (x ∷ xs) p rises is = by (is_first beyond target xs p rises.1) (is_passed beyond x target) refl
  where
    by : (first_from beyond target xs ≡ Some p → IsFirst beyond target xs p) → (b : Bool) → is_passed beyond x target ≡ b → IsFirst beyond target (x ∷ xs) p
    by behind true test =
        let back : first_from beyond target (x ∷ xs) ≡ first_from beyond target xs = rw test refl in
        let rest = behind (sym back ∙ is) in
        record { there = later x p xs rest.there; stops = rest.stops; others = (inl test, rest.others) }
    by behind false test =
        let back : first_from beyond target (x ∷ xs) ≡ Some x = rw test refl in
        let both : Some x ≡ Some p = sym back ∙ is in
        let same : x ≡ p = cc in
        record {
          there = (0, omega arith, same);
          stops = subst (λ (y : List ℕ). is_passed beyond y target ≡ false) same test;
          others = (inr (inl same), each_weaker (IsLess x) (λ q. (is_passed beyond q target ≡ true) ⊎ ((q ≡ p) ⊎ IsLess p q)) xs (λ q less. inr (inr (subst (λ (y : List ℕ). IsLess y q) same less))) rises.0);
        }

pub all_passed : (beyond : Bool) (target : List ℕ) (pairs : List (List ℕ)) → first_from beyond target pairs ≡ None → Each (λ q. is_passed beyond q target ≡ true) pairs
all_passed beyond target [] is = tt
all_passed beyond target (x ∷ xs) is = by (all_passed beyond target xs) (is_passed beyond x target) refl
  where
    by : (first_from beyond target xs ≡ None → Each (λ q. is_passed beyond q target ≡ true) xs) → (b : Bool) → is_passed beyond x target ≡ b → Each (λ q. is_passed beyond q target ≡ true) (x ∷ xs)
    by behind true test = let back : first_from beyond target (x ∷ xs) ≡ first_from beyond target xs = rw test refl in (test, behind (sym back ∙ is))
    by behind false test = let back : first_from beyond target (x ∷ xs) ≡ Some x = rw test refl in let never : Some x ≡ None = sym back ∙ is in absurd (cc)

-- ---- pairs of a key

same_key : (k key a b : List ℕ) → length k ≡ length key → k ++ a ≡ key ++ b → k ≡ key
same_key [] [] a b long is = refl
same_key [] (y ∷ key) a b long is = absurd (omega arith)
same_key (x ∷ k) [] a b long is = absurd (omega arith)
same_key (x ∷ k) (y ∷ key) a b long is =
    let head : x ≡ y = cc in
    let tail : k ++ a ≡ key ++ b = cc in
    let rest : k ≡ key = same_key k key a b (omega arith) tail in
    λ i. head i ∷ rest i

below_key : (k key a b c : List ℕ) → length k ≡ length key → (k ≡ key → ⊥) → IsLess (k ++ a) (key ++ b) → IsLess (k ++ a) (key ++ c)
below_key k key a b c long other less = record { is = slice_cmp-append nat_cmp k key a c long ∙ ap (λ (o : Ordering). ordering_then o (slice_cmp nat_cmp a c)) (cases (slice_cmp nat_cmp k key) refl) }
  where
    cases : (o : Ordering) → slice_cmp nat_cmp k key ≡ o → slice_cmp nat_cmp k key ≡ Less
    cases Less is = is
    cases Equal is = absurd (other (slice_cmp-IsAntisymmetric nat_cmp-IsAntisymmetric k key is))
    cases Greater is =
        let never : Less ≡ Greater = sym less.is ∙ slice_cmp-append nat_cmp k key a b long ∙ ap (λ (o : Ordering). ordering_then o (slice_cmp nat_cmp a b)) is in
        absurd (cc)

pub key_of_found : (k key : List ℕ) (t tid : Tid) → ◌≡◌ {A = Option (List ℕ × Tid)} (Some (k, t)) (Some (key, tid)) → k ≡ key
key_of_found k key t tid is = let both : ◌≡◌ {A = List ℕ × Tid} (k, t) (key, tid) = cc in ap (λ (pair : List ℕ × Tid). pair.0) both

-- no pair of a key is below the least one
at_least : (key : List ℕ) (tid : Tid) → IsLess (pair_bytes key tid) (pair_bytes key least_tid) → ⊥
at_least key tid less =
    let tail : slice_cmp nat_cmp (tid_bytes tid) (replicate 6 0) ≡ Less =
    ap (λ (o : Ordering). ordering_then o (slice_cmp nat_cmp (tid_bytes tid) (replicate 6 0))) (sym (tied_itself nat_list_cmp_total key))
    ∙ sym (slice_cmp-append nat_cmp key key (tid_bytes tid) (tid_bytes least_tid) refl) ∙ less.is in
    zeros_least (tid_bytes tid) 6 refl (record { is = tail })

passed_less : (p t : List ℕ) → is_passed false p t ≡ true → IsLess p t
passed_less p t is = cases (slice_cmp nat_cmp p t) refl
  where
    cases : (o : Ordering) → slice_cmp nat_cmp p t ≡ o → IsLess p t
    cases Less same = record { is = same }
    cases Equal same = let test : is_passed false p t ≡ false = rw same refl in let never : true ≡ false = sym is ∙ test in absurd (cc)
    cases Greater same = let test : is_passed false p t ≡ false = rw same refl in let never : true ≡ false = sym is ∙ test in absurd (cc)

stops_less : (p t : List ℕ) → is_passed true p t ≡ false → IsLess t p
stops_less p t is = cases (slice_cmp nat_cmp t p) refl
  where
    cases : (o : Ordering) → slice_cmp nat_cmp t p ≡ o → IsLess t p
    cases Less same = record { is = same }
    cases Equal same = let test : is_passed true p t ≡ true = rw same refl in let never : true ≡ false = sym test ∙ is in absurd (cc)
    cases Greater same = let test : is_passed true p t ≡ true = rw same refl in let never : true ≡ false = sym test ∙ is in absurd (cc)

stops_not : (p t : List ℕ) → is_passed false p t ≡ false → IsLess p t → ⊥
stops_not p t is less = let test : is_passed false p t ≡ true = rw less.is refl in let never : true ≡ false = sym test ∙ is in cc

passed_not : (p t : List ℕ) → is_passed true p t ≡ true → IsLess t p → ⊥
passed_not p t is less = let test : is_passed true p t ≡ false = rw less.is refl in let never : true ≡ false = sym is ∙ test in cc

-- ---- what the calls find

module _ (key : List ℕ) (width : ℕ) (long : length key ≡ width) (pairs : List (List ℕ)) (rises : Pairwise IsLess pairs) where
  abbrev Seeks : Option (List ℕ × Tid) → Type 0
  Seeks found = found_bytes found ≡ first_from false (pair_bytes key least_tid) pairs

  abbrev IsAfter : Tid → Option (List ℕ × Tid) → Type 0
  IsAfter first found = found_bytes found ≡ first_from true (pair_bytes key first) pairs

  abbrev IsWide : Option (List ℕ × Tid) → Type 0
  IsWide found = IfSome found (λ pair. length pair.0 ≡ width)

  abbrev HasNot : Option (List ℕ × Tid) → Type 0
  HasNot found = (tid : Tid) → found ≡ Some (key, tid) → ⊥

  pub none_has : (found : Option (List ℕ × Tid)) → Seeks found → IsWide found → HasNot found → (tid : Tid) → Contains pairs (pair_bytes key tid) → ⊥
  none_has None is wide none tid has =
      at_least key tid (passed_less _ _ (each_contained (λ q. is_passed false q (pair_bytes key least_tid) ≡ true) pairs (pair_bytes key tid) (all_passed false _ pairs (sym is)) has))
  none_has (Some (k, t)) is wide none tid has =
      let first = is_first false (pair_bytes key least_tid) pairs (pair_bytes k t) rises (sym is) in
      let other : k ≡ key → ⊥ = λ same. none t (λ i. Some (same i, t)) in
      ⊎_elim
      (λ (passed : is_passed false (pair_bytes key tid) (pair_bytes key least_tid) ≡ true). at_least key tid (passed_less _ _ passed))
      (λ (rest : (pair_bytes key tid ≡ pair_bytes k t) ⊎ IsLess (pair_bytes k t) (pair_bytes key tid)). ⊎_elim
      (λ (same : pair_bytes key tid ≡ pair_bytes k t). other (same_key k key (tid_bytes t) (tid_bytes tid) (wide ∙ sym long) (sym same)))
      (λ (less : IsLess (pair_bytes k t) (pair_bytes key tid)). stops_not _ _ first.stops (below_key k key (tid_bytes t) (tid_bytes tid) (tid_bytes least_tid) (wide ∙ sym long) other less))
      rest)
      (each_contained (λ q. (is_passed false q (pair_bytes key least_tid) ≡ true) ⊎ ((q ≡ pair_bytes k t) ⊎ IsLess (pair_bytes k t) q)) pairs (pair_bytes key tid) first.others has)

  pub is_there : (beyond : Bool) (target : List ℕ) (found : Option (List ℕ × Tid)) (tid : Tid) → found_bytes found ≡ first_from beyond target pairs → found ≡ Some (key, tid) → IsFirst beyond target pairs (pair_bytes key tid)
  is_there beyond target found tid is same = is_first beyond target pairs (pair_bytes key tid) rises (sym is ∙ ap found_bytes same)

  module _ (first : Tid) (sought : IsFirst false (pair_bytes key least_tid) pairs (pair_bytes key first)) where
    -- a pair of the key is the first one, or above it
    first_or_above : (tid : Tid) → Contains pairs (pair_bytes key tid) → (pair_bytes key tid ≡ pair_bytes key first) ⊎ IsLess (pair_bytes key first) (pair_bytes key tid)
    first_or_above tid has = ⊎_elim
        (λ (passed : is_passed false (pair_bytes key tid) (pair_bytes key least_tid) ≡ true). absurd (at_least key tid (passed_less _ _ passed)))
        (λ (rest : (pair_bytes key tid ≡ pair_bytes key first) ⊎ IsLess (pair_bytes key first) (pair_bytes key tid)). rest)
        (each_contained (λ q. (is_passed false q (pair_bytes key least_tid) ≡ true) ⊎ ((q ≡ pair_bytes key first) ⊎ IsLess (pair_bytes key first) q)) pairs (pair_bytes key tid) sought.others has)

    none_above : (found : Option (List ℕ × Tid)) → IsAfter first found → IsWide found → HasNot found → (tid : Tid) → Contains pairs (pair_bytes key tid) → IsLess (pair_bytes key first) (pair_bytes key tid) → ⊥
    none_above None is wide none tid has above =
        passed_not _ _ (each_contained (λ q. is_passed true q (pair_bytes key first) ≡ true) pairs (pair_bytes key tid) (all_passed true _ pairs (sym is)) has) above
    none_above (Some (k, t)) is wide none tid has above =
        let next = is_first true (pair_bytes key first) pairs (pair_bytes k t) rises (sym is) in
        let other : k ≡ key → ⊥ = λ same. none t (λ i. Some (same i, t)) in
        ⊎_elim
        (λ (passed : is_passed true (pair_bytes key tid) (pair_bytes key first) ≡ true). passed_not _ _ passed above)
        (λ (rest : (pair_bytes key tid ≡ pair_bytes k t) ⊎ IsLess (pair_bytes k t) (pair_bytes key tid)). ⊎_elim
        (λ (same : pair_bytes key tid ≡ pair_bytes k t). other (same_key k key (tid_bytes t) (tid_bytes tid) (wide ∙ sym long) (sym same)))
        (λ (less : IsLess (pair_bytes k t) (pair_bytes key tid)). less_asym (stops_less _ _ next.stops) (below_key k key (tid_bytes t) (tid_bytes tid) (tid_bytes first) (wide ∙ sym long) other less))
        rest)
        (each_contained (λ q. (is_passed true q (pair_bytes key first) ≡ true) ⊎ ((q ≡ pair_bytes k t) ⊎ IsLess (pair_bytes k t) q)) pairs (pair_bytes key tid) next.others has)

    -- the first pair of the key is this tuple's, and the next is another one's, or there is none
    pub another_is : (own : Option Tid) (found : Option (List ℕ × Tid)) (result : Option Tid) → own ≡ Some first → IsAfter first found → IsWide found → IfSome result (λ tid. found ≡ Some (key, tid)) → (result ≡ None → HasNot found) → IsAnother key own pairs result
    another_is own found (Some tid) mine is wide some none =
        let next = is_there true (pair_bytes key first) found tid is some in
        (next.there, λ same. let both : Some first ≡ Some tid = sym mine ∙ same in let one : first ≡ tid = cc in less_never (subst (λ (t : Tid). IsLess (pair_bytes key first) (pair_bytes key t)) (sym one) (stops_less _ _ next.stops)))
    another_is own found None mine is wide some none = λ tid has.
        subst (λ (o : Option Tid). IsPairOf key o (pair_bytes key tid)) (sym mine)
        (⊎_elim (λ (same : pair_bytes key tid ≡ pair_bytes key first). same) (λ (above : IsLess (pair_bytes key first) (pair_bytes key tid)). absurd (none_above found is wide (none refl) tid has above)) (first_or_above tid has))

-- ---- a pair that is there

-- the first pair at or above one of them is that one
pub found_is : (target : List ℕ) (pairs : List (List ℕ)) → Pairwise IsLess pairs → Contains pairs target → first_from false target pairs ≡ Some target
found_is target pairs rises has = by (first_from false target pairs) refl
  where
    at_first : (q : List ℕ) → IsFirst false target pairs q → q ≡ target
    at_first q first = ⊎_elim
        (λ (passed : is_passed false target target ≡ true). absurd (less_never (passed_less target target passed)))
        (λ (rest : (target ≡ q) ⊎ IsLess q target). ⊎_elim
        (λ (same : target ≡ q). sym same)
        (λ (less : IsLess q target). absurd (stops_not q target first.stops less))
        rest)
        (each_contained (λ p. (is_passed false p target ≡ true) ⊎ ((p ≡ q) ⊎ IsLess q p)) pairs target first.others has)

    by : (found : Option (List ℕ)) → first_from false target pairs ≡ found → first_from false target pairs ≡ Some target
    by None is = absurd (less_never (passed_less target target (each_contained (λ p. is_passed false p target ≡ true) pairs target (all_passed false target pairs is) has)))
    by (Some q) is = is ∙ ap (λ (p : List ℕ). Some p) (at_first q (is_first false target pairs q rises is))
