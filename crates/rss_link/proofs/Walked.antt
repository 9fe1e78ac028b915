-- The chains of all parents, one after another.
use Rattle.std.proofs.Common.{◌≡◌, ◌⊎◌, inl, inr, ℕ, ◌+◌, ◌≤◌, true, false, List, [], ◌∷◌, ◌++◌, length, Option, Some, None, refl, sym, ◌∙◌, ap, subst, arith, length-append}
use Rattle.std.proofs.lemmas.Bool.{eqb-true, cond-false}
use Rattle.rss_base.specs.Prefixes.{Ends, ends_of}
use Rattle.rss_base.specs.declared.tid.Tid.{Tid}
use Rattle.rss_tuple.specs.Directory.{Bodies}
use Rattle.rss_model.specs.Chains.{stands_in}
use Rattle.rss_link.specs.declared.link.Chains.{Chains}
use Rattle.rss_link.specs.declared.link.Relations.{Relations}
use Rattle.rss_link.specs.declared.blocks.Standing.{Standing}
use Rattle.rss_link.specs.declared.blocks.Standing.TheVariants.{Outside, Within}
use Rattle.rss_link.specs.Blocks.{IsNamed}
use Rattle.rss_link.specs.Chains.{Lists, with_list, Stands, IsPlaced}
use Rattle.rss_link.specs.Links.{Says, SaysEnds}
use Rattle.rss_link.specs.Calls.{LinkView}
use Rattle.rss_link.specs.Checking.{begins_with, children_of, parents_of, IsParentOf, HasChains, SaysPlace, AreCounted, IsNoChild, IsChain, HasChain, HasNoChain, AreWalked}
use Rattle.rss_link.proofs.Lists.{false_true, place_cases, list_here, list_off}
use Rattle.rss_link.proofs.Meaning.{says_one, stands_as, says_some}
use Rattle.rss_link.proofs.Operations.{split_at, stands_there}
use Rattle.rss_link.proofs.Prefixed.{one_place}
use Rattle.rss_link.proofs.Once.{stands_left, stands_right, stands_both, once_both, few, all_there}
use Rattle.rss_link.proofs.Chained.{says_there, child_there, chain_once, chain_one, spelled_chain}
use Rattle.rss_link.proofs.Counted.{never_both}

-- a body begins with one number
both_begin : (body : Option (List ℕ)) (one other : ℕ) → begins_with one body ≡ true → begins_with other body ≡ true → one ≡ other
both_begin None one other is is_too = absurd (false_true false refl is)
both_begin (Some []) one other is is_too = absurd (false_true false refl is)
both_begin (Some (first ∷ rest)) one other is is_too = sym (eqb-true first one is) ∙ eqb-true first other is_too

-- a member of a parent's chain is in no other one
parent_one : {p q l r m s : Option Tid} → Within p l r ≡ Within q m s → p ≡ q
parent_one same = cc

one_parent : {link : Chains} {relations : Relations} {bodies : Bodies} {parent other : Option Tid} {list others : List Tid} {ends ends_too : Ends}
    → IsChain link relations bodies parent ends list → IsChain link relations bodies other ends_too others → (t : Tid) → stands_in t list ≡ true → stands_in t others ≡ true → parent ≡ other
one_parent {link = link} {bodies = bodies} {list = list} {others = others} chain chain_too t there there_too =
    let split = split_at t list there in
    let split_too = split_at t others there_too in
    parent_one (says_one link bodies t _ _ (chain.says split.before split.after t split.is) (chain_too.says split_too.before split_too.after t split_too.is))

module _ {link : Chains} {relations : Relations} {view : LinkView} where
  -- ---- one more parent

  pub walked_none : {seen : Option Tid → Type 0} → ((parent : Option Tid) → IsParentOf link relations view.tuples.bodies parent → seen parent → ⊥) → ((t : Tid) → parents_of link relations view.tuples.bodies t ≡ true → seen (Some t) → ⊥) → AreWalked link relations view seen []
  walked_none none none_too = record {
    lists = λ parent. [];
    chains = λ parent is there. absurd (none parent is there);
    within = λ parent t there. absurd (false_true false refl there);
    each = λ t there. absurd (false_true false refl there);
    named = λ t is there. absurd (none_too t is there);
    once = tt;
  }

  module _ {seen now : Option Tid → Type 0} {walked : List Tid} (so : AreWalked link relations view seen walked) (keeps : (parent : Option Tid) → seen parent → now parent) where
    -- no parent is new
    pub walked_other : ((parent : Option Tid) → IsParentOf link relations view.tuples.bodies parent → now parent → seen parent) → ((t : Tid) → parents_of link relations view.tuples.bodies t ≡ true → now (Some t) → seen (Some t)) → AreWalked link relations view now walked
    walked_other back back_too = record {
      lists = so.lists;
      chains = λ parent is there. so.chains parent is (back parent is there);
      within = λ parent t there. let was = so.within parent t there in (was.0, keeps parent was.1, was.2);
      each = so.each;
      named = λ t is there. so.named t is (back_too t is there);
      once = so.once;
    }

    module _ (p : Option Tid) (is_parent : IsParentOf link relations view.tuples.bodies p) (fresh : seen p → ⊥) (here : now p) (list : List Tid) (has : HasChain link relations view p list)
        (back : (parent : Option Tid) → IsParentOf link relations view.tuples.bodies parent → now parent → (parent ≡ p) ⊎ seen parent) where
      abbrev more : Lists
      more = with_list so.lists p list

      at_it : (q : Option Tid) → q ≡ p → more q ≡ list
      at_it q same = list_here so.lists p q list same

      off_it : (q : Option Tid) → (q ≡ p → ⊥) → more q ≡ so.lists q
      off_it q off = list_off so.lists p q list off

      chains_more : (q : Option Tid) → IsParentOf link relations view.tuples.bodies q → now q → HasChain link relations view q (more q)
      chains_more q is there = elim (place_cases q p) [
        | inl same ↦ subst (λ (l : List Tid). HasChain link relations view q l) (sym (at_it q same)) (subst (λ (r : Option Tid). HasChain link relations view r list) (sym same) has)
        | inr off ↦ elim (back q is there) [
          | inl same ↦ absurd (off same)
          | inr old ↦ subst (λ (l : List Tid). HasChain link relations view q l) (sym (off_it q off)) (so.chains q is old)
        ]
      ]

      within_more : (q : Option Tid) (t : Tid) → stands_in t (more q) ≡ true → IsParentOf link relations view.tuples.bodies q × now q × (stands_in t (list ++ walked) ≡ true)
      within_more q t there = elim (place_cases q p) [
        | inl same ↦ (subst (IsParentOf link relations view.tuples.bodies) (sym same) is_parent, subst now (sym same) here, stands_left t list walked (ap (stands_in t) (sym (at_it q same)) ∙ there))
        | inr off ↦ let was = so.within q t (ap (stands_in t) (sym (off_it q off)) ∙ there) in (was.0, keeps q was.1, stands_right t list walked was.2)
      ]

      not_it : (t : Tid) (q : Option Tid) → stands_in t (so.lists q) ≡ true → q ≡ p → ⊥
      not_it t q there same = fresh (subst seen same (so.within q t there).1)

      each_more : (t : Tid) → stands_in t (list ++ walked) ≡ true → (q : Option Tid) × (stands_in t (more q) ≡ true)
      each_more t there = elim (stands_both t list walked there) [
        | inl new ↦ (p, ap (stands_in t) (at_it p refl) ∙ new)
        | inr old ↦ let at = so.each t old in (at.0, ap (stands_in t) (off_it at.0 (not_it t at.0 at.1)) ∙ at.1)
      ]

      apart : (t : Tid) → stands_in t list ≡ true → stands_in t walked ≡ true → ⊥
      apart t new old =
          let at = so.each t old in
          let was = so.within at.0 t at.1 in
          let chain = so.chains at.0 was.0 was.1 in
          not_it t at.0 at.1 (one_parent chain.chain has.chain t at.1 new)

      pub walked_more : ((t : Tid) → parents_of link relations view.tuples.bodies t ≡ true → now (Some t) → IsNamed t) → AreWalked link relations view now (list ++ walked)
      walked_more named = record {
        lists = more;
        chains = chains_more;
        within = within_more;
        each = each_more;
        named = named;
        once = once_both list walked (chain_once has.chain) so.once apart;
      }

  -- ---- all members and all children

  module _ {seen : Option Tid → Type 0} {walked standing : List Tid} (so : AreWalked link relations view seen walked) (counted : AreCounted link relations view.tuples.bodies (λ t. Unit {0}) standing) where
    -- a member is a child that says so
    is_standing : (t : Tid) → stands_in t walked ≡ true → stands_in t standing ≡ true
    is_standing t there =
        let at = so.each t there in
        let was = so.within at.0 t at.1 in
        let chain = (so.chains at.0 was.0 was.1).chain in
        counted.all t tt (child_there chain t at.1) (says_there chain t at.1)

    pub walked_few : length walked ≤ length standing
    walked_few = few walked standing so.once is_standing

    pub is_walked : length standing ≤ length walked → (t : Tid) → stands_in t standing ≡ true → stands_in t walked ≡ true
    is_walked many = all_there walked standing so.once is_standing many

    -- where chains are spelled, no parent has too long a one
    pub never_too_long : (p : Option Tid) → IsParentOf link relations view.tuples.bodies p → (seen p → ⊥) → (left : ℕ) → left + length walked ≡ length standing → HasNoChain link relations view p left → HasChains link relations view → ⊥
    never_too_long p is_parent fresh left sum never has =
        let list = has.lists p in
        let says = has.spells.chains.ends p is_parent in
        let chain = spelled_chain has.spells p (ends_of list) is_parent says in
        let its : HasChain link relations view p list = record { ends = ends_of list; says = says; chain = chain } in
        let all = walked_more {now = λ parent. (parent ≡ p) ⊎ seen parent} so (λ parent there. inr there) p is_parent fresh (inl refl) list its (λ parent is there. there)
        (λ t is there. has.spells.named.parents t is) in
        never (ends_of list) says list chain (omega (arith, sum, few_of all, length-append list walked))
      where
        few_of : {others : Option Tid → Type 0} {all : List Tid} → AreWalked link relations view others all → length all ≤ length standing
        few_of those = few _ standing those.once (λ t there.
            let at = those.each t there in
            let was = those.within at.0 t at.1 in
            let chain = (those.chains at.0 was.0 was.1).chain in
            counted.all t tt (child_there chain t at.1) (says_there chain t at.1))

  module _ {walked standing : List Tid} (so : AreWalked link relations view (λ parent. Unit {0}) walked) (counted : AreCounted link relations view.tuples.bodies (λ t. Unit {0}) standing) where
    -- and each child that says so is walked
    pub never_fewer : (length walked ≡ length standing → ⊥) → HasChains link relations view → ⊥
    never_fewer differ has = differ (omega (
      arith,
      walked_few so counted,
      few standing walked counted.once (λ t there.
          let its = counted.within t there in
          let place = its.2 in
          let is = stands_as has.spells t (Within place.parent place.previous place.next) its.1 place.says in
          let stands : Stands has.lists t = record { parent = place.parent; before = is.before; after = is.after; is = is.is } in
          let upper = has.spells.chains.parents t stands in
          let its_chain = so.chains place.parent upper tt in
          let same : has.lists place.parent ≡ so.lists place.parent = chain_one its_chain.chain (spelled_chain has.spells place.parent its_chain.ends upper its_chain.says) in
          (so.within place.parent t (ap (stands_in t) (sym same ∙ is.is) ∙ stands_there t is.before is.after)).2),
    ))

    module _ (many : length walked ≡ length standing) where
      in_list : (t : Tid) (stands : Stands so.lists t) → stands_in t (so.lists stands.parent) ≡ true
      in_list t stands = ap (stands_in t) stands.is ∙ stands_there t stands.before stands.after

      chain_of : (t : Tid) (stands : Stands so.lists t) → HasChain link relations view stands.parent (so.lists stands.parent)
      chain_of t stands = let was = so.within stands.parent t (in_list t stands) in so.chains stands.parent was.0 tt

      says_it : (t : Tid) (stands : Stands so.lists t) → SaysPlace link view.tuples.bodies t
      says_it t stands = says_there (chain_of t stands).chain t (in_list t stands)

      placed : (t : Tid) (standing_of : Standing) → children_of link relations view.tuples.bodies t ≡ true → Says link view.tuples.bodies t standing_of → IsPlaced (Says link view.tuples.bodies) so.lists t
      placed t Outside child says = record { standing = Outside; says_so = says; is = λ stands. never_both (says_it t stands) Outside refl says }
      placed t (Within parent previous next) child says =
          let there = is_walked so counted (omega (arith, many)) t (counted.all t tt child (record { parent = parent; previous = previous; next = next; says = says })) in
          let at = so.each t there in
          let was = so.within at.0 t at.1 in
          let split = split_at t (so.lists at.0) at.1 in
          let chain = (so.chains at.0 was.0 tt).chain in
          record {
            standing = _;
            says_so = chain.says split.before split.after t split.is;
            is = record { before = split.before; after = split.after; is = split.is; left = refl; right = refl };
          }

      once_there : (t : Tid) (one other : Stands so.lists t) → (other.parent ≡ one.parent) × (length other.before ≡ length one.before)
      once_there t one other =
          let chain = chain_of t one in
          let chain_too = chain_of t other in
          let same : other.parent ≡ one.parent = one_parent chain_too.chain chain.chain t (in_list t other) (in_list t one) in
          (same, one_place t (so.lists one.parent) one.before one.after other.before other.after (chain_once chain.chain) one.is (sym (ap so.lists same) ∙ other.is))

      apart_there : link.unary ≡ false → link.child_segment ≡ link.parent_segment → (t : Tid) → children_of link relations view.tuples.bodies t ≡ true → parents_of link relations view.tuples.bodies t ≡ true → ⊥
      apart_there kind same t child parent =
          counted.distinct t tt child kind same (both_begin (view.tuples.bodies link.child_segment t) relations.child relations.parent child
          (ap (λ (s : ℕ). begins_with relations.parent (view.tuples.bodies s t)) same ∙ sym (cond-false link.unary false (begins_with relations.parent (view.tuples.bodies link.parent_segment t)) kind) ∙ parent))

      -- all is as a link wants it
      pub all_spelled : HasChains link relations view
      all_spelled = record {
        lists = so.lists;
        spells = record {
          named = record { children = λ t child. counted.named t tt child; parents = λ t is. so.named t is tt };
          apart = apart_there;
          chains = record {
            each = λ t child. let some = counted.says t tt child in placed t some.standing child some.says;
            ends = λ parent is. let chain = so.chains parent is tt in subst (λ (e : Ends). SaysEnds link view.ends view.tuples.bodies parent e) chain.chain.are_ends chain.says;
            children = λ t stands. child_there (chain_of t stands).chain t (in_list t stands);
            parents = λ t stands. (so.within stands.parent t (in_list t stands)).0;
            once = once_there;
          };
        };
      }

-- ---- a child that can be none

pub no_child : {link : Chains} {relations : Relations} {view : LinkView} {t : Tid} → IsNoChild link relations view.tuples.bodies t → HasChains link relations view → ⊥
no_child {link = link} {relations = relations} {view = view} {t = t} its has =
    its.never (says_some has.spells t its.is_child) (λ kind segments same. has.spells.apart kind segments t its.is_child
    (cond-false link.unary false (begins_with relations.parent (view.tuples.bodies link.parent_segment t)) kind
    ∙ (λ i. begins_with (sym same i) (view.tuples.bodies (sym segments i) t)) ∙ its.is_child))
