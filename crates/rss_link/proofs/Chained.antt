-- One chain, walked from its first member on.
use Rattle.std.proofs.Common.{◌≡◌, inl, inr, ℕ, ◌≤◌, zero, suc, true, List, [], ◌∷◌, ◌++◌, length, Option, Some, None, refl, sym, ◌∙◌, ap, subst, arith, append_assoc}
use Rattle.std.proofs.lemmas.List.{append-nil}
use Rattle.rss_base.specs.Prefixes.{Ends, first_of, last_of}
use Rattle.rss_base.specs.declared.tid.Tid.{Tid}
use Rattle.rss_tuple.specs.Directory.{Bodies}
use Rattle.rss_model.specs.Chains.{stands_in, StandOnce}
use Rattle.rss_link.specs.declared.link.Chains.{Chains}
use Rattle.rss_link.specs.declared.link.Relations.{Relations}
use Rattle.rss_link.specs.declared.blocks.Standing.{Standing}
use Rattle.rss_link.specs.declared.blocks.Standing.TheVariants.{Within}
use Rattle.rss_link.specs.Chains.{Lists, IsParent}
use Rattle.rss_link.specs.Links.{Says, SaysEnds, SpellChains}
use Rattle.rss_link.specs.Checking.{children_of, parents_of, linkage_of, SaysPlace, IsChain, IsFollowed, NotFollowed}
use Rattle.rss_link.proofs.Lists.{cut, Cut, early, late, last_cases, last_is, last_is_from, first_is, never_some}
use Rattle.rss_link.proofs.Meaning.{says_one, same_list, say_their, ends_as}
use Rattle.rss_link.proofs.Operations.{split_at}
use Rattle.rss_link.proofs.Prefixed.{stand_once, not_there}
use Rattle.rss_link.proofs.Relinked.{none_before}
use Rattle.rss_link.proofs.Splices.{length_cons}

none_first : (xs : List Tid) → first_of xs ≡ None → xs ≡ []
none_first [] none = refl
none_first (x ∷ xs) none = absurd (never_some x (first_of (x ∷ xs)) none refl)

module _ {link : Chains} {relations : Relations} {bodies : Bodies} {parent : Option Tid} {ends : Ends} where
  -- ---- the members of a chain

  -- what one of them says
  pub says_there : {list : List Tid} → IsChain link relations bodies parent ends list → (t : Tid) → stands_in t list ≡ true → SaysPlace link bodies t
  says_there {list = list} chain t there = let split = split_at t list there in record { parent = parent; previous = _; next = _; says = chain.says split.before split.after t split.is }

  pub child_there : {list : List Tid} → IsChain link relations bodies parent ends list → (t : Tid) → stands_in t list ≡ true → children_of link relations bodies t ≡ true
  child_there {list = list} chain t there = let split = split_at t list there in chain.children split.before split.after t split.is

  module _ {list : List Tid} (chain : IsChain link relations bodies parent ends list) where
    lasts : (b a b_too a_too : List Tid) (t : Tid) → list ≡ b ++ t ∷ a → list ≡ b_too ++ t ∷ a_too → last_of b ≡ last_of b_too
    lasts b a b_too a_too t is is_too =
        let both : Within parent (last_of b) (first_of a) ≡ Within parent (last_of b_too) (first_of a_too) = says_one link bodies t _ _ (chain.says b a t is) (chain.says b_too a_too t is_too) in
        cc

    none_too : (b b_too : List Tid) → last_of b ≡ last_of b_too → b ≡ [] → length b_too ≡ length b
    none_too b b_too last none = ap length (none_before b_too (sym last ∙ ap last_of none)) ∙ sym (ap length none)

    -- what is before a member at two places is as long
    places : (n : ℕ) (b a b_too a_too : List Tid) (t : Tid) → length b ≤ n → list ≡ b ++ t ∷ a → list ≡ b_too ++ t ∷ a_too → length b_too ≡ length b
    places zero b a b_too a_too t low is is_too = elim (last_cases None b) [
      | inl none ↦ none_too b b_too (lasts b a b_too a_too t is is_too) none
      | inr some ↦ absurd (omega (arith, low, ap length some.is, length_cons some.front some.tid []))
    ]
    places (suc n) b a b_too a_too t low is is_too = elim (last_cases None b) [
      | inl none ↦ none_too b b_too (lasts b a b_too a_too t is is_too) none
      | inr some ↦
          let other = last_is b_too some.tid (sym (lasts b a b_too a_too t is is_too) ∙ last_is_from b ∙ some.last) in
          let low_too : length some.front ≤ n = omega (arith, low, ap length some.is, length_cons some.front some.tid []) in
          let same : length other.0 ≡ length some.front = places n some.front (t ∷ a) other.0 (t ∷ a_too) some.tid low_too
          (is ∙ ap (λ (l : List Tid). l ++ t ∷ a) some.is ∙ append_assoc some.front (some.tid ∷ []) (t ∷ a))
          (is_too ∙ ap (λ (l : List Tid). l ++ t ∷ a_too) other.1 ∙ append_assoc other.0 (some.tid ∷ []) (t ∷ a_too)) in
          omega (arith, same, ap length some.is, ap length other.1, length_cons some.front some.tid [], length_cons other.0 some.tid [])
    ]

    pub chain_once : StandOnce list
    chain_once = stand_once list (λ b t a is. not_there t a (λ m after again.
        omega (
          arith,
          places (length b) b a (b ++ t ∷ m) after t (omega arith) is
              (is ∙ ap (λ (l : List Tid). b ++ t ∷ l) again ∙ sym (append_assoc b (t ∷ m) (t ∷ after))),
          length_cons b t m,
        )))

    -- there is one chain between these ends
    pub chain_one : {other : List Tid} → IsChain link relations bodies parent ends other → other ≡ list
    chain_one {other = other} too = same_list link bodies parent other list too.says chain.says [] other list refl refl
        (ap (λ (e : Ends). e.first) (sym too.are_ends ∙ chain.are_ends))

-- ---- the walk

-- the first of a list, or this where it is empty
abbrev pub first_from : Option Tid → List Tid → Option Tid
first_from place [] = place
first_from place (tid ∷ tids) = Some tid

first_more : (place : Option Tid) (xs : List Tid) (now : Option Tid) (t : Tid) → place ≡ Some t → first_from now (xs ++ t ∷ []) ≡ first_from place xs
first_more place [] now t is = sym is
first_more place (x ∷ xs) now t is = refl

first_all : (xs : List Tid) → first_from None xs ≡ first_of xs
first_all [] = refl
first_all (x ∷ xs) = refl

never_empty : (b a : List Tid) (t : Tid) → [] ≡ b ++ t ∷ a → ⊥
never_empty [] a t is = absurd cc
never_empty (x ∷ b) a t is = absurd cc

alone : (u : Tid) (m : List Tid) (t : Tid) (a : List Tid) → u ∷ [] ≡ m ++ t ∷ a → (t ≡ u) × (m ≡ []) × (a ≡ [])
alone u [] t a is = (cc, refl, cc)
alone u (x ∷ m) t a is = let rest : [] ≡ m ++ t ∷ a = cc in absurd (never_empty m a t rest)

-- The members so far, and the next one: each says so, and a chain between the ends begins with them.
pub record IsFront (link : Chains) (relations : Relations) (bodies : Bodies) (parent : Option Tid) (ends : Ends) (front : List Tid) (next : Option Tid) : Type 0 where
  pub children : (before after : List Tid) (t : Tid) → front ≡ before ++ t ∷ after → children_of link relations bodies t ≡ true
  pub says : (before after : List Tid) (t : Tid) → front ≡ before ++ t ∷ after → Says link bodies t (Within parent (last_of before) (first_from next after))
  pub first : ends.first ≡ first_from next front
  pub follows : (list : List Tid) → IsChain link relations bodies parent ends list → (rest : List Tid) × (list ≡ front ++ rest) × (next ≡ first_of rest)

module _ {link : Chains} {relations : Relations} {bodies : Bodies} {parent : Option Tid} {ends : Ends} where
  pub front_none : IsFront link relations bodies parent ends [] ends.first
  front_none = record {
    children = λ before after t is. absurd (never_empty before after t is);
    says = λ before after t is. absurd (never_empty before after t is);
    first = refl;
    follows = λ list chain. (list, refl, ap (λ (e : Ends). e.first) chain.are_ends);
  }

  module _ {front : List Tid} {next : Option Tid} (so : IsFront link relations bodies parent ends front next) where
    -- a chain goes on with the next
    goes_on : (t : Tid) → next ≡ Some t → (list : List Tid) → IsChain link relations bodies parent ends list → (rest : List Tid) × (list ≡ front ++ t ∷ rest)
    goes_on t is list chain =
        let on = so.follows list chain in
        let first = first_is on.0 t (sym on.2 ∙ is) in
        (first.0, on.1 ∙ ap (λ (l : List Tid). front ++ l) first.1)

    module _ (t : Tid) (is : next ≡ Some t) where
      pub front_more : (now : Option Tid) → IsFollowed link relations bodies parent (last_of front) t now → IsFront link relations bodies parent ends (front ++ t ∷ []) now
      front_more now followed = record {
        children = λ before after u there. child_now before after u (cut front (t ∷ []) before after u (sym there));
        says = λ before after u there. says_now before after u (cut front (t ∷ []) before after u (sym there));
        first = so.first ∙ sym (first_more next front now t is);
        follows = λ list chain.
            let on = goes_on t is list chain in
            let both : Within parent (last_of front) (first_of on.0) ≡ Within parent (last_of front) now = says_one link bodies t _ _ (chain.says front on.0 t on.1) followed.says in
            (on.0, on.1 ∙ sym (append_assoc front (t ∷ []) on.0), cc);
      }
        where
          child_now : (before after : List Tid) (u : Tid) → Cut front (t ∷ []) before after u → children_of link relations bodies u ≡ true
          child_now before after u (early m here rest) = so.children before m u here
          child_now before after u (late m here rest) = let one = alone t m u after here in ap (children_of link relations bodies) one.0 ∙ followed.is_child

          says_now : (before after : List Tid) (u : Tid) → Cut front (t ∷ []) before after u → Says link bodies u (Within parent (last_of before) (first_from now after))
          says_now before after u (early m here rest) =
              subst (λ (p : Option Tid). Says link bodies u (Within parent (last_of before) p)) (sym (ap (first_from now) rest ∙ first_more next m now t is)) (so.says before m u here)
          says_now before after u (late m here rest) =
              let one = alone t m u after here in
              let front_is : before ≡ front = rest ∙ ap (λ (l : List Tid). front ++ l) one.1 ∙ append-nil front in
              subst (λ (x : Tid). Says link bodies x (Within parent (last_of before) (first_from now after))) (sym one.0)
              (subst (λ (s : Standing). Says link bodies t s) (λ i. Within parent (last_of (sym front_is i)) (first_from now (sym one.2 i))) followed.says)

      -- the next one says nothing of the kind
      pub front_refused : NotFollowed link relations bodies parent (last_of front) t → (list : List Tid) → IsChain link relations bodies parent ends list → ⊥
      front_refused never list chain =
          let on = goes_on t is list chain in
          never (first_of on.0) (record { is_child = chain.children front on.0 t on.1; says = chain.says front on.0 t on.1 })

      -- or it is one too many
      pub front_full : (most : ℕ) → length front ≡ most → (list : List Tid) → IsChain link relations bodies parent ends list → length list ≤ most → ⊥
      front_full most full list chain low = let on = goes_on t is list chain in omega (arith, full, low, ap length on.1, length_cons front t on.0)

  module _ {front : List Tid} {next : Option Tid} (so : IsFront link relations bodies parent ends front next) (none : next ≡ None) where
    says_all : (before after : List Tid) (t : Tid) → front ≡ before ++ t ∷ after → Says link bodies t (Within parent (last_of before) (first_of after))
    says_all before after t is = subst (λ (p : Option Tid). Says link bodies t (Within parent (last_of before) p)) (ap (λ (p : Option Tid). first_from p after) none ∙ first_all after) (so.says before after t is)

    pub front_done : last_of front ≡ ends.last → IsChain link relations bodies parent ends front
    front_done last = record {
      children = so.children;
      says = says_all;
      are_ends = λ i. record { first = (so.first ∙ ap (λ (p : Option Tid). first_from p front) none ∙ first_all front) i; last = sym last i };
    }

    -- the last of them isn't the one that is said
    pub front_open : (last_of front ≡ ends.last → ⊥) → (list : List Tid) → IsChain link relations bodies parent ends list → ⊥
    front_open differ list chain =
        let on = so.follows list chain in
        let all : list ≡ front = on.1 ∙ ap (λ (l : List Tid). front ++ l) (none_first on.0 (sym on.2 ∙ none)) ∙ append-nil front in
        differ (ap last_of (sym all) ∙ ap (λ (e : Ends). e.last) (sym chain.are_ends))

-- ---- chains that are spelled

pub spelled_chain : {link : Chains} {relations : Relations} {bodies : Bodies} {kept : Ends} {lists : Lists} → SpellChains link kept bodies (linkage_of link relations bodies lists)
    → (parent : Option Tid) (ends : Ends) → IsParent link.unary (parents_of link relations bodies) parent → SaysEnds link kept bodies parent ends → IsChain link relations bodies parent ends (lists parent)
spelled_chain spells parent ends is says = record {
  children = λ before after t at. spells.chains.children t (record { parent = parent; before = before; after = after; is = at });
  says = say_their spells parent;
  are_ends = ends_as spells parent ends is says;
}
