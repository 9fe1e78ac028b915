-- A chain of which the middle is changed, and the pointers at its seams.
use Rattle.std.proofs.Common.{◌≡◌, ◌⊎◌, inl, inr, ℕ, ◌+◌, ◌<◌, Bool, true, List, [], ◌∷◌, ◌++◌, length, Option, Some, refl, sym, ◌∙◌, ap, subst, arith, append_assoc}
use Rattle.std.proofs.lemmas.List.{length-append}
use Rattle.rss_base.specs.declared.tid.Tid.{Tid}
use Rattle.rss_base.specs.Prefixes.{Ends, first_of, last_of, ends_of}
use Rattle.rss_link.specs.declared.blocks.Standing.{Standing}
use Rattle.rss_link.specs.declared.blocks.Standing.TheVariants.{Outside, Within}
use Rattle.rss_link.specs.declared.link.Chains.{Chains}
use Rattle.rss_link.specs.Calls.{Spot}
use Rattle.rss_link.specs.Edits.{IsParted}
use Rattle.rss_link.specs.Chains.{Lists, Linkage, Stands, StandsAs, IsOutside, IsParent, IsPlaced, AreChains, with_list, relinked}
use Rattle.rss_link.proofs.Lists.{Cut, early, late, cut, tid_cases, place_cases, list_here, list_off, last_is, first_is, last_behind, last_from}
use Rattle.rss_link.proofs.Meaning.{says_within}

-- the child stands in no chain, and this is the spot's chain, parted where the child is to stand
pub record IsFreeAt (link : Chains) (linkage : Linkage) (spot : Spot) (before after : List Tid) : Type 0 where
  pub child : linkage.children spot.child ≡ true
  pub outside : IsOutside linkage.lists spot.child
  pub parted : IsParted link linkage spot.parent spot.left before after

-- what is at hand where the middle of the chain of a parent, between two parts, is another now, and in both is one child at most
pub record IsSplice (linkage : Linkage) (parent : Option Tid) (before mid now after : List Tid) (child : Tid) : Type 0 where
  pub is : linkage.lists parent ≡ before ++ (mid ++ after)
  pub was_child : (t : Tid) (b a : List Tid) → mid ≡ b ++ t ∷ a → t ≡ child
  pub is_child : (t : Tid) (b a : List Tid) → now ≡ b ++ t ∷ a → t ≡ child

pub length_cons : (b : List Tid) (t : Tid) (a : List Tid) → length (b ++ t ∷ a) ≡ length b + (length a + 1)
length_cons b t a = omega (arith, length-append b (t ∷ a))

-- the last of a list, and what is before it
last_two : (xs ys : List Tid) (x : Tid) (m : List Tid) → last_of (xs ++ (ys ++ (x ∷ m))) ≡ last_from (Some x) m
last_two xs ys x m = ap last_of (sym (append_assoc xs ys (x ∷ m))) ∙ last_behind (xs ++ ys) m x

module _ {unary : Bool} {says : Tid → Standing → Type 0} {ends : Option Tid → Ends → Type 0} {linkage : Linkage} (chains : AreChains unary says ends linkage)
    (parent : Option Tid) (before mid now after : List Tid) (child : Tid) (splice : IsSplice linkage parent before mid now after child) where
  abbrev whole : List Tid
  whole = before ++ (now ++ after)

  abbrev lists_now : Lists
  lists_now = with_list linkage.lists parent whole

  -- ---- where a tuple stands now, and where it stood

  data Place (t : Tid) (stands : Stands lists_now t) : Type 0 where
    elsewhere : (stands.parent ≡ parent → ⊥) → linkage.lists stands.parent ≡ stands.before ++ t ∷ stands.after → Place t stands
    in_before : stands.parent ≡ parent → (m : List Tid) → before ≡ stands.before ++ t ∷ m → Place t stands
    in_now : stands.parent ≡ parent → t ≡ child → (b a : List Tid) → now ≡ b ++ t ∷ a → stands.before ≡ before ++ b → stands.after ≡ a ++ after → Place t stands
    in_after : stands.parent ≡ parent → (m : List Tid) → after ≡ m ++ t ∷ stands.after → stands.before ≡ before ++ (now ++ m) → Place t stands

  place_late : (t : Tid) (stands : Stands lists_now t) → stands.parent ≡ parent → (m : List Tid) → stands.before ≡ before ++ m → Cut now after m stands.after t → Place t stands
  place_late t stands same m is (early a here rest) = in_now same (splice.is_child t m a here) m a here is rest
  place_late t stands same m is (late n here rest) = in_after same n here (is ∙ ap (λ (l : List Tid). before ++ l) rest)

  place_here : (t : Tid) (stands : Stands lists_now t) → stands.parent ≡ parent → Cut before (now ++ after) stands.before stands.after t → Place t stands
  place_here t stands same (early m here rest) = in_before same m here
  place_here t stands same (late m here rest) = place_late t stands same m rest (cut now after m stands.after t (sym here))

  place : (t : Tid) (stands : Stands lists_now t) → Place t stands
  place t stands = elim (place_cases stands.parent parent) [
    | inr off ↦ elsewhere off (sym (list_off linkage.lists parent stands.parent whole off) ∙ stands.is)
    | inl same ↦ place_here t stands same (cut before (now ++ after) stands.before stands.after t (sym stands.is ∙ list_here linkage.lists parent stands.parent whole same))
  ]

  -- the place of a tuple that isn't the child, before
  abbrev old_before : (t : Tid) (b m : List Tid) → before ≡ b ++ t ∷ m → Stands linkage.lists t
  old_before t b m is = record { parent = parent; before = b; after = m ++ (mid ++ after); is = splice.is ∙ ap (λ (l : List Tid). l ++ (mid ++ after)) is ∙ append_assoc b (t ∷ m) (mid ++ after) }

  -- and behind
  abbrev old_after : (t : Tid) (m a : List Tid) → after ≡ m ++ t ∷ a → Stands linkage.lists t
  old_after t m a is = record { parent = parent; before = before ++ (mid ++ m); after = a; is = splice.is ∙ ap (λ (l : List Tid). before ++ (mid ++ l)) is ∙ ap (λ (l : List Tid). before ++ l) (sym (append_assoc mid m (t ∷ a))) ∙ sym (append_assoc before (mid ++ m) (t ∷ a)) }

  -- ---- each tuple stands at one place

  data OldPlace (t : Tid) (stands : Stands lists_now t) : Type 0 where
    other_chain : (old : Stands linkage.lists t) → old.parent ≡ stands.parent → (stands.parent ≡ parent → ⊥) → length old.before ≡ length stands.before → OldPlace t stands
    in_front : (old : Stands linkage.lists t) → old.parent ≡ stands.parent → stands.parent ≡ parent → length old.before ≡ length stands.before → length stands.before < length before → OldPlace t stands
    in_back : (old : Stands linkage.lists t) → old.parent ≡ stands.parent → stands.parent ≡ parent → (k : ℕ) → length old.before ≡ length before + length mid + k → length stands.before ≡ length before + length now + k → OldPlace t stands

  old_place : (t : Tid) → (t ≡ child → ⊥) → (stands : Stands lists_now t) → Place t stands → OldPlace t stands
  old_place t off stands (elsewhere differ is) = other_chain (record { parent = stands.parent; before = stands.before; after = stands.after; is = is }) refl differ refl
  old_place t off stands (in_before same m is) = in_front (old_before t stands.before m is) (sym same) same refl (omega (arith, ap length is, length_cons stands.before t m))
  old_place t off stands (in_now same is_it b a is front back) = absurd (off is_it)
  old_place t off stands (in_after same m is front) =
      in_back (old_after t m stands.after is) (sym same) same (length m)
      (omega (arith, length-append before (mid ++ m), length-append mid m))
      (omega (arith, ap length front, length-append before (now ++ m), length-append now m))

  old_stands : (t : Tid) (stands : Stands lists_now t) → OldPlace t stands → Stands linkage.lists t
  old_stands t stands (other_chain old same off long) = old
  old_stands t stands (in_front old same here long low) = old
  old_stands t stands (in_back old same here k long long_now) = old

  abbrev IsSame : (t : Tid) (one other : Stands lists_now t) → Type 0
  IsSame t one other = (other.parent ≡ one.parent) × (length other.before ≡ length one.before)

  old_once : (t : Tid) (one other : Stands lists_now t) → OldPlace t one → OldPlace t other → IsSame t one other
  old_once t one other (other_chain a is off long) (other_chain b is_too off_too long_too) =
      let once = chains.once t a b in (sym is_too ∙ once.0 ∙ is, omega (arith, once.1, long, long_too))
  old_once t one other (other_chain a is off long) (in_front b is_too here long_too low) = let once = chains.once t a b in absurd (off (sym is ∙ sym once.0 ∙ is_too ∙ here))
  old_once t one other (other_chain a is off long) (in_back b is_too here k long_too long_now) = let once = chains.once t a b in absurd (off (sym is ∙ sym once.0 ∙ is_too ∙ here))
  old_once t one other (in_front a is here long low) (other_chain b is_too off long_too) = let once = chains.once t a b in absurd (off (sym is_too ∙ once.0 ∙ is ∙ here))
  old_once t one other (in_back a is here k long long_now) (other_chain b is_too off long_too) = let once = chains.once t a b in absurd (off (sym is_too ∙ once.0 ∙ is ∙ here))
  old_once t one other (in_front a is here long low) (in_front b is_too here_too long_too low_too) =
      let once = chains.once t a b in (here_too ∙ sym here, omega (arith, once.1, long, long_too))
  old_once t one other (in_front a is here long low) (in_back b is_too here_too k long_too long_now) = let once = chains.once t a b in absurd (omega (arith, once.1, long, low, long_too))
  old_once t one other (in_back a is here k long long_now) (in_front b is_too here_too long_too low) = let once = chains.once t a b in absurd (omega (arith, once.1, long, low, long_too))
  old_once t one other (in_back a is here k long long_now) (in_back b is_too here_too n long_too long_now_too) =
      let once = chains.once t a b in (here_too ∙ sym here, omega (arith, once.1, long, long_now, long_too, long_now_too))

  -- ---- a tuple that stands in no chain stands in none now

  outside_now : (t : Tid) → (t ≡ child → ⊥) → IsOutside linkage.lists t → IsOutside lists_now t
  outside_now t off outside stands = outside (old_stands t stands (old_place t off stands (place t stands)))

  -- ---- the seams

  pub left_stands : (t : Tid) → last_of before ≡ Some t → (old : Stands linkage.lists t) × (old.parent ≡ parent) × (length old.before + 1 ≡ length before)
  left_stands t is = let last = last_is before t is in (old_before t last.0 [] last.1, refl, omega (arith, ap length last.1, length_cons last.0 t []))

  pub right_stands : (t : Tid) → first_of after ≡ Some t → (old : Stands linkage.lists t) × (old.parent ≡ parent) × (length old.before ≡ length before + length mid)
  right_stands t is = let first = first_is after t is in (old_after t [] first.0 first.1, refl, omega (arith, length-append before (mid ++ []), length-append mid []))

  -- a tuple that stands in another chain, or at another place, is at no seam
  not_left : (t : Tid) (stands : Stands linkage.lists t) → (stands.parent ≡ parent → length stands.before + 1 ≡ length before → ⊥) → last_of before ≡ Some t → ⊥
  not_left t stands off is =
      let left = left_stands t is in
      let once = chains.once t left.0 stands in
      off (once.0 ∙ left.1) (omega (arith, once.1, left.2))

  not_right : (t : Tid) (stands : Stands linkage.lists t) → (stands.parent ≡ parent → length stands.before ≡ length before + length mid → ⊥) → first_of after ≡ Some t → ⊥
  not_right t stands off is =
      let right = right_stands t is in
      let once = chains.once t right.0 stands in
      off (once.0 ∙ right.1) (omega (arith, once.1, right.2))

  -- no tuple is at both seams
  pub seams_apart : (t : Tid) → last_of before ≡ Some t → first_of after ≡ Some t → ⊥
  seams_apart t last = let left = left_stands t last in not_right t left.0 (λ same at. omega (arith, at, left.2))

  -- ---- the child in the middle

  -- it stood in no chain, and stands in the middle now
  module _ (outside : IsOutside linkage.lists child) (one_now : length now ≡ 1) where
    in_middle : (stands : Stands lists_now child) → Place child stands → (stands.parent ≡ parent) × (length stands.before ≡ length before)
    in_middle stands (elsewhere off is) = absurd (outside (record { parent = stands.parent; before = stands.before; after = stands.after; is = is }))
    in_middle stands (in_before same m is) = absurd (outside (old_before child stands.before m is))
    in_middle stands (in_now same is_it b a is front back) = (same, omega (arith, one_now, ap length front, length-append before b, ap length is, length_cons b child a))
    in_middle stands (in_after same m is front) = absurd (outside (old_after child m stands.after is))

    pub stands_once : (one other : Stands lists_now child) → IsSame child one other
    stands_once one other =
        let first = in_middle one (place child one) in
        let second = in_middle other (place child other) in
        (second.0 ∙ sym first.0, second.1 ∙ sym first.1)

    pub seams_old : (t : Tid) → (last_of before ≡ Some t) ⊎ (first_of after ≡ Some t) → t ≡ child → ⊥
    seams_old t (inl last) it = outside (left_stands child (last ∙ ap Some it)).0
    seams_old t (inr first) it = outside (right_stands child (first ∙ ap Some it)).0

  -- it stood in the middle, and stands in no chain now
  module _ (is_mid : mid ≡ child ∷ []) (none_now : now ≡ []) where
    abbrev stood : Stands linkage.lists child
    stood = record { parent = parent; before = before; after = after; is = splice.is ∙ ap (λ (l : List Tid). before ++ (l ++ after)) is_mid }

    stood_alone : (stands : Stands lists_now child) → Place child stands → ⊥
    stood_alone stands (elsewhere off is) = off (chains.once child stood (record { parent = stands.parent; before = stands.before; after = stands.after; is = is })).0
    stood_alone stands (in_before same m is) =
        let once = chains.once child stood (old_before child stands.before m is) in
        omega (arith, once.1, ap length is, length_cons stands.before child m)
    stood_alone stands (in_now same is_it b a is front back) = omega (arith, ap length none_now, ap length is, length_cons b child a)
    stood_alone stands (in_after same m is front) =
        let once = chains.once child stood (old_after child m stands.after is) in
        omega (arith, once.1, length-append before (mid ++ m), length-append mid m, ap length is_mid)

    pub stands_nowhere : IsOutside lists_now child
    stands_nowhere stands = stood_alone stands (place child stands)

    pub seams_off : (t : Tid) → (last_of before ≡ Some t) ⊎ (first_of after ≡ Some t) → t ≡ child → ⊥
    seams_off t (inl last) it = not_left child stood (λ same at. omega (arith, at)) (last ∙ ap Some it)
    seams_off t (inr first) it = not_right child stood (λ same at. omega (arith, at, ap length is_mid)) (first ∙ ap Some it)

  -- ---- what all say now

  module _ (says_now : Tid → Standing → Type 0) (keeps : (t : Tid) (standing : Standing) → linkage.children t ≡ true → (t ≡ child → ⊥) → (last_of before ≡ Some t → ⊥) → (first_of after ≡ Some t → ⊥) → says t standing → says_now t standing)
      (at_left : (t : Tid) (p l r : Option Tid) → last_of before ≡ Some t → says t (Within p l r) → says_now t (Within p l (first_of (now ++ after))))
      (at_right : (t : Tid) (p l r : Option Tid) → first_of after ≡ Some t → says t (Within p l r) → says_now t (Within p (last_of (before ++ now)) r)) where
    -- in the front part
    front_placed : (t : Tid) → linkage.children t ≡ true → (t ≡ child → ⊥) → (b m : List Tid) → before ≡ b ++ t ∷ m → IsPlaced says_now lists_now t
    front_placed t is_child off b [] is =
        let says_it = says_within chains t (old_before t b [] is) in
        let last : last_of before ≡ Some t = ap last_of is ∙ last_behind b [] t in
        let here : lists_now parent ≡ b ++ t ∷ (now ++ after) = list_here linkage.lists parent parent whole refl ∙ ap (λ (l : List Tid). l ++ (now ++ after)) is ∙ append_assoc b (t ∷ []) (now ++ after) in
        record {
          standing = Within parent (last_of b) (first_of (now ++ after));
          says_so = at_left t parent (last_of b) _ last says_it;
          is = record { before = b; after = now ++ after; is = here; left = refl; right = refl };
        }
    front_placed t is_child off b (x ∷ m) is =
        let old = old_before t b (x ∷ m) is in
        let says_it = says_within chains t old in
        let long : length before ≡ length b + (length (x ∷ m) + 1) = ap length is ∙ length_cons b t (x ∷ m) in
        let here : lists_now parent ≡ b ++ t ∷ (x ∷ (m ++ (now ++ after))) = list_here linkage.lists parent parent whole refl ∙ ap (λ (l : List Tid). l ++ (now ++ after)) is ∙ append_assoc b (t ∷ (x ∷ m)) (now ++ after) in
        record {
          standing = Within parent (last_of b) (Some x);
          says_so = keeps t _ is_child off (not_left t old (λ same at. omega (arith, at, long))) (not_right t old (λ same at. omega (arith, at, long))) says_it;
          is = record { before = b; after = x ∷ (m ++ (now ++ after)); is = here; left = refl; right = refl };
        }

    -- in the back part
    back_placed : (t : Tid) → linkage.children t ≡ true → (t ≡ child → ⊥) → (m a : List Tid) → after ≡ m ++ t ∷ a → IsPlaced says_now lists_now t
    back_placed t is_child off [] a is =
        let says_it = says_within chains t (old_after t [] a is) in
        let first : first_of after ≡ Some t = ap first_of is in
        let here : lists_now parent ≡ (before ++ now) ++ t ∷ a = list_here linkage.lists parent parent whole refl ∙ ap (λ (l : List Tid). before ++ (now ++ l)) is ∙ sym (append_assoc before now (t ∷ a)) in
        record {
          standing = Within parent (last_of (before ++ now)) (first_of a);
          says_so = at_right t parent _ (first_of a) first says_it;
          is = record { before = before ++ now; after = a; is = here; left = refl; right = refl };
        }
    back_placed t is_child off (x ∷ m) a is =
        let old = old_after t (x ∷ m) a is in
        let says_it = says_within chains t old in
        let long : length old.before ≡ length before + (length mid + (length m + 1)) = omega (arith, length-append before (mid ++ (x ∷ m)), length-append mid (x ∷ m)) in
        let lasts : last_of (before ++ (mid ++ (x ∷ m))) ≡ last_of (before ++ (now ++ (x ∷ m))) = last_two before mid x m ∙ sym (last_two before now x m) in
        let here : lists_now parent ≡ (before ++ (now ++ (x ∷ m))) ++ t ∷ a = list_here linkage.lists parent parent whole refl ∙ ap (λ (l : List Tid). before ++ (now ++ l)) is ∙ ap (λ (l : List Tid). before ++ l) (sym (append_assoc now (x ∷ m) (t ∷ a))) ∙ sym (append_assoc before (now ++ (x ∷ m)) (t ∷ a)) in
        record {
          standing = Within parent (last_of old.before) (first_of a);
          says_so = keeps t _ is_child off (not_left t old (λ same at. omega (arith, at, long))) (not_right t old (λ same at. omega (arith, at, long))) says_it;
          is = record { before = before ++ (now ++ (x ∷ m)); after = a; is = here; left = lasts; right = refl };
        }

    -- in the chain of the parent
    here_placed : (t : Tid) → linkage.children t ≡ true → (t ≡ child → ⊥) → (b a : List Tid) → Cut before (mid ++ after) b a t → IsPlaced says_now lists_now t
    here_placed t is_child off b a (early m is rest) = front_placed t is_child off b m is
    here_placed t is_child off b a (late m is rest) = elim (cut mid after m a t (sym is)) [
      | early n at end ↦ absurd (off (splice.was_child t m n at))
      | late n at end ↦ back_placed t is_child off n a at
    ]

    other_placed : (t : Tid) → linkage.children t ≡ true → (t ≡ child → ⊥) → (standing : Standing) → says t standing → StandsAs linkage.lists t standing → IsPlaced says_now lists_now t
    other_placed t is_child off Outside says_it outside = record {
      standing = Outside;
      says_so = keeps t Outside is_child off (λ last. outside (left_stands t last).0) (λ first. outside (right_stands t first).0) says_it;
      is = outside_now t off outside;
    }
    other_placed t is_child off (Within p l r) says_it is = elim (place_cases p parent) [
      | inr differ ↦
          let old : Stands linkage.lists t = record { parent = p; before = is.before; after = is.after; is = is.is } in
          record {
            standing = Within p l r;
            says_so = keeps t (Within p l r) is_child off (not_left t old (λ same at. differ same)) (not_right t old (λ same at. differ same)) says_it;
            is = record { before = is.before; after = is.after; is = list_off linkage.lists parent p whole differ ∙ is.is; left = is.left; right = is.right };
          }
      | inl same ↦ here_placed t is_child off is.before is.after (cut before (mid ++ after) is.before is.after t (sym is.is ∙ ap linkage.lists same ∙ splice.is))
    ]

    -- ---- the chains now

    module _ (ends_now : Option Tid → Ends → Type 0) (is_parent : IsParent unary linkage.parents parent) (is_child_of : linkage.children child ≡ true) (placed : IsPlaced says_now lists_now child)
        (child_once : (one other : Stands lists_now child) → IsSame child one other)
        (ends_off : (q : Option Tid) (e : Ends) → IsParent unary linkage.parents q → (q ≡ parent → ⊥) → ends q e → ends_now q e)
        (ends_here : ends_now parent (ends_of whole)) where
      each_now : (t : Tid) → linkage.children t ≡ true → IsPlaced says_now lists_now t
      each_now t is_child = elim (tid_cases t child) [
        | inl same ↦ subst (λ (x : Tid). IsPlaced says_now lists_now x) (sym same) placed
        | inr off ↦ let was = chains.each t is_child in other_placed t is_child off was.standing was.says_so was.is
      ]

      ends_each : (q : Option Tid) → IsParent unary linkage.parents q → ends_now q (ends_of (lists_now q))
      ends_each q is_one = elim (place_cases q parent) [
        | inl same ↦ subst (λ (l : List Tid). ends_now q (ends_of l)) (sym (list_here linkage.lists parent q whole same)) (subst (λ (p : Option Tid). ends_now p (ends_of whole)) (sym same) ends_here)
        | inr off ↦ subst (λ (l : List Tid). ends_now q (ends_of l)) (sym (list_off linkage.lists parent q whole off)) (ends_off q (ends_of (linkage.lists q)) is_one off (chains.ends q is_one))
      ]

      children_each : (t : Tid) (stands : Stands lists_now t) → linkage.children t ≡ true
      children_each t stands = elim (tid_cases t child) [
        | inl same ↦ ap linkage.children same ∙ is_child_of
        | inr off ↦ chains.children t (old_stands t stands (old_place t off stands (place t stands)))
      ]

      parents_each : (t : Tid) (stands : Stands lists_now t) → Place t stands → IsParent unary linkage.parents stands.parent
      parents_each t stands (elsewhere off is) = chains.parents t (record { parent = stands.parent; before = stands.before; after = stands.after; is = is })
      parents_each t stands (in_before same m is) = subst (λ (p : Option Tid). IsParent unary linkage.parents p) (sym same) is_parent
      parents_each t stands (in_now same is_it b a is front back) = subst (λ (p : Option Tid). IsParent unary linkage.parents p) (sym same) is_parent
      parents_each t stands (in_after same m is front) = subst (λ (p : Option Tid). IsParent unary linkage.parents p) (sym same) is_parent

      once_each : (t : Tid) (one other : Stands lists_now t) → IsSame t one other
      once_each t one other = elim (tid_cases t child) [
        | inl same ↦ once_same t same one other
        | inr off ↦ old_once t one other (old_place t off one (place t one)) (old_place t off other (place t other))
      ]
        where
          once_same : (x : Tid) → x ≡ child → (a b : Stands lists_now x) → IsSame x a b
          once_same x same = subst (λ (y : Tid). (a b : Stands lists_now y) → IsSame y a b) (sym same) child_once

      pub spliced : AreChains unary says_now ends_now (relinked linkage parent whole)
      spliced = record {
        each = each_now;
        ends = ends_each;
        children = children_each;
        parents = λ t stands. parents_each t stands (place t stands);
        once = once_each;
      }
