-- Chains are spelled exactly where the bodies have the blocks of their lists.
use Rattle.std.proofs.Common.{◌≡◌, inl, inr, ℕ, Bool, true, false, List, [], ◌∷◌, ◌++◌, length, Option, Some, None, refl, sym, ◌∙◌, ap, subst, append_assoc}
use Rattle.std.specs.Prelude.{suc}
use Rattle.std.proofs.lemmas.Bool.{cases_Bool, cond-true, cond-false}
use Rattle.rss_base.specs.Prefixes.{Neighbours, Ends, is_tid, first_of, last_of, ends_of, neighbours_from, neighbours_in, member_block}
use Rattle.rss_base.specs.declared.tid.Tid.{Tid}
use Rattle.rss_tuple.specs.Directory.{Bodies}
use Rattle.rss_model.specs.Chains.{stands_in, StandOnce}
use Rattle.rss_link.specs.declared.link.Chains.{Chains}
use Rattle.rss_link.specs.declared.blocks.Standing.{Standing}
use Rattle.rss_link.specs.declared.blocks.Standing.TheVariants.{Outside, Within}
use Rattle.rss_link.specs.Blocks.{IsPointer, IsStanding, HasBytes, HasStanding, standing_bytes, neighbours}
use Rattle.rss_link.specs.Chains.{Linkage, Stands, StandsAs, StandsBetween, IsParent, IsPlaced}
use Rattle.rss_link.specs.Links.{Says, SaysEnds, SpellChains}
use Rattle.rss_link.specs.Prefixed.{within, outside, IsLowerBlock, BodyHas, HaveBlocks, AreLists, IsPrefixed}
use Rattle.rss_link.proofs.Lists.{last_from, last_is_from, last_is, first_is, false_true, never_some, some_one}
use Rattle.rss_link.proofs.Connected.{place_named}
use Rattle.rss_link.proofs.Coming.{as_parent_of}
use Rattle.rss_link.proofs.Operations.{IsNotIn, is_tid-itself, is_tid-true, is_tid-off, not_first, not_rest, split_at, stands_there, in_chain, chain_has, stands_under, not_behind, neighbours_are}
use Rattle.rss_link.proofs.Puts.{some_parent}
use Rattle.std.proofs.lemmas.List.{append-nil}

-- ---- neighbours in a list

-- a tuple that isn't in a list has no neighbours there
nowhere : (t : Tid) (previous : Option Tid) (xs : List Tid) → IsNotIn t xs → neighbours_from previous xs t ≡ None
nowhere t previous [] off = refl
nowhere t previous (x ∷ xs) off =
    cond-false (is_tid x t) (Some (neighbours previous (first_of xs))) (neighbours_from (Some x) xs t) (is_tid-off x t (not_first t x xs off))
    ∙ nowhere t (Some x) xs (not_rest t x xs off)

-- and one that is there has some
somewhere : (t : Tid) (previous : Option Tid) (before after : List Tid) → neighbours_from previous (before ++ t ∷ after) t ≡ None → ⊥
somewhere t previous [] after none = never_some (neighbours previous (first_of after)) _ none (cond-true (is_tid t t) (Some (neighbours previous (first_of after))) (neighbours_from (Some t) after t) (is_tid-itself t))
somewhere t previous (x ∷ before) after none = elim (cases_Bool (is_tid x t)) [
  | inl same ↦ never_some (neighbours previous (first_of (before ++ t ∷ after))) _ none (cond-true (is_tid x t) (Some (neighbours previous (first_of (before ++ t ∷ after)))) (neighbours_from (Some x) (before ++ t ∷ after) t) same)
  | inr differ ↦ somewhere t (Some x) before after (sym (cond-false (is_tid x t) (Some (neighbours previous (first_of (before ++ t ∷ after)))) (neighbours_from (Some x) (before ++ t ∷ after) t) differ) ∙ none)
]

record IsBetween (t : Tid) (previous : Option Tid) (xs : List Tid) (n : Neighbours) : Type 0 where
  before : List Tid
  after : List Tid
  is : xs ≡ before ++ t ∷ after
  left : n.previous ≡ last_from previous before
  right : n.next ≡ first_of after

between : (t : Tid) (previous : Option Tid) (xs : List Tid) (n : Neighbours) → neighbours_from previous xs t ≡ Some n → IsBetween t previous xs n
between t previous [] n is = absurd (never_some n None refl is)
between t previous (x ∷ xs) n is = elim (cases_Bool (is_tid x t)) [
  | inl same ↦
      let one : neighbours previous (first_of xs) ≡ n = some_one _ n (sym (cond-true (is_tid x t) (Some (neighbours previous (first_of xs))) (neighbours_from (Some x) xs t) same) ∙ is) in
      record { before = []; after = xs; is = ap (λ (y : Tid). y ∷ xs) (is_tid-true x t same); left = ap (λ (m : Neighbours). m.previous) (sym one); right = ap (λ (m : Neighbours). m.next) (sym one) }
  | inr differ ↦
      let rest = between t (Some x) xs n (sym (cond-false (is_tid x t) (Some (neighbours previous (first_of xs))) (neighbours_from (Some x) xs t) differ) ∙ is) in
      record { before = x ∷ rest.before; after = rest.after; is = ap (λ (l : List Tid). x ∷ l) rest.is; left = rest.left; right = rest.right }
]

-- ---- tuples that stand once

pub stand_once : (xs : List Tid) → ((b : List Tid) (t : Tid) (a : List Tid) → xs ≡ b ++ t ∷ a → stands_in t a ≡ false) → StandOnce xs
stand_once [] off = tt
stand_once (x ∷ xs) off = (off [] x xs refl, stand_once xs (λ b t a is. off (x ∷ b) t a (ap (λ (l : List Tid). x ∷ l) is)))

pub not_there : (t : Tid) (xs : List Tid) → IsNotIn t xs → stands_in t xs ≡ false
not_there t xs off = elim (cases_Bool (stands_in t xs)) [
  | inl there ↦ let split = split_at t xs there in absurd (off split.before split.after split.is)
  | inr none ↦ none
]

tails : (x y : Tid) (xs ys : List Tid) → x ∷ xs ≡ y ∷ ys → (x ≡ y) × (xs ≡ ys)
tails x y xs ys is = (cc, cc)

pub one_place : (t : Tid) (xs b a b_too a_too : List Tid) → StandOnce xs → xs ≡ b ++ t ∷ a → xs ≡ b_too ++ t ∷ a_too → length b_too ≡ length b
one_place t [] [] a b_too a_too once is is_too = absurd (cc)
one_place t [] (y ∷ b) a b_too a_too once is is_too = absurd (cc)
one_place t (x ∷ xs) [] a [] a_too once is is_too = refl
one_place t (x ∷ xs) [] a (y ∷ b_too) a_too once is is_too =
    let one = tails x t xs a is in
    let two = tails x y xs (b_too ++ t ∷ a_too) is_too in
    absurd (false_true (stands_in x xs) once.0 (ap (stands_in x) two.1 ∙ ap (λ (z : Tid). stands_in z (b_too ++ t ∷ a_too)) one.0 ∙ stands_there t b_too a_too))
one_place t (x ∷ xs) (y ∷ b) a [] a_too once is is_too =
    let one = tails x y xs (b ++ t ∷ a) is in
    let two = tails x t xs a_too is_too in
    absurd (false_true (stands_in x xs) once.0 (ap (stands_in x) one.1 ∙ ap (λ (z : Tid). stands_in z (b ++ t ∷ a)) two.0 ∙ stands_there t b a))
one_place t (x ∷ xs) (y ∷ b) a (z ∷ b_too) a_too once is is_too = ap suc (one_place t xs b a b_too a_too once.1 (tails x y xs (b ++ t ∷ a) is).1 (tails x z xs (b_too ++ t ∷ a_too) is_too).1)

-- ---- from chains to blocks

pub only_none : (unary : Bool) (parents : Tid → Bool) (parent : Option Tid) → unary ≡ true → IsParent unary parents parent → parent ≡ None
only_none true parents None kind is = refl
only_none true parents (Some parent) kind is = absurd is
only_none false parents parent kind is = absurd (false_true false refl kind)

pub none_parent : (unary : Bool) (parents : Tid → Bool) → unary ≡ true → IsParent unary parents None
none_parent true parents kind = tt
none_parent false parents kind = absurd (false_true false refl kind)

is_unary : (unary : Bool) (parents : Tid → Bool) → IsParent unary parents None → unary ≡ true
is_unary true parents is = refl
is_unary false parents is = absurd is

module _ {link : Chains} {kept : Ends} {bodies : Bodies} {linkage : Linkage} (spells : SpellChains link kept bodies linkage) where
  stands_between : (t : Tid) (p l r : Option Tid) → StandsBetween linkage.lists t p l r → neighbours_in (linkage.lists p) t ≡ Some (neighbours l r)
  stands_between t p l r is =
      neighbours_are spells {parent = p} {t = t} (record { before = is.before; after = is.after; is = is.is })
      ∙ (λ i. Some (neighbours (sym is.left i) (sym is.right i)))

  lower_block : (unary : Bool) (t : Tid) (standing : Standing) → IsStanding unary standing → StandsAs linkage.lists t standing → IsLowerBlock unary linkage.lists t (standing_bytes unary standing)
  lower_block true t Outside fits is = ap member_block (sym (nowhere t None (linkage.lists None) (λ b a at. is (record { parent = None; before = b; after = a; is = at }))))
  lower_block true t (Within p l r) fits is = ap member_block (sym (ap (λ (q : Option Tid). neighbours_in (linkage.lists q) t) (sym fits.0) ∙ stands_between t p l r is))
  lower_block false t Outside fits is = outside is refl
  lower_block false t (Within None l r) fits is = let never : false ≡ true = fits.0 in absurd (false_true false refl never)
  lower_block false t (Within (Some p) l r) fits is = within p (neighbours l r) (stands_between t (Some p) l r is) refl

  blocks_there : HaveBlocks link kept bodies linkage
  blocks_there = record {
    children = λ t is.
        let placed = spells.chains.each t is in
        let says = placed.says_so in
        record {
          bytes = standing_bytes link.unary placed.standing;
          is = lower_block link.unary t placed.standing says.block.fits placed.is;
          has = record { body = says.body; there = says.there; has = says.block.bytes };
        };
    parents = λ parent kind is.
        let says = spells.chains.ends (Some parent) (as_parent_of link.unary linkage.parents parent kind is) in
        record { body = says.body; there = says.there; has = says.block.bytes };
    kept = λ kind. spells.chains.ends None (none_parent link.unary linkage.parents kind);
  }

  lists_there : AreLists link.unary linkage
  lists_there = record {
    children = λ parent t there. spells.chains.children t (stands_under (in_chain linkage.lists parent t there));
    parents = λ parent t there. spells.chains.parents t (stands_under (in_chain linkage.lists parent t there));
    alone = λ one other t there there_too. (spells.chains.once t (stands_under (in_chain linkage.lists other t there_too)) (stands_under (in_chain linkage.lists one t there))).0;
    once = λ parent. stand_once (linkage.lists parent) (λ b t a is. not_there t a (not_behind spells t (record { parent = parent; before = b; after = a; is = is })));
  }

  pub prefixed : IsPrefixed link kept bodies linkage
  prefixed = record { named = spells.named; apart = spells.apart; lists = lists_there; blocks = blocks_there }

-- ---- from blocks to chains

module _ {link : Chains} {kept : Ends} {bodies : Bodies} {linkage : Linkage} (is_prefixed : IsPrefixed link kept bodies linkage) where
  has_child : (t : Tid) (stands : Stands linkage.lists t) → stands_in t (linkage.lists stands.parent) ≡ true
  has_child t stands = chain_has linkage.lists stands.parent t (record { before = stands.before; after = stands.after; is = stands.is })

  one_named : (parent : Option Tid) (b : List Tid) (t : Tid) (a : List Tid) → linkage.lists parent ≡ b ++ t ∷ a → IsPointer (Some t)
  one_named parent b t a is = is_prefixed.named.children t (is_prefixed.lists.children parent t (chain_has linkage.lists parent t (record { before = b; after = a; is = is })))

  first_named : (parent : Option Tid) (b after : List Tid) → linkage.lists parent ≡ b ++ after → IsPointer (first_of after)
  first_named parent b after is = place_named (first_of after) (λ t first. let rest = first_is after t first in one_named parent b t rest.0 (is ∙ ap (λ (l : List Tid). b ++ l) rest.1))

  last_named : (parent : Option Tid) (before a : List Tid) → linkage.lists parent ≡ before ++ a → IsPointer (last_of before)
  last_named parent before a is = place_named (last_of before) (λ t last. let front = last_is before t last in one_named parent front.0 t a (is ∙ ap (λ (l : List Tid). l ++ a) front.1 ∙ append_assoc front.0 (t ∷ []) a))

  -- where the block of a child tells of its neighbours
  placed_between : (t : Tid) (parent : Option Tid) (n : Neighbours) → neighbours_in (linkage.lists parent) t ≡ Some n → StandsBetween linkage.lists t parent n.previous n.next
  placed_between t parent n is =
      let at = between t None (linkage.lists parent) n is in
      record { before = at.before; after = at.after; is = at.is; left = at.left ∙ sym (last_is_from at.before); right = at.right }

  between_named : (t : Tid) (parent l r : Option Tid) → StandsBetween linkage.lists t parent l r → IsPointer l × IsPointer r
  between_named t parent l r is = (
    subst IsPointer (sym is.left) (last_named parent is.before (t ∷ is.after) is.is),
    subst IsPointer (sym is.right) (first_named parent (is.before ++ t ∷ []) is.after (is.is ∙ sym (append_assoc is.before (t ∷ []) is.after))),
  )

  module _ (t : Tid) (bytes : List ℕ) (has : BodyHas bodies link.child_segment t link.child_at bytes) where
    says_bytes : (unary : Bool) → link.unary ≡ unary → (standing : Standing) → bytes ≡ standing_bytes unary standing → IsStanding unary standing → StandsAs linkage.lists t standing → IsPlaced (Says link bodies) linkage.lists t
    says_bytes unary kind standing is fits stands = record {
      standing = standing;
      says_so = record {
        body = has.body;
        there = has.there;
        block = subst (λ (u : Bool). HasStanding u has.body link.child_at standing) (sym kind) (record { bytes = subst (λ (b : List ℕ). HasBytes has.body link.child_at b) is has.has; fits = fits });
      };
      is = stands;
    }

    member_placed : link.unary ≡ true → (found : Option Neighbours) → neighbours_in (linkage.lists None) t ≡ found → bytes ≡ member_block found → IsPlaced (Says link bodies) linkage.lists t
    member_placed kind None none is = says_bytes true kind Outside is tt (λ stands.
        let only = only_none link.unary linkage.parents stands.parent kind (is_prefixed.lists.parents stands.parent t (has_child t stands)) in
        somewhere t None stands.before stands.after (ap (λ (l : List Tid). neighbours_in l t) (sym (sym (ap linkage.lists only) ∙ stands.is)) ∙ none))
    member_placed kind (Some n) some is =
        let there = placed_between t None n some in
        let named = between_named t None n.previous n.next there in
        says_bytes true kind (Within None n.previous n.next) is (refl, tt, named.0, named.1) there

    child_placed : link.unary ≡ false → IsLowerBlock false linkage.lists t bytes → IsPlaced (Says link bodies) linkage.lists t
    child_placed kind (outside off is) = says_bytes false kind Outside is tt off
    child_placed kind (within parent n some is) =
        let there = placed_between t (Some parent) n some in
        let named = between_named t (Some parent) n.previous n.next there in
        let role = some_parent link.unary linkage.parents parent (is_prefixed.lists.parents (Some parent) t (chain_has linkage.lists (Some parent) t (record { before = there.before; after = there.after; is = there.is }))) in
        says_bytes false kind (Within (Some parent) n.previous n.next) is (refl, is_prefixed.named.parents parent role.1, named.0, named.1) there

    lower_placed : (unary : Bool) → link.unary ≡ unary → IsLowerBlock unary linkage.lists t bytes → IsPlaced (Says link bodies) linkage.lists t
    lower_placed true kind is = member_placed kind (neighbours_in (linkage.lists None) t) refl is
    lower_placed false kind is = child_placed kind is

  ends_said : (parent : Option Tid) → IsParent link.unary linkage.parents parent → SaysEnds link kept bodies parent (ends_of (linkage.lists parent))
  ends_said None is = is_prefixed.blocks.kept (is_unary link.unary linkage.parents is)
  ends_said (Some parent) is =
      let role = some_parent link.unary linkage.parents parent is in
      let has = is_prefixed.blocks.parents parent role.0 role.1 in
      record {
        body = has.body;
        there = has.there;
        block = record {
          bytes = has.has;
          fits = record { first = first_named (Some parent) [] (linkage.lists (Some parent)) refl; last = last_named (Some parent) (linkage.lists (Some parent)) [] (sym (append-nil (linkage.lists (Some parent)))) };
        };
      }

  pub spelled : SpellChains link kept bodies linkage
  spelled = record {
    named = is_prefixed.named;
    apart = is_prefixed.apart;
    chains = record {
      each = λ t is. let block = is_prefixed.blocks.children t is in lower_placed t block.bytes block.has link.unary refl block.is;
      ends = ends_said;
      children = λ t stands. is_prefixed.lists.children stands.parent t (has_child t stands);
      parents = λ t stands. is_prefixed.lists.parents stands.parent t (has_child t stands);
      once = λ t one other.
          let same : other.parent ≡ one.parent = is_prefixed.lists.alone other.parent one.parent t (has_child t other) (has_child t one) in
          (same, one_place t (linkage.lists one.parent) one.before one.after other.before other.after (is_prefixed.lists.once one.parent) one.is (sym (ap linkage.lists same) ∙ other.is));
    };
  }
