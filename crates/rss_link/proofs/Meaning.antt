-- What is read from the blocks of a link is so in the chains that they spell.
use Rattle.std.proofs.Common.{◌≡◌, ℕ, Bool, true, false, List, [], ◌∷◌, ◌++◌, Option, Some, None, refl, sym, ◌∙◌, ap, subst, append_assoc}
use Rattle.rss_base.specs.declared.tid.Tid.{Tid}
use Rattle.rss_tuple.specs.Directory.{Bodies}
use Rattle.rss_link.specs.declared.link.Chains.{Chains}
use Rattle.rss_base.specs.Prefixes.{Ends, parent_block, first_of, last_of, ends_of}
use Rattle.rss_link.specs.declared.blocks.Standing.{Standing}
use Rattle.rss_link.specs.declared.blocks.Standing.TheVariants.{Outside, Within}
use Rattle.rss_link.specs.Blocks.{HasStanding, HasEnds, standing_bytes, child_size}
use Rattle.rss_link.specs.Chains.{Lists, Linkage, Stands, StandsAs, StandsBetween, IsOutside, IsParent, AreChains}
use Rattle.rss_link.specs.Links.{Says, SaysEnds, SpellChains, SameBlocks}
use Rattle.rss_link.specs.Calls.{Follows, IsChildOf, IsTheOne}
use Rattle.rss_link.specs.Edits.{SaysSome}
use Rattle.rss_link.proofs.BlockBytes.{one_standing, one_ends, has_bytes, bytes_had, length-standing_bytes, length-parent_block}
use Rattle.rss_link.proofs.Lists.{first_is, last_is, last_behind, same_place, never_some, some_one}

-- ---- a body says one thing

pub says_one : (link : Chains) (bodies : Bodies) (t : Tid) (a b : Standing) → Says link bodies t a → Says link bodies t b → a ≡ b
says_one link bodies t a b one two =
    let same : one.body ≡ two.body = some_one _ _ (sym one.there ∙ two.there) in
    one_standing link.unary two.body link.child_at a b (subst (λ (body : List ℕ). HasStanding link.unary body link.child_at a) same one.block) two.block

pub ends_one : (link : Chains) (kept : Ends) (bodies : Bodies) (parent : Option Tid) (a b : Ends) → SaysEnds link kept bodies parent a → SaysEnds link kept bodies parent b → a ≡ b
ends_one link kept bodies None a b one two = sym one ∙ two
ends_one link kept bodies (Some parent) a b one two =
    let same : one.body ≡ two.body = some_one _ _ (sym one.there ∙ two.there) in
    one_ends two.body link.parent_at a b (subst (λ (body : List ℕ). HasEnds body link.parent_at a) same one.block) two.block

-- ---- where a child stands

module _ {unary : Bool} {says : Tid → Standing → Type 0} {says_ends : Option Tid → Ends → Type 0} {linkage : Linkage} (chains : AreChains unary says says_ends linkage) where
  says_so : (t : Tid) (stands : Stands linkage.lists t) (standing : Standing) → says t standing → StandsAs linkage.lists t standing
      → says t (Within stands.parent (last_of stands.before) (first_of stands.after))
  says_so t stands Outside says_it is = absurd (is stands)
  says_so t stands (Within p l r) says_it is =
      let other : Stands linkage.lists t = record { parent = p; before = is.before; after = is.after; is = is.is } in
      let once = chains.once t stands other in
      let parts = same_place linkage.lists t stands other once.0 once.1 in
      let left : l ≡ last_of stands.before = is.left ∙ ap last_of parts.0 in
      let right : r ≡ first_of stands.after = is.right ∙ ap first_of parts.1 in
      subst (λ (s : Standing). says t s) (λ i. Within (once.0 i) (left i) (right i)) says_it

  pub says_within : (t : Tid) (stands : Stands linkage.lists t) → says t (Within stands.parent (last_of stands.before) (first_of stands.after))
  says_within t stands = let placed = chains.each t (chains.children t stands) in says_so t stands placed.standing placed.says_so placed.is

  module _ (t : Tid) (p l r : Option Tid) (is : StandsBetween linkage.lists t p l r) where
    abbrev stands_here : Stands linkage.lists t
    stands_here = record { parent = p; before = is.before; after = is.after; is = is.is }

    pub after_within : IsTheOne (λ next. Follows linkage.lists t next) r
    after_within next = (
      (λ found. let rest = first_is is.after next (sym is.right ∙ found) in
          record { parent = p; before = is.before; after = rest.0; is = is.is ∙ ap (λ (l : List Tid). is.before ++ t ∷ l) rest.1 }),
      (λ follows.
          let other : Stands linkage.lists t = record { parent = follows.parent; before = follows.before; after = next ∷ follows.after; is = follows.is } in
          let once = chains.once t stands_here other in
          let parts = same_place linkage.lists t stands_here other once.0 once.1 in
          is.right ∙ ap first_of (sym parts.1)),
    )

    pub before_within : IsTheOne (λ previous. Follows linkage.lists previous t) l
    before_within previous = (
      (λ found. let front = last_is is.before previous (sym is.left ∙ found) in
          record { parent = p; before = front.0; after = is.after; is = is.is ∙ ap (λ (l : List Tid). l ++ t ∷ is.after) front.1 ∙ append_assoc front.0 (previous ∷ []) (t ∷ is.after) }),
      (λ follows.
          let other : Stands linkage.lists t = record { parent = follows.parent; before = follows.before ++ previous ∷ []; after = follows.after; is = follows.is ∙ sym (append_assoc follows.before (previous ∷ []) (t ∷ follows.after)) } in
          let once = chains.once t stands_here other in
          let parts = same_place linkage.lists t stands_here other once.0 once.1 in
          is.left ∙ ap last_of (sym parts.0) ∙ last_behind follows.before [] previous),
    )

    pub parent_within : IsTheOne (λ parent. IsChildOf linkage.lists (Some parent) t) p
    parent_within parent = (
      (λ found. record { before = is.before; after = is.after; is = ap linkage.lists (sym found) ∙ is.is }),
      (λ child.
          let other : Stands linkage.lists t = record { parent = Some parent; before = child.before; after = child.after; is = child.is } in
          sym (chains.once t stands_here other).0),
    )

module _ (lists : Lists) (t : Tid) (outside : IsOutside lists t) where
  pub after_outside : IsTheOne (λ next. Follows lists t next) None
  after_outside next = (
    (λ found. absurd (never_some next None refl found)),
    (λ follows. absurd (outside (record { parent = follows.parent; before = follows.before; after = next ∷ follows.after; is = follows.is }))),
  )

  pub before_outside : IsTheOne (λ previous. Follows lists previous t) None
  before_outside previous = (
    (λ found. absurd (never_some previous None refl found)),
    (λ follows. absurd (outside (record { parent = follows.parent; before = follows.before ++ previous ∷ []; after = follows.after; is = follows.is ∙ sym (append_assoc follows.before (previous ∷ []) (t ∷ follows.after)) }))),
  )

  pub parent_outside : IsTheOne (λ parent. IsChildOf lists (Some parent) t) None
  parent_outside parent = (
    (λ found. absurd (never_some parent None refl found)),
    (λ child. absurd (outside (record { parent = Some parent; before = child.before; after = child.after; is = child.is }))),
  )

-- ---- what was read

module _ {link : Chains} {ends : Ends} {bodies : Bodies} {linkage : Linkage} (spells : SpellChains link ends bodies linkage) where
  -- a child stands as its body says
  pub stands_as : (t : Tid) (standing : Standing) → linkage.children t ≡ true → Says link bodies t standing → StandsAs linkage.lists t standing
  stands_as t standing is_child says =
      let placed = spells.chains.each t is_child in
      subst (λ (s : Standing). StandsAs linkage.lists t s) (says_one link bodies t placed.standing standing placed.says_so says) placed.is

  pub stands_by : (t : Tid) (found standing : Standing) → found ≡ standing → linkage.children t ≡ true → Says link bodies t found → StandsAs linkage.lists t standing
  stands_by t found standing is is_child says = stands_as t standing is_child (subst (λ (s : Standing). Says link bodies t s) is says)

  pub says_some : (t : Tid) → linkage.children t ≡ true → SaysSome link bodies t
  says_some t is_child = let placed = spells.chains.each t is_child in record { standing = placed.standing; says = placed.says_so }

  -- the ends of a chain are those that are said
  pub ends_as : (parent : Option Tid) (found : Ends) → IsParent link.unary linkage.parents parent → SaysEnds link ends bodies parent found → found ≡ ends_of (linkage.lists parent)
  ends_as parent found is_parent says = ends_one link ends bodies parent found (ends_of (linkage.lists parent)) says (spells.chains.ends parent is_parent)

-- ---- bodies spell the chains in one way

-- each of the list says that it stands there in the chain of a parent
abbrev pub SayTheir : Chains → Bodies → Option Tid → List Tid → Type 0
SayTheir link bodies parent list = (before after : List Tid) (t : Tid) → list ≡ before ++ t ∷ after
    → Says link bodies t (Within parent (last_of before) (first_of after))

-- two lists that begin with the same tuple are one
pub same_list : (link : Chains) (bodies : Bodies) (parent : Option Tid) (one other : List Tid) → SayTheir link bodies parent one → SayTheir link bodies parent other
    → (before xs ys : List Tid) → one ≡ before ++ xs → other ≡ before ++ ys → first_of xs ≡ first_of ys → xs ≡ ys
same_list link bodies parent one other say say_too before [] [] is is_too same = refl
same_list link bodies parent one other say say_too before [] (y ∷ ys) is is_too same = absurd (never_some y None refl same)
same_list link bodies parent one other say say_too before (x ∷ xs) [] is is_too same = absurd (never_some x None refl (sym same))
same_list link bodies parent one other say say_too before (x ∷ xs) (y ∷ ys) is is_too same =
    let heads : x ≡ y = cc in
    let here : other ≡ before ++ x ∷ ys = is_too ∙ ap (λ (t : Tid). before ++ t ∷ ys) (sym heads) in
    let both : Within parent (last_of before) (first_of xs) ≡ Within parent (last_of before) (first_of ys) = says_one link bodies x _ _ (say before xs x is) (say_too before ys x here) in
    let next : first_of xs ≡ first_of ys = cc in
    let tails : xs ≡ ys = same_list link bodies parent one other say say_too (before ++ x ∷ []) xs ys (is ∙ sym (append_assoc before (x ∷ []) xs)) (here ∙ sym (append_assoc before (x ∷ []) ys)) next in
    λ i. heads i ∷ tails i

-- chains that are spelled say so
pub say_their : {link : Chains} {kept : Ends} {bodies : Bodies} {linkage : Linkage} → SpellChains link kept bodies linkage → (parent : Option Tid) → SayTheir link bodies parent (linkage.lists parent)
say_their spells parent before after t is = says_within spells.chains t (record { parent = parent; before = before; after = after; is = is })

module _ (link : Chains) (kept : Ends) (bodies : Bodies) (one other : Linkage) (spells : SpellChains link kept bodies one) (spells_too : SpellChains link kept bodies other) (parent : Option Tid) where
  by_ends : (xs ys : List Tid) → one.lists parent ≡ xs → other.lists parent ≡ ys → IsParent link.unary one.parents parent → IsParent link.unary other.parents parent → ys ≡ xs
  by_ends xs ys is is_too is_parent is_parent_too =
      let same : ends_of (one.lists parent) ≡ ends_of (other.lists parent) = ends_one link kept bodies parent _ _ (spells.chains.ends parent is_parent) (spells_too.chains.ends parent is_parent_too) in
      sym (same_list link bodies parent (one.lists parent) (other.lists parent) (say_their spells parent) (say_their spells_too parent) [] xs ys is is_too (ap first_of (sym is) ∙ ap (λ (e : Ends). e.first) same ∙ ap first_of is_too))

  both_lists : other.parents ≡ one.parents → (xs ys : List Tid) → one.lists parent ≡ xs → other.lists parent ≡ ys → ys ≡ xs
  both_lists parents [] [] is is_too = refl
  both_lists parents (x ∷ xs) ys is is_too =
      let is_parent : IsParent link.unary one.parents parent = spells.chains.parents x (record { parent = parent; before = []; after = xs; is = is }) in
      by_ends (x ∷ xs) ys is is_too is_parent (subst (λ (p : Tid → Bool). IsParent link.unary p parent) (sym parents) is_parent)
  both_lists parents [] (y ∷ ys) is is_too =
      let is_parent : IsParent link.unary other.parents parent = spells_too.chains.parents y (record { parent = parent; before = []; after = ys; is = is_too }) in
      by_ends [] (y ∷ ys) is is_too (subst (λ (p : Tid → Bool). IsParent link.unary p parent) parents is_parent) is_parent

  pub one_meaning : other.parents ≡ one.parents → other.lists parent ≡ one.lists parent
  one_meaning parents = both_lists parents (one.lists parent) (other.lists parent) refl refl

-- ---- the blocks alone matter

module _ (link : Chains) (kept : Ends) (old new : Bodies) (linkage : Linkage) (same : SameBlocks link linkage old new) where
  says_still : (t : Tid) (standing : Standing) → linkage.children t ≡ true → Says link old t standing → Says link new t standing
  says_still t standing is_child says =
      let now = same.of_children t is_child says.body says.there in
      record {
        body = now.0;
        there = now.1;
        block = record {
          bytes = has_bytes now.0 link.child_at (child_size link.unary) (standing_bytes link.unary standing) (length-standing_bytes link.unary standing) (now.2 ∙ bytes_had says.body link.child_at (child_size link.unary) (standing_bytes link.unary standing) (length-standing_bytes link.unary standing) says.block.bytes);
          fits = says.block.fits;
        };
      }

  ends_still : (unary : Bool) → link.unary ≡ unary → (parent : Option Tid) (ends : Ends) → IsParent unary linkage.parents parent → SaysEnds link kept old parent ends → SaysEnds link kept new parent ends
  ends_still true kind None ends is_parent says = says
  ends_still true kind (Some parent) ends is_parent says = absurd is_parent
  ends_still false kind None ends is_parent says = absurd is_parent
  ends_still false kind (Some parent) ends is_parent says =
      let now = same.of_parents parent kind is_parent says.body says.there in
      record {
        body = now.0;
        there = now.1;
        block = record {
          bytes = has_bytes now.0 link.parent_at 12 (parent_block ends) (length-parent_block ends) (now.2 ∙ bytes_had says.body link.parent_at 12 (parent_block ends) (length-parent_block ends) says.block.bytes);
          fits = says.block.fits;
        };
      }

  pub still_spells : SpellChains link kept old linkage → SpellChains link kept new linkage
  still_spells spells = record {
    named = spells.named;
    apart = spells.apart;
    chains = record {
      each = λ t is_child. let placed = spells.chains.each t is_child in record { standing = placed.standing; says_so = says_still t placed.standing is_child placed.says_so; is = placed.is };
      ends = λ parent is_parent. ends_still link.unary refl parent _ is_parent (spells.chains.ends parent is_parent);
      children = spells.chains.children;
      parents = spells.chains.parents;
      once = spells.chains.once;
    };
  }
