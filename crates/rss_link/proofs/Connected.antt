-- How a child is put into a chain, and how it is taken out, body by body.
use Rattle.std.proofs.Common.{◌≡◌, ◌⊎◌, Bool, true, List, [], ◌∷◌, ◌++◌, length, Option, Some, None, refl, sym, ◌∙◌, ap, subst, arith}
use Rattle.rss_base.specs.Steps.{no_page}
use Rattle.rss_base.specs.declared.tid.Tid.{Tid}
use Rattle.rss_tuple.specs.Directory.{Bodies}
use Rattle.rss_tuple.specs.TupleSteps.{TuplesView, no_tuple}
use Rattle.rss_link.specs.declared.link.Chains.{Chains}
use Rattle.rss_base.specs.Prefixes.{Ends, first_of, last_of}
use Rattle.rss_link.specs.declared.blocks.Standing.TheVariants.{Outside, Within}
use Rattle.rss_link.specs.declared.blocks.Pointer.TheVariants.{Next, Previous}
use Rattle.rss_link.specs.Blocks.{IsPointer, IsStanding}
use Rattle.rss_link.specs.Chains.{Linkage, Stands, IsOutside, IsParent, with_list, relinked}
use Rattle.rss_link.specs.Links.{Says, AreApart, SpellChains, KeepBodies}
use Rattle.rss_link.specs.Calls.{LinkView, seen_with, TellsBodies, spot, Relinks}
use Rattle.rss_link.specs.Edits.{FindsNext, HasPointer, IsTurnOf, turn, Restates, Turns}
use Rattle.rss_link.proofs.TupleSteps.{TuplesStep, told_then, same_bodies}
use Rattle.rss_link.proofs.Lists.{last_behind, list_here}
use Rattle.rss_link.proofs.Meaning.{says_one, says_within}
use Rattle.rss_link.proofs.Puts.{parent_kind, some_parent}
use Rattle.rss_link.proofs.Splices.{IsFreeAt, IsSplice, length_cons, left_stands, right_stands, stands_once, seams_old, stands_nowhere, seams_off}
use Rattle.rss_link.proofs.Relinked.{left_child, right_child, has_left, has_right, relinks}
use Rattle.std.proofs.lemmas.List.{append-nil}

none_in : (t : Tid) (b a : List Tid) → [] ≡ b ++ t ∷ a → ⊥
none_in t b a is = let long : 0 ≡ length (b ++ t ∷ a) = ap length is in omega (arith, long, length_cons b t a)

one_in : (c t : Tid) (b a : List Tid) → c ∷ [] ≡ b ++ t ∷ a → t ≡ c
one_in c t [] a is = cc
one_in c t (x ∷ b) a is = let tails : [] ≡ b ++ t ∷ a = cc in absurd (none_in t b a tails)

-- the chains are spelled by the same bodies
spelled_by : (link : Chains) (kept : Ends) (old new : Bodies) (linkage : Linkage) → new ≡ old → SpellChains link kept old linkage → SpellChains link kept new linkage
spelled_by link kept old new linkage is spells = subst (λ (b : Bodies). SpellChains link kept b linkage) (sym is) spells

parent_named : (unary : Bool) (linkage : Linkage) (parent : Option Tid) → ((tid : Tid) → linkage.parents tid ≡ true → IsPointer (Some tid)) → IsParent unary linkage.parents parent → IsPointer parent
parent_named unary linkage None named is = tt
parent_named unary linkage (Some parent) named is = named parent (some_parent unary linkage.parents parent is).1

pub place_named : (place : Option Tid) → ((tid : Tid) → place ≡ Some tid → IsPointer (Some tid)) → IsPointer place
place_named None named = tt
place_named (Some tid) named = named tid refl

-- ---- a child is put in

module _ {link : Chains} {child : Tid} {parent left right : Option Tid} {kept : Ends} {old mid next : TuplesView} (step : TuplesStep no_page no_tuple 2 old mid)
    (finds : FindsNext link (seen_with kept old) parent left right)
    (restates : TellsBodies mid → (ends : Ends) (linkage : Linkage) → AreApart link linkage → linkage.children child ≡ true → Restates link child (Within parent left right) linkage (seen_with ends mid) (seen_with ends next))
    (told : TellsBodies old) {linkage : Linkage} {before after : List Tid} (spells : SpellChains link kept old.bodies linkage) (free : IsFreeAt link linkage (spot child parent left) before after) where
  spells_mid : SpellChains link kept mid.bodies linkage
  spells_mid = spelled_by link kept old.bodies mid.bodies linkage (same_bodies step told) spells

  is_right : right ≡ first_of after
  is_right = finds told linkage before after spells free.parted

  splice : IsSplice linkage parent before [] (child ∷ []) after child
  splice = record { is = free.parted.is; was_child = λ t b a is. absurd (none_in t b a is); is_child = one_in child }

  off_seams : (t : Tid) → (last_of before ≡ Some t) ⊎ (first_of after ≡ Some t) → t ≡ child → ⊥
  off_seams = seams_old spells.chains parent before [] (child ∷ []) after child splice free.outside refl

  restated : Restates link child (Within parent left right) linkage (seen_with kept mid) (seen_with kept next)
  restated = restates (told_then step told) kept linkage spells.apart free.child

  fits : IsStanding link.unary (Within parent left right)
  fits = (
    parent_kind link.unary linkage.parents parent free.parted.is_parent,
    parent_named link.unary linkage parent spells.named.parents free.parted.is_parent,
    place_named left (λ t is. spells.named.children t (spells.chains.children t (left_stands spells.chains parent before [] (child ∷ []) after child splice t (sym free.parted.behind ∙ is)).0)),
    place_named right (λ t is. spells.named.children t (spells.chains.children t (right_stands spells.chains parent before [] (child ∷ []) after child splice t (sym is_right ∙ is)).0)),
  )

  pub connect_left : HasPointer link (seen_with kept next) parent left
  connect_left = has_left spells_mid splice free.parted.is_parent free.child off_seams free.parted.behind is_right restated

  pub connect_turns_left : IsTurnOf link linkage (turn Next parent left (Some child))
  connect_turns_left = record {
    children = λ t is. left_child spells_mid splice free.parted.is_parent free.child off_seams free.parted.behind is_right restated t (sym free.parted.behind ∙ is);
    is_parent = free.parted.is_parent;
  }

  pub connect_turns_right : IsTurnOf link linkage (turn Previous parent right (Some child))
  connect_turns_right = record {
    children = λ t is. right_child spells_mid splice free.parted.is_parent free.child off_seams free.parted.behind is_right restated t (sym is_right ∙ is);
    is_parent = free.parted.is_parent;
  }

  module _ {third : LinkView} (turns : Turns link (turn Next parent left (Some child)) linkage (seen_with kept next) third) where
    pub connect_right : HasPointer link third parent right
    connect_right = has_right spells_mid splice free.parted.is_parent free.child off_seams free.parted.behind is_right restated (spells.named.children child free.child) turns

    pub connected : {last : LinkView} → Turns link (turn Previous parent right (Some child)) linkage third last
        → Relinks link (seen_with kept old) last linkage (relinked linkage parent (before ++ child ∷ after))
    connected {last = last} turns_too =
        let named : IsPointer (Some child) = spells.named.children child free.child in
        let relinked_mid = relinks spells_mid splice free.parted.is_parent free.child off_seams free.parted.behind is_right restated named turns named turns_too refl (sym (last_behind before [] child)) fits
        (record { before = before; after = after; is = list_here linkage.lists parent parent (before ++ child ∷ after) refl; left = free.parted.behind; right = is_right })
        (stands_once spells.chains parent before [] (child ∷ []) after child splice free.outside refl) in
        record { spells = relinked_mid.spells; keeps = subst (λ (b : Bodies). KeepBodies link linkage b last.tuples.bodies) (same_bodies step told) relinked_mid.keeps }

-- ---- a child is taken out

module _ {link : Chains} {child : Tid} {parent left right : Option Tid} {kept : Ends} {old mid next : TuplesView} (step : TuplesStep no_page no_tuple 2 old mid)
    (says : TellsBodies old → Says link old.bodies child (Within parent left right)) (fits : IsStanding link.unary (Within parent left right))
    (restates : TellsBodies mid → (ends : Ends) (linkage : Linkage) → AreApart link linkage → linkage.children child ≡ true → Restates link child Outside linkage (seen_with ends mid) (seen_with ends next))
    (told : TellsBodies old) {linkage : Linkage} (spells : SpellChains link kept old.bodies linkage) (stands : Stands linkage.lists child) where
  taken_mid : SpellChains link kept mid.bodies linkage
  taken_mid = spelled_by link kept old.bodies mid.bodies linkage (same_bodies step told) spells

  one_standing : Within parent left right ≡ Within stands.parent (last_of stands.before) (first_of stands.after)
  one_standing = says_one link old.bodies child _ _ (says told) (says_within spells.chains child stands)

  pub same_parent : parent ≡ stands.parent
  same_parent = let one : Within parent left right ≡ Within stands.parent (last_of stands.before) (first_of stands.after) = one_standing in cc

  same_left : left ≡ last_of stands.before
  same_left = let one : Within parent left right ≡ Within stands.parent (last_of stands.before) (first_of stands.after) = one_standing in cc

  same_right : right ≡ first_of stands.after
  same_right = let one : Within parent left right ≡ Within stands.parent (last_of stands.before) (first_of stands.after) = one_standing in cc

  taken : IsSplice linkage parent stands.before (child ∷ []) [] stands.after child
  taken = record { is = ap linkage.lists same_parent ∙ stands.is; was_child = one_in child; is_child = λ t b a is. absurd (none_in t b a is) }

  parent_is : IsParent link.unary linkage.parents parent
  parent_is = subst (λ (p : Option Tid). IsParent link.unary linkage.parents p) (sym same_parent) (spells.chains.parents child stands)

  child_is : linkage.children child ≡ true
  child_is = spells.chains.children child stands

  far_seams : (t : Tid) → (last_of stands.before ≡ Some t) ⊎ (first_of stands.after ≡ Some t) → t ≡ child → ⊥
  far_seams = seams_off spells.chains parent stands.before (child ∷ []) [] stands.after child taken refl refl

  blanked : Restates link child Outside linkage (seen_with kept mid) (seen_with kept next)
  blanked = restates (told_then step told) kept linkage spells.apart child_is

  pub disconnect_left : HasPointer link (seen_with kept next) parent left
  disconnect_left = has_left taken_mid taken parent_is child_is far_seams same_left same_right blanked

  pub disconnect_turns_left : IsTurnOf link linkage (turn Next parent left right)
  disconnect_turns_left = record {
    children = λ t is. left_child taken_mid taken parent_is child_is far_seams same_left same_right blanked t (sym same_left ∙ is);
    is_parent = parent_is;
  }

  pub disconnect_turns_right : IsTurnOf link linkage (turn Previous parent right left)
  disconnect_turns_right = record {
    children = λ t is. right_child taken_mid taken parent_is child_is far_seams same_left same_right blanked t (sym same_right ∙ is);
    is_parent = parent_is;
  }

  module _ {third : LinkView} (turns : Turns link (turn Next parent left right) linkage (seen_with kept next) third) where
    pub disconnect_right : HasPointer link third parent right
    disconnect_right = has_right taken_mid taken parent_is child_is far_seams same_left same_right blanked fits.3 turns

    pub disconnected : {last : LinkView} → Turns link (turn Previous parent right left) linkage third last
        → Relinks link (seen_with kept old) last linkage (relinked linkage stands.parent (stands.before ++ stands.after))
    disconnected {last = last} turns_too =
        let outside : IsOutside (with_list linkage.lists parent (stands.before ++ stands.after)) child = stands_nowhere spells.chains parent stands.before (child ∷ []) [] stands.after child taken refl refl in
        let relinked_mid = relinks taken_mid taken parent_is child_is far_seams same_left same_right blanked fits.3 turns fits.2 turns_too same_right (same_left ∙ ap last_of (sym (append-nil stands.before))) tt
        outside (λ one other. absurd (outside one)) in
        subst (λ (p : Option Tid). Relinks link (seen_with kept old) last linkage (relinked linkage p (stands.before ++ stands.after))) same_parent
        (record { spells = relinked_mid.spells; keeps = subst (λ (b : Bodies). KeepBodies link linkage b last.tuples.bodies) (same_bodies step told) relinked_mid.keeps })
