-- Where a tuple stands in the chains of a listed link, in whatever tables are spelled.
use Rattle.std.proofs.Common.{◌≡◌, ◌↔◌, inl, ℕ, Bool, true, false, List, [], ◌∷◌, ◌++◌, Option, Some, None, refl, sym, ◌∙◌, ap, subst}
use Rattle.std.specs.Prelude.{is_some, IfSome, ◌&&◌, not}
use Rattle.std.specs.Option.{option_eq}
use Rattle.std.specs.FinMap as map
use Rattle.std.proofs.Math.Logic.{∥∥₁_map}
use Rattle.std.proofs.lemmas.Option.{same_Some}
use Rattle.rss_base.specs.Listings.{Listing, relation_at, link_at}
use Rattle.rss_base.specs.declared.tid.Tid.{Tid}
use Rattle.rss_base.specs.declared.item.Item.{Item}
use Rattle.rss_base.specs.declared.relation.RelationEntry.{RelationEntry}
use Rattle.rss_base.specs.declared.link.LinkEntry.{LinkEntry}
use Rattle.rss_base.proofs.Equal.{same_tid, tid_decides}
use Rattle.rss_tuple.specs.Directory.{Bodies}
use Rattle.rss_model.specs.Tables.{LinkDef, Tables}
use Rattle.rss_model.specs.Chains.{chain, chain_with, stands_in, with_behind, without, next_of, is_there, HasParent, StandOnce}
use Rattle.rss_stored.specs.Store.{IsListedLink, link_definition}
use Rattle.rss_model.proofs.ChainKeeping.{chain_found}
use Rattle.rss_model.proofs.ChangeKeeping.{in_no_chain}
use Rattle.rss_model.proofs.LogLists.{by_test, false_true, none_some, some_of}
use Rattle.rss_model.proofs.Standing.{tid_itself, stands_of, stands_without}
use Rattle.rss_link.specs.Calls.{TellsBodies, HoldsHeaps, Follows, IsTheOne}
use Rattle.rss_link.proofs.Operations.{in_chain}
use Rattle.rss_members.specs.declared.membership.Membership.{Membership}
use Rattle.rss_members.specs.Members.{SpellsMembers}
use Rattle.rss_members.specs.Calls.{MembersView, Spells, above_in, IsPlaceOf, FindsPlace, IsUnder, IsRightThere, MayAskAbove, MayAskBelow}
use Rattle.rss_members.proofs.Chained.{full, once}
use Rattle.rss_members.proofs.Defined.{child_listed}
use Rattle.rss_members.proofs.Standing.{one_left, taken_out, put_again, left_stands, next_is, left_is, right_is}

-- the relation of its children is listed
pub within_of : (listing : Listing) (number : ℕ) (found link : LinkEntry) (child : RelationEntry) → link_at listing number ≡ Some found → IsListedLink listing number link child → relation_at listing found.child ≡ Some child
within_of listing number found link child at listed = ap (λ (l : LinkEntry). relation_at listing l.child) (same_Some _ _ (sym at ∙ listed.at)) ∙ listed.within

module _ {listing : Listing} {bodies : Bodies} {tables : Tables} (spells : SpellsMembers listing bodies tables) (number : ℕ) (link : LinkEntry) (child : RelationEntry) (listed : IsListedLink listing number link child) where
  abbrev definition : LinkDef
  definition = link_definition listing link child

  abbrev lists : Option Tid → List Tid
  lists = chain tables.contents link.name

  defined : map.get tables.definitions.links link.name ≡ Some definition
  defined = spells.defines.paths.links number link child listed

  -- a tuple of a chain is a child
  pub there_in : (parent : Option Tid) (tid : Tid) → stands_in tid (lists parent) ≡ true → is_there tables.contents child.name tid ≡ true
  there_in parent tid there = (full spells.links link.name definition defined parent tid there).members tid there

  -- where a parent isn't there, its chain is empty
  pub empty_without : (parent : Option Tid) → (HasParent tables.contents definition.parent parent → ⊥) → lists parent ≡ []
  empty_without parent never = by (lists parent) refl
    where
      by : (tids : List Tid) → lists parent ≡ tids → lists parent ≡ []
      by [] is = is
      by (t ∷ tids) is = absurd (never (full spells.links link.name definition defined parent t (subst (λ (l : List Tid). stands_in t l ≡ true) (sym is) (stands_of (t ∷ tids) t (inl refl)))).under)

  alone_in : (tid : Tid) (parent : Option Tid) → stands_in tid (lists parent) ≡ true → (other : Option Tid) → stands_in tid (lists other) ≡ true → other ≡ parent
  alone_in tid parent there other there_too = spells.links.alone link.name other parent tid there_too there

  -- what stands behind a tuple of a chain
  pub next_found : (tid : Tid) (parent right : Option Tid) → stands_in tid (lists parent) ≡ true → IsTheOne (λ right. Follows lists tid right) right → right ≡ next_of tid (lists parent)
  next_found tid parent right there one =
      let at = in_chain lists parent tid there in
      let alone = once spells.links link.name definition defined parent in
      right_is lists parent tid (alone_in tid parent there) at.before at.after at.is alone right one
      ∙ sym (next_is tid at.before at.after (subst StandOnce at.is alone)) ∙ ap (next_of tid) (sym at.is)

  -- ---- places

  place_in : (tid : Tid) (parent left : Option Tid) → stands_in tid (lists parent) ≡ true → IsTheOne (λ left. Follows lists left tid) left
      → IsPlaceOf tables.contents link.name (record { link = number; parent = parent; child = tid; left = left })
  place_in tid parent left there one =
      let at = in_chain lists parent tid there in
      let alone = once spells.links link.name definition defined parent in
      let here : StandOnce (at.before ++ tid ∷ at.after) = subst StandOnce at.is alone in
      let behind = left_is lists parent tid (alone_in tid parent there) at.before at.after at.is alone left one in
      let rest : without tid (lists parent) ≡ at.before ++ at.after = ap (without tid) at.is ∙ taken_out tid at.before at.after here in
      record {
        stands = there;
        behind = subst (λ (l : List Tid). IfSome left (λ t. stands_in t l ≡ true)) (sym rest) (subst (λ (o : Option Tid). IfSome o (λ t. stands_in t (at.before ++ at.after) ≡ true)) (sym behind) (left_stands at.before at.after));
        is = at.is ∙ sym (put_again tid at.before at.after here) ∙ (λ i. with_behind (sym behind i) tid (sym rest i));
      }

  pub place_found : (tid : Tid) (parent left : Option Tid) → true ≡ is_some (chain_with tables.contents link.name tid) → parent ≡ above_in (chain_with tables.contents link.name tid) → IsTheOne (λ left. Follows lists left tid) left
      → IsPlaceOf tables.contents link.name (record { link = number; parent = parent; child = tid; left = left })
  place_found tid parent left stands above one =
      let with_it = some_of (chain_with tables.contents link.name tid) (sym stands) in
      let found = chain_found tables.contents link.name tid with_it.0 with_it.1 in
      let same : parent ≡ found.0 = above ∙ ap above_in with_it.1 ∙ ap (λ (i : Item). above_in (Some i)) found.1 in
      place_in tid parent left (subst (λ (p : Option Tid). stands_in tid (lists p) ≡ true) (sym same) found.2) one

  one_place : (one : Membership) (left : Option Tid) → IsPlaceOf tables.contents link.name one → IsPlaceOf tables.contents link.name (record { link = one.link; parent = one.parent; child = one.child; left = left }) → one.left ≡ left
  one_place one left place place_too =
      let gone : stands_in one.child (without one.child (lists one.parent)) ≡ false = stands_without one.child (lists one.parent) one.child ∙ ap (λ (b : Bool). stands_in one.child (lists one.parent) && not b) (tid_itself one.child) ∙ and_false (stands_in one.child (lists one.parent)) in
      one_left one.left left one.child (without one.child (lists one.parent)) gone place.behind place_too.behind (sym place.is ∙ place_too.is)
    where
      and_false : (b : Bool) → (b && false) ≡ false
      and_false true = refl
      and_false false = refl

  -- a tuple has one place
  pub same_place : (one other : Membership) → IsPlaceOf tables.contents link.name one → IsPlaceOf tables.contents link.name other → other.child ≡ one.child → (one.parent ≡ other.parent) × (one.left ≡ other.left)
  same_place one other place place_too child_is =
      let there : stands_in one.child (lists other.parent) ≡ true = subst (λ (t : Tid). stands_in t (lists other.parent) ≡ true) child_is place_too.stands in
      let parent_is : other.parent ≡ one.parent = alone_in one.child one.parent place.stands other.parent there in
      let moved = subst (λ (p : Option Tid). IsPlaceOf tables.contents link.name (record { link = one.link; parent = p; child = one.child; left = other.left })) parent_is
      (subst (λ (t : Tid). IsPlaceOf tables.contents link.name (record { link = one.link; parent = other.parent; child = t; left = other.left })) child_is (record { stands = place_too.stands; behind = place_too.behind; is = place_too.is })) in
      (sym parent_is, one_place one other.left place moved)

  -- whether it is in the chain of a parent
  pub under_is : (tid : Tid) (parent : Option Tid) (found : Option Membership) (yes : Bool) → FindsPlace number tid tables.contents link.name found → ((yes ≡ true) ↔ IsUnder parent found) → yes ≡ stands_in tid (lists parent)
  under_is tid parent None true finds under = absurd (under.0 refl)
  under_is tid parent None false finds under = sym (in_no_chain tables.contents link.name tid finds parent)
  under_is tid parent (Some place) true finds under =
      sym (subst (λ (p : Option Tid). stands_in tid (lists p) ≡ true) (under.0 refl) (subst (λ (t : Tid). stands_in t (lists place.parent) ≡ true) finds.1 finds.2.stands))
  under_is tid parent (Some place) false finds under = by_test (stands_in tid (lists parent))
      (λ e. let there : stands_in tid (lists place.parent) ≡ true = subst (λ (t : Tid). stands_in t (lists place.parent) ≡ true) finds.1 finds.2.stands in
      false_true (under.1 (alone_in tid parent e place.parent there)) refl)
      (λ e. sym e)

  -- and whether it is right there
  pub place_is : (membership : Membership) (found : Option Membership) (so : Bool) → FindsPlace number membership.child tables.contents link.name found → ((so ≡ true) ↔ IsRightThere membership.parent membership.left found)
      → (so ≡ true) ↔ IsPlaceOf tables.contents link.name membership
  place_is membership None so finds right = (
    (λ is. absurd (right.0 is)),
    (λ place. false_true place.stands (in_no_chain tables.contents link.name membership.child finds membership.parent)),
  )
  place_is membership (Some place) so finds right = (
    (λ is.
        let same = right.0 is in
        let moved = subst (λ (p : Option Tid). IsPlaceOf tables.contents link.name (record { link = membership.link; parent = p; child = place.child; left = place.left })) same.0 (record { stands = finds.2.stands; behind = finds.2.behind; is = finds.2.is }) in
        let behind = subst (λ (l : Option Tid). IsPlaceOf tables.contents link.name (record { link = membership.link; parent = membership.parent; child = place.child; left = l })) same.1 moved in
        subst (λ (t : Tid). IsPlaceOf tables.contents link.name (record { link = membership.link; parent = membership.parent; child = t; left = membership.left })) finds.1 behind),
    (λ its. right.1 (same_place place membership finds.2 its (sym finds.1))),
  )

-- ---- what may be asked next

module _ (at : MembersView) (number : ℕ) (listed : is_some (link_at at.catalog.listing number) ≡ true) (heaps : HoldsHeaps at.tuples) (knows : TellsBodies at.tuples → ∥ ((tables : Tables) × Spells at tables) ∥₁) where
  -- of a tuple that is known to be a child
  pub below_of : (tid : Tid) → (TellsBodies at.tuples → (tables : Tables) (link : LinkEntry) (child : RelationEntry) → Spells at tables → IsListedLink at.catalog.listing number link child → is_there tables.contents child.name tid ≡ true) → MayAskBelow at number tid
  below_of tid there = record {
    listed = listed;
    heaps = heaps;
    knows = λ told. ∥∥₁_map (knows told) (λ k.
        let link = some_of (link_at at.catalog.listing number) listed in
        let child = child_listed k.1 number link.0 link.1 in
        record { tables = k.0; link = link.0; child = child.0; spells = k.1; listed = child.1; there = there told k.0 link.0 child.0 k.1 child.1 });
  }

  -- of one that is known to be a parent
  pub above_of : (parent : Option Tid) → (TellsBodies at.tuples → (tables : Tables) (link : LinkEntry) (child : RelationEntry) → Spells at tables → IsListedLink at.catalog.listing number link child → HasParent tables.contents (link_definition at.catalog.listing link child).parent parent) → MayAskAbove at number parent
  above_of parent under = record {
    listed = listed;
    heaps = heaps;
    knows = λ told. ∥∥₁_map (knows told) (λ k.
        let link = some_of (link_at at.catalog.listing number) listed in
        let child = child_listed k.1 number link.0 link.1 in
        record { tables = k.0; link = link.0; child = child.0; spells = k.1; listed = child.1; under = under told k.0 link.0 child.0 k.1 child.1 });
  }

-- ---- whether two are one

pub places_decide : (a b : Option Tid) → (option_eq same_tid a b ≡ true) ↔ (a ≡ b)
places_decide None None = (λ is. refl, λ is. refl)
places_decide (Some a) (Some b) = (λ is. ap (λ (t : Tid). Some t) ((tid_decides a b).0 is), λ is. (tid_decides a b).1 (same_Some _ _ is))
places_decide None (Some b) = (λ is. absurd (cc (is)), λ is. none_some is)
places_decide (Some a) None = (λ is. absurd (cc (is)), λ is. none_some (sym is))

pub not_true : (b : Bool) → not b ≡ true → b ≡ false
not_true true is = absurd (cc (is))
not_true false is = refl
