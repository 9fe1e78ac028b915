-- The locks of the calls on links, as the catalog gives them, are those of the machine.
use Rattle.std.proofs.Common.{◌≡◌, ℕ, List, [], ◌∷◌, ◌++◌, refl, sym, ◌∙◌, ap, append_assoc, append-nil}
use Rattle.std.specs.Prelude.{Option, Some, None, is_some, option_map, option_and_then}
use Rattle.std.specs.FinMap as map
use Rattle.std.proofs.lemmas.Option.{same_Some}
use Rattle.rss_base.specs.Listings.{IsNumberOf, link_at, relation_at, segment_at}
use Rattle.rss_base.specs.declared.item.Item.TheVariants.{Segment, Relation, Tuple, Chain}
use Rattle.rss_base.specs.declared.link.LinkEntry.{LinkEntry}
use Rattle.rss_base.specs.declared.name.Name.{Name}
use Rattle.rss_base.specs.declared.need.Mode.{Mode}
use Rattle.rss_base.specs.declared.need.Mode.TheVariants.{IS, IX, S, X}
use Rattle.rss_base.specs.declared.need.Need.{Need}
use Rattle.rss_base.specs.declared.refusal.Kind.TheVariants.{Link as LinkKind, Relation as RelationKind}
use Rattle.rss_base.specs.declared.relation.RelationEntry.{RelationEntry}
use Rattle.rss_base.specs.declared.tid.Tid.{Tid}
use Rattle.rss_members.specs.Calls.{HasForm}
use Rattle.rss_members.specs.declared.membership.Membership.{Membership}
use Rattle.rss_model.specs.Chains.{chain_with}
use Rattle.rss_model.specs.Machine.{State, now}
use Rattle.rss_model.specs.Needs.{need, segment_needs, relation_needs, tuple_read, tuple_changed, chain_needs, connect_needs, disconnect_needs, needs_of_chain, upper_needs, link_scan_needs, parent_needs, reading_all}
use Rattle.rss_stored.specs.Store.{relation_name}
use Rattle.rss_model.specs.Tables.{LinkDef, Tables}
use Rattle.rss_model.proofs.StepKeeping.{kept_fit}
use Rattle.rss_rsi.specs.Linking.{ListsBehind, ListsPlaced, chain_list, chain_of, child_list, upper_list}
use Rattle.rss_rsi.specs.Locking.{Lists}
use Rattle.rss_rsi.specs.Views.{RssParts, IsIn}
use Rattle.rss_rsi.specs.declared.locking.Access.TheVariants.{Read, Change}
use Rattle.rss_rsi.proofs.Chained.{LinkIn, form_there, link_shown, parent_in}
use Rattle.rss_rsi.proofs.Needs.{relation_lists}

-- ---- behind others

-- nothing more
pub nothing_behind : (list : List Need) → list ++ [] ≡ list
nothing_behind list = append-nil list

-- the lock of the segment stands first, where it has a name
pub segment_behind : (segments : Option Name) (coarse : Mode) (before : List Need) {segment : Name} {mid : List Need} {one : Need} → segments ≡ Some segment → mid ≡ before ++ one ∷ [] → one ≡ need (Segment segment) coarse → mid ≡ before ++ segment_needs segments coarse
segment_behind segments coarse before some is one_is = is ∙ ap (λ (n : Need). before ++ n ∷ []) one_is ∙ ap (λ (s : Option Name). before ++ segment_needs s coarse) (sym some)

pub no_segment_behind : (segments : Option Name) (coarse : Mode) {before mid : List Need} → segments ≡ None → mid ≡ before → mid ≡ before ++ segment_needs segments coarse
no_segment_behind segments coarse {before = before} none is = is ∙ sym (nothing_behind before) ∙ ap (λ (s : Option Name). before ++ segment_needs s coarse) (sym none)

-- and that of the relation behind it
pub relation_behind : (parts : RssParts) (relation : Name) (number : ℕ) (entry : RelationEntry) (coarse mode : Mode) → IsNumberOf RelationKind parts.session.store.catalog.listing relation number → relation_at parts.session.store.catalog.listing number ≡ Some entry
    → (segments : Option Name) → segments ≡ segment_at parts.session.store.catalog.listing entry.segment → (before mid list : List Need) (one : Need) → mid ≡ before ++ segment_needs segments coarse → list ≡ mid ++ one ∷ [] → one ≡ need (Relation relation) mode
    → ListsBehind parts (λ tables. relation_needs tables relation coarse mode) before list
relation_behind parts relation number entry coarse mode known at segments named before mid list one first is one_is told state is_in =
    ap (λ (l : List Need). before ++ l) (relation_lists parts relation number entry coarse mode known at told state is_in ∙ (λ i. segment_needs (sym named i) coarse ++ need (Relation relation) mode ∷ []))
    ∙ sym (append_assoc before (segment_needs segments coarse) (need (Relation relation) mode ∷ []))
    ∙ sym (is ∙ (λ i. first i ++ one_is i ∷ []))

-- ---- by the link of a number

module _ (parts : RssParts) (link : Name) (number : ℕ) (known : IsNumberOf LinkKind parts.session.store.catalog.listing link number) {entry : LinkEntry} (at : link_at parts.session.store.catalog.listing number ≡ Some entry) where
  pub link_in : {state : State} → IsIn parts state → LinkIn parts.session.store.catalog.listing (now state).definitions link entry
  link_in is_in = link_shown is_in.shows.store.spells.listed is_in.shows.store.spells.defines link number known at

  -- those of a tuple of its child relation
  module _ {child : RelationEntry} (within : relation_at parts.session.store.catalog.listing entry.child ≡ Some child) (tid : Tid) {list : List Need} where
    pub child_read : Lists parts (λ tables. relation_needs tables child.name IS IS ++ need (Tuple child.name tid) S ∷ []) list → Lists parts (λ tables. child_list tables Read tid (map.get tables.definitions.links link)) list
    child_read lists told state is_in =
        let its = link_in is_in in
        ap (child_list (now state) Read tid) its.defined ∙ ap (λ (name : Name). tuple_read (now state) name tid) (its.below child within) ∙ lists told state is_in

    pub child_changed : Lists parts (λ tables. relation_needs tables child.name IX IX ++ need (Tuple child.name tid) X ∷ []) list → Lists parts (λ tables. child_list tables Change tid (map.get tables.definitions.links link)) list
    child_changed lists told state is_in =
        let its = link_in is_in in
        ap (child_list (now state) Change tid) its.defined ∙ ap (λ (name : Name). tuple_changed (now state) name tid) (its.below child within) ∙ lists told state is_in

  -- those of a parent: none where there is none
  pub none_above : (parent : Option Tid) (list : List Need) → entry.parent ≡ None → ListsBehind parts (λ tables. upper_list tables parent (map.get tables.definitions.links link)) list list
  none_above parent list none told state is_in =
      let its = link_in is_in in
      ap (λ (l : List Need). list ++ l) (
      ap (upper_list (now state) parent) its.defined
      ∙ ap (λ (above : Option Name). upper_needs (now state) above parent) (its.above ∙ ap (option_and_then (relation_name parts.session.store.catalog.listing)) none))
      ∙ nothing_behind list

  no_parent : (tables : Tables) (above : Option Name) → upper_needs tables above None ≡ []
  no_parent tables None = refl
  no_parent tables (Some relation) = refl

  pub none_given : (parent : Option Tid) (list : List Need) → parent ≡ None → ListsBehind parts (λ tables. upper_list tables parent (map.get tables.definitions.links link)) list list
  none_given parent list none told state is_in =
      let its = link_in is_in in
      ap (λ (l : List Need). list ++ l) (
      ap (upper_list (now state) parent) its.defined ∙ ap (upper_needs (now state) its.definition.parent) none ∙ no_parent (now state) its.definition.parent)
      ∙ nothing_behind list

  module _ (relation : ℕ) {upper : RelationEntry} (some : entry.parent ≡ Some relation) (there : relation_at parts.session.store.catalog.listing relation ≡ Some upper) where
    pub above_read : (given : Option Tid) (parent : Tid) → given ≡ Some parent → (before mid list : List Need) (one : Need) → ListsBehind parts (λ tables. relation_needs tables upper.name IS IS) before mid → list ≡ mid ++ one ∷ [] → one ≡ need (Tuple upper.name parent) S
        → ListsBehind parts (λ tables. upper_list tables given (map.get tables.definitions.links link)) before list
    above_read given parent is before mid list one reads pushed one_is told state is_in =
        let its = link_in is_in in
        let name : its.definition.parent ≡ Some upper.name = its.above ∙ ap (option_and_then (relation_name parts.session.store.catalog.listing)) some ∙ ap (option_map (λ (r : RelationEntry). r.name)) there in
        ap (λ (l : List Need). before ++ l) (
        ap (upper_list (now state) given) its.defined ∙ (λ i. upper_needs (now state) (name i) (is i)))
        ∙ sym (append_assoc before (relation_needs (now state) upper.name IS IS) (need (Tuple upper.name parent) S ∷ []))
        ∙ (λ i. reads told state is_in i ++ sym one_is i ∷ [])
        ∙ sym pushed

  -- those of a chain, where a parent is given exactly if the link has parents
  chain_split : (tables : Tables) (above : Option Name) (parent : Option Tid) → is_some above ≡ is_some parent → chain_needs tables link above parent ≡ upper_needs tables above parent ++ need (Chain link parent) X ∷ []
  chain_split tables None None form = refl
  chain_split tables None (Some p) form = absurd (cc (form))
  chain_split tables (Some relation) None form = absurd (cc (form))
  chain_split tables (Some relation) (Some p) form = refl

  pub chain_behind : (parent : Option Tid) (before mid list : List Need) (one : Need) → ListsBehind parts (λ tables. upper_list tables parent (map.get tables.definitions.links link)) before mid → list ≡ mid ++ one ∷ [] → one ≡ need (Chain link parent) X
      → HasForm parts.session.store.catalog.listing number parent → ListsBehind parts (λ tables. chain_list tables link parent (map.get tables.definitions.links link)) before list
  chain_behind parent before mid list one upper pushed one_is form told state is_in =
      let its = link_in is_in in
      ap (λ (l : List Need). before ++ l) (
      ap (chain_list (now state) link parent) its.defined
      ∙ chain_split (now state) its.definition.parent parent (its.has_above ∙ form entry at)
      ∙ ap (λ (o : Option LinkDef). upper_list (now state) parent o ++ need (Chain link parent) X ∷ []) (sym its.defined))
      ∙ sym (append_assoc before (upper_list (now state) parent (map.get (now state).definitions.links link)) (need (Chain link parent) X ∷ []))
      ∙ (λ i. upper told state is_in i ++ sym one_is i ∷ [])
      ∙ sym pushed

-- ---- whole lists

connect_split : (tables : Tables) (link : Name) (child : Tid) (parent : Option Tid) (definition : Option LinkDef) → connect_needs tables link child parent definition ≡ child_list tables Change child definition ++ chain_list tables link parent definition
connect_split tables link child parent None = refl
connect_split tables link child parent (Some definition) = refl

pub connect_lists : (parts : RssParts) (link : Name) (child : Tid) (parent : Option Tid) {first list : List Need} → Lists parts (λ tables. child_list tables Change child (map.get tables.definitions.links link)) first
    → ListsBehind parts (λ tables. chain_list tables link parent (map.get tables.definitions.links link)) first list → Lists parts (λ tables. connect_needs tables link child parent (map.get tables.definitions.links link)) list
connect_lists parts link child parent one more told state is_in =
    connect_split (now state) link child parent (map.get (now state).definitions.links link)
    ∙ ap (λ (l : List Need). l ++ chain_list (now state) link parent (map.get (now state).definitions.links link)) (one told state is_in)
    ∙ more told state is_in

disconnect_split : (tables : Tables) (link : Name) (child : Tid) (parent : Option Tid) (definition : Option LinkDef) → chain_with tables.contents link child ≡ Some (Chain link parent) → disconnect_needs tables link child definition ≡ child_list tables Change child definition ++ chain_list tables link parent definition
disconnect_split tables link child parent None found = refl
disconnect_split tables link child parent (Some definition) found = ap (λ o. tuple_changed tables definition.child child ++ needs_of_chain tables link definition o) found

outside_split : (tables : Tables) (link : Name) (child : Tid) (definition : Option LinkDef) → chain_with tables.contents link child ≡ None → disconnect_needs tables link child definition ≡ child_list tables Change child definition
outside_split tables link child None found = refl
outside_split tables link child (Some definition) found = ap (λ o. tuple_changed tables definition.child child ++ needs_of_chain tables link definition o) found ∙ nothing_behind (tuple_changed tables definition.child child)

-- of a tuple that stands in no chain
pub outside_lists : (parts : RssParts) (link : Name) (child : Tid) (place : Option Membership) {list : List Need} → place ≡ None → Lists parts (λ tables. child_list tables Change child (map.get tables.definitions.links link)) list → ListsPlaced parts link child place list
outside_lists parts link child place none lists told state is_in found =
    outside_split (now state) link child (map.get (now state).definitions.links link) (found ∙ ap (option_map (chain_of link)) none) ∙ lists told state is_in

-- and of one that stands in one
pub placed_lists : (parts : RssParts) (link : Name) (number : ℕ) (known : IsNumberOf LinkKind parts.session.store.catalog.listing link number) {entry : LinkEntry} (at : link_at parts.session.store.catalog.listing number ≡ Some entry) (child : Tid) (given : Option Membership) (place : Membership) → given ≡ Some place → {first list : List Need}
    → Lists parts (λ tables. child_list tables Change child (map.get tables.definitions.links link)) first
    → (HasForm parts.session.store.catalog.listing number place.parent → ListsBehind parts (λ tables. chain_list tables link place.parent (map.get tables.definitions.links link)) first list) → ListsPlaced parts link child given list
placed_lists parts link number known {entry = entry} at child given place some one more told state is_in found =
    let its = link_in parts link number known at is_in in
    let here : chain_with (now state).contents link child ≡ Some (Chain link place.parent) = found ∙ ap (option_map (chain_of link)) some in
    let under = parent_in (kept_fit state is_in.kept).1 link child place.parent its.defined here in
    let form : is_some entry.parent ≡ is_some place.parent = sym its.has_above ∙ form_there (now state).contents its.definition.parent place.parent under in
    disconnect_split (now state) link child place.parent (map.get (now state).definitions.links link) here
    ∙ ap (λ (l : List Need). l ++ chain_list (now state) link place.parent (map.get (now state).definitions.links link)) (one told state is_in)
    ∙ more (λ other there. ap (λ (e : LinkEntry). is_some e.parent) (same_Some _ _ (sym there ∙ at)) ∙ form) told state is_in

scan_split : (tables : Tables) (parent : Option Tid) (definition : LinkDef) (o : Option LinkDef) → o ≡ Some definition → link_scan_needs tables parent o ≡ upper_list tables parent o ++ reading_all tables definition.child
scan_split tables parent definition None is = absurd (cc (is))
scan_split tables parent definition (Some other) is = ap (λ (d : LinkDef). upper_needs tables other.parent parent ++ reading_all tables d.child) (same_Some _ _ is)

-- of a scan
pub scan_lists : (parts : RssParts) (link : Name) (number : ℕ) (known : IsNumberOf LinkKind parts.session.store.catalog.listing link number) {entry : LinkEntry} (at : link_at parts.session.store.catalog.listing number ≡ Some entry) {child : RelationEntry} → relation_at parts.session.store.catalog.listing entry.child ≡ Some child → (parent : Option Tid) {first list : List Need}
    → ListsBehind parts (λ tables. upper_list tables parent (map.get tables.definitions.links link)) [] first → ListsBehind parts (λ tables. relation_needs tables child.name IS S) first list → Lists parts (λ tables. link_scan_needs tables parent (map.get tables.definitions.links link)) list
scan_lists parts link number known at {child = child} within parent upper more told state is_in =
    let its = link_in parts link number known at is_in in
    scan_split (now state) parent its.definition (map.get (now state).definitions.links link) its.defined
    ∙ ap (λ (name : Name). upper_list (now state) parent (map.get (now state).definitions.links link) ++ reading_all (now state) name) (its.below child within)
    ∙ ap (λ (l : List Need). l ++ reading_all (now state) child.name) (upper told state is_in)
    ∙ more told state is_in

-- what a call asks the parent for is what reads a tuple of the child relation
pub parent_split : (tables : Tables) (child : Tid) (definition : Option LinkDef) → parent_needs tables child definition ≡ child_list tables Read child definition
parent_split tables child None = refl
parent_split tables child (Some definition) = refl
