-- Whether a tuple stands in chains, or has some.
use Rattle.std.proofs.Common.{◌≡◌, ◌⊎◌, inl, inr, ℕ, ◌+◌, ◌<◌, ◌==◌, Bool, true, false, List, [], ◌∷◌, length, refl, sym, ◌∙◌, ap, subst, arith}
use Rattle.std.specs.Prelude.{◌↔◌, ◌&&◌, not, Option, Some, None, is_some, find, option_map, option_and_then}
use Rattle.std.specs.FinMap as finite
use Rattle.std.proofs.lemmas.Bool.{and_parts, eqb-true}
use Rattle.std.proofs.lemmas.Option.{same_Some}
use Rattle.rss_base.specs.Prefixes.{first_of}
use Rattle.rss_base.specs.Listings.{Listing, relation_at, link_at}
use Rattle.rss_base.specs.declared.name.Name.{Name}
use Rattle.rss_base.specs.declared.tid.Tid.{Tid}
use Rattle.rss_base.specs.declared.relation.RelationEntry.{RelationEntry}
use Rattle.rss_base.specs.declared.link.LinkEntry.{LinkEntry}
use Rattle.rss_base.specs.declared.item.Item.TheVariants.{Chain}
use Rattle.rss_model.specs.Items.{is_name}
use Rattle.rss_model.specs.Tables.{LinkDef, Contents, Tables, content}
use Rattle.rss_model.specs.Chains.{chain, chain_content, chain_with, is_this, is_connected, is_parent_relation, connected}
use Rattle.rss_model.proofs.Contents.{tied}
use Rattle.rss_model.proofs.Codes.{name_total, name_apart}
use Rattle.rss_model.proofs.LogLists.{by_test, false_true, none_some, some_of}
use Rattle.rss_model.proofs.Locking.{find_in, in_entries, none_of}
use Rattle.rss_model.proofs.SeenAlike.{got_in}
use Rattle.rss_model.proofs.Standing.{or_first, or_second}
use Rattle.rss_stored.specs.Store.{Defines, IsListedLink, link_definition, relation_name}
use Rattle.rss_stored.proofs.Relisted.{number_of}
use Rattle.rss_stored.proofs.Spelled.{named_link}
use Rattle.rss_members.specs.Calls.{HasForm, next_behind}
use Rattle.rss_access.specs.Changes.{AccessView}
use Rattle.rss_draft.specs.declared.draft.Standing.TheVariants.{Off, In}
use Rattle.rss_draft.specs.Views.{DraftView}
use Rattle.rss_draft.specs.Lookups.{chain_at}
use Rattle.rss_draft.specs.Looks.{StandsOver}
use Rattle.rss_draft.specs.FitLooks.{IsChildIn, IsParentIn, IsLinkedIn}
use Rattle.rss_draft.proofs.Following.{both}
use Rattle.rss_draft.proofs.ChainsNow.{chain_holds}
use Rattle.rss_draft.proofs.TupleFitting.{either, same_names, this_one, unmapped}

-- ---- a link

module _ {listing : Listing} {number k : ℕ} where
  pub child_unused : is_some (link_at listing k) ≡ false → (false ≡ true) ↔ IsChildIn listing number k
  child_unused off = ((λ so. absurd (cc (so))), (λ i. false_true (ap is_some i.at) off))

  pub child_decides : (link : LinkEntry) → link_at listing k ≡ Some link → (same : Bool) → ((same ≡ true) ↔ (link.child ≡ number)) → (same ≡ true) ↔ IsChildIn listing number k
  child_decides link at same decides = (
    (λ so. record { link = link; at = at; is = decides.0 so }),
    (λ i. decides.1 (ap (λ (l : LinkEntry). l.child) (same_Some _ _ (sym at ∙ i.at)) ∙ i.is)),
  )

  pub parent_unused : is_some (link_at listing k) ≡ false → (false ≡ true) ↔ IsParentIn listing number k
  parent_unused off = ((λ so. absurd (cc (so))), (λ i. false_true (ap is_some i.at) off))

  pub parent_decides : (link : LinkEntry) → link_at listing k ≡ Some link → (parent : ℕ) → link.parent ≡ Some parent → (same : Bool) → ((same ≡ true) ↔ (parent ≡ number)) → (same ≡ true) ↔ IsParentIn listing number k
  parent_decides link at parent is same decides = (
    (λ so. record { link = link; at = at; is = is ∙ ap (λ (n : ℕ). Some n) (decides.0 so) }),
    (λ i. decides.1 (same_Some _ _ (sym is ∙ ap (λ (l : LinkEntry). l.parent) (same_Some _ _ (sym at ∙ i.at)) ∙ i.is))),
  )

  pub parent_none : (link : LinkEntry) → link_at listing k ≡ Some link → link.parent ≡ None → (false ≡ true) ↔ IsParentIn listing number k
  parent_none link at is = (
    (λ so. absurd (cc (so))),
    (λ i. none_some (sym is ∙ ap (λ (l : LinkEntry). l.parent) (same_Some _ _ (sym at ∙ i.at)) ∙ i.is)),
  )

  -- it has a form with a parent
  pub parent_form : (parent : Tid) → IsParentIn listing number k → HasForm listing k (Some parent)
  parent_form parent i link at = ap (λ (l : LinkEntry). is_some l.parent) (same_Some _ _ (sym at ∙ i.at)) ∙ ap is_some i.is

-- ---- where it stands

pub stands_off : (contents : Contents) (link : Name) (child : Tid) → chain_with contents link child ≡ chain_at link Off → false ≡ is_some (chain_with contents link child)
stands_off contents link child is = sym (ap is_some is)

pub stands_in_some : (contents : Contents) (link : Name) (child : Tid) (parent : Option Tid) → chain_with contents link child ≡ chain_at link (In parent) → true ≡ is_some (chain_with contents link child)
stands_in_some contents link child parent is = sym (ap is_some is)

-- ---- a chain that isn't empty

pub any_first : (tids : List Tid) (empty : Bool) → empty ≡ (length tids == 0) → not empty ≡ is_some (first_of tids)
any_first [] empty is = ap not is
any_first (tid ∷ tids) empty is = by_test (length (tid ∷ tids) == 0)
    (λ e. absurd (some (eqb-true (length (tid ∷ tids)) 0 e)))
    (λ e. ap not (is ∙ e))
  where
    some : length (tid ∷ tids) ≡ 0 → ⊥
    some e = omega (arith, e)

pub first_whole : (tids : List Tid) (found : Option (Option Tid)) (first : Tid) → found ≡ next_behind None tids → found ≡ Some (Some first) → true ≡ is_some (first_of tids)
first_whole tids found first next is = sym (ap is_some (same_Some (first_of tids) (Some first) (sym next ∙ is)))

pub first_none : (tids : List Tid) (found : Option (Option Tid)) → found ≡ next_behind None tids → ((tid : Tid) → found ≡ Some (Some tid) → ⊥) → false ≡ is_some (first_of tids)
first_none [] found next none = refl
first_none (tid ∷ tids) found next none = absurd (none tid next)

held_first : (tids : List Tid) → is_some (chain_content tids) ≡ is_some (first_of tids)
held_first [] = refl
held_first (tid ∷ tids) = refl

-- ---- the parts of what connects

name_itself : (name : Name) → is_name name name ≡ true
name_itself name = tied name_total name_apart name

module _ {at : AccessView} {draft : DraftView} {saved tables : Tables} (over : StandsOver at draft saved tables) (number : ℕ) (tid : Tid) (k : ℕ) where
  abbrev listing : Listing
  listing = at.catalog.listing

  -- it stands in a chain, or has one
  abbrev Parts : Type 0
  Parts = ((i : IsChildIn listing number k) × (is_some (chain_with tables.contents i.link.name tid) ≡ true))
      ⊎ ((i : IsParentIn listing number k) × (is_some (content tables.contents (Chain i.link.name (Some tid))) ≡ true))

  named_number : (p : ℕ) (name : Name) → relation_name listing p ≡ Some name → (relation : RelationEntry) × (relation_at listing p ≡ Some relation) × (relation.name ≡ name)
  named_number p name is = by (relation_at listing p) refl
    where
      by : (o : Option RelationEntry) → relation_at listing p ≡ o → (relation : RelationEntry) × (relation_at listing p ≡ Some relation) × (relation.name ≡ name)
      by None e = none_some (sym (ap (option_map (λ (r : RelationEntry). r.name)) e) ∙ is)
      by (Some relation) e = (relation, e, same_Some _ _ (sym (ap (option_map (λ (r : RelationEntry). r.name)) e) ∙ is))

  same_number : (p : ℕ) (one other : RelationEntry) → relation_at listing p ≡ Some one → relation_at listing number ≡ Some other → one.name ≡ other.name → p ≡ number
  same_number p one other at_one at_other same = over.spells.listed.relations_once p number other.name
      (number_of listing p one at_one ∙ ap (λ (n : Name). Some n) same)
      (number_of listing number other at_other)

  linked_parts : IsLinkedIn listing tables number tid k → Parts
  linked_parts l = elim (either _ _ l.is) [
    | inl e ↦
        let parts = and_parts (is_name l.relation.name l.child.name) (is_some (chain_with tables.contents l.link.name tid)) e in
        let is : l.link.child ≡ number = same_number l.link.child l.child l.relation l.listed.within l.at (sym (same_names l.relation.name l.child.name parts.0)) in
        inl (record { link = l.link; at = l.listed.at; is = is }, parts.1)
    | inr e ↦
        let parts = and_parts (is_parent_relation (link_definition listing l.link l.child) l.relation.name) (is_some (content tables.contents (Chain l.link.name (Some tid)))) e in
        let is : l.link.parent ≡ Some number = above l.link.parent l.relation l.at (this_one _ _ parts.0) in
        inr (record { link = l.link; at = l.listed.at; is = is }, parts.1)
  ]
    where
      above : (o : Option ℕ) (relation : RelationEntry) → relation_at listing number ≡ Some relation → option_and_then (relation_name listing) o ≡ Some relation.name → o ≡ Some number
      above None relation its is = none_some is
      above (Some p) relation its is =
          let named = named_number p relation.name is in
          ap (λ (n : ℕ). Some n) (same_number p named.0 relation named.1 its named.2)

  linked_child : (some : is_some (relation_at listing number) ≡ true) (i : IsChildIn listing number k) → is_some (chain_with tables.contents i.link.name tid) ≡ true → IsLinkedIn listing tables number tid k
  linked_child some i stands =
      let relation = some_of (relation_at listing number) some in
      record {
        relation = relation.0;
        link = i.link;
        child = relation.0;
        at = relation.1;
        listed = record { at = i.at; within = ap (relation_at listing) i.is ∙ relation.1 };
        is = or_first (is_name relation.0.name relation.0.name && is_some (chain_with tables.contents i.link.name tid)) _
            (both (is_name relation.0.name relation.0.name) (is_some (chain_with tables.contents i.link.name tid)) (name_itself relation.0.name) stands);
      }

  linked_parent : (some : is_some (relation_at listing number) ≡ true) (i : IsParentIn listing number k) → is_some (content tables.contents (Chain i.link.name (Some tid))) ≡ true → IsLinkedIn listing tables number tid k
  linked_parent some i has =
      let relation = some_of (relation_at listing number) some in
      let child = some_of (relation_at listing i.link.child) (over.spells.listed.paths.links k i.link i.at).child in
      let above : option_and_then (relation_name listing) i.link.parent ≡ Some relation.0.name =
      ap (option_and_then (relation_name listing)) i.is ∙ ap (option_map (λ (r : RelationEntry). r.name)) relation.1 in
      let this : is_this (option_and_then (relation_name listing) i.link.parent) relation.0.name ≡ true =
      ap (λ (o : Option Name). is_this o relation.0.name) above ∙ name_itself relation.0.name in
      record {
        relation = relation.0;
        link = i.link;
        child = child.0;
        at = relation.1;
        listed = record { at = i.at; within = child.1 };
        is = or_second (is_name relation.0.name child.0.name && is_some (chain_with tables.contents i.link.name tid)) _
            (both (is_this (option_and_then (relation_name listing) i.link.parent) relation.0.name) (is_some (content tables.contents (Chain i.link.name (Some tid)))) this has);
      }

  -- ---- what is answered of a link

  holds_is : (name : Name) → is_some (content tables.contents (Chain name (Some tid))) ≡ is_some (first_of (chain tables.contents name (Some tid)))
  holds_is name = ap is_some (chain_holds over name (Some tid)) ∙ held_first (chain tables.contents name (Some tid))

  pub by_child : is_some (relation_at listing number) ≡ true → IsChildIn listing number k → (found : Bool) → ((link : LinkEntry) → link_at listing k ≡ Some link → found ≡ is_some (chain_with tables.contents link.name tid)) → (found ≡ true) ↔ IsLinkedIn listing tables number tid k
  by_child some i found is = (
    (λ so. linked_child some i (sym (is i.link i.at) ∙ so)),
    (λ l. elim (linked_parts l) [
      | inl p ↦ is p.0.link p.0.at ∙ p.1
      | inr p ↦ absurd (apart p.0)
    ]),
  )
    where
      -- the parents' relation is another one
      apart : IsParentIn listing number k → ⊥
      apart p =
          let fits = over.spells.listed.paths.links k p.link p.at in
          let same : p.link ≡ i.link = same_Some _ _ (sym p.at ∙ i.at) in
          let parent = rw p.is at fits.parent in
          parent.1 (sym i.is ∙ ap (λ (l : LinkEntry). l.child) (sym same))

  pub by_parent : is_some (relation_at listing number) ≡ true → (IsChildIn listing number k → ⊥) → IsParentIn listing number k → (found : Bool) → ((link : LinkEntry) → link_at listing k ≡ Some link → found ≡ is_some (first_of (chain tables.contents link.name (Some tid)))) → (found ≡ true) ↔ IsLinkedIn listing tables number tid k
  by_parent some off i found is = (
    (λ so. linked_parent some i (holds_is i.link.name ∙ sym (is i.link i.at) ∙ so)),
    (λ l. elim (linked_parts l) [
      | inl p ↦ absurd (off p.0)
      | inr p ↦ is p.0.link p.0.at ∙ sym (holds_is p.0.link.name) ∙ p.1
    ]),
  )

  pub by_none : (IsChildIn listing number k → ⊥) → (IsParentIn listing number k → ⊥) → (false ≡ true) ↔ IsLinkedIn listing tables number tid k
  by_none off none = (
    (λ so. absurd (cc (so))),
    (λ l. elim (linked_parts l) [
      | inl p ↦ absurd (off p.0)
      | inr p ↦ absurd (none p.0)
    ]),
  )

-- ---- all of them

-- nothing has the number 0
pub no_link_zero : {listing : Listing} {tables : Tables} {number : ℕ} {tid : Tid} (k : ℕ) → k < 0 + 1 → IsLinkedIn listing tables number tid k → ⊥
no_link_zero {listing = listing} k low l = none_some (sym (ap (link_at listing) (zero_is k low)) ∙ l.listed.at)
  where
    zero_is : (k : ℕ) → k < 0 + 1 → k ≡ 0
    zero_is k low = omega (arith, low)

module _ {at : AccessView} {draft : DraftView} {saved tables : Tables} (over : StandsOver at draft saved tables) (number : ℕ) (relation : RelationEntry) (at_number : relation_at at.catalog.listing number ≡ Some relation) (tid : Tid) where
  defines : Defines at.catalog.listing tables.definitions
  defines = subst (Defines at.catalog.listing) (sym over.is.definitions) over.spells.defines

  abbrev connects : Name × LinkDef → Bool
  connects = is_connected tables.contents relation.name tid

  pub not_unlinked : (k : ℕ) → IsLinkedIn at.catalog.listing tables number tid k → connected tables relation.name tid ≡ None → ⊥
  not_unlinked k l none =
      let same : l.relation ≡ relation = same_Some _ _ (sym l.at ∙ at_number) in
      let definition : LinkDef = link_definition at.catalog.listing l.link l.child in
      let no = none_of connects (finite.entries tables.definitions.links) (unmapped (λ (link : Name × LinkDef). link.0) (find connects (finite.entries tables.definitions.links)) none) (l.link.name, definition)
      (in_entries name_apart tables.definitions.links l.link.name definition (defines.paths.links k l.link l.child l.listed)) in
      false_true (ap (λ (r : RelationEntry). is_connected tables.contents r.name tid (l.link.name, definition)) (sym same) ∙ l.is) no

  pub unlinked_of_all : ((k : ℕ) → IsLinkedIn at.catalog.listing tables number tid k → ⊥) → connected tables relation.name tid ≡ None
  unlinked_of_all none = by (find connects (finite.entries tables.definitions.links)) refl
    where
      by : (o : Option (Name × LinkDef)) → find connects (finite.entries tables.definitions.links) ≡ o → option_map (λ (link : Name × LinkDef). link.0) (find connects (finite.entries tables.definitions.links)) ≡ None
      by None e = ap (option_map (λ (link : Name × LinkDef). link.0)) e
      by (Some link) e =
          let found = find_in connects (finite.entries tables.definitions.links) link e in
          let defined : finite.get tables.definitions.links link.0 ≡ Some link.1 = got_in name_total name_apart tables.definitions.links link.0 link.1 found.0 in
          let named = named_link at.catalog.listing link.0 (defines.paths.only_links link.0 (ap is_some defined)) in
          let child = some_of (relation_at at.catalog.listing named.link.child) (over.spells.listed.paths.links named.number named.link named.at).child in
          let listed : IsListedLink at.catalog.listing named.number named.link child.0 = record { at = named.at; within = child.1 } in
          let same : link.1 ≡ link_definition at.catalog.listing named.link child.0 =
          same_Some _ _ (sym defined ∙ ap (finite.get tables.definitions.links) (sym named.named) ∙ defines.paths.links named.number named.link child.0 listed) in
          absurd (none named.number (record {
            relation = relation;
            link = named.link;
            child = child.0;
            at = at_number;
            listed = listed;
            is = (λ i. is_connected tables.contents relation.name tid (named.named i, sym same i)) ∙ found.1;
          }))
