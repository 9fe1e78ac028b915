-- The links that are defined are those that are listed.
use Rattle.std.proofs.Common.{◌≡◌, ℕ, Bool, true, false, List, [], ◌∷◌, Option, Some, None, inl, inr, refl, sym, ◌∙◌, ap}
use Rattle.std.specs.Prelude.{is_some, option_map, option_and_then, find}
use Rattle.std.specs.FinMap as map
use Rattle.std.specs.Cmp.{Equal-is}
use Rattle.std.proofs.lemmas.Option.{same_Some}
use Rattle.rss_base.specs.Listings.{IsNumberOf, relation_at, link_at, Listing}
use Rattle.rss_base.specs.declared.name.Name.{Name}
use Rattle.rss_base.specs.declared.relation.RelationEntry.{RelationEntry}
use Rattle.rss_base.specs.declared.link.LinkEntry.{LinkEntry}
use Rattle.rss_base.specs.declared.refusal.Kind.TheVariants.{Link as LinkKind}
use Rattle.rss_catalog.proofs.Numbered.{numbered_map}
use Rattle.rss_tuple.specs.Directory.{Bodies}
use Rattle.rss_model.specs.Items.{name_cmp, is_name}
use Rattle.rss_model.specs.Tables.{LinkDef, Tables}
use Rattle.rss_stored.specs.Store.{IsListedLink, relation_name, link_definition}
use Rattle.rss_model.proofs.Codes.{name_total, name_apart}
use Rattle.rss_model.proofs.Contents.{tied}
use Rattle.rss_model.proofs.Locking.{in_entries}
use Rattle.rss_model.proofs.LogLists.{none_some, some_of}
use Rattle.rss_model.proofs.Mixing.{In}
use Rattle.rss_stored.proofs.Relisted.{number_of}
use Rattle.rss_model.proofs.SeenAlike.{got_in}
use Rattle.rss_members.specs.Members.{SpellsMembers}

pub find_none : {A : Type 0} (p : A → Bool) (xs : List A) → ((x : A) → In x xs → p x ≡ false) → find p xs ≡ None
find_none p [] none = refl
find_none p (x ∷ xs) none = rw (none x (inl refl)) (find_none p xs (λ y is. none y (inr is)))

pub name_itself : (name : Name) → is_name name name ≡ true
name_itself name = tied name_total name_apart name

pub name_same : (a b : Name) → is_name a b ≡ true → a ≡ b
name_same a b is = name_apart a b ((Equal-is (name_cmp a b)).0 is)

-- the link of a number whose name is known
link_named : (listing : Listing) (name : Name) (number : ℕ) → IsNumberOf LinkKind listing name number → (link : LinkEntry) × (link_at listing number ≡ Some link) × (link.name ≡ name)
link_named listing name number is = by (link_at listing number) refl (sym (numbered_map (λ (l : LinkEntry). l.name) listing.links number) ∙ is)
  where
    by : (o : Option LinkEntry) → link_at listing number ≡ o → option_map (λ (l : LinkEntry). l.name) o ≡ Some name → (link : LinkEntry) × (link_at listing number ≡ Some link) × (link.name ≡ name)
    by None at named = none_some named
    by (Some link) at named = (link, at, same_Some _ _ named)

-- a link that is defined has a number
pub record IsNumbered (listing : Listing) (one : Name × LinkDef) : Type 0 where
  pub number : ℕ
  pub link : LinkEntry
  pub child : RelationEntry
  pub listed : IsListedLink listing number link child
  pub is : one ≡ (link.name, link_definition listing link child)

module _ {listing : Listing} {bodies : Bodies} {tables : Tables} (spells : SpellsMembers listing bodies tables) where
  -- each link that is listed has a relation of its children
  pub child_listed : (number : ℕ) (link : LinkEntry) → link_at listing number ≡ Some link → (child : RelationEntry) × IsListedLink listing number link child
  child_listed number link at =
      let there = some_of (relation_at listing link.child) (spells.listed.paths.links number link at).child in
      (there.0, record { at = at; within = there.1 })

  pub link_in : (number : ℕ) (link : LinkEntry) (child : RelationEntry) → IsListedLink listing number link child → In (link.name, link_definition listing link child) (map.entries tables.definitions.links)
  link_in number link child listed = in_entries name_apart tables.definitions.links link.name (link_definition listing link child) (spells.defines.paths.links number link child listed)

  pub link_numbered : (name : Name) (link : LinkDef) → map.get tables.definitions.links name ≡ Some link → IsNumbered listing (name, link)
  link_numbered name link got =
      let has = spells.defines.paths.only_links name (ap is_some got) in
      let found = link_named listing name has.0 has.1 in
      let of = child_listed has.0 found.0 found.1 in
      let same : link ≡ link_definition listing found.0 of.0 = same_Some _ _ (sym got ∙ ap (map.get tables.definitions.links) (sym found.2) ∙ spells.defines.paths.links has.0 found.0 of.0 of.1) in
      record { number = has.0; link = found.0; child = of.0; listed = of.1; is = λ i. (sym found.2 i, same i) }

  pub numbered_in : (one : Name × LinkDef) → In one (map.entries tables.definitions.links) → IsNumbered listing one
  numbered_in one is = link_numbered one.0 one.1 (got_in name_total name_apart tables.definitions.links one.0 one.1 is)

  -- ---- a relation's part in a link, by numbers and by names

  module _ (number : ℕ) (relation : RelationEntry) (number_at : relation_at listing number ≡ Some relation) where
    -- relations of one name have one number
    pub one_number : (other : ℕ) (entry : RelationEntry) → relation_at listing other ≡ Some entry → entry.name ≡ relation.name → other ≡ number
    one_number other entry at same = spells.listed.relations_once other number relation.name (number_of listing other entry at ∙ ap (λ (n : Name). Some n) same) (number_of listing number relation number_at)

    module _ (k : ℕ) (link : LinkEntry) (child : RelationEntry) (listed : IsListedLink listing k link child) where
      pub its_child : link.child ≡ number → child.name ≡ relation.name
      its_child is = ap (λ (r : RelationEntry). r.name) (same_Some _ _ (sym listed.within ∙ ap (relation_at listing) is ∙ number_at))

      pub is_its_child : child.name ≡ relation.name → link.child ≡ number
      is_its_child same = one_number link.child child listed.within same

      pub its_parent : link.parent ≡ Some number → (link_definition listing link child).parent ≡ Some relation.name
      its_parent is = ap (option_and_then (relation_name listing)) is ∙ ap (option_map (λ (r : RelationEntry). r.name)) number_at

      pub is_its_parent : (link_definition listing link child).parent ≡ Some relation.name → link.parent ≡ Some number
      is_its_parent is = by link.parent refl is
        where
          named : (p : ℕ) (o : Option RelationEntry) → relation_at listing p ≡ o → option_map (λ (r : RelationEntry). r.name) o ≡ Some relation.name → p ≡ number
          named p None at same = none_some same
          named p (Some entry) at same = one_number p entry at (same_Some _ _ same)

          by : (above : Option ℕ) → link.parent ≡ above → option_and_then (relation_name listing) above ≡ Some relation.name → link.parent ≡ Some number
          by None at same = none_some same
          by (Some p) at same = at ∙ ap (λ (n : ℕ). Some n) (named p (relation_at listing p) refl same)
