-- The relations of a listing by their numbers and names, and a listing in which one count is set.
use Rattle.std.proofs.Common.{◌≡◌, ◌≢◌, ◌⊎◌, inl, inr, ℕ, zero, suc, List, [], ◌∷◌, get_or, refl, sym, ◌∙◌, ap, subst}
use Rattle.std.specs.Prelude.{Option, Some, None, option_map, option_and_then, map as list_map}
use Rattle.std.specs.FinMap as map
use Rattle.std.proofs.lemmas.Bool.{cases_eq}
use Rattle.std.proofs.lemmas.Option.{none-some, same_Some}
use Rattle.rss_base.specs.Listings.{Listing, ListingFits, relation_at, segment_at, IsNumberOf, with_relation, with_count}
use Rattle.rss_base.specs.TupleTypes.{kinds}
use Rattle.rss_base.specs.declared.name.Name.{Name}
use Rattle.rss_base.specs.declared.link.LinkEntry.{LinkEntry}
use Rattle.rss_base.specs.declared.relation.RelationEntry.{RelationEntry}
use Rattle.rss_base.specs.declared.refusal.Kind.TheVariants.{Relation as RelationKind}
use Rattle.rss_model.specs.Tables.{RelationDef, Definitions, Tables, fields_of}
use Rattle.rss_stored.specs.Store.{Defines, HasNumber, definition_of, image_definition, link_definition, relation_name}
use Rattle.rss_stored.proofs.Listed.{at_place, listed}
use Rattle.rss_stored.proofs.Relisted.{number_within_list, number_set, number_kept, number_of}

-- ---- the relation of a number

-- the relation of this number, whose name is known
pub record HasEntry (listing : Listing) (name : Name) (number : ℕ) : Type 0 where
  pub entry : RelationEntry
  pub at : relation_at listing number ≡ Some entry
  pub named : entry.name ≡ name

pub entry_at : (listing : Listing) (name : Name) (number : ℕ) → IsNumberOf RelationKind listing name number → HasEntry listing name number
entry_at listing name zero is = absurd (none-some name is)
entry_at listing name (suc k) is =
    let some = entry listing.relations k (sym (at_place (list_map (option_map (λ (r : RelationEntry). r.name)) listing.relations) k) ∙ is) in
    record { entry = some.0; at = at_place listing.relations k ∙ some.1; named = some.2 }
  where
    named : (found : Option RelationEntry) → option_map (λ (r : RelationEntry). r.name) found ≡ Some name → (r : RelationEntry) × (found ≡ Some r) × (r.name ≡ name)
    named None is = absurd (cc)
    named (Some r) is = (r, refl, same_Some _ _ is)

    entry : (relations : List (Option RelationEntry)) (k : ℕ) → get_or (list_map (option_map (λ (r : RelationEntry). r.name)) relations) k None ≡ Some name → (r : RelationEntry) × (get_or relations k None ≡ Some r) × (r.name ≡ name)
    entry [] k is = absurd (cc)
    entry (first ∷ relations) zero is = named first is
    entry (first ∷ relations) (suc k) is = entry relations k is

-- which has this name
pub name_of : (listing : Listing) (name : Name) (number : ℕ) (entry : RelationEntry) → IsNumberOf RelationKind listing name number → relation_at listing number ≡ Some entry → entry.name ≡ name
name_of listing name number entry is at =
    let has = entry_at listing name number is in
    ap (λ (r : RelationEntry). r.name) (same_Some _ _ (sym at ∙ has.at)) ∙ has.named

-- no two relations have one name
pub names_apart : {listing : Listing} → ListingFits listing → (j k : ℕ) (one other : RelationEntry) → relation_at listing j ≡ Some one → relation_at listing k ≡ Some other → j ≢ k → one.name ≢ other.name
names_apart {listing = listing} fits j k one other first second apart same =
    apart (fits.relations_once j k one.name (number_of listing j one first) (number_of listing k other second ∙ ap Some (sym same)))

-- what a listed relation's fields are
pub fields_listed : {listing : Listing} (tables : Tables) → ListingFits listing → Defines listing tables.definitions → (number : ℕ) (entry : RelationEntry) → relation_at listing number ≡ Some entry → fields_of tables entry.name ≡ Some (kinds entry.fields)
fields_listed tables fits defines number entry at =
    let so = listed fits defines number entry at in
    ap (option_map (λ (r : RelationDef). kinds r.fields)) (defines.relations number entry so.0 so.1)

-- ---- one count is set

module _ (listing : Listing) (number live : ℕ) (entry : RelationEntry) (at : relation_at listing number ≡ Some entry) where
  abbrev counted_listing : Listing
  counted_listing = with_relation listing number (Some (with_count live entry))

  pub counted_here : relation_at counted_listing number ≡ Some (with_count live entry)
  counted_here = let within = number_within_list listing.relations number entry at in number_set listing.relations number (Some (with_count live entry)) within.0 within.1

  pub counted_else : (k : ℕ) → k ≢ number → relation_at counted_listing k ≡ relation_at listing k
  counted_else k other = number_kept listing.relations number (Some (with_count live entry)) (number_within_list listing.relations number entry at).0 k other

  -- what has a number is the relation with this count, or had it
  pub counted_or_old : (k : ℕ) (relation : RelationEntry) → relation_at counted_listing k ≡ Some relation
      → ((k ≡ number) × (with_count live entry ≡ relation)) ⊎ ((k ≢ number) × (relation_at listing k ≡ Some relation))
  counted_or_old k relation is = elim (cases_eq k number) [
    | inl same ↦ inl (same, same_Some _ _ (sym counted_here ∙ ap (relation_at counted_listing) (sym same) ∙ is))
    | inr other ↦ inr (other, sym (counted_else k other) ∙ is)
  ]

  -- each relation has its name
  name_kept : (k : ℕ) → relation_name counted_listing k ≡ relation_name listing k
  name_kept k = elim (cases_eq k number) [
    | inl same ↦ ap (relation_name counted_listing) same ∙ ap (option_map (λ (r : RelationEntry). r.name)) counted_here ∙ sym (ap (relation_name listing) same ∙ ap (option_map (λ (r : RelationEntry). r.name)) at)
    | inr other ↦ ap (option_map (λ (r : RelationEntry). r.name)) (counted_else k other)
  ]

  link_kept : (link : LinkEntry) (child : RelationEntry) → link_definition listing link child ≡ link_definition counted_listing link child
  link_kept link child = λ i. record { parent = option_and_then (λ k. sym (name_kept k) i) link.parent; child = child.name; late = link.late }

  -- the same is defined
  pub counted_defines : {definitions : Definitions} → Defines listing definitions → Defines counted_listing definitions
  counted_defines {definitions = definitions} defines = record {
    segments = defines.segments;
    relations = λ k relation segment l. elim (counted_or_old k relation l.at) [
      | inl here ↦
          let within : segment_at listing entry.segment ≡ Some segment = ap (λ (r : RelationEntry). segment_at listing r.segment) here.1 ∙ l.within in
          subst (λ (r : RelationEntry). map.get definitions.relations r.name ≡ Some (definition_of segment r)) here.1 (defines.relations number entry segment (record { at = at; within = within }))
      | inr was ↦ defines.relations k relation segment (record { at = was.1; within = l.within })
    ];
    only_relations = λ name there. still name (defines.only_relations name there);
    paths = record {
      images = λ k image relation l. elim (counted_or_old image.relation relation l.within) [
        | inl here ↦ subst (λ (r : RelationEntry). map.get definitions.images image.name ≡ Some (image_definition image r)) here.1 (defines.paths.images k image entry (record { at = l.at; within = ap (relation_at listing) here.0 ∙ at }))
        | inr was ↦ defines.paths.images k image relation (record { at = l.at; within = was.1 })
      ];
      only_images = defines.paths.only_images;
      links = λ k link child l. elim (counted_or_old link.child child l.within) [
        | inl here ↦ subst (λ (r : RelationEntry). map.get definitions.links link.name ≡ Some (link_definition counted_listing link r)) here.1 (defines.paths.links k link entry (record { at = l.at; within = ap (relation_at listing) here.0 ∙ at }) ∙ ap Some (link_kept link entry))
        | inr was ↦ defines.paths.links k link child (record { at = l.at; within = was.1 }) ∙ ap Some (link_kept link child)
      ];
      only_links = defines.paths.only_links;
    };
  }
    where
      still : (name : Name) → HasNumber RelationKind listing name → HasNumber RelationKind counted_listing name
      still name (k, is) = elim (cases_eq k number) [
        | inl same ↦
            let named : entry.name ≡ name = name_of listing name k entry is (ap (relation_at listing) same ∙ at) in
            (number, number_of counted_listing number (with_count live entry) counted_here ∙ ap Some named)
        | inr other ↦
            let has = entry_at listing name k is in
            (k, number_of counted_listing k has.entry (counted_else k other ∙ has.at) ∙ ap Some has.named)
      ]
