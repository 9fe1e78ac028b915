-- The bytes between the number of a relation and the values: what they are in the tables that the pages spell.
use Rattle.std.proofs.Common.{◌≡◌, inl, inr, ℕ, ◌+◌, ◌*◌, ◌^◌, ◌<◌, ◌≤◌, Bool, true, false, ◌&&◌, ◌==◌, List, [], ◌∷◌, ◌++◌, length, refl, sym, ◌∙◌, ap, arith}
use Rattle.std.specs.Prelude.{Option, Some, None, is_some, option_map, count_by, if◌then◌else◌}
use Rattle.std.proofs.lemmas.Bool.{cases_Bool}
use Rattle.std.proofs.lemmas.List.Sums.{sum_by-cons}
use Rattle.std.proofs.lemmas.Option.{same_Some}
use Rattle.rss_base.specs.Paged.{Held}
use Rattle.rss_base.specs.Prefixes.{Outside, block_size, early_part, listed_block_size, prefix_size}
use Rattle.rss_base.specs.TupleTypes.{kinds, tuple_bytes}
use Rattle.rss_base.specs.Listings.{Listing, ListingFits, relation_at, is_parent_in, has_role}
use Rattle.rss_base.specs.declared.name.Name.{Name}
use Rattle.rss_base.specs.declared.tid.Tid.{Tid}
use Rattle.rss_base.specs.declared.item.Item.TheVariants.{Tuple as TupleItem}
use Rattle.rss_base.specs.declared.value.FieldForm.{FieldForm}
use Rattle.rss_base.specs.declared.value.Value.{Value}
use Rattle.rss_base.specs.declared.relation.RelationEntry.{RelationEntry}
use Rattle.rss_base.specs.declared.link.LinkEntry.{LinkEntry}
use Rattle.rss_base.specs.declared.change.Change as told
use Rattle.rss_tuple.specs.Directory.{Bodies, bodies_of}
use Rattle.rss_entries.specs.Images.{AreTuples}
use Rattle.rss_model.specs.Items.{Values}
use Rattle.rss_model.specs.Tables.{Definitions, Contents, Tables, content, put}
use Rattle.rss_model.specs.Chains.{is_there, LinksFit}
use Rattle.rss_model.specs.Fits.{IsLive, IsIdentifier}
use Rattle.rss_stored.specs.Store.{Defines, SpellsTables, fields_at, prefix_of, body_of}
use Rattle.rss_stored.proofs.Blocks.{prefix_long}
use Rattle.rss_model.proofs.Counts.{one_if}
use Rattle.rss_stored.proofs.Prefixes.{prefix_blank, absent_blank}
use Rattle.rss_base.proofs.Fronts.{front_parts}
use Rattle.rss_model.proofs.Standing.{or_none}
use Rattle.rss_members.specs.Members.{SpellsMembers, blank_block, blank_listed, blank_prefix}
use Rattle.rss_members.proofs.Prefixed.{size_most}
use Rattle.rss_members.proofs.Alone.{prefix_alone, absent_prefix, tuple_keeps_links}
use Rattle.rss_access.specs.Told.{number_told, tid_told, values_before, values_after, stays, body_with, body_before, IsPrefix}

-- ---- the tables, as far as tuples and chains go

pub members_by : {held : Held} {listing : Listing} {tables : Tables} {slots : ℕ} → slots < 2 ^ 32 → SpellsTables held listing tables → AreTuples tables → LinksFit tables → ((relation : Name) (tid : Tid) → IsLive tables relation tid → IsIdentifier slots tid) → SpellsMembers listing (bodies_of held) tables
members_by small spells tuples links tids = record {
  listed = spells.listed;
  defines = spells.defines;
  contents = spells.contents;
  tuples = tuples;
  links = links;
  tids = λ relation tid there. let id = tids relation tid there in (omega (arith, id.page, small), omega (arith, id.slot));
}

-- ---- the body of a tuple with values

-- what a body has between the number and the values, by the values' bytes
abbrev pub spelled_with : List FieldForm → ℕ → List ℕ → List Value → List ℕ
spelled_with fields number prefix values = body_with number prefix (tuple_bytes fields values)

-- bytes that a change tells, where they are those of values
pub bodies_told : (fields : List FieldForm) (number : ℕ) (prefix : List ℕ) (bytes : Option (List ℕ)) (values : Option (List Value)) → bytes ≡ option_map (tuple_bytes fields) values → option_map (body_with number prefix) bytes ≡ option_map (spelled_with fields number prefix) values
bodies_told fields number prefix bytes None is = ap (option_map (body_with number prefix)) is
bodies_told fields number prefix bytes (Some values) is = ap (option_map (body_with number prefix)) is

-- two bodies of one relation whose prefixes are as long as it has in links
pub body_parts : (number other : ℕ) (prefix prefix_too bytes bytes_too : List ℕ) → length prefix ≡ length prefix_too → body_with number prefix bytes ≡ body_with other prefix_too bytes_too → (prefix ≡ prefix_too) × (bytes ≡ bytes_too)
body_parts number other prefix prefix_too bytes bytes_too long same = front_parts prefix prefix_too bytes bytes_too long (rests number other (prefix ++ bytes) (prefix_too ++ bytes_too) same)
  where
    rests : (n m : ℕ) (x y : List ℕ) → n ∷ x ≡ m ∷ y → x ≡ y
    rests n m x y same = cc

pub first_same : (a b : ℕ) (x y : List ℕ) → a ∷ x ≡ b ∷ y → a ≡ b
first_same a b x y same = cc

-- a body that is there has the prefix of its tuple
pub prefix_stands : (listing : Listing) (contents : Contents) (number : ℕ) (tid : Tid) (values : List Value) (prefix bytes : List ℕ) → length prefix ≡ prefix_size listing.links number → body_of listing contents number tid values ≡ body_with number prefix bytes → prefix_of listing contents number tid ≡ prefix
prefix_stands listing contents number tid values prefix bytes long same =
    (body_parts number number (prefix_of listing contents number tid) prefix (tuple_bytes (fields_at listing number) values) bytes (prefix_long listing contents number tid ∙ sym long) same).0

-- ---- what a change finds

-- there is no tuple before it, or none after it
no_bytes : (fields : List FieldForm) (bytes : Option (List ℕ)) (values : Option (List Value)) → bytes ≡ option_map (tuple_bytes fields) values → values ≡ None → is_some bytes ≡ false
no_bytes fields bytes values is none = ap is_some is ∙ ap (λ (v : Option (List Value)). is_some (option_map (tuple_bytes fields) v)) none

comes : (told_change : told.Change) → is_some (values_before told_change) ≡ false → stays told_change ≡ false
comes told_change none = ap (λ (b : Bool). b && is_some (values_after told_change)) none

goes : (told_change : told.Change) → is_some (values_after told_change) ≡ false → stays told_change ≡ false
goes told_change none = ap (λ (b : Bool). is_some (values_before told_change) && b) none ∙ and_false (is_some (values_before told_change))
  where
    and_false : (b : Bool) → (b && false) ≡ false
    and_false true = refl
    and_false false = refl

module _ {listing : Listing} {bodies : Bodies} {tables : Tables} (spells : SpellsMembers listing bodies tables) (told_change : told.Change) (relation : RelationEntry) (at : relation_at listing (number_told told_change) ≡ Some relation) (was : Option (List Value)) (holds : content tables.contents (TupleItem relation.name (tid_told told_change)) ≡ option_map Values was) where
  abbrev number : ℕ
  number = number_told told_change

  abbrev tid : Tid
  tid = tid_told told_change

  abbrev fields : List FieldForm
  fields = kinds relation.fields

  -- a tuple that isn't there has a blank prefix
  pub blank_absent : was ≡ None → prefix_of listing tables.contents number tid ≡ blank_prefix listing number
  blank_absent none = absent_prefix spells number tid relation at (ap is_some holds ∙ ap (λ (w : Option (List Value)). is_some (option_map Values w)) none)

  module _ (before : values_before told_change ≡ option_map (tuple_bytes fields) was) {prefix : List ℕ} (fitting : IsPrefix listing told_change prefix) (found : bodies relation.segment tid ≡ body_before prefix told_change) where
    -- what stands in the body is what the tables say
    pub prefix_told : prefix_of listing tables.contents number tid ≡ prefix
    prefix_told = by was refl
      where
        by : (w : Option (List Value)) → was ≡ w → prefix_of listing tables.contents number tid ≡ prefix
        by None none = blank_absent none ∙ sym (fitting.blank (comes told_change (no_bytes fields (values_before told_change) was before none)))
        by (Some values) some =
            let stands = spells.contents.stands number relation tid values at (holds ∙ ap (option_map Values) some) in
            let told : body_before prefix told_change ≡ Some (body_with number prefix (tuple_bytes fields values)) = ap (option_map (body_with number prefix)) (before ∙ ap (option_map (tuple_bytes fields)) some) in
            prefix_stands listing tables.contents number tid values prefix (tuple_bytes fields values) fitting.long (same_Some _ _ (sym stands ∙ found ∙ told))

    -- links still fit, where the tuple becomes this or goes
    pub links_told : (next : Option (List Value)) → values_after told_change ≡ option_map (tuple_bytes fields) next → LinksFit (record tables { contents = put tables.contents (TupleItem relation.name tid) (option_map Values next) })
    links_told next after = tuple_keeps_links spells number tid relation at next (λ none. prefix_alone spells number tid (prefix_told ∙ fitting.blank (goes told_change (no_bytes fields (values_after told_change) next after none))))

-- ---- a tuple that isn't there

-- as far as the tables of a listing say, its prefix is blank
pub blank_gone : {listing : Listing} {definitions : Definitions} {contents : Contents} → ListingFits listing → Defines listing definitions → LinksFit (record { definitions = definitions; contents = contents }) → (number : ℕ) {relation : RelationEntry} → relation_at listing number ≡ Some relation → (tid : Tid) → is_there contents relation.name tid ≡ false
    → prefix_of listing contents number tid ≡ blank_prefix listing number
blank_gone {listing = listing} {contents = contents} fits defines links number {relation = relation} at tid absent =
    prefix_blank listing contents number tid (absent_blank fits defines links number relation at tid absent) {blank = blank_block} (record { outside = refl; member = refl; child = refl; parent = refl }) (blank_listed number) refl (λ link. refl)

-- ---- how long a prefix is

-- by the relation's parts in links
sizes_less : (number : ℕ) (links : List (Option LinkEntry)) → prefix_size links number ≤ count_by (has_role number) links * 18
sizes_less number [] = omega arith
sizes_less number (None ∷ links) = omega (arith, sizes_less number links, sum_by-cons (listed_block_size number) None links)
sizes_less number (Some link ∷ links) = elim (cases_Bool (has_role number (Some link))) [
  | inl on ↦ omega (arith, sizes_less number links, sum_by-cons (listed_block_size number) (Some link) links, size_most (early_part link number), counted on)
  | inr off ↦ omega (arith, sizes_less number links, sum_by-cons (listed_block_size number) (Some link) links, no_size off, passed off)
]
  where
    more : count_by (has_role number) (Some link ∷ links) ≡ one_if (has_role number (Some link)) + count_by (has_role number) links
    more = sum_by-cons (λ (o : Option LinkEntry). one_if (has_role number o)) (Some link) links

    counted : has_role number (Some link) ≡ true → count_by (has_role number) (Some link ∷ links) ≡ 1 + count_by (has_role number) links
    counted on = let same = ap (λ (b : Bool). one_if b + count_by (has_role number) links) on in omega (arith, more, same)

    passed : has_role number (Some link) ≡ false → count_by (has_role number) (Some link ∷ links) ≡ count_by (has_role number) links
    passed off = let same = ap (λ (b : Bool). one_if b + count_by (has_role number) links) off in omega (arith, more, same)

    no_size : has_role number (Some link) ≡ false → block_size (early_part link number) ≡ 0
    no_size off = let parts = or_none (link.child == number) (is_parent_in link.parent number) off in rw (parts.0, parts.1) (by link.late)
      where
        by : (late : Bool) → block_size (if late then Outside else Outside) ≡ 0
        by true = refl
        by false = refl

pub prefix_few : {listing : Listing} → ListingFits listing → (number : ℕ) → prefix_size listing.links number ≤ 288
prefix_few {listing = listing} fits number = omega (arith, sizes_less number listing.links, fits.paths.few_roles number)
