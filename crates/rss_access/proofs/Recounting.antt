-- Listings in which one relation has another count, and the tuples and pages that they say of.
use Rattle.std.proofs.Common.{◌≡◌, ◌≢◌, ◌⊎◌, inl, inr, ℕ, zero, suc, ◌+◌, ◌-◌, ◌*◌, ◌/◌, ◌<◌, ◌≤◌, Bool, true, false, cond, ◌&&◌, ◌==◌, List, ◌∷◌, ◌++◌, length, take, drop, get_or, refl, sym, ◌∙◌, ap, subst, arith, rules, []}
use Rattle.std.specs.Prelude.{Option, Some, None, is_some, option_map, All, IfSome, slice_set, flat_map, nat_le, unwrap_or}
use Rattle.std.specs.Ordering.{eq_by_cmp}
use Rattle.std.proofs.lemmas.Bool.{cases_Bool, cases_eq, cases_lt, cond-true, cond-false, and_parts, and_from, eqb-true, eq-eqb, true≢false}
use Rattle.std.proofs.lemmas.List.{get_or-set_same, get_or-set_other, take-set-le, drop-set-lt, drop-set-add}
use Rattle.std.proofs.lemmas.Option.{none-some, same_Some}
use Rattle.rss_base.specs.Sizes.{system_pages}
use Rattle.rss_base.specs.TupleTypes.{kinds, tuple_bytes, IsStorable}
use Rattle.rss_base.specs.Prefixes.{first_of, last_of}
use Rattle.rss_base.specs.Listings.{Listing, AreListedOnce, numbered, relation_at, with_relation, with_count, segment_spelled, relation_spelled, relations_on, catalog_page, padded, image_spelled, images_on, link_spelled, relation_pages, image_pages}
use Rattle.rss_base.specs.declared.name.Name.{Name}
use Rattle.rss_base.specs.declared.tid.Tid.{Tid}
use Rattle.rss_base.specs.declared.item.Item.{Item}
use Rattle.rss_base.specs.declared.item.Item.TheVariants.{Tuple as TupleItem}
use Rattle.rss_base.specs.declared.relation.RelationEntry.{RelationEntry}
use Rattle.rss_base.specs.declared.link.LinkEntry.{LinkEntry}
use Rattle.rss_base.specs.declared.refusal.Kind.TheVariants.{Relation as RelationKind}
use Rattle.rss_base.specs.declared.value.Value.{Value}
use Rattle.rss_catalog.specs.Catalogs.{CatalogView, Lists, page_of}
use Rattle.rss_tuple.specs.Directory.{Bodies, with_body, is_same_tid}
use Rattle.rss_model.specs.Items.{Values, item_cmp}
use Rattle.rss_model.specs.Tables.{Contents, content, put}
use Rattle.rss_stored.specs.Store.{AreEnds, IsTupleBody, IsTupleItem, IsChainItem, SpellsContents, fields_at, listed_block, prefix_of, body_of}
use Rattle.rss_model.proofs.Codes.{item_total, item_apart}
use Rattle.rss_stored.proofs.Listed.{fields_at_is}
use Rattle.rss_stored.proofs.Prefixes.{chain_kept, body_kept}
use Rattle.rss_model.proofs.Contents.{tied, content_here, content_elsewhere, same_item_of}
use Rattle.rss_model.proofs.Putting.{same_parts}
use Rattle.rss_stored.proofs.Relisted.{number_of}
use Rattle.rss_access.proofs.Prefixed.{spelled_with, first_same}
use Rattle.rss_base.specs.declared.value.FieldForm.{FieldForm}

-- The relation of this number has another count, or the same, and all else is listed as it was.
pub record Recounts (number : ℕ) (relation : RelationEntry) (old new : Listing) : Type 0 where
  pub live : ℕ
  pub segments : new.segments ≡ old.segments
  pub links : new.links ≡ old.links
  pub here : relation_at new number ≡ Some (with_count live relation)
  pub others : (k : ℕ) → k ≢ number → relation_at new k ≡ relation_at old k

pub recounts_itself : {number : ℕ} {relation : RelationEntry} {listing : Listing} → relation_at listing number ≡ Some relation → Recounts number relation listing listing
recounts_itself {relation = relation} at = record { live = relation.live; segments = refl; links = refl; here = at; others = λ k other. refl }

-- ---- a body at one identifier

same_tid : (tid other : Tid) → is_same_tid other tid ≡ true → other ≡ tid
same_tid tid other is = search rules

tid_itself : (tid : Tid) → is_same_tid tid tid ≡ true
tid_itself tid = search rules

here_or_off : (s n : ℕ) (u tid : Tid) → ((s ≡ n) × (u ≡ tid)) ⊎ (((s == n) && is_same_tid u tid) ≡ false)
here_or_off s n u tid = elim (cases_Bool ((s == n) && is_same_tid u tid)) [
  | inl is ↦ let parts = and_parts (s == n) (is_same_tid u tid) is in inl (eqb-true s n parts.0, same_tid tid u parts.1)
  | inr off ↦ inr off
]

with_here : (bodies : Bodies) (n : ℕ) (tid : Tid) (body : Option (List ℕ)) → with_body bodies n tid body n tid ≡ body
with_here bodies n tid body = cond-true _ body (bodies n tid) (and_from (n == n) (is_same_tid tid tid) (eq-eqb n n refl) (tid_itself tid))

with_off : (bodies : Bodies) (n : ℕ) (tid : Tid) (body : Option (List ℕ)) (s : ℕ) (u : Tid) → ((s == n) && is_same_tid u tid) ≡ false → with_body bodies n tid body s u ≡ bodies s u
with_off bodies n tid body s u off = cond-false _ body (bodies s u) off

-- ---- what the tuple holds now

next_values : (next : Option (List Value)) (values : List Value) → option_map Values next ≡ Some (Values values) → next ≡ Some values
next_values None values is = absurd (cc)
next_values (Some others) values is = cc

next_body : (fields : List FieldForm) (number : ℕ) (prefix : List ℕ) (next : Option (List Value)) (body : List ℕ) → option_map (spelled_with fields number prefix) next ≡ Some body → (values : List Value) × (next ≡ Some values) × (body ≡ spelled_with fields number prefix values)
next_body fields number prefix None body is = absurd (cc)
next_body fields number prefix (Some values) body is = (values, refl, sym (same_Some _ _ is))

pub same_or_other : (a b : Item) → (a ≡ b) ⊎ (a ≢ b)
same_or_other a b = elim (cases_Bool (eq_by_cmp item_cmp a b)) [
  | inl same ↦ inl (same_item_of a b same)
  | inr off ↦ inr (λ is. absurd (true≢false (sym (ap (λ (q : Item). eq_by_cmp item_cmp q b) is ∙ itself b) ∙ off)))
]
  where
    itself : (q : Item) → eq_by_cmp item_cmp q q ≡ true
    itself q = tied item_total item_apart q

-- ---- the tuples after one of them was changed

module _ {listing relisted : Listing} {number : ℕ} {relation : RelationEntry} (once : AreListedOnce RelationKind listing) (at : relation_at listing number ≡ Some relation) (recounts : Recounts number relation listing relisted) where
  -- what had a number has it still, in the same segment
  record IsStill (k : ℕ) (entry : RelationEntry) : Type 0 where
    still : RelationEntry
    at_still : relation_at relisted k ≡ Some still
    named : still.name ≡ entry.name
    within_still : still.segment ≡ entry.segment

  is_still : (k : ℕ) (entry : RelationEntry) → relation_at listing k ≡ Some entry → IsStill k entry
  is_still k entry was = elim (cases_eq k number) [
    | inl same ↦
        let one : relation ≡ entry = same_Some _ _ (sym at ∙ ap (relation_at listing) (sym same) ∙ was) in
        record { still = with_count recounts.live relation; at_still = ap (relation_at relisted) same ∙ recounts.here; named = ap (λ (r : RelationEntry). r.name) one; within_still = ap (λ (r : RelationEntry). r.segment) one }
    | inr other ↦ record { still = entry; at_still = recounts.others k other ∙ was; named = refl; within_still = refl }
  ]

  -- and the same fields
  fields_still : (k : ℕ) → fields_at relisted k ≡ fields_at listing k
  fields_still k = elim (cases_eq k number) [
    | inl same ↦
        ap (fields_at relisted) same ∙ fields_at_is relisted number (with_count recounts.live relation) recounts.here
        ∙ sym (fields_at_is listing number relation at) ∙ ap (fields_at listing) (sym same)
    | inr other ↦ ap (λ (entry : Option RelationEntry). unwrap_or (option_map (λ (r : RelationEntry). kinds r.fields) entry) []) (recounts.others k other)
  ]

  -- a relation of the same name has the same number
  one_number : (k : ℕ) (entry : RelationEntry) → relation_at listing k ≡ Some entry → entry.name ≡ relation.name → k ≡ number
  one_number k entry was same = once k number relation.name (number_of listing k entry was ∙ ap Some same) (number_of listing number relation at)

  module _ {bodies : Bodies} {contents : Contents} (old : SpellsContents listing bodies contents) (tid : Tid) (prefix : List ℕ) (mine : prefix_of listing contents number tid ≡ prefix) (was next : Option (List Value)) (held : content contents (TupleItem relation.name tid) ≡ option_map Values was) (absent : was ≡ None → bodies relation.segment tid ≡ None) (storable : IfSome next (All IsStorable)) where
    abbrev after : Contents
    after = put contents (TupleItem relation.name tid) (option_map Values next)

    abbrev bodies_after : Bodies
    bodies_after = with_body bodies relation.segment tid (option_map (spelled_with (kinds relation.fields) number prefix) next)

    -- prefixes are what they were
    body_still : (k : ℕ) (u : Tid) (values : List Value) → body_of relisted after k u values ≡ body_of listing contents k u values
    body_still k u values =
        (λ i. k ∷ (flat_map (listed_block after k u) (recounts.links i) ++ tuple_bytes (fields_still k i) values))
        ∙ body_kept contents relation.name tid (option_map Values next) listing k u values

    -- such is the body of the tuple itself
    own_body : (values : List Value) → spelled_with (kinds relation.fields) number prefix values ≡ body_of listing contents number tid values
    own_body values = λ i. number ∷ (sym mine i ++ tuple_bytes (sym (fields_at_is listing number relation at) i) values)

    held_now : content after (TupleItem relation.name tid) ≡ option_map Values next
    held_now = content_here contents (TupleItem relation.name tid) (option_map Values next)

    -- no tuple of another relation of the segment has the identifier
    alone : (k : ℕ) (values : List Value) → bodies relation.segment tid ≡ Some (body_of listing contents k tid values) → k ≡ number
    alone k values stands = by was refl
      where
        by : (w : Option (List Value)) → was ≡ w → k ≡ number
        by None is = absurd (none-some _ (sym (absent is) ∙ stands))
        by (Some w) is =
            let own = old.stands number relation tid w at (held ∙ ap (option_map Values) is) in
            first_same k number _ _ (same_Some _ _ (sym stands ∙ own))

    stands_here : (u : Tid) (values : List Value) → content after (TupleItem relation.name u) ≡ Some (Values values) → bodies_after relation.segment u ≡ Some (body_of listing contents number u values)
    stands_here u values holds = elim (here_or_off relation.segment relation.segment u tid) [
      | inl here ↦
          let now : next ≡ Some values = next_values next values (sym held_now ∙ ap (λ (v : Tid). content after (TupleItem relation.name v)) (sym here.1) ∙ holds) in
          ap (bodies_after relation.segment) here.1 ∙ with_here bodies relation.segment tid (option_map (spelled_with (kinds relation.fields) number prefix) next) ∙ ap (option_map (spelled_with (kinds relation.fields) number prefix)) now
          ∙ ap Some (own_body values) ∙ ap (λ (v : Tid). Some (body_of listing contents number v values)) (sym here.1)
      | inr off ↦
          let other : TupleItem relation.name u ≢ TupleItem relation.name tid = λ same. not_same u off (same_parts relation.name relation.name u tid same).1 in
          with_off bodies relation.segment tid (option_map (spelled_with (kinds relation.fields) number prefix) next) relation.segment u off
          ∙ old.stands number relation u values at (sym (content_elsewhere contents (TupleItem relation.name tid) (option_map Values next) (TupleItem relation.name u) other) ∙ holds)
    ]
      where
        not_same : (u : Tid) → ((relation.segment == relation.segment) && is_same_tid u tid) ≡ false → u ≡ tid → ⊥
        not_same u off same = true≢false (sym (ap (λ (v : Tid). (relation.segment == relation.segment) && is_same_tid v tid) same ∙ and_from (relation.segment == relation.segment) (is_same_tid tid tid) (eq-eqb relation.segment relation.segment refl) (tid_itself tid)) ∙ off)

    stands_other : (k : ℕ) (entry : RelationEntry) (u : Tid) (values : List Value) → k ≢ number → relation_at listing k ≡ Some entry → content after (TupleItem entry.name u) ≡ Some (Values values) → bodies_after entry.segment u ≡ Some (body_of listing contents k u values)
    stands_other k entry u values other there holds =
        let off : TupleItem entry.name u ≢ TupleItem relation.name tid = λ same. other (one_number k entry there (same_parts entry.name relation.name u tid same).0) in
        let stands : bodies entry.segment u ≡ Some (body_of listing contents k u values) = old.stands k entry u values there (sym (content_elsewhere contents (TupleItem relation.name tid) (option_map Values next) (TupleItem entry.name u) off) ∙ holds) in
        elim (here_or_off entry.segment relation.segment u tid) [
          | inl here ↦ absurd (other (alone k values ((λ i. bodies (sym here.0 i) (sym here.1 i)) ∙ stands ∙ ap (λ (v : Tid). Some (body_of listing contents k v values)) here.1)))
          | inr apart ↦ with_off bodies relation.segment tid (option_map (spelled_with (kinds relation.fields) number prefix) next) entry.segment u apart ∙ stands
        ]

    stands_after : (k : ℕ) (entry : RelationEntry) (u : Tid) (values : List Value) → relation_at relisted k ≡ Some entry → content after (TupleItem entry.name u) ≡ Some (Values values) → bodies_after entry.segment u ≡ Some (body_of relisted after k u values)
    stands_after k entry u values there holds = by_number ∙ ap Some (sym (body_still k u values))
      where
        by_number : bodies_after entry.segment u ≡ Some (body_of listing contents k u values)
        by_number = elim (cases_eq k number) [
          | inl same ↦
              let one : with_count recounts.live relation ≡ entry = same_Some _ _ (sym recounts.here ∙ ap (relation_at relisted) (sym same) ∙ there) in
              let stands = stands_here u values (ap (λ (r : RelationEntry). content after (TupleItem r.name u)) one ∙ holds) in
              ap (λ (r : RelationEntry). bodies_after r.segment u) (sym one) ∙ stands ∙ ap (λ (n : ℕ). Some (body_of listing contents n u values)) (sym same)
          | inr other ↦ stands_other k entry u values other (sym (recounts.others k other) ∙ there) holds
        ]

    body_here : (segment : ℕ) (u : Tid) (body : List ℕ) → segment ≡ relation.segment → u ≡ tid → option_map (spelled_with (kinds relation.fields) number prefix) next ≡ Some body → IsTupleBody relisted after segment u body
    body_here segment u body in_it same is =
        let values = next_body (kinds relation.fields) number prefix next body is in
        record {
          number = number;
          relation = with_count recounts.live relation;
          values = values.0;
          at = recounts.here;
          within = sym in_it;
          is = values.2 ∙ own_body values.0 ∙ ap (λ (v : Tid). body_of listing contents number v values.0) (sym same) ∙ sym (body_still number u values.0);
          storable = subst (λ (n : Option (List Value)). IfSome n (All IsStorable)) values.1 storable;
          holds = ap (λ (v : Tid). content after (TupleItem relation.name v)) same ∙ held_now ∙ ap (option_map Values) values.1;
        }

    body_other : (segment : ℕ) (u : Tid) (body : List ℕ) → ((segment == relation.segment) && is_same_tid u tid) ≡ false → bodies segment u ≡ Some body → IsTupleBody relisted after segment u body
    body_other segment u body off stands =
        let of = old.bodies_are segment u body stands in
        let still = is_still of.number of.relation of.at in
        let other : TupleItem of.relation.name u ≢ TupleItem relation.name tid = λ same.
        let parts = same_parts of.relation.name relation.name u tid same in
        let one : relation ≡ of.relation = same_Some _ _ (sym at ∙ ap (relation_at listing) (sym (one_number of.number of.relation of.at parts.0)) ∙ of.at) in
        let in_it : segment ≡ relation.segment = sym of.within ∙ ap (λ (r : RelationEntry). r.segment) (sym one) in
        true≢false (sym (and_from (segment == relation.segment) (is_same_tid u tid) (eq-eqb segment relation.segment in_it) (ap (λ (v : Tid). is_same_tid v tid) parts.1 ∙ tid_itself tid)) ∙ off)
        in
        record {
          number = of.number;
          relation = still.still;
          values = of.values;
          at = still.at_still;
          within = still.within_still ∙ of.within;
          is = of.is ∙ sym (body_still of.number u of.values);
          storable = of.storable;
          holds = ap (λ (n : Name). content after (TupleItem n u)) still.named ∙ content_elsewhere contents (TupleItem relation.name tid) (option_map Values next) (TupleItem of.relation.name u) other ∙ of.holds;
        }

    item_after : (item : Item) → is_some (content after item) ≡ true → IsTupleItem relisted item ⊎ IsChainItem relisted item
    item_after item there = elim (same_or_other item (TupleItem relation.name tid)) [
      | inl same ↦ inl (record { number = number; relation = with_count recounts.live relation; tid = tid; at = recounts.here; is = same })
      | inr other ↦ elim (old.only item (ap is_some (sym (content_elsewhere contents (TupleItem relation.name tid) (option_map Values next) item other)) ∙ there)) [
        | inl on ↦
            let still = is_still on.number on.relation on.at in
            inl (record { number = on.number; relation = still.still; tid = on.tid; at = still.at_still; is = on.is ∙ ap (λ (n : Name). TupleItem n on.tid) (sym still.named) })
        | inr on ↦ inr (record { number = on.number; link = on.link; parent = on.parent; at = ap (λ (l : List (Option LinkEntry)). numbered l on.number) recounts.links ∙ on.at; is = on.is })
      ]
    ]

    -- chains are what they were
    ends_after : AreEnds relisted after
    ends_after k link there =
        let ends = old.ends k link (ap (λ (l : List (Option LinkEntry)). numbered l k) (sym recounts.links) ∙ there) in
        let chain_is = sym (chain_kept contents relation.name tid (option_map Values next) link.name None) in
        (ends.0 ∙ ap first_of chain_is, ends.1 ∙ ap last_of chain_is)

    -- the bodies are those of the tuples that there are now
    pub contents_changed : SpellsContents relisted bodies_after after
    contents_changed = record {
      stands = stands_after;
      bodies_are = λ segment u body stands. elim (here_or_off segment relation.segment u tid) [
        | inl here ↦ body_here segment u body here.0 here.1 (sym ((λ i. bodies_after (here.0 i) (here.1 i)) ∙ with_here bodies relation.segment tid (option_map (spelled_with (kinds relation.fields) number prefix) next)) ∙ stands)
        | inr off ↦ body_other segment u body off (sym (with_off bodies relation.segment tid (option_map (spelled_with (kinds relation.fields) number prefix) next) segment u off) ∙ stands)
      ];
      only = item_after;
      ends = ends_after;
    }

-- ---- pages of the catalog

-- a part of a list that a place is not in
part_same : {A : Type 0} (from count : ℕ) (list : List A) (i : ℕ) (a : A) → (i < from) ⊎ (from + count ≤ i) → take count (drop from (slice_set list i a)) ≡ take count (drop from list)
part_same from count list i a (inl before) = ap (take count) (drop-set-lt from list i a before)
part_same {A = A} from count list i a (inr behind) =
    let place : from + (i - from) ≡ i = omega (arith, behind) in
    ap (λ (j : ℕ). take count (drop from (slice_set list j a))) (sym place) ∙ ap (take count) (drop-set-add from list (i - from) a) ∙ take-set-le count (drop from list) (i - from) a (omega (arith, behind))

-- a page that doesn't have the relation's place
pub page_same : (listing : Listing) (number : ℕ) (entry : Option RelationEntry) (page : ℕ) → page ≢ 1 + (number - 1) / 8 → catalog_page (with_relation listing number entry) page ≡ catalog_page listing page
page_same listing number entry zero other = refl
page_same listing number entry (suc page) other =
    let part : relations_on (with_relation listing number entry) (suc page) ≡ relations_on listing (suc page) = part_same (8 * (suc page - 1)) 8 listing.relations (number - 1) entry (outside (number - 1) page (λ same. other (omega (arith, same)))) in
    ap (λ (on_page : List (Option RelationEntry)). padded 4096 (cond (suc page == 0) (flat_map segment_spelled listing.segments) (cond (nat_le (suc page) relation_pages) (flat_map relation_spelled on_page) (cond (nat_le (suc page) (relation_pages + image_pages)) (flat_map image_spelled (images_on listing (suc page))) (flat_map link_spelled listing.links))))) part
  where
    outside : (i page : ℕ) → (i / 8 ≡ page → ⊥) → (i < 8 * (suc page - 1)) ⊎ (8 * (suc page - 1) + 8 ≤ i)
    outside i page off = elim (cases_lt i (8 * (suc page - 1))) [
      | inl before ↦ inl before
      | inr from ↦ elim (cases_lt i (8 * (suc page - 1) + 8)) [
        | inl inside ↦ absurd (off (omega (arith, from, inside)))
        | inr past ↦ inr past
      ]
    ]

module _ {before after : CatalogView} (number : ℕ) (entry : RelationEntry) (places : length before.pending ≡ system_pages) (lists : Lists (with_relation before.listing number (Some entry)) (page_of RelationKind number) before after) (page : ℕ) (low : page < system_pages) where
  -- a page that isn't to be written still isn't, and is spelled as it was
  pub still_spelled : (get_or after.pending page false ≡ true → ⊥) → (get_or before.pending page false ≡ true → ⊥) × (catalog_page after.listing page ≡ catalog_page before.listing page)
  still_spelled not = elim (cases_eq page (1 + (number - 1) / 8)) [
    | inl here ↦ absurd (not (ap (λ (l : List Bool). get_or l page false) lists.pending ∙ ap (λ (q : ℕ). get_or (slice_set before.pending (1 + (number - 1) / 8) true) q false) here ∙ get_or-set_same before.pending (1 + (number - 1) / 8) true false (omega (arith, here, low, places))))
    | inr other ↦ (
      λ was. not (ap (λ (l : List Bool). get_or l page false) lists.pending ∙ get_or-set_other before.pending (1 + (number - 1) / 8) page true false other ∙ was),
      ap (λ (l : Listing). catalog_page l page) lists.is ∙ page_same before.listing number (Some entry) page other,
    )
  ]
