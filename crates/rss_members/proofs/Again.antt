-- Tables are spelled again once a link's chain has another list.
use Rattle.std.proofs.Common.{◌≡◌, ◌⊎◌, inl, inr, ⊎_elim, ℕ, ◌≤◌, Bool, true, false, List, length, Option, Some, None, refl, sym, ◌∙◌, ap, subst}
use Rattle.std.specs.Prelude.{not, is_some, option_map}
use Rattle.std.specs.FinMap as map
use Rattle.std.proofs.lemmas.Bool.{cases_Bool, cases_eq}
use Rattle.std.proofs.lemmas.Option.{same_Some}
use Rattle.rss_base.specs.Listings.{Listing, ListingFits, relation_at, link_at, with_link}
use Rattle.rss_base.specs.Prefixes.{Ends, first_of, last_of, ends_of}
use Rattle.rss_base.specs.declared.name.Name.{Name}
use Rattle.rss_base.specs.declared.tid.Tid.{Tid}
use Rattle.rss_base.specs.declared.item.Item.{Item}
use Rattle.rss_base.specs.declared.item.Item.TheVariants.{Tuple as TupleItem, Chain as ChainItem}
use Rattle.rss_base.specs.declared.relation.RelationEntry.{RelationEntry}
use Rattle.rss_base.specs.declared.link.LinkEntry.{LinkEntry}
use Rattle.rss_catalog.specs.Catalogs.{with_ends}
use Rattle.rss_catalog.proofs.Numbered.{numbered_within, with_same, with_other, with_cases, numbered_map}
use Rattle.rss_tuple.specs.Directory.{Bodies}
use Rattle.rss_base.specs.declared.value.Value.{Value}
use Rattle.rss_model.specs.Items.{Content, Values}
use Rattle.rss_model.specs.Tables.{Tables, content}
use Rattle.rss_model.specs.Chains.{tuples_in, chain, is_there}
use Rattle.rss_stored.specs.Store.{body_of, Defines, IsListedLink, IsTupleBody, IsTupleItem, IsChainItem, AreEnds, link_definition}
use Rattle.rss_model.proofs.LogChanging.{by_item}
use Rattle.rss_model.proofs.LogLists.{false_true, none_some}
use Rattle.rss_stored.proofs.Spelled.{name_numbered}
use Rattle.rss_link.specs.Chains.{IsParent, relinked}
use Rattle.rss_link.specs.Links.{SpellChains, KeepsBody, same, of_child, of_parent, KeepBodies}
use Rattle.rss_link.specs.Prefixed.{IsPrefixed}
use Rattle.rss_link.proofs.Lists.{list_off}
use Rattle.rss_link.proofs.Prefixed.{prefixed as is_prefixed}
use Rattle.rss_members.specs.Members.{segment_in, chains_of, listed_ends, is_parent, linkage_of, with_chain, SpellsMembers}
use Rattle.rss_members.proofs.Spelled.{HasBody}
use Rattle.rss_members.proofs.Linked.{elsewhere, tuple_stays, there_still, other_chain, chain_now}
use Rattle.rss_members.proofs.Rewritten.{links_again, body_again}

module _ {listing : Listing} {bodies : Bodies} {tables : Tables} (spells : SpellsMembers listing bodies tables) (number : ℕ) (link : LinkEntry) (at : link_at listing number ≡ Some link)
    (child : RelationEntry) (child_at : relation_at listing link.child ≡ Some child) (ends : Ends) (parent : Option Tid) (list : List Tid) (new : Bodies)
    (spelled : SpellChains (chains_of listing number link) ends new (relinked (linkage_of tables.contents link.name (link_definition listing link child)) parent list))
    (keeps : KeepBodies (chains_of listing number link) (linkage_of tables.contents link.name (link_definition listing link child)) bodies new)
    (stay : not (is_some link.parent) ≡ false → ends ≡ listed_ends link)
    (kind : IsParent (not (is_some link.parent)) (is_parent tables.contents (link_definition listing link child).parent) parent)
    (fits : ListingFits (with_link listing number (Some (with_ends ends.first ends.last link)))) where
  abbrev now : Tables
  now = with_chain tables link.name parent list

  abbrev listed : Listing
  listed = with_link listing number (Some (with_ends ends.first ends.last link))

  low : 1 ≤ number
  low = (numbered_within listing.links number link at).0

  high : number ≤ length listing.links
  high = (numbered_within listing.links number link at).1

  at_now : link_at listed number ≡ Some (with_ends ends.first ends.last link)
  at_now = with_same listing.links number (Some (with_ends ends.first ends.last link)) low high

  -- ---- what is defined

  same_name : (n : ℕ) → option_map (λ (l : LinkEntry). l.name) (link_at listed n) ≡ option_map (λ (l : LinkEntry). l.name) (link_at listing n)
  same_name n = elim (cases_eq n number) [
    | inl here ↦
        ap (λ (k : ℕ). option_map (λ (l : LinkEntry). l.name) (link_at listed k)) here
        ∙ ap (option_map (λ (l : LinkEntry). l.name)) at_now
        ∙ sym (ap (option_map (λ (l : LinkEntry). l.name)) at)
        ∙ ap (λ (k : ℕ). option_map (λ (l : LinkEntry). l.name) (link_at listing k)) (sym here)
    | inr off ↦ ap (option_map (λ (l : LinkEntry). l.name)) (with_other listing.links number n (Some (with_ends ends.first ends.last link)) low off)
  ]

  links_defined : (n : ℕ) (l : LinkEntry) (c : RelationEntry) → IsListedLink listed n l c → map.get tables.definitions.links l.name ≡ Some (link_definition listed l c)
  links_defined n l c is = ⊎_elim
      (λ here. subst (λ (e : LinkEntry). relation_at listing e.child ≡ Some c → map.get tables.definitions.links e.name ≡ Some (link_definition listed e c)) (same_Some _ _ here.1)
      (λ c_at. spells.defines.paths.links number link c (record { at = at; within = c_at })) is.within)
      (λ off. spells.defines.paths.links n l c (record { at = off.1; within = is.within }))
      (with_cases listing.links number n (Some (with_ends ends.first ends.last link)) l low high is.at)

  defines : Defines listed tables.definitions
  defines = record {
    segments = spells.defines.segments;
    relations = λ n relation segment is. spells.defines.relations n relation segment (record { at = is.at; within = is.within });
    only_relations = spells.defines.only_relations;
    paths = record {
      images = λ n image relation is. spells.defines.paths.images n image relation (record { at = is.at; within = is.within });
      only_images = spells.defines.paths.only_images;
      links = links_defined;
      only_links = λ name is.
          let has = spells.defines.paths.only_links name is in
          (has.0, numbered_map (λ (l : LinkEntry). l.name) listed.links has.0 ∙ same_name has.0 ∙ sym (numbered_map (λ (l : LinkEntry). l.name) listing.links has.0) ∙ has.1);
    };
  }

  -- ---- what is spelled

  tuple_here : (relation : Name) (tid : Tid) (held : Option Content) → content now.contents (TupleItem relation tid) ≡ held → content tables.contents (TupleItem relation tid) ≡ held
  tuple_here relation tid held is = sym (tuple_stays tables link.name parent list relation tid) ∙ is

  was_there : (o n : Option (List ℕ)) (segment : ℕ) (tid : Tid) → KeepsBody (chains_of listing number link) (linkage_of tables.contents link.name (link_definition listing link child)) segment tid o n → (body : List ℕ) → n ≡ Some body → (old : List ℕ) × (o ≡ Some old)
  was_there o n segment tid (same e) body is = (body, sym e ∙ is)
  was_there o n segment tid (of_child {body = b} here is_child was is_now agree) body is = (b, was)
  was_there o n segment tid (of_parent {body = b} two here is_parent was is_now agree) body is = (b, was)

  again : (n : ℕ) (relation : RelationEntry) (tid : Tid) → relation_at listing n ≡ Some relation → is_there tables.contents relation.name tid ≡ true → (has : HasBody spells n tid)
      → new relation.segment tid ≡ Some (body_of listed now.contents n tid has.values)
  again n relation tid n_at is has = ap (λ (s : ℕ). new s tid) (sym (ap segment_in n_at)) ∙ body_again spells number link at child child_at ends parent list new spelled keeps n relation tid n_at is has

  prefix : IsPrefixed (chains_of listing number link) ends new (relinked (linkage_of tables.contents link.name (link_definition listing link child)) parent list)
  prefix = is_prefixed spelled

  stands : (n : ℕ) (relation : RelationEntry) (tid : Tid) (values : List Value) → relation_at listed n ≡ Some relation → content now.contents (TupleItem relation.name tid) ≡ Some (Values values)
      → new relation.segment tid ≡ Some (body_of listed now.contents n tid values)
  stands n relation tid values n_at is =
      let was = tuple_here relation.name tid (Some (Values values)) is in
      again n relation tid n_at (ap is_some was) (record { values = values; there = ap (λ (o : Option RelationEntry). bodies (segment_in o) tid) n_at ∙ spells.contents.stands n relation tid values n_at was })

  bodies_are : (segment : ℕ) (tid : Tid) (body : List ℕ) → new segment tid ≡ Some body → IsTupleBody listed now.contents segment tid body
  bodies_are segment tid body is =
      let was = was_there _ _ segment tid (keeps segment tid) body is in
      let of = spells.contents.bodies_are segment tid was.0 was.1 in
      let holds : content now.contents (TupleItem of.relation.name tid) ≡ Some (Values of.values) = tuple_stays tables link.name parent list of.relation.name tid ∙ of.holds in
      record {
        number = of.number;
        relation = of.relation;
        values = of.values;
        at = of.at;
        within = of.within;
        is = same_Some _ _ (sym is ∙ ap (λ (s : ℕ). new s tid) (sym of.within) ∙ stands of.number of.relation tid of.values of.at holds);
        storable = of.storable;
        holds = holds;
      }

  only : (item : Item) → is_some (content now.contents item) ≡ true → IsTupleItem listed item ⊎ IsChainItem listed item
  only item is = by_item item (ChainItem link.name parent)
      (λ e. inr (record { number = number; link = with_ends ends.first ends.last link; parent = parent; at = at_now; is = e }))
      (λ off. ⊎_elim (λ t. inl (record { number = t.number; relation = t.relation; tid = t.tid; at = t.at; is = t.is })) (λ c. inr (chain_item item c))
      (spells.contents.only item (sym (ap is_some (elsewhere tables link.name parent list item off)) ∙ is)))
    where
      chain_item : (item : Item) → IsChainItem listing item → IsChainItem listed item
      chain_item item c = elim (cases_eq c.number number) [
        | inl here ↦
            let one : link ≡ c.link = same_Some _ _ (sym at ∙ ap (link_at listing) (sym here) ∙ c.at) in
            record { number = number; link = with_ends ends.first ends.last link; parent = c.parent; at = at_now; is = c.is ∙ ap (λ (l : LinkEntry). ChainItem l.name c.parent) (sym one) }
        | inr off ↦ record { number = c.number; link = c.link; parent = c.parent; at = with_other listing.links number c.number (Some (with_ends ends.first ends.last link)) low off ∙ c.at; is = c.is }
      ]

  -- ---- the ends of chains

  -- the ends of the link itself
  own_ends : ends ≡ ends_of (chain now.contents link.name None)
  own_ends = elim (cases_Bool (not (is_some link.parent))) [
    | inl unary ↦ prefix.blocks.kept unary ∙ ap ends_of (sym (chain_now tables link.name parent list None))
    | inr binary ↦
        let was = spells.contents.ends number link at in
        let off : None ≡ parent → ⊥ = no_parent (not (is_some link.parent)) parent binary kind in
        stay binary ∙ (λ i. record { first = was.0 i; last = was.1 i }) ∙ ap ends_of (sym (chain_now tables link.name parent list None ∙ list_off (chain tables.contents link.name) parent None list off))
  ]
    where
      no_parent : (unary : Bool) (p : Option Tid) → unary ≡ false → IsParent unary (is_parent tables.contents (link_definition listing link child).parent) p → None ≡ p → ⊥
      no_parent true p e is none = false_true refl e
      no_parent false None e is none = is
      no_parent false (Some t) e is none = none_some none

  ends_are : AreEnds listed now.contents
  ends_are n l is = ⊎_elim
      (λ here. subst (λ (e : LinkEntry). (e.first ≡ first_of (chain now.contents e.name None)) × (e.last ≡ last_of (chain now.contents e.name None))) (same_Some _ _ here.1)
      (ap (λ (e : Ends). e.first) own_ends, ap (λ (e : Ends). e.last) own_ends))
      (λ off.
      let was = spells.contents.ends n l off.1 in
      let apart : l.name ≡ link.name → ⊥ = λ named. off.0 (spells.listed.paths.links_once n number link.name
      (name_numbered (λ (e : LinkEntry). e.name) listing.links n l off.1 ∙ ap (λ (x : Name). Some x) named)
      (name_numbered (λ (e : LinkEntry). e.name) listing.links number link at)) in
      let chains : chain now.contents l.name None ≡ chain tables.contents l.name None = ap tuples_in (other_chain tables link.name parent list l.name None apart) in
      (was.0 ∙ ap first_of (sym chains), was.1 ∙ ap last_of (sym chains)))
      (with_cases listing.links number n (Some (with_ends ends.first ends.last link)) l low high is)

  pub members_again : SpellsMembers listed new now
  members_again = record {
    listed = fits;
    defines = defines;
    contents = record { stands = stands; bodies_are = bodies_are; only = only; ends = ends_are };
    tuples = λ relation tid held is. let of = spells.tuples relation tid held (tuple_here relation tid (Some held) is) in record { fields = of.fields; values = of.values; defined = of.defined; tuple = of.tuple; fit = of.fit };
    links = links_again spells number link at child child_at ends parent list new spelled keeps;
    tids = λ relation tid is. spells.tids relation tid (sym (there_still tables link.name parent list relation tid) ∙ is);
  }
