-- The bodies of tables in which one chain has another list.
use Rattle.std.proofs.Common.{◌≡◌, inl, inr, ℕ, ◌+◌, ◌-◌, ◌<◌, ◌≤◌, suc, true, false, List, [], ◌∷◌, ◌++◌, length, get_or, take, drop, Option, Some, None, refl, sym, ◌∙◌, ap, subst, arith}
use Rattle.std.specs.Prelude.{not, is_some, flat_map}
use Rattle.std.proofs.lemmas.Bool.{cases_eq}
use Rattle.std.proofs.lemmas.Option.{same_Some}
use Rattle.std.proofs.lemmas.List.{take_at, drop_at, take-append-drop, drop-drop, take-set, drop-set-lt, get_or-take, get_or-drop, length-take}
use Rattle.std.proofs.lemmas.List.Concat.{flat_map-cons}
use Rattle.rss_base.specs.Listings.{Listing, with_number, relation_at, link_at, with_link}
use Rattle.rss_base.specs.Prefixes.{Ends, Part, Outside, Parent, early_part, lower_part, block_size, ends_of, parent_block}
use Rattle.rss_base.specs.TupleTypes.{tuple_bytes}
use Rattle.rss_base.specs.declared.name.Name.{Name}
use Rattle.rss_base.specs.declared.tid.Tid.{Tid}
use Rattle.rss_base.specs.declared.relation.RelationEntry.{RelationEntry}
use Rattle.rss_base.specs.declared.link.LinkEntry.{LinkEntry}
use Rattle.rss_catalog.specs.Catalogs.{with_ends}
use Rattle.rss_catalog.proofs.Numbered.{numbered_within, with_same}
use Rattle.rss_tuple.specs.Directory.{Bodies}
use Rattle.rss_model.specs.Tables.{LinkDef, Tables}
use Rattle.rss_model.specs.Chains.{chain, is_there, LinksFit}
use Rattle.rss_stored.specs.Store.{fields_at, block_of, listed_block, body_of, link_definition}
use Rattle.rss_stored.proofs.Listed.{at_place}
use Rattle.rss_model.proofs.LogLists.{none_some}
use Rattle.rss_stored.proofs.Spelled.{name_numbered}
use Rattle.rss_link.specs.declared.link.Chains.{Chains}
use Rattle.rss_link.specs.Blocks.{HasBytes}
use Rattle.rss_link.specs.Chains.{Linkage, Lists, with_list, relinked}
use Rattle.rss_link.specs.Links.{SpellChains, AgreeOff, KeepsBody, same, of_child, of_parent, KeepBodies}
use Rattle.rss_link.specs.Prefixed.{IsLowerBlock, IsPrefixed}
use Rattle.rss_link.proofs.Prefixed.{prefixed as is_prefixed}
use Rattle.rss_members.specs.Members.{block_at, segment_of, of_parents, chains_of, is_parent, linkage_of, with_chain, SpellsMembers}
use Rattle.rss_members.proofs.Prefixed.{long_block, long_front, front_of, back_of, cut_items}
use Rattle.rss_members.proofs.Chained.{lower_block}
use Rattle.rss_members.proofs.Spelled.{part_of_child, part_of_parent, part_outside, HasBody, HasAbove, one_relation, above_listed, parent_named, is_above, defined, kind, body_there}
use Rattle.rss_members.proofs.Apart.{size_of_child}
use Rattle.rss_members.proofs.Linked.{chain_now, same_block, links_now, one_lower_block}

-- ---- bytes of which one part is another

rebuilt : (at size : ℕ) (front block was back old now : List ℕ) → length front ≡ at → length was ≡ size → length block ≡ size
    → old ≡ front ++ (was ++ back) → AgreeOff at size old now → HasBytes now at block → now ≡ front ++ (block ++ back)
rebuilt at size front block was back old now long long_was long_block old_is agree has =
    let start : take at now ≡ front = agree.front ∙ ap (take at) old_is ∙ take_at front (was ++ back) at long in
    let middle : take size (drop at now) ≡ block = ap (λ (n : ℕ). take n (drop at now)) (sym long_block) ∙ has in
    let end : drop size (drop at now) ≡ back =
    drop-drop size at now ∙ agree.back ∙ ap (drop (at + size)) old_is ∙ sym (drop-drop size at (front ++ (was ++ back)))
    ∙ ap (drop size) (drop_at front (was ++ back) at long) ∙ drop_at was back size long_was in
    sym (take-append-drop at now) ∙ (λ i. start i ++ (sym (take-append-drop size (drop at now)) ∙ (λ j. middle j ++ end j)) i)

agrees_itself : (at size : ℕ) (x y : List ℕ) → x ≡ y → AgreeOff at size x y
agrees_itself at size x y is = subst (λ (l : List ℕ). AgreeOff at size x l) is (record { same_length = refl; front = refl; back = refl })

agrees_as : (at at_too size size_too : ℕ) (b n x y : List ℕ) → b ≡ x → n ≡ y → at ≡ at_too → size ≡ size_too → AgreeOff at size b n → AgreeOff at_too size_too x y
agrees_as at at_too size size_too b n x y p q r s agree =
    subst (λ (k : ℕ). AgreeOff k size_too x y) r (subst (λ (k : ℕ). AgreeOff at k x y) s (subst (λ (l : List ℕ). AgreeOff at size l y) p (subst (λ (l : List ℕ). AgreeOff at size b l) q agree)))

pub flat_alike : {A : Type 0} (f g : A → List ℕ) (items : List A) (d : A) → ((k : ℕ) → k < length items → f (get_or items k d) ≡ g (get_or items k d)) → flat_map f items ≡ flat_map g items
flat_alike f g [] d alike = refl
flat_alike f g (item ∷ items) d alike =
    flat_map-cons f item items ∙ (λ i. alike 0 (omega arith) i ++ flat_alike f g items d (λ k lt. alike (suc k) (omega (arith, lt))) i) ∙ sym (flat_map-cons g item items)

module _ {listing : Listing} {bodies : Bodies} {tables : Tables} (spells : SpellsMembers listing bodies tables) (number : ℕ) (link : LinkEntry) (at : link_at listing number ≡ Some link)
    (child : RelationEntry) (child_at : relation_at listing link.child ≡ Some child) (ends : Ends) (parent : Option Tid) (list : List Tid) (new : Bodies) where
  abbrev definition : LinkDef
  definition = link_definition listing link child

  abbrev linkage : Linkage
  linkage = linkage_of tables.contents link.name definition

  abbrev its : Chains
  its = chains_of listing number link

  abbrev now : Tables
  now = with_chain tables link.name parent list

  abbrev items_now : List (Option LinkEntry)
  items_now = with_number listing.links number (Some (with_ends ends.first ends.last link))

  -- ---- the blocks of the other links

  other_name : (k : ℕ) (l : LinkEntry) → (suc k ≡ number → ⊥) → get_or listing.links k None ≡ Some l → l.name ≡ link.name → ⊥
  other_name k l off is named = off (spells.listed.paths.links_once (suc k) number link.name
      (name_numbered (λ (e : LinkEntry). e.name) listing.links (suc k) l (at_place listing.links k ∙ is) ∙ ap (λ (n : Name). Some n) named)
      (name_numbered (λ (e : LinkEntry). e.name) listing.links number link at))

  module _ (relation : ℕ) (tid : Tid) where
    alike_at : (k : ℕ) → (suc k ≡ number → ⊥) → listed_block tables.contents relation tid (get_or listing.links k None) ≡ listed_block now.contents relation tid (get_or listing.links k None)
    alike_at k off = by (get_or listing.links k None) refl
      where
        by : (o : Option LinkEntry) → get_or listing.links k None ≡ o → listed_block tables.contents relation tid o ≡ listed_block now.contents relation tid o
        by None is = refl
        by (Some l) is = sym (same_block tables link.name parent list spells.links l.name (other_name k l off is) tid (early_part l relation))

    low : 1 ≤ number
    low = (numbered_within listing.links number link at).0

    same_front : front_of tables.contents relation tid listing.links number ≡ front_of now.contents relation tid items_now number
    same_front = ap (λ (l : List ℕ). relation ∷ l)
        (flat_alike (listed_block tables.contents relation tid) (listed_block now.contents relation tid) (take (number - 1) listing.links) None
        (λ k lt.
        let less : k < number - 1 = omega (arith, lt, length-take (number - 1) listing.links) in
        let here : get_or (take (number - 1) listing.links) k None ≡ get_or listing.links k None = get_or-take (number - 1) listing.links k None less in
        ap (listed_block tables.contents relation tid) here ∙ alike_at k (λ e. omega (arith, e, less, low)) ∙ ap (listed_block now.contents relation tid) (sym here))
        ∙ ap (flat_map (listed_block now.contents relation tid)) (sym (take-set listing.links (number - 1) (Some (with_ends ends.first ends.last link)))))

    same_back : (values : List ℕ) → back_of tables.contents relation tid listing.links number values ≡ back_of now.contents relation tid items_now number values
    same_back values = ap (λ (l : List ℕ). l ++ values)
        (flat_alike (listed_block tables.contents relation tid) (listed_block now.contents relation tid) (drop number listing.links) None
        (λ k lt.
        let here : get_or (drop number listing.links) k None ≡ get_or listing.links (number + k) None = get_or-drop number listing.links k None in
        ap (listed_block tables.contents relation tid) here ∙ alike_at (number + k) (λ e. omega (arith, e)) ∙ ap (listed_block now.contents relation tid) (sym here))
        ∙ ap (flat_map (listed_block now.contents relation tid)) (sym (drop-set-lt number listing.links (number - 1) (Some (with_ends ends.first ends.last link)) (omega (arith, low)))))

  -- ---- the block of the link itself

  module _ (spelled : SpellChains its ends new (relinked linkage parent list)) (keeps : KeepBodies its linkage bodies new) where
    abbrev prefix : IsPrefixed its ends new (relinked linkage parent list)
    prefix = is_prefixed spelled

    pub links_again : LinksFit now
    links_again = links_now tables link.name parent list spells.links definition (defined spells number link at child child_at) (not (is_some link.parent)) (ap not (sym (kind spells number link at child child_at))) prefix.lists

    lists_now : chain now.contents link.name ≡ with_list (chain tables.contents link.name) parent list
    lists_now = λ i p. chain_now tables link.name parent list p i

    -- a body is as it was but for the link's block, which says what the tables say
    record IsWritten (relation : ℕ) (tid : Tid) (old : List ℕ) : Type 0 where
      body : List ℕ
      there : new (segment_of listing relation) tid ≡ Some body
      agree : AgreeOff (block_at listing number relation) (block_size (early_part link relation)) old body
      block : HasBytes body (block_at listing number relation) (block_of now.contents link.name tid (early_part link relation))

    abbrev old_body : (relation : ℕ) (tid : Tid) → HasBody spells relation tid → List ℕ
    old_body relation tid has = body_of listing tables.contents relation tid has.values

    -- of a child
    child_agrees : (tid : Tid) → linkage.children tid ≡ true → (x y : List ℕ) (o n : Option (List ℕ)) → KeepsBody its linkage (segment_of listing link.child) tid o n → o ≡ Some x → n ≡ Some y
        → AgreeOff (block_at listing number link.child) (block_size (early_part link link.child)) x y
    child_agrees tid is x y o n (same e) was is_now = agrees_itself _ _ x y (same_Some _ _ (sym was ∙ sym e ∙ is_now))
    child_agrees tid is x y o n (of_child {body = b} {now = m} here is_child was_too now_too agree) was is_now =
        agrees_as _ _ _ _ b m x y (same_Some _ _ (sym was_too ∙ was)) (same_Some _ _ (sym now_too ∙ is_now)) refl (size_of_child link.parent ∙ sym (ap block_size (part_of_child link (spells.listed.paths.links number link at).early))) agree
    child_agrees tid is x y o n (of_parent binary here is_parent was_too now_too agree) was is_now = absurd (spelled.apart binary here tid is is_parent)

    child_bytes : (tid : Tid) (bytes : List ℕ) → IsLowerBlock (not (is_some link.parent)) (with_list (chain tables.contents link.name) parent list) tid bytes → bytes ≡ block_of now.contents link.name tid (early_part link link.child)
    child_bytes tid bytes is =
        one_lower_block (with_list (chain tables.contents link.name) parent list) tid (λ p q. prefix.lists.alone p q tid) (not (is_some link.parent)) bytes (block_of now.contents link.name tid (lower_part link.parent)) is
        (subst (λ (l : Lists). IsLowerBlock (not (is_some link.parent)) l tid (block_of now.contents link.name tid (lower_part link.parent))) lists_now
        (lower_block links_again link.name definition (defined spells number link at child child_at) link.parent (sym (kind spells number link at child child_at)) tid))
        ∙ ap (block_of now.contents link.name tid) (sym (part_of_child link (spells.listed.paths.links number link at).early))

    child_written : (tid : Tid) → linkage.children tid ≡ true → (has : HasBody spells link.child tid) → IsWritten link.child tid (old_body link.child tid has)
    child_written tid is has =
        let lower = prefix.blocks.children tid is in record {
          body = lower.has.body;
          there = lower.has.there;
          agree = child_agrees tid is (old_body link.child tid has) lower.has.body _ _ (keeps (segment_of listing link.child) tid) has.there lower.has.there;
          block = subst (HasBytes lower.has.body (block_at listing number link.child)) (child_bytes tid lower.bytes lower.is) lower.has.has;
        }

    -- of a parent
    module _ (above : HasAbove spells link) where
      binary : not (is_some link.parent) ≡ false
      binary = ap (λ (o : Option ℕ). not (is_some o)) above.is

      parent_agrees : (tid : Tid) → linkage.parents tid ≡ true → (x y : List ℕ) (o n : Option (List ℕ)) → KeepsBody its linkage (segment_of listing above.number) tid o n → o ≡ Some x → n ≡ Some y
          → AgreeOff (block_at listing number above.number) (block_size (early_part link above.number)) x y
      parent_agrees tid is x y o n (same e) was is_now = agrees_itself _ _ x y (same_Some _ _ (sym was ∙ sym e ∙ is_now))
      parent_agrees tid is x y o n (of_child here is_child was_too now_too agree) was is_now = absurd (spelled.apart binary (sym here ∙ sym (ap (of_parents (segment_of listing)) above.is)) tid is_child is)
      parent_agrees tid is x y o n (of_parent {body = b} {now = m} two here is_parent was_too now_too agree) was is_now =
          agrees_as _ _ _ _ b m x y (same_Some _ _ (sym was_too ∙ was)) (same_Some _ _ (sym now_too ∙ is_now)) (ap (of_parents (block_at listing number)) above.is) (sym (ap block_size (part_of_parent link (spells.listed.paths.links number link at).early above.number above.is above.other))) agree

      parent_written : (tid : Tid) → linkage.parents tid ≡ true → (has : HasBody spells above.number tid) → IsWritten above.number tid (old_body above.number tid has)
      parent_written tid is has =
          let upper = prefix.blocks.parents tid binary is in
          let there : new (segment_of listing above.number) tid ≡ Some upper.body = ap (λ (s : ℕ). new s tid) (sym (ap (of_parents (segment_of listing)) above.is)) ∙ upper.there in
          let block : HasBytes upper.body (block_at listing number above.number) (block_of now.contents link.name tid Parent) =
          subst (λ (k : ℕ). HasBytes upper.body k (block_of now.contents link.name tid Parent)) (ap (of_parents (block_at listing number)) above.is)
          (subst (λ (l : Lists). HasBytes upper.body (of_parents (block_at listing number) link.parent) (parent_block (ends_of (l (Some tid))))) (sym lists_now) upper.has) in record {
            body = upper.body;
            there = there;
            agree = parent_agrees tid is (old_body above.number tid has) upper.body _ _ (keeps (segment_of listing above.number) tid) has.there there;
            block = subst (λ (part : Part). HasBytes upper.body (block_at listing number above.number) (block_of now.contents link.name tid part)) (sym (part_of_parent link (spells.listed.paths.links number link at).early above.number above.is above.other)) block;
          }

    -- of another relation
    module _ (relation : ℕ) (tid : Tid) (has : HasBody spells relation tid) (off : relation ≡ link.child → ⊥) (off_above : link.parent ≡ Some relation → ⊥) where
      body_stays : (o n : Option (List ℕ)) → KeepsBody its linkage (segment_of listing relation) tid o n → n ≡ o
      body_stays o n (same e) = e
      body_stays o n (of_child here is_child was_too now_too agree) = absurd (off (one_relation spells (segment_of listing relation) relation link.child tid refl here has (body_there spells link.child child tid child_at is_child)))
      body_stays o n (of_parent two here is_parent was_too now_too agree) =
          let above = above_listed spells number link at two in
          absurd (off_above (above.is ∙ ap (λ (r : ℕ). Some r) (sym (one_relation spells (segment_of listing relation) relation above.number tid refl (here ∙ ap (of_parents (segment_of listing)) above.is) has
          (body_there spells above.number above.relation tid above.at (is_above spells number link at child child_at above tid is_parent))))))

      no_part : early_part link relation ≡ Outside
      no_part = part_outside link relation off off_above

      other_written : IsWritten relation tid (old_body relation tid has)
      other_written = record {
        body = old_body relation tid has;
        there = body_stays _ _ (keeps (segment_of listing relation) tid) ∙ has.there;
        agree = agrees_itself _ _ _ _ refl;
        block = subst (λ (part : Part). HasBytes (old_body relation tid has) (block_at listing number relation) (block_of now.contents link.name tid part)) (sym no_part) refl;
      }

    -- of each relation
    written : (relation : ℕ) (entry : RelationEntry) (tid : Tid) → relation_at listing relation ≡ Some entry → is_there tables.contents entry.name tid ≡ true → (has : HasBody spells relation tid) → IsWritten relation tid (old_body relation tid has)
    written relation entry tid entry_at is has = elim (cases_eq relation link.child) [
      | inl here ↦ of_its_child relation here entry entry_at is has
      | inr off ↦ by link.parent refl off
    ]
      where
        of_its_child : (r : ℕ) → r ≡ link.child → (e : RelationEntry) → relation_at listing r ≡ Some e → is_there tables.contents e.name tid ≡ true → (has : HasBody spells r tid) → IsWritten r tid (old_body r tid has)
        of_its_child r here = subst (λ (r : ℕ). (e : RelationEntry) → relation_at listing r ≡ Some e → is_there tables.contents e.name tid ≡ true → (has : HasBody spells r tid) → IsWritten r tid (old_body r tid has)) (sym here)
            (λ e e_at is has. child_written tid (subst (λ (x : RelationEntry). is_there tables.contents x.name tid ≡ true) (same_Some _ _ (sym e_at ∙ child_at)) is) has)

        by : (above : Option ℕ) → link.parent ≡ above → (relation ≡ link.child → ⊥) → IsWritten relation tid (old_body relation tid has)
        by None above_is off = other_written relation tid has off (λ e. none_some (sym above_is ∙ e))
        by (Some p) above_is off = elim (cases_eq relation p) [
          | inl here ↦
              let above : HasAbove spells link = record { number = relation; relation = entry; is = above_is ∙ ap (λ (r : ℕ). Some r) (sym here); at = entry_at; other = off } in
              parent_written above tid (subst (λ (o : Option Name). is_parent tables.contents o tid ≡ true) (sym (parent_named spells number link at child child_at above)) is) has
          | inr differ ↦ other_written relation tid has off (λ e. differ (same_Some _ _ (sym e ∙ above_is)))
        ]

    -- its body says the tables in which the chain has the other list
    pub body_again : (relation : ℕ) (entry : RelationEntry) (tid : Tid) → relation_at listing relation ≡ Some entry → is_there tables.contents entry.name tid ≡ true → (has : HasBody spells relation tid)
        → new (segment_of listing relation) tid ≡ Some (body_of (with_link listing number (Some (with_ends ends.first ends.last link))) now.contents relation tid has.values)
    body_again relation entry tid entry_at is has =
        let w = written relation entry tid entry_at is has in
        let bounds = numbered_within listing.links number link at in
        w.there ∙ ap (λ (l : List ℕ). Some l)
        (rebuilt (block_at listing number relation) (block_size (early_part link relation)) (front_of tables.contents relation tid listing.links number) (block_of now.contents link.name tid (early_part link relation))
        (block_of tables.contents link.name tid (early_part link relation)) (back_of tables.contents relation tid listing.links number (tuple_bytes (fields_at listing relation) has.values)) (old_body relation tid has) w.body
        (long_front tables.contents relation tid listing.links number) (long_block tables.contents link.name tid (early_part link relation)) (long_block now.contents link.name tid (early_part link relation))
        (cut_items tables.contents relation tid listing.links number link (tuple_bytes (fields_at listing relation) has.values) at) w.agree w.block
        ∙ (λ i. same_front relation tid i ++ (block_of now.contents link.name tid (early_part link relation) ++ same_back relation tid (tuple_bytes (fields_at listing relation) has.values) i))
        ∙ sym (cut_items now.contents relation tid items_now number (with_ends ends.first ends.last link) (tuple_bytes (fields_at listing relation) has.values) (with_same listing.links number (Some (with_ends ends.first ends.last link)) bounds.0 bounds.1)))
