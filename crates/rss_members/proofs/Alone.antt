-- Tuples that stand in no chain and have none: their prefixes, and what becomes of links where a tuple comes or goes.
use Rattle.std.proofs.Common.{◌≡◌, inl, inr, ℕ, zero, suc, ◌-◌, ◌<◌, Bool, true, false, List, [], ◌∷◌, length, get_or, Option, Some, None, refl, sym, ◌∙◌, ap, subst, arith}
use Rattle.std.specs.Prelude.{if◌then◌else◌, ◌≢◌, ◌==◌, ◌&&◌, ◌||◌, is_some, IfSome, option_map, flat_map, replicate}
use Rattle.std.specs.FinMap as map
use Rattle.std.proofs.lemmas.Bool.{cases_eq, cond-true, cond-false, eq-eqb, ne_eqb}
use Rattle.std.proofs.lemmas.Option.{none-some}
use Rattle.rss_base.specs.Listings.{Listing, IsSpelled, relation_at, link_at, is_parent_in}
use Rattle.rss_base.specs.Prefixes.{Neighbours, ChildPlace, Part, Outside, Member, Child, Parent, is_tid, first_of, neighbours_from, neighbours_in, neighbours_bytes, lower_part, part_in, early_part, ends_of, member_block, child_block, parent_block}
use Rattle.rss_base.specs.declared.name.Name.{Name}
use Rattle.rss_base.specs.declared.tid.Tid.{Tid}
use Rattle.rss_base.specs.declared.value.Value.{Value}
use Rattle.rss_base.specs.declared.item.Item.{Item}
use Rattle.rss_base.specs.declared.item.Item.TheVariants.{Tuple as TupleItem, Chain as ChainItem}
use Rattle.rss_base.specs.declared.relation.RelationEntry.{RelationEntry}
use Rattle.rss_base.specs.declared.link.LinkEntry.{LinkEntry}
use Rattle.rss_catalog.proofs.Numbered.{numbered_within, place_has}
use Rattle.rss_tuple.specs.Directory.{Bodies}
use Rattle.rss_model.specs.Items.{Content, Values, is_name, parent_of as parent_in}
use Rattle.rss_model.specs.Tables.{LinkDef, Contents, Tables, content, put}
use Rattle.rss_model.specs.Chains.{tuples_in, chain, chain_with, stands_in, is_there, is_this, is_parent_relation, is_connected, connected, HasParent, LinksFit}
use Rattle.rss_stored.specs.Store.{place_of, place_below, block_of, listed_block, prefix_of, IsListedLink, link_definition}
use Rattle.rss_stored.proofs.Blocks.{parent_says, first_is}
use Rattle.rss_model.proofs.ChainKeeping.{chain_found}
use Rattle.rss_model.proofs.ChangeKeeping.{in_no_chain}
use Rattle.rss_stored.proofs.Listed.{at_place}
use Rattle.rss_model.proofs.LogChanging.{put_other}
use Rattle.rss_model.proofs.LogLists.{by_test, false_true, none_some}
use Rattle.rss_model.proofs.Mixing.{In}
use Rattle.rss_stored.proofs.Places.{place_parts}
use Rattle.rss_model.proofs.Refitting.{Unlinked, links_put}
use Rattle.rss_model.proofs.SeenAlike.{chain_same}
use Rattle.rss_base.proofs.Fronts.{front_parts}
use Rattle.rss_model.proofs.Standing.{tid_itself, tid_apart, or_none, stands_of}
use Rattle.rss_model.proofs.Viewing.{stands}
use Rattle.rss_members.specs.Members.{SpellsMembers, IsAlone, blank_block, blank_listed, blank_prefix}
use Rattle.rss_members.proofs.Prefixed.{long_listed, long_blank_listed}
use Rattle.rss_members.proofs.Chained.{full, has_parent, some_neighbours}
use Rattle.rss_members.proofs.Defined.{find_none, name_same, child_listed, link_numbered, numbered_in, its_child, is_its_child, its_parent, is_its_parent}
use Rattle.rss_members.proofs.Rewritten.{flat_alike}
use Rattle.rss_members.proofs.Spelled.{kind, part_of_early}

-- ---- lists

pub off_apart : (x y : Tid) → is_tid x y ≡ false → is_tid y x ≡ false
off_apart x y off = tid_apart y x (λ e. false_true (subst (λ (t : Tid). is_tid x t ≡ true) (sym e) (tid_itself x)) off)

no_neighbours : (x : Tid) (before : Option Tid) (tids : List Tid) → stands_in x tids ≡ false → neighbours_from before tids x ≡ None
no_neighbours x before [] off = refl
no_neighbours x before (y ∷ tids) off =
    let parts = or_none (is_tid x y) (stands_in x tids) off in
    let here : is_tid y x ≡ false = off_apart x y parts.0 in
    rw here (no_neighbours x (Some y) tids parts.1)

no_first : (tids : List Tid) → first_of tids ≡ None → tids ≡ []
no_first [] none = refl
no_first (tid ∷ tids) none = none_some (sym none)

no_tuples : (o : Option Content) → o ≡ None → tuples_in o ≡ []
no_tuples o none = ap tuples_in none

-- no chain of a link has a tuple
pub none_with : (contents : Contents) (name : Name) (tid : Tid) → ((parent : Option Tid) → stands_in tid (chain contents name parent) ≡ false) → chain_with contents name tid ≡ None
none_with contents name tid off = by (chain_with contents name tid) refl
  where
    by : (o : Option Item) → chain_with contents name tid ≡ o → chain_with contents name tid ≡ None
    by None is = is
    by (Some item) is = let found = chain_found contents name tid item is in absurd (false_true found.2 (off found.0))

pub no_some : {A : Type 0} (o : Option A) → is_some o ≡ false → o ≡ None
no_some None e = refl
no_some (Some a) e = absurd (cc (e))

both_false : (a b : Bool) → (a && b) ≡ false → a ≡ true → b ≡ false
both_false true b e is = e
both_false false b e is = absurd (cc (is))

-- of tables that fit, an empty chain holds nothing
pub no_content : {tables : Tables} → LinksFit tables → (name : Name) (parent : Option Tid) → chain tables.contents name parent ≡ [] → content tables.contents (ChainItem name parent) ≡ None
no_content {tables = tables} links name parent none = by (content tables.contents (ChainItem name parent)) refl
  where
    by : (o : Option Content) → content tables.contents (ChainItem name parent) ≡ o → content tables.contents (ChainItem name parent) ≡ None
    by None is = is
    by (Some held) is =
        let of = links.chains name parent held is in
        let long : length of.tids ≡ 0 = ap (λ (c : Content). length (tuples_in (Some c))) (sym of.is) ∙ ap (λ (o : Option Content). length (tuples_in o)) (sym is) ∙ ap length none in
        absurd (omega (arith, of.some, long))

pub this_one : (above : Option Name) (name : Name) → is_this above name ≡ true → above ≡ Some name
this_one None name is = absurd (cc (is))
this_one (Some one) name is = ap (λ (n : Name). Some n) (name_same one name is)

parted : {A : Type 0} (f g : A → List ℕ) → ((a : A) → length (f a) ≡ length (g a)) → (items : List A) (d : A) → flat_map f items ≡ flat_map g items → (k : ℕ) → k < length items → f (get_or items k d) ≡ g (get_or items k d)
parted f g long [] d same k lt = absurd (omega (arith, lt))
parted f g long (item ∷ items) d same zero lt = (front_parts (f item) (g item) (flat_map f items) (flat_map g items) (long item) same).0
parted f g long (item ∷ items) d same (suc k) lt = parted f g long items d (front_parts (f item) (g item) (flat_map f items) (flat_map g items) (long item) same).1 k (omega (arith, lt))

-- ---- the part of a relation in a link

part_child : (link : LinkEntry) (number : ℕ) → link.child ≡ number → part_in link number ≡ lower_part link.parent
part_child link number is = cond-true (link.child == number) (lower_part link.parent) _ (eq-eqb link.child number is)

part_parent : (link : LinkEntry) (number : ℕ) → (link.child == number) ≡ false → link.parent ≡ Some number → part_in link number ≡ Parent
part_parent link number off is =
    cond-false (link.child == number) (lower_part link.parent) _ off
    ∙ cond-true (is_parent_in link.parent number) Parent Outside (ap (λ (o : Option ℕ). is_parent_in o number) is ∙ eq-eqb number number refl)

part_none : (link : LinkEntry) (number : ℕ) → (link.child == number) ≡ false → is_parent_in link.parent number ≡ false → part_in link number ≡ Outside
part_none link number off none =
    cond-false (link.child == number) (lower_part link.parent) _ off
    ∙ cond-false (is_parent_in link.parent number) Parent Outside none

parent_of : (above : Option ℕ) (number : ℕ) → is_parent_in above number ≡ true → above ≡ Some number
parent_of None number is = absurd (cc (is))
parent_of (Some p) number is = elim (cases_eq p number) [
  | inl same ↦ ap (λ (n : ℕ). Some n) same
  | inr off ↦ absurd (false_true is (let e : (p == number) ≡ false = search (arith, off) in e))
]

-- ---- one block

module _ (contents : Contents) (number : ℕ) (tid : Tid) (link : LinkEntry) where
  abbrev block : Part → List ℕ
  block part = block_of contents link.name tid part

  part_blank : (link.child ≡ number → (parent : Option Tid) → stands_in tid (chain contents link.name parent) ≡ false) → (link.parent ≡ Some number → chain contents link.name (Some tid) ≡ [])
      → block (part_in link number) ≡ blank_block (part_in link number)
  part_blank child parent = elim (cases_eq link.child number) [
    | inl here ↦ subst (λ (part : Part). block part ≡ blank_block part) (sym (part_child link number here)) (lower link.parent (child here))
    | inr off ↦ let other : (link.child == number) ≡ false = search (arith, off) in by_test (is_parent_in link.parent number)
        (λ e. let above = parent_of link.parent number e in
        subst (λ (part : Part). block part ≡ blank_block part) (sym (part_parent link number other above)) (ap (λ (l : List Tid). parent_block (ends_of l)) (parent above)))
        (λ e. subst (λ (part : Part). block part ≡ blank_block part) (sym (part_none link number other e)) refl)
  ]
    where
      lower : (above : Option ℕ) → ((parent : Option Tid) → stands_in tid (chain contents link.name parent) ≡ false) → block (lower_part above) ≡ blank_block (lower_part above)
      lower None off = ap member_block (no_neighbours tid None (chain contents link.name None) (off None))
      lower (Some p) off = ap (λ (o : Option Item). child_block (place_of contents tid o)) (none_with contents link.name tid off)

  -- and so is the block in the prefix, where a late link has none
  block_blank : (link.child ≡ number → (parent : Option Tid) → stands_in tid (chain contents link.name parent) ≡ false) → (link.parent ≡ Some number → chain contents link.name (Some tid) ≡ [])
      → block (early_part link number) ≡ blank_block (early_part link number)
  block_blank child parent = either link.late (part_in link number) (part_blank child parent)
    where
      either : (late : Bool) (part : Part) → block part ≡ blank_block part → block (if late then Outside else part) ≡ blank_block (if late then Outside else part)
      either true part is = refl
      either false part is = is

-- ---- the prefix of such a tuple

module _ {listing : Listing} {contents : Contents} {number : ℕ} {tid : Tid} where
  -- a tuple that stands in no chain and has none has the prefix that says so
  pub alone_prefix : IsAlone listing contents number tid → prefix_of listing contents number tid ≡ blank_prefix listing number
  alone_prefix alone = flat_alike (listed_block contents number tid) (blank_listed number) listing.links None (λ k lt. by (get_or listing.links k None) (suc k) (at_place listing.links k))
    where
      by : (o : Option LinkEntry) (k : ℕ) → link_at listing k ≡ o → listed_block contents number tid o ≡ blank_listed number o
      by None k at = refl
      by (Some link) k at = block_blank contents number tid link (alone.child k link at) (alone.parent k link at)

-- ---- and the other way round

no_member : (neighbours : Option Neighbours) → member_block neighbours ≡ member_block None → neighbours ≡ None
no_member None is = refl
no_member (Some n) is = let never : 1 ≡ 0 = ap (λ (l : List ℕ). get_or l 0 0) is in absurd (omega (arith, never))

no_place : (place : Option ChildPlace) → IfSome place (λ p. IsSpelled p.parent) → child_block place ≡ child_block None → place ≡ None
no_place None spelled is = refl
no_place (Some p) spelled is = absurd (none-some p.parent (sym (place_parts (Some p.parent) None (neighbours_bytes p.neighbours) (replicate 12 255) spelled tt is).0))

module _ {listing : Listing} {bodies : Bodies} {tables : Tables} (spells : SpellsMembers listing bodies tables) (number : ℕ) (tid : Tid) where
  module _ (k : ℕ) (link : LinkEntry) (child : RelationEntry) (listed : IsListedLink listing k link child) where
    abbrev definition : LinkDef
    definition = link_definition listing link child

    defined : map.get tables.definitions.links link.name ≡ Some definition
    defined = spells.defines.paths.links k link child listed

    -- the tuples of its chains, and their parents, have identifiers that can be spelled
    first_spelled : (parent : Option Tid) → IfSome (first_of (chain tables.contents link.name parent)) IsSpelled
    first_spelled parent = first_is IsSpelled (chain tables.contents link.name parent) (λ t is. spells.tids child.name t ((full spells.links link.name definition defined parent t (stands_of (chain tables.contents link.name parent) t is)).members t (stands_of (chain tables.contents link.name parent) t is)))

    parent_spelled : (above : Option Name) (parent : Tid) → HasParent tables.contents above (Some parent) → IsSpelled parent
    parent_spelled None parent has = absurd has
    parent_spelled (Some relation) parent has = spells.tids relation parent has

    no_parent : (above : Option Name) (parent : Tid) → is_some above ≡ false → HasParent tables.contents above (Some parent) → ⊥
    no_parent None parent none has = has
    no_parent (Some relation) parent none has = absurd (cc (none))

    none_below : (parent : Option Tid) → stands_in tid (chain tables.contents link.name parent) ≡ true → is_some link.parent ≡ false → neighbours_in (chain tables.contents link.name None) tid ≡ None → ⊥
    none_below None there alone none = let found = some_neighbours tid None (chain tables.contents link.name None) there in none_some (sym none ∙ found.1)
    none_below (Some p) there alone none = no_parent definition.parent p (kind spells k link listed.at child listed.within ∙ alone) (full spells.links link.name definition defined (Some p) tid there).under

    none_placed : (item : Item) (parent : Tid) → item ≡ ChainItem link.name (Some parent) → stands_in tid (chain tables.contents link.name (Some parent)) ≡ true → child_block (place_of tables.contents tid (Some item)) ≡ child_block None → ⊥
    none_placed item parent at_item there is =
        let found = some_neighbours tid None (chain tables.contents link.name (Some parent)) there in
        let place : place_of tables.contents tid (Some item) ≡ Some (record { parent = parent; neighbours = found.0 }) =
        ap (λ (i : Item). place_of tables.contents tid (Some i)) at_item
        ∙ ap (option_map (λ (n : Neighbours). record { parent = parent; neighbours = n })) found.1 in
        let spelled : IsSpelled parent = parent_spelled definition.parent parent (full spells.links link.name definition defined (Some parent) tid there).under in
        none_some (sym (no_place (Some (record { parent = parent; neighbours = found.0 })) spelled (sym (ap child_block place) ∙ is)))

    -- what a block says that no chain has
    says_below : (above : Option ℕ) → link.parent ≡ above → block_of tables.contents link.name tid (lower_part above) ≡ blank_block (lower_part above) → (parent : Option Tid) → stands_in tid (chain tables.contents link.name parent) ≡ false
    says_below None at is parent = by_test (stands_in tid (chain tables.contents link.name parent))
        (λ e. absurd (none_below parent e (ap is_some at) (no_member (neighbours_in (chain tables.contents link.name None) tid) is)))
        (λ e. e)
    says_below (Some q) at is parent = in_no_chain tables.contents link.name tid (by (chain_with tables.contents link.name tid) refl is) parent
      where
        by : (o : Option Item) → chain_with tables.contents link.name tid ≡ o → child_block (place_of tables.contents tid o) ≡ child_block None → chain_with tables.contents link.name tid ≡ None
        by None at_none is = at_none
        by (Some item) at_item is =
            let found = chain_found tables.contents link.name tid item at_item in
            let above = has_parent spells.links link.name definition defined (kind spells k link listed.at child listed.within ∙ ap is_some at) found.0 tid found.2 in
            absurd (none_placed item above.0 (found.1 ∙ ap (ChainItem link.name) above.1) (subst (λ (p : Option Tid). stands_in tid (chain tables.contents link.name p) ≡ true) above.1 found.2) is)

    -- what a block says of a chain that is empty
    says_above : parent_block (ends_of (chain tables.contents link.name (Some tid))) ≡ parent_block (ends_of []) → chain tables.contents link.name (Some tid) ≡ []
    says_above is = no_first (chain tables.contents link.name (Some tid)) (parent_says (ends_of (chain tables.contents link.name (Some tid))) (ends_of []) (first_spelled (Some tid)) tt is)

    -- where no tuple of the relation stands, no chain has it, and it has none
    none_stands : is_there tables.contents child.name tid ≡ false → (parent : Option Tid) → stands_in tid (chain tables.contents link.name parent) ≡ false
    none_stands gone parent = by_test (stands_in tid (chain tables.contents link.name parent)) (λ e. false_true ((full spells.links link.name definition defined parent tid e).members tid e) gone) (λ e. e)

    none_has : (relation : Name) → definition.parent ≡ Some relation → is_there tables.contents relation tid ≡ false → chain tables.contents link.name (Some tid) ≡ []
    none_has relation above gone = by (chain tables.contents link.name (Some tid)) refl
      where
        by : (tids : List Tid) → chain tables.contents link.name (Some tid) ≡ tids → chain tables.contents link.name (Some tid) ≡ []
        by [] is = is
        by (t ∷ tids) is =
            let first : stands_in t (chain tables.contents link.name (Some tid)) ≡ true = subst (λ (l : List Tid). stands_in t l ≡ true) (sym is) (stands_of (t ∷ tids) t (inl refl)) in
            false_true (subst (λ (o : Option Name). HasParent tables.contents o (Some tid)) above (full spells.links link.name definition defined (Some tid) t first).under) gone

  -- a tuple with such a prefix stands in no chain and has none
  pub prefix_alone : prefix_of listing tables.contents number tid ≡ blank_prefix listing number → IsAlone listing tables.contents number tid
  prefix_alone same = record {
    child = λ k link at is.
        let of = child_listed spells k link at in
        says_below k link of.0 of.1 link.parent refl (subst (λ (part : Part). block_of tables.contents link.name tid part ≡ blank_block part) (part_of_early link number _ (spells.listed.paths.links k link at).early (part_child link number is)) (here k link at));
    parent = λ k link at is.
        let of = child_listed spells k link at in
        says_above k link of.0 of.1 (subst (λ (part : Part). block_of tables.contents link.name tid part ≡ blank_block part) (part_of_early link number _ (spells.listed.paths.links k link at).early (part_parent link number (other k link at is) is)) (here k link at));
  }
    where
      here : (k : ℕ) (link : LinkEntry) → link_at listing k ≡ Some link → block_of tables.contents link.name tid (early_part link number) ≡ blank_block (early_part link number)
      here k link at =
          let bounds = numbered_within listing.links k link at in
          subst (λ (o : Option LinkEntry). listed_block tables.contents number tid o ≡ blank_listed number o) (place_has listing.links k link at)
          (parted (listed_block tables.contents number tid) (blank_listed number) (λ o. long_listed tables.contents number tid o ∙ sym (long_blank_listed number o)) listing.links None same (k - 1) (omega (arith, bounds.0, bounds.1)))

      -- the relation of the parents is another one
      other : (k : ℕ) (link : LinkEntry) → link_at listing k ≡ Some link → link.parent ≡ Some number → (link.child == number) ≡ false
      other k link at is = let apart = subst (λ (o : Option ℕ). IfSome o (λ n. (is_some (relation_at listing n) ≡ true) × (n ≢ link.child))) is (spells.listed.paths.links k link at).parent in ne_eqb link.child number (λ same. apart.1 (sym same))

  module _ (relation : RelationEntry) (number_at : relation_at listing number ≡ Some relation) where
    -- where no tuple of the relation has the identifier
    pub absent_alone : is_there tables.contents relation.name tid ≡ false → IsAlone listing tables.contents number tid
    absent_alone gone = record {
      child = λ k link at is. let of = child_listed spells k link at in
          none_stands k link of.0 of.1 (ap (λ (n : Name). is_there tables.contents n tid) (its_child spells number relation number_at k link of.0 of.1 is) ∙ gone);
      parent = λ k link at is. let of = child_listed spells k link at in
          none_has k link of.0 of.1 relation.name (its_parent spells number relation number_at k link of.0 of.1 is) gone;
    }

    pub absent_prefix : is_there tables.contents relation.name tid ≡ false → prefix_of listing tables.contents number tid ≡ blank_prefix listing number
    absent_prefix gone = alone_prefix (absent_alone gone)

    -- ---- in the machine's words

    pub alone_connected : IsAlone listing tables.contents number tid → connected tables relation.name tid ≡ None
    alone_connected alone = ap (option_map (λ (l : Name × LinkDef). l.0)) (find_none (is_connected tables.contents relation.name tid) (map.entries tables.definitions.links) none)
      where
        none : (one : Name × LinkDef) → In one (map.entries tables.definitions.links) → is_connected tables.contents relation.name tid one ≡ false
        none one is =
            let of = numbered_in spells one is in
            ap (is_connected tables.contents relation.name tid) of.is ∙ (λ i. below of.number of.link of.child of.listed i || above of.number of.link of.child of.listed i)
          where
            below : (k : ℕ) (link : LinkEntry) (child : RelationEntry) → IsListedLink listing k link child → (is_name relation.name child.name && is_some (chain_with tables.contents link.name tid)) ≡ false
            below k link child listed = by_test (is_name relation.name child.name)
                (λ e. rw e (ap is_some (none_with tables.contents link.name tid (alone.child k link listed.at (is_its_child spells number relation number_at k link child listed (sym (name_same relation.name child.name e)))))))
                (λ e. rw e refl)

            above : (k : ℕ) (link : LinkEntry) (child : RelationEntry) → IsListedLink listing k link child → (is_parent_relation (link_definition listing link child) relation.name && is_some (content tables.contents (ChainItem link.name (Some tid)))) ≡ false
            above k link child listed = by_test (is_parent_relation (link_definition listing link child) relation.name)
                (λ e. rw e (ap is_some (no_content spells.links link.name (Some tid) (alone.parent k link listed.at (is_its_parent spells number relation number_at k link child listed (this_one (link_definition listing link child).parent relation.name e))))))
                (λ e. rw e refl)

    -- a tuple of the relation may be put there or taken away, and links still fit
    pub alone_unlinked : (next : Option (List Value)) → IsAlone listing tables.contents number tid → Unlinked tables relation.name tid next
    alone_unlinked next alone gone name definition got =
        let of = link_numbered spells name definition got in
        let named : name ≡ of.link.name = ap (λ (p : Name × LinkDef). p.0) of.is in
        let is : definition ≡ link_definition listing of.link of.child = ap (λ (p : Name × LinkDef). p.1) of.is in (
          λ child parent. subst (λ (n : Name). stands_in tid (chain tables.contents n parent) ≡ false) (sym named) (alone.child of.number of.link of.listed.at (is_its_child spells number relation number_at of.number of.link of.child of.listed (ap (λ (d : LinkDef). d.child) (sym is) ∙ child)) parent),
          λ parent. no_content spells.links name (Some tid) (subst (λ (n : Name). chain tables.contents n (Some tid) ≡ []) (sym named) (alone.parent of.number of.link of.listed.at (is_its_parent spells number relation number_at of.number of.link of.child of.listed (ap (λ (d : LinkDef). d.parent) (sym is) ∙ parent)))),
        )

    pub tuple_keeps_links : (next : Option (List Value)) → (next ≡ None → IsAlone listing tables.contents number tid)
        → LinksFit (record tables { contents = put tables.contents (TupleItem relation.name tid) (option_map Values next) })
    tuple_keeps_links next alone = links_put tables relation.name tid next (λ gone. alone_unlinked next (alone gone) gone) spells.links

-- ---- a tuple that is put, or goes

module _ {tables : Tables} (links : LinksFit tables) (name : Name) (tid : Tid) (held : Option Content) where
  abbrev pub put_tuple : Contents
  put_tuple = put tables.contents (TupleItem name tid) held

  pub tuple_keeps_content : (link : Name) (parent : Option Tid) → content put_tuple (ChainItem link parent) ≡ content tables.contents (ChainItem link parent)
  tuple_keeps_content link parent = put_other tables.contents (TupleItem name tid) (ChainItem link parent) held (λ e. cc (e))

  pub tuple_keeps_chain : (link : Name) (parent : Option Tid) → chain put_tuple link parent ≡ chain tables.contents link parent
  tuple_keeps_chain link parent = ap tuples_in (tuple_keeps_content link parent)

  pub tuple_keeps_with : (link : Name) (other : Tid) → chain_with put_tuple link other ≡ chain_with tables.contents link other
  tuple_keeps_with link other = sym (chain_same tables.contents put_tuple link other (λ p. ap (stands other) (sym (tuple_keeps_content link p))) (λ p q first second. links.alone link p q other first second))

  keeps_place : (other : Tid) (o : Option Item) → ((item : Item) → o ≡ Some item → content put_tuple item ≡ content tables.contents item) → place_of put_tuple other o ≡ place_of tables.contents other o
  keeps_place other None same = refl
  keeps_place other (Some item) same = by (parent_in item)
    where
      by : (above : Option Tid) → place_below put_tuple other item above ≡ place_below tables.contents other item above
      by None = refl
      by (Some p) = ap (λ (o : Option Content). option_map (λ (n : Neighbours). record { parent = p; neighbours = n }) (neighbours_in (tuples_in o) other)) (same item refl)

  keeps_block : (link : Name) (other : Tid) (part : Part) → block_of put_tuple link other part ≡ block_of tables.contents link other part
  keeps_block link other Outside = refl
  keeps_block link other Member = ap (λ (l : List Tid). member_block (neighbours_in l other)) (tuple_keeps_chain link None)
  keeps_block link other Child = ap child_block (ap (place_of put_tuple other) (tuple_keeps_with link other)
      ∙ keeps_place other (chain_with tables.contents link other) (λ item is. let found = chain_found tables.contents link other item is in subst (λ (i : Item). content put_tuple i ≡ content tables.contents i) (sym found.1) (tuple_keeps_content link found.0)))
  keeps_block link other Parent = ap (λ (l : List Tid). parent_block (ends_of l)) (tuple_keeps_chain link (Some other))
