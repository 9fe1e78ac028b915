-- Prefixes of tuples: which contents give them alike, what they are of a tuple in no chain, and how many bytes a body has by the definitions.
use Rattle.std.proofs.Common.{◌≡◌, ◌≢◌, inl, inr, ℕ, zero, suc, Bool, true, false, cond, List, [], ◌∷◌, ◌++◌, length, get_or, refl, sym, ◌∙◌, ap, subst, arith, length-append}
use Rattle.std.specs.Prelude.{Option, Some, None, IfSome, is_some, option_map, option_and_then, unwrap_or, flat_map, filter, find, sum_by, map as list_map, All, ⊤, ◌&&◌, ◌||◌, ◌==◌, if◌then◌else◌}
use Rattle.std.specs.FinMap as map
use Rattle.std.specs.FinMap.{entries_sorted, entries-from_sorted, get-entries, get-from_sorted, same_map}
use Rattle.std.specs.FinMap.Entries.{find-where_key, is_sorted-where_key}
use Rattle.std.proofs.lemmas.Bool.{eqb-true, eqb-false}
use Rattle.std.proofs.lemmas.Option.{none-some, same_Some}
use Rattle.rss_base.specs.Listings.{Listing, ListingFits, names_of, relation_at, link_at, has_role, is_parent_in, roles_of}
use Rattle.rss_base.specs.Prefixes.{Neighbours, Part, Outside, Member, Child, Parent, is_tid, neighbours_from, neighbours_in, member_block, child_block, parent_block, ends_of, block_size, lower_part, part_in, listed_block_size, prefix_size, early_part}
use Rattle.rss_base.specs.TupleTypes.{tuple_bytes, kinds}
use Rattle.rss_base.specs.declared.name.Name.{Name}
use Rattle.rss_base.specs.declared.tid.Tid.{Tid}
use Rattle.rss_base.specs.declared.item.Item.{Item}
use Rattle.rss_base.specs.declared.item.Item.TheVariants.{Segment, Relation, Tuple, Chain, Key}
use Rattle.rss_base.specs.declared.value.Value.{Value}
use Rattle.rss_base.specs.declared.relation.RelationEntry.{RelationEntry}
use Rattle.rss_base.specs.declared.link.LinkEntry.{LinkEntry}
use Rattle.rss_base.specs.declared.refusal.Kind.TheVariants.{Link as LinkKind}
use Rattle.rss_model.specs.Items.{Content, Values, item_cmp, is_name}
use Rattle.rss_model.specs.Tables.{LinkDef, Definitions, Contents, Tables, content, put, fields_in}
use Rattle.rss_model.specs.Chains.{tuples_in, chain, has_tuple, chain_with, stands_in, has_part, parts_of, is_there, HasParent, IsChainOf, LinksFit}
use Rattle.rss_model.specs.Meter.{block_of_link, blocks_size, body_size, part_by}
use Rattle.rss_stored.specs.Store.{Defines, HasNumber, IsListedLink, link_definition, relation_name, place_of, block_of, listed_block, prefix_of, body_of, fields_at}
use Rattle.rss_stored.proofs.Blocks.{prefix_long}
use Rattle.rss_model.proofs.ChainKeeping.{chain_found}
use Rattle.rss_model.proofs.Codes.{item_total, item_apart, name_total, name_apart}
use Rattle.rss_model.proofs.Contents.{content_elsewhere, tied, not_tied}
use Rattle.rss_model.proofs.Counts.{one_if}
use Rattle.rss_stored.proofs.ImageRooms.{sum_named}
use Rattle.rss_stored.proofs.Listed.{IsListOf, at_place, sum_found, fields_listed, fields_at_is}
use Rattle.rss_model.proofs.LogLists.{by_test, false_true, some_of}
use Rattle.rss_model.proofs.Mixing.{In, each_of}
use Rattle.rss_stored.proofs.Spelled.{listed_link, name_numbered, named_link}
use Rattle.rss_model.proofs.Standing.{or_none, tid_apart, tid_itself, tid_same}
use Rattle.rss_base.specs.declared.value.FieldForm.{FieldForm}

-- ---- contents with the same chains

-- each chain holds the same
abbrev pub HaveSameChains : Contents → Contents → Type 0
HaveSameChains a b = (link : Name) (parent : Option Tid) → content a (Chain link parent) ≡ content b (Chain link parent)

abbrev first_key : {K V : Type 0} → List (K × V) → Option K
first_key [] = None
first_key (e ∷ es) = Some e.0

found_first : {K V : Type 0} (p : K → Bool) (es : List (K × V)) → find p (list_map (λ e. e.0) es) ≡ first_key (filter (λ e. p e.0) es)
found_first p [] = refl
found_first p (e ∷ es) = by_test (p e.0) (λ t. rw t refl) (λ t. rw t (found_first p es))

-- the entries that pass a test are the same where it lets the same through
passing_same : (a b : Contents) (p q : Item → Bool) → ((item : Item) → cond (p item) (content a item) None ≡ cond (q item) (content b item) None) → filter (λ e. p e.0) (map.entries a) ≡ filter (λ e. q e.0) (map.entries b)
passing_same a b p q same =
    let mine : List (Item × Content) = filter (λ e. p e.0) (map.entries a) in
    let theirs : List (Item × Content) = filter (λ e. q e.0) (map.entries b) in
    sym (entries-from_sorted item_cmp mine (is_sorted-where_key item_cmp p (map.entries a) (entries_sorted a)))
    ∙ ap map.entries (same_map item_total item_apart (map.from_sorted mine) (map.from_sorted theirs) (λ item. got a p item ∙ same item ∙ sym (got b q item)))
    ∙ entries-from_sorted item_cmp theirs (is_sorted-where_key item_cmp q (map.entries b) (entries_sorted b))
  where
    got : (c : Contents) (r : Item → Bool) (item : Item) → map.get (map.from_sorted {R = item_cmp} (filter (λ e. r e.0) (map.entries c))) item ≡ cond (r item) (content c item) None
    got c r item =
        get-from_sorted item_cmp (filter (λ e. r e.0) (map.entries c)) item (is_sorted-where_key item_cmp r (map.entries c) (entries_sorted c))
        ∙ find-where_key item_cmp r item (λ x tie. sym (ap r (item_apart item x tie))) (map.entries c)
        ∙ ap (λ (o : Option Content). cond (r item) o None) (sym (get-entries c item))

module _ (a b : Contents) (same : HaveSameChains a b) where
  pub chain_same : (link : Name) (parent : Option Tid) → chain a link parent ≡ chain b link parent
  chain_same link parent = ap tuples_in (same link parent)

  pub chain_with_same : (link : Name) (tid : Tid) → chain_with a link tid ≡ chain_with b link tid
  unfolding chain_with
  chain_with_same link tid =
      found_first (has_tuple a link tid) (map.entries a)
      ∙ ap first_key (passing_same a b (has_tuple a link tid) (has_tuple b link tid) each)
      ∙ sym (found_first (has_tuple b link tid) (map.entries b))
    where
      each : (item : Item) → cond (has_tuple a link tid item) (content a item) None ≡ cond (has_tuple b link tid item) (content b item) None
      each (Segment name) = refl
      each (Relation name) = refl
      each (Tuple relation t) = refl
      each (Chain name parent) = ap (λ (o : Option Content). cond (is_name link name && stands_in tid (tuples_in o)) o None) (same name parent)
      each (Key image values) = refl

  -- a tuple stands in the same place
  pub place_same : (link : Name) (tid : Tid) → place_of a tid (chain_with a link tid) ≡ place_of b tid (chain_with b link tid)
  place_same link tid = by (chain_with a link tid) refl
    where
      below : (parent : Option Tid) → place_of a tid (Some (Chain link parent)) ≡ place_of b tid (Some (Chain link parent))
      below None = refl
      below (Some parent) = ap (λ (o : Option Content). option_map (λ (n : Neighbours). record { parent = parent; neighbours = n }) (neighbours_in (tuples_in o) tid)) (same link (Some parent))

      by : (found : Option Item) → chain_with a link tid ≡ found → place_of a tid (chain_with a link tid) ≡ place_of b tid (chain_with b link tid)
      by None is = ap (place_of a tid) is ∙ sym (ap (place_of b tid) (sym (chain_with_same link tid) ∙ is))
      by (Some item) is =
          let of = chain_found a link tid item is in
          let at : chain_with a link tid ≡ Some (Chain link of.0) = is ∙ ap Some of.1 in
          ap (place_of a tid) at ∙ below of.0 ∙ sym (ap (place_of b tid) (sym (chain_with_same link tid) ∙ at))

  pub block_alike : (link : Name) (tid : Tid) (part : Part) → block_of a link tid part ≡ block_of b link tid part
  block_alike link tid Outside = refl
  block_alike link tid Member = ap (λ (tids : List Tid). member_block (neighbours_in tids tid)) (chain_same link None)
  block_alike link tid Child = ap child_block (place_same link tid)
  block_alike link tid Parent = ap (λ (tids : List Tid). parent_block (ends_of tids)) (chain_same link (Some tid))

  listed_alike : (number : ℕ) (tid : Tid) (link : Option LinkEntry) → listed_block a number tid link ≡ listed_block b number tid link
  listed_alike number tid None = refl
  listed_alike number tid (Some link) = block_alike link.name tid (early_part link number)

  -- a tuple has the same prefix
  pub prefix_same : (listing : Listing) (number : ℕ) (tid : Tid) → prefix_of listing a number tid ≡ prefix_of listing b number tid
  prefix_same listing number tid = ap (λ (f : Option LinkEntry → List ℕ). flat_map f listing.links) (λ i link. listed_alike number tid link i)

  pub body_same : (listing : Listing) (number : ℕ) (tid : Tid) (values : List Value) → body_of listing a number tid values ≡ body_of listing b number tid values
  body_same listing number tid values = ap (λ (prefix : List ℕ). number ∷ (prefix ++ tuple_bytes (fields_at listing number) values)) (prefix_same listing number tid)

-- ---- a tuple is put

module _ (contents : Contents) (relation : Name) (tid : Tid) (held : Option Content) where
  -- no chain has changed
  pub chains_kept : HaveSameChains (put contents (Tuple relation tid) held) contents
  chains_kept link parent = content_elsewhere contents (Tuple relation tid) held (Chain link parent) other
    where
      other : Chain link parent ≢ Tuple relation tid
      other is = cc (is)

  pub chain_kept : (link : Name) (parent : Option Tid) → chain (put contents (Tuple relation tid) held) link parent ≡ chain contents link parent
  chain_kept link parent = chain_same (put contents (Tuple relation tid) held) contents chains_kept link parent

  -- no prefix has
  pub prefix_kept : (listing : Listing) (number : ℕ) (other : Tid) → prefix_of listing (put contents (Tuple relation tid) held) number other ≡ prefix_of listing contents number other
  prefix_kept listing number other = prefix_same (put contents (Tuple relation tid) held) contents chains_kept listing number other

  pub body_kept : (listing : Listing) (number : ℕ) (other : Tid) (values : List Value) → body_of listing (put contents (Tuple relation tid) held) number other values ≡ body_of listing contents number other values
  body_kept listing number other values = body_same (put contents (Tuple relation tid) held) contents chains_kept listing number other values

-- ---- a tuple in no chain

-- the tuple is in no chain of the link, or has none, whichever its part in the link asks
abbrev pub IsBlank : Contents → Name → Tid → Part → Type 0
IsBlank contents link tid Outside = ⊤
IsBlank contents link tid Member = stands_in tid (chain contents link None) ≡ false
IsBlank contents link tid Child = (parent : Option Tid) → stands_in tid (chain contents link parent) ≡ false
IsBlank contents link tid Parent = chain contents link (Some tid) ≡ []

-- so it is of each listed link
abbrev pub AreBlank : Listing → Contents → ℕ → Tid → Type 0
AreBlank listing contents number tid =
    (k : ℕ) (link : LinkEntry) → link_at listing k ≡ Some link → IsBlank contents link.name tid (part_in link number)

-- the blocks that say so
pub record AreBlankBlocks (blank : Part → List ℕ) : Type 0 where
  pub outside : blank Outside ≡ []
  pub member : blank Member ≡ member_block None
  pub child : blank Child ≡ child_block None
  pub parent : blank Parent ≡ parent_block (ends_of [])

no_neighbours : (before : Option Tid) (tids : List Tid) (tid : Tid) → stands_in tid tids ≡ false → neighbours_from before tids tid ≡ None
no_neighbours before [] tid off = refl
no_neighbours before (other ∷ tids) tid off =
    let parts = or_none (is_tid tid other) (stands_in tid tids) off in
    let apart : is_tid other tid ≡ false = tid_apart other tid (λ same. false_true (subst (λ (t : Tid). is_tid tid t ≡ true) (sym same) (tid_itself tid)) parts.0) in
    rw apart (no_neighbours (Some other) tids tid parts.1)

in_of : (tids : List Tid) (tid : Tid) → stands_in tid tids ≡ true → In tid tids
in_of [] tid is = absurd (cc (is))
in_of (other ∷ tids) tid is = by_test (is_tid tid other)
    (λ e. inl (sym (tid_same tid other e)))
    (λ e. inr (in_of tids tid (rw e at is)))

flat_map_alike : (f g : Option LinkEntry → List ℕ) (links : List (Option LinkEntry)) → f None ≡ g None → ((k : ℕ) (link : LinkEntry) → get_or links k None ≡ Some link → f (Some link) ≡ g (Some link)) → flat_map f links ≡ flat_map g links
flat_map_alike f g [] none each = refl
flat_map_alike f g (None ∷ links) none each = let rest = flat_map_alike f g links none (λ k. each (suc k)) in λ i. none i ++ rest i
flat_map_alike f g (Some link ∷ links) none each = let rest = flat_map_alike f g links none (λ k. each (suc k)) in λ i. each zero link refl i ++ rest i

module _ (contents : Contents) (link : Name) (tid : Tid) where
  no_chain_with : ((parent : Option Tid) → stands_in tid (chain contents link parent) ≡ false) → chain_with contents link tid ≡ None
  no_chain_with none = by (chain_with contents link tid) refl
    where
      by : (found : Option Item) → chain_with contents link tid ≡ found → chain_with contents link tid ≡ None
      by None is = is
      by (Some item) is = let of = chain_found contents link tid item is in false_true of.2 (none of.0)

  pub block_blank : {blank : Part → List ℕ} → AreBlankBlocks blank → (part : Part) → IsBlank contents link tid part → block_of contents link tid part ≡ blank part
  block_blank of Outside is = sym of.outside
  block_blank of Member is = ap member_block (no_neighbours None (chain contents link None) tid is) ∙ sym of.member
  block_blank of Child is = ap (λ (o : Option Item). child_block (place_of contents tid o)) (no_chain_with is) ∙ sym of.child
  block_blank of Parent is = ap (λ (tids : List Tid). parent_block (ends_of tids)) is ∙ sym of.parent

-- such a tuple has the prefix of these blocks
pub prefix_blank : (listing : Listing) (contents : Contents) (number : ℕ) (tid : Tid) → AreBlank listing contents number tid → {blank : Part → List ℕ} → AreBlankBlocks blank
    → (blocks : Option LinkEntry → List ℕ) → blocks None ≡ [] → ((link : LinkEntry) → blocks (Some link) ≡ blank (early_part link number)) → prefix_of listing contents number tid ≡ flat_map blocks listing.links
prefix_blank listing contents number tid are of blocks none some =
    flat_map_alike (listed_block contents number tid) blocks listing.links (sym none)
    (λ k link is. block_blank contents link.name tid of (early_part link number) (early link.late link.name (part_in link number) (are (suc k) link (at_place listing.links k ∙ is))) ∙ sym (some link))
  where
    early : (late : Bool) (link : Name) (part : Part) → IsBlank contents link tid part → IsBlank contents link tid (if late then Outside else part)
    early true link part is = tt
    early false link part is = is

-- ---- links by names and by numbers

module _ {listing : Listing} {definitions : Definitions} (fits : ListingFits listing) (defines : Defines listing definitions) where
  -- the links that are defined are those that are listed
  pub links_listed : IsListOf (names_of LinkKind listing) definitions.links
  links_listed = record {
    each = λ k name at.
        let has = named_link listing name (suc k, at_place (names_of LinkKind listing) k ∙ at) in
        let so = listed_link fits has.number has.link has.at in
        ap (λ (q : Name). is_some (map.get definitions.links q)) (sym has.named) ∙ ap is_some (defines.paths.links has.number has.link so.0 so.1);
    only = λ name there. place name (defines.paths.only_links name there);
    once = λ j k name one other. less_one j k (fits.paths.links_once (suc j) (suc k) name (at_place (names_of LinkKind listing) j ∙ one) (at_place (names_of LinkKind listing) k ∙ other));
  }
    where
      place : (name : Name) → HasNumber LinkKind listing name → (k : ℕ) × (get_or (names_of LinkKind listing) k None ≡ Some name)
      place name (zero, at) = absurd (none-some name at)
      place name (suc k, at) = (k, sym (at_place (names_of LinkKind listing) k) ∙ at)

      less_one : (j k : ℕ) → suc j ≡ suc k → j ≡ k
      less_one j k same = omega (arith, same)

  -- a sum over the links is the same over their definitions
  pub links_sum : (f : LinkDef → ℕ) (g : Option LinkEntry → ℕ) → g None ≡ 0 → ((number : ℕ) (link : LinkEntry) (child : RelationEntry) → IsListedLink listing number link child → f (link_definition listing link child) ≡ g (Some link))
      → sum_by f (map.values definitions.links) ≡ sum_by g listing.links
  links_sum f g none each =
      sum_found f (λ (e : Name × LinkDef). e.1) of_defined (names_of LinkKind listing) definitions.links links_listed (λ name link is. sym (ap (λ (o : Option LinkDef). unwrap_or (option_map f o) 0) is))
      ∙ sum_named (λ (link : LinkEntry). link.name) of_defined g listing.links none
      (λ k link is.
      let so = listed_link fits (suc k) link (at_place listing.links k ∙ is) in
      ap (λ (o : Option LinkDef). unwrap_or (option_map f o) 0) (defines.paths.links (suc k) link so.0 so.1) ∙ each (suc k) link so.0 so.1)
    where
      of_defined : Name → ℕ
      of_defined name = unwrap_or (option_map f (map.get definitions.links name)) 0

  -- names of listed relations tie where their numbers are the same
  module _ (j k : ℕ) (one other : RelationEntry) (at : relation_at listing j ≡ Some one) (at_too : relation_at listing k ≡ Some other) where
    one_relation : (j == k) ≡ true → one ≡ other
    one_relation e = same_Some _ _ (sym at ∙ ap (relation_at listing) (eqb-true j k e) ∙ at_too)

    two_names : (j == k) ≡ false → one.name ≢ other.name
    two_names e same =
        eqb-false j k e (fits.relations_once j k other.name (name_numbered (λ (r : RelationEntry). r.name) listing.relations j one at ∙ ap Some same) (name_numbered (λ (r : RelationEntry). r.name) listing.relations k other at_too))

    pub tied_by : is_name one.name other.name ≡ (j == k)
    tied_by = by_test (j == k)
        (λ e. subst (λ (r : RelationEntry). is_name one.name r.name ≡ true) (one_relation e) (tied name_total name_apart one.name) ∙ sym e)
        (λ e. not_tied name_total name_apart one.name other.name (two_names e) ∙ sym e)

    pub tied_back : is_name other.name one.name ≡ (j == k)
    tied_back = by_test (j == k)
        (λ e. subst (λ (r : RelationEntry). is_name r.name one.name ≡ true) (one_relation e) (tied name_total name_apart one.name) ∙ sym e)
        (λ e. not_tied name_total name_apart other.name one.name (λ same. two_names e (sym same)) ∙ sym e)

  module _ (number : ℕ) (relation : RelationEntry) (at : relation_at listing number ≡ Some relation) where
    module _ (k : ℕ) (link : LinkEntry) (child : RelationEntry) (its : IsListedLink listing k link child) where
      abbrev with_parent : Option Name → LinkDef
      with_parent parent = record { parent = parent; child = child.name; late = link.late }

      child_tied : is_name relation.name child.name ≡ (link.child == number)
      child_tied = tied_back link.child number child relation its.within at

      upper_name : (p : ℕ) → link.parent ≡ Some p → (above : RelationEntry) × (relation_at listing p ≡ Some above)
      upper_name p is = some_of (relation_at listing p) (subst (λ (o : Option ℕ). IfSome o (λ number. (is_some (relation_at listing number) ≡ true) × (number ≢ link.child))) is (fits.paths.links k link its.at).parent).0

      part_at : (parent : Option ℕ) → link.parent ≡ parent → (t : Bool) → (link.child == number) ≡ t
          → part_by relation.name (with_parent (option_and_then (relation_name listing) parent)) ≡ (if t then lower_part parent else (if is_parent_in parent number then Parent else Outside))
      part_at None is true e = rw (child_tied ∙ e) refl
      part_at None is false e = rw (child_tied ∙ e) refl
      part_at (Some p) is true e =
          let above = upper_name p is in
          ap (λ (o : Option Name). part_by relation.name (with_parent o)) (ap (option_map (λ (r : RelationEntry). r.name)) above.1) ∙ rw (child_tied ∙ e) refl
      part_at (Some p) is false e =
          let above = upper_name p is in
          ap (λ (o : Option Name). part_by relation.name (with_parent o)) (ap (option_map (λ (r : RelationEntry). r.name)) above.1)
          ∙ by_test (p == number)
          (λ t. rw (child_tied ∙ e, tied_by p number above.0 relation above.1 at ∙ t, t) refl)
          (λ t. rw (child_tied ∙ e, tied_by p number above.0 relation above.1 at ∙ t, t) refl)

      -- the block of a link is as long by its definition as by the listing
      pub block_size_is : block_of_link relation.name (link_definition listing link child) ≡ block_size (early_part link number)
      block_size_is = ap (λ (part : Part). block_size (if link.late then Outside else part)) (part_at link.parent refl (link.child == number) refl)

      role_at : (parent : Option ℕ) → link.parent ≡ parent → has_part relation.name (with_parent (option_and_then (relation_name listing) parent)) ≡ ((link.child == number) || is_parent_in parent number)
      role_at None is = ap (λ (t : Bool). t || false) child_tied
      role_at (Some p) is =
          let above = upper_name p is in
          ap (λ (o : Option Name). has_part relation.name (with_parent o)) (ap (option_map (λ (r : RelationEntry). r.name)) above.1)
          ∙ (λ i. child_tied i || tied_by p number above.0 relation above.1 at i)

      -- the relation has a part in it by the definition where it has one by the listing
      pub has_part_is : has_part relation.name (link_definition listing link child) ≡ has_role number (Some link)
      has_part_is = role_at link.parent refl

    -- all blocks are as long by the definitions as by the listing
    pub blocks_size_is : blocks_size definitions relation.name ≡ prefix_size listing.links number
    blocks_size_is = links_sum (block_of_link relation.name) (listed_block_size number) refl (λ k link child its. block_size_is k link child its)

    -- the relation is in as many links
    pub parts_are : parts_of definitions relation.name ≡ roles_of listing number
    parts_are = links_sum (λ (d : LinkDef). one_if (has_part relation.name d)) (λ (o : Option LinkEntry). one_if (has_role number o)) refl (λ k link child its. ap one_if (has_part_is k link child its))

    -- a tuple takes as many bytes as its body has
    pub size_is : (contents : Contents) (tid : Tid) (values : List Value) → body_size definitions relation.name (Values values) ≡ length (body_of listing contents number tid values)
    size_is contents tid values =
        let fields : kinds (fields_in definitions relation.name) ≡ fields_at listing number = ap kinds (fields_listed fits defines number relation at) ∙ sym (fields_at_is listing number relation at) in
        omega (arith, blocks_size_is, prefix_long listing contents number tid, length-append (prefix_of listing contents number tid) (tuple_bytes (fields_at listing number) values), ap (λ (f : List FieldForm). length (tuple_bytes f values)) fields)

-- ---- a tuple that isn't there

module _ {listing : Listing} {tables : Tables} (fits : ListingFits listing) (defines : Defines listing tables.definitions) (links : LinksFit tables) (number : ℕ) (relation : RelationEntry) (at : relation_at listing number ≡ Some relation) (tid : Tid) (absent : is_there tables.contents relation.name tid ≡ false) where
  module _ (k : ℕ) (link : LinkEntry) (child : RelationEntry) (its : IsListedLink listing k link child) where
    definition_is : {parent : Option Tid} {held : Content} → (of : IsChainOf tables link.name parent held) → of.definition ≡ link_definition listing link child
    definition_is of = same_Some _ _ (sym of.defined ∙ defines.paths.links k link child its)

    -- a chain has tuples that are there
    in_none : child ≡ relation → (parent : Option Tid) → stands_in tid (chain tables.contents link.name parent) ≡ false
    in_none same parent = by (content tables.contents (Chain link.name parent)) refl
      where
        by : (held : Option Content) → content tables.contents (Chain link.name parent) ≡ held → stands_in tid (chain tables.contents link.name parent) ≡ false
        by None is = ap (λ (o : Option Content). stands_in tid (tuples_in o)) is
        by (Some held) is =
            let of = links.chains link.name parent held is in
            let tids : tuples_in (content tables.contents (Chain link.name parent)) ≡ of.tids = ap tuples_in (is ∙ ap Some of.is) in
            let members : All (λ t. is_there tables.contents relation.name t ≡ true) of.tids =
            subst (λ (r : RelationEntry). All (λ t. is_there tables.contents r.name t ≡ true) of.tids) same
            (subst (λ (d : LinkDef). All (λ t. is_there tables.contents d.child t ≡ true) of.tids) (definition_is of) of.members) in
            by_test (stands_in tid (chain tables.contents link.name parent))
            (λ on. false_true (each_of (λ t. is_there tables.contents relation.name t ≡ true) of.tids members tid (in_of of.tids tid (ap (stands_in tid) (sym tids) ∙ on))) absent)
            (λ off. off)

    -- and stands below one that is
    has_none : link.parent ≡ Some number → chain tables.contents link.name (Some tid) ≡ []
    has_none parents = by (content tables.contents (Chain link.name (Some tid))) refl
      where
        by : (held : Option Content) → content tables.contents (Chain link.name (Some tid)) ≡ held → chain tables.contents link.name (Some tid) ≡ []
        by None is = ap tuples_in is
        by (Some held) is =
            let of = links.chains link.name (Some tid) held is in
            let named : of.definition.parent ≡ Some relation.name = ap (λ (d : LinkDef). d.parent) (definition_is of) ∙ ap (option_and_then (relation_name listing)) parents ∙ ap (option_map (λ (r : RelationEntry). r.name)) at in
            false_true (subst (λ (o : Option Name). HasParent tables.contents o (Some tid)) named of.under) absent

    part_blank : IsBlank tables.contents link.name tid (part_in link number)
    part_blank = by_test (link.child == number)
        (λ e. let none = in_none (same_Some _ _ (sym its.within ∙ ap (relation_at listing) (eqb-true link.child number e) ∙ at)) in rw e (lower link.parent none))
        (λ e. by_test (is_parent_in link.parent number)
        (λ t. rw (e, t) (has_none (upper link.parent t)))
        (λ t. rw (e, t) (tt {0})))
      where
        lower : (parent : Option ℕ) → ((p : Option Tid) → stands_in tid (chain tables.contents link.name p) ≡ false) → IsBlank tables.contents link.name tid (lower_part parent)
        lower None none = none None
        lower (Some parent) none = none

        upper : (parent : Option ℕ) → is_parent_in parent number ≡ true → parent ≡ Some number
        upper None is = absurd (cc (is))
        upper (Some parent) is = ap Some (eqb-true parent number is)

  -- A tuple that isn't there is in no chain, and has none.
  pub absent_blank : AreBlank listing tables.contents number tid
  absent_blank k link is = let so = listed_link fits k link is in part_blank k link so.0 so.1
