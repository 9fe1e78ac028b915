-- The first link by name in which a tuple stands in a chain or has one.
use Rattle.std.proofs.Common.{◌≡◌, ◌⊎◌, inl, inr, ℕ, ◌+◌, ◌*◌, ◌<◌, ◌≤◌, Bool, true, false, List, [], ◌∷◌, Option, Some, None, refl, sym, ◌∙◌, ap, subst, arith}
use Rattle.std.specs.Prelude.{◌≢◌, ◌||◌, is_some, IfSome, option_map, find, nat_eq}
use Rattle.std.specs.FinMap as map
use Rattle.std.specs.FinMap.{entries_sorted, is_sorted}
use Rattle.std.specs.declared.cmp.Ordering.TheVariants.{Less}
use Rattle.std.proofs.Math.Dec.{T}
use Rattle.std.specs.Option.{option_eq}
use Rattle.std.proofs.lemmas.Bool.{cases_eq, cases_lt, eqb-true, eq-eqb}
use Rattle.std.proofs.lemmas.Option.{same_Some}
use Rattle.rss_base.specs.Listings.{Listing, relation_at, link_at}
use Rattle.rss_base.specs.Prefixes.{first_of}
use Rattle.rss_base.specs.Sizes.{links_most}
use Rattle.rss_base.specs.Steps.{Keys, no_page}
use Rattle.rss_base.specs.declared.name.Name.{Name}
use Rattle.rss_base.specs.declared.tid.Tid.{Tid}
use Rattle.rss_base.specs.declared.item.Item.TheVariants.{Chain as ChainItem}
use Rattle.rss_base.specs.declared.relation.RelationEntry.{RelationEntry}
use Rattle.rss_base.specs.declared.link.LinkEntry.{LinkEntry}
use Rattle.rss_base.proofs.Steps as pages
use Rattle.rss_catalog.proofs.Numbered.{numbered_within}
use Rattle.rss_tuple.specs.Directory.{Bodies}
use Rattle.rss_tuple.specs.TupleSteps.{TuplesView, Tuples, no_tuple}
use Rattle.rss_model.specs.Items.{Content, name_cmp, is_name}
use Rattle.rss_model.specs.Tables.{LinkDef, Tables, content}
use Rattle.rss_model.specs.Chains.{tuples_in, chain, chain_with, is_this, is_parent_relation, is_connected, connected, LinksFit}
use Rattle.rss_stored.specs.Store.{IsListedLink, link_definition}
use Rattle.rss_model.proofs.Codes.{name_total, name_apart}
use Rattle.rss_model.proofs.ImageLists.{T_parts}
use Rattle.rss_model.proofs.Locking.{none_of, find_in}
use Rattle.rss_model.proofs.LogLists.{by_test, false_true, none_some}
use Rattle.rss_model.proofs.Mixing.{In}
use Rattle.rss_model.proofs.SeenAlike.{all_below, not_below}
use Rattle.rss_link.specs.Calls.{HoldsHeaps}
use Rattle.rss_link.proofs.TupleSteps.{TuplesStep}
use Rattle.rss_members.specs.Members.{SpellsMembers}
use Rattle.rss_members.specs.Calls.{MembersView, AnswersTuple, IsConnectedIn, IsFirstBelow, IsLesser}
use Rattle.rss_members.proofs.Defined.{find_none, name_itself, name_same, link_in, numbered_in, its_child, is_its_child, its_parent, is_its_parent}
use Rattle.rss_members.proofs.Alone.{no_content, this_one}

-- ---- one link

-- of tables that fit, a chain that is held has a first tuple
some_first : {tables : Tables} → LinksFit tables → (name : Name) (parent : Option Tid) → is_some (first_of (chain tables.contents name parent)) ≡ is_some (content tables.contents (ChainItem name parent))
some_first {tables = tables} links name parent = by (chain tables.contents name parent) refl
  where
    by : (tids : List Tid) → chain tables.contents name parent ≡ tids → is_some (first_of (chain tables.contents name parent)) ≡ is_some (content tables.contents (ChainItem name parent))
    by [] is = ap (λ (l : List Tid). is_some (first_of l)) is ∙ sym (ap is_some (no_content links name parent is))
    by (t ∷ tids) is = ap (λ (l : List Tid). is_some (first_of l)) is ∙ held (content tables.contents (ChainItem name parent)) is
      where
        held : (o : Option Content) → tuples_in o ≡ t ∷ tids → true ≡ is_some o
        held None is = absurd (cc (is))
        held (Some content) is = refl

module _ {listing : Listing} {bodies : Bodies} {tables : Tables} (spells : SpellsMembers listing bodies tables) (number : ℕ) (relation : RelationEntry) (number_at : relation_at listing number ≡ Some relation) (tid : Tid) where
  module _ (k : ℕ) (link : LinkEntry) (child : RelationEntry) (listed : IsListedLink listing k link child) where
    abbrev one : Name × LinkDef
    one = (link.name, link_definition listing link child)

    no_child : (link.child ≡ number → ⊥) → is_name relation.name child.name ≡ false
    no_child off = by_test (is_name relation.name child.name) (λ e. absurd (off (is_its_child spells number relation number_at k link child listed (sym (name_same relation.name child.name e))))) (λ e. e)

    no_parent : (link.parent ≡ Some number → ⊥) → is_parent_relation (link_definition listing link child) relation.name ≡ false
    no_parent off = by_test (is_parent_relation (link_definition listing link child) relation.name)
        (λ e. absurd (off (is_its_parent spells number relation number_at k link child listed (this_one (link_definition listing link child).parent relation.name e))))
        (λ e. e)

    -- the parents are of another relation than the children
    parent_other : link.child ≡ number → link.parent ≡ Some number → ⊥
    parent_other is above = let apart = subst (λ (o : Option ℕ). IfSome o (λ n. (is_some (relation_at listing n) ≡ true) × (n ≢ link.child))) above (spells.listed.paths.links k link listed.at).parent in absurd (apart.1 (sym is))

    pub by_child : link.child ≡ number → (found : Bool) → found ≡ is_some (chain_with tables.contents link.name tid) → found ≡ is_connected tables.contents relation.name tid one
    by_child is found same =
        let named : is_name relation.name child.name ≡ true = subst (λ (n : Name). is_name relation.name n ≡ true) (sym (its_child spells number relation number_at k link child listed is)) (name_itself relation.name) in
        let none : is_parent_relation (link_definition listing link child) relation.name ≡ false = no_parent (parent_other is) in
        rw (named, none) (same ∙ sym (or_false (is_some (chain_with tables.contents link.name tid))))
      where
        or_false : (b : Bool) → (b || false) ≡ b
        or_false true = refl
        or_false false = refl

    pub by_parent : (link.child ≡ number → ⊥) → link.parent ≡ Some number → (found : Bool) → found ≡ is_some (first_of (chain tables.contents link.name (Some tid))) → found ≡ is_connected tables.contents relation.name tid one
    by_parent off is found same =
        let none : is_name relation.name child.name ≡ false = no_child off in
        let named : is_parent_relation (link_definition listing link child) relation.name ≡ true = ap (λ (o : Option Name). is_this o relation.name) (its_parent spells number relation number_at k link child listed is) ∙ name_itself relation.name in
        rw (none, named) (same ∙ some_first spells.links link.name (Some tid))

    pub by_none : (link.child ≡ number → ⊥) → (link.parent ≡ Some number → ⊥) → false ≡ is_connected tables.contents relation.name tid one
    by_none off off_above =
        let none : is_name relation.name child.name ≡ false = no_child off in
        let none_above : is_parent_relation (link_definition listing link child) relation.name ≡ false = no_parent off_above in
        rw (none, none_above) refl

-- a parent's number, as it is tested
pub parent_same : (above : Option ℕ) (number : ℕ) → option_eq nat_eq above (Some number) ≡ true → above ≡ Some number
parent_same None number is = absurd (cc (is))
parent_same (Some p) number is = ap (λ (n : ℕ). Some n) (eqb-true p number is)

pub parent_itself : (number : ℕ) → option_eq nat_eq (Some number) (Some number) ≡ true
parent_itself number = eq-eqb number number refl

-- ---- the first by name of those that were looked at

module _ (listing : Listing) (tables : Tables) (relation : Name) (tid : Tid) where
  abbrev Connects : ℕ → Type 0
  Connects k = IsConnectedIn listing tables relation tid k

  -- none has a number below 1
  pub none_first : IsFirstBelow listing tables relation tid 1 None
  none_first k low connects = let bounds = numbered_within listing.links k connects.link connects.listed.at in absurd (omega (arith, low, bounds.0))

  -- one more is none
  pub first_passes : (number : ℕ) (least : Option Name) → IsFirstBelow listing tables relation tid number least → (Connects number → ⊥) → IsFirstBelow listing tables relation tid (number + 1) least
  first_passes number None first never = λ k low connects. elim (cases_eq k number) [
    | inl here ↦ never (subst Connects here connects)
    | inr off ↦ first k (omega (arith, low, off)) connects
  ]
  first_passes number (Some name) first never = record {
    number = first.number;
    connects = first.connects;
    named = first.named;
    least = λ k other low less. elim (cases_eq k number) [
      | inl here ↦ never (subst Connects here other)
      | inr off ↦ first.least k other (omega (arith, low, off)) less
    ];
  }

  -- the link of a number has one name
  one_name : (k number : ℕ) → k ≡ number → (one : Connects k) (other : Connects number) → one.link.name ≡ other.link.name
  one_name k number same one other = ap (λ (l : LinkEntry). l.name) (same_Some _ _ (sym one.listed.at ∙ ap (link_at listing) same ∙ other.listed.at))

  pub first_more : (number : ℕ) (least : Option Name) (found : Name) → IsFirstBelow listing tables relation tid number least → (connects : Connects number) → IsLesser connects.link.name least found → IsFirstBelow listing tables relation tid (number + 1) (Some found)
  first_more number None found first connects lesser = record {
    number = number;
    connects = connects;
    named = sym lesser;
    least = λ k other low less. elim (cases_eq k number) [
      | inl here ↦ not_below name_total name_apart found (subst (λ (n : Name). name_cmp n found ≡ Less) (one_name k number here other connects ∙ sym lesser) less)
      | inr off ↦ absurd (first k (omega (arith, low, off)) other)
    ];
  }
  first_more number (Some least) found first connects (inl lesser) = record {
    number = number;
    connects = connects;
    named = sym lesser.1;
    least = λ k other low less. elim (cases_eq k number) [
      | inl here ↦ not_below name_total name_apart found (subst (λ (n : Name). name_cmp n found ≡ Less) (one_name k number here other connects ∙ sym lesser.1) less)
      | inr off ↦ first.least k other (omega (arith, low, off)) (name_total.trans other.link.name found least less (subst (λ (n : Name). name_cmp n least ≡ Less) (sym lesser.1) lesser.0))
    ];
  }
  first_more number (Some least) found first connects (inr greater) = record {
    number = first.number;
    connects = first.connects;
    named = first.named ∙ sym greater.1;
    least = λ k other low less. elim (cases_eq k number) [
      | inl here ↦ greater.0 (subst (λ (n : Name). name_cmp n least ≡ Less) (one_name k number here other connects) (subst (λ (n : Name). name_cmp other.link.name n ≡ Less) greater.1 less))
      | inr off ↦ first.least k other (omega (arith, low, off)) (subst (λ (n : Name). name_cmp other.link.name n ≡ Less) greater.1 less)
    ];
  }

-- ---- the first of all

-- what is found stands before all others that could be
found_first : (p : Name × LinkDef → Bool) (es : List (Name × LinkDef)) → T (is_sorted name_cmp es) → (e x : Name × LinkDef) → find p es ≡ Some e → In x es → p x ≡ true → (e ≡ x) ⊎ (name_cmp e.0 x.0 ≡ Less)
found_first p [] sorted e x found is so = absurd is
found_first p (y ∷ es) sorted e x found is so =
    let parts = T_parts _ _ sorted in
    by_test (p y)
    (λ t. let here : y ≡ e = same_Some _ _ (rw t at found) in elim is [
      | inl same ↦ inl (sym here ∙ same)
      | inr later ↦ inr (subst (λ (q : Name × LinkDef). name_cmp q.0 x.0 ≡ Less) here (all_below name_total name_apart y.0 es parts.0 x later))
    ])
    (λ t. elim is [
      | inl same ↦ false_true (ap p same ∙ so) t
      | inr later ↦ found_first p es parts.1 e x (rw t at found) later so
    ])

module _ {listing : Listing} {bodies : Bodies} {tables : Tables} (spells : SpellsMembers listing bodies tables) (relation : Name) (tid : Tid) (below : ℕ) (behind : (number : ℕ) → below ≤ number → link_at listing number ≡ None) where
  abbrev tests : Name × LinkDef → Bool
  tests = is_connected tables.contents relation tid

  abbrev entries : List (Name × LinkDef)
  entries = map.entries tables.definitions.links

  -- a link that passes has a number below
  low_number : (number : ℕ) → IsConnectedIn listing tables relation tid number → number < below
  low_number number connects = elim (cases_lt number below) [
    | inl low ↦ low
    | inr high ↦ none_some (sym (behind number (omega (arith, high))) ∙ connects.listed.at)
  ]

  connects_by : (each : Name × LinkDef) → In each entries → tests each ≡ true → (number : ℕ) × (connects : IsConnectedIn listing tables relation tid number) × (each.0 ≡ connects.link.name)
  connects_by each is so =
      let of = numbered_in spells each is in
      (of.number, record { link = of.link; child = of.child; listed = of.listed; is = sym (ap tests of.is) ∙ so }, ap (λ (p : Name × LinkDef). p.0) of.is)

  -- of all links, it is the one that the machine finds
  pub first_connected : (found : Option Name) → IsFirstBelow listing tables relation tid below found → found ≡ connected tables relation tid
  first_connected None first = sym (ap (option_map (λ (l : Name × LinkDef). l.0)) (find_none tests entries (λ one is. by_test (tests one)
      (λ e. let of = connects_by one is e in absurd (first of.0 (low_number of.0 of.1) of.1))
      (λ e. e))))
  first_connected (Some name) first = by (find tests entries) refl
    where
      it : Name × LinkDef
      it = (first.connects.link.name, link_definition listing first.connects.link first.connects.child)

      its : In it entries
      its = link_in spells first.number first.connects.link first.connects.child first.connects.listed

      by : (o : Option (Name × LinkDef)) → find tests entries ≡ o → Some name ≡ option_map (λ (l : Name × LinkDef). l.0) o
      by None none = false_true first.connects.is (none_of tests entries none it its)
      by (Some e) is =
          let at = find_in tests entries e is in
          let of = connects_by e at.0 at.1 in
          elim (found_first tests entries (entries_sorted tables.definitions.links) e it is its first.connects.is) [
            | inl same ↦ ap (λ (n : Name). Some n) (sym first.named ∙ sym (ap (λ (p : Name × LinkDef). p.0) same))
            | inr less ↦ absurd (first.least of.0 of.1 (low_number of.0 of.1)
                (subst (λ (n : Name). name_cmp n name ≡ Less) of.2 (subst (λ (n : Name). name_cmp e.0 n ≡ Less) first.named less)))
          ]

-- ---- as links are looked at one by one

pub record Looking (at : MembersView) (new : TuplesView) (relation : ℕ) (tid : Tid) (place : ℕ) (least : Option Name) : Type 0 where
  pub step : TuplesStep no_page no_tuple (2 * place) at.tuples new
  pub few : place ≤ links_most
  pub first : AnswersTuple at relation tid (λ tables name. IsFirstBelow at.catalog.listing tables name tid (place + 1) least)

-- nothing is done
pub rests_there : {touched : Keys} {tuples : Tuples} {cost : ℕ} (view : TuplesView) → HoldsHeaps view → TuplesStep touched tuples cost view view
rests_there view heaps = record { below = pages.rests view.pages; heaps = heaps; others = λ told segment tid off. refl }
