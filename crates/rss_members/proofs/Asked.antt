-- What is asked of a listed link, as it is asked of its chains.
use Rattle.std.proofs.Common.{◌≡◌, ◌↔◌, ℕ, Bool, true, false, List, Option, Some, None, refl, sym, ◌∙◌, ap, subst}
use Rattle.std.specs.Prelude.{not, is_some}
use Rattle.std.proofs.Math.Logic.{∥∥₁_map}
use Rattle.std.proofs.lemmas.Option.{same_Some}
use Rattle.rss_base.specs.Listings.{relation_at, link_at}
use Rattle.rss_base.specs.Prefixes.{Ends}
use Rattle.rss_base.specs.declared.name.Name.{Name}
use Rattle.rss_base.specs.declared.tid.Tid.{Tid}
use Rattle.rss_base.specs.declared.item.Item.{Item}
use Rattle.rss_base.specs.declared.item.Item.TheVariants.{Chain as ChainItem}
use Rattle.rss_base.specs.declared.relation.RelationEntry.{RelationEntry}
use Rattle.rss_base.specs.declared.link.LinkEntry.{LinkEntry}
use Rattle.rss_tuple.specs.Finding.{IsFetched}
use Rattle.rss_model.specs.Tables.{Contents, Tables}
use Rattle.rss_model.specs.Chains.{chain, chain_with, stands_in, is_there, HasParent, LinksFit}
use Rattle.rss_stored.specs.Store.{body_of, IsListedLink, link_definition}
use Rattle.rss_model.proofs.ChainKeeping.{chain_found}
use Rattle.rss_model.proofs.ChangeKeeping.{in_no_chain}
use Rattle.rss_model.proofs.LogLists.{by_test, false_true, none_some}
use Rattle.rss_link.specs.declared.link.Chains.{Chains}
use Rattle.rss_link.specs.declared.link.Ends.{Ends as KeptEnds}
use Rattle.rss_link.specs.Blocks.{kept_ends}
use Rattle.rss_link.specs.Chains.{Lists, Stands, IsParent}
use Rattle.rss_link.specs.Links.{SpellChains}
use Rattle.rss_link.specs.Calls.{seen, MayAskParent, AnswersOf, MayAsk, Answers, IsTheOne, IsChildOf}
use Rattle.rss_link.proofs.Lists.{eqb_itself}
use Rattle.rss_link.proofs.Operations.{chain_has, in_chain, stands_under}
use Rattle.rss_members.specs.Members.{chains_of, listed_ends, linkage_in, segment_in, segment_of}
use Rattle.rss_members.specs.Calls.{MembersView, Spells, MayAskAbove, AnswersAbove, MayAskBelow, AnswersBelow, above_in, begins}
use Rattle.rss_members.proofs.Chained.{as_parent}
use Rattle.rss_members.proofs.Spelled.{eqb_off, kind, spells_chains, body_there}

module _ (at : MembersView) (number : ℕ) (works : Chains) (is : (link : LinkEntry) → link_at at.catalog.listing number ≡ Some link → works ≡ chains_of at.catalog.listing number link) where
  -- the chains of a listed link are those that are worked on
  module _ {tables : Tables} {link : LinkEntry} {child : RelationEntry} (spells : Spells at tables) (listed : IsListedLink at.catalog.listing number link child) where
    pub works_spell : SpellChains works (listed_ends link) at.tuples.bodies (linkage_in at.catalog.listing tables link child)
    works_spell = subst (λ (w : Chains). SpellChains w (listed_ends link) at.tuples.bodies (linkage_in at.catalog.listing tables link child)) (sym (is link listed.at)) (spells_chains spells number link listed.at child listed.within)

    pub works_parent : (parent : Option Tid) → HasParent tables.contents (link_definition at.catalog.listing link child).parent parent → IsParent works.unary (linkage_in at.catalog.listing tables link child).parents parent
    works_parent parent under =
        subst (λ (u : Bool). IsParent u (linkage_in at.catalog.listing tables link child).parents parent)
        (ap not (kind spells number link listed.at child listed.within) ∙ sym (ap (λ (w : Chains). w.unary) (is link listed.at)))
        (as_parent tables.contents (link_definition at.catalog.listing link child).parent parent under)

  -- ---- of a parent

  module _ (parent : Option Tid) (kept : KeptEnds) (found : LinkEntry) (found_at : link_at at.catalog.listing number ≡ Some found) (ends : kept_ends kept ≡ listed_ends found) where
    ends_are : (link : LinkEntry) → link_at at.catalog.listing number ≡ Some link → listed_ends link ≡ kept_ends kept
    ends_are link link_at_it = ap listed_ends (same_Some _ _ (sym link_at_it ∙ found_at)) ∙ sym ends

    pub may_above : MayAskAbove at number parent → MayAskParent works (seen kept at.tuples) parent
    may_above may = record {
      heaps = may.heaps;
      knows = λ told. ∥∥₁_map (may.knows told) (λ knows. record {
        linkage = linkage_in at.catalog.listing knows.tables knows.link knows.child;
        spells = subst (λ (e : Ends). SpellChains works e at.tuples.bodies (linkage_in at.catalog.listing knows.tables knows.link knows.child)) (ends_are knows.link knows.listed.at) (works_spell knows.spells knows.listed);
        is_parent = works_parent knows.spells knows.listed parent knows.under;
      });
    }

    pub answers_above : (answer : List Tid → Type 0) → AnswersOf works (seen kept at.tuples) parent answer → AnswersAbove at number parent answer
    answers_above answer answers told tables link child spells listed under =
        answers told (linkage_in at.catalog.listing tables link child)
        (subst (λ (e : Ends). SpellChains works e at.tuples.bodies (linkage_in at.catalog.listing tables link child)) (ends_are link listed.at) (works_spell spells listed))
        (works_parent spells listed parent under)

  -- ---- of a child

  module _ (tid : Tid) where
    pub may_below : MayAskBelow at number tid → MayAsk works at.tuples tid
    may_below may = record {
      heaps = may.heaps;
      knows = λ told. ∥∥₁_map (may.knows told) (λ knows. record {
        ends = listed_ends knows.link;
        linkage = linkage_in at.catalog.listing knows.tables knows.link knows.child;
        spells = works_spell knows.spells knows.listed;
        is_child = knows.there;
      });
    }

    pub answers_below : (answer : Lists → Type 0) (says : Contents → Name → Type 0) → ((tables : Tables) → LinksFit tables → (name : Name) → answer (chain tables.contents name) → says tables.contents name)
        → Answers works at.tuples tid answer → AnswersBelow at number tid says
    answers_below answer says told_so answers told tables link child spells listed there =
        told_so tables spells.links link.name (answers told (listed_ends link) (linkage_in at.catalog.listing tables link child) (works_spell spells listed) there)

-- ---- the machine's words

pub stands_is : (contents : Contents) (name : Name) (tid : Tid) (found : Bool) → ((found ≡ true) ↔ Stands (chain contents name) tid) → found ≡ is_some (chain_with contents name tid)
stands_is contents name tid found says = by (chain_with contents name tid) refl found says
  where
    by : (o : Option Item) → chain_with contents name tid ≡ o → (found : Bool) → ((found ≡ true) ↔ Stands (chain contents name) tid) → found ≡ is_some o
    by None is true says =
        let stands = says.0 refl in
        false_true (chain_has (chain contents name) stands.parent tid (record { before = stands.before; after = stands.after; is = stands.is })) (in_no_chain contents name tid is stands.parent)
    by None is false says = refl
    by (Some item) is found says = let there = chain_found contents name tid item is in says.1 (stands_under (in_chain (chain contents name) there.0 tid there.2))

-- the parent of the chain that a tuple stands in
pub parent_is : (contents : Contents) (name : Name) (tid : Tid) → ((p q : Option Tid) → stands_in tid (chain contents name p) ≡ true → stands_in tid (chain contents name q) ≡ true → p ≡ q) → (found : Option Tid) → IsTheOne (λ parent. IsChildOf (chain contents name) (Some parent) tid) found → found ≡ above_in (chain_with contents name tid)
parent_is contents name tid alone found one = by (chain_with contents name tid) refl found one
  where
    some : (item : Item) (p : Option Tid) → item ≡ ChainItem name p → IsChildOf (chain contents name) p tid → (found : Option Tid) → IsTheOne (λ parent. IsChildOf (chain contents name) (Some parent) tid) found → ((q : Option Tid) → IsChildOf (chain contents name) q tid → q ≡ p) → found ≡ above_in (Some item)
    some item (Some p) is there found one alone = (one p).1 there ∙ sym (ap (λ (i : Item). above_in (Some i)) is)
    some item None is there None one alone = sym (ap (λ (i : Item). above_in (Some i)) is)
    some item None is there (Some q) one alone = alone (Some q) ((one q).0 refl) ∙ sym (ap (λ (i : Item). above_in (Some i)) is)

    by : (o : Option Item) → chain_with contents name tid ≡ o → (found : Option Tid) → IsTheOne (λ parent. IsChildOf (chain contents name) (Some parent) tid) found → found ≡ above_in o
    by None is None one = refl
    by None is (Some q) one = false_true (chain_has (chain contents name) (Some q) tid ((one q).0 refl)) (in_no_chain contents name tid is (Some q))
    by (Some item) is found one =
        let there = chain_found contents name tid item is in
        some item there.0 there.1 (in_chain (chain contents name) there.0 tid there.2) found one (λ q is_child. alone q there.0 (chain_has (chain contents name) q tid is_child) there.2)

-- ---- whether a tuple is there

-- a tuple of a relation is there exactly where the body at its identifier begins with the relation's number
module _ (at : MembersView) {tables : Tables} (spells : Spells at tables) (number : ℕ) (relation : RelationEntry) (number_at : relation_at at.catalog.listing number ≡ Some relation) (tid : Tid) where
  abbrev there : Bool
  there = is_there tables.contents relation.name tid

  segment_is : segment_of at.catalog.listing number ≡ relation.segment
  segment_is = ap segment_in number_at

  pub none_there : at.tuples.bodies relation.segment tid ≡ None → false ≡ there
  none_there none = by_test there
      (λ e. let has = body_there spells number relation tid number_at e in none_some (sym none ∙ sym (ap (λ (s : ℕ). at.tuples.bodies s tid) segment_is) ∙ has.there))
      (λ e. sym e)

  pub body_says : (body : List ℕ) → at.tuples.bodies relation.segment tid ≡ Some body → begins number body ≡ there
  body_says body is = by_test there
      (λ e.
      let has = body_there spells number relation tid number_at e in
      let same : body ≡ body_of at.catalog.listing tables.contents number tid has.values = same_Some _ _ (sym is ∙ sym (ap (λ (s : ℕ). at.tuples.bodies s tid) segment_is) ∙ has.there) in
      ap (begins number) same ∙ eqb_itself number ∙ sym e)
      (λ e.
      let of = spells.contents.bodies_are relation.segment tid body is in
      ap (begins number) of.is ∙ eqb_off of.number number (λ same. false_true (ap is_some of.holds) (ap (λ (r : RelationEntry). is_there tables.contents r.name tid) (same_Some _ _ (sym of.at ∙ ap (relation_at at.catalog.listing) same ∙ number_at)) ∙ e)) ∙ sym e)

  pub fetched_says : (o : Option (List ℕ)) → at.tuples.bodies relation.segment tid ≡ o → (live : Bool) (read : List ℕ) → IsFetched o live read → ((live ≡ true → begins number read ≡ there) × (live ≡ false → live ≡ there))
  fetched_says None is live read fetched = ((λ e. false_true e fetched), (λ e. e ∙ none_there is))
  fetched_says (Some body) is live read fetched = ((λ e. ap (begins number) fetched.1 ∙ body_says body is), (λ e. false_true fetched.0 e))
