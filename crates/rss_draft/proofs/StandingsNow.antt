-- Where a tuple stands in a link now: as the draft says, or else on the pages.
use Rattle.std.proofs.Common.{◌≡◌, ℕ, ◌^◌, ◌<◌, Bool, true, false, sym, ◌∙◌, ap}
use Rattle.std.specs.Prelude.{Option, Some, None, is_some, option_map, unwrap_or}
use Rattle.std.proofs.lemmas.Option.{same_Some}
use Rattle.rss_base.specs.Listings.{Listing, link_at}
use Rattle.rss_base.specs.Steps.{no_page}
use Rattle.rss_base.specs.declared.tid.Tid.{Tid}
use Rattle.rss_base.specs.declared.item.Item.{Item}
use Rattle.rss_base.specs.declared.item.Item.TheVariants.{Chain}
use Rattle.rss_base.specs.declared.relation.RelationEntry.{RelationEntry}
use Rattle.rss_base.specs.declared.link.LinkEntry.{LinkEntry}
use Rattle.rss_catalog.specs.Catalogs.{CatalogView}
use Rattle.rss_tuple.specs.Directory.{Bodies}
use Rattle.rss_tuple.specs.TupleSteps.{TuplesView, no_tuple}
use Rattle.rss_model.specs.Tables.{Tables}
use Rattle.rss_model.specs.Chains.{chain, chain_with, stands_in, is_there}
use Rattle.rss_model.proofs.ChainKeeping.{chain_found}
use Rattle.rss_model.proofs.LogLists.{by_test, false_true, some_of}
use Rattle.rss_stored.specs.Store.{IsListedLink}
use Rattle.rss_link.proofs.TupleSteps.{TuplesStep, told_before}
use Rattle.rss_members.specs.Members.{SpellsMembers}
use Rattle.rss_members.specs.Calls.{both, above_in, FindsTuple, MayAskBelow, MayRelink}
use Rattle.rss_members.proofs.Alone.{none_with}
use Rattle.rss_members.proofs.Found.{below_of, there_in, within_of}
use Rattle.rss_members.proofs.Later.{relink_then, spells_before}
use Rattle.rss_access.specs.Changes.{AccessView, members}
use Rattle.rss_access.proofs.ChainTables.{members_of}
use Rattle.rss_draft.specs.declared.draft.Standing.{Standing}
use Rattle.rss_draft.specs.Views.{DraftView}
use Rattle.rss_draft.specs.Lookups.{chain_at}
use Rattle.rss_draft.specs.Looks.{IsStandingNow, IsSavedStanding}

-- ---- on the pages

-- a tuple that is there may be asked of
pub may_below : {cost : ℕ} {old mid : TuplesView} (step : TuplesStep no_page no_tuple cost old mid) (catalog : CatalogView) (number : ℕ) (found : LinkEntry) → link_at catalog.listing number ≡ Some found → MayRelink (both old catalog)
    → (child : Tid) (there : Bool) → FindsTuple (both old catalog) found.child child there → there ≡ true → MayAskBelow (both mid catalog) number child
may_below {mid = mid} step catalog number found at may child there finds is =
    let later = relink_then step catalog may in
    below_of (both mid catalog) number (ap is_some at) later.heaps later.knows child (λ told tables link relation spells listed.
    sym (finds (told_before step told) tables relation (spells_before step catalog (told_before step told) spells) (within_of catalog.listing number found link relation at listed)) ∙ is)

module _ {listing : Listing} {bodies : Bodies} {tables : Tables} (spells : SpellsMembers listing bodies tables) (number : ℕ) (link : LinkEntry) (relation : RelationEntry) (listed : IsListedLink listing number link relation) (child : Tid) where
  -- one that isn't there stands in no chain
  pub absent_off : is_there tables.contents relation.name child ≡ false → chain_with tables.contents link.name child ≡ None
  absent_off off = none_with tables.contents link.name child (λ parent. by_test (stands_in child (chain tables.contents link.name parent))
      (λ on. false_true (there_in spells number link relation listed parent child on) off)
      (λ no. no))

-- one that stands in a chain, by its parent
pub standing_in : (tables : Tables) (link : LinkEntry) (child : Tid) (parent : Option Tid) → true ≡ is_some (chain_with tables.contents link.name child) → parent ≡ above_in (chain_with tables.contents link.name child)
    → chain_with tables.contents link.name child ≡ Some (Chain link.name parent)
standing_in tables link child parent stands above =
    let with_it = some_of (chain_with tables.contents link.name child) (sym stands) in
    let found = chain_found tables.contents link.name child with_it.0 with_it.1 in
    let same : parent ≡ found.0 = above ∙ ap above_in with_it.1 ∙ ap (λ (i : Item). above_in (Some i)) found.1 in
    with_it.1 ∙ ap (λ (i : Item). Some i) (found.1 ∙ ap (λ (p : Option Tid). Chain link.name p) (sym same))

-- ---- what is answered

module _ (at : AccessView) (draft : DraftView) (number : ℕ) (link : LinkEntry) (listed : link_at at.catalog.listing number ≡ Some link) (child : Tid) where
  pub standing_said : (said : Standing) → draft.standings link.name child ≡ Some said → IsStandingNow at draft number child said
  standing_said said is saved tables over looks entry its =
      let same : link ≡ entry = same_Some _ _ (sym listed ∙ its) in
      looks.standings entry.name child
      ∙ ap (λ (o : Option Standing). unwrap_or (option_map (chain_at entry.name) o) (chain_with saved.contents entry.name child)) (ap (λ (l : LinkEntry). draft.standings l.name child) (sym same) ∙ is)

  pub standing_saved : at.pages.slots < 2 ^ 32 → draft.standings link.name child ≡ None → (found : Standing) → IsSavedStanding (members at) number child found → IsStandingNow at draft number child found
  standing_saved small is found on_pages saved tables over looks entry its =
      let same : link ≡ entry = same_Some _ _ (sym listed ∙ its) in
      looks.standings entry.name child
      ∙ ap (λ (o : Option Standing). unwrap_or (option_map (chain_at entry.name) o) (chain_with saved.contents entry.name child)) (ap (λ (l : LinkEntry). draft.standings l.name child) (sym same) ∙ is)
      ∙ on_pages over.told saved entry (members_of at small over.spells over.fit.tuples over.fit.links over.fit.tids) its
