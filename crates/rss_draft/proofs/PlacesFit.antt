-- When a tuple may come into a chain.
use Rattle.std.proofs.Common.{◌≡◌, ℕ, Bool, true, false, refl, sym, ◌∙◌, ap, subst}
use Rattle.std.specs.Prelude.{◌↔◌, Option, Some, None, is_some, not, option_and_then, option_map}
use Rattle.std.proofs.lemmas.Option.{same_Some}
use Rattle.rss_base.specs.Listings.{Listing, relation_at, link_at}
use Rattle.rss_base.specs.declared.name.Name.{Name}
use Rattle.rss_base.specs.declared.tid.Tid.{Tid}
use Rattle.rss_base.specs.declared.relation.RelationEntry.{RelationEntry}
use Rattle.rss_base.specs.declared.link.LinkEntry.{LinkEntry}
use Rattle.rss_base.specs.declared.item.Item.{Item}
use Rattle.rss_model.specs.Tables.{Tables}
use Rattle.rss_model.specs.Chains.{chain_with, is_there, HasParent}
use Rattle.rss_model.proofs.LogLists.{false_true, some_of}
use Rattle.rss_stored.specs.Store.{IsListedLink, relation_name, link_definition}
use Rattle.rss_access.specs.Changes.{AccessView}
use Rattle.rss_draft.specs.Views.{DraftView}
use Rattle.rss_draft.specs.Looks.{StandsOver, HasLinkOfForm}
use Rattle.rss_draft.specs.FitLooks.{HasParentNow, MayConnect}
use Rattle.rss_draft.proofs.ChainsNow.{form_is}

-- ---- its parent

module _ (at : AccessView) (draft : DraftView) (number : ℕ) (link : LinkEntry) (listed : link_at at.catalog.listing number ≡ Some link) where
  pub parent_decides : (above : ℕ) → link.parent ≡ Some above → is_some (relation_at at.catalog.listing above) ≡ true → (parent : Tid) (found : Bool)
      → ((saved tables : Tables) → StandsOver at draft saved tables → (relation : RelationEntry) → relation_at at.catalog.listing above ≡ Some relation → found ≡ is_there tables.contents relation.name parent)
      → HasParentNow at draft number (Some parent) found
  parent_decides above some there parent found finds saved tables over entry child its form =
      let same : link ≡ entry = same_Some _ _ (sym listed ∙ its.at) in
      let relation = some_of (relation_at at.catalog.listing above) there in
      let name : option_and_then (relation_name at.catalog.listing) entry.parent ≡ Some relation.0.name =
      ap (option_and_then (relation_name at.catalog.listing)) (ap (λ (l : LinkEntry). l.parent) (sym same) ∙ some) ∙ ap (option_map (λ (r : RelationEntry). r.name)) relation.1 in
      let is = finds saved tables over relation.0 relation.1 in
      subst (λ (o : Option Name). (found ≡ true) ↔ HasParent tables.contents o (Some parent)) (sym name) ((λ yes. sym is ∙ yes), (λ has. is ∙ has))

-- ---- it may come

denied : (b : Bool) → not b ≡ true → b ≡ false
denied true e = absurd (cc (e))
denied false e = refl

none_of : (o : Option Item) → is_some o ≡ false → o ≡ None
none_of None e = refl
none_of (Some item) e = absurd (cc (e))

module _ {listing : Listing} {tables : Tables} {number : ℕ} {parent : Option Tid} {child : Tid} where
  module _ (has : HasLinkOfForm listing number parent) (under : Bool)
      (decides : (link : LinkEntry) (its : RelationEntry) → IsListedLink listing number link its → is_some link.parent ≡ is_some parent → (under ≡ true) ↔ HasParent tables.contents (link_definition listing link its).parent parent) where
    -- its parent isn't there
    pub connect_orphan : under ≡ false → (false ≡ true) ↔ MayConnect listing tables number parent child
    connect_orphan off = (
      (λ yes. absurd (cc (yes))),
      (λ may. false_true ((decides may.link may.its may.listed (form_is has may.link may.listed.at)).1 may.under) off),
    )

    module _ (link : LinkEntry) (at : link_at listing number ≡ Some link) (there : Bool) (finds : (relation : RelationEntry) → relation_at listing link.child ≡ Some relation → there ≡ is_there tables.contents relation.name child) where
      there_is : (may : MayConnect listing tables number parent child) → there ≡ true
      there_is may = finds may.its (ap (λ (l : LinkEntry). relation_at listing l.child) (same_Some _ _ (sym at ∙ may.listed.at)) ∙ may.listed.within) ∙ may.comes.there

      -- it isn't there
      pub connect_absent : there ≡ false → (false ≡ true) ↔ MayConnect listing tables number parent child
      connect_absent off = ((λ yes. absurd (cc (yes))), (λ may. false_true (there_is may) off))

      pub connect_decides : under ≡ true → there ≡ true → is_some (relation_at listing link.child) ≡ true → (stands : Bool) → ((entry : LinkEntry) → link_at listing number ≡ Some entry → stands ≡ is_some (chain_with tables.contents entry.name child))
          → (not stands ≡ true) ↔ MayConnect listing tables number parent child
      connect_decides on is some stands found =
          let relation = some_of (relation_at listing link.child) some in
          let listed : IsListedLink listing number link relation.0 = record { at = at; within = relation.1 } in (
            (λ free. record {
              link = link;
              its = relation.0;
              listed = listed;
              under = (decides link relation.0 listed (form_is has link at)).0 on;
              comes = record { there = sym (finds relation.0 relation.1) ∙ is; off = none_of (chain_with tables.contents link.name child) (sym (found link at) ∙ denied stands free) };
            }),
            (λ may. ap not (found may.link may.listed.at ∙ ap is_some may.comes.off)),
          )
