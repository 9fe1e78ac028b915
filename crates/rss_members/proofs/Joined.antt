-- A tuple that is put into a chain of a listed link, or taken out of it.
use Rattle.std.proofs.Common.{◌≡◌, ℕ, Bool, true, List, Option, Some, None, refl, sym, ◌∙◌, ap, subst}
use Rattle.std.specs.Prelude.{not, is_some, IfSome}
use Rattle.std.proofs.Math.Logic.{∥∥₁_map}
use Rattle.std.proofs.lemmas.Option.{same_Some}
use Rattle.rss_base.specs.Listings.{Listing, ListingFits, IsSpelled, link_at, with_link}
use Rattle.rss_base.specs.Prefixes.{Ends, ends_of}
use Rattle.rss_base.specs.declared.tid.Tid.{Tid}
use Rattle.rss_base.specs.declared.link.LinkEntry.{LinkEntry}
use Rattle.rss_base.specs.declared.relation.RelationEntry.{RelationEntry}
use Rattle.rss_catalog.specs.Catalogs.{CatalogView, with_ends}
use Rattle.rss_tuple.specs.TupleSteps.{TuplesView}
use Rattle.rss_model.specs.Tables.{Tables}
use Rattle.rss_model.specs.Chains.{chain, stands_in, with_behind, without, HasParent}
use Rattle.rss_stored.specs.Store.{IsListedLink, link_definition}
use Rattle.rss_stored.proofs.Blocks.{first_is}
use Rattle.rss_model.proofs.LogLists.{by_test, false_true}
use Rattle.rss_model.proofs.Mixing.{In}
use Rattle.rss_model.proofs.Standing.{stands_of}
use Rattle.rss_link.specs.declared.link.Chains.{Chains}
use Rattle.rss_link.specs.declared.link.Ends.{Ends as KeptEnds}
use Rattle.rss_link.specs.Blocks.{HasKind, kept_ends}
use Rattle.rss_link.specs.Chains.{Linkage, IsParent, relinked}
use Rattle.rss_link.specs.Links.{SpellChains, KeepBodies}
use Rattle.rss_link.specs.Calls.{TellsBodies, HoldsHeaps, seen, spot, IsLink, IsFree, IsChildOf, KeepsRoom, Relinks, MayConnect, MayDisconnect, Connects as ConnectsIt, Disconnects as DisconnectsIt}
use Rattle.rss_link.proofs.Operations.{chain_has, in_chain, stands_under}
use Rattle.rss_members.specs.declared.membership.Membership.{Membership}
use Rattle.rss_members.specs.Members.{chains_of, listed_ends, linkage_in, with_chain, SpellsMembers}
use Rattle.rss_members.specs.Calls.{MembersView, both, Spells, HasForm, CanConnect, CanDisconnect, SetsEnds, with_child, without_child}
use Rattle.rss_members.proofs.Asked.{works_spell, works_parent}
use Rattle.rss_members.proofs.Again.{members_again}
use Rattle.rss_members.proofs.Chained.{full}
use Rattle.rss_members.proofs.Standing.{last_each}

module _ (at : MembersView) (membership : Membership) (works : Chains) (is : (link : LinkEntry) → link_at at.catalog.listing membership.link ≡ Some link → works ≡ chains_of at.catalog.listing membership.link link)
    (kept : KeptEnds) (found : LinkEntry) (found_at : link_at at.catalog.listing membership.link ≡ Some found) (ends : kept_ends kept ≡ listed_ends found) where
  ends_are : (link : LinkEntry) → link_at at.catalog.listing membership.link ≡ Some link → listed_ends link ≡ kept_ends kept
  ends_are link link_at_it = ap listed_ends (same_Some _ _ (sym link_at_it ∙ found_at)) ∙ sym ends

  kept_spell : {tables : Tables} {link : LinkEntry} {child : RelationEntry} → Spells at tables → IsListedLink at.catalog.listing membership.link link child → SpellChains works (kept_ends kept) at.tuples.bodies (linkage_in at.catalog.listing tables link child)
  kept_spell {tables = tables} {link = link} {child = child} spells listed = subst (λ (e : Ends). SpellChains works e at.tuples.bodies (linkage_in at.catalog.listing tables link child)) (ends_are link listed.at) (works_spell at membership.link works is spells listed)

  -- ---- what may be done

  -- tables are spelled in which this can be done
  abbrev pub Knows : (Tables → Type 0) → Type 0
  Knows can = TellsBodies at.tuples → ∥ ((tables : Tables) × Spells at tables × can tables) ∥₁

  is_free : {tables : Tables} → Spells at tables → (can : CanConnect at.catalog.listing tables membership) → IsFree works (linkage_in at.catalog.listing tables can.link can.child) (spot membership.child membership.parent membership.left)
  is_free {tables = tables} spells can = record {
    child = can.there;
    outside = λ stands. false_true (chain_has (chain tables.contents can.link.name) stands.parent membership.child (record { before = stands.before; after = stands.after; is = stands.is })) (can.outside stands.parent);
    is_parent = works_parent at membership.link works is spells can.listed membership.parent can.under;
    behind = by membership.left can.behind;
  }
    where
      by : (left : Option Tid) → IfSome left (λ t. stands_in t (chain tables.contents can.link.name membership.parent) ≡ true) → IfSome left (IsChildOf (chain tables.contents can.link.name) membership.parent)
      by None there = tt
      by (Some t) there = in_chain (chain tables.contents can.link.name) membership.parent t there

  kind_is : HasForm at.catalog.listing membership.link membership.parent → HasKind works.unary membership.parent
  kind_is form = by found.parent membership.parent (form found found_at) works.unary (ap (λ (w : Chains). w.unary) (is found found_at))
    where
      by : (above : Option ℕ) (parent : Option Tid) → is_some above ≡ is_some parent → (unary : Bool) → unary ≡ not (is_some above) → HasKind unary parent
      by None None same unary kind = subst (λ (u : Bool). HasKind u None) (sym kind) refl
      by None (Some t) same unary kind = absurd (cc)
      by (Some r) None same unary kind = absurd (cc)
      by (Some r) (Some t) same unary kind = subst (λ (u : Bool). HasKind u (Some t)) (sym kind) refl

  pub may_connect : IsLink works → HasForm at.catalog.listing membership.link membership.parent → HoldsHeaps at.tuples → Knows (λ tables. CanConnect at.catalog.listing tables membership)
      → MayConnect works (spot membership.child membership.parent membership.left) (seen kept at.tuples)
  may_connect segments form heaps knows = record {
    segments = segments;
    kind = kind_is form;
    heaps = heaps;
    knows = λ told. ∥∥₁_map (knows told) (λ k. record {
      linkage = linkage_in at.catalog.listing k.0 k.2.link k.2.child;
      spells = kept_spell k.1 k.2.listed;
      free = is_free k.1 k.2;
    });
  }

  pub may_disconnect : IsLink works → HoldsHeaps at.tuples → Knows (λ tables. CanDisconnect at.catalog.listing tables membership) → MayDisconnect works membership.child (seen kept at.tuples)
  may_disconnect segments heaps knows = record {
    segments = segments;
    heaps = heaps;
    knows = λ told. ∥∥₁_map (knows told) (λ k. record {
      linkage = linkage_in at.catalog.listing k.0 k.2.link k.2.child;
      spells = kept_spell k.1 k.2.listed;
      stands = stands_under (in_chain (chain k.0.contents k.2.link.name) membership.parent membership.child k.2.place.stands);
    });
  }

  -- ---- what was done

  module _ (now : KeptEnds) (new : TuplesView) (room : KeepsRoom works (seen kept at.tuples) (seen now new)) where
    -- one chain is another now, in the words of the link
    module _ {tables : Tables} {link : LinkEntry} {child : RelationEntry} (spells : Spells at tables) (listed : IsListedLink at.catalog.listing membership.link link child) (list : List Tid)
        (relinks : Relinks works (seen kept at.tuples) (seen now new) (linkage_in at.catalog.listing tables link child) (relinked (linkage_in at.catalog.listing tables link child) membership.parent list)) where
      abbrev linkage : Linkage
      linkage = linkage_in at.catalog.listing tables link child

      works_is : works ≡ chains_of at.catalog.listing membership.link link
      works_is = is link listed.at

      -- and so it is in tables
      pub relinked_members : (under : HasParent tables.contents (link_definition at.catalog.listing link child).parent membership.parent) (catalog : CatalogView) → SetsEnds membership.link (kept_ends now) at.catalog catalog
          → Spells (both new catalog) (with_chain tables link.name membership.parent list)
      relinked_members under catalog sets =
          let reends = sets link listed.at in
          let lists : catalog.listing ≡ with_link at.catalog.listing membership.link (Some (with_ends now.first now.last link)) =
          reends.0.is ∙ (λ i. with_link at.catalog.listing membership.link (Some (with_ends (reends.1 i) (reends.2 i) link))) in
          subst (λ (l : Listing). SpellsMembers l new.bodies (with_chain tables link.name membership.parent list)) (sym lists)
          (members_again spells membership.link link listed.at child listed.within (kept_ends now) membership.parent list new.bodies
          (subst (λ (w : Chains). SpellChains w (kept_ends now) new.bodies (relinked linkage membership.parent list)) works_is relinks.spells)
          (subst (λ (w : Chains). KeepBodies w linkage at.tuples.bodies new.bodies) works_is relinks.keeps)
          (λ binary. room.ends (ap (λ (w : Chains). w.unary) works_is ∙ binary) ∙ sym (ends_are link listed.at))
          (subst (λ (w : Chains). IsParent w.unary linkage.parents membership.parent) works_is (works_parent at membership.link works is spells listed membership.parent under))
          (subst ListingFits lists (reends.0.fits spells.listed)))

      -- the ends are such as may be listed
      pub ends_spelled : IfSome now.first IsSpelled × IfSome now.last IsSpelled
      ends_spelled = by_test works.unary
          (λ unary.
          let after = relinked linkage membership.parent list in
          let its : kept_ends now ≡ ends_of (after.lists None) = relinks.spells.chains.ends None (subst (λ (u : Bool). IsParent u after.parents None) (sym unary) tt) in
          let each : (t : Tid) → In t (after.lists None) → IsSpelled t = λ t is_in. spells.tids child.name t (relinks.spells.chains.children t (stands_under (in_chain after.lists None t (stands_of (after.lists None) t is_in)))) in (
            subst (λ (e : Ends). IfSome e.first IsSpelled) (sym its) (first_is IsSpelled (after.lists None) each),
            subst (λ (e : Ends). IfSome e.last IsSpelled) (sym its) (last_each IsSpelled (after.lists None) each),
          ))
          (λ binary.
          let its : kept_ends now ≡ listed_ends link = room.ends binary ∙ sym (ends_are link listed.at) in
          let fits = spells.listed.paths.links membership.link link listed.at in (
            subst (λ (e : Ends). IfSome e.first IsSpelled) (sym its) fits.first,
            subst (λ (e : Ends). IfSome e.last IsSpelled) (sym its) fits.last,
          ))

    -- ---- the tuple was put into the chain

    module _ (connects : ConnectsIt works (spot membership.child membership.parent membership.left) (seen kept at.tuples) (seen now new)) (told : TellsBodies at.tuples) {tables : Tables} (spells : Spells at tables) (can : CanConnect at.catalog.listing tables membership) where
      connects_it : Relinks works (seen kept at.tuples) (seen now new) (linkage_in at.catalog.listing tables can.link can.child)
          (relinked (linkage_in at.catalog.listing tables can.link can.child) membership.parent (with_behind membership.left membership.child (chain tables.contents can.link.name membership.parent)))
      connects_it = connects told (linkage_in at.catalog.listing tables can.link can.child) (kept_spell spells can.listed) (is_free spells can)

      pub connected_members : (catalog : CatalogView) → SetsEnds membership.link (kept_ends now) at.catalog catalog → Spells (both new catalog) (with_child tables can.link.name membership)
      connected_members catalog sets = relinked_members spells can.listed _ connects_it can.under catalog sets

      pub connected_ends : IfSome now.first IsSpelled × IfSome now.last IsSpelled
      connected_ends = ends_spelled spells can.listed _ connects_it

    -- ---- it was taken out

    module _ (disconnects : DisconnectsIt works membership.child (seen kept at.tuples) (seen now new)) (told : TellsBodies at.tuples) {tables : Tables} (spells : Spells at tables) (can : CanDisconnect at.catalog.listing tables membership) where
      disconnects_it : Relinks works (seen kept at.tuples) (seen now new) (linkage_in at.catalog.listing tables can.link can.child)
          (relinked (linkage_in at.catalog.listing tables can.link can.child) membership.parent (without membership.child (chain tables.contents can.link.name membership.parent)))
      disconnects_it = disconnects told (linkage_in at.catalog.listing tables can.link can.child) membership.parent (kept_spell spells can.listed) (in_chain (chain tables.contents can.link.name) membership.parent membership.child can.place.stands)

      its_parent : HasParent tables.contents (link_definition at.catalog.listing can.link can.child).parent membership.parent
      its_parent = (full spells.links can.link.name (link_definition at.catalog.listing can.link can.child) (spells.defines.paths.links membership.link can.link can.child can.listed) membership.parent membership.child can.place.stands).under

      pub disconnected_members : (catalog : CatalogView) → SetsEnds membership.link (kept_ends now) at.catalog catalog → Spells (both new catalog) (without_child tables can.link.name membership)
      disconnected_members catalog sets = relinked_members spells can.listed _ disconnects_it its_parent catalog sets

      pub disconnected_ends : IfSome now.first IsSpelled × IfSome now.last IsSpelled
      disconnected_ends = ends_spelled spells can.listed _ disconnects_it
