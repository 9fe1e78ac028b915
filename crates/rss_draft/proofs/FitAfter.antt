-- Whether tables fit after a change that is found, by what was looked at.
use Rattle.std.proofs.Common.{◌≡◌, ℕ, Bool, true, false, List, refl, sym, ◌∙◌, ap, subst}
use Rattle.std.specs.Prelude.{◌↔◌, Option, Some, is_some, unwrap_or}
use Rattle.std.proofs.lemmas.Bool.{and_parts}
use Rattle.std.proofs.lemmas.Option.{same_Some}
use Rattle.rss_base.specs.Prefixes.{is_tid}
use Rattle.rss_base.specs.Listings.{relation_at, link_at}
use Rattle.rss_base.specs.declared.name.Name.{Name}
use Rattle.rss_base.specs.declared.tid.Tid.{Tid}
use Rattle.rss_base.specs.declared.item.Item.{Item}
use Rattle.rss_base.specs.declared.item.Item.TheVariants.{Tuple, Chain}
use Rattle.rss_base.specs.declared.relation.RelationEntry.{RelationEntry}
use Rattle.rss_base.specs.declared.link.LinkEntry.{LinkEntry}
use Rattle.rss_base.specs.declared.refusal.Kind.TheVariants.{Relation as RelationKind, Link as LinkKind}
use Rattle.rss_base.specs.declared.change.Change as told
use Rattle.rss_base.specs.declared.change.Change.TheVariants.{Insert, Delete, Update, Connect, Disconnect}
use Rattle.rss_model.specs.Items.{Content}
use Rattle.rss_model.specs.Tables.{Tables, content}
use Rattle.rss_model.specs.Chains.{tuples_in, stands_in, with_behind, without}
use Rattle.rss_model.specs.Changes.{Change, apply}
use Rattle.rss_model.specs.Fits.{Fits}
use Rattle.rss_model.specs.Restart.{FitWith}
use Rattle.rss_model.specs.Meanings.{nameless, name_at}
use Rattle.rss_model.proofs.LogLists.{false_true, by_test, some_of}
use Rattle.rss_model.proofs.Standing.{tid_itself, tid_same, or_first, stands_behind, stands_without, tuples_of}
use Rattle.rss_stored.specs.Store.{Defines, IsListedLink, link_definition}
use Rattle.rss_stored.proofs.Relisted.{number_of}
use Rattle.rss_stored.proofs.Spelled.{name_numbered}
use Rattle.rss_access.specs.Changes.{AccessView}
use Rattle.rss_draft.specs.Views.{DraftView}
use Rattle.rss_draft.specs.Fitting.{ItemFits, ChangeFits, TupleFits, ChainFits, MayCome}
use Rattle.rss_draft.specs.Looks.{StandsOver, IsFoundAs}
use Rattle.rss_draft.specs.FitLooks.{IsRowFitting, IsGoneFitting, IsConnectFitting, FitsAfter}
use Rattle.rss_draft.proofs.Among.{some_held}
use Rattle.rss_draft.proofs.FoundChange.{found_change, without_behind}
use Rattle.rss_draft.proofs.Fitting.{fitting_is_tested}

-- as the law says
tested : {at : AccessView} {draft : DraftView} {saved tables : Tables} (over : StandsOver at draft saved tables) (fit : Fits at.pages.slots tables) (told_change : told.Change) (change : Change) → IsFoundAs at.catalog.listing told_change tables change
    → (item : Item) → change.item ≡ item → (fits : Bool) → ((fits ≡ true) ↔ ItemFits at.pages.slots tables item change.old change.new) → (fits ≡ true) ↔ FitWith at.pages.slots tables (apply tables.contents change)
tested {at = at} {tables = tables} over fit told_change change found item is fits decides =
    let law = fitting_is_tested at.pages.slots tables change fit (found_change told_change change found) found.holds in
    let its : (fits ≡ true) ↔ ChangeFits at.pages.slots tables change = subst (λ (i : Item). (fits ≡ true) ↔ ItemFits at.pages.slots tables i change.old change.new) (sym is) decides in
    ((λ yes. law.0 (its.0 yes)), (λ after. its.1 (law.1 after)))

module _ (at : AccessView) (draft : DraftView) (number : ℕ) (tid : Tid) where
  tuple_is : {relation : RelationEntry} → relation_at at.catalog.listing number ≡ Some relation → Tuple (name_at RelationKind at.catalog.listing number) tid ≡ Tuple relation.name tid
  tuple_is {relation = relation} listed = ap (λ (name : Option Name). Tuple (unwrap_or name (nameless number)) tid) (number_of at.catalog.listing number relation listed)

  pub new_after : (bytes : List ℕ) (fits : Bool) → IsRowFitting at draft number tid false bytes fits → FitsAfter at draft (Insert number tid bytes) fits
  new_after bytes fits so saved tables over looks fit change found =
      let new = found.means.1 in
      let item : change.item ≡ Tuple new.relation.name tid = found.tells.item ∙ tuple_is new.at in
      let absent = ap is_some (ap (content tables.contents) (sym item) ∙ found.holds ∙ found.means.0) in
      tested over fit (Insert number tid bytes) change found (Tuple new.relation.name tid) item fits
      (subst (λ (o : Option Content). (fits ≡ true) ↔ TupleFits at.pages.slots tables new.relation.name tid o) (sym new.is)
      (so saved tables over looks fit new.relation new.at absent new.values new.spells))

  pub other_after : (from to : List ℕ) (fits : Bool) → IsRowFitting at draft number tid true to fits → FitsAfter at draft (Update number tid from to) fits
  other_after from to fits so saved tables over looks fit change found =
      let new = found.means.1 in
      let item : change.item ≡ Tuple new.relation.name tid = found.tells.item ∙ tuple_is new.at in
      let live = ap is_some (ap (content tables.contents) (sym item) ∙ found.holds ∙ found.means.0.is) in
      tested over fit (Update number tid from to) change found (Tuple new.relation.name tid) item fits
      (subst (λ (o : Option Content). (fits ≡ true) ↔ TupleFits at.pages.slots tables new.relation.name tid o) (sym new.is)
      (so saved tables over looks fit new.relation new.at live new.values new.spells))

  pub gone_after : (bytes : List ℕ) (fits : Bool) → IsGoneFitting at draft number tid fits → FitsAfter at draft (Delete number tid bytes) fits
  gone_after bytes fits so saved tables over looks fit change found =
      let old = found.means.0 in
      tested over fit (Delete number tid bytes) change found (Tuple old.relation.name tid) (found.tells.item ∙ tuple_is old.at) fits
      (subst (λ (o : Option Content). (fits ≡ true) ↔ TupleFits at.pages.slots tables old.relation.name tid o) (sym found.means.1)
      (so saved tables over looks fit old.relation old.at))

-- the relation of a link's children is listed
some_listed : {at : AccessView} {draft : DraftView} {saved tables : Tables} (number : ℕ) → StandsOver at draft saved tables → (link : LinkEntry) → link_at at.catalog.listing number ≡ Some link → (child : RelationEntry) × (relation_at at.catalog.listing link.child ≡ Some child)
some_listed {at = at} number over link listed = some_of (relation_at at.catalog.listing link.child) (over.spells.listed.paths.links number link listed).child

module _ (at : AccessView) (draft : DraftView) (number : ℕ) (parent : Option Tid) (child : Tid) (left : Option Tid) where
  chain_is : {link : LinkEntry} → link_at at.catalog.listing number ≡ Some link → Chain (name_at LinkKind at.catalog.listing number) parent ≡ Chain link.name parent
  chain_is {link = link} listed = ap (λ (name : Option Name). Chain (unwrap_or name (nameless number)) parent) (name_numbered (λ (l : LinkEntry). l.name) at.catalog.listing.links number link listed)

  -- what comes into a chain is the one tuple
  only_child : (tids : List Tid) (x : Tid) → stands_in x tids ≡ false → stands_in x (with_behind left child tids) ≡ true → x ≡ child
  only_child tids x off on = by_test (is_tid x child)
      (λ e. tid_same x child e)
      (λ e. absurd (false_true on (stands_behind left child tids x ∙ rw e off)))

  pub connect_after : (fits : Bool) → IsConnectFitting at draft number parent child fits → FitsAfter at draft (Connect number parent child left) fits
  connect_after fits so saved tables over looks fit change found =
      let place = found.means in
      let now = so saved tables over looks (record { link = place.link; at = place.at; form = place.form }) in
      let defines : Defines at.catalog.listing tables.definitions = subst (Defines at.catalog.listing) (sym over.is.definitions) over.spells.defines in
      let old : tuples_in change.old ≡ place.tids = ap tuples_in place.without ∙ tuples_of place.tids in
      let new : tuples_in change.new ≡ with_behind left child place.tids = ap tuples_in place.with ∙ tuples_of (with_behind left child place.tids) in
      tested over fit (Connect number parent child left) change found (Chain place.link.name parent) (found.tells.item ∙ chain_is place.at) fits (
        (λ yes.
            let may = now.0 yes in
            let same : may.link ≡ place.link = same_Some _ _ (sym may.listed.at ∙ place.at) in
            subst (λ (l : LinkEntry). ChainFits tables l.name parent change.old change.new) same (record {
              definition = link_definition at.catalog.listing may.link may.its;
              defined = defines.paths.links number may.link may.its may.listed;
              under = may.under;
              comes = λ x on off. subst (MayCome tables may.link.name (link_definition at.catalog.listing may.link may.its)) (sym (only_child place.tids x (ap (stands_in x) (sym old) ∙ off) (ap (stands_in x) (sym new) ∙ on))) may.comes;
            })),
        (λ of.
            let listed_child = some_listed number over place.link place.at in
            let listed : IsListedLink at.catalog.listing number place.link listed_child.0 = record { at = place.at; within = listed_child.1 } in
            let same : of.definition ≡ link_definition at.catalog.listing place.link listed_child.0 = same_Some _ _ (sym of.defined ∙ defines.paths.links number place.link listed_child.0 listed) in
            let on : stands_in child (tuples_in change.new) ≡ true = ap (stands_in child) new ∙ stands_behind left child place.tids child ∙ or_first (is_tid child child) (stands_in child place.tids) (tid_itself child) in
            let comes = of.comes child on (ap (stands_in child) old ∙ place.apart) in
            now.1 (record {
              link = place.link;
              its = listed_child.0;
              listed = listed;
              under = rw same at of.under;
              comes = rw same at comes;
            })),
      )

  pub disconnect_after : FitsAfter at draft (Disconnect number parent child left) true
  disconnect_after saved tables over looks fit change found =
      let place = found.means in
      let item : change.item ≡ Chain place.link.name parent = found.tells.item ∙ chain_is place.at in
      let old : tuples_in change.old ≡ with_behind left child place.tids = ap tuples_in place.with ∙ tuples_of (with_behind left child place.tids) in
      let new : tuples_in change.new ≡ without child (with_behind left child place.tids) = ap tuples_in place.without ∙ tuples_of place.tids ∙ sym (without_behind left child place.tids place.apart) in
      let on : stands_in child (tuples_in change.old) ≡ true = ap (stands_in child) old ∙ stands_behind left child place.tids child ∙ or_first (is_tid child child) (stands_in child place.tids) (tid_itself child) in
      let what = some_held change.old child on in
      let its = fit.links.chains place.link.name parent what.0 (ap (content tables.contents) (sym item) ∙ found.holds ∙ what.1) in
      tested over fit (Disconnect number parent child left) change found (Chain place.link.name parent) item true (
        (λ yes. record {
          definition = its.definition;
          defined = its.defined;
          under = its.under;
          comes = λ x in_new off. absurd (false_true (and_parts _ _ (sym (stands_without child (with_behind left child place.tids) x) ∙ ap (stands_in x) (sym new) ∙ in_new)).0 (ap (stands_in x) (sym old) ∙ off));
        }),
        (λ of. refl),
      )
