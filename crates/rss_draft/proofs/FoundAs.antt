-- A record finds what it tells: as its tuple or its chain stands.
use Rattle.std.proofs.Common.{◌≡◌, ℕ, Bool, true, false, List, refl, sym, ◌∙◌, ap, subst}
use Rattle.std.specs.Prelude.{◌↔◌, Option, Some, None, IfSome, is_some, option_map, unwrap_or}
use Rattle.std.proofs.lemmas.Option.{same_Some}
use Rattle.rss_base.specs.TupleTypes.{kinds, Spells, SpellsSome}
use Rattle.rss_base.specs.Listings.{Listing, numbered, names_of, relation_at, link_at}
use Rattle.rss_base.specs.declared.name.Name.{Name}
use Rattle.rss_base.specs.declared.tid.Tid.{Tid}
use Rattle.rss_base.specs.declared.value.FieldForm.{FieldForm}
use Rattle.rss_base.specs.declared.item.Item.{Item}
use Rattle.rss_base.specs.declared.item.Item.TheVariants.{Tuple, Chain}
use Rattle.rss_base.specs.declared.refusal.Kind.TheVariants.{Relation as RelationKind, Link as LinkKind}
use Rattle.rss_base.specs.declared.relation.RelationEntry.{RelationEntry}
use Rattle.rss_base.specs.declared.link.LinkEntry.{LinkEntry}
use Rattle.rss_base.specs.declared.change.Change.TheVariants.{Insert, Delete, Update, Connect, Disconnect}
use Rattle.rss_model.specs.Items.{Content, Values}
use Rattle.rss_model.specs.Tables.{Tables, content, fields_of}
use Rattle.rss_model.specs.Chains.{tuples_in, chain_content, chain, with_behind}
use Rattle.rss_model.specs.Meanings.{TellsValues, nameless, name_at}
use Rattle.rss_model.proofs.LogLists.{false_true}
use Rattle.rss_model.proofs.Standing.{tuples_of}
use Rattle.rss_catalog.proofs.Numbered.{numbered_map}
use Rattle.rss_stored.proofs.Relisted.{number_of}
use Rattle.rss_stored.proofs.Spelled.{name_numbered}
use Rattle.rss_access.specs.Changes.{AccessView}
use Rattle.rss_draft.specs.Views.{DraftView}
use Rattle.rss_draft.specs.Drafts.{ShowsTuple}
use Rattle.rss_draft.specs.Looks.{StandsOver, HasGap, StandsBehind, IsFound, HoldsTuple, HasLinkOfForm, HoldsChain}
use Rattle.rss_draft.proofs.TuplesNow.{fields_now}
use Rattle.rss_draft.proofs.ChainsNow.{chain_holds}

module _ {at : AccessView} {draft : DraftView} {saved tables : Tables} (over : StandsOver at draft saved tables) where
  -- ---- a tuple

  module _ (number : ℕ) (tid : Tid) where
    -- its item, by the name of its relation
    tuple_is : {relation : RelationEntry} → relation_at at.catalog.listing number ≡ Some relation → Tuple (name_at RelationKind at.catalog.listing number) tid ≡ Tuple relation.name tid
    tuple_is {relation = relation} listed = ap (λ (name : Option Name). Tuple (unwrap_or name (nameless number)) tid) (number_of at.catalog.listing number relation listed)

    abbrev item : Item
    item = Tuple (name_at RelationKind at.catalog.listing number) tid

    shown : {bytes : List ℕ} {held : Option Content} (tells : TellsValues at.catalog.listing number bytes held) → ShowsTuple (fields_of tables tells.relation.name) (Some bytes) held
    shown tells = record { forms = kinds tells.relation.fields; values = tells.values; defined = fields_now over number tells.relation tells.at tid; spells = tells.spells; is = tells.is }

    told_by : {bytes : List ℕ} {held : Option Content} (relation : RelationEntry) → relation_at at.catalog.listing number ≡ Some relation → ShowsTuple (fields_of tables relation.name) (Some bytes) held → TellsValues at.catalog.listing number bytes held
    told_by {bytes = bytes} relation listed shows = record {
      relation = relation;
      values = shows.values;
      at = listed;
      spells = subst (λ (forms : List FieldForm). Spells forms bytes shows.values) (same_Some _ _ (sym shows.defined ∙ fields_now over number relation listed tid)) shows.spells;
      is = shows.is;
    }

    told_new : {bytes : List ℕ} (relation : RelationEntry) → relation_at at.catalog.listing number ≡ Some relation → (spelled : SpellsSome (kinds relation.fields) bytes) → TellsValues at.catalog.listing number bytes (Some (Values spelled.0))
    told_new relation listed spelled = record { relation = relation; values = spelled.0; at = listed; spells = spelled.1; is = refl }

    pub insert_found : (bytes : List ℕ) → IsFound at.catalog.listing (Insert number tid bytes) tables ↔ HoldsTuple at.catalog.listing tables number tid None (Some bytes)
    insert_found bytes = (
      (λ f.
          let new = f.is.means.1 in
          record {
            relation = new.relation;
            at = new.at;
            holds = ap (content tables.contents) (sym (f.is.tells.item ∙ tuple_is new.at)) ∙ f.is.holds ∙ f.is.means.0;
            spelled = (new.values, new.spells);
          }),
      (λ h. record {
        change = record { by = 0; item = item; old = None; new = Some (Values h.spelled.0) };
        is = record {
          tells = record { maker = refl; item = refl };
          means = (refl, told_new h.relation h.at h.spelled);
          holds = ap (content tables.contents) (tuple_is h.at) ∙ h.holds;
        };
      }),
    )

    pub delete_found : (bytes : List ℕ) → IsFound at.catalog.listing (Delete number tid bytes) tables ↔ HoldsTuple at.catalog.listing tables number tid (Some bytes) None
    delete_found bytes = (
      (λ f.
          let old = f.is.means.0 in
          record {
            relation = old.relation;
            at = old.at;
            holds = subst (ShowsTuple (fields_of tables old.relation.name) (Some bytes)) (sym f.is.holds ∙ ap (content tables.contents) (f.is.tells.item ∙ tuple_is old.at)) (shown old);
            spelled = tt;
          }),
      (λ h. record {
        change = record { by = 0; item = item; old = content tables.contents (Tuple h.relation.name tid); new = None };
        is = record {
          tells = record { maker = refl; item = refl };
          means = (told_by h.relation h.at h.holds, refl);
          holds = ap (content tables.contents) (tuple_is h.at);
        };
      }),
    )

    pub update_found : (from to : List ℕ) → IsFound at.catalog.listing (Update number tid from to) tables ↔ HoldsTuple at.catalog.listing tables number tid (Some from) (Some to)
    update_found from to = (
      (λ f.
          let old = f.is.means.0 in
          let new = f.is.means.1 in
          record {
            relation = old.relation;
            at = old.at;
            holds = subst (ShowsTuple (fields_of tables old.relation.name) (Some from)) (sym f.is.holds ∙ ap (content tables.contents) (f.is.tells.item ∙ tuple_is old.at)) (shown old);
            spelled = subst (λ (r : RelationEntry). SpellsSome (kinds r.fields) to) (same_Some _ _ (sym new.at ∙ old.at)) (new.values, new.spells);
          }),
      (λ h. record {
        change = record { by = 0; item = item; old = content tables.contents (Tuple h.relation.name tid); new = Some (Values h.spelled.0) };
        is = record {
          tells = record { maker = refl; item = refl };
          means = (told_by h.relation h.at h.holds, told_new h.relation h.at h.spelled);
          holds = ap (content tables.contents) (tuple_is h.at);
        };
      }),
    )

  -- ---- a chain

  module _ (number : ℕ) (parent : Option Tid) (child : Tid) (left : Option Tid) where
    chain_is : {link : LinkEntry} → link_at at.catalog.listing number ≡ Some link → Chain (name_at LinkKind at.catalog.listing number) parent ≡ Chain link.name parent
    chain_is {link = link} listed = ap (λ (name : Option Name). Chain (unwrap_or name (nameless number)) parent) (name_numbered (λ (l : LinkEntry). l.name) at.catalog.listing.links number link listed)

    abbrev place : Item
    place = Chain (name_at LinkKind at.catalog.listing number) parent

    -- the tuples of the chain, by what its item holds
    tids_are : {link : LinkEntry} → link_at at.catalog.listing number ≡ Some link → (at_item : Item) → at_item ≡ place → (tids : List Tid) → content tables.contents at_item ≡ chain_content tids → chain tables.contents link.name parent ≡ tids
    tids_are listed at_item same tids holds = ap tuples_in (ap (content tables.contents) (sym (same ∙ chain_is listed)) ∙ holds) ∙ tuples_of tids

    -- its item holds them
    item_holds : {link : LinkEntry} → link_at at.catalog.listing number ≡ Some link → content tables.contents place ≡ chain_content (chain tables.contents link.name parent)
    item_holds {link = link} listed = ap (content tables.contents) (chain_is listed) ∙ chain_holds over link.name parent

    pub connect_found : IsFound at.catalog.listing (Connect number parent child left) tables ↔ HoldsChain at.catalog.listing tables number parent (HasGap child left)
    connect_found = (
      (λ f.
          let tells = f.is.means in
          record {
            has = record { link = tells.link; at = tells.at; form = tells.form };
            so = subst (HasGap child left) (sym (tids_are tells.at f.change.item f.is.tells.item tells.tids (f.is.holds ∙ tells.without))) (record { apart = tells.apart; behind = tells.behind });
          }),
      (λ h.
          let tids = chain tables.contents h.has.link.name parent in
          record {
            change = record { by = 0; item = place; old = chain_content tids; new = chain_content (with_behind left child tids) };
            is = record {
              tells = record { maker = refl; item = refl };
              means = record { link = h.has.link; tids = tids; at = h.has.at; form = h.has.form; apart = h.so.apart; behind = h.so.behind; without = refl; with = refl };
              holds = item_holds h.has.at;
            };
          }),
    )

    pub disconnect_found : IsFound at.catalog.listing (Disconnect number parent child left) tables ↔ HoldsChain at.catalog.listing tables number parent (StandsBehind child left)
    disconnect_found = (
      (λ f.
          let tells = f.is.means in
          record {
            has = record { link = tells.link; at = tells.at; form = tells.form };
            so = record {
              others = tells.tids;
              gap = record { apart = tells.apart; behind = tells.behind };
              is = tids_are tells.at f.change.item f.is.tells.item (with_behind left child tells.tids) (f.is.holds ∙ tells.with);
            };
          }),
      (λ h.
          record {
            change = record { by = 0; item = place; old = chain_content (chain tables.contents h.has.link.name parent); new = chain_content h.so.others };
            is = record {
              tells = record { maker = refl; item = refl };
              means = record { link = h.has.link; tids = h.so.others; at = h.has.at; form = h.has.form; apart = h.so.gap.apart; behind = h.so.gap.behind; without = refl; with = ap chain_content h.so.is };
              holds = item_holds h.has.at;
            };
          }),
    )

-- ---- whether it holds

-- a number that is used is that of a relation, or of a link
pub mapped_some : {A B : Type 0} (f : A → B) (o : Option A) → is_some (option_map f o) ≡ is_some o
mapped_some f None = refl
mapped_some f (Some a) = refl

pub used_relation : (listing : Listing) (number : ℕ) → is_some (numbered (names_of RelationKind listing) number) ≡ is_some (relation_at listing number)
used_relation listing number = ap is_some (numbered_map (λ (r : RelationEntry). r.name) listing.relations number) ∙ mapped_some (λ (r : RelationEntry). r.name) (relation_at listing number)

pub used_link : (listing : Listing) (number : ℕ) → is_some (numbered (names_of LinkKind listing) number) ≡ is_some (link_at listing number)
used_link listing number = ap is_some (numbered_map (λ (l : LinkEntry). l.name) listing.links number) ∙ mapped_some (λ (l : LinkEntry). l.name) (link_at listing number)

module _ {listing : Listing} {tables : Tables} {number : ℕ} {tid : Tid} {was next : Option (List ℕ)} where
  -- nothing has the number
  pub holds_unused : is_some (relation_at listing number) ≡ false → (false ≡ true) ↔ HoldsTuple listing tables number tid was next
  holds_unused off = ((λ yes. absurd (cc (yes))), (λ h. false_true (ap is_some h.at) off))

  module _ (relation : RelationEntry) (listed : relation_at listing number ≡ Some relation) (spelled : Bool) (spells : (spelled ≡ true) ↔ IfSome next (SpellsSome (kinds relation.fields))) where
    -- the bytes are those of no values of it
    pub holds_misspelled : spelled ≡ false → (false ≡ true) ↔ HoldsTuple listing tables number tid was next
    holds_misspelled off = (
      (λ yes. absurd (cc (yes))),
      (λ h. false_true (spells.1 (subst (λ (r : RelationEntry). IfSome next (SpellsSome (kinds r.fields))) (same_Some _ _ (sym h.at ∙ listed)) h.spelled)) off),
    )

    pub holds_tuple : spelled ≡ true → (found : Bool) → ((found ≡ true) ↔ ShowsTuple (fields_of tables relation.name) was (content tables.contents (Tuple relation.name tid))) → (found ≡ true) ↔ HoldsTuple listing tables number tid was next
    holds_tuple on found shows = (
      (λ yes. record { relation = relation; at = listed; holds = shows.0 yes; spelled = spells.0 on }),
      (λ h. shows.1 (subst (λ (r : RelationEntry). ShowsTuple (fields_of tables r.name) was (content tables.contents (Tuple r.name tid))) (same_Some _ _ (sym h.at ∙ listed)) h.holds)),
    )

module _ {listing : Listing} {tables : Tables} {number : ℕ} {parent : Option Tid} {what : List Tid → Type 0} (formed : Bool) (form : (formed ≡ true) ↔ HasLinkOfForm listing number parent) where
  pub holds_misformed : formed ≡ false → (false ≡ true) ↔ HoldsChain listing tables number parent what
  holds_misformed off = ((λ yes. absurd (cc (yes))), (λ h. false_true (form.1 h.has) off))

  pub holds_chain : formed ≡ true → (found : Bool) → ((link : LinkEntry) → link_at listing number ≡ Some link → (found ≡ true) ↔ what (chain tables.contents link.name parent)) → (found ≡ true) ↔ HoldsChain listing tables number parent what
  holds_chain on found so =
      let has = form.0 on in (
        (λ yes. record { has = has; so = (so has.link has.at).0 yes }),
        (λ h. (so h.has.link h.has.at).1 h.so),
      )

-- ---- the form of a link

module _ {listing : Listing} {number : ℕ} {parent : Option Tid} where
  pub form_unused : is_some (link_at listing number) ≡ false → (false ≡ true) ↔ HasLinkOfForm listing number parent
  form_unused off = ((λ yes. absurd (cc (yes))), (λ has. false_true (ap is_some has.at) off))

  pub form_decides : (link : LinkEntry) → link_at listing number ≡ Some link → (same : Bool) → ((same ≡ true) ↔ (is_some link.parent ≡ is_some parent)) → (same ≡ true) ↔ HasLinkOfForm listing number parent
  form_decides link listed same decides = (
    (λ yes. record { link = link; at = listed; form = decides.0 yes }),
    (λ has. decides.1 (ap (λ (l : LinkEntry). is_some l.parent) (same_Some _ _ (sym listed ∙ has.at)) ∙ has.form)),
  )

-- ---- one of two that say the same

pub decides_as : {P Q : Type 0} {found : Bool} → ((found ≡ true) ↔ P) → (Q ↔ P) → (found ≡ true) ↔ Q
decides_as decides same = ((λ yes. same.1 (decides.0 yes)), (λ q. decides.1 (same.0 q)))
