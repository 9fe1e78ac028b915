-- What a record means is the same under each listing of the same definitions.
use Rattle.std.proofs.Common.{◌≡◌, ℕ, zero, suc, ◌-◌, List, [], ◌∷◌, map, Option, Some, None, refl, sym, ◌∙◌, ap, subst}
use Rattle.std.specs.Prelude.{◌==◌, slice_get, is_some, option_map, option_and_then, unwrap_or}
use Rattle.rss_base.specs.declared.name.Name.{Name}
use Rattle.rss_base.specs.declared.tid.Tid.{Tid}
use Rattle.rss_base.specs.declared.relation.RelationEntry.{RelationEntry}
use Rattle.rss_base.specs.declared.link.LinkEntry.{LinkEntry}
use Rattle.rss_base.specs.declared.refusal.Kind.TheVariants.{Relation as RelationKind, Link as LinkKind}
use Rattle.rss_base.specs.declared.item.Item.TheVariants.{Tuple as TupleItem, Chain as ChainItem}
use Rattle.rss_base.specs.declared.change.Change as told
use Rattle.rss_base.specs.declared.change.Change.TheVariants.{Insert, Delete, Update, Connect, Disconnect}
use Rattle.rss_base.specs.declared.log_record.LogRecord.{LogRecord}
use Rattle.rss_base.specs.TupleTypes.{kinds, Spells}
use Rattle.rss_base.specs.Listings.{Listing, numbered, names_of, with_count}
use Rattle.rss_model.specs.Items.{Content}
use Rattle.rss_model.specs.Changes.{Change}
use Rattle.rss_model.specs.Records.{LogEntry}
use Rattle.rss_model.specs.Meanings.{endless, SameDefinitions, nameless, item_told, Says, says_change, says_restore, says_end, says_abort, says_checkpoint, TellsValues, TellsPlace, Means, MeansIt}
use Rattle.rss_model.proofs.LogLists.{by_test}
use Rattle.rss_model.specs.Tables.{Definitions, fields_in}
use Rattle.rss_model.specs.EngineLogs.{HaveFields}

-- ---- what a number has

module _ {A B : Type 0} (f : A → B) where
  got_mapped : (items : List (Option A)) (n : ℕ) → option_and_then (λ item. item) (slice_get (map (option_map f) items) n) ≡ option_map f (option_and_then (λ item. item) (slice_get items n))
  got_mapped [] n = refl
  got_mapped (None ∷ items) zero = refl
  got_mapped (Some item ∷ items) zero = refl
  got_mapped (item ∷ items) (suc n) = got_mapped items n

  numbered_mapped : (items : List (Option A)) (number : ℕ) → numbered (map (option_map f) items) number ≡ option_map f (numbered items number)
  numbered_mapped items number = by_test (number == 0) (λ e. rw e) (λ e. rw e (got_mapped items (number - 1)))

  -- what the one has, the other has as far as this shows it
  shown : (one other : Option A) (item : A) → option_map f other ≡ option_map f one → one ≡ Some item → (found : A) × (other ≡ Some found) × (f found ≡ f item)
  shown None other item same is = absurd (cc (is))
  shown (Some a) None item same is = absurd (cc (same))
  shown (Some a) (Some b) item same is = let a_is : a ≡ item = cc (is) in let b_is : f b ≡ f a = cc (same) in (b, refl, b_is ∙ ap f a_is)

  same_numbered : (items others : List (Option A)) (number : ℕ) (item : A) → map (option_map f) others ≡ map (option_map f) items → numbered items number ≡ Some item
      → (found : A) × (numbered others number ≡ Some found) × (f found ≡ f item)
  same_numbered items others number item same is =
      shown (numbered items number) (numbered others number) item (sym (numbered_mapped others number) ∙ ap (λ l. numbered l number) same ∙ numbered_mapped items number) is

  -- a part that this keeps
  fused : {C : Type 0} (g : B → C) (items : List (Option A)) → map (option_map g) (map (option_map f) items) ≡ map (option_map (λ item. g (f item))) items
  fused g [] = refl
  fused g (None ∷ items) = ap (λ l. None ∷ l) (fused g items)
  fused g (Some item ∷ items) = ap (λ l. Some (g (f item)) ∷ l) (fused g items)

module _ (listing other : Listing) (same : SameDefinitions listing other) where
  relation_names : names_of RelationKind other ≡ names_of RelationKind listing
  relation_names =
      sym (fused (with_count 0) (λ (relation : RelationEntry). relation.name) other.relations)
      ∙ ap (map (option_map (λ (relation : RelationEntry). relation.name))) same.relations
      ∙ fused (with_count 0) (λ (relation : RelationEntry). relation.name) listing.relations

  link_names : names_of LinkKind other ≡ names_of LinkKind listing
  link_names =
      sym (fused endless (λ (link : LinkEntry). link.name) other.links)
      ∙ ap (map (option_map (λ (link : LinkEntry). link.name))) same.links
      ∙ fused endless (λ (link : LinkEntry). link.name) listing.links

  relation_named : (number : ℕ) → unwrap_or (numbered (names_of RelationKind listing) number) (nameless number) ≡ unwrap_or (numbered (names_of RelationKind other) number) (nameless number)
  relation_named number = ap (λ (names : List (Option Name)). unwrap_or (numbered names number) (nameless number)) (sym relation_names)

  link_named : (number : ℕ) → unwrap_or (numbered (names_of LinkKind listing) number) (nameless number) ≡ unwrap_or (numbered (names_of LinkKind other) number) (nameless number)
  link_named number = ap (λ (names : List (Option Name)). unwrap_or (numbered names number) (nameless number)) (sym link_names)

  same_item : (told_change : told.Change) → item_told listing told_change ≡ item_told other told_change
  same_item (Insert relation tid values) = ap (λ (name : Name). TupleItem name tid) (relation_named relation)
  same_item (Delete relation tid values) = ap (λ (name : Name). TupleItem name tid) (relation_named relation)
  same_item (Update relation tid values next) = ap (λ (name : Name). TupleItem name tid) (relation_named relation)
  same_item (Connect link parent child left) = ap (λ (name : Name). ChainItem name parent) (link_named link)
  same_item (Disconnect link parent child left) = ap (λ (name : Name). ChainItem name parent) (link_named link)

  -- ---- records

  pub says_same : {told_record : LogRecord} {entry : LogEntry} → Says listing told_record entry → Says other told_record entry
  says_same (says_change {told_change = told_change} tells) = says_change (record { maker = tells.maker; item = tells.item ∙ same_item told_change })
  says_same says_restore = says_restore
  says_same says_end = says_end
  says_same says_abort = says_abort
  says_same says_checkpoint = says_checkpoint

  values_same : {number : ℕ} {spelled : List ℕ} {held : Option Content} → TellsValues listing number spelled held → TellsValues other number spelled held
  values_same {number = number} {spelled = spelled} is =
      let there = same_numbered (with_count 0) listing.relations other.relations number is.relation same.relations is.at in
      record {
        relation = there.0;
        values = is.values;
        at = there.1;
        spells = subst (λ fields. Spells (kinds fields) spelled is.values) (sym (ap (λ (relation : RelationEntry). relation.fields) there.2)) is.spells;
        is = is.is;
      }

  -- relations have their fields by their names
  pub fields_kept : (definitions : Definitions) → HaveFields listing definitions → HaveFields other definitions
  fields_kept definitions fields number relation at =
      let there = same_numbered (with_count 0) other.relations listing.relations number relation (sym same.relations) at in
      ap (fields_in definitions) (sym (ap (λ (relation : RelationEntry). relation.name) there.2))
      ∙ fields number there.0 there.1 ∙ ap (λ (relation : RelationEntry). relation.fields) there.2

  place_same : {number : ℕ} {parent : Option Tid} {child : Tid} {left : Option Tid} {off on : Option Content} → TellsPlace listing number parent child left off on → TellsPlace other number parent child left off on
  place_same {number = number} is =
      let there = same_numbered endless listing.links other.links number is.link same.links is.at in
      record {
        link = there.0;
        tids = is.tids;
        at = there.1;
        form = ap (λ (link : LinkEntry). is_some link.parent) there.2 ∙ is.form;
        apart = is.apart;
        behind = is.behind;
        without = is.without;
        with = is.with;
      }

  means_same : (told_change : told.Change) (change : Change) → Means listing told_change change → Means other told_change change
  means_same (Insert relation tid values) change is = (is.0, values_same is.1)
  means_same (Delete relation tid values) change is = (values_same is.0, is.1)
  means_same (Update relation tid values next) change is = (values_same is.0, values_same is.1)
  means_same (Connect link parent child left) change is = place_same is
  means_same (Disconnect link parent child left) change is = place_same is

  pub means_it_same : {told_record : LogRecord} {entry : LogEntry} → Says listing told_record entry → MeansIt listing told_record entry → MeansIt other told_record entry
  means_it_same (says_change {told_change = told_change} {made = made} tells) is = means_same told_change made is
  means_it_same says_restore is = tt
  means_it_same says_end is = tt
  means_it_same says_abort is = tt
  means_it_same says_checkpoint is = tt
