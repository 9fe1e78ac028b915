-- The entry of a tuple in one image of its relation, where a change tells the tuple's values: what a move of it may find, and what it leaves.
use Rattle.std.proofs.Common.{◌≡◌, ℕ, ◌+◌, ◌^◌, ◌<◌, ◌≤◌, true, List, inl, inr, refl, sym, ◌∙◌, ap, subst, arith}
use Rattle.std.specs.Prelude.{Option, Some, None, is_some, option_map, option_copied, All, IfSome}
use Rattle.std.specs.Borrow.{Bor}
use Rattle.std.proofs.lemmas.Bool.{cases_lt}
use Rattle.std.proofs.lemmas.Option.{none-some, same_Some}
use Rattle.rss_base.specs.DiskRule.{IsTold}
use Rattle.rss_base.specs.Steps.{PagesView, PagesStep, AreCounted, pages_in}
use Rattle.rss_base.specs.TupleTypes.{kinds, misfit, tuple_bytes, IsStorable, SpellsSome}
use Rattle.rss_base.specs.Listings.{Listing, numbered, relation_at, image_at}
use Rattle.rss_base.specs.declared.key.PageKey.{PageKey}
use Rattle.rss_base.specs.declared.key.Space.{Space}
use Rattle.rss_base.specs.declared.key.Space.TheVariants.{Home, Overflow, Image as ImageSpace, System}
use Rattle.rss_base.specs.PageMap.{IsKey, number_limit}
use Rattle.rss_base.specs.declared.tid.Tid.{Tid}
use Rattle.rss_base.specs.declared.change.Change as told
use Rattle.rss_base.specs.declared.field.FieldDef.{FieldDef}
use Rattle.rss_base.specs.declared.image.ImageEntry.{ImageEntry}
use Rattle.rss_base.specs.declared.item.Item.TheVariants.{Tuple as TupleItem}
use Rattle.rss_base.specs.declared.relation.RelationEntry.{RelationEntry}
use Rattle.rss_base.specs.declared.value.FieldForm.{FieldForm}
use Rattle.rss_base.specs.declared.value.Value.{Value}
use Rattle.rss_catalog.specs.Catalogs.{CatalogView}
use Rattle.rss_catalog.proofs.Numbered.{numbered_map}
use Rattle.rss_image.specs.Images.{nodes_of}
use Rattle.rss_image.specs.declared.image.Image.{Image}
use Rattle.rss_model.specs.Items.{Values}
use Rattle.rss_model.specs.Tables.{Tables, content}
use Rattle.rss_stored.specs.Store.{IsListedImage, SpellsImages}
use Rattle.rss_model.specs.Meanings.{rootless}
use Rattle.rss_stored.proofs.Spelled.{tuple_bytes_same}
use Rattle.rss_entries.specs.Keyed.{IsOneKey, StaysEntry}
use Rattle.rss_entries.specs.Moving.{KeyKinds, AreSpelled, MayMove, MovesEntry, MakesEntry}
use Rattle.rss_entries.specs.Images.{TupleMove, CanMove, after_move, image_of, key_of}
use Rattle.rss_access.specs.declared.edit.Edit.{Edit}
use Rattle.rss_access.specs.declared.edit.Edit.TheVariants.{Insert, Delete, Update}
use Rattle.rss_access.specs.declared.edit.TupleChange.{TupleChange}
use Rattle.rss_access.specs.Told.{number_told, tid_told, values_before, values_after, AreValuesOf}
use Rattle.rss_access.specs.Changes.{AccessView, NodesStay, ShowsMove, both, image_pages_of}
use Rattle.rss_access.specs.Edits.{told_of, told_by, values_lent}
use Rattle.rss_access.specs.Moved.{IsImageOf, KeepsKeys, ShowsMoveBelow, Reroots, StaysAsItWas}
use Rattle.rss_access.specs.Relisted.{Rerooted}
use Rattle.rss_access.proofs.NodesMoved.{nodes_stay}
use Rattle.rss_access.proofs.Numbered.{fields_listed}
use Rattle.rss_base.proofs.Steps.{then as steps}
use Rattle.rss_entries.proofs.Entries.{has_values}
use Rattle.rss_entries.proofs.Standing.{AreLow}
use Rattle.rss_entries.proofs.Showing.{shows_first, shows_next, shows_moved, shows_all, can_still}
use Rattle.rss_entries.proofs.Places.{may_move, places_same, rooms_same}

-- ---- numbers of pages

limit_low : (slots : ℕ) (space : Space) → slots < 2 ^ 32 → number_limit slots space ≤ 4294967295
limit_low slots Home few = omega arith
limit_low slots Overflow few = omega arith
limit_low slots ImageSpace few = omega arith
limit_low slots System few = omega arith

-- no page has the number that stands for no next leaf
pub held_low : (pages : PagesView) → pages.slots < 2 ^ 32 → ((key : PageKey) → is_some (pages.held key) ≡ pages.mapped key) → ((key : PageKey) → pages.mapped key ≡ true → IsKey pages.slots key) → AreLow pages.held
held_low pages few holds allowed key there =
    let is : IsKey pages.slots key = allowed key (sym (holds key) ∙ there) in
    omega (arith, is.number, limit_low pages.slots key.space few)

-- ---- values and the bytes that tell them

-- values that fit and can be spelled
record AreFit (fields : List FieldForm) (values : Option (List Value)) : Type 0 where
  fit : IfSome values (λ v. misfit fields v ≡ None)
  storable : IfSome values (All IsStorable)

module _ (fields : List FieldForm) where
  -- bytes are those of one tuple
  same_values : (bytes : Option (Bor (List ℕ))) (values others : Option (List Value)) → values_lent bytes ≡ option_map (tuple_bytes fields) values → AreFit fields values → AreSpelled fields (option_copied bytes) others → others ≡ values
  same_values None None None is fit spelled = refl
  same_values None None (Some others) is fit spelled = absurd spelled
  same_values None (Some values) others is fit spelled = absurd (cc)
  same_values (Some b) None others is fit spelled = absurd (cc)
  same_values (Some b) (Some values) None is fit spelled = absurd spelled
  same_values (Some b) (Some values) (Some others) is fit spelled =
      ap Some (tuple_bytes_same 1 fields others values spelled.fit fit.fit spelled.storable fit.storable (sym spelled.same ∙ same_Some _ _ is))

  are_spelled : (bytes : Option (Bor (List ℕ))) (values : Option (List Value)) → values_lent bytes ≡ option_map (tuple_bytes fields) values → AreFit fields values → AreSpelled fields (option_copied bytes) values
  are_spelled None None is fit = tt
  are_spelled None (Some values) is fit = absurd (cc)
  are_spelled (Some b) None is fit = absurd (cc)
  are_spelled (Some b) (Some values) is fit = record { fit = fit.fit; storable = fit.storable; same = same_Some _ _ is }

-- ---- the values of the tuple that changes

module _ {listing : Listing} {move : TupleMove} {tables : Tables} (can : CanMove listing move tables) where
  old_fit : AreFit (kinds move.relation.fields) move.was
  old_fit = by move.was refl
    where
      by : (was : Option (List Value)) → move.was ≡ was → AreFit (kinds move.relation.fields) was
      by None is = record { fit = tt; storable = tt }
      by (Some values) is =
          let there : content tables.contents (TupleItem move.relation.name move.tid) ≡ Some (Values values) = can.holds ∙ ap (option_map Values) is in
          let of = can.tuples move.relation.name move.tid (Values values) there in
          let fields : of.fields ≡ kinds move.relation.fields = same_Some _ _ (sym of.defined ∙ fields_listed tables can.fits can.defines move.number move.relation can.listed) in
          record {
            fit = ap (λ (f : List FieldForm). misfit f values) (sym fields) ∙ ap (misfit of.fields) (held_same values of.values of.tuple) ∙ of.fit;
            storable = can.storable move.relation.name move.tid values there;
          }
        where
          held_same : (a b : List Value) → Values a ≡ Values b → a ≡ b
          held_same a b same = cc

  new_fit : AreFit (kinds move.relation.fields) move.next
  new_fit = record { fit = can.fit; storable = can.next_storable }

-- ---- what a change that is lent tells

number_of_edit : (number : ℕ) (tid : Tid) (edit : Edit) → number_told (told_of number tid edit) ≡ number
number_of_edit number tid (Insert values) = refl
number_of_edit number tid (Delete values) = refl
number_of_edit number tid (Update from to) = refl

tid_of_edit : (number : ℕ) (tid : Tid) (edit : Edit) → tid_told (told_of number tid edit) ≡ tid
tid_of_edit number tid (Insert values) = refl
tid_of_edit number tid (Delete values) = refl
tid_of_edit number tid (Update from to) = refl

pub number_lent : (change : TupleChange) → number_told (told_by change) ≡ change.number
number_lent change = number_of_edit change.number change.tid change.edit

pub tid_lent : (change : TupleChange) → tid_told (told_by change) ≡ change.tid
tid_lent change = tid_of_edit change.number change.tid change.edit

-- the bytes of the values before and after a change
pub record Lends (change : told.Change) (was next : Option (Bor (List ℕ))) : Type 0 where
  pub before : values_before change ≡ values_lent was
  pub after : values_after change ≡ values_lent next

-- they are those of a tuple, where the change's are
module _ (fields : List FieldDef) (number : ℕ) (tid : Tid) where
  spelled_before : (edit : Edit) → AreValuesOf fields (told_of number tid edit) → IfSome (values_before (told_of number tid edit)) (SpellsSome (kinds fields))
  spelled_before (Insert values) are = tt
  spelled_before (Delete values) are = are
  spelled_before (Update from to) are = are.0

  spelled_after : (edit : Edit) → AreValuesOf fields (told_of number tid edit) → IfSome (values_after (told_of number tid edit)) (SpellsSome (kinds fields))
  spelled_after (Insert values) are = are
  spelled_after (Delete values) are = tt
  spelled_after (Update from to) are = are.1

-- also by the kinds of the fields that a move is given
module _ (change : TupleChange) (image : ImageEntry) (relation : RelationEntry) {key : KeyKinds} (is : key ≡ key_of image relation) (are : AreValuesOf relation.fields (told_by change)) where
  given : {told lent : Option (List ℕ)} → told ≡ lent → IfSome told (SpellsSome (kinds relation.fields)) → IfSome lent (SpellsSome key.fields)
  given {told = told} same so = subst (λ (values : Option (List ℕ)). IfSome values (SpellsSome key.fields)) same (subst (λ (k : KeyKinds). IfSome told (SpellsSome k.fields)) (sym is) so)

  pub was_given : (was : Option (Bor (List ℕ))) → values_before (told_by change) ≡ values_lent was → IfSome (option_copied was) (SpellsSome key.fields)
  was_given was tells = given tells (spelled_before relation.fields change.number change.tid change.edit are)

  pub next_given : (next : Option (Bor (List ℕ))) → values_after (told_by change) ≡ values_lent next → IfSome (option_copied next) (SpellsSome key.fields)
  next_given next tells = given tells (spelled_after relation.fields change.number change.tid change.edit are)

-- the relation of an image has its number
pub own_relation : {listing : Listing} {k number : ℕ} {image : ImageEntry} {relation : RelationEntry} → IsListedImage listing k image relation → IsImageOf listing k number → relation_at listing number ≡ Some relation
own_relation {listing = listing} listed of = ap (relation_at listing) (sym (ap (λ (e : ImageEntry). e.relation) (same_Some _ _ (sym listed.at ∙ of.at)) ∙ of.of)) ∙ listed.within

-- the pages of an image are such as its relation's images have
pub its_pages : (listing : Listing) (k number : ℕ) (image : ImageEntry) (relation : RelationEntry) {passed : Image} → passed ≡ image_of k image relation → relation_at listing number ≡ Some relation
    → (key : PageKey) → pages_in passed.segment ImageSpace key → image_pages_of (relation_at listing number) key
its_pages listing k number image relation is at key touched = subst (λ (o : Option RelationEntry). image_pages_of o key) (sym at) (subst (λ (i : Image). pages_in i.segment ImageSpace key) is touched)

-- what a move is given for an image: the fields of its keys, where its pages are, and the tuple's identifier
pub record Passes (change : told.Change) (k : ℕ) (image : ImageEntry) (relation : RelationEntry) (key : KeyKinds) (passed : Image) (tid : Tid) : Type 0 where
  pub of : image.relation ≡ number_told change
  pub key_is : key ≡ key_of image relation
  pub image_is : passed ≡ image_of k image relation
  pub tid_is : tid_told change ≡ tid

-- ---- an image of the relation

module _ {k : ℕ} {catalog : CatalogView} {image : ImageEntry} {relation : RelationEntry} (at : image_at catalog.listing k ≡ Some image) (within : relation_at catalog.listing image.relation ≡ Some relation)
    {change : told.Change} {was next : Option (Bor (List ℕ))} (lends : Lends change was next) {key : KeyKinds} {passed : Image} {tid : Tid} (passes : Passes change k image relation key passed tid) {old : PagesView} (low : AreLow old.held)
    (move : TupleMove) (tables : Tables) (shows : ShowsMoveBelow k (both old catalog) change move tables) where
  its : image.relation ≡ move.number
  its = passes.of ∙ shows.tells.number

  one_relation : relation ≡ move.relation
  one_relation = same_Some _ _ (sym within ∙ ap (relation_at catalog.listing) its ∙ shows.can.listed)

  listed : IsListedImage catalog.listing k image move.relation
  listed = record { at = at; within = within ∙ ap Some one_relation }

  key_same : key ≡ key_of image move.relation
  key_same = passes.key_is ∙ ap (key_of image) one_relation

  kinds_same : key.fields ≡ kinds move.relation.fields
  kinds_same = ap (λ (k : KeyKinds). k.fields) key_same

  tid_same : tid ≡ move.tid
  tid_same = sym passes.tid_is ∙ shows.tells.tid

  image_same : passed ≡ image_of k image move.relation
  image_same = passes.image_is ∙ ap (image_of k image) one_relation

  was_told : values_lent was ≡ option_map (tuple_bytes (kinds move.relation.fields)) move.was
  was_told = sym lends.before ∙ shows.tells.before

  next_told : values_lent next ≡ option_map (tuple_bytes (kinds move.relation.fields)) move.next
  next_told = sym lends.after ∙ shows.tells.after

  -- the values that the bytes spell are those of the tuple
  pub may_be_moved : ((key : PageKey) → is_some (old.held key) ≡ old.mapped key) → (values : Option (List Value)) → AreSpelled key.fields (option_copied was) values
      → MayMove key tid values passed old
  may_be_moved holds values spelled =
      let same : values ≡ move.was = same_values (kinds move.relation.fields) was move.was values was_told (old_fit shows.can) (subst (λ (f : List FieldForm). AreSpelled f (option_copied was) values) kinds_same spelled) in
      subst (λ (v : Option (List Value)). MayMove key tid v passed old) (sym same)
      (subst (λ (k : KeyKinds). MayMove k tid move.was passed old) (sym key_same)
      (subst (λ (t : Tid). MayMove (key_of image move.relation) t move.was passed old) (sym tid_same)
      (subst (λ (i : Image). MayMove (key_of image move.relation) move.tid move.was i old) (sym image_same)
      (may_move move shows.can k image old low holds shows.images listed its shows.room))))

  -- what holds for all values that the bytes spell holds for those of the tuple
  given_so : (P : KeyKinds → Tid → (was next : Option (List Value)) → Image → Type 0)
      → ((values others : Option (List Value)) → AreSpelled key.fields (option_copied was) values → AreSpelled key.fields (option_copied next) others → P key tid values others passed)
      → P (key_of image move.relation) move.tid move.was move.next (image_of k image move.relation)
  given_so P all =
      subst (P (key_of image move.relation) move.tid move.was move.next) image_same
      (subst (λ (t : Tid). P (key_of image move.relation) t move.was move.next passed) tid_same
      (subst (λ (k : KeyKinds). P k tid move.was move.next passed) key_same
      (all move.was move.next
      (subst (λ (f : List FieldForm). AreSpelled f (option_copied was) move.was) (sym kinds_same) (are_spelled (kinds move.relation.fields) was move.was was_told (old_fit shows.can)))
      (subst (λ (f : List FieldForm). AreSpelled f (option_copied next) move.next) (sym kinds_same) (are_spelled (kinds move.relation.fields) next move.next next_told (new_fit shows.can))))))

  module _ (disk : IsTold old.disk) {new : PagesView} (new_low : AreLow new.held) (counted : AreCounted old) (new_counted : AreCounted new) {asks outs : ℕ} (step : PagesStep (pages_in passed.segment ImageSpace) asks outs old new)
      (after : Image) (nodes : nodes_of after ≡ nodes_of passed)
      (moves : (values others : Option (List Value)) → AreSpelled key.fields (option_copied was) values → AreSpelled key.fields (option_copied next) others → MovesEntry key tid values others passed after old new)
      {now : CatalogView} (reroots : Reroots k after.root after.levels image catalog now) where
    moved : MovesEntry (key_of image move.relation) move.tid move.was move.next (image_of k image move.relation) after old new
    moved = given_so (λ key tid was next before. MovesEntry key tid was next before after old new) moves

    its_step : PagesStep (pages_in move.relation.segment ImageSpace) asks outs old new
    its_step = subst (λ (i : Image). PagesStep (pages_in i.segment ImageSpace) asks outs old new) image_same step

    its_nodes : nodes_of after ≡ nodes_of (image_of k image move.relation)
    its_nodes = nodes ∙ ap nodes_of image_same

    -- the image shows the tables after the change
    pub shows_one_more : ShowsMoveBelow (k + 1) (both new now) change move tables
    shows_one_more = record {
      tells = shows.tells;
      can = can_still shows.can k image at after.root after.levels now.listing reroots.is (reroots.rerooted.fits shows.can.fits);
      images = shows_moved move shows.can k image listed its disk low new_low shows.images after its_nodes moved its_step now.listing reroots.is;
      room = omega (arith, shows.room, rooms_same catalog.listing move.number k image at after.root after.levels now.listing reroots.is, places_same move.relation.segment old new counted new_counted its_step);
    }

    -- the identifiers in nodes have pages below the number of slots still
    pub nodes_one_more : ((values others : Option (List Value)) → AreSpelled key.fields (option_copied was) values → AreSpelled key.fields (option_copied next) others → MakesEntry key tid values others passed after old new)
        → NodesStay (tid_told change) (both old catalog) (both new now)
    nodes_one_more makes slots named within =
        let low_tid : move.tid.page < slots = subst (λ (t : Tid). t.page < slots) shows.tells.tid named in
        nodes_stay move shows.can k image listed slots low_tid its disk low new_low shows.images after its_nodes moved
        (given_so (λ key tid was next before. MakesEntry key tid was next before after old new) makes) its_step within now.listing reroots.is

-- ---- an image of another relation

pub shows_another : {k : ℕ} {at : AccessView} (change : TupleChange) {move : TupleMove} {tables : Tables} → (IsImageOf at.catalog.listing k change.number → ⊥) → ShowsMoveBelow k at (told_by change) move tables → ShowsMoveBelow (k + 1) at (told_by change) move tables
shows_another {k = k} {at = at} change {move = move} other shows = record {
  tells = shows.tells;
  can = shows.can;
  images = shows_next move shows.can k (λ image there its. other (record { image = image; at = there; of = its ∙ sym shows.tells.number ∙ number_lent change })) shows.images;
  room = shows.room;
}

-- ---- all images

-- before any image is moved
pub shows_none_yet : {at : AccessView} {change : told.Change} {move : TupleMove} {tables : Tables} → ShowsMove at change move tables → ShowsMoveBelow 1 at change move tables
shows_none_yet {move = move} shows = record { tells = shows.tells; can = shows.can; images = shows_first move shows.images; room = shows.room }

none_now : {old now : CatalogView} → Rerooted old now → (number : ℕ) → image_at old.listing number ≡ None → image_at now.listing number ≡ None
none_now {old = old} {now = now} rerooted number none = none_of (image_at now.listing number)
    (sym (numbered_map rootless now.listing.images number) ∙ ap (λ (items : List (Option ImageEntry)). numbered items number) rerooted.images ∙ numbered_map rootless old.listing.images number ∙ ap (option_map rootless) none)
  where
    none_of : (o : Option ImageEntry) → option_map rootless o ≡ None → o ≡ None
    none_of None is = refl
    none_of (Some image) is = absurd (cc)

-- once all are moved
pub shows_them_all : {old now : CatalogView} {pages : PagesView} {change : told.Change} {move : TupleMove} {tables : Tables} {k last : ℕ} → Rerooted old now → ((number : ℕ) → last < number → image_at old.listing number ≡ None) → last < k → ShowsMoveBelow k (both pages now) change move tables
    → SpellsImages pages.held now.listing (after_move move tables)
shows_them_all {k = k} {last = last} rerooted none few shows = shows_all shows.images (λ number image at. elim (cases_lt number k) [
  | inl below ↦ below
  | inr past ↦ absurd (none-some image (sym (none_now rerooted number (none number (omega (arith, past, few)))) ∙ at))
])

-- ---- where keys stay

-- a move between values of one key leaves the image, and asks for no page
pub entry_stays : {listing : Listing} {number : ℕ} (change : TupleChange) {image : ImageEntry} {relation : RelationEntry} (listed : IsListedImage listing number image relation) → IsImageOf listing number change.number
    → {key : KeyKinds} → key ≡ key_of image relation → AreValuesOf relation.fields (told_by change) → {was next : Option (Bor (List ℕ))} → Lends (told_by change) was next → KeepsKeys listing (told_by change)
    → {before after : Image} {old new : PagesView}
    → ((values others : Option (List Value)) → AreSpelled key.fields (option_copied was) values → AreSpelled key.fields (option_copied next) others → IsOneKey key values others → StaysEntry before after old new) → StaysEntry before after old new
entry_stays {number = number} change {image = image} {relation = relation} listed of {key = key} is are {was = was} {next = next} lends keeps stays =
    let had = has_values key.fields (option_copied was) (was_given change image relation is are was lends.before) in
    let has = has_values key.fields (option_copied next) (next_given change image relation is are next lends.after) in
    let its : image.relation ≡ number_told (told_by change) = ap (λ (e : ImageEntry). e.relation) (same_Some _ _ (sym listed.at ∙ of.at)) ∙ of.of ∙ sym (number_lent change) in
    stays had.values has.values had.are has.are
    (subst (λ (k : KeyKinds). IsOneKey k had.values has.values) (sym is)
    (keeps.each number image relation listed its had.values has.values (told_so was lends.before had.values had.are) (told_so next lends.after has.values has.are)))
  where
    told_so : {bytes : Option (List ℕ)} (lent : Option (Bor (List ℕ))) → bytes ≡ values_lent lent → (values : Option (List Value)) → AreSpelled key.fields (option_copied lent) values → AreSpelled (kinds relation.fields) bytes values
    told_so lent same values spelled =
        subst (λ (b : Option (List ℕ)). AreSpelled (kinds relation.fields) b values) (sym same) (subst (λ (k : KeyKinds). AreSpelled k.fields (option_copied lent) values) is spelled)

-- one step more
pub stays_then : {old mid new : AccessView} {change : told.Change} → StaysAsItWas old mid → KeepsKeys old.catalog.listing change → (KeepsKeys mid.catalog.listing change → StaysAsItWas mid new) → StaysAsItWas old new
stays_then {change = change} first keeps more =
    let then = more (subst (λ (c : CatalogView). KeepsKeys c.listing change) (sym first.catalog) keeps) in
    record { pages = steps first.pages then.pages; catalog = then.catalog ∙ first.catalog }
