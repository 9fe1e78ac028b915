-- What the list of an image is where a tuple changes, and that it is as long as its relation has tuples.
use Rattle.std.proofs.Common.{◌≡◌, ◌≢◌, ◌⊎◌, inl, inr, ⊎_elim, ℕ, true, List, length, refl, sym, ◌∙◌, ap, subst}
use Rattle.std.specs.Prelude.{Option, Some, None, All, Contains, IfSome, is_some, option_map}
use Rattle.std.proofs.lemmas.Option.{same_Some}
use Rattle.rss_base.specs.TupleTypes.{kinds, chosen, misfit, IsStorable}
use Rattle.rss_base.specs.Listings.{Listing, ListingFits, IsNumberOf}
use Rattle.rss_base.specs.declared.field.FieldDef.{FieldDef}
use Rattle.rss_base.specs.declared.name.Name.{Name}
use Rattle.rss_base.specs.declared.tid.Tid.{Tid}
use Rattle.rss_base.specs.declared.value.Value.{Value}
use Rattle.rss_base.specs.declared.item.Item.TheVariants.{Tuple as TupleItem}
use Rattle.rss_base.specs.declared.image.ImageEntry.{ImageEntry}
use Rattle.rss_base.specs.declared.relation.RelationEntry.{RelationEntry}
use Rattle.rss_base.specs.declared.refusal.Kind.TheVariants.{Relation as RelationKind}
use Rattle.rss_base.specs.Tids.{IsSpelledTid}
use Rattle.rss_model.specs.Items.{Content, Values}
use Rattle.rss_model.specs.Tables.{RelationDef, Tables, content, fields_in, fields_of}
use Rattle.rss_model.specs.Images.{image_list, key_kinds}
use Rattle.rss_stored.specs.Store.{Defines, IsListedImage, image_definition}
use Rattle.rss_stored.proofs.Listed.{listed}
use Rattle.rss_model.proofs.LogChanging.{by_item, put_here, put_other}
use Rattle.rss_model.proofs.LogLists.{none_some}
use Rattle.rss_model.proofs.Mixing.{In}
use Rattle.rss_model.proofs.Putting.{same_parts, values_of}
use Rattle.rss_stored.proofs.Relisted.{number_of}
use Rattle.rss_model.proofs.SeenAlike.{entries_same}
use Rattle.rss_entries.specs.Seeking.{kinds_in}
use Rattle.rss_entries.specs.Moving.{KeyKinds, pair_with, less, more, moved_pairs, HoldsEntry}
use Rattle.rss_entries.specs.Images.{key_of, AreTuples, TupleMove, after_move, CanMove}
use Rattle.rss_entries.proofs.Orders.{Rise, same_pairs, each_of_in, in_contains, with_in, in_with, with_rises, without_in, in_without, without_rises}
use Rattle.rss_model.proofs.ImageCounts.{entries_counted}
use Rattle.rss_stored.proofs.ImageFields.{fields_are, numbers_are}
use Rattle.rss_entries.proofs.Shown.{same_tid, Shows, pair_there, tuple_pair, pairs_rise}
pub use Rattle.rss_entries.proofs.Shown.{byte_list}

-- ---- a list of pairs without a tuple's, and with it

module _ (key : KeyKinds) (tid : Tid) where
  less_in : (was : Option (List Value)) (pairs : List (List ℕ)) (a : List ℕ) → Rise pairs → In a (less key tid was pairs) → In a pairs × ((values : List Value) → was ≡ Some values → pair_with key tid values ≢ a)
  less_in None pairs a rises is = (is, λ values at. none_some at)
  less_in (Some old) pairs a rises is =
      let parts = without_in (pair_with key tid old) pairs a rises is in
      (parts.0, λ values at same. parts.1 (ap (pair_with key tid) (same_Some _ _ at) ∙ same))

  in_less : (was : Option (List Value)) (pairs : List (List ℕ)) (a : List ℕ) → In a pairs → ((values : List Value) → was ≡ Some values → pair_with key tid values ≢ a) → In a (less key tid was pairs)
  in_less None pairs a is other = is
  in_less (Some old) pairs a is other = in_without (pair_with key tid old) pairs a is (other old refl)

  less_rises : (was : Option (List Value)) (pairs : List (List ℕ)) → Rise pairs → Rise (less key tid was pairs)
  less_rises None pairs rises = rises
  less_rises (Some old) pairs rises = without_rises (pair_with key tid old) pairs rises

  -- the pair of these values, where there are any
  abbrev IsPairOf : Option (List Value) → List ℕ → Type 0
  IsPairOf next a = (values : List Value) × (next ≡ Some values) × (pair_with key tid values ≡ a)

  more_in : (next : Option (List Value)) (pairs : List (List ℕ)) (a : List ℕ) → In a (more key tid next pairs) → IsPairOf next a ⊎ In a pairs
  more_in None pairs a is = inr is
  more_in (Some new) pairs a is = ⊎_elim (λ same. inl (new, refl, same)) (λ i. inr i) (with_in (pair_with key tid new) pairs a is)

  in_more : (next : Option (List Value)) (pairs : List (List ℕ)) (a : List ℕ) → IsPairOf next a ⊎ In a pairs → In a (more key tid next pairs)
  in_more None pairs a (inl of) = none_some of.1
  in_more None pairs a (inr is) = is
  in_more (Some new) pairs a (inl of) = in_with (pair_with key tid new) pairs a (inl (ap (pair_with key tid) (same_Some _ _ of.1) ∙ of.2))
  in_more (Some new) pairs a (inr is) = in_with (pair_with key tid new) pairs a (inr is)

  more_rises : (next : Option (List Value)) (pairs : List (List ℕ)) → ((values : List Value) → next ≡ Some values → In (pair_with key tid values) pairs → ⊥) → Rise pairs → Rise (more key tid next pairs)
  more_rises None pairs none rises = rises
  more_rises (Some new) pairs none rises = with_rises (pair_with key tid new) pairs (none new refl) rises

-- ---- what is listed is shown

if_some : {A : Type 0} (P : A → Type 0) (o : Option A) (a : A) → IfSome o P → o ≡ Some a → P a
if_some P None a all is = none_some is
if_some P (Some b) a all is = subst P (same_Some _ _ is) all

module _ {listing : Listing} (tables : Tables) (fits : ListingFits listing) (defines : Defines listing tables.definitions) {number : ℕ} {image : ImageEntry} {relation : RelationEntry} (at : IsListedImage listing number image relation) where
  kinds_are : fields_of tables relation.name ≡ Some (kinds relation.fields)
  kinds_are =
      let so = listed fits defines image.relation relation at.within in
      ap (option_map (λ (r : RelationDef). kinds r.fields)) (defines.relations image.relation relation so.0 so.1)

  -- the kinds of the image's fields by their names are those by their numbers
  pub kinds_listed : key_kinds (fields_in tables.definitions relation.name) (image_definition image relation).fields ≡ kinds_in image relation
  kinds_listed =
      ap (λ (fields : List FieldDef). key_kinds fields (image_definition image relation).fields) (fields_are fits defines at)
      ∙ ap (λ (numbers : List ℕ). kinds (chosen numbers relation.fields)) (numbers_are fits defines at)

  -- where the tuples are their relations', and their values and identifiers can be spelled
  pub listed_shows : AreTuples tables → ((name : Name) (tid : Tid) (values : List Value) → content tables.contents (TupleItem name tid) ≡ Some (Values values) → All IsStorable values)
      → ((name : Name) (tid : Tid) → is_some (content tables.contents (TupleItem name tid)) ≡ true → IsSpelledTid tid) → Shows tables image relation
  listed_shows tuples storable tids = record {
    fields = fields_are fits defines at;
    numbers = numbers_are fits defines at;
    tuples = λ tid values there.
        let of = tuples relation.name tid (Values values) there in
        let same : of.values ≡ values = sym (same_Some _ _ (values_of (Some values) of.values (ap (λ (c : Content). Some c) of.tuple))) in
        let kinds_same : of.fields ≡ kinds relation.fields = same_Some _ _ (sym of.defined ∙ kinds_are) in
        record {
          fit = (λ i. misfit (sym kinds_same i) (sym same i)) ∙ of.fit;
          storable = storable relation.name tid values there;
          spelled = tids relation.name tid (ap is_some there);
        };
  }

module _ {listing : Listing} {tables : Tables} (move : TupleMove) (can : CanMove listing move tables) where
  -- ---- the tables before the change

  shows_before : (number : ℕ) (image : ImageEntry) (relation : RelationEntry) → IsListedImage listing number image relation → Shows tables image relation
  shows_before number image relation at = listed_shows tables can.fits can.defines at can.tuples can.storable can.tids

  -- ---- and after it

  same_tid_item : (tid : Tid) → tid ≡ move.tid → TupleItem move.relation.name tid ≡ TupleItem move.relation.name move.tid
  same_tid_item tid same = ap (TupleItem move.relation.name) same

  -- a tuple that is there afterwards is the one that changes, or was there
  by_tid : {G : Type 0} (tid : Tid) (values : List Value) → content (after_move move tables).contents (TupleItem move.relation.name tid) ≡ Some (Values values)
      → (tid ≡ move.tid → move.next ≡ Some values → G) → (tid ≢ move.tid → content tables.contents (TupleItem move.relation.name tid) ≡ Some (Values values) → G) → G
  by_tid tid values there here other = by_item (TupleItem move.relation.name tid) (TupleItem move.relation.name move.tid)
      (λ same. here (same_parts move.relation.name move.relation.name tid move.tid same).1
      (values_of move.next values (sym (put_here tables.contents (TupleItem move.relation.name move.tid) (TupleItem move.relation.name tid) (option_map Values move.next) same) ∙ there)))
      (λ apart. other (λ same. apart (same_tid_item tid same))
      (sym (put_other tables.contents (TupleItem move.relation.name move.tid) (TupleItem move.relation.name tid) (option_map Values move.next) apart) ∙ there))

  -- what was there with another identifier is there afterwards
  still_there : (tid : Tid) → tid ≢ move.tid → content (after_move move tables).contents (TupleItem move.relation.name tid) ≡ content tables.contents (TupleItem move.relation.name tid)
  still_there tid other = put_other tables.contents (TupleItem move.relation.name move.tid) (TupleItem move.relation.name tid) (option_map Values move.next)
      (λ same. other (same_parts move.relation.name move.relation.name tid move.tid same).1)

  now_there : (values : List Value) → move.next ≡ Some values → content (after_move move tables).contents (TupleItem move.relation.name move.tid) ≡ Some (Values values)
  now_there values is = put_here tables.contents (TupleItem move.relation.name move.tid) (TupleItem move.relation.name move.tid) (option_map Values move.next) refl ∙ ap (option_map Values) is

  was_there : (values : List Value) → content tables.contents (TupleItem move.relation.name move.tid) ≡ Some (Values values) → move.was ≡ Some values
  was_there values there = values_of move.was values (sym can.holds ∙ there)

  module _ (number : ℕ) (image : ImageEntry) (at : IsListedImage listing number image move.relation) where
    abbrev key : KeyKinds
    key = key_of image move.relation

    abbrev pairs_before : List (List ℕ)
    pairs_before = byte_list tables image move.relation

    shows : Shows tables image move.relation
    shows = shows_before number image move.relation at

    shows_after : Shows (after_move move tables) image move.relation
    shows_after = record {
      fields = shows.fields;
      numbers = shows.numbers;
      tuples = λ tid values there. by_tid tid values there
          (λ same next. record {
            fit = if_some (λ (vs : List Value). misfit (kinds move.relation.fields) vs ≡ None) move.next values can.fit next;
            storable = if_some (All IsStorable) move.next values can.next_storable next;
            spelled = subst IsSpelledTid (sym same) can.tid;
          })
          (λ other was. shows.tuples tid values was);
    }

    -- a pair with the identifier of the tuple that changes is this tuple's
    is_of_tuple : (tid : Tid) (values : List Value) (others : List Value) → content tables.contents (TupleItem move.relation.name tid) ≡ Some (Values values)
        → pair_with key tid values ≡ pair_with key move.tid others → (tid ≡ move.tid) × (move.was ≡ Some values)
    is_of_tuple tid values others there same =
        let one : tid ≡ move.tid = same_tid _ _ tid move.tid (shows.tuples tid values there).spelled can.tid same in
        (one, was_there values (ap (content tables.contents) (sym (same_tid_item tid one)) ∙ there))

    -- ---- the tuple's pair among the others

    entry_held : HoldsEntry key move.tid move.was pairs_before
    entry_held = record {
      there = there move.was can.holds;
      none = λ none values. each_of_in (λ p. p ≡ pair_with key move.tid values → ⊥) pairs_before (λ p is same.
          let of = tuple_pair shows p is in
          none_some (sym none ∙ (is_of_tuple of.tid of.values values of.there (of.is ∙ same)).1));
      other = λ old values was differ. each_of_in (λ p. p ≡ pair_with key move.tid values → ⊥) pairs_before (λ p is same.
          let of = tuple_pair shows p is in
          let its = is_of_tuple of.tid of.values values of.there (of.is ∙ same) in
          let olds : old ≡ of.values = same_Some _ _ (sym was ∙ its.1) in
          differ ((λ i. pair_with key (sym its.0 i) (olds i)) ∙ of.is ∙ same));
    }
      where
        there : (was : Option (List Value)) → content tables.contents (TupleItem move.relation.name move.tid) ≡ option_map Values was → IfSome was (λ values. Contains pairs_before (pair_with key move.tid values))
        there None holds = tt
        there (Some values) holds = in_contains pairs_before (pair_with key move.tid values) (pair_there shows move.tid values holds)

    -- ---- the list after the change

    abbrev pairs_less : List (List ℕ)
    pairs_less = less key move.tid move.was pairs_before

    not_among : (values : List Value) → In (pair_with key move.tid values) pairs_less → ⊥
    not_among values is =
        let parts = less_in key move.tid move.was pairs_before (pair_with key move.tid values) (pairs_rise shows) is in
        let of = tuple_pair shows (pair_with key move.tid values) parts.0 in
        let its = is_of_tuple of.tid of.values values of.there of.is in
        parts.1 of.values its.1 (ap (λ (t : Tid). pair_with key t of.values) (sym its.0) ∙ of.is)

    to_moved : (a : List ℕ) → In a (byte_list (after_move move tables) image move.relation) → In a (moved_pairs key move.tid move.was move.next pairs_before)
    to_moved a is =
        let of = tuple_pair shows_after a is in
        in_more key move.tid move.next pairs_less a (by_tid of.tid of.values of.there
        (λ same next. inl (of.values, next, ap (λ (t : Tid). pair_with key t of.values) (sym same) ∙ of.is))
        (λ other was. inr (in_less key move.tid move.was pairs_before a (subst (λ (p : List ℕ). In p pairs_before) of.is (pair_there shows of.tid of.values was))
        (λ values old same. other (is_of_tuple of.tid of.values values was (of.is ∙ sym same)).0))))

    from_moved : (a : List ℕ) → In a (moved_pairs key move.tid move.was move.next pairs_before) → In a (byte_list (after_move move tables) image move.relation)
    from_moved a is = ⊎_elim
        (λ new. subst (λ (p : List ℕ). In p (byte_list (after_move move tables) image move.relation)) new.2 (pair_there shows_after move.tid new.0 (now_there new.0 new.1)))
        (λ old.
        let parts = less_in key move.tid move.was pairs_before a (pairs_rise shows) old in
        let of = tuple_pair shows a parts.0 in
        let other : of.tid ≢ move.tid = λ same. parts.1 of.values (was_there of.values (ap (content tables.contents) (sym (same_tid_item of.tid same)) ∙ of.there)) (ap (λ (t : Tid). pair_with key t of.values) (sym same) ∙ of.is) in
        subst (λ (p : List ℕ). In p (byte_list (after_move move tables) image move.relation)) of.is (pair_there shows_after of.tid of.values (still_there of.tid other ∙ of.there)))
        (more_in key move.tid move.next pairs_less a is)

    list_moved : byte_list (after_move move tables) image move.relation ≡ moved_pairs key move.tid move.was move.next pairs_before
    list_moved = same_pairs _ _ (pairs_rise shows_after)
        (more_rises key move.tid move.next pairs_less (λ values next. not_among values) (less_rises key move.tid move.was pairs_before (pairs_rise shows)))
        to_moved from_moved

  -- ---- of an image of the relation whose tuple changes

  pub moved_list : (number : ℕ) (image : ImageEntry) → IsListedImage listing number image move.relation → image.relation ≡ move.number
      → byte_list (after_move move tables) image move.relation ≡ moved_pairs (key_of image move.relation) move.tid move.was move.next (byte_list tables image move.relation)
  moved_list number image at same = list_moved number image at

  pub holds_entry : (number : ℕ) (image : ImageEntry) → IsListedImage listing number image move.relation → image.relation ≡ move.number
      → HoldsEntry (key_of image move.relation) move.tid move.was (byte_list tables image move.relation)
  holds_entry number image at same = entry_held number image at

  -- ---- of an image of another relation

  pub kept_list : (number : ℕ) (image : ImageEntry) (relation : RelationEntry) → IsListedImage listing number image relation → (image.relation ≡ move.number → ⊥)
      → image_list (after_move move tables) (image_definition image relation) ≡ image_list tables (image_definition image relation)
  kept_list number image relation at other = entries_same tables.definitions relation.name (image_definition image relation).fields (after_move move tables).contents tables.contents (λ tid.
      put_other tables.contents (TupleItem move.relation.name move.tid) (TupleItem relation.name tid) (option_map Values move.next) (λ same. apart (same_parts relation.name move.relation.name tid move.tid same).0))
    where
      apart : relation.name ≢ move.relation.name
      apart same = other (can.fits.relations_once image.relation move.number relation.name (number_of listing image.relation relation at.within)
          (subst (λ (name : Name). IsNumberOf RelationKind listing name move.number) (sym same) (number_of listing move.number move.relation can.listed)))

  -- ---- as many pairs as tuples

  pub list_long : (number : ℕ) (image : ImageEntry) (relation : RelationEntry) → IsListedImage listing number image relation
      → length (image_list tables (image_definition image relation)) ≡ relation.live
  list_long number image relation at =
      entries_counted tables relation.name (image_definition image relation).fields (λ tid held there. let of = can.tuples relation.name tid held there in (of.values, of.tuple))
      ∙ can.counts image.relation relation at.within
