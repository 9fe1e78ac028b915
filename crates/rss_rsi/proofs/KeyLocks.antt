-- The locks of keys are those that the machine lists, and a look for a duplicate tells what it says.
use Rattle.std.proofs.Common.{◌≡◌, ℕ, ◌+◌, ◌≤◌, true, List, [], ◌∷◌, ◌++◌, refl, sym, ◌∙◌, ap, subst, arith, append_assoc, append-nil}
use Rattle.std.specs.Prelude.{Option, Some, None, IfSome, Result, Ok, Err, map, flat_map, option_map, option_to_list, if◌then◌else◌, Bool}
use Rattle.std.proofs.lemmas.Grind.{flat_map-append}
use Rattle.std.proofs.lemmas.List.{map-append}
use Rattle.rss_base.specs.DiskRule.{IsTold}
use Rattle.rss_base.specs.Listings.{Listing, IsNumberOf, image_at, relation_at}
use Rattle.rss_base.specs.TupleTypes.{kinds, Spells}
use Rattle.rss_base.specs.declared.answer.CallError.TheVariants.{Refused}
use Rattle.rss_base.specs.declared.call.Call.{Call}
use Rattle.rss_base.specs.declared.fault.PageFault.{PageFault}
use Rattle.rss_base.specs.declared.image.ImageEntry.{ImageEntry}
use Rattle.rss_base.specs.declared.item.Item.TheVariants.{Tuple as TupleItem, Key as KeyItem}
use Rattle.rss_base.specs.declared.name.Name.{Name}
use Rattle.rss_base.specs.declared.need.Mode.TheVariants.{X}
use Rattle.rss_base.specs.declared.need.Need.{Need}
use Rattle.rss_base.specs.declared.refusal.Kind.TheVariants.{Relation as RelationKind}
use Rattle.rss_base.specs.declared.refusal.Refusal.{Refusal}
use Rattle.rss_base.specs.declared.relation.RelationEntry.{RelationEntry}
use Rattle.rss_base.specs.declared.tid.Tid.{Tid}
use Rattle.rss_base.specs.declared.value.Value.{Value}
use Rattle.rss_catalog.specs.Catalogs.{CatalogView, IsSafeImage}
use Rattle.rss_model.specs.Callers.{caller}
use Rattle.rss_stored.specs.Calls.{IsCallOf}
use Rattle.rss_model.specs.Images.{unique_images}
use Rattle.rss_model.specs.Items.{Content, Values}
use Rattle.rss_model.specs.Locks.{granted}
use Rattle.rss_model.specs.Machine.{State, now}
use Rattle.rss_model.specs.Needs.{need, needs, changing, key_needs, keys_of_each, keys_where_live, tuple_read, tuple_changed}
use Rattle.rss_model.specs.Refusals.{if_duplicate}
use Rattle.rss_model.specs.ReplyText.{IsShort}
use Rattle.rss_model.specs.Steps.{keeps_locks, locked, refusal}
use Rattle.rss_stored.specs.Store.{IsListedImage}
use Rattle.rss_model.specs.Tables.{ImageDef, Tables, content}
use Rattle.rss_model.proofs.StepKeeping.{kept_fit}
use Rattle.rss_access.specs.Moved.{IsImageOf}
use Rattle.rss_access.proofs.Numbered.{entry_at, name_of}
use Rattle.rss_session.specs.Looks.{LooksOn}
use Rattle.rss_session.specs.Sessions.{SessionView}
use Rattle.rss_session.specs.Uniques.{IsNextUnique, FindsDuplicate, defined_image}
use Rattle.rss_session.proofs.NextUniques.{ArePassed, none_passed, one_more, all_passed, many_passed, few_unique, key_listed, narrow_key, of_relation}
use Rattle.rss_rsi.specs.Locking.{accessing, given, key_lock, putting, HasKey, MayBeOf, Lists, ListsAccess, ListsKeys}
use Rattle.rss_rsi.specs.Looking.{FindsAny}
use Rattle.rss_rsi.specs.Placing.{MayCost}
use Rattle.rss_rsi.specs.Views.{RssParts, IsIn, engine_view}
use Rattle.rss_rsi.specs.declared.locking.Access.{Access}
use Rattle.rss_rsi.specs.declared.locking.Access.TheVariants.{Read, Change}
use Rattle.rss_rsi.proofs.Claims.{locked_as}
use Rattle.rss_rsi.proofs.Looks.{goes_costly}
use Rattle.rss_rsi.proofs.Ways.{SameHeld, in_held, refused_behind}

-- ---- the keys of one image

module _ {parts : RssParts} {state : State} (is_in : IsIn parts state) {number : ℕ} {image : ImageEntry} {relation : RelationEntry} (at : IsListedImage parts.session.store.catalog.listing number image relation) where
  image_keys : (all : List (List Value)) → keys_of_each (now state) all (defined_image image relation) ≡ map (key_lock image) all
  image_keys [] = refl
  image_keys (values ∷ all) = λ i.
      need (KeyItem image.name (key_listed is_in.shows.store.spells.listed is_in.shows.store.spells.defines at values i)) X ∷ image_keys all i

-- ---- the keys of all images, as they are pushed

-- So many of the relation's images were passed, and their keys stand behind these needs.
pub record KeysPassed (tables : Tables) (relation : Name) (all : List (List Value)) (before list : List Need) (count : ℕ) (after : Option Name) : Type 0 where
  pub are : ArePassed (unique_images tables.definitions relation) count after
  pub keys : before ++ flat_map (keys_of_each tables all) are.passed ≡ list

pub record AllPassed (parts : RssParts) (number : ℕ) (all : List (List Value)) (before list : List Need) (count : ℕ) (after : Option Name) : Type 0 where
  pub each : IsTold parts.session.store.pages.disk → (state : State) → IsIn parts state → (relation : RelationEntry) → relation_at parts.session.store.catalog.listing number ≡ Some relation
      → KeysPassed (now state) relation.name all before list count after

pub keys_begun : (parts : RssParts) (number : ℕ) (all : List (List Value)) (before : List Need) → AllPassed parts number all before before 0 None
keys_begun parts number all before = record { each = λ told state is_in relation at. record { are = none_passed (unique_images (now state).definitions relation.name); keys = append-nil before } }

flat_behind : {A B : Type 0} (f : A → List B) (xs : List A) (x : A) → flat_map f (xs ++ x ∷ []) ≡ flat_map f xs ++ f x
flat_behind f xs x = flat_map-append f xs (x ∷ []) ∙ ap (λ (l : List _). flat_map f xs ++ l) (append-nil (f x))

-- one more image was passed
pub keys_more : {parts : RssParts} {number count : ℕ} (was to : Option (List Value)) {before list middle longer : List Need} {after : Option Name} (found : ℕ) {image : ImageEntry} → AllPassed parts number (given was to) before list count after → IsNextUnique parts.session.store.catalog.listing number after (Some found)
    → image_at parts.session.store.catalog.listing found ≡ Some image → IsImageOf parts.session.store.catalog.listing found number
    → middle ≡ list ++ map (key_lock image) (option_to_list was) → longer ≡ middle ++ map (key_lock image) (option_to_list to) → AllPassed parts number (given was to) before longer (count + 1) (Some image.name)
keys_more {parts = parts} {number = number} was to {before = before} {list = list} found {image = image} passed next here of first second = record {
  each = λ told state is_in relation at.
      let all = given was to in
      let had = passed.each told state is_in relation at in
      let spells = is_in.shows.store.spells in
      let its : image.relation ≡ number = of_relation here of in
      let led = next (now state).definitions relation spells.listed spells.defines at had.are.passed had.are.left had.are.split had.are.ends in
      let more = one_more had.are led here its at in
      let listed : IsListedImage parts.session.store.catalog.listing found image relation = record { at = here; within = ap (relation_at parts.session.store.catalog.listing) its ∙ at } in
      let f = keys_of_each (now state) all in
      record {
        are = more.are;
        keys = ap (λ (l : List (Name × ImageDef)). before ++ flat_map f l) more.more
            ∙ ap (λ (l : List Need). before ++ l) (flat_behind f had.are.passed (defined_image image relation))
            ∙ sym (append_assoc before (flat_map f had.are.passed) (f (defined_image image relation)))
            ∙ (λ i. had.keys i ++ image_keys is_in listed all i)
            ∙ ap (λ (l : List Need). list ++ l) (map-append (key_lock image) (option_to_list was) (option_to_list to))
            ∙ sym (append_assoc list (map (key_lock image) (option_to_list was)) (map (key_lock image) (option_to_list to)))
            ∙ sym (second ∙ ap (λ (l : List Need). l ++ map (key_lock image) (option_to_list to)) first);
      };
}

-- none is left
keys_done : {tables : Tables} {relation : Name} {all : List (List Value)} {before list : List Need} {count : ℕ} {after : Option Name} (passed : KeysPassed tables relation all before list count after) → passed.are.left ≡ [] → before ++ key_needs tables relation all ≡ list
keys_done {tables = tables} {all = all} {before = before} passed none = ap (λ (l : List (Name × ImageDef)). before ++ flat_map (keys_of_each tables all) l) (sym (all_passed passed.are none)) ∙ passed.keys

pub keys_ended : {parts : RssParts} {number count : ℕ} {all : List (List Value)} {before list : List Need} {after : Option Name} → AllPassed parts number all before list count after → IsNextUnique parts.session.store.catalog.listing number after None → ListsKeys parts number all before list
keys_ended passed next told state is_in relation at =
    let had = passed.each told state is_in relation at in
    let spells = is_in.shows.store.spells in
    keys_done had (next (now state).definitions relation spells.listed spells.defines at had.are.passed had.are.left had.are.split had.are.ends)

pub keys_all : {parts : RssParts} {number count : ℕ} {all : List (List Value)} {before list : List Need} {after : Option Name} → 128 ≤ count → AllPassed parts number all before list count after → ListsKeys parts number all before list
keys_all many passed told state is_in relation at =
    let had = passed.each told state is_in relation at in
    keys_done had (many_passed had.are (omega (arith, many, few_unique (now state) (kept_fit state is_in.kept).1 relation.name)))

-- a tuple of the relation has a key in each of its images
pub has_key : (listing : Listing) (number : ℕ) {image : ImageEntry} {values : List Value} → MayBeOf listing number values → IsSafeImage listing image → image.relation ≡ number → HasKey image values
has_key listing number may safe of = record {
  fields = safe.relation.fields;
  fit = may.fit safe.relation (ap (relation_at listing) (sym of) ∙ safe.listed);
  storable = may.storable;
  within = safe.within;
  narrow = narrow_key safe;
  few = safe.few;
}

pub have_key : (listing : Listing) (number : ℕ) {image : ImageEntry} (values : Option (List Value)) → IfSome values (MayBeOf listing number) → IsSafeImage listing image → image.relation ≡ number → IfSome values (HasKey image)
have_key listing number None may safe of = tt
have_key listing number (Some values) may safe of = has_key listing number may safe of

-- ---- the needs of tuples

-- the lock of a tuple behind others
pub tuple_pushed : (parts : RssParts) (wanted : Tables → List Need) (before after : List Need) (one last : Need) → Lists parts wanted before → after ≡ before ++ one ∷ [] → one ≡ last → Lists parts (λ tables. wanted tables ++ last ∷ []) after
tuple_pushed parts wanted before after one last lists is one_is told state is_in = (λ i. lists told state is_in i ++ sym one_is i ∷ []) ∙ sym is

module _ (parts : RssParts) (relation : Name) (tid : Tid) (new : List (List Value)) where
  -- a tuple is read
  pub reads_access : (found : Option (List Value)) {list : List Need} → Lists parts (λ tables. tuple_read tables relation tid) list → ListsAccess parts Read relation tid found new list
  reads_access found lists told state is_in holds = lists told state is_in

  -- one that isn't there has no keys
  pub misses_access : {list : List Need} → Lists parts (λ tables. tuple_changed tables relation tid) list → ListsAccess parts Change relation tid None new list
  misses_access lists told state is_in holds =
      ap (λ (held : Option Content). tuple_changed (now state) relation tid ++ keys_where_live (now state) relation held new) holds
      ∙ append-nil (tuple_changed (now state) relation tid) ∙ lists told state is_in

-- and one that is there has those of its values, and of the new ones
pub changes_access : (parts : RssParts) (relation : Name) (tid : Tid) (number : ℕ) (was : List Value) (to : Option (List Value)) (before list : List Need) → IsNumberOf RelationKind parts.session.store.catalog.listing relation number
    → Lists parts (λ tables. tuple_changed tables relation tid) before → ListsKeys parts number (given (Some was) to) before list → ListsAccess parts Change relation tid (Some was) (option_to_list to) list
changes_access parts relation tid number was to before list known lists keys told state is_in holds =
    let has = entry_at parts.session.store.catalog.listing relation number known in
    let new : List (List Value) = option_to_list to in
    ap (λ (held : Option Content). tuple_changed (now state) relation tid ++ keys_where_live (now state) relation held new) holds
    ∙ (λ i. lists told state is_in i ++ key_needs (now state) (sym has.named i) (was ∷ new))
    ∙ keys told state is_in has.entry has.at

-- a new one has those of its values
pub puts_access : (parts : RssParts) (relation : Name) (tid : Tid) (number : ℕ) (values : List Value) (before middle list : List Need) (one : Need) → IsNumberOf RelationKind parts.session.store.catalog.listing relation number
    → Lists parts (λ tables. changing tables relation) before → ListsKeys parts number (given None (Some values)) before middle → list ≡ middle ++ one ∷ [] → one ≡ need (TupleItem relation tid) X → Lists parts (λ tables. putting tables relation tid values) list
puts_access parts relation tid number values before middle list one known lists keys is one_is =
    let has = entry_at parts.session.store.catalog.listing relation number known in
    tuple_pushed parts (λ tables. changing tables relation ++ key_needs tables relation (values ∷ [])) middle list one (need (TupleItem relation tid) X) (λ told state is_in. (λ i. lists told state is_in i ++ key_needs (now state) (sym has.named i) (values ∷ [])) ∙ keys told state is_in has.entry has.at) is one_is

-- ---- what was found before the needs

-- the values of the tuple, if it is there
pub holds_found : (old : RssParts) (number : ℕ) (relation : Name) (tid : Tid) (found : Option (List Value)) → IsNumberOf RelationKind old.session.store.catalog.listing relation number → FindsAny old number tid found
    → IsTold old.session.store.pages.disk → (state : State) → IsIn old state → content (now state).contents (TupleItem relation tid) ≡ option_map Values found
holds_found old number relation tid None known finds told state is_in = finds relation known told state is_in
holds_found old number relation tid (Some values) known finds told state is_in = (finds relation known).has told state is_in

pub may_be_found : (old : RssParts) {catalog : CatalogView} (number : ℕ) (relation : Name) (tid : Tid) (found : Option (List Value)) → IsNumberOf RelationKind old.session.store.catalog.listing relation number → FindsAny old number tid found → catalog ≡ old.session.store.catalog → IfSome found (MayBeOf catalog.listing number)
may_be_found old number relation tid None known finds same = tt
may_be_found old number relation tid (Some values) known finds same =
    subst (λ (c : CatalogView). MayBeOf c.listing number values) (sym same) (record { fit = (finds relation known).fit; storable = (finds relation known).storable })

pub may_be_still : {catalog later : CatalogView} (number : ℕ) (values : Option (List Value)) → later ≡ catalog → IfSome values (MayBeOf catalog.listing number) → IfSome values (MayBeOf later.listing number)
may_be_still number values same may = subst (λ (c : CatalogView). IfSome values (MayBeOf c.listing number)) (sym same) may

-- the needs are the same before the look
pub access_before : (old mid : RssParts) {T : Type 0} {looked : Result T PageFault} (access : Access) (number : ℕ) (relation : Name) (tid : Tid) (found : Option (List Value)) (new : List (List Value)) {list : List Need} → IsNumberOf RelationKind old.session.store.catalog.listing relation number
    → LooksOn old.session mid.session looked → SameHeld old mid → FindsAny old number tid found → ListsAccess mid access relation tid found new list → Lists old (λ tables. accessing tables access relation tid new) list
access_before old mid access number relation tid found new known looks held finds lists told state is_in =
    lists (looks.goes.told.0 told) state (in_held held (looks.shows told state is_in.shows) is_in) (holds_found old number relation tid found known finds told state is_in)

-- ---- duplicates

-- what was found behind looks is so in the states from before them
pub duplicate_said : (first : RssParts) {mid : SessionView} {T : Type 0} {looked : T} (looks : LooksOn first.session mid (Ok looked)) (relation : Name) (number : ℕ) {entry : RelationEntry} → IsNumberOf RelationKind first.session.store.catalog.listing relation number → relation_at first.session.store.catalog.listing number ≡ Some entry
    → (bytes : List ℕ) {values : List Value} → Spells (kinds entry.fields) bytes values → (own : Option Tid) {found : Option Refusal} → FindsDuplicate mid number bytes own found
    → IsTold first.session.store.pages.disk → (state : State) → IsIn first state → if_duplicate state relation own values ≡ found
duplicate_said first looks relation number {entry = entry} known at bytes {values = values} spelled own finds told state is_in =
    ap (λ (name : Name). if_duplicate state name own values) (sym (name_of first.session.store.catalog.listing relation number entry known at))
    ∙ sym (finds (looks.goes.told.0 told) state is_in.kept (looks.shows told state is_in.shows) entry (ap (λ (c : CatalogView). relation_at c.listing number) looks.catalog ∙ at) values spelled)

-- A call is refused so behind looks, and keeps the locks of its list.
pub refused_keeping : (first new : RssParts) {T : Type 0} {looked : T} → LooksOn first.session new.session (Ok looked) → {n m : ℕ} → m ≡ n + 1 → {up up_now : Type 0} → up → up_now → {call : Call} → MayCost call → {t : ℕ} → caller call ≡ Some t
    → {why : Refusal} → IsShort (Err why) → keeps_locks why ≡ true → {list : List Need} → new.locks.locks ≡ granted t list first.locks.locks → new.scans ≡ first.scans
    → (IsTold first.session.store.pages.disk → (state : State) → IsIn first state → (needs (now state) call ≡ list) × (refusal state call ≡ Some why))
    → IsCallOf (engine_view first n up) (engine_view new m up_now) call (Err (Refused why))
refused_keeping first new looks calls was_up is_up {call = call} may {t = t} by {why = why} short kept taken scans so =
    refused_behind (Err (Refused why)) refl was_up is_up short (goes_costly first new looks calls may) looks.moments scans (λ told state is_in.
    let is = so told state is_in in (
      is.1,
      looks.shows told state is_in.shows,
      ap (λ (keeps : Bool). (if keeps then locked call state else state).locks) kept ∙ locked_as is_in call is.0 t by ∙ sym taken,
    ))
