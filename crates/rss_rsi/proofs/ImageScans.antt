-- What a scan of an image finds next.
use Rattle.std.proofs.Common.{◌≡◌, ℕ, ◌+◌, ◌*◌, ◌≤◌, Bool, true, false, List, [], length, refl, sym, ◌∙◌, ap, subst, arith, inl, inr}
use Rattle.std.specs.Prelude.{Option, Some, None, is_some, option_map, unwrap_or, IfSome, Ok}
use Rattle.std.specs.FinMap as map
use Rattle.std.proofs.lemmas.Bool.{cases_lt}
use Rattle.std.proofs.lemmas.List.{length-replicate}
use Rattle.std.proofs.lemmas.Option.{none-some, same_Some}
use Rattle.rss_base.specs.DiskRule.{IsTold}
use Rattle.rss_base.specs.Listings.{Listing, IsNumberOf, IsUnlisted, image_at, relation_at}
use Rattle.rss_base.specs.Runs.{run_pages}
use Rattle.rss_base.specs.Steps.{PagesView}
use Rattle.rss_base.specs.TupleTypes.{kinds, key_bytes}
use Rattle.rss_base.specs.declared.answer.Reply.TheVariants.{Row}
use Rattle.rss_base.specs.declared.image.ImageEntry.{ImageEntry}
use Rattle.rss_base.specs.declared.name.Name.{Name}
use Rattle.rss_base.specs.declared.need.Need.{Need}
use Rattle.rss_base.specs.declared.need.Mode.TheVariants.{IS, S}
use Rattle.rss_base.specs.declared.refusal.Kind.TheVariants.{Image as ImageKind}
use Rattle.rss_base.specs.declared.relation.RelationEntry.{RelationEntry}
use Rattle.rss_base.specs.declared.tid.Tid.{Tid}
use Rattle.rss_base.specs.declared.value.FieldForm.{FieldForm}
use Rattle.rss_base.specs.declared.value.Value.{Value}
use Rattle.rss_base.specs.declared.item.Item.TheVariants.{Tuple as TupleItem}
use Rattle.rss_model.specs.Images.{Entry, entry, image_list, next_entry}
use Rattle.rss_model.specs.Items.{Values}
use Rattle.rss_model.specs.Machine.{State, now}
use Rattle.rss_model.specs.Needs.{image_scan_needs, relation_needs}
use Rattle.rss_model.specs.ReplyText.{IsShort}
use Rattle.rss_model.specs.Refusals.{unless_in_chain}
use Rattle.rss_model.specs.Scans.{RelationPath, ImagePath, LinkPath, list_of_image, next_along, next_of_scan, path_relation}
use Rattle.rss_model.specs.Scans.{Path as MachinePath, Scan as MachineScan}
use Rattle.rss_stored.specs.Store.{IsListedImage, image_definition}
use Rattle.rss_model.specs.Tables.{ImageDef, Definitions, content}
use Rattle.rss_model.proofs.Mixing.{In}
use Rattle.rss_model.proofs.RelationLists.{next_in}
use Rattle.rss_access.specs.Bodies.{IsBodyOf}
use Rattle.rss_catalog.specs.Catalogs.{CatalogView, HasNoLesser}
use Rattle.rss_entries.specs.Seeking.{kinds_in, IsKeyIn, IsEntryIn, start_bytes, kept_pair}
use Rattle.rss_entries.specs.Rooms.{width_of}
use Rattle.rss_entries.proofs.Entries.{length-key}
use Rattle.rss_entries.proofs.Lists.{kinds_listed}
use Rattle.rss_entries.proofs.Nexts.{next_fits}
use Rattle.rss_entries.proofs.Shown.{tuple_of}
use Rattle.rss_entries.proofs.Shown.{Shows as ShowsImage}
use Rattle.rss_scan.specs.Scans.{OpenScans, begun, cursor_of, given}
use Rattle.rss_scan.specs.declared.cursor.Cursor.{Cursor}
use Rattle.rss_scan.specs.declared.cursor.Path.{Path}
use Rattle.rss_scan.specs.declared.cursor.Scan.{Scan}
use Rattle.rss_scan.specs.declared.cursor.Path.TheVariants.{Relation, Image, Link}
use Rattle.rss_session.specs.Imaging.{FindsNextEntry, IsKeyLong, StartsAt}
use Rattle.rss_session.specs.Looks.{CostsNothing, FindsTuple, HasTuple, LooksOn}
use Rattle.rss_session.specs.Looks.{IsRelationIn as IsListedIn}
use Rattle.rss_session.specs.Parts.{view as session_view}
use Rattle.rss_session.specs.Sessions.{SessionView, IsReady}
use Rattle.rss_lock.specs.declared.locks.Locks.{Locks as LockTable}
use Rattle.rss_session.specs.declared.session.Session.{Session}
use Rattle.rss_session.specs.Shown.{Shows}
use Rattle.rss_session.proofs.Behind.{nothing_itself}
use Rattle.rss_session.proofs.ImagesShown.{image_shown}
use Rattle.rss_session.proofs.Starts.{image_entry}
use Rattle.rss_rsi.specs.Locking.{Lists}
use Rattle.rss_rsi.specs.Scanning.{CostsLevels, FindsNext, FindsNextRow, GivesSpelled, GoesAlongImage, IsScanIn}
use Rattle.rss_rsi.specs.Views.{RssParts, HasKeys, IsKey, IsPair, IsIn, IsLongFor, AreLong, kinds_by, kinds_of, start_spelled, pair_spelled, spelling}
use Rattle.rss_rsi.proofs.Scans.{keys_in, spelled_in}
use Rattle.rss_rsi.proofs.Ways.{ScanTable, rss_parts}

-- ---- how long keys are

-- as long as those of the first image of the name
pub long_first : (listing : Listing) (image : Name) (number : ℕ) (key : List ℕ) → IsNumberOf ImageKind listing image number → HasNoLesser ImageKind listing image number → IsKeyLong listing number key → IsLongFor listing image key
long_first listing image number key named first long other named_too first_too = subst (λ (n : ℕ). IsKeyLong listing n key) same long
  where
    same : number ≡ other
    same = elim (cases_lt number other) [
      | inl low ↦ absurd (first_too number low named)
      | inr high ↦ elim (cases_lt other number) [
        | inl low ↦ absurd (first other low named_too)
        | inr low ↦ omega (arith, high, low)
      ]
    ]

-- ---- the machine's scan of a cursor

-- what gives the cursor along an image goes along it, from such a key on, and gave this last
pub record GoesIn (definitions : Definitions) (path : MachinePath) (last : Option Entry) (image : Name) (start : List ℕ) (given : Option (List ℕ × Tid)) : Type 0 where
  pub from : Option (List Value)
  pub along : path ≡ ImagePath image from
  pub starts : start ≡ start_spelled (kinds_of definitions image) from
  pub gave : given ≡ option_map (pair_spelled (kinds_of definitions image)) last
  pub start_fits : IfSome from (IsKey (kinds_of definitions image))
  pub last_fits : IfSome last (IsPair (kinds_of definitions image))

goes_in : (definitions : Definitions) (path : MachinePath) (last : Option Entry) {cursor : Cursor} (image : Name) (start : List ℕ) → spelling definitions path last ≡ cursor → HasKeys definitions path last → cursor.path ≡ Image image start → GoesIn definitions path last image start cursor.last
goes_in definitions (RelationPath relation) last image start is keys at =
    let same : Relation relation ≡ Image image start = ap (λ (c : Cursor). c.path) is ∙ at in absurd (cc (same))
goes_in definitions (ImagePath name from) last {cursor = cursor} image start is keys at =
    let same : Image name (start_spelled (kinds_of definitions name) from) ≡ Image image start = ap (λ (c : Cursor). c.path) is ∙ at in
    let one : name ≡ image = cc (same) in
    let bytes : start_spelled (kinds_of definitions name) from ≡ start = cc (same) in
    record {
      from = from;
      along = ap (λ (n : Name). ImagePath n from) one;
      starts = sym bytes ∙ ap (λ (n : Name). start_spelled (kinds_of definitions n) from) one;
      gave = ap (λ (c : Cursor). c.last) (sym is) ∙ ap (λ (n : Name). option_map (pair_spelled (kinds_of definitions n)) last) one;
      start_fits = subst (λ (n : Name). IfSome from (IsKey (kinds_of definitions n))) one keys.0;
      last_fits = subst (λ (n : Name). IfSome last (IsPair (kinds_of definitions n))) one keys.1;
    }
goes_in definitions (LinkPath link parent) last image start is keys at =
    let same : Link link parent ≡ Image image start = ap (λ (c : Cursor). c.path) is ∙ at in absurd (cc (same))

-- ---- keys of an image's fields

start_same : (image : ImageEntry) (relation : RelationEntry) (from : Option (List Value)) → start_spelled (kinds_in image relation) from ≡ start_bytes image relation from
start_same image relation None = refl
start_same image relation (Some key) = refl

keys_fit : {fields : List FieldForm} (image : ImageEntry) (relation : RelationEntry) → fields ≡ kinds_in image relation → (from : Option (List Value)) → IfSome from (IsKey fields) → IfSome from (IsKeyIn image relation)
keys_fit image relation same None fit = tt
keys_fit image relation same (Some key) fit =
    let its = subst (λ (f : List FieldForm). IsKey f key) same fit in record { fit = its.fit; storable = its.storable }

entries_fit : {fields : List FieldForm} (image : ImageEntry) (relation : RelationEntry) → fields ≡ kinds_in image relation → (last : Option Entry) → IfSome last (IsPair fields) → IfSome last (IsEntryIn image relation)
entries_fit image relation same None fit = tt
entries_fit image relation same (Some given) fit =
    let its = subst (λ (f : List FieldForm). IsPair f given) same fit in record { key = record { fit = its.key.fit; storable = its.key.storable }; tid = its.tid }

pair_fits : {fields : List FieldForm} (image : ImageEntry) (relation : RelationEntry) → fields ≡ kinds_in image relation → (given : Entry) → IsEntryIn image relation given → IsPair fields given
pair_fits image relation same given fit = subst (λ (f : List FieldForm). IsPair f given) (sym same) (record { key = record { fit = fit.key.fit; storable = fit.key.storable }; tid = fit.tid })

keys_back : {fields : List FieldForm} (image : ImageEntry) (relation : RelationEntry) → fields ≡ kinds_in image relation → (from : Option (List Value)) → IfSome from (IsKeyIn image relation) → IfSome from (IsKey fields)
keys_back image relation same None fit = tt
keys_back image relation same (Some key) fit = subst (λ (f : List FieldForm). IsKey f key) (sym same) (record { fit = fit.fit; storable = fit.storable })

-- what is listed is defined
image_is : {session : SessionView} {state : State} {number : ℕ} {listed : ImageEntry} {relation : RelationEntry} (image : Name) → Shows session state → IsListedImage session.store.catalog.listing number listed relation → listed.name ≡ image → map.get state.base.definitions.images image ≡ Some (image_definition listed relation)
image_is {state = state} {number = number} {listed = listed} {relation = relation} image shows is named = ap (map.get state.base.definitions.images) (sym named) ∙ shows.store.spells.defines.paths.images number listed relation is

-- so an image of its name is
pub image_defined : {parts : RssParts} {state : State} (image : Name) (number : ℕ) → IsIn parts state → IsNumberOf ImageKind parts.session.store.catalog.listing image number → is_some (map.get state.base.definitions.images image) ≡ true
image_defined {parts = parts} image number is_in numbered_so =
    let here = image_entry parts.session.store.catalog.listing image number numbered_so in
    let fits = is_in.shows.store.spells.listed.paths.images number here.entry here.at in
    ap is_some (image_is image is_in.shows (record { at = here.at; within = fits.listed }) here.named)

-- its relation is listed still behind a look
still_listed : {session mid : SessionView} {T : Type 0} {first : T} {number : ℕ} {listed : ImageEntry} {relation : RelationEntry} → IsListedImage session.store.catalog.listing number listed relation → LooksOn session mid (Ok first) → IsListedIn mid relation.segment listed.relation relation
still_listed {listed = listed} is looks = record { at = ap (λ (c : CatalogView). relation_at c.listing listed.relation) looks.catalog ∙ is.within; within = refl }

none_of : {A : Type 0} (o : Option A) → (is_some o ≡ true → ⊥) → o ≡ None
none_of None not = refl
none_of (Some a) not = absurd (not refl)

none_in : (from : Option (List Value)) (last : Option Entry) → next_entry from last [] ≡ None
none_in None None = refl
none_in (Some key) None = refl
none_in None (Some last) = refl
none_in (Some key) (Some last) = refl

got_one : {A B : Type 0} (f : A → B) (o : Option A) (b : B) → Some b ≡ option_map f o → (a : A) × (o ≡ Some a) × (f a ≡ b)
got_one f None b is = absurd (none-some _ (sym is))
got_one f (Some a) b is = (a, refl, sym (same_Some _ _ is))

got_none : {A B : Type 0} (f : A → B) (o : Option A) → None ≡ option_map f o → o ≡ None
got_none f None is = refl
got_none f (Some a) is = absurd (none-some _ is)

-- ---- where it starts, and what it needs

image_kinds : {session : SessionView} {state : State} {number : ℕ} {listed : ImageEntry} {relation : RelationEntry} (image : Name) → Shows session state → IsListedImage session.store.catalog.listing number listed relation → listed.name ≡ image → kinds_of state.base.definitions image ≡ kinds_in listed relation
image_kinds {state = state} image shows is named =
    ap (kinds_by state.base.definitions) (image_is image shows is named) ∙ kinds_listed (now state) shows.store.spells.listed shows.store.spells.defines is

pub image_starts : {parts : RssParts} {state : State} (t : ℕ) (image : Name) (number : ℕ) (from : Option (List Value)) (start : List ℕ) → IsIn parts state → IsNumberOf ImageKind parts.session.store.catalog.listing image number → StartsAt parts.session.store.catalog.listing number from start
    → (spelling state.base.definitions (ImagePath image from) None ≡ (begun t (Image image start)).cursor) × HasKeys state.base.definitions (ImagePath image from) None
image_starts {parts = parts} {state = state} t image number from start is_in numbered_so starts =
    let here = image_entry parts.session.store.catalog.listing image number numbered_so in
    let fits = is_in.shows.store.spells.listed.paths.images number here.entry here.at in
    let its = starts here.entry fits.relation (record { at = here.at; within = fits.listed }) in
    let same = image_kinds image is_in.shows (record { at = here.at; within = fits.listed }) here.named in
    let bytes : start_spelled (kinds_of state.base.definitions image) from ≡ start = ap (λ (f : List FieldForm). start_spelled f from) same ∙ start_same here.entry fits.relation from ∙ sym its.made in
    (λ i. record { path = Image image (bytes i); last = None }, (keys_back here.entry fits.relation same from its.fit, tt))

-- the bytes that it starts at are as long as its keys
pub start_long : {listing : Listing} {number : ℕ} (from : Option (List Value)) (start : List ℕ) → StartsAt listing number from start → IsKeyLong listing number start
start_long from start starts image relation listed =
    let its = starts image relation listed in
    ap (λ (bytes : List ℕ). length bytes) its.made ∙ by from its.fit
  where
    by : (from : Option (List Value)) → IfSome from (IsKeyIn image relation) → length (start_bytes image relation from) ≡ width_of image relation
    by None fit = length-replicate (width_of image relation) 0
    by (Some key) fit = length-key (kinds_in image relation) key _ (record { fit = fit.fit; storable = fit.storable; same = refl })

-- its relation is read
pub image_lists : {parts : RssParts} {number : ℕ} {listed : ImageEntry} {relation : RelationEntry} {list : List Need} → IsListedImage parts.session.store.catalog.listing number listed relation → Lists parts (λ tables. relation_needs tables relation.name IS S) list
    → (image : Name) → IsNumberOf ImageKind parts.session.store.catalog.listing image number → Lists parts (λ tables. image_scan_needs tables (map.get tables.definitions.images image)) list
image_lists {parts = parts} {number = number} {listed = listed} is lists image numbered_so told state is_in =
    let here = image_entry parts.session.store.catalog.listing image number numbered_so in
    let named : listed.name ≡ image = ap (λ (e : ImageEntry). e.name) (same_Some _ _ (sym is.at ∙ here.at)) ∙ here.named in
    ap (image_scan_needs (now state)) (image_is image is_in.shows is named) ∙ lists told state is_in

-- ---- what it costs

-- nothing
pub costs_nothing : (old new : RssParts) (t scan : ℕ) → new.session.store.pages.asks ≡ old.session.store.pages.asks → new.session.store.pages.writes ≡ old.session.store.pages.writes → CostsLevels old new t scan
costs_nothing old new t scan asks writes cursor image start most there along levels = (omega (arith, asks), omega (arith, writes))

-- a page a level and one more for the entry, and two for its tuple
pub costs_levels : (old new : RssParts) (t scan number : ℕ) {listed : ImageEntry} → GoesAlongImage old t scan number → image_at old.session.store.catalog.listing number ≡ Some listed
    → new.session.store.pages.asks ≤ old.session.store.pages.asks + (listed.levels + 1) + 2 → new.session.store.pages.writes ≤ old.session.store.pages.writes + run_pages * (listed.levels + 1) + run_pages * 2 → CostsLevels old new t scan
costs_levels old new t scan number {listed = listed} goes at asks writes cursor image start most there along levels =
    let one : Image goes.image goes.start ≡ Image image start = sym goes.along ∙ ap (λ (c : Cursor). c.path) (same_Some _ _ (sym goes.there ∙ there)) ∙ along in
    let same : goes.image ≡ image = cc (one) in
    let here = image_entry old.session.store.catalog.listing goes.image number goes.named in
    let named : listed.name ≡ image = ap (λ (e : ImageEntry). e.name) (same_Some _ _ (sym at ∙ here.at)) ∙ here.named ∙ same in
    let few = levels number listed at named in
    (omega (arith, asks, few), omega (arith, writes, few))

-- ---- what comes next

module _ {parts : RssParts} {t number : ℕ} {cursor : Cursor} (has : cursor_of parts.scans t number ≡ Some cursor) (image : Name) (start : List ℕ) (at : cursor.path ≡ Image image start) where
  its_way : {state : State} {scan : MachineScan} → IsScanIn parts t number state scan → GoesIn state.base.definitions scan.path scan.last image start cursor.last
  its_way {state = state} {scan = scan} in_it = goes_in state.base.definitions scan.path scan.last image start (spelled_in in_it has) (keys_in in_it) at

  next_is : {state : State} {scan : MachineScan} (in_it : IsScanIn parts t number state scan) → next_of_scan (now state) scan ≡ next_entry (its_way in_it).from scan.last (list_of_image (now state) image)
  next_is {state = state} {scan = scan} in_it = let way = its_way in_it in ap (λ (path : MachinePath). next_along (now state) path scan.last) way.along

  -- it loses no place
  stays_in : {state : State} {scan : MachineScan} → IsScanIn parts t number state scan → unless_in_chain state scan.path scan.last ≡ None
  stays_in {state = state} {scan = scan} in_it = let way = its_way in_it in ap (λ (path : MachinePath). unless_in_chain state path scan.last) way.along

  -- an image that isn't listed has no entries
  pub none_listed : IsUnlisted ImageKind parts.session.store.catalog.listing image → FindsNext parts t number None
  none_listed unlisted state scan in_it =
      let none : map.get state.base.definitions.images image ≡ None = none_of (map.get state.base.definitions.images image) (λ there.
      let listed = in_it.is_in.shows.store.spells.defines.paths.only_images image there in unlisted listed.0 listed.1) in (
        stays_in in_it,
        next_is in_it
            ∙ ap (λ (o : Option ImageDef). next_entry (its_way in_it).from scan.last (unwrap_or (option_map (image_list (now state)) o) [])) none
            ∙ none_in (its_way in_it).from scan.last,
      )

  module _ (place : ℕ) {listed : ImageEntry} {relation : RelationEntry} (is : IsListedImage parts.session.store.catalog.listing place listed relation) (named : listed.name ≡ image) (ready : IsReady parts.session) where
    module _ {state : State} {scan : MachineScan} (in_it : IsScanIn parts t number state scan) where
      abbrev entries : List Entry
      entries = image_list (now state) (image_definition listed relation)

      defined_so : map.get state.base.definitions.images image ≡ Some (image_definition listed relation)
      defined_so = image_is image in_it.is_in.shows is named

      kinds_same : kinds_of state.base.definitions image ≡ kinds_in listed relation
      kinds_same = image_kinds image in_it.is_in.shows is named

      shown : ShowsImage (now state) listed relation
      shown = image_shown ready in_it.is_in.kept in_it.is_in.shows is

      listed_next : next_of_scan (now state) scan ≡ next_entry (its_way in_it).from scan.last entries
      listed_next =
          next_is in_it
          ∙ ap (λ (o : Option ImageDef). next_entry (its_way in_it).from scan.last (unwrap_or (option_map (image_list (now state)) o) [])) defined_so

      -- the pair that is found is that of what the scan gives
      found_next : {found : Option (List ℕ × Tid)} → FindsNextEntry parts.session place start cursor.last found → found ≡ option_map (kept_pair listed relation) (next_of_scan (now state) scan)
      found_next finds =
          let way = its_way in_it in
          finds in_it.told state in_it.is_in.kept in_it.is_in.shows listed relation is way.from (keys_fit listed relation kinds_same way.from way.start_fits)
          (way.starts ∙ ap (λ (f : List FieldForm). start_spelled f way.from) kinds_same ∙ start_same listed relation way.from)
          scan.last (entries_fit listed relation kinds_same scan.last way.last_fits)
          (way.gave ∙ ap (λ (f : List FieldForm). option_map (pair_spelled f) scan.last) kinds_same)
          ∙ ap (option_map (kept_pair listed relation)) (sym listed_next)

      -- ---- a pair was found

      module _ {key : List ℕ} {tid : Tid} (finds : FindsNextEntry parts.session place start cursor.last (Some (key, tid))) where
        got : (given : Entry) × (next_of_scan (now state) scan ≡ Some given) × (kept_pair listed relation given ≡ (key, tid))
        got = got_one (kept_pair listed relation) (next_of_scan (now state) scan) (key, tid) (found_next finds)

        given_in : In got.0 entries
        given_in = next_in (its_way in_it).from scan.last entries got.0 (sym listed_next ∙ got.1)

        given_fits : IsEntryIn listed relation got.0
        given_fits = subst (λ (o : Option Entry). IfSome o (IsEntryIn listed relation)) (sym listed_next ∙ got.1) (next_fits shown (its_way in_it).from scan.last)

        tid_same : got.0.tid ≡ tid
        tid_same = ap (λ (pair : List ℕ × Tid). pair.1) got.2

        key_same : key_bytes (kinds_of state.base.definitions image) got.0.key ≡ key
        key_same = ap (λ (f : List FieldForm). key_bytes f got.0.key) kinds_same ∙ ap (λ (pair : List ℕ × Tid). pair.0) got.2

        -- its tuple is there
        pub tuple_there : (values : List Value) × (content (now state).contents (TupleItem relation.name tid) ≡ Some (Values values))
        tuple_there =
            let of = tuple_of shown got.0 given_in in
            let same : of.tid ≡ tid = ap (λ (e : Entry). e.tid) of.is ∙ tid_same in
            (of.values, ap (λ (i : Tid). content (now state).contents (TupleItem relation.name i)) (sym same) ∙ of.there)

        -- and has these values
        pub gives_spelled : (values : List Value) → content (now state).contents (TupleItem relation.name tid) ≡ Some (Values values) → GivesSpelled state scan key tid values
        gives_spelled values there =
            let way = its_way in_it in record {
              given = got.0.key;
              stays = stays_in in_it;
              next = got.1 ∙ ap (λ (i : Tid). Some (entry got.0.key i)) tid_same;
              spelled = subst (λ (path : MachinePath). spelling state.base.definitions path (Some (entry got.0.key tid)) ≡ record (spelling state.base.definitions path scan.last) { last = Some (key, tid) }) (sym way.along)
                  (λ i. record { path = Image image (start_spelled (kinds_of state.base.definitions image) way.from); last = Some (key_same i, tid) });
              keys = subst (λ (path : MachinePath). HasKeys state.base.definitions path (Some (entry got.0.key tid))) (sym way.along)
                  (way.start_fits, subst (λ (i : Tid). IsPair (kinds_of state.base.definitions image) (entry got.0.key i)) tid_same (pair_fits listed relation kinds_same got.0 given_fits));
              relation = relation.name;
              along = ap (path_relation state.base) way.along ∙ ap (option_map (λ (d : ImageDef). d.relation)) defined_so;
              has = there;
            }

    -- ---- a pair comes next, and pages were looked at for its tuple

    module _ {key : List ℕ} {tid : Tid} (finds : FindsNextEntry parts.session place start cursor.last (Some (key, tid))) {mid : SessionView} {T : Type 0} {first : T} (looks : LooksOn parts.session mid (Ok first))
        {there : Bool} {body : List ℕ} (found : IsTold mid.store.pages.disk → FindsTuple mid relation.segment listed.relation tid there body) where
      -- it is there
      pub never_lost : there ≡ false → (state : State) (scan : MachineScan) → IsScanIn parts t number state scan → ⊥
      never_lost none state scan in_it =
          let of = tuple_there in_it finds in
          none-some _ (sym ((found (looks.goes.told.0 in_it.told)).none none state relation in_it.is_in.kept (looks.shows in_it.told state in_it.is_in.shows) (still_listed is looks)) ∙ of.1)

      module _ (yes : there ≡ true) (read : Option (List Value)) (exact : (values : List Value) → IsBodyOf mid.store.catalog.listing listed.relation (kinds relation.fields) values body → read ≡ Some values) where
        its_tuple : (state : State) (scan : MachineScan) → IsScanIn parts t number state scan → HasTuple mid.store.catalog.listing state listed.relation relation tid body
        its_tuple state scan in_it = (found (looks.goes.told.0 in_it.told)).some yes state relation in_it.is_in.kept (looks.shows in_it.told state in_it.is_in.shows) (still_listed is looks)

        pub never_unread : read ≡ None → (state : State) (scan : MachineScan) → IsScanIn parts t number state scan → ⊥
        never_unread none state scan in_it = let tuple = its_tuple state scan in_it in none-some _ (sym none ∙ exact tuple.values tuple.spelled)

        pub row_found : IsLongFor parts.session.store.catalog.listing image start → IsNumberOf ImageKind parts.session.store.catalog.listing image place → HasNoLesser ImageKind parts.session.store.catalog.listing image place → IsKeyLong parts.session.store.catalog.listing place key
            → (values : List Value) → read ≡ Some values → IsShort (Ok (Row tid values)) → FindsNextRow parts t number key tid values
        row_found starts named_so first long values so short = record {
          gives = λ state scan in_it.
              let tuple = its_tuple state scan in_it in
              let same : tuple.values ≡ values = same_Some _ _ (sym (exact tuple.values tuple.spelled) ∙ so) in
              gives_spelled in_it finds values (tuple.holds ∙ ap (λ (v : List Value). Some (Values v)) same);
          long = λ other where_it.
              let one : other ≡ cursor = same_Some _ _ (sym where_it ∙ has) in
              subst (λ (path : Path). AreLong parts.session.store.catalog.listing path (Some (key, tid))) (sym (ap (λ (c : Cursor). c.path) one ∙ at))
              (starts, long_first parts.session.store.catalog.listing image place key named_so first long);
          short = short;
        }

-- no pair comes next
pub none_found : {parts : RssParts} {t number : ℕ} {cursor : Cursor} (has : cursor_of parts.scans t number ≡ Some cursor) (image : Name) (start : List ℕ) (at : cursor.path ≡ Image image start) (place : ℕ) → IsNumberOf ImageKind parts.session.store.catalog.listing image place → IsReady parts.session
    → FindsNextEntry parts.session place start cursor.last None → FindsNext parts t number None
none_found {parts = parts} has image start at place named_so ready finds state scan in_it =
    let here = image_entry parts.session.store.catalog.listing image place named_so in
    let fits = in_it.is_in.shows.store.spells.listed.paths.images place here.entry here.at in (
      stays_in has image start at in_it,
      got_none (kept_pair here.entry fits.relation) (next_of_scan (now state) scan)
          (found_next has image start at place (record { at = here.at; within = fits.listed }) here.named ready in_it finds),
    )

-- ---- how the scan of a cursor goes

-- it goes along the first image of its name
pub goes_at : {parts : RssParts} {t scan number : ℕ} {cursor : Cursor} → GoesAlongImage parts t scan number → cursor_of parts.scans t scan ≡ Some cursor → (image : Name) (start : List ℕ) → cursor.path ≡ Image image start
    → IsNumberOf ImageKind parts.session.store.catalog.listing image number × HasNoLesser ImageKind parts.session.store.catalog.listing image number
goes_at {parts = parts} {number = number} goes has image start at =
    let one : Image goes.image goes.start ≡ Image image start = sym goes.along ∙ ap (λ (c : Cursor). c.path) (same_Some _ _ (sym goes.there ∙ has)) ∙ at in
    let same : goes.image ≡ image = cc (one) in (
      subst (λ (n : Name). IsNumberOf ImageKind parts.session.store.catalog.listing n number) same goes.named,
      subst (λ (n : Name). HasNoLesser ImageKind parts.session.store.catalog.listing n number) same goes.first,
    )

-- the image of this number has this name
pub named_as : (listing : Listing) (number : ℕ) {one other : ImageEntry} {image : Name} → image_at listing number ≡ Some one → image_at listing number ≡ Some other → other.name ≡ image → one.name ≡ image
named_as listing number at there named = ap (λ (e : ImageEntry). e.name) (same_Some _ _ (sym at ∙ there)) ∙ named

-- and its keys are as long as the image's
pub long_last : (listing : Listing) (image : Name) (number : ℕ) → IsNumberOf ImageKind listing image number → HasNoLesser ImageKind listing image number → (last : Option (List ℕ × Tid)) → IfSome last (λ given. IsLongFor listing image given.0) → IfSome last (λ given. IsKeyLong listing number given.0)
long_last listing image number named first None long = tt
long_last listing image number named first (Some given) long = long number named first

-- what it costs once the call was counted
pub costs_asked : {S : Type 0} (pages_view : S → PagesView) {old mid : Session S} {locks now : LockTable} {scans scans_now : ScanTable} → mid ≡ old → now ≡ locks → scans_now ≡ scans → (new : RssParts) (t scan : ℕ)
    → CostsLevels (rss_parts pages_view mid now scans_now) new t scan → CostsLevels (rss_parts pages_view old locks scans) new t scan
costs_asked pages_view same same_locks same_scans new t scan = subst (λ (parts : RssParts). CostsLevels parts new t scan) (λ i. rss_parts pages_view (same i) (same_locks i) (same_scans i))

pub idle_asked : {S : Type 0} (pages_view : S → PagesView) {old mid : Session S} {new : SessionView} → mid ≡ old → CostsNothing (session_view pages_view mid) new → CostsNothing (session_view pages_view old) new
idle_asked pages_view {new = new} same = subst (λ (session : Session _). CostsNothing (session_view pages_view session) new) same

-- the session is as it was
pub idle_same : {S : Type 0} (pages_view : S → PagesView) {old mid : Session S} → mid ≡ old → CostsNothing (session_view pages_view old) (session_view pages_view mid)
idle_same pages_view {mid = mid} same = idle_asked pages_view same (nothing_itself (session_view pages_view mid))

-- what it gave behind a look, which changed no scan
pub gave_next : {scans mid later : OpenScans} (number : ℕ) (key : List ℕ) (tid : Tid) → mid ≡ scans → ((was : Scan) → map.get mid number ≡ Some was → later ≡ map.insert mid number (given key tid was))
    → (was : Scan) → map.get scans number ≡ Some was → later ≡ map.insert scans number (given key tid was)
gave_next number key tid same gave was there =
    gave was (ap (λ (s : OpenScans). map.get s number) same ∙ there) ∙ ap (λ (s : OpenScans). map.insert s number (given key tid was)) same
