-- Whether the keys of a tuple are free in the unique images of its relation.
use Rattle.std.proofs.Common.{◌≡◌, ◌≢◌, ℕ, ◌+◌, ◌<◌, Bool, true, false, List, refl, sym, ◌∙◌, ap, subst, arith}
use Rattle.std.specs.Prelude.{◌↔◌, Option, Some, None, is_some, not}
use Rattle.std.specs.FinMap as finite
use Rattle.std.proofs.lemmas.Option.{same_Some}
use Rattle.rss_base.specs.TupleTypes.{kinds, Spells, SpellsSome}
use Rattle.rss_base.specs.Prefixes.{is_tid}
use Rattle.rss_base.specs.Listings.{Listing, names_of, numbered, relation_at, image_at}
use Rattle.rss_base.specs.declared.name.Name.{Name}
use Rattle.rss_base.specs.declared.tid.Tid.{Tid}
use Rattle.rss_base.specs.declared.value.Value.{Value}
use Rattle.rss_base.specs.declared.relation.RelationEntry.{RelationEntry}
use Rattle.rss_base.specs.declared.image.ImageEntry.{ImageEntry}
use Rattle.rss_base.specs.declared.refusal.Kind.TheVariants.{Image as ImageKind}
use Rattle.rss_value.proofs.Spelling.{spells_once}
use Rattle.rss_catalog.proofs.Numbered.{numbered_map}
use Rattle.rss_model.specs.Tables.{ImageDef, Tables, content}
use Rattle.rss_base.specs.declared.item.Item.TheVariants.{Tuple}
use Rattle.rss_model.specs.Images.{key_in, owner_of_key}
use Rattle.rss_model.specs.Fits.{Fits}
use Rattle.rss_model.proofs.LogLists.{false_true, none_some, some_of}
use Rattle.rss_model.proofs.Standing.{tid_itself}
use Rattle.rss_model.proofs.Viewing.{keyed}
use Rattle.rss_model.proofs.ChangeKeeping.{not_owned}
use Rattle.rss_model.proofs.SeenAlike.{owner_has}
use Rattle.rss_stored.specs.Store.{Defines, IsListedImage, image_definition}
use Rattle.rss_stored.proofs.Relisted.{number_of}
use Rattle.rss_stored.proofs.Spelled.{named_image}
use Rattle.rss_access.specs.Changes.{AccessView}
use Rattle.rss_access.specs.Imaging.{IsOwner}
use Rattle.rss_draft.specs.Views.{DraftView}
use Rattle.rss_draft.specs.Fitting.{AreKeysFree}
use Rattle.rss_draft.specs.Looks.{StandsOver}
use Rattle.rss_draft.specs.FitLooks.{IsUniqueOf, IsTakenIn}
use Rattle.rss_draft.proofs.FoundAs.{mapped_some}
use Rattle.rss_draft.proofs.Standings.{one_owner}
use Rattle.rss_draft.proofs.TupleFitting.{other_than}

-- ---- an image

pub used_image : (listing : Listing) (number : ℕ) → is_some (numbered (names_of ImageKind listing) number) ≡ is_some (image_at listing number)
used_image listing number = ap is_some (numbered_map (λ (i : ImageEntry). i.name) listing.images number) ∙ mapped_some (λ (i : ImageEntry). i.name) (image_at listing number)

module _ {listing : Listing} {number k : ℕ} where
  pub unique_unused : is_some (image_at listing k) ≡ false → (false ≡ true) ↔ IsUniqueOf listing number k
  unique_unused off = ((λ so. absurd (cc (so))), (λ u. false_true (ap is_some u.at) off))

  pub unique_not : (image : ImageEntry) → image_at listing k ≡ Some image → image.is_unique ≡ false → (false ≡ true) ↔ IsUniqueOf listing number k
  unique_not image at off = ((λ so. absurd (cc (so))), (λ u. false_true u.unique (ap (λ (i : ImageEntry). i.is_unique) (same_Some _ _ (sym u.at ∙ at)) ∙ off)))

  pub unique_decides : (image : ImageEntry) → image_at listing k ≡ Some image → image.is_unique ≡ true → (same : Bool) → ((same ≡ true) ↔ (image.relation ≡ number)) → (same ≡ true) ↔ IsUniqueOf listing number k
  unique_decides image at unique same decides = (
    (λ so. record { image = image; at = at; unique = unique; of = decides.0 so }),
    (λ u. decides.1 (ap (λ (i : ImageEntry). i.relation) (same_Some _ _ (sym at ∙ u.at)) ∙ u.of)),
  )

  -- ---- a key in it

  module _ {tables : Tables} {tid : Tid} {bytes : List ℕ} where
    unique_of : IsTakenIn listing tables number tid bytes k → IsUniqueOf listing number k
    unique_of t = record { image = t.image; at = t.at.at; unique = t.unique; of = t.of }

    pub taken_off : (unique : Bool) → ((unique ≡ true) ↔ IsUniqueOf listing number k) → unique ≡ false → (false ≡ true) ↔ IsTakenIn listing tables number tid bytes k
    taken_off unique decides off = ((λ so. absurd (cc (so))), (λ t. false_true (decides.1 (unique_of t)) off))

    pub taken_none : IsOwner tables listing k bytes None None → (false ≡ true) ↔ IsTakenIn listing tables number tid bytes k
    taken_none none = (
      (λ so. absurd (cc (so))),
      (λ t. absurd (none_some (none t.image t.relation t.at t.unique t.values t.spells ∙ t.is))),
    )

    pub taken_by : is_some (relation_at listing number) ≡ true → ((relation : RelationEntry) → relation_at listing number ≡ Some relation → SpellsSome (kinds relation.fields) bytes)
        → (unique : Bool) → ((unique ≡ true) ↔ IsUniqueOf listing number k) → unique ≡ true
        → (owner : Tid) → IsOwner tables listing k bytes None (Some owner) → (other : Bool) → ((other ≡ true) ↔ (owner ≢ tid)) → (other ≡ true) ↔ IsTakenIn listing tables number tid bytes k
    taken_by some spelled unique decides on owner is other apart =
        let u = decides.0 on in
        let relation = some_of (relation_at listing number) some in
        let values = spelled relation.0 relation.1 in
        let at : IsListedImage listing k u.image relation.0 = record { at = u.at; within = ap (relation_at listing) u.of ∙ relation.1 } in (
          (λ so. record {
            image = u.image;
            relation = relation.0;
            at = at;
            unique = u.unique;
            of = u.of;
            values = values.0;
            spells = values.1;
            owner = owner;
            is = sym (is u.image relation.0 at u.unique values.0 values.1);
            other = apart.0 so;
          }),
          (λ t. apart.1 (λ same. t.other (same_Some _ _ (sym (is t.image t.relation t.at t.unique t.values t.spells ∙ t.is)) ∙ same))),
        )

-- ---- all of them

-- nothing has the number 0
pub no_image_zero : {listing : Listing} {tables : Tables} {number : ℕ} {tid : Tid} {bytes : List ℕ} (k : ℕ) → k < 0 + 1 → IsTakenIn listing tables number tid bytes k → ⊥
no_image_zero {listing = listing} k low t = none_some (sym (ap (image_at listing) (zero_is k low)) ∙ t.at.at)
  where
    zero_is : (k : ℕ) → k < 0 + 1 → k ≡ 0
    zero_is k low = omega (arith, low)

module _ {at : AccessView} {draft : DraftView} {saved tables : Tables} (over : StandsOver at draft saved tables) (fit : Fits at.pages.slots tables) (number : ℕ) (relation : RelationEntry) (at_number : relation_at at.catalog.listing number ≡ Some relation)
    (tid : Tid) (bytes : List ℕ) (values : List Value) (spells : Spells (kinds relation.fields) bytes values) where
  defines : Defines at.catalog.listing tables.definitions
  defines = subst (Defines at.catalog.listing) (sym over.is.definitions) over.spells.defines

  -- a key that another tuple has isn't free
  pub not_free : (k : ℕ) → IsTakenIn at.catalog.listing tables number tid bytes k → AreKeysFree tables relation.name tid values → ⊥
  not_free k t free =
      let same : t.relation ≡ relation = same_Some _ _ (sym t.at.within ∙ ap (relation_at at.catalog.listing) t.of ∙ at_number) in
      let one : values ≡ t.values = spells_once (kinds relation.fields) bytes values t.values spells (subst (λ (r : RelationEntry). Spells (kinds r.fields) bytes t.values) same t.spells) in
      let image : ImageDef = image_definition t.image t.relation in
      let key : List Value = key_in tables.definitions image t.values in
      let none : owner_of_key tables image (Some tid) key ≡ None =
      subst (λ (v : List Value). owner_of_key tables image (Some tid) (key_in tables.definitions image v) ≡ None) one
      (free t.image.name image (defines.paths.images k t.image t.relation t.at) t.unique (ap (λ (r : RelationEntry). r.name) same)) in
      t.other (other_than tid t.owner (not_owned tables image (Some tid) key none t.owner (owner_has tables image None key t.owner t.is).0))

  -- and the other way round
  pub free_of : ((k : ℕ) → IsTakenIn at.catalog.listing tables number tid bytes k → ⊥) → AreKeysFree tables relation.name tid values
  free_of none name image defined unique of = by (owner_of_key tables image (Some tid) key) refl
    where
      key : List Value
      key = key_in tables.definitions image values

      -- its owner is the other one
      owned_by : (other : Tid) → keyed (key_in tables.definitions image) key (content tables.contents (Tuple image.relation other)) ≡ true → (o : Option Tid) → owner_of_key tables image None key ≡ o → o ≡ Some other
      owned_by other has None e = false_true refl (not_owned tables image None key e other has)
      owned_by other has (Some one) e = ap (λ (t : Tid). Some t) (one_owner tables fit.keys name image defined unique key one other (owner_has tables image None key one e).0 has)

      by : (o : Option Tid) → owner_of_key tables image (Some tid) key ≡ o → o ≡ None
      by None e = refl
      by (Some other) e =
          let has = owner_has tables image (Some tid) key other e in
          let named = named_image at.catalog.listing name (defines.paths.only_images name (ap is_some defined)) in
          let its = over.spells.listed.paths.images named.number named.image named.at in
          let at_image : IsListedImage at.catalog.listing named.number named.image its.relation = record { at = named.at; within = its.listed } in
          let same : image_definition named.image its.relation ≡ image =
          same_Some _ _ (sym (defines.paths.images named.number named.image its.relation at_image) ∙ ap (finite.get tables.definitions.images) named.named ∙ defined) in
          let name_of : its.relation.name ≡ relation.name = ap (λ (i : ImageDef). i.relation) same ∙ of in
          let numbers : named.image.relation ≡ number = over.spells.listed.relations_once named.image.relation number relation.name
          (number_of at.catalog.listing named.image.relation its.relation its.listed ∙ ap (λ (n : Name). Some n) name_of)
          (number_of at.catalog.listing number relation at_number) in
          let one : relation ≡ its.relation = same_Some _ _ (sym at_number ∙ ap (relation_at at.catalog.listing) (sym numbers) ∙ its.listed) in
          absurd (none named.number (record {
            image = named.image;
            relation = its.relation;
            at = at_image;
            unique = ap (λ (i : ImageDef). i.is_unique) same ∙ unique;
            of = numbers;
            values = values;
            spells = subst (λ (r : RelationEntry). Spells (kinds r.fields) bytes values) one spells;
            owner = other;
            is = subst (λ (i : ImageDef). owner_of_key tables i None (key_in tables.definitions i values) ≡ Some other) (sym same) (owned_by other has.0 _ refl);
            other = λ e. false_true has.1 (ap not (subst (λ (t : Tid). is_tid tid t ≡ true) (sym e) (tid_itself tid)));
          }))
