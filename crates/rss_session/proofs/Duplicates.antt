-- The first unique image that has a key for another tuple, by a walk along the images.
use Rattle.std.proofs.Common.{◌≡◌, ℕ, ◌+◌, ◌≤◌, List, [], ◌∷◌, ◌++◌, refl, sym, ◌∙◌, ap, subst, arith}
use Rattle.std.specs.Prelude.{Option, Some, None, Ok, map, option_map}
use Rattle.std.proofs.lemmas.List.{map-append, map_push}
use Rattle.std.proofs.lemmas.Option.{same_Some}
use Rattle.rss_base.specs.DiskRule.{IsTold}
use Rattle.rss_base.specs.Listings.{image_at, relation_at}
use Rattle.rss_base.specs.TupleTypes.{kinds, Spells}
use Rattle.rss_base.specs.declared.image.ImageEntry.{ImageEntry}
use Rattle.rss_base.specs.declared.name.Name.{Name}
use Rattle.rss_base.specs.declared.refusal.Refusal.{Refusal}
use Rattle.rss_base.specs.declared.refusal.Refusal.TheVariants.{Duplicate}
use Rattle.rss_base.specs.declared.relation.RelationEntry.{RelationEntry}
use Rattle.rss_base.specs.declared.tid.Tid.{Tid}
use Rattle.rss_base.specs.declared.value.Value.{Value}
use Rattle.rss_catalog.specs.Catalogs.{CatalogView}
use Rattle.rss_model.specs.Images.{unique_images}
use Rattle.rss_model.specs.Kept.{Kept}
use Rattle.rss_model.specs.Machine.{State, now}
use Rattle.rss_model.specs.Refusals.{first_of, if_owned, if_duplicate}
use Rattle.rss_model.specs.Tables.{ImageDef}
use Rattle.rss_model.proofs.StepKeeping.{kept_fit}
use Rattle.rss_access.specs.Moved.{IsImageOf}
use Rattle.rss_session.specs.Imaging.{FindsOwner}
use Rattle.rss_session.specs.Looks.{LooksOn}
use Rattle.rss_session.specs.Sessions.{SessionView}
use Rattle.rss_session.specs.Shown.{Shows}
use Rattle.rss_session.specs.Uniques.{FindsDuplicate, IsNextUnique, defined_image}
use Rattle.rss_session.proofs.NextUniques.{ArePassed, none_passed, one_more, all_passed, many_passed, few_unique, first_behind, of_relation}

first_alone : (test : Option Refusal) → first_of (test ∷ []) ≡ test
first_alone None = refl
first_alone (Some why) = refl

first_before : (tests more : List (Option Refusal)) {why : Refusal} → first_of tests ≡ Some why → first_of (tests ++ more) ≡ Some why
first_before [] more is = absurd (cc (is))
first_before (None ∷ tests) more is = first_before tests more is
first_before (Some why ∷ tests) more is = is

-- So many images were passed, none of which has the key for another tuple.
pub record Unowned (state : State) (relation : RelationEntry) (own : Option Tid) (values : List Value) (count : ℕ) (after : Option Name) : Type 0 where
  pub are : ArePassed (unique_images state.base.definitions relation.name) count after
  pub none : first_of (map (if_owned state own values) are.passed) ≡ None

pub record NonePassed (view : SessionView) (number : ℕ) (bytes : List ℕ) (own : Option Tid) (count : ℕ) (after : Option Name) : Type 0 where
  pub each : IsTold view.store.pages.disk → (state : State) → Kept state → Shows view state
      → (relation : RelationEntry) → relation_at view.store.catalog.listing number ≡ Some relation
      → (values : List Value) → Spells (kinds relation.fields) bytes values → Unowned state relation own values count after

pub none_begun : (view : SessionView) (number : ℕ) (bytes : List ℕ) (own : Option Tid) → NonePassed view number bytes own 0 None
none_begun view number bytes own = record { each = λ told state kept shows relation at values spelled. record { are = none_passed (unique_images state.base.definitions relation.name); none = refl } }

module _ {view mid : SessionView} {T : Type 0} {looked : T} (looks : LooksOn view mid (Ok looked)) {number count : ℕ} {bytes : List ℕ} {own : Option Tid} {after : Option Name} (passed : NonePassed view number bytes own count after) where
  -- none is left
  ended : {state : State} {relation : RelationEntry} {values : List Value} (had : Unowned state relation own values count after) → had.are.left ≡ [] → None ≡ if_duplicate state relation.name own values
  ended {state = state} {values = values} had none = sym (ap (λ (l : List (Name × ImageDef)). first_of (map (if_owned state own values) l)) (sym (all_passed had.are none)) ∙ had.none)

  pub none_more : IsNextUnique mid.store.catalog.listing number after None → FindsDuplicate view number bytes own None
  none_more next told state kept shows relation at values spelled =
      let had = passed.each told state kept shows relation at values spelled in
      let spells = shows.store.spells in
      ended had (subst (λ (c : CatalogView). IsNextUnique c.listing number after None) looks.catalog next state.base.definitions relation spells.listed spells.defines at had.are.passed had.are.left had.are.split had.are.ends)

  pub none_many : 128 ≤ count → FindsDuplicate view number bytes own None
  none_many many told state kept shows relation at values spelled =
      let had = passed.each told state kept shows relation at values spelled in
      ended had (many_passed had.are (omega (arith, many, few_unique (now state) (kept_fit state kept).1 relation.name)))

  -- the next image
  module _ {found : ℕ} {image : ImageEntry} (next : IsNextUnique mid.store.catalog.listing number after (Some found)) (here : image_at mid.store.catalog.listing found ≡ Some image) (of : IsImageOf mid.store.catalog.listing found number) {owner : Option Tid} (owns : FindsOwner mid found bytes own owner) where
    -- it was passed too, and is refused by its owner alone
    record Owned (state : State) (relation : RelationEntry) (values : List Value) : Type 0 where
      pub are : ArePassed (unique_images state.base.definitions relation.name) (count + 1) (Some image.name)
      pub first : first_of (map (if_owned state own values) are.passed) ≡ option_map (Duplicate image.name) owner

    owned : IsTold view.store.pages.disk → (state : State) → Kept state → Shows view state → (relation : RelationEntry) → relation_at view.store.catalog.listing number ≡ Some relation → (values : List Value) → Spells (kinds relation.fields) bytes values → Owned state relation values
    owned told state kept shows relation at values spelled =
        let had = passed.each told state kept shows relation at values spelled in
        let spells = shows.store.spells in
        let led = subst (λ (c : CatalogView). IsNextUnique c.listing number after (Some found)) looks.catalog next state.base.definitions relation spells.listed spells.defines at had.are.passed had.are.left had.are.split had.are.ends in
        let its : image.relation ≡ number = of_relation here of in
        let here_too : image_at view.store.catalog.listing found ≡ Some image = ap (λ (c : CatalogView). image_at c.listing found) (sym looks.catalog) ∙ here in
        let within : relation_at mid.store.catalog.listing image.relation ≡ Some relation = ap (λ (c : CatalogView). relation_at c.listing image.relation) looks.catalog ∙ ap (relation_at view.store.catalog.listing) its ∙ at in
        let more = one_more had.are led here_too its at in
        let f = if_owned state own values in
        let is = owns (looks.goes.told.0 told) state kept (looks.shows told state shows) image relation (record { at = here; within = within }) (ap (λ (i : ImageEntry). i.is_unique) (same_Some _ _ (sym here_too ∙ led.at.at)) ∙ led.unique) values spelled in
        record {
          are = more.are;
          first = ap (λ (l : List (Name × ImageDef)). first_of (map f l)) more.more
              ∙ ap first_of (map_push f had.are.passed (defined_image image relation))
              ∙ first_behind (map f had.are.passed) (f (defined_image image relation) ∷ []) had.none
              ∙ first_alone (f (defined_image image relation))
              ∙ ap (option_map (Duplicate image.name)) (sym is);
        }

    pub none_owned : owner ≡ None → NonePassed view number bytes own (count + 1) (Some image.name)
    none_owned none = record {
      each = λ told state kept shows relation at values spelled.
          let has = owned told state kept shows relation at values spelled in
          record { are = has.are; none = has.first ∙ ap (option_map (Duplicate image.name)) none };
    }

    pub some_owned : {tid : Tid} {why : Refusal} → owner ≡ Some tid → why ≡ Duplicate image.name tid → FindsDuplicate view number bytes own (Some why)
    some_owned some is told state kept shows relation at values spelled =
        let has = owned told state kept shows relation at values spelled in
        let f = if_owned state own values in
        sym (ap (λ (l : List (Name × ImageDef)). first_of (map f l)) has.are.split
        ∙ ap first_of (map-append f has.are.passed has.are.left)
        ∙ first_before (map f has.are.passed) (map f has.are.left) (has.first ∙ ap (option_map (Duplicate image.name)) some)
        ∙ ap (λ (w : Refusal). Some w) (sym is))
