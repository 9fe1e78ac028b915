-- An image is taken away: what that is refused for, and what the session is then.
use Rattle.std.proofs.Common.{◌≡◌, inl, inr, ℕ, false, refl, sym, ◌∙◌, ap, subst}
use Rattle.std.specs.Prelude.{Some, None, is_some}
use Rattle.std.specs.FinMap.{empty}
use Rattle.std.proofs.lemmas.Bool.{cases_Bool}
use Rattle.rss_base.specs.Listings.{IsUnlisted}
use Rattle.rss_base.specs.Steps.{PagesView}
use Rattle.rss_base.specs.declared.call.Call.TheVariants.{DropImage}
use Rattle.rss_base.specs.declared.image.ImageEntry.{ImageEntry}
use Rattle.rss_base.specs.declared.name.Name.{Name}
use Rattle.rss_base.specs.declared.refusal.Kind.TheVariants.{Image as ImageKind}
use Rattle.rss_base.specs.declared.refusal.Refusal.TheVariants.{NoSuch}
use Rattle.rss_base.specs.declared.relation.RelationEntry.{RelationEntry}
use Rattle.rss_catalog.specs.Catalogs.{CatalogView}
use Rattle.rss_model.specs.Defining.{is_image}
use Rattle.rss_model.specs.Machine.{State}
use Rattle.rss_model.specs.Steps.{refusal}
use Rattle.rss_stored.specs.Store.{IsListedImage, SpellsTables}
use Rattle.rss_model.proofs.Tests.{goes_on, passes_unless, refuses_at, refuses_unless}
use Rattle.rss_access.specs.Changes.{both}
use Rattle.rss_access.proofs.ImageGone.{Taken, taken_can, taken_spells, taken_written}
use Rattle.rss_session.specs.Sessions.{SessionView, IsReady}
use Rattle.rss_session.specs.Shown.{Shows}
use Rattle.rss_session.specs.Taking.{TakesImage, without_image}
use Rattle.rss_session.proofs.Defined.{none_is_open}
use Rattle.rss_session.proofs.Touched.{with_tables, pending_long, touches_images, store_touched, can_save_touched, base_spelled, redefined_touched}

-- ---- what it is refused for

module _ {view : SessionView} {state : State} (shows : Shows view state) (closed : view.opened.transactions ≡ empty) where
  pub image_lacks : (name : Name) → IsUnlisted ImageKind view.store.catalog.listing name → refusal state (DropImage name) ≡ Some (NoSuch ImageKind)
  image_lacks name fresh = goes_on _ (none_is_open shows closed) ∙ refuses_at _ (refuses_unless (NoSuch ImageKind) absent)
    where
      absent : is_image state name ≡ false
      absent = elim (cases_Bool (is_image state name)) [
        | inl there ↦ let has = shows.store.spells.defines.paths.only_images name there in absurd (fresh has.0 has.1)
        | inr none ↦ none
      ]

  pub image_drops : {number : ℕ} {image : ImageEntry} {relation : RelationEntry} {name : Name} → IsListedImage view.store.catalog.listing number image relation → image.name ≡ name → refusal state (DropImage name) ≡ None
  image_drops {number = number} {image = image} {relation = relation} at named =
      let there = ap is_some (shows.store.spells.defines.paths.images number image relation at) in
      goes_on _ (none_is_open shows closed) ∙ goes_on _ (passes_unless (NoSuch ImageKind) (ap (is_image state) (sym named) ∙ there))

-- ---- what is done

-- the image of this number was listed, its pages were given, and its definition was taken away
module _ {old : SessionView} {pages : PagesView} {catalog : CatalogView} {number : ℕ} {image : ImageEntry} {relation : RelationEntry} (taken : Taken (both old.store.pages old.store.catalog) (both pages catalog) number image relation) where
  -- so what is defined without it may be committed
  pub image_taken : {name : Name} → image.name ≡ name → IsReady old → old.opened.transactions ≡ empty → TakesImage name old (with_tables pages catalog old)
  image_taken {name = name} named ready closed =
      let lists = taken.takes.lists in
      let touches = touches_images old taken.step catalog in
      let can = taken_can taken (record { heaps = ready.store.heaps; tables = ready.store.tables }) in record {
        closed = closed;
        touches = touches;
        saves = can_save_touched ready touches (store_touched old taken.step catalog ready.store (pending_long lists ready.store.pending_places) can);
        redefines = λ told state kept shows.
            redefined_touched ready touches told closed kept shows (DropImage name) (without_image state.base name) (image_drops shows closed taken.at named) tt refl
            (taken_written taken shows.store.spells.listed told ready.store.pending_places shows.store.written)
            (subst (λ (n : Name). SpellsTables pages.held catalog.listing (without_image state.base n)) named
            (taken_spells taken told (base_spelled closed shows)));
      }
