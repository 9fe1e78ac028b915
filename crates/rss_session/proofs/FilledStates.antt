-- What the session is once an image is listed and its tree is built: its definition may be committed.
use Rattle.std.proofs.Common.{◌≡◌, refl, subst}
use Rattle.std.specs.Prelude.{is_some}
use Rattle.std.specs.FinMap.{empty}
use Rattle.rss_base.specs.DiskRule.{IsTold}
use Rattle.rss_base.specs.Names.{IsName}
use Rattle.rss_base.specs.declared.call.Call.{Call}
use Rattle.rss_base.specs.declared.call.Call.TheVariants.{MakeImage}
use Rattle.rss_base.specs.declared.image.ImageEntry.{ImageEntry}
use Rattle.rss_base.specs.declared.key.PageKey.{PageKey}
use Rattle.rss_base.specs.declared.name.Name.{Name}
use Rattle.rss_model.specs.Defining.{with_definitions, with_image, image_def}
use Rattle.rss_model.specs.Kept.{Kept}
use Rattle.rss_model.specs.Machine.{State}
use Rattle.rss_stored.specs.Store.{SpellsTables, image_definition}
use Rattle.rss_model.specs.Tables.{Tables, ImageDef}
use Rattle.rss_access.specs.Written.{AreWritten}
use Rattle.rss_session.specs.Calls.{IsRedefined}
use Rattle.rss_session.specs.Filling.{HasFewPages, TouchesImages, MayMakeImage}
use Rattle.rss_session.specs.Sessions.{SessionView, IsReady}
use Rattle.rss_session.specs.Shown.{Shows}
use Rattle.rss_session.proofs.FilledRooms.{planned_fits}
use Rattle.rss_session.proofs.Redefined.{may_redefine}
use Rattle.rss_session.proofs.Saved.{saves_ready}
use Rattle.rss_session.proofs.Touched.{redefined_touched}
use Rattle.rss_session.proofs.Weighed.{has_saved_room}

-- where nothing is open, images have no more pages than they may, in each state in which the session may be
pub few_pages : {view : SessionView} {state : State} → IsReady view → view.opened.transactions ≡ empty → Shows view state → ((key : PageKey) → is_some (view.store.pages.held key) ≡ view.store.pages.mapped key) → HasFewPages view
few_pages ready closed shows held_are = (has_saved_room ready shows held_are (may_redefine (saves_ready ready) closed)).images

module _ {old new : SessionView} (ready : IsReady old) (touches : TouchesImages old new) (told : IsTold old.store.pages.disk) {entry : ImageEntry} {state : State} (closed : old.opened.transactions ≡ empty) (written : AreWritten new.store.pages.held new.store.catalog) (kept : Kept state) (shows : Shows old state)
    (may : MayMakeImage old.store.catalog.listing state entry) where
  abbrev call : Call
  call = MakeImage may.name may.relation may.is_unique may.fields

  abbrev next : Tables
  next = with_definitions (with_image state.base.definitions may.name (image_def may.relation may.is_unique may.fields)) state.base

  named : IsName may.name
  named = subst IsName may.plans.named (planned_fits may.plans).name

  module _ (spells : SpellsTables new.store.pages.held new.store.catalog.listing (with_definitions (with_image state.base.definitions entry.name (image_definition entry may.plans.within)) state.base)) where
    -- the pages spell what the call makes of the tables
    spells_so : SpellsTables new.store.pages.held new.store.catalog.listing next
    spells_so = subst (λ (image : Name × ImageDef). SpellsTables new.store.pages.held new.store.catalog.listing (with_definitions (with_image state.base.definitions image.0 image.1) state.base)) (λ i. (may.plans.named i, may.plans.defines i)) spells

    pub image_redefined : IsRedefined new state next
    image_redefined = redefined_touched ready touches told closed kept shows call next may.passed named refl written spells_so
