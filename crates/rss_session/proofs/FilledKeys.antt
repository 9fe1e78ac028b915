-- The keys of the entries of a planned image stand twice in bytes where they do in the machine's list.
use Rattle.std.proofs.Common.{◌≡◌, ◌<◌, ◌^◌, ℕ, true, false, Bool, List, refl, sym, ◌∙◌, ap, arith}
use Rattle.std.specs.Prelude.{None, option_map, All}
use Rattle.std.specs.FinMap.{empty}
use Rattle.rss_base.specs.DiskRule.{IsTold}
use Rattle.rss_base.specs.Listings.{field_numbers}
use Rattle.rss_base.specs.declared.image.ImageEntry.{ImageEntry}
use Rattle.rss_base.specs.declared.name.Name.{Name}
use Rattle.rss_base.specs.declared.refusal.Refusal.TheVariants.{Duplicate}
use Rattle.rss_base.specs.declared.tid.Tid.{Tid}
use Rattle.rss_value.specs.Numbers.{IsNumberOf}
use Rattle.rss_model.specs.Defining.{if_repeated, image_def}
use Rattle.rss_model.specs.Images.{image_list, repeated}
use Rattle.rss_model.specs.Kept.{Kept}
use Rattle.rss_model.specs.Machine.{State}
use Rattle.rss_model.specs.Tables.{ImageDef}
use Rattle.rss_access.specs.Filling.{repeated_key}
use Rattle.rss_access.proofs.RelationEntries.{kept_repeated}
use Rattle.rss_session.specs.Filling.{AreImageEntries}
use Rattle.rss_session.specs.Planning.{PlansImage}
use Rattle.rss_session.specs.Sessions.{SessionView, IsReady}
use Rattle.rss_session.specs.Shown.{Shows}
use Rattle.rss_session.proofs.FilledRooms.{planned_within}
use Rattle.rss_session.proofs.Touched.{base_shown}

module _ {view : SessionView} {entry : ImageEntry} {entries : List (List ℕ × Tid)} (ready : IsReady view) (closed : view.opened.transactions ≡ empty) (are : AreImageEntries view entry entries)
    (name relation : Name) (is_unique : Bool) (fields : List Name) (plans : PlansImage view.store.catalog.listing name relation is_unique fields entry) (told : IsTold view.store.pages.disk) {state : State} (kept : Kept state) (shows : Shows view state) where
  keys_repeated : repeated_key entries ≡ repeated (image_list state.base (image_def relation is_unique fields))
  keys_repeated =
      let tuples = base_shown closed shows ready kept in
      let small : view.store.pages.slots < 2 ^ 32 = omega (arith, ready.store.size, ready.store.formed.slots_most) in
      let numbers : All (IsNumberOf plans.within.fields) (field_numbers entry) = λ k d low. let is = planned_within plans k d low in (is.low, is.high) in
      ap repeated_key ((are.of plans.within plans.at).are told state.base entry tuples plans.at refl)
      ∙ kept_repeated small tuples entry.relation plans.at entry numbers
      ∙ ap (λ (image : ImageDef). repeated (image_list state.base image)) plans.defines

  unique_same : entry.is_unique ≡ is_unique
  unique_same = ap (λ (image : ImageDef). image.is_unique) plans.defines

  -- one that isn't unique isn't refused for them
  pub keys_free : entry.is_unique ≡ false → if_repeated state name is_unique (image_def relation is_unique fields) ≡ None
  keys_free off = ap (λ (b : Bool). if_repeated state name b (image_def relation is_unique fields)) (sym unique_same ∙ off)

  -- another is for the first that stands twice
  pub keys_told : entry.is_unique ≡ true → if_repeated state name is_unique (image_def relation is_unique fields) ≡ option_map (Duplicate entry.name) (repeated_key entries)
  keys_told on =
      ap (λ (b : Bool). if_repeated state name b (image_def relation is_unique fields)) (sym unique_same ∙ on)
      ∙ (λ i. option_map (Duplicate (sym plans.named i)) (sym keys_repeated i))
