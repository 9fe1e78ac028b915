-- How calls follow one another by which pages are saved.
use Rattle.std.proofs.Common.{◌≡◌, ℕ, Bool, false, List, Option, Some, None, refl, sym, ◌∙◌, ap, arith}
use Rattle.std.specs.Prelude.{is_none, option_map, unwrap_or}
use Rattle.rss_base.specs.PageMap.{owner_of}
use Rattle.rss_base.specs.Paged.{Backing}
use Rattle.rss_base.specs.Steps.{PagesView, NoneChanged}
use Rattle.rss_base.specs.StoredPages.{slot_of}
use Rattle.rss_base.specs.declared.key.PageKey.{PageKey}
use Rattle.rss_base.specs.declared.root.Root.{Root}
use Rattle.rss_base.proofs.Keys.{owner_of-slot_of}
use Rattle.rss_buffer.specs.Saving.{SavingView, changed_by, AreSaveable, IsFresh, SavingStep}

-- one call after another
pub saving_then : {old mid new : PagesView} {before between after : SavingView} → SavingStep old mid before between → SavingStep mid new between after → SavingStep old new before after
saving_then one two = record {
  current = two.current ∙ one.current;
  waiting = λ key is. one.waiting key (two.waiting key is);
  held = λ told. two.held (one.told.0 told) ∙ one.held told;
  notes = two.notes ∙ one.notes;
  log_pages = two.log_pages ∙ one.log_pages;
  frames = two.frames ∙ one.frames;
  asks = two.asks ∙ one.asks;
  told = (λ told. two.told.0 (one.told.0 told), λ told. one.told.1 (two.told.1 told));
  later = omega (arith, one.later, two.later);
}

-- where the current map was saved no page was changed
pub none_changed : {pages : PagesView} {saving : SavingView} → AreSaveable pages saving → pages.backing.shadow ≡ saving.current → NoneChanged pages
none_changed {pages = pages} {saving = saving} saveable saved key =
    ap (λ (changed : PageKey → Bool). changed key) saveable.changed
    ∙ ap (λ (shadow : List (Option PageKey)). changed_by (record { current = saving.current; shadow = shadow }) key) saved
    ∙ unchanged (slot_of saving.current key) refl
  where
    unchanged : (o : Option ℕ) → slot_of saving.current key ≡ o → unwrap_or (option_map (λ slot. is_none (owner_of saving.current slot)) o) false ≡ false
    unchanged None is = refl
    unchanged (Some slot) is = ap (λ (o : Option PageKey). is_none o) (owner_of-slot_of saving.current key slot is)

-- and so right after the pages were read
pub fresh_unchanged : {root : Root} {table : List (Option PageKey)} {frames writes : ℕ} {pages : PagesView} {saving : SavingView} → IsFresh root table frames writes pages saving → AreSaveable pages saving → NoneChanged pages
fresh_unchanged fresh saveable = none_changed saveable (ap (λ (b : Backing). b.shadow) fresh.backing ∙ sym fresh.current)
