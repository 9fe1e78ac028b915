-- A look leaves the draft over the same tables, and what may be asked may be asked still.
use Rattle.std.proofs.Common.{ℕ, sym, subst}
use Rattle.std.proofs.Math.Logic.{∥∥₁_map}
use Rattle.rss_base.specs.Paged.{Held}
use Rattle.rss_base.specs.Steps.{PagesView, PagesStep, no_page}
use Rattle.rss_base.proofs.Steps.{all_held}
use Rattle.rss_catalog.specs.Catalogs.{CatalogView}
use Rattle.rss_model.specs.Tables.{Tables}
use Rattle.rss_model.specs.Fits.{Fits, IsIdentifier}
use Rattle.rss_stored.specs.Store.{SpellsTables, AreNodesWithin}
use Rattle.rss_access.specs.Changes.{both, CanAlter}
use Rattle.rss_access.proofs.Looking.{heaps_looked}
use Rattle.rss_draft.specs.Views.{DraftView}
use Rattle.rss_draft.specs.Looks.{StandsOver}

pub fit_then : {asks outs : ℕ} {old new : PagesView} → PagesStep no_page asks outs old new → {tables : Tables} → Fits old.slots tables → Fits new.slots tables
fit_then step {tables = tables} fit = subst (λ (n : ℕ). Fits n tables) (sym step.passes.slots) fit

module _ {catalog : CatalogView} {asks outs : ℕ} {old new : PagesView} (step : PagesStep no_page asks outs old new) where
  pub over_then : {draft : DraftView} {saved tables : Tables} → StandsOver (both old catalog) draft saved tables → StandsOver (both new catalog) draft saved tables
  over_then {saved = saved} over = record {
    told = step.passes.leaves.told.0 over.told;
    spells = subst (λ (h : Held). SpellsTables h catalog.listing saved) (sym (all_held step over.told)) over.spells;
    fit = subst (λ (n : ℕ). Fits n saved) (sym step.passes.slots) over.fit;
    is = over.is;
  }

  pub alter_then : CanAlter (both old catalog) → CanAlter (both new catalog)
  alter_then can = record {
    heaps = λ told. let before = step.passes.leaves.told.1 told in heaps_looked step before (can.heaps before);
    tables = λ told.
        let before = step.passes.leaves.told.1 told in
        ∥∥₁_map (can.tables before) (λ has. record {
          tables = has.tables;
          spells = subst (λ (h : Held). SpellsTables h catalog.listing has.tables) (sym (all_held step before)) has.spells;
          tuples = has.tuples;
          tids = λ relation tid live. subst (λ (n : ℕ). IsIdentifier n tid) (sym step.passes.slots) (has.tids relation tid live);
          few = has.few;
          links = has.links;
          nodes = subst (λ (n : ℕ). AreNodesWithin n new.held catalog.listing) (sym step.passes.slots)
              (subst (λ (h : Held). AreNodesWithin old.slots h catalog.listing) (sym (all_held step before)) has.nodes);
        });
  }
