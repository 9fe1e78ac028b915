-- What may be asked, and what was answered, where other questions were asked before.
use Rattle.std.proofs.Common.{ℕ, Option, sym, subst}
use Rattle.std.proofs.Math.Logic.{∥∥₁_map}
use Rattle.rss_base.specs.Steps.{no_page}
use Rattle.rss_base.specs.declared.tid.Tid.{Tid}
use Rattle.rss_catalog.specs.Catalogs.{CatalogView}
use Rattle.rss_tuple.specs.Directory.{Bodies}
use Rattle.rss_tuple.specs.TupleSteps.{TuplesView, no_tuple}
use Rattle.rss_model.specs.Tables.{Tables}
use Rattle.rss_link.specs.Calls.{TellsBodies}
use Rattle.rss_link.proofs.TupleSteps.{TuplesStep, told_before, heaps_then, same_bodies}
use Rattle.rss_members.specs.Members.{SpellsMembers}
use Rattle.rss_members.specs.Calls.{both, Spells, MayAskBelow, MayAskChain, MayAskTuple, MayRelink}

module _ {cost : ℕ} {old new : TuplesView} (step : TuplesStep no_page no_tuple cost old new) (catalog : CatalogView) where
  -- the same tables are spelled
  pub spells_then : TellsBodies old → {tables : Tables} → Spells (both old catalog) tables → Spells (both new catalog) tables
  spells_then told {tables = tables} spells = subst (λ (b : Bodies). SpellsMembers catalog.listing b tables) (sym (same_bodies step told)) spells

  pub spells_before : TellsBodies old → {tables : Tables} → Spells (both new catalog) tables → Spells (both old catalog) tables
  spells_before told {tables = tables} spells = subst (λ (b : Bodies). SpellsMembers catalog.listing b tables) (same_bodies step told) spells

  pub below_then : {number : ℕ} {tid : Tid} → MayAskBelow (both old catalog) number tid → MayAskBelow (both new catalog) number tid
  below_then may = record {
    listed = may.listed;
    heaps = heaps_then step;
    knows = λ told. ∥∥₁_map (may.knows (told_before step told)) (λ knows. record { tables = knows.tables; link = knows.link; child = knows.child; spells = spells_then (told_before step told) knows.spells; listed = knows.listed; there = knows.there });
  }

  pub chain_then : {number : ℕ} {parent : Option Tid} → MayAskChain (both old catalog) number parent → MayAskChain (both new catalog) number parent
  chain_then may = record {
    listed = may.listed;
    form = may.form;
    heaps = heaps_then step;
    knows = λ told. ∥∥₁_map (may.knows (told_before step told)) (λ knows. (knows.0, spells_then (told_before step told) knows.1));
  }

  pub tuple_then : {number : ℕ} {tid : Tid} → MayAskTuple (both old catalog) number tid → MayAskTuple (both new catalog) number tid
  tuple_then may = record {
    listed = may.listed;
    heaps = heaps_then step;
    knows = λ told. ∥∥₁_map (may.knows (told_before step told)) (λ knows. record { tables = knows.tables; relation = knows.relation; spells = spells_then (told_before step told) knows.spells; listed = knows.listed; there = knows.there });
  }

  pub relink_then : MayRelink (both old catalog) → MayRelink (both new catalog)
  relink_then may = record {
    heaps = heaps_then step;
    knows = λ told. ∥∥₁_map (may.knows (told_before step told)) (λ knows. (knows.0, spells_then (told_before step told) knows.1));
  }

  -- tables that are known to be spelled, of which a test said that something can be done with them
  pub knows_then : {can : Tables → Type 0} → (TellsBodies old → ∥ ((tables : Tables) × Spells (both old catalog) tables) ∥₁) → (TellsBodies old → (tables : Tables) → Spells (both old catalog) tables → can tables)
      → TellsBodies new → ∥ ((tables : Tables) × Spells (both new catalog) tables × can tables) ∥₁
  knows_then knows can told = ∥∥₁_map (knows (told_before step told)) (λ k. (k.0, spells_then (told_before step told) k.1, can (told_before step told) k.0 k.1))
