-- What doesn't survive is undone.
use Rattle.std.proofs.Common.{◌≡◌, List, [], ◌∷◌, refl, sym, ◌∙◌, arith}
use Rattle.std.specs.Prelude.{map}
use Rattle.std.specs.List.{AllByRecursion}
use Rattle.std.proofs.lemmas.List.Sums.{sum_by-cons}
use Rattle.rss_base.specs.Listings.{Listing}
use Rattle.rss_base.specs.declared.change.Change as told
use Rattle.rss_base.specs.declared.change.Change.TheVariants.{Insert, Delete, Update, Connect, Disconnect}
use Rattle.rss_model.specs.Tables.{Contents, Tables}
use Rattle.rss_model.specs.Changes.{Change, undo, undone}
use Rattle.rss_model.specs.Meter.{changes_of, counts_for}
use Rattle.rss_model.specs.Records.{Listed, changes_in}
use Rattle.rss_model.specs.Restart.{UndoFinds, UndoFits}
use Rattle.rss_model.specs.Meanings.{item_told}
use Rattle.rss_model.proofs.Counts.{one_if}
use Rattle.rss_access.specs.Told.{reversed, turned}
use Rattle.rss_access.proofs.Telling.{reverse_means}
use Rattle.rss_restart.specs.declared.restarting.Way.TheVariants.{Back}
use Rattle.rss_restart.specs.Walks.{Move, IsMove, turn}
use Rattle.rss_restart.proofs.Runs.{Ground, Runs, runs_none, runs_more}
use Rattle.rss_restart.proofs.Sources.{IsSource}

item_same : (listing : Listing) (told_change : told.Change) → item_told listing (reversed told_change) ≡ item_told listing told_change
item_same listing (Insert number tid values) = refl
item_same listing (Delete number tid values) = refl
item_same listing (Update number tid from to) = refl
item_same listing (Connect link parent child left) = refl
item_same listing (Disconnect link parent child left) = refl

abbrev back : (l : Listed) → told.Change → Move
back l told_change = record { next = turn Back l.at; told_change = told_change; change = turned l.change }

module _ (ground : Ground) where
  is_back : (l : Listed) (source : IsSource ground.listing ground.log l) → IsMove ground.listing ground.log (back l source.told_change)
  is_back l source = record {
    tells = record { by = source.by; rest = source.rest; begins = source.begins };
    is = record { maker = refl; item = source.is.item ∙ sym (item_same ground.listing source.told_change) };
    means = reverse_means source.told_change ground.listing l.change source.means;
  }

  -- each undo is a change that is made
  pub undo_runs : (saved : Tables) (contents : Contents) (ls : List Listed) → AllByRecursion (IsSource ground.listing ground.log) ls → UndoFinds contents (changes_in ls) → UndoFits ground.slots saved contents (changes_in ls)
      → Runs ground (record saved { contents = contents }) (record saved { contents = undone contents (changes_in ls) }) (map (turn Back) (map (λ l. l.at) ls)) (changes_of (changes_in ls))
  undo_runs saved contents [] are finds fit = runs_none fit
  undo_runs saved contents (l ∷ ls) are finds fit = runs_more (changes_of (changes_in ls)) (changes_of (changes_in (l ∷ ls))) (back l are.0.told_change) (is_back l are.0) finds.0 fit.0
      (λ relation. omega (arith, sum_by-cons (λ (c : Change). one_if (counts_for c.item relation)) l.change (changes_in ls))) (undo_runs saved (undo contents l.change) ls are.1 finds.1 fit.1)
