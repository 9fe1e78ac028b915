-- From the tables of the checkpoint to those that are recovered: the changes that are made.
use Rattle.std.proofs.Common.{◌≡◌, ℕ, ◌+◌, ◌≤◌, List, [], ◌++◌, length, append-nil, refl, sym, ◌∙◌, ap, subst, arith}
use Rattle.std.specs.Prelude.{map, true, not, Result, Err, IsErrAnd}
use Rattle.std.proofs.lemmas.Result.{err_from_is_err_and}
use Rattle.std.specs.List.{AllByRecursion}
use Rattle.std.proofs.lemmas.List.{length-append, length-map}
use Rattle.std.proofs.lemmas.List.Elements.{recursion_from_All}
use Rattle.rss_base.specs.DiskRule.{IsTold}
use Rattle.rss_base.specs.declared.fault.PageFault.{PageFault}
use Rattle.rss_base.specs.declared.fault.PageFault.TheVariants.{Device as DeviceFailed, Damaged}
use Rattle.rss_base.specs.declared.place.Place.{Place}
use Rattle.rss_base.proofs.Steps.{rests}
use Rattle.rss_log.specs.Logs.{LogView}
use Rattle.rss_model.specs.Tables.{Contents, Tables}
use Rattle.rss_model.specs.Changes.{undone}
use Rattle.rss_model.specs.Meter.{changes_of}
use Rattle.rss_model.specs.Records.{Placed, Listed, Rise, changes_in}
use Rattle.rss_model.specs.Restart.{losers, redone, stays}
use Rattle.rss_model.specs.Recovers.{lists_at, Restarts}
use Rattle.rss_model.specs.Meanings.{Logged, Says, MeansIt, is_listed, as_entries}
use Rattle.rss_stored.specs.Store.{SpellsTables}
use Rattle.rss_model.proofs.LogLists.{all_front, all_back, all_filter}
use Rattle.rss_stored.proofs.LogPlaced.{placed_rise, entries_append}
use Rattle.rss_model.proofs.LogTying.{restarts}
use Rattle.rss_access.specs.Changes.{AccessView}
use Rattle.rss_restart.specs.declared.restarting.Way.TheVariants.{Back, Again}
use Rattle.rss_restart.specs.Surveys.{IsLogOf, IsLogPlace, Surveys, redone_at}
use Rattle.rss_restart.specs.Restarting.{Recovery, CanRestart, RestartPasses, recovered_tables, changes_made, redone_of}
use Rattle.rss_restart.specs.Walks.{Turn, turn, Move, turns_of, moved, CanWalk, Leads, NoWalk, Walks}
use Rattle.rss_restart.specs.Walks.{Counted, turns_in}
use Rattle.rss_catalog.specs.Catalogs.{CatalogView}
use Rattle.rss_restart.proofs.Leading.{counted_both}
use Rattle.rss_restart.proofs.Keeping.{keeps_itself}
use Rattle.rss_restart.proofs.Runs.{Runs, ground_of, walk_both}
use Rattle.rss_restart.proofs.Sources.{Stands, stand_all, IsSource, sources}
use Rattle.rss_restart.proofs.Undoing.{undo_runs}
use Rattle.rss_restart.proofs.Redoing.{redo_runs}

-- what is undone, and the tables behind it
abbrev lost : Recovery → List Listed
lost r = losers (as_entries r.newer) (lists_at (as_entries r.older))

abbrev middle : Recovery → Tables
middle r = record r.saved { contents = undone r.saved.contents (changes_in (lost r)) }

length_turns : {turns : List Turn} (moves : List Move) → turns_of moves ≡ turns → length moves ≡ length turns
length_turns moves is = sym (length-map moves (λ (m : Move). m.next)) ∙ ap (λ (ts : List Turn). length ts) is

module _ {at : AccessView} {log : LogView} {checkpoint : ℕ} {r : Recovery} (can : CanRestart at log checkpoint r) where
  stand : AllByRecursion (Stands log) (r.older ++ r.newer)
  stand = stand_all log (r.older ++ r.newer) can.records.records

  say : AllByRecursion (λ l. Says at.catalog.listing l.told l.is) (r.older ++ r.newer)
  say = recursion_from_All (λ l. Says at.catalog.listing l.told l.is) (r.older ++ r.newer) can.means.say

  have_sources : AllByRecursion (IsSource at.catalog.listing log) (lost r)
  have_sources = all_filter (IsSource at.catalog.listing log) (IsSource at.catalog.listing log) (λ l. not (stays (as_entries r.newer) l)) (lists_at (as_entries r.older)) (λ l off is. is)
      (sources at.catalog.listing log r.older (all_front (Stands log) r.older r.newer stand) (all_front (λ l. Says at.catalog.listing l.told l.is) r.older r.newer say)
      (recursion_from_All (λ l. is_listed l.at (lists_at (as_entries r.older)) ≡ true → MeansIt at.catalog.listing l.told l.is) r.older can.means.listed))

  rise : Rise log.head (as_entries r.older ++ as_entries r.newer) log.end
  rise = subst (λ (ps : List Placed). Rise log.head ps log.end) (entries_append r.older r.newer) (placed_rise log.head log.end (r.older ++ r.newer) can.records.records.placed)

  restart : Restarts r.saved.contents (as_entries r.older) (as_entries r.newer) r.base
  restart = restarts log.head log.end r.saved.contents r.base (as_entries r.older) (as_entries r.newer) rise can.recovers

  backs : Runs (ground_of at log) r.saved (middle r) (map (turn Back) (map (λ l. l.at) (lost r))) (changes_of (changes_in (lost r)))
  backs = undo_runs (ground_of at log) r.saved r.saved.contents (lost r) have_sources restart.undo can.way.undo

  agains : Runs (ground_of at log) (middle r) (record r.saved { contents = redone (middle r).contents (as_entries r.newer) }) (map (turn Again) (redone_at r.newer)) (redone_of r.newer)
  agains = redo_runs (ground_of at log) r.saved (middle r).contents r.newer (all_back (Stands log) r.older r.newer stand) (all_back (λ l. Says at.catalog.listing l.told l.is) r.older r.newer say) can.means.later restart.redo can.way.redo

  -- all of them can be made
  walk : CanWalk log at r.saved (backs.moves ++ agains.moves)
  walk = walk_both can.spells backs agains (omega (arith, can.room, length-append backs.moves agains.moves, length_turns backs.moves backs.turns_are, length_turns agains.moves agains.turns_are, length-map (map (λ (l : Listed). l.at) (lost r)) (turn Back), length-map (lost r) (λ (l : Listed). l.at), length-map (redone_at r.newer) (turn Again)))

  module _ {undone redone : List ℕ} (surveys : Surveys r.older r.newer undone redone) where
    backs_are : turns_of backs.moves ≡ map (turn Back) undone
    backs_are = backs.turns_are ∙ ap (map (turn Back)) (sym surveys.undone_is)

    agains_are : turns_of agains.moves ≡ map (turn Again) redone
    agains_are = agains.turns_are ∙ ap (map (turn Again)) (sym surveys.redone_is)

    -- what is undone can be
    pub not_undone : NoWalk log (map (turn Back) undone) at → ⊥
    not_undone none = none r.saved backs.moves agains.moves backs_are walk

    module _ {mid : AccessView} (told : IsTold at.pages.disk) (undoes : Leads log (map (turn Back) undone) at mid) where
      reached : CanWalk log mid (moved r.saved backs.moves) (agains.moves ++ [])
      reached = subst (λ (ms : List Move). CanWalk log mid (moved r.saved backs.moves) ms) (sym (append-nil agains.moves)) (undoes told r.saved backs.moves agains.moves backs_are walk)

      -- what is done again can be
      pub not_redone : NoWalk log (map (turn Again) redone) mid → ⊥
      not_redone none = none (moved r.saved backs.moves) agains.moves [] agains_are reached

      -- the pages come to spell what is recovered
      pub recovers_all : {new : AccessView} → IsTold mid.pages.disk → Leads log (map (turn Again) redone) mid new → SpellsTables new.pages.held new.catalog.listing (recovered_tables r)
      recovers_all {new = new} still redoes =
          let ends = redoes still (moved r.saved backs.moves) agains.moves [] agains_are reached in
          subst (λ (t : Tables). SpellsTables new.pages.held new.catalog.listing t)
          (ap (λ (t : Tables). moved t agains.moves) backs.gives ∙ agains.gives ∙ ap (λ (c : Contents). record { definitions = r.saved.definitions; contents = c }) restart.gives)
          ends.spells

-- ---- how many there are

pub few_undone : {older newer : List Logged} {undone redone : List ℕ} → Surveys older newer undone redone → length undone ≤ changes_made older newer
few_undone {older = older} {newer = newer} surveys = omega (arith, ap (λ (ps : List ℕ). length ps) surveys.undone_is, length-map (losers (as_entries newer) (lists_at (as_entries older))) (λ (l : Listed). l.at))

pub few_both : {older newer : List Logged} {undone redone : List ℕ} → Surveys older newer undone redone → length undone + length redone ≤ changes_made older newer
few_both {older = older} {newer = newer} surveys = omega (arith, ap (λ (ps : List ℕ). length ps) surveys.undone_is, ap (λ (ps : List ℕ). length ps) surveys.redone_is, length-map (losers (as_entries newer) (lists_at (as_entries older))) (λ (l : Listed). l.at))

-- ---- what is passed on

-- where nothing was changed
pub passes_nothing : {U : Type 0} {log : LogView} {checkpoint : ℕ} {fault : PageFault} (view : AccessView) (result : Result U PageFault) → IsErrAnd result (λ why. why ≡ fault) → (fault ≡ DeviceFailed → ⊥) → ((place : Place) → fault ≡ Damaged place → IsLogPlace log place) → RestartPasses log checkpoint view view result
passes_nothing {U = U} {log = log} {checkpoint = checkpoint} {fault = fault} view result is device place =
    let why = err_from_is_err_and result is in
    subst (λ (r : Result U PageFault). RestartPasses log checkpoint view view r) (sym (why.1 ∙ ap Err why.2)) (record {
      made = 0;
      most = λ older newer is. omega arith;
      step = rests view.pages;
      takes = tt;
      keeps = keeps_itself view;
      failed = λ is. let same : fault ≡ DeviceFailed = cc in absurd (device same);
      unmade = λ is. rests view.pages;
      same = λ is. refl;
      place = λ at is. let same : fault ≡ Damaged at = cc in place at same;
    })

-- of the changes that were made
pub passes_walk : {U : Type 0} {log : LogView} {checkpoint most : ℕ} {old new : AccessView} {result : Result U PageFault} → ((older newer : List Logged) → IsLogOf old.catalog.listing log checkpoint older newer → most ≤ changes_made older newer) → Walks log most old new result → RestartPasses log checkpoint old new result
passes_walk few walks = record {
  made = walks.made;
  most = λ older newer is. omega (arith, walks.few, few older newer is);
  step = walks.step;
  takes = walks.takes;
  keeps = walks.keeps;
  failed = walks.failed;
  unmade = λ is. absurd (walks.memory is);
  same = λ is. absurd (walks.memory is);
  place = walks.place;
}

-- ---- what is counted

pub counted_all : {log : LogView} {older newer : List Logged} {undone redone : List ℕ} {old mid new : CatalogView} → Surveys older newer undone redone → Counted log (map (turn Back) undone) old mid → Counted log (map (turn Again) redone) mid new → Counted log (turns_in older newer) old new
counted_all {log = log} {old = old} {new = new} surveys one two =
    subst (λ (turns : List Turn). Counted log turns old new) (λ i. map (turn Back) (surveys.undone_is i) ++ map (turn Again) (surveys.redone_is i)) (counted_both one two)
