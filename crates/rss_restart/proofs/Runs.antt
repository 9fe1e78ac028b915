-- Changes that can be made from tables, one after another, and the tables that they give.
use Rattle.std.proofs.Common.{◌≡◌, ℕ, ◌+◌, ◌*◌, ◌≤◌, List, [], ◌∷◌, ◌++◌, length, refl, sym, ap, subst, arith}
use Rattle.std.specs.List.{AllByRecursion}
use Rattle.std.proofs.lemmas.List.Sums.{sum_by-append, sum_by-cons}
use Rattle.rss_base.specs.Listings.{Listing}
use Rattle.rss_base.specs.declared.name.Name.{Name}
use Rattle.rss_log.specs.Logs.{LogView}
use Rattle.rss_model.specs.Tables.{Tables, content}
use Rattle.rss_model.specs.Fits.{Fits}
use Rattle.rss_model.specs.Meter.{counts_for}
use Rattle.rss_model.specs.Spares.{listed_bound}
use Rattle.rss_stored.specs.Store.{SpellsTables}
use Rattle.rss_model.proofs.Counts.{one_if}
use Rattle.rss_stored.proofs.ImageRooms.{bound_rises}
use Rattle.rss_model.proofs.LogLists.{all_append}
use Rattle.rss_entries.specs.Rooms.{image_places}
use Rattle.rss_access.specs.Changes.{AccessView, applied}
use Rattle.rss_restart.specs.Restarting.{entries_with}
use Rattle.rss_restart.specs.Walks.{Turn, Move, IsMove, turns_of, moved, moves_of, MovesFind, MovesFit, CanWalk}
use Rattle.rss_restart.proofs.Rooming.{entries_are}

-- where the changes of a log are made, and how many slots there are
pub record Ground : Type 0 where
  pub listing : Listing
  pub log : LogView
  pub slots : ℕ

-- changes of these turns lead from tables to the next ones, no more of each relation's tuples than these
pub record Runs (ground : Ground) (tables next : Tables) (turns : List Turn) (counts : Name → ℕ) : Type 0 where
  pub moves : List Move
  pub turns_are : turns_of moves ≡ turns
  pub are : AllByRecursion (IsMove ground.listing ground.log) moves
  pub find : MovesFind tables moves
  pub fit : MovesFit ground.slots tables moves
  pub few : (relation : Name) → moves_of moves relation ≤ counts relation
  pub gives : moved tables moves ≡ next

pub runs_none : {ground : Ground} {tables : Tables} → Fits ground.slots tables → Runs ground tables tables [] (λ relation. 0)
runs_none fit = record { moves = []; turns_are = refl; are = tt; find = tt; fit = fit; few = λ relation. omega arith; gives = refl }

pub runs_more : {ground : Ground} {tables next : Tables} {turns : List Turn} (counts all : Name → ℕ) (m : Move) → IsMove ground.listing ground.log m → content tables.contents m.change.item ≡ m.change.old → Fits ground.slots tables → ((relation : Name) → one_if (counts_for m.change.item relation) + counts relation ≤ all relation)
    → Runs ground (applied tables m.change) next turns counts → Runs ground tables next (m.next ∷ turns) all
runs_more counts all m is holds fit one rest = record {
  moves = m ∷ rest.moves;
  turns_are = ap (λ (ts : List Turn). m.next ∷ ts) rest.turns_are;
  are = (is, rest.are);
  find = (holds, rest.find);
  fit = (fit, rest.fit);
  few = λ relation. omega (arith, one relation, rest.few relation, sum_by-cons (λ (k : Move). one_if (counts_for k.change.item relation)) m rest.moves);
  gives = rest.gives;
}

-- ---- some of them, and then others

find_both : (tables : Tables) (one two : List Move) → MovesFind tables one → MovesFind (moved tables one) two → MovesFind tables (one ++ two)
find_both tables [] two first second = second
find_both tables (m ∷ one) two first second = (first.0, find_both (applied tables m.change) one two first.1 second)

fit_both : (slots : ℕ) (tables : Tables) (one two : List Move) → MovesFit slots tables one → MovesFit slots (moved tables one) two → MovesFit slots tables (one ++ two)
fit_both slots tables [] two first second = second
fit_both slots tables (m ∷ one) two first second = (first.0, fit_both slots (applied tables m.change) one two first.1 second)

abbrev pub ground_of : AccessView → LogView → Ground
ground_of at log = record { listing = at.catalog.listing; log = log; slots = at.pages.slots }

pub walk_both : {at : AccessView} {log : LogView} {tables mid next : Tables} {one two : List Turn} {counts counts_too : Name → ℕ} → SpellsTables at.pages.held at.catalog.listing tables → (first : Runs (ground_of at log) tables mid one counts) → (second : Runs (ground_of at log) mid next two counts_too)
    → 2 * length (first.moves ++ second.moves) + listed_bound at.catalog.listing (entries_with at.catalog.listing (λ relation. counts relation + counts_too relation)) ≤ image_places at.pages → CanWalk log at tables (first.moves ++ second.moves)
walk_both {at = at} {log = log} {tables = tables} {mid = mid} {counts = counts} {counts_too = counts_too} spells first second room = record {
  spells = spells;
  are = all_append (IsMove at.catalog.listing log) first.moves second.moves first.are second.are;
  find = find_both tables first.moves second.moves first.find (subst (λ (t : Tables). MovesFind t second.moves) (sym first.gives) second.find);
  fit = fit_both at.pages.slots tables first.moves second.moves first.fit (subst (λ (t : Tables). MovesFit at.pages.slots t second.moves) (sym first.gives) second.fit);
  room =
      let fewer = bound_rises at.catalog.listing (entries_with at.catalog.listing (moves_of (first.moves ++ second.moves))) (entries_with at.catalog.listing (λ relation. counts relation + counts_too relation)) (λ n relation is. omega (
        arith,
        entries_are at.catalog.listing (moves_of (first.moves ++ second.moves)) n relation is,
        entries_are at.catalog.listing (λ (name : Name). counts name + counts_too name) n relation is,
        sum_by-append (λ (k : Move). one_if (counts_for k.change.item relation.name)) first.moves second.moves,
        first.few relation.name,
        second.few relation.name,
      )) in
      omega (arith, room, fewer);
}
