-- A change that is made: what the log tells of the others means the same afterwards.
use Rattle.std.proofs.Common.{◌≡◌, ℕ, ◌+◌, List, [], ◌∷◌, sym, ◌∙◌, ap, subst, arith}
use Rattle.std.specs.Prelude.{true, Option, Some, unwrap_or}
use Rattle.std.specs.List.{AllByRecursion}
use Rattle.std.proofs.lemmas.List.Sums.{sum_by-cons}
use Rattle.std.proofs.lemmas.Option.{none-some}
use Rattle.rss_base.specs.DiskRule.{IsTold}
use Rattle.rss_base.specs.Listings.{Listing, relation_at}
use Rattle.rss_base.specs.declared.name.Name.{Name}
use Rattle.rss_base.specs.declared.item.Item.{Item}
use Rattle.rss_base.specs.declared.relation.RelationEntry.{RelationEntry}
use Rattle.rss_base.specs.declared.refusal.Kind.TheVariants.{Relation as RelationKind}
use Rattle.rss_base.specs.declared.change.Change as told
use Rattle.rss_base.specs.declared.change.Change.TheVariants.{Insert, Delete, Update, Connect, Disconnect}
use Rattle.rss_base.specs.declared.log_record.LogRecord.TheVariants as records
use Rattle.rss_record.proofs.Records.{one_front}
use Rattle.rss_log.specs.Logs.{LogView}
use Rattle.rss_model.specs.Items.{is_name}
use Rattle.rss_model.specs.Tables.{Tables}
use Rattle.rss_model.specs.Changes.{Change}
use Rattle.rss_model.specs.Fits.{Fits}
use Rattle.rss_model.specs.Records.{Changed}
use Rattle.rss_model.specs.Meanings.{SameDefinitions, IsChangeTold, Says, item_told, name_at, nameless}
use Rattle.rss_model.specs.Meanings.Says.{says_change}
use Rattle.rss_model.specs.Meter.{counts_for}
use Rattle.rss_model.proofs.Codes.{name_total, name_apart}
use Rattle.rss_model.proofs.Contents.{tied}
use Rattle.rss_model.proofs.Counts.{one_if}
use Rattle.rss_model.proofs.LogMeaning.{says_same, means_it_same}
use Rattle.rss_stored.proofs.Relisted.{number_of}
use Rattle.rss_access.specs.Told.{IsTupleRecord, number_told}
use Rattle.rss_access.specs.Relisted.{Relists}
use Rattle.rss_access.proofs.Relisting.{relists_same}
use Rattle.rss_access.specs.Changes.{AccessView, HasRoom, HasRoomFor, Applies, CanApply, applied}
use Rattle.rss_restart.specs.Walks.{Move, TellsAt, StepsTo, NoStep, IsMove, CanWalk, MovesFit, directed, moves_of}
use Rattle.rss_restart.proofs.Rooming.{has_room, bound_left}

-- ---- the other changes

told_by : {listing : Listing} {by : ℕ} {told_change : told.Change} {change : Change} → Says listing (records.Change by told_change) (Changed change) → IsChangeTold listing by told_change change
told_by (says_change tells) = tells

module _ (log : LogView) {old now : Listing} (same : SameDefinitions old now) where
  move_still : (m : Move) → IsMove old log m → IsMove now log m
  move_still m move = record {
    tells = move.tells;
    is = told_by (says_same old now same (says_change move.is));
    means = means_it_same old now same (says_change move.is) move.means;
  }

  moves_still : (moves : List Move) → AllByRecursion (IsMove old log) moves → AllByRecursion (IsMove now log) moves
  moves_still [] are = tt
  moves_still (m ∷ moves) are = (move_still m are.0, moves_still moves are.1)

-- ---- the change at a position

same_change : (by other : ℕ) (one two : told.Change) → records.Change by one ≡ records.Change other two → one ≡ two
same_change by other one two same = cc (same)

-- one change alone is told there
pub told_once : {log : LogView} {at : ℕ} {one two : told.Change} → TellsAt log at one → TellsAt log at two → one ≡ two
told_once {one = one} {two = two} first second =
    same_change first.by second.by one two (one_front (records.Change first.by one) (records.Change second.by two) first.rest second.rest first.begins.spellable second.begins.spellable (sym first.begins.is ∙ second.begins.is)).0

-- ---- the relation of a change

-- it is the relation that the machine's change counts for
tells_of : (listing : Listing) (told_change : told.Change) → IsTupleRecord told_change → (relation : RelationEntry) → relation_at listing (number_told told_change) ≡ Some relation → counts_for (item_told listing told_change) relation.name ≡ true
tells_of listing told_change is relation at = by told_change is (named (number_told told_change) at)
  where
    named : (number : ℕ) → relation_at listing number ≡ Some relation → is_name relation.name (name_at RelationKind listing number) ≡ true
    named number at =
        let name : name_at RelationKind listing number ≡ relation.name = ap (λ (name : Option Name). unwrap_or name (nameless number)) (number_of listing number relation at) in
        ap (is_name relation.name) name ∙ tied name_total name_apart relation.name

    by : (told_change : told.Change) → IsTupleRecord told_change → is_name relation.name (name_at RelationKind listing (number_told told_change)) ≡ true → counts_for (item_told listing told_change) relation.name ≡ true
    by (Insert number tid values) is same = same
    by (Delete number tid values) is same = same
    by (Update number tid from to) is same = same
    by (Connect link parent child left) is same = absurd is
    by (Disconnect link parent child left) is same = absurd is

-- there is room for a change, where there is for one of a tuple and for one of a chain
room_for : (at : AccessView) (change : told.Change) → (IsTupleRecord change → HasRoom at (number_told change)) → HasRoom at 0 → HasRoomFor at change
room_for at (Insert number tid values) room room_chain = room tt
room_for at (Delete number tid values) room room_chain = room tt
room_for at (Update number tid from to) room room_chain = room tt
room_for at (Connect link parent child left) room room_chain = room_chain
room_for at (Disconnect link parent child left) room room_chain = room_chain

-- ---- the first of the changes that can be made

pub fits_now : (slots : ℕ) (tables : Tables) (moves : List Move) → MovesFit slots tables moves → Fits slots tables
fits_now slots tables [] fit = fit
fits_now slots tables (m ∷ moves) fit = fit.0

module _ {log : LogView} {at : AccessView} {tables : Tables} {m : Move} {moves : List Move} (can : CanWalk log at tables (m ∷ moves)) where
  pub can_make : CanApply at (directed m.next.way m.told_change) tables m.change
  can_make = record {
    spells = can.spells;
    tells = can.are.0.is;
    means = can.are.0.means;
    holds = can.find.0;
    fit = can.fit.0;
    fit_next = fits_now at.pages.slots (applied tables m.change) moves can.fit.1;
  }

  -- one of a tuple counts for its relation
  counts_one : IsTupleRecord (directed m.next.way m.told_change) → (relation : RelationEntry) → relation_at at.catalog.listing (number_told (directed m.next.way m.told_change)) ≡ Some relation → moves_of (m ∷ moves) relation.name ≡ 1 + moves_of moves relation.name
  counts_one tuple relation is =
      let counts : counts_for m.change.item relation.name ≡ true =
      ap (λ (item : Item). counts_for item relation.name) can.are.0.is.item
      ∙ tells_of at.catalog.listing (directed m.next.way m.told_change) tuple relation is in
      omega (arith, sum_by-cons (λ (k : Move). one_if (counts_for k.change.item relation.name)) m moves, ap one_if counts)

  room_first : HasRoomFor at (directed m.next.way m.told_change)
  room_first = room_for at (directed m.next.way m.told_change) (λ tuple.
      has_room at (number_told (directed m.next.way m.told_change)) (moves_of (m ∷ moves))
      (λ relation is. omega (arith, counts_one tuple relation is))
      (omega (arith, can.room)))
      (has_room at 0 (moves_of (m ∷ moves)) (λ relation none. absurd (none-some relation none)) (omega (arith, can.room)))

  -- it is one that can be made
  pub no_step_walks : NoStep log m.next at → ⊥
  no_step_walks none = none m.told_change can.are.0.tells room_first tables m.change can_make

  -- once it is made, the others can be
  pub walks_on : {now : AccessView} → StepsTo log m.next at now → IsTold at.pages.disk → now.pages.slots ≡ at.pages.slots → CanWalk log now (applied tables m.change) moves
  walks_on {now = now} step on slots =
      let same : step.told_change ≡ m.told_change = told_once step.tells can.are.0.tells in
      let does : Applies (directed m.next.way m.told_change) at now = subst (λ (c : told.Change). Applies (directed m.next.way c) at now) same step.applies in
      let relists : Relists (directed m.next.way m.told_change) at.catalog now.catalog = subst (λ (c : told.Change). Relists (directed m.next.way c) at.catalog now.catalog) same step.relists in
      record {
        spells = does on tables m.change can_make;
        are = moves_still log (relists_same relists) moves can.are.1;
        find = can.find.1;
        fit = subst (λ (slots : ℕ). MovesFit slots (applied tables m.change) moves) (sym slots) can.fit.1;
        room =
            let left = bound_left relists (moves_of (m ∷ moves)) (moves_of moves)
            (λ name. omega (arith, sum_by-cons (λ (k : Move). one_if (counts_for k.change.item name)) m moves))
            (λ tuple relation is. omega (arith, counts_one tuple relation is)) in
            omega (arith, can.room, step.takes.places, left);
      }
