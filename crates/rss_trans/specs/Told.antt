-- What is kept of open transactions is what the machine has of them: its save points, and its changes with the positions of their records.
use Rattle.std.specs.Prelude.{◌≡◌, ℕ, ◌+◌, ◌-◌, ◌*◌, ◌^◌, ◌<◌, ◌≤◌, ◌&&◌, Bool, true, false, List, [], ◌∷◌, ◌++◌, length, map, reverse, take, slice_get, count_by, All, Option, Some, None, is_some, is_none, option_map, MatchOption}
use Rattle.std.specs.Ordering.{nat_cmp}
use Rattle.std.specs.FinMap as finite
use Rattle.std.specs.FinMap.{FinMap}
use Rattle.rss_base.specs.declared.item.Item.{Item}
use Rattle.rss_base.specs.declared.item.Item.TheVariants.{Tuple}
use Rattle.rss_base.specs.declared.name.Name.{Name}
use Rattle.rss_base.specs.declared.refusal.Kind.TheVariants as kinds
use Rattle.rss_base.specs.Sizes.{largest_checkpoint}
use Rattle.rss_base.specs.declared.log_record.LogRecord.TheVariants as records
use Rattle.rss_base.specs.LogRecords.{IsSpellable, marks_most}
use Rattle.rss_base.specs.Listings.{Listing, IsNumberOf, AreListedOnce}
use Rattle.rss_model.specs.Tables.{Definitions, Tables}
use Rattle.rss_model.specs.Changes.{Change, maker, mine, theirs, own, others, kept_to, is_delete_of}
use Rattle.rss_model.specs.Meter.{Stamp, Meter, restore_size, end_size, changers, owed}
use Rattle.rss_model.specs.Meter as meter
use Rattle.rss_model.specs.Machine.{State}
use Rattle.rss_model.specs.Steps.{stamp_by, left_at}
use Rattle.rss_model.specs.Records.{Listed, changes_in, own_in, others_in}
use Rattle.rss_model.specs.Recovers.{NamesLists}
use Rattle.rss_model.specs.Meanings.{SameDefinitions}
use Rattle.rss_model.specs.Ties.{StandsAt}
use Rattle.rss_model.specs.EngineLogs.{EngineLog, lists_now, stamp_of, TiesState}
use Rattle.rss_trans.specs.declared.noted.Noted.{Noted}
use Rattle.rss_trans.specs.Transactions.{OpenView, is_open, transaction_in, newest_after, with_save, cut_at, without_newest, IsSame, Begins, Steps, Notes, Ends, Checkpoints, any, of_relation, sums_of, marks_of}

-- ---- notes of changes

-- the item is a tuple of the relation that has this number, or of none
abbrev pub IsNumbered : Listing → Item → Option ℕ → Type 0
IsNumbered listing (Tuple relation tid) noted =
    (number : ℕ) × (noted ≡ Some number) × IsNumberOf kinds.Relation listing relation number
IsNumbered listing other noted = noted ≡ None

abbrev pub is_tuple : Item → Bool
is_tuple (Tuple relation tid) = true
is_tuple other = false

-- a tuple is deleted
abbrev pub takes_away : Change → Bool
takes_away change = is_tuple change.item && is_some change.old && is_none change.new

-- it tells this change
pub record IsNoteOf (listing : Listing) (note : Noted) (l : Listed) : Type 0 where
  pub position : note.position ≡ l.at
  pub relation : IsNumbered listing l.change.item note.relation
  pub is_delete : note.is_delete ≡ takes_away l.change

-- They tell these changes, one each. Notes have the oldest first, and changes the newest.
abbrev pub AreNotesOf : Listing → List Noted → List Listed → Type 0
AreNotesOf listing notes [] = notes ≡ []
AreNotesOf listing notes (l ∷ ls) =
    (older : List Noted) × (note : Noted) × (notes ≡ older ++ note ∷ [])
    × IsNoteOf listing note l × AreNotesOf listing older ls

-- ---- open transactions

-- of each transaction, for each save point how many changes it had made before
abbrev pub SavePoints : Type 0
SavePoints = FinMap nat_cmp (List ℕ)

-- saves: the transactions that have marks are open, and each has the save points that they tell.
-- changes: each has those of the changes that it made, and none was made by another.
pub record TellsOpen (listing : Listing) (view : OpenView) (marks : SavePoints)
    (ls : List Listed) : Type 0 where
  pub saves : (t : ℕ)
      → option_map (λ x. x.saves) (finite.get view.transactions t) ≡ finite.get marks t
  pub changes : (t : ℕ) → AreNotesOf listing (transaction_in view t).changes (own_in t ls)

abbrev pub listed_by : Listed → ℕ
listed_by l = l.change.by

-- ---- laws of the steps

-- what fails leaves it
abbrev pub SameTells : Type 0
SameTells = (listing : Listing) (old new : OpenView) (marks : SavePoints) (ls : List Listed)
    → TellsOpen listing old marks ls → IsSame old new → TellsOpen listing new marks ls

abbrev pub CheckpointTells : Type 0
CheckpointTells = (listing : Listing) (old new : OpenView) (marks : SavePoints) (ls : List Listed)
    → TellsOpen listing old marks ls → Checkpoints old new → TellsOpen listing new marks ls

-- under a listing in which the relations keep their numbers
abbrev pub RelistedTells : Type 0
RelistedTells = (listing other : Listing) (view : OpenView) (marks : SavePoints) (ls : List Listed)
    → TellsOpen listing view marks ls
    → ((relation : Name) (number : ℕ) → IsNumberOf kinds.Relation listing relation number
    → IsNumberOf kinds.Relation other relation number)
    → TellsOpen other view marks ls

-- of the same definitions
abbrev pub RecountedTells : Type 0
RecountedTells = (listing other : Listing) (view : OpenView) (marks : SavePoints) (ls : List Listed)
    → TellsOpen listing view marks ls → SameDefinitions listing other
    → TellsOpen other view marks ls

abbrev pub NoneTells : Type 0
NoneTells = (listing : Listing) (view : OpenView) → view.transactions ≡ finite.empty
    → TellsOpen listing view finite.empty []

abbrev pub BeginTells : Type 0
BeginTells = (listing : Listing) (old new : OpenView) (marks : SavePoints) (ls : List Listed)
    (t : ℕ) → TellsOpen listing old marks ls → is_open old t ≡ false → Begins t old new
    → TellsOpen listing new (finite.insert marks t []) ls

abbrev pub ChangeTells : Type 0
ChangeTells = (listing : Listing) (old new : OpenView) (marks : SavePoints) (ls : List Listed)
    (note : Noted) (l : Listed)
    → TellsOpen listing old marks ls → is_open old l.change.by ≡ true → IsNoteOf listing note l
    → Notes l.change.by note old new → TellsOpen listing new marks (l ∷ ls)

abbrev pub SaveTells : Type 0
SaveTells = (listing : Listing) (old new : OpenView) (marks : SavePoints) (ls : List Listed)
    (t : ℕ) (saves : List ℕ)
    → TellsOpen listing old marks ls → finite.get marks t ≡ Some saves → Steps t with_save old new
    → TellsOpen listing new
    (finite.insert marks t (saves ++ length (own t (changes_in ls)) ∷ [])) ls

abbrev pub CutTells : Type 0
CutTells = (listing : Listing) (old new : OpenView) (marks : SavePoints) (ls : List Listed)
    (t save : ℕ) (saves : List ℕ)
    → TellsOpen listing old marks ls → finite.get marks t ≡ Some saves
    → Steps t (cut_at save) old new
    → TellsOpen listing new (finite.insert marks t (take save saves)) ls

-- On a way back one change fewer stays of the transaction's, and then so many.
abbrev pub TakenTells : Type 0
TakenTells = (listing : Listing) (old new : OpenView) (marks : SavePoints) (ls : List Listed)
    (t n : ℕ)
    → TellsOpen listing old marks (kept_to listed_by t (n + 1) ls) → is_open old t ≡ true
    → length (transaction_in old t).changes ≡ n + 1 → Steps t without_newest old new
    → TellsOpen listing new marks (kept_to listed_by t n ls)

abbrev pub EndTells : Type 0
EndTells = (listing : Listing) (old new : OpenView) (marks : SavePoints) (ls : List Listed) (t : ℕ)
    → TellsOpen listing old marks ls → Ends t old new
    → TellsOpen listing new (finite.remove marks t) (others_in t ls)

-- after a way back on which so many of its changes stay
abbrev pub AbortTells : Type 0
AbortTells = (listing : Listing) (old new : OpenView) (marks : SavePoints) (ls : List Listed)
    (t n : ℕ)
    → TellsOpen listing old marks (kept_to listed_by t n ls) → Ends t old new
    → TellsOpen listing new (finite.remove marks t) (others_in t ls)

-- ---- laws of the lists

-- it has the machine's changes with their stamps
pub record IsListOf (changes : List Change) (stamps : List Stamp) (ls : List Listed) : Type 0 where
  pub changes_are : changes_in ls ≡ changes
  pub stamps_are : map stamp_of ls ≡ stamps

-- what the log of an engine lists is such
abbrev pub TiedListed : Type 0
TiedListed = (listing : Listing) (saved : Tables) (log : EngineLog) (state : State)
    → TiesState listing saved log state → IsListOf state.changes state.meter.stamps (lists_now log)

-- and no other list
abbrev pub ListedOnce : Type 0
ListedOnce = (changes : List Change) (stamps : List Stamp) (one other : List Listed)
    → IsListOf changes stamps one → IsListOf changes stamps other → one ≡ other

-- of a transaction's changes the oldest so many stay
abbrev pub BackListed : Type 0
BackListed = (changes : List Change) (stamps : List Stamp) (ls : List Listed) (t n : ℕ)
    → IsListOf changes stamps ls
    → IsListOf (kept_to maker t n changes) (kept_to stamp_by t n stamps) (kept_to listed_by t n ls)

abbrev pub GoneListed : Type 0
GoneListed = (changes : List Change) (stamps : List Stamp) (ls : List Listed) (t : ℕ)
    → IsListOf changes stamps ls
    → IsListOf (others t changes) (theirs stamp_by t stamps) (others_in t ls)

-- a change that stays stands where it stood
abbrev pub StandsBefore : Type 0
StandsBefore = (ls : List Listed) (t n at kept : ℕ) → StandsAt t n at (kept_to listed_by t kept ls)
    → StandsAt t n at ls

-- all of them stay
abbrev pub AllStay : Type 0
AllStay = (ls : List Listed) (t n : ℕ) → length (own t (changes_in ls)) ≤ n
    → kept_to listed_by t n ls ≡ ls

-- ---- laws of what is asked

abbrev pub OpenTold : Type 0
OpenTold = (listing : Listing) (view : OpenView) (marks : SavePoints) (ls : List Listed)
    → TellsOpen listing view marks ls
    → (t : ℕ) → is_open view t ≡ is_some (finite.get marks t)

abbrev pub KeysTold : Type 0
KeysTold = (listing : Listing) (view : OpenView) (marks : SavePoints) (ls : List Listed)
    → TellsOpen listing view marks ls → finite.keys view.transactions ≡ finite.keys marks

abbrev pub CountTold : Type 0
CountTold = (listing : Listing) (view : OpenView) (marks : SavePoints) (ls : List Listed)
    → TellsOpen listing view marks ls → finite.len view.transactions ≡ finite.len marks

abbrev pub SavesTold : Type 0
SavesTold = (listing : Listing) (view : OpenView) (marks : SavePoints) (ls : List Listed) (t : ℕ)
    (saves : List ℕ)
    → TellsOpen listing view marks ls → finite.get marks t ≡ Some saves
    → (transaction_in view t).saves ≡ saves

abbrev pub ChangesTold : Type 0
ChangesTold = (listing : Listing) (view : OpenView) (marks : SavePoints) (ls : List Listed)
    → TellsOpen listing view marks ls
    → (t : ℕ) → length (transaction_in view t).changes ≡ length (own t (changes_in ls))

-- each change was made by an open transaction
abbrev pub MakersOpen : Type 0
MakersOpen = (listing : Listing) (view : OpenView) (marks : SavePoints) (ls : List Listed)
    → TellsOpen listing view marks ls → All (λ l. is_open view l.change.by ≡ true) ls

-- the positions of its changes are those of its stamps
abbrev pub positions_of : ℕ → List Listed → List ℕ
positions_of t ls = reverse (map (λ stamp. stamp.at) (mine stamp_by t (map stamp_of ls)))

abbrev pub PositionsTold : Type 0
PositionsTold = (listing : Listing) (view : OpenView) (marks : SavePoints) (ls : List Listed)
    → TellsOpen listing view marks ls
    → (t : ℕ) → map (λ note. note.position) (transaction_in view t).changes ≡ positions_of t ls

-- the newest change of a transaction stands here, and it has more than so many
pub record IsNewest (t left at : ℕ) (ls : List Listed) : Type 0 where
  pub older : ℕ
  pub count : length (own t (changes_in ls)) ≡ older + 1
  pub more : left ≤ older
  pub stands : StandsAt t older at ls
  pub stamped : slice_get (positions_of t ls) older ≡ Some at

abbrev pub NewestTold : Type 0
NewestTold = (listing : Listing) (view : OpenView) (marks : SavePoints) (ls : List Listed)
    (t save : ℕ) (saves : List ℕ)
    → TellsOpen listing view marks ls → finite.get marks t ≡ Some saves
    → MatchOption (newest_after (transaction_in view t) save)
    (length (own t (changes_in ls)) ≤ left_at saves save)
    (λ at. IsNewest t (left_at saves save) at ls)

-- what a checkpoint's record names
abbrev pub NamesTold : Type 0
NamesTold = (listing : Listing) (view : OpenView) (marks : SavePoints) (ls : List Listed)
    → TellsOpen listing view marks ls → NamesLists (marks_of (finite.entries view.transactions)) ls

abbrev pub NamesCounted : Type 0
NamesCounted = (listing : Listing) (view : OpenView) (marks : SavePoints) (ls : List Listed)
    → TellsOpen listing view marks ls
    → length (marks_of (finite.entries view.transactions)) ≡ changers (map stamp_of ls)

abbrev pub NamesFew : Type 0
NamesFew = (view : OpenView)
    → length (marks_of (finite.entries view.transactions)) ≤ finite.len view.transactions

-- they can be spelled
abbrev pub NamesSpelled : Type 0
NamesSpelled = (listing : Listing) (view : OpenView) (marks : SavePoints) (ls : List Listed)
    → TellsOpen listing view marks ls → finite.len marks ≤ marks_most
    → ((t : ℕ) → is_open view t ≡ true → t < 2 ^ 32) → All (λ l. l.at < 2 ^ 64) ls
    → IsSpellable (records.Checkpoint (marks_of (finite.entries view.transactions)))

-- ---- laws of the sums

abbrev pub SumsTold : Type 0
SumsTold = (listing : Listing) (view : OpenView) (marks : SavePoints) (ls : List Listed) (since : ℕ)
    → TellsOpen listing view marks ls
    → (sums_of any since (finite.values view.transactions)).p ≡ length ls

abbrev pub ChangersTold : Type 0
ChangersTold = (listing : Listing) (view : OpenView) (marks : SavePoints) (ls : List Listed)
    (since : ℕ)
    → TellsOpen listing view marks ls
    → (sums_of any since (finite.values view.transactions)).q ≡ changers (map stamp_of ls)

-- what the log owes
abbrev pub OwedTold : Type 0
OwedTold = (listing : Listing) (view : OpenView) (marks : SavePoints) (ls : List Listed) (since : ℕ)
    → TellsOpen listing view marks ls
    → let sums = sums_of any since (finite.values view.transactions) in
    owed (map stamp_of ls) ≡ restore_size * sums.p + end_size * sums.q + largest_checkpoint

abbrev pub DeletesTold : Type 0
DeletesTold = (listing : Listing) (view : OpenView) (marks : SavePoints) (ls : List Listed)
    (since number : ℕ) (relation : Name)
    → TellsOpen listing view marks ls → AreListedOnce kinds.Relation listing
    → IsNumberOf kinds.Relation listing relation number
    → (sums_of (of_relation number) since (finite.values view.transactions)).d
    ≡ count_by (is_delete_of relation) (changes_in ls)

-- ---- laws of the counts since a checkpoint

-- they are the meter's, which counts no more in one relation than in all
pub record TellsSince (listing : Listing) (view : OpenView) (now : Meter) : Type 0 where
  pub all : view.since ≡ now.since
  pub each : (relation : Name) (number : ℕ) → IsNumberOf kinds.Relation listing relation number
      → view.since_of number ≡ (now.traffic relation).since
  pub fewer : (relation : Name) → (now.traffic relation).since ≤ now.since

-- a change counts in both, as far as a u64 counts
abbrev pub SinceTold : Type 0
SinceTold = (listing : Listing) (old new : OpenView) (definitions : Definitions) (now : Meter) (note : Noted)
    (l : Listed) (over : ℕ)
    → TellsSince listing old now → AreListedOnce kinds.Relation listing → IsNoteOf listing note l
    → Notes l.change.by note old new → now.since < 2 ^ 64 - 1
    → TellsSince listing new (meter.counted definitions l.change over now)

-- behind a checkpoint there are none
abbrev pub SinceSaved : Type 0
SinceSaved = (listing : Listing) (old new : OpenView) (slots : ℕ) (tables : Tables)
    (changes : List Change) (now : Meter)
    → Checkpoints old new → TellsSince listing new (meter.checkpointed slots tables changes now)

-- no other step counts
abbrev pub SinceStays : Type 0
SinceStays = (listing : Listing) (old new : OpenView) (size over : ℕ) (stamps : List Stamp)
    (now : Meter)
    → TellsSince listing old now → new.since ≡ old.since → new.since_of ≡ old.since_of
    → TellsSince listing new (meter.with_record size stamps over now)
