-- What a look at tuples finds, and what it passes on.
use Rattle.std.specs.Prelude.{◌≡◌, ℕ, Bool, true, false, List, [], Option, Some, None, option_map, IfSome, MatchOption, Result, Ok, Err, OnOk, Contains}
use Rattle.rss_base.specs.DiskRule.{IsTold}
use Rattle.rss_base.specs.Listings.{Listing, relation_at}
use Rattle.rss_base.specs.Paged.{Held}
use Rattle.rss_base.specs.Steps.{AreInMemory, StaysIdle}
use Rattle.rss_base.specs.TupleTypes.{kinds}
use Rattle.rss_base.specs.declared.fault.PageFault.{PageFault}
use Rattle.rss_base.specs.declared.fault.PageFault.TheVariants.{Device as DeviceFailed, Damaged, NoMemory}
use Rattle.rss_base.specs.declared.item.Item.TheVariants.{Tuple}
use Rattle.rss_base.specs.declared.name.Name.{Name}
use Rattle.rss_base.specs.declared.place.Place.{Place}
use Rattle.rss_base.specs.declared.relation.RelationEntry.{RelationEntry}
use Rattle.rss_base.specs.declared.tid.Tid.{Tid}
use Rattle.rss_base.specs.declared.value.Value.{Value}
use Rattle.rss_tuple.specs.Located.{StandsAt}
use Rattle.rss_tuple.specs.Placing.{IsNameable, IsChosen}
use Rattle.rss_tuple.specs.declared.body_at.BodyAt.{BodyAt}
use Rattle.rss_model.specs.Images.{entry}
use Rattle.rss_model.specs.Items.{Values}
use Rattle.rss_model.specs.Kept.{Kept}
use Rattle.rss_model.specs.Locks.{held}
use Rattle.rss_model.specs.Machine.{State, now}
use Rattle.rss_model.specs.Scans.{RelationPath, next_along}
use Rattle.rss_model.specs.Steps.{IsFree}
use Rattle.rss_model.specs.Tables.{content, segment_of}
use Rattle.rss_access.specs.Bodies.{IsBodyOf}
use Rattle.rss_session.specs.Sessions.{SessionView, IsReady}
use Rattle.rss_session.specs.Shown.{Shows}
use Rattle.rss_session.specs.Calls.{GoesOn, KeepsTables}

-- By the result: the session is in the states in which it was, with the same catalog and log, and a stop leaves the committed tables. A device that tells its contents shows no damage.
pub record LooksOn {T : Type 0} (old new : SessionView) (result : Result T PageFault) : Type 0 where
  pub ready : OnOk result (IsReady new)
  pub shows : IsTold old.store.pages.disk → (state : State) → Shows old state → Shows new state
  pub catalog : new.store.catalog ≡ old.store.catalog
  pub log : new.store.log ≡ old.store.log
  pub opened : new.opened ≡ old.opened
  pub sound : (place : Place) → result ≡ Err (Damaged place) → IsTold old.store.pages.disk → ⊥
  pub moments : KeepsTables old new
  pub goes : GoesOn old new result

-- what came of a call that may lack memory, but for that: it is no fault of the device
abbrev pub but_memory : {T : Type 0} → Result T PageFault → Result (Unit {0}) PageFault
but_memory (Ok value) = Ok tt
but_memory (Err DeviceFailed) = Err DeviceFailed
but_memory (Err (Damaged place)) = Err (Damaged place)
but_memory (Err NoMemory) = Ok tt

-- A look that may lack memory. Then the session is as it is behind one that finds something.
abbrev pub SearchesOn : {T : Type 0} → SessionView → SessionView → Result T PageFault → Type 0
SearchesOn old new result = LooksOn old new (but_memory result)

-- the pages hold what they held
pub record KeepsPages (old new : SessionView) : Type 0 where
  pub mapped : new.store.pages.mapped ≡ old.store.pages.mapped
  pub held : IsTold old.store.pages.disk → new.store.pages.held ≡ old.store.pages.held

-- Where all pages are in memory the device is as it was, and all of them are in memory still.
pub record CostsNothing (old new : SessionView) : Type 0 where
  pub idle : AreInMemory old.store.pages → StaysIdle old.store.pages new.store.pages
  pub still : AreInMemory old.store.pages → AreInMemory new.store.pages

-- the relation of this number, and this segment, is listed
pub record IsRelationIn (view : SessionView) (segment number : ℕ) (relation : RelationEntry) : Type 0 where
  pub at : relation_at view.store.catalog.listing number ≡ Some relation
  pub within : relation.segment ≡ segment

-- a tuple of these values, whose body this is
pub record HasTuple (listing : Listing) (state : State) (number : ℕ) (relation : RelationEntry) (tid : Tid) (body : List ℕ) : Type 0 where
  pub values : List Value
  pub spelled : IsBodyOf listing number (kinds relation.fields) values body
  pub holds : content (now state).contents (Tuple relation.name tid) ≡ Some (Values values)

-- Whether there is such a tuple, in each state.
pub record FindsTuple (view : SessionView) (segment number : ℕ) (tid : Tid) (there : Bool) (body : List ℕ) : Type 0 where
  pub some : there ≡ true → (state : State) (relation : RelationEntry) → Kept state → Shows view state
      → IsRelationIn view segment number relation → HasTuple view.store.catalog.listing state number relation tid body
  pub none : there ≡ false → (state : State) (relation : RelationEntry) → Kept state → Shows view state
      → IsRelationIn view segment number relation
      → content (now state).contents (Tuple relation.name tid) ≡ None

-- what a relation's list has next behind this identifier, or first, in each state; and its body
abbrev pub FindsNextTuple : SessionView → ℕ → ℕ → Option Tid → Option Tid → List ℕ → Type 0
FindsNextTuple view segment number after found body =
    (state : State) (relation : RelationEntry) → Kept state → Shows view state
    → IsRelationIn view segment number relation
    → (next_along (now state) (RelationPath relation.name) (option_map (entry []) after) ≡ option_map (entry []) found)
    × IfSome found (λ tid. HasTuple view.store.catalog.listing state number relation tid body)

-- ---- where bodies stand

-- Where the body stands of the tuple with an identifier, where the relation of this number has it. `pages` is what pages hold afterwards.
abbrev pub FindsTupleAt : SessionView → ℕ → ℕ → Tid → Held → Option BodyAt → Type 0
FindsTupleAt view segment number tid pages found =
    MatchOption found (FindsTuple view segment number tid false [])
    (StandsAt pages (FindsTuple view segment number tid true))

-- what a relation's list has next, and where its body stands
abbrev pub FindsNextTupleAt : SessionView → ℕ → ℕ → Option Tid → Held → Option (Tid × BodyAt) → Type 0
FindsNextTupleAt view segment number after pages found =
    MatchOption found (FindsNextTuple view segment number after None [])
    (λ next. StandsAt pages (FindsNextTuple view segment number after (Some next.0)) next.1)

-- ---- identifiers for new tuples

-- no other transaction holds a tuple of the relation's segment with this identifier
abbrev pub IsAloneAt : State → ℕ → Name → Tid → Type 0
IsAloneAt state t relation tid =
    (other : Name) (u : ℕ) → segment_of state.base other ≡ segment_of state.base relation
    → (u ≡ t → ⊥) → held state.locks u (Tuple other tid) ≡ None

-- The identifier is the one that the placing rule names where these are barred. It is free for a new tuple of any relation of the segment, where no other transaction holds one that has it.
pub record IsPlace (view : SessionView) (segment length : ℕ) (barred : List Tid) (tid : Tid) : Type 0 where
  pub named : IsNameable view.store.pages.slots barred tid
  pub chosen : IsTold view.store.pages.disk → IsChosen view.store.pages segment length barred tid
  pub free : IsTold view.store.pages.disk
      → (state : State) (number : ℕ) (relation : RelationEntry) → Kept state → Shows view state
      → IsRelationIn view segment number relation
      → (t : ℕ) → IsAloneAt state t relation.name tid → IsFree state t relation.name tid

abbrev pub FindsPlace : SessionView → ℕ → ℕ → List Tid → Option Tid → Type 0
FindsPlace view segment length barred found = IfSome found (IsPlace view segment length barred)

-- what is free is barred
abbrev pub HasNoPlace : SessionView → ℕ → List Tid → Type 0
HasNoPlace view segment barred =
    IsTold view.store.pages.disk
    → (state : State) (number : ℕ) (relation : RelationEntry) → Kept state → Shows view state
    → IsRelationIn view segment number relation
    → (t : ℕ) (tid : Tid) → IsFree state t relation.name tid → Contains barred tid
