-- What comes of the body of a tuple that a look found.
use Rattle.std.specs.Prelude.{◌≡◌, ℕ, Bool, true, false, List, [], Option, Some, Result, Ok, Err}
use Rattle.rss_base.specs.DiskRule.{IsTold}
use Rattle.rss_base.specs.Listings.{Listing}
use Rattle.rss_base.specs.TupleTypes.{kinds}
use Rattle.rss_base.specs.declared.answer.CallError.{CallError}
use Rattle.rss_base.specs.declared.answer.CallError.TheVariants.{Refused, Damaged, Device, NoMemory, Down}
use Rattle.rss_base.specs.declared.place.Place.{Place}
use Rattle.rss_base.specs.declared.place.Place.TheVariants.{Tuple as TuplePlace}
use Rattle.rss_base.specs.declared.relation.RelationEntry.{RelationEntry}
use Rattle.rss_base.specs.declared.tid.Tid.{Tid}
use Rattle.rss_base.specs.declared.value.FieldForm.{FieldForm}
use Rattle.rss_base.specs.declared.value.Value.{Value}
use Rattle.rss_tuple.specs.Located.{body_there, IsInMemory, StandsAt}
use Rattle.rss_tuple.specs.declared.body_at.BodyAt.{BodyAt}
use Rattle.rss_access.specs.Bodies.{IsBodyOf}
use Rattle.rss_session.specs.Looks.{FindsTuple, LooksOn}
use Rattle.rss_session.specs.Sessions.{SessionView}
use Rattle.rss_rsi.specs.Placing.{FailsToLook}

-- ---- where the body of a tuple stands that is there

-- The look failed: in the pages below, or since no tuple stands there, which is damage at the tuple.
pub data FailsThere (old new : SessionView) (segment number : ℕ) (tid : Tid) (why : CallError) : Type 0 where
  below : FailsToLook (Option BodyAt) old new why → FailsThere old new segment number tid why
  lost : why ≡ Damaged (TuplePlace segment tid) → LooksOn {T = Unit {0}} old new (Ok tt)
      → (IsTold old.store.pages.disk → FindsTuple old segment number tid false [])
      → FailsThere old new segment number tid why

-- A body stands there in a page that is in memory, and it is the tuple's.
pub record FindsThere (old new : SessionView) (segment number : ℕ) (tid : Tid) (at : BodyAt) : Type 0 where
  pub looks : LooksOn old new (Ok at)
  pub there : IsInMemory new.store.pages at
  pub stands : IsTold old.store.pages.disk
      → StandsAt new.store.pages.held (FindsTuple old segment number tid true) at

-- by the result, and whether the engine is up then
abbrev pub ComesThere : SessionView → SessionView → Type 0 → ℕ → ℕ → Tid → Result BodyAt CallError → Type 0
ComesThere old new up segment number tid (Ok at) = up × FindsThere old new segment number tid at
ComesThere old new up segment number tid (Err why) = (up → ⊥) × FailsThere old new segment number tid why

pub record StandsThere (old new : SessionView) (up : Type 0) (segment number : ℕ) (tid : Tid) (result : Result BodyAt CallError) : Type 0 where
  pub by : ComesThere old new up segment number tid result

-- ---- the tuple that a body is of

-- the body is that of these values, and of no others
pub record IsReadOf (listing : Listing) (number : ℕ) (fields : List FieldForm) (body : List ℕ) (values : List Value) : Type 0 where
  pub is : IsBodyOf listing number fields values body
  pub only : (others : List Value) → IsBodyOf listing number fields others body → others ≡ values

-- some values have the body
pub record IsOfSome (listing : Listing) (number : ℕ) (fields : List FieldForm) (body : List ℕ) : Type 0 where
  pub values : List Value
  pub is : IsBodyOf listing number fields values body

-- What comes of a body: the values that it is of; want of memory, where it is of some; and where it is of none, damage at this place.
abbrev pub ComesOf : Listing → ℕ → List FieldForm → Place → List ℕ → Result (List Value) CallError → Type 0
ComesOf listing number fields place body (Ok values) = IsReadOf listing number fields body values
ComesOf listing number fields place body (Err NoMemory) = IsOfSome listing number fields body
ComesOf listing number fields place body (Err (Damaged at)) =
    (at ≡ place) × (IsOfSome listing number fields body → ⊥)
ComesOf listing number fields place body (Err Device) = ⊥
ComesOf listing number fields place body (Err (Refused why)) = ⊥
ComesOf listing number fields place body (Err Down) = ⊥

-- the engine goes down where something is damaged, and nowhere else
abbrev pub IsDownBy : {T : Type 0} → Result T CallError → Bool → Type 0
IsDownBy (Ok value) down = down ≡ false
IsDownBy (Err (Damaged place)) down = down ≡ true
IsDownBy (Err NoMemory) down = down ≡ false
IsDownBy (Err Device) down = down ≡ false
IsDownBy (Err (Refused why)) down = down ≡ false
IsDownBy (Err Down) down = down ≡ false

-- What comes of the body that a page lends, which stands there where the device tells its contents.
pub record TupleComes (view : SessionView) (number : ℕ) (relation : RelationEntry) (place : Place) (at : BodyAt) (result : Result (List Value) CallError) : Type 0 where
  pub body : List ℕ
  pub lent : IsTold view.store.pages.disk → body_there view.store.pages.held at ≡ Some body
  pub comes : ComesOf view.store.catalog.listing number (kinds relation.fields) place body result
