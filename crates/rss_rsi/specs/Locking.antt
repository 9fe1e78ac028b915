-- The locks of a call: which they are, and that its transaction may have them.
use Rattle.std.specs.Prelude.{◌≡◌, ℕ, ◌^◌, ◌<◌, ◌≤◌, List, [], ◌∷◌, ◌++◌, length, All, Option, Some, None, option_map, option_to_list, Result, Ok, Err, ⊤}
use Rattle.rss_base.specs.DiskRule.{IsTold}
use Rattle.rss_base.specs.Listings.{Listing, IsFieldNumber, field_numbers, relation_at}
use Rattle.rss_base.specs.TupleTypes.{kinds, chosen, misfit, most_fields, key_width, most_key_width, IsStorable}
use Rattle.rss_base.specs.declared.answer.CallError.{CallError}
use Rattle.rss_base.specs.declared.answer.CallError.TheVariants.{Refused, NoMemory}
use Rattle.rss_base.specs.declared.field.FieldDef.{FieldDef}
use Rattle.rss_base.specs.declared.image.ImageEntry.{ImageEntry}
use Rattle.rss_base.specs.declared.item.Item.{Item}
use Rattle.rss_base.specs.declared.item.Item.TheVariants.{Tuple as TupleItem, Key as KeyItem}
use Rattle.rss_base.specs.declared.name.Name.{Name}
use Rattle.rss_base.specs.declared.need.Mode.TheVariants.{X}
use Rattle.rss_base.specs.declared.need.Need.{Need}
use Rattle.rss_base.specs.declared.refusal.Refusal.{Refusal}
use Rattle.rss_base.specs.declared.refusal.Refusal.TheVariants.{Busy}
use Rattle.rss_base.specs.declared.relation.RelationEntry.{RelationEntry}
use Rattle.rss_base.specs.declared.tid.Tid.{Tid}
use Rattle.rss_base.specs.declared.value.Value.{Value}
use Rattle.rss_lock.specs.Locks.{LocksView}
use Rattle.rss_model.specs.Items.{Values}
use Rattle.rss_model.specs.Locks.{Bar, Locks, first_bar}
use Rattle.rss_model.specs.Machine.{State, now}
use Rattle.rss_model.specs.Needs.{need, changing, key_needs, tuple_read, tuple_changed, tuple_keys}
use Rattle.rss_model.specs.Refusals.{busy}
use Rattle.rss_model.specs.ReplyText.{IsShort}
use Rattle.rss_model.specs.Tables.{Tables, content}
use Rattle.rss_rsi.specs.Views.{RssParts, IsIn}
use Rattle.rss_rsi.specs.declared.locking.Access.{Access}
use Rattle.rss_rsi.specs.declared.locking.Access.TheVariants.{Read, Change}

-- the locks with which a tuple is read, or changed to values, if it is given any
abbrev pub accessing : Tables → Access → Name → Tid → List (List Value) → List Need
accessing tables Read relation tid new = tuple_read tables relation tid
accessing tables Change relation tid new =
    tuple_changed tables relation tid ++ tuple_keys tables relation tid new

-- those with which a tuple of these values is put, and the new tuple behind them
abbrev pub putting : Tables → Name → Tid → List Value → List Need
putting tables relation tid values =
    (changing tables relation ++ key_needs tables relation (values ∷ []))
    ++ need (TupleItem relation tid) X ∷ []

-- the line of a refusal can tell of an item that another transaction holds it
abbrev pub IsSayable : Item → Type 0
IsSayable item = (holder : ℕ) → holder < 2 ^ 32 → IsShort (Err (Busy item holder))

abbrev pub AreSayable : List Need → Type 0
AreSayable needs = All (λ need. IsSayable need.item) needs

-- in each state in which the engine may be, these are the needs
abbrev pub Lists : RssParts → (Tables → List Need) → List Need → Type 0
Lists parts needs list =
    IsTold parts.session.store.pages.disk → (state : State) → IsIn parts state → needs (now state) ≡ list

-- the same where the tuple has these values, if it is there
abbrev pub ListsAccess : RssParts → Access → Name → Tid → Option (List Value) → List (List Value) → List Need → Type 0
ListsAccess parts access relation tid found new list =
    IsTold parts.session.store.pages.disk → (state : State) → IsIn parts state
    → content (now state).contents (TupleItem relation tid) ≡ option_map Values found
    → accessing (now state) access relation tid new ≡ list

-- ---- keys

-- the values that a tuple has, and those that it is given, of which there may be none
abbrev pub given : Option (List Value) → Option (List Value) → List (List Value)
given was to = option_to_list was ++ option_to_list to

-- the values are those of a tuple of the relation of this number
pub record MayBeOf (listing : Listing) (number : ℕ) (values : List Value) : Type 0 where
  pub fit : (relation : RelationEntry) → relation_at listing number ≡ Some relation
      → misfit (kinds relation.fields) values ≡ None
  pub storable : All IsStorable values

-- they are those of a tuple that has a key in the image
pub record HasKey (image : ImageEntry) (values : List Value) : Type 0 where
  pub fields : List FieldDef
  pub fit : misfit (kinds fields) values ≡ None
  pub storable : All IsStorable values
  pub within : All (IsFieldNumber (length fields)) (field_numbers image)
  pub narrow : key_width (chosen (field_numbers image) (kinds fields)) ≤ most_key_width
  pub few : image.count ≤ most_fields

-- the lock of its key
abbrev pub key_lock : ImageEntry → List Value → Need
key_lock image values = need (KeyItem image.name (chosen (field_numbers image) values)) X

-- behind these needs stand the locks of the keys of values in the unique images of the relation of this number
abbrev pub ListsKeys : RssParts → ℕ → List (List Value) → List Need → List Need → Type 0
ListsKeys parts number all before list =
    IsTold parts.session.store.pages.disk → (state : State) → IsIn parts state
    → (relation : RelationEntry) → relation_at parts.session.store.catalog.listing number ≡ Some relation
    → before ++ key_needs (now state) relation.name all ≡ list

-- ---- claims

-- nobody bars the transaction from these locks, and there is room for them
pub record IsClaimed (old new : LocksView) (t : ℕ) (list : List Need) : Type 0 where
  pub free : first_bar old.locks t list ≡ None
  pub room : length list ≤ new.spare
  pub same : new.locks ≡ old.locks

-- another transaction does, and the refusal tells from what, and who
pub record IsBusy (locks : Locks) (t : ℕ) (list : List Need) (why : Refusal) : Type 0 where
  pub bar : Bar
  pub first : first_bar locks t list ≡ Some bar
  pub is : why ≡ busy bar
  pub short : IsShort (Err why)

-- how a claim ends, by the result
abbrev pub ClaimEnds : {T : Type 0} → LocksView → LocksView → ℕ → List Need → Result T CallError → Type 0
ClaimEnds old new t list (Ok done) = IsClaimed old new t list
ClaimEnds old new t list (Err (Refused why)) = IsBusy old.locks t list why
ClaimEnds old new t list (Err NoMemory) = ⊤
ClaimEnds old new t list (Err other) = ⊥
