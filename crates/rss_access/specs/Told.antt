-- A change, as a record of the log tells it.
use Rattle.std.specs.Prelude.{◌≡◌, ℕ, ◌+◌, ◌-◌, ◌<◌, ◌≤◌, Bool, false, ◌&&◌, List, ◌∷◌, ◌++◌, length, Option, Some, None, is_some, option_map, ⊤}
use Rattle.rss_base.specs.TupleTypes.{kinds, SpellsSome}
use Rattle.rss_base.specs.Prefixes.{prefix_size}
use Rattle.rss_base.specs.Listings.{Listing}
use Rattle.rss_base.specs.declared.tid.Tid.{Tid}
use Rattle.rss_base.specs.declared.field.FieldDef.{FieldDef}
use Rattle.rss_base.specs.declared.change.Change as told
use Rattle.rss_base.specs.declared.change.Change.TheVariants.{Insert, Delete, Update, Connect, Disconnect}
use Rattle.rss_model.specs.Changes.{Change}
use Rattle.rss_model.specs.Fits.{IsIdentifier, tuple_limit}
use Rattle.rss_model.specs.Meanings.{Means}
use Rattle.rss_members.specs.Members.{blank_prefix, prefix_most}

-- ---- a change, as it is told

-- it changes what a tuple holds, and not which chain it stands in
abbrev pub IsTupleRecord : told.Change → Type 0
IsTupleRecord (Insert relation tid values) = ⊤
IsTupleRecord (Delete relation tid values) = ⊤
IsTupleRecord (Update relation tid old new) = ⊤
IsTupleRecord (Connect link parent child left) = ⊥
IsTupleRecord (Disconnect link parent child left) = ⊥

-- the number of the relation or of the link, and the identifier of the tuple
abbrev pub number_told : told.Change → ℕ
number_told (Insert relation tid values) = relation
number_told (Delete relation tid values) = relation
number_told (Update relation tid old new) = relation
number_told (Connect link parent child left) = link
number_told (Disconnect link parent child left) = link

abbrev pub tid_told : told.Change → Tid
tid_told (Insert relation tid values) = tid
tid_told (Delete relation tid values) = tid
tid_told (Update relation tid old new) = tid
tid_told (Connect link parent child left) = child
tid_told (Disconnect link parent child left) = child

-- the change turned round
abbrev pub reversed : told.Change → told.Change
reversed (Insert relation tid values) = Delete relation tid values
reversed (Delete relation tid values) = Insert relation tid values
reversed (Update relation tid old new) = Update relation tid new old
reversed (Connect link parent child left) = Disconnect link parent child left
reversed (Disconnect link parent child left) = Connect link parent child left

-- the bytes of the tuple's values before it and after it, if there is a tuple then
abbrev pub values_before : told.Change → Option (List ℕ)
values_before (Insert relation tid values) = None
values_before (Delete relation tid values) = Some values
values_before (Update relation tid old new) = Some old
values_before (Connect link parent child left) = None
values_before (Disconnect link parent child left) = None

abbrev pub values_after : told.Change → Option (List ℕ)
values_after change = values_before (reversed change)

-- a body with these bytes between the number of the relation and the values
abbrev pub body_with : ℕ → List ℕ → List ℕ → List ℕ
body_with number prefix values = number ∷ (prefix ++ values)

-- the body that it finds, and the one that it leaves, where these bytes stand between
abbrev pub body_before : List ℕ → told.Change → Option (List ℕ)
body_before prefix change = option_map (body_with (number_told change) prefix) (values_before change)

abbrev pub body_after : List ℕ → told.Change → Option (List ℕ)
body_after prefix change = option_map (body_with (number_told change) prefix) (values_after change)

-- there is a tuple before it and after it
abbrev pub stays : told.Change → Bool
stays change = is_some (values_before change) && is_some (values_after change)

-- Such are the bytes between: as many as the relation has in links; and where the tuple comes or goes, those of one that stands in no chain and has none.
pub record IsPrefix (listing : Listing) (change : told.Change) (prefix : List ℕ) : Type 0 where
  pub long : length prefix ≡ prefix_size listing.links (number_told change)
  pub blank : stays change ≡ false → prefix ≡ blank_prefix listing (number_told change)

-- how many tuples the relation has after it
abbrev pub count_after : told.Change → ℕ → ℕ
count_after (Insert relation tid values) live = live + 1
count_after (Delete relation tid values) live = live - 1
count_after (Update relation tid old new) live = live
count_after (Connect link parent child left) live = live
count_after (Disconnect link parent child left) live = live

-- the machine's change turned round
abbrev pub turned : Change → Change
turned change = record change { old = change.new; new = change.old }

-- a change that is turned round means the reverse
abbrev pub ReverseMeans : told.Change → told.Change → Type 0
ReverseMeans told_change back =
    (listing : Listing) (change : Change)
    → Means listing told_change change → Means listing back (turned change)

-- ---- where it may be made

-- the values that it tells are those of tuples with these fields
abbrev pub AreValuesOf : List FieldDef → told.Change → Type 0
AreValuesOf fields (Insert number tid values) = SpellsSome (kinds fields) values
AreValuesOf fields (Delete number tid values) = SpellsSome (kinds fields) values
AreValuesOf fields (Update number tid old new) =
    SpellsSome (kinds fields) old × SpellsSome (kinds fields) new
AreValuesOf fields (Connect link parent child left) = ⊤
AreValuesOf fields (Disconnect link parent child left) = ⊤

-- the tuple may have this identifier, and its prefix leaves room for any values
pub record MayBecome (slots : ℕ) (listing : Listing) (fields : List FieldDef) (change : told.Change) : Type 0 where
  pub named : IsIdentifier slots (tid_told change)
  pub values : AreValuesOf fields change
  pub short : prefix_size listing.links (number_told change) ≤ prefix_most

-- one tuple more or less can be counted
abbrev pub MayCount : told.Change → ℕ → Type 0
MayCount (Insert relation tid values) live = live < tuple_limit
MayCount (Delete relation tid values) live = 0 < live
MayCount (Update relation tid old new) live = ⊤
MayCount (Connect link parent child left) live = ⊤
MayCount (Disconnect link parent child left) live = ⊤
