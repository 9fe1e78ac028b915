-- What the open transactions note of a change, as a record of the log tells it.
use Rattle.std.specs.Prelude.{ℕ, Bool, true, false, Option, Some, None}
use Rattle.rss_base.specs.declared.change.Change.{Change}
use Rattle.rss_base.specs.declared.change.Change.TheVariants.{Insert, Delete, Update, Connect, Disconnect}

-- a tuple is taken away
abbrev pub is_delete_told : Change → Bool
is_delete_told (Insert relation tid values) = false
is_delete_told (Delete relation tid values) = true
is_delete_told (Update relation tid old new) = false
is_delete_told (Connect link parent child left) = false
is_delete_told (Disconnect link parent child left) = false

-- the number of the relation whose tuple it is
abbrev pub relation_told : Change → Option ℕ
relation_told (Insert relation tid values) = Some relation
relation_told (Delete relation tid values) = Some relation
relation_told (Update relation tid old new) = Some relation
relation_told (Connect link parent child left) = None
relation_told (Disconnect link parent child left) = None
