-- Whose a call is, and of what kind.
use Rattle.std.specs.Prelude.{ℕ, Bool, true, false, Option, Some, None}
use Rattle.rss_base.specs.declared.call.Call.{Call}
use Rattle.rss_base.specs.declared.call.Call.TheVariants.{Begin, Save, Restore, End, Abort, Insert, Fetch, Update, Delete, Connect, Disconnect, Parent, OpenRelation, OpenImage, OpenLink, Next, CloseScan, Lock, Checkpoint, MakeSegment, MakeRelation, MakeImage, MakeLink, DropSegment, DropRelation, DropImage, DropLink}

-- Of which kind a call is: one that a transaction makes, a checkpoint, or one that makes or drops a definition.
pub data Class : Type 0 where
  Works : ℕ → Class
  Checkpoints : Class
  Defines : Class

abbrev pub class_of : Call → Class
class_of (Begin t) = Works t
class_of (Save t) = Works t
class_of (Restore t save) = Works t
class_of (End t) = Works t
class_of (Abort t) = Works t
class_of (Insert t relation values) = Works t
class_of (Fetch t relation tid) = Works t
class_of (Update t relation tid values) = Works t
class_of (Delete t relation tid) = Works t
class_of (Connect t link child parent spot) = Works t
class_of (Disconnect t link child) = Works t
class_of (Parent t link child) = Works t
class_of (OpenRelation t relation) = Works t
class_of (OpenImage t image start) = Works t
class_of (OpenLink t link parent) = Works t
class_of (Next t scan) = Works t
class_of (CloseScan t scan) = Works t
class_of (Lock t item exclusive) = Works t
class_of Checkpoint = Checkpoints
class_of (MakeSegment name) = Defines
class_of (MakeRelation name segment fields) = Defines
class_of (MakeImage name relation is_unique fields) = Defines
class_of (MakeLink name parent child) = Defines
class_of (DropSegment name) = Defines
class_of (DropRelation name) = Defines
class_of (DropImage name) = Defines
class_of (DropLink name) = Defines

-- the transaction that makes a call, if one does
abbrev pub caller : Call → Option ℕ
caller call = by (class_of call)
  where
    by : Class → Option ℕ
    by (Works t) = Some t
    by class = None

-- the call makes or drops a definition
abbrev pub is_definition : Call → Bool
is_definition call = by (class_of call)
  where
    by : Class → Bool
    by Defines = true
    by class = false
