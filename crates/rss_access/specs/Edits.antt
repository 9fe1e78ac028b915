-- What a change of a tuple that is lent tells.
use Rattle.std.specs.Prelude.{ℕ, List, Option, option_copied}
use Rattle.std.specs.Borrow.{Bor}
use Rattle.rss_base.specs.declared.tid.Tid.{Tid}
use Rattle.rss_base.specs.declared.change.Change as told
use Rattle.rss_base.specs.declared.change.Change.TheVariants as changes
use Rattle.rss_access.specs.declared.edit.Edit.{Edit}
use Rattle.rss_access.specs.declared.edit.Edit.TheVariants.{Insert, Delete, Update}
use Rattle.rss_access.specs.declared.edit.TupleChange.{TupleChange}

abbrev pub told_of : ℕ → Tid → Edit → told.Change
told_of number tid (Insert values) = changes.Insert number tid values.now
told_of number tid (Delete values) = changes.Delete number tid values.now
told_of number tid (Update from to) = changes.Update number tid from.now to.now

-- the change that it is
abbrev pub told_by : TupleChange → told.Change
told_by change = told_of change.number change.tid change.edit

-- the bytes of values that are lent, if there are any
abbrev pub values_lent : Option (Bor (List ℕ)) → Option (List ℕ)
values_lent values = option_copied values
