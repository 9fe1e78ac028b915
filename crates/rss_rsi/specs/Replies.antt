-- The replies of calls that fill a tuple of the caller's.
use Rattle.std.specs.Prelude.{List, Option, Some, None, Result, Ok, Err}
use Rattle.rss_base.specs.declared.answer.CallError.{CallError}
use Rattle.rss_base.specs.declared.answer.Reply.{Reply}
use Rattle.rss_base.specs.declared.answer.Reply.TheVariants.{Tuple as TupleReply, Row, End}
use Rattle.rss_base.specs.declared.tid.Tid.{Tid}
use Rattle.rss_base.specs.declared.value.Value.{Value}

-- the tuple, which has these values then
abbrev pub as_tuple : Result (Unit {0}) CallError → List Value → Result Reply CallError
as_tuple (Ok done) values = Ok (TupleReply values)
as_tuple (Err why) values = Err why

-- the next tuple of a scan with its identifier, which has these values then; or the end of the scan
abbrev pub as_row : Result (Option Tid) CallError → List Value → Result Reply CallError
as_row (Ok (Some tid)) values = Ok (Row tid values)
as_row (Ok None) values = Ok End
as_row (Err why) values = Err why
