use Rattle.rss_draft.proofs.TuplesNow.{none_same, bytes_same}
use Rattle.rss_draft.proofs.tuples.are_same.Goals as goal

pub returns-in_default : goal.returns-in_default
returns-in_default c = rw c.in_default.is (none_same c.args.other c.is_none.result c.is_none.ensures)

pub returns : goal.returns
returns c = rw (c.in-Some.is, c.in-Some-other.is) (bytes_same c.in-Some.one.now c.in-Some-other.other.now c.eq.result c.eq.ensures)
