-- These tuples were read of the chain, and this is the last of them.
use Rattle.std.proofs.Common.{◌≡◌, ◌*◌, length}
use Rattle.rss_base.specs.Steps.{no_page}
use Rattle.rss_tuple.specs.TupleSteps.{tuples_in, no_tuple}
use Rattle.rss_link.proofs.TupleSteps.{TuplesStep}
use Rattle.rss_members.specs.Calls.{both, AnswersChain}
use Rattle.rss_draft.proofs.ChainRead.{IsRead}
use Rattle.rss_draft.proofs.reading.saved_chain.Given as goal

abbrev pub invariant-loop-place : goal.invariant-loop-place
invariant-loop-place g l = record {
  step : TuplesStep no_page no_tuple (10 * l._place) (tuples_in (g.P.Pages.view l.fn.tuples.pages)) (tuples_in (g.P.Pages.view l.tuples.pages));
  reads : AnswersChain (both (tuples_in (g.P.Pages.view l.fn.tuples.pages)) l.catalog) l.link l.parent (IsRead l.tids.items l.last);
  many : length l.tids.items ≡ l._place;
}
