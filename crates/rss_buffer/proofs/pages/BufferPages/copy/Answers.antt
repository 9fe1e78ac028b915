use Rattle.std.proofs.Common.{arith}
use Rattle.rss_base.proofs.Copies.{copies_after}
use Rattle.rss_base.proofs.Steps.{then, then_call, untouched, within, done, fails}
use Rattle.rss_buffer.proofs.Lookups.{newest_there}
use Rattle.rss_buffer.proofs.pages.BufferPages.copy.Goals as goal

-- ---- one of them can't be read

pub returns-in_err-ask-clause-did : goal.returns-in_err-ask-clause-did
returns-in_err-ask-clause-did g c = fails _ c.from_residual.ensures.1 (λ key none. absurd none) (omega arith) (omega arith) c.in_err-ask.ensures.did

pub returns-in_err-ask-2-clause-did : goal.returns-in_err-ask-2-clause-did
returns-in_err-ask-2-clause-did g c = fails _ c.from_residual-in_err-ask-2.ensures.1 (λ key none. absurd none) (omega arith) (omega arith) (then_call c.in_ok-ask.ensures.did.step c.in_err-ask-2.ensures.did)

-- ---- both are in memory

pub copy_there-requires-clause-to : goal.copy_there-requires-clause-to
copy_there-requires-clause-to g c = newest_there _ c.args.to c.in_ok-ask-2.ensures.newest

pub returns-clause-copied : goal.returns-clause-copied
returns-clause-copied g c = copies_after (then c.in_ok-ask.ensures.did.step c.in_ok-ask-2.ensures.did.step) c.copy_there.ensures.copied

pub returns-clause-did : goal.returns-clause-did
returns-clause-did g c = done _ (within (λ key is. is) (omega arith) (omega arith) (then (untouched (then c.in_ok-ask.ensures.did.step c.in_ok-ask-2.ensures.did.step)) c.copy_there.ensures.did))
