use Rattle.rss_model.specs.Spares.{live_of}
use Rattle.rss_session.proofs.Filled.{IsFilled}
use Rattle.rss_session.proofs.bounding.entries_of.Given as goal

abbrev pub invariant-loop-place : goal.invariant-loop-place
invariant-loop-place l = IsFilled l.entries (live_of l.catalog.listing) l.place
