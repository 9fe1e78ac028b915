-- Each number up to the last has its relation's tuples, and no other one has any.
use Rattle.std.proofs.Common.{refl, ap, arith}
use Rattle.std.specs.Prelude.{Option, option_map, unwrap_or}
use Rattle.rss_base.specs.declared.relation.RelationEntry.{RelationEntry}
use Rattle.rss_model.specs.Spares.{live_of}
use Rattle.rss_session.proofs.Filled.{filled_none, filled_more, filled_all}
use Rattle.rss_session.proofs.bounding.entries_of.Goals as goal

pub loop-place-init : goal.loop-place-init
loop-place-init c = filled_none (live_of c.args.catalog.now.listing)

pub loop-place-preserved : goal.loop-place-preserved
loop-place-preserved c = filled_more c.from.result c.live_of.result c.loop-place.invariant (omega (arith, c.from.ensures)) (omega (arith, c.from.ensures)) c.live_of.ensures

pub returns : goal.returns
returns c = filled_all c.loop-place.invariant refl (λ number above.
    ap (λ (o : Option RelationEntry). unwrap_or (option_map (λ r. r.live) o) 0) (c.last_relation-place-end.ensures.none number (omega (arith, above))))
