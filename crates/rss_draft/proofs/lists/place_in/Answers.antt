use Rattle.std.proofs.Common.{◌≡◌, ◌≢◌, rules, tests}
use Rattle.std.proofs.lemmas.Iterator.{IsFirst-from_position, YieldsList-from_slice}
use Rattle.rss_base.specs.declared.tid.Tid.{Tid}
use Rattle.rss_draft.proofs.InLists.{first_place}
use Rattle.rss_draft.proofs.lists.place_in.Goals as goal

pub returns : goal.returns
returns c = first_place c.args.tid c.args.tids.now c.position.result
    (IsFirst-from_position _ _ _ (λ (other : Tid). other ≡ c.args.tid) (λ (other : Tid). other ≢ c.args.tid) c.position.ensures.ran (YieldsList-from_slice c.args.tids.now cc)
    (λ x q k. search (rules, tests)) (λ x q k. search (rules, tests)))
