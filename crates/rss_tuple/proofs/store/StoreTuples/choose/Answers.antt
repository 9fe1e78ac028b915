use Rattle.rss_tuple.specs.Picks.{IsPicked, NonePicked}
use Rattle.rss_tuple.proofs.Seen.{if_ok_then}
use Rattle.rss_tuple.proofs.Chosen.{if_found, if_none_found, free_picked, none_free, chosen_call}
use Rattle.rss_tuple.proofs.store.StoreTuples.choose.Goals as goal

pub choose-requires-clause-formed : goal.choose-requires-clause-formed
choose-requires-clause-formed g c = λ told. (c.requires.heaps told).formed

pub returns : goal.returns
returns g c =
    let view = g.P.Pages.view c.args.self.now.pages in
    let none = NonePicked view c.args.segment c.args.barred.now in
    let is = IsPicked view c.args.segment c.args.length c.args.barred.now in
    let holds = λ (told : _) (key : _). g.met.P.Pages.holds c.args.self.now.pages told key in
    record {
      named = if_ok_then c.choose.result (λ found picks. if_found none found (λ tid picked. picked.named) picks) c.choose.ensures.picks;
      free = if_ok_then c.choose.result (λ found picks. if_found none found (λ tid picked told. free_picked view c.args.segment c.args.length c.args.barred.now tid (holds told) picked told) picks) c.choose.ensures.picks;
      chosen = if_ok_then c.choose.result (λ found picks. if_found none found (λ tid picked. picked.chosen) picks) c.choose.ensures.picks;
      none = if_ok_then c.choose.result (λ found picks absent told. none_free view c.args.segment c.args.barred.now (holds told) (c.requires.heaps told) told (if_none_found is found picks absent)) c.choose.ensures.picks;
      mapped = c.choose.ensures.kept.mapped;
      held = c.choose.ensures.kept.held;
      changed = c.choose.ensures.kept.changed;
      did = chosen_call c.requires.heaps c.choose.ensures.kept c.choose.ensures.did;
    }
