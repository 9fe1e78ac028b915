use Rattle.rss_tuple.proofs.Seen.{on_ok_then}
use Rattle.rss_tuple.proofs.Changes.{puts_tuple}
use Rattle.rss_tuple.proofs.Fitting.{takes_no_page}
use Rattle.rss_tuple.proofs.store.StoreTuples.replace.Goals as goal

pub returns-clause-puts : goal.returns-clause-puts
returns-clause-puts g c = puts_tuple c.requires.there.heaps c.replace.ensures.moves

pub returns-clause-no_page : goal.returns-clause-no_page
returns-clause-no_page g c =
    on_ok_then c.replace.result (λ takes told few. takes_no_page _ _ c.args.segment c.args.tid c.args.body.now c.requires.there (λ key. g.met.P.Pages.holds c.args.self.now.pages told key) told few takes) c.replace.ensures.moves.takes
