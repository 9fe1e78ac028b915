use Rattle.std.proofs.Common.{refl, ◌∙◌, ap}
use Rattle.rss_draft.specs.Views.{Entries, said, bytes_of, with_values, with_chain}
use Rattle.rss_draft.proofs.Says.{chain_more}
use Rattle.rss_draft.proofs.draft.Draft.put_chain.Goals as goal

pub returns : goal.returns
returns c =
    let old : Entries = record {
      tuples = with_values bytes_of c.self.inside.tuples.entries;
      chains = with_values (λ tids. tids.items) c.self.inside.chains.entries;
      standings = c.self.inside.standings.entries;
      owners = c.self.inside.owners.entries;
      counts = c.self.inside.counts.entries;
    } in
    chain_more c.args.link c.args.parent c.args.tids c.self.inside.chains.entries c.insert.new.self.entries old refl c.in_ok-insert.ensures.updates.0
    ∙ ap (λ (v : Entries). with_chain c.args.link c.args.parent c.args.tids.items (said v)) c.self.view_is
