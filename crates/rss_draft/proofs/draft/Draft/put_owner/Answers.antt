use Rattle.std.proofs.Common.{◌∙◌, ap}
use Rattle.rss_draft.specs.Views.{Entries, said, bytes_of, with_values, with_owner}
use Rattle.rss_draft.proofs.Says.{owner_more}
use Rattle.rss_draft.proofs.draft.Draft.put_owner.Goals as goal

pub returns : goal.returns
returns c =
    let old : Entries = record {
      tuples = with_values bytes_of c.self.inside.tuples.entries;
      chains = with_values (λ tids. tids.items) c.self.inside.chains.entries;
      standings = c.self.inside.standings.entries;
      owners = c.self.inside.owners.entries;
      counts = c.self.inside.counts.entries;
    } in
    owner_more c.args.key c.args.owner c.insert.new.self.entries old c.in_ok-insert.ensures.updates.0
    ∙ ap (λ (v : Entries). with_owner c.args.key.image c.args.key.values c.args.owner (said v)) c.self.view_is
