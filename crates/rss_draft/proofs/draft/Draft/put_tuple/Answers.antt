use Rattle.std.proofs.Common.{refl, ◌∙◌, ap}
use Rattle.rss_draft.specs.Views.{Entries, said, bytes_of, with_values, with_tuple}
use Rattle.rss_draft.proofs.Says.{tuple_more}
use Rattle.rss_draft.proofs.draft.Draft.put_tuple.Goals as goal

pub returns : goal.returns
returns c =
    let old : Entries = record {
      tuples = with_values bytes_of c.self.inside.tuples.entries;
      chains = with_values (λ tids. tids.items) c.self.inside.chains.entries;
      standings = c.self.inside.standings.entries;
      owners = c.self.inside.owners.entries;
      counts = c.self.inside.counts.entries;
    } in
    tuple_more c.args.relation c.args.tid c.args.values c.self.inside.tuples.entries c.insert.new.self.entries old refl c.in_ok-insert.ensures.updates.0
    ∙ ap (λ (v : Entries). with_tuple c.args.relation c.args.tid (bytes_of c.args.values) (said v)) c.self.view_is
