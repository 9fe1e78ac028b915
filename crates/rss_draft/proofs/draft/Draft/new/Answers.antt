use Rattle.rss_draft.specs.Views.{said, bytes_of, with_values}
use Rattle.rss_draft.proofs.draft.Draft.new.Goals as goal

pub returns : goal.returns
returns c = λ i. said (record {
  tuples = with_values bytes_of (c.new.ensures.empty i);
  chains = with_values (λ tids. tids.items) (c.new-2.ensures.empty i);
  standings = c.new-3.ensures.empty i;
  owners = c.new-4.ensures.empty i;
  counts = c.new-5.ensures.empty i;
})
