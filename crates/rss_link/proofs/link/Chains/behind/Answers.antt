use Rattle.std.proofs.Math.Logic.{∥∥₁_map}
use Rattle.std.proofs.lemmas.Result.{IfOk-weaker}
use Rattle.rss_link.specs.Blocks.{kept_ends}
use Rattle.rss_link.proofs.Finding.{left_is_child, finds_behind, finds_first}
use Rattle.rss_link.proofs.link.Chains.behind.Goals as goal

pub after-requires : goal.after-requires
after-requires g c = record {
  heaps = c.requires.heaps;
  knows = λ told. ∥∥₁_map (c.requires.knows told) (λ knows.
      record { ends = kept_ends c.args.ends.now; linkage = knows.linkage; spells = knows.spells; is_child = left_is_child knows.spells knows.parted c.in-Some.left c.in-Some.is });
}

pub first-requires : goal.first-requires
first-requires g c = record { heaps = c.requires.heaps; knows = λ told. ∥∥₁_map (c.requires.knows told) (λ knows. record { linkage = knows.linkage; spells = knows.spells; is_parent = knows.parted.is_parent }) }

pub returns-in-Some-clause-finds : goal.returns-in-Some-clause-finds
returns-in-Some-clause-finds g c = IfOk-weaker c.after.result _ _ (λ found answers told linkage before after spells parted.
    finds_behind spells parted c.in-Some.left c.in-Some.is found (answers told (kept_ends c.args.ends.now) linkage spells (left_is_child spells parted c.in-Some.left c.in-Some.is))) c.after.ensures.after

pub returns-in-None-clause-finds : goal.returns-in-None-clause-finds
returns-in-None-clause-finds g c = IfOk-weaker c.first.result _ _ (λ found answers told linkage before after spells parted.
    finds_first spells parted c.in-None.is found (answers told linkage spells parted.is_parent)) c.first.ensures.first
