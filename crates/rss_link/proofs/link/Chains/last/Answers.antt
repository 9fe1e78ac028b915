use Rattle.std.proofs.Math.Logic.{∥∥₁_map}
use Rattle.std.proofs.Common.{ap}
use Rattle.rss_base.specs.Prefixes.{Ends, ends_of}
use Rattle.rss_link.proofs.Meaning.{ends_as}
use Rattle.rss_link.proofs.link.Chains.last.Goals as goal

pub ends-requires : goal.ends-requires
ends-requires g c = record { heaps = c.requires.heaps; some = λ told. ∥∥₁_map (c.requires.knows told) (λ knows. record { ends = ends_of (knows.linkage.lists c.args.parent); says = knows.spells.chains.ends c.args.parent knows.is_parent }) }

pub returns-clause-last : goal.returns-clause-last
returns-clause-last g c = λ told linkage spells is_parent.
    ap (λ (e : Ends). e.last) (ends_as spells c.args.parent _ is_parent (c.in_ok-ends.ensures.says told))
