use Rattle.std.proofs.Common.{List, sym, ◌∙◌, ap}
use Rattle.std.specs.FinMap.{entries}
use Rattle.rss_plain.specs.Maps.{mapped}
use Rattle.rss_plain.proofs.Maps.{entries_mapped}
use Rattle.rss_plain.proofs.sorted.Sorted.entries.Goals as goal

pub returns : goal.returns
returns g c =
    c.as_slice.ensures.value ∙ sym (entries_mapped g.K.Keyed.order c.self.inside.list.items c.self.invariant)
    ∙ ap (λ (l : List _). entries (mapped g.K.Keyed.order l)) c.self.view_is
