use Rattle.std.proofs.Common.{List, sym, ◌∙◌, ap}
use Rattle.std.specs.FinMap.{len}
use Rattle.rss_plain.specs.Maps.{mapped}
use Rattle.rss_plain.proofs.Maps.{len_mapped}
use Rattle.rss_plain.proofs.sorted.Sorted.len.Goals as goal

pub returns : goal.returns
returns g c =
    c.len.ensures ∙ c.self.inside.list.ok.0 ∙ sym (len_mapped g.K.Keyed.order c.self.inside.list.items c.self.invariant)
    ∙ ap (λ (l : List _). len (mapped g.K.Keyed.order l)) c.self.view_is
