use Rattle.std.proofs.Common.{◌++◌, sym, ◌∙◌, ap, subst}
use Rattle.rss_base.specs.LogRecords.{ArePlaced}
use Rattle.rss_log.specs.Logs.{LogView, HasRecords, with_head}
use Rattle.rss_log.specs.Inside.{log_view}
use Rattle.rss_log.proofs.LogViews.{head_view, later_records}
use Rattle.rss_log.proofs.log.Log.set_head.Goals as goal

pub returns-clause-moved : goal.returns-clause-moved
returns-clause-moved c =
    head_view c.self.inside c.args.head (rw (← c.self.view_is) at c.requires.low) (rw (← c.self.view_is) at c.requires.high) ∙ ap (λ (v : LogView). with_head v c.args.head) c.self.view_is

pub returns-clause-records : goal.returns-clause-records
returns-clause-records c = λ gone ps has placed.
    let low = rw (← c.self.view_is) at c.requires.low in
    let high = rw (← c.self.view_is) at c.requires.high in
    let moved = later_records (log_view c.self.inside) c.args.head gone ps low (subst (λ (v : LogView). HasRecords v (gone ++ ps)) (sym c.self.view_is) has) (subst (λ (v : LogView). ArePlaced v.head gone c.args.head) (sym c.self.view_is) placed) in
    subst (λ (v : LogView). HasRecords v ps) (sym (head_view c.self.inside c.args.head low high)) moved
