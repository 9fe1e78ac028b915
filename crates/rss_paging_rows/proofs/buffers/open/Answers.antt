use Rattle.std.proofs.Common.{ℕ, sym, ◌∙◌, subst}
use Rattle.rss_base.specs.Layout.{map_at}
use Rattle.rss_base.specs.PageMap.{IsMap}
use Rattle.rss_base.proofs.Moments.{only_stays}
use Rattle.rss_paging_rows.proofs.buffers.open.Goals as goal

pub new-requires-clause-map : goal.new-requires-clause-map
new-requires-clause-map c = λ pages told.
    subst (λ (n : ℕ). IsMap n pages (map_at n c.in_ok-root.root.area) c.in_ok-table.table) (sym c.in_ok-table.ensures.count)
    (c.in_ok-table.ensures.found pages (sym c.read_table.ensures.did.reads.contents ∙ told))

pub new-requires-clause-synced : goal.new-requires-clause-synced
new-requires-clause-synced c = λ pages told.
    let read = sym c.read_table.ensures.did.reads.contents ∙ told in
    only_stays pages (c.in_ok-root.ensures.synced pages (sym c.load.ensures.did.reads.contents ∙ read)) (c.read_table.ensures.did.reads.moments (record { pages = pages; is = read }))
