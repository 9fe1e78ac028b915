use Rattle.std.proofs.Common.{sym, ◌∙◌}
use Rattle.std.proofs.lemmas.Bool.{false≢true}
use Rattle.rss_session.proofs.NextUniques.{least_new, least_passes, least_stays}
use Rattle.rss_session.proofs.uniques.lesser_of.Goals as goal
use Rattle.rss_session.proofs.uniques.lesser_of.Goals.{else-is_unique_behind-via-then-is_unique_behind+else-is_before, else-is_unique_behind-via-else-is_unique_behind}

pub returns-then-is_before : goal.returns-then-is_before
returns-then-is_before c = least_new c.args.catalog.now.listing c.args.relation c.args.after c.args.number c.args.least c.requires (c.is_unique_behind.ensures.0 c.if-is_unique_behind.true) (c.is_before.ensures.0 c.if-is_before.true)

pub returns-else-is_unique_behind : goal.returns-else-is_unique_behind
returns-else-is_unique_behind c =
    elim c.else-is_unique_behind.branch [
      | else-is_unique_behind-via-then-is_unique_behind+else-is_before w ↦ least_stays c.args.catalog.now.listing c.args.relation c.args.after c.args.number c.args.least c.requires (λ is. false≢true (sym w.if-is_before.false ∙ w.is_before.ensures.1 is))
      | else-is_unique_behind-via-else-is_unique_behind w ↦ least_passes c.args.catalog.now.listing c.args.relation c.args.after c.args.number c.args.least c.requires (λ is. false≢true (sym w.if-is_unique_behind.false ∙ c.is_unique_behind.ensures.1 is))
    ]
