use Rattle.std.proofs.Common.{◌∙◌, sym, ap}
use Rattle.rss_base.specs.PageMap.{page_count}
use Rattle.rss_shadow.specs.Maps.{Maps}
use Rattle.rss_store.proofs.Read.{current_counted}
use Rattle.rss_session.proofs.session.Session.mapped.Goals as goal

pub returns : goal.returns
returns g c = c.mapped.ensures ∙ ap (λ (m : Maps). page_count m.current) c.shadow.ensures ∙ sym (current_counted (g.met.S.Saving.saveable c.args.self.now.store.tuples.pages))
