use Rattle.std.proofs.Common.{◌∙◌, ap, Err}
use Rattle.rss_base.proofs.Looking.{checks_load}
use Rattle.rss_catalog.proofs.loading.load_page.Goals as goal

pub load-requires : goal.load-requires
load-requires g c = ap (g.P.Pages.view c.args.pages.now).mapped c.key_of.ensures ∙ c.requires.mapped c.args.number c.requires.within

pub returns-in-Ok-clause-did : goal.returns-in-Ok-clause-did
returns-in-Ok-clause-did g c = checks_load _ c.load.ensures.did (λ is. absurd (cc))

pub returns-in-Err-clause-did : goal.returns-in-Err-clause-did
returns-in-Err-clause-did g c = checks_load _ c.load.ensures.did (λ is. c.in-Err.is ∙ ap Err (c.fault_of.ensures.failed (cc)))

pub returns-in-Err-clause-unread : goal.returns-in-Err-clause-unread
returns-in-Err-clause-unread g c = λ place is.
    let found = c.fault_of.ensures.damaged place (cc) in
    record { named = found.0; untold = λ told. c.load.ensures.did.sound found.1.0 (c.in-Err.is ∙ ap Err found.1.1) told }
