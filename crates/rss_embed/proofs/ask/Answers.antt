use Rattle.rss_embed.proofs.ask.Goals as goal

pub returns : goal.returns
returns g c = λ up told state shown. (c.in_ok-call.ensures.done.outcome up).answered told state shown
