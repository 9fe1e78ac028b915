use Rattle.rss_embed.proofs.fetch.Goals as goal

pub returns : goal.returns
returns g c = λ up told state shown. (c.in_ok-fetch_into.ensures.did.outcome up).answered told state shown
