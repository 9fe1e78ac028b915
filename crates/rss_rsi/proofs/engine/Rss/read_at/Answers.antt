use Rattle.rss_rsi.proofs.engine.Rss.read_at.Goals as goal

pub returns : goal.returns
returns g c = λ relation at. record { body = c.body-body.result.now; lent = c.body-body.ensures; comes = c.tuple_in.ensures relation at }
