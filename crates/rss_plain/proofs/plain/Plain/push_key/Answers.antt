use Rattle.rss_plain.proofs.plain.Plain.push_key.Goals as goal

pub returns : goal.returns
returns c = rw c.in_ok-key.ensures at c.push.ensures
