use Rattle.rss_model.specs.Images.{owner_of_key}
use Rattle.rss_plain.proofs.plain.Plain.owner_of.Goals as goal

pub returns : goal.returns
unfolding owner_of_key
returns c = rw (c.in_ok-key.ensures, c.entries.ensures) at c.owner_among.ensures
