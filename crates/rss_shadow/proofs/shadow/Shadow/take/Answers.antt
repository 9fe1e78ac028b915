use Rattle.rss_shadow.proofs.Found.{IsLeastLacking-free}
use Rattle.rss_shadow.proofs.shadow.Shadow.take.Goals as goal

pub take_at-requires-clause-lacking : goal.take_at-requires-clause-lacking
take_at-requires-clause-lacking c =
    let free = c.in-Some.ensures in
    (IsLeastLacking-free c.self.invariant c.requires.low c.requires.high c.requires.space c.in-Some.number c.self.view_is free.within free.free free.lesser).lacking

pub returns-clause-least : goal.returns-clause-least
returns-clause-least c =
    let free = c.in-Some.ensures in
    IsLeastLacking-free c.self.invariant c.requires.low c.requires.high c.requires.space c.in-Some.number c.self.view_is free.within free.free free.lesser
