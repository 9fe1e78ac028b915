use Rattle.std.proofs.Common.{sym, ◌∙◌}
use Rattle.rss_members.proofs.Found.{places_decide}
use Rattle.rss_members.proofs.reading.is_under.Goals as goal

pub returns-in-Some : goal.returns-in-Some
returns-in-Some c =
    let decide = places_decide c.in-Some.place.parent c.args.parent in
    rw c.in-Some.is ((λ yes. decide.0 (sym c.eq.ensures ∙ yes)), (λ same. c.eq.ensures ∙ decide.1 same))
