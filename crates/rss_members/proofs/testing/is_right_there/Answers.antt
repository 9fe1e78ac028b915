use Rattle.std.proofs.Common.{sym, ◌∙◌}
use Rattle.rss_model.proofs.LogLists.{false_true}
use Rattle.rss_members.proofs.Found.{places_decide}
use Rattle.rss_members.proofs.testing.is_right_there.Goals as goal

pub returns-then-eq : goal.returns-then-eq
returns-then-eq c =
    let above = places_decide c.in-Some.place.parent c.args.parent in
    let behind = places_decide c.in-Some.place.left c.args.left in
    rw c.in-Some.is ((λ yes. (above.0 (sym c.eq.ensures ∙ c.if-eq.true), behind.0 (sym c.eq-then-eq.ensures ∙ yes))), (λ same. c.eq-then-eq.ensures ∙ behind.1 same.1))

pub returns-else-eq : goal.returns-else-eq
returns-else-eq c =
    let above = places_decide c.in-Some.place.parent c.args.parent in
    rw c.in-Some.is ((λ yes. absurd (cc (yes))), (λ same. false_true (c.eq.ensures ∙ above.1 same.0) c.if-eq.false))
