use Rattle.std.proofs.Common.{refl, sym, ◌∙◌}
use Rattle.rss_model.proofs.LogLists.{false_true}
use Rattle.rss_draft.proofs.lists.has_gap.Goals as goal

pub returns-then-stands_in : goal.returns-then-stands_in
returns-then-stands_in c = ((λ yes. absurd (cc (yes))), (λ gap. false_true (sym c.stands_in.ensures ∙ c.if-stands_in.true) gap.apart))

pub returns-in-Some : goal.returns-in-Some
returns-in-Some c = rw c.in-Some.is (
  (λ yes. record { apart = sym c.stands_in.ensures ∙ c.if-stands_in.false; behind = sym c.stands_in-in-Some.ensures ∙ yes }),
  (λ gap. c.stands_in-in-Some.ensures ∙ gap.behind),
)

pub returns-in-None : goal.returns-in-None
returns-in-None c = rw c.in-None.is (
  (λ yes. record { apart = sym c.stands_in.ensures ∙ c.if-stands_in.false; behind = tt }),
  (λ gap. refl),
)
