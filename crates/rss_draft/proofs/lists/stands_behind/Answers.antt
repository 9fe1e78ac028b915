use Rattle.std.proofs.Common.{◌+◌, sym, ◌∙◌, ap}
use Rattle.rss_model.specs.Chains.{stands_in}
use Rattle.rss_model.proofs.LogLists.{false_true}
use Rattle.rss_draft.proofs.InLists.{tail_is, behind_yes, behind_both, behind_there}
use Rattle.rss_draft.proofs.lists.stands_behind.Goals as goal

pub returns-in_default : goal.returns-in_default
returns-in_default c = ((λ yes. absurd (cc (yes))), (λ stands. false_true (behind_there stands) (rw c.in_default.is at c.place_in.ensures)))

pub returns-then-stands_in : goal.returns-then-stands_in
returns-then-stands_in c =
    let first = rw c.in-Some.is at c.place_in.ensures in
    let tail = ap (stands_in c.args.child) (tail_is c.args.tids.now (c.in-Some.place + 1)) in (
      (λ yes. absurd (cc (yes))),
      (λ stands. false_true (sym tail ∙ sym c.stands_in.ensures ∙ c.if-stands_in.true) (behind_both first stands).1),
    )

pub returns : goal.returns
returns c =
    let first = rw c.in-Some.is at c.place_in.ensures in
    let tail = ap (stands_in c.args.child) (tail_is c.args.tids.now (c.in-Some.place + 1)) in (
      (λ yes. behind_yes first (c.ends_with.ensures.0 yes) (sym tail ∙ sym c.stands_in.ensures ∙ c.if-stands_in.false)),
      (λ stands. c.ends_with.ensures.1 (behind_both first stands).0),
    )
