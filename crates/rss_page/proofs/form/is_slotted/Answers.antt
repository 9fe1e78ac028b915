use Rattle.std.proofs.Common.{◌≡◌, ℕ, get_or, refl, subst, sym, arith}
use Rattle.std.proofs.lemmas.Bool.{false≢true}
use Rattle.rss_page.specs.declared.entry_form.Entry.{Entry}
use Rattle.rss_page.specs.Slotted.{entry_of}
use Rattle.rss_page.specs.Marks.{IsWithin, Claims, IsClaimed}
use Rattle.rss_page.proofs.Claimed.{AreSlotted, slots_none, slots_more, slots_all, entry_within, not_claimed}
use Rattle.rss_page.proofs.form.is_slotted.Goals as goal

pub loop-slot-init : goal.loop-slot-init
loop-slot-init c = slots_none c.args.page.now

pub claim-requires : goal.claim-requires
claim-requires c = subst IsWithin (sym c.in-Some.ensures.spelled) (entry_within (get_or c.args.page.now 0 0) (entry_of c.args.page.now c.loop-slot.slot) (c.in-Some.ensures.exact.0 refl).allowed)

pub loop-slot-preserved : goal.loop-slot-preserved
loop-slot-preserved c = slots_more c.args.page.now c.loop-slot.slot c.loop-slot.marks c.claim.new.marks c.loop-slot.invariant (c.in-Some.ensures.exact.0 refl) (subst (λ (e : Entry). Claims c.loop-slot.marks e c.claim.new.marks) c.in-Some.ensures.spelled c.if-not-claim.ensures.claimed)

pub returns-then-not-claim : goal.returns-then-not-claim
returns-then-not-claim c =
    let taken = subst (IsClaimed c.loop-slot.marks) c.in-Some.ensures.spelled c.if-not-claim.ensures.taken in
    (λ is. absurd (false≢true is), λ slotted. absurd (not_claimed c.args.page.now c.loop-slot.slot c.loop-slot.marks c.loop-slot-test.true c.loop-slot.invariant taken slotted))

pub returns : goal.returns
returns c =
    let all : c.loop-slot.slot ≡ 128 = omega arith in
    (λ is. slots_all c.args.page.now c.loop-slot.marks c.told-page (subst (λ (n : ℕ). AreSlotted c.args.page.now n c.loop-slot.marks) all c.loop-slot.invariant), λ slotted. refl)
