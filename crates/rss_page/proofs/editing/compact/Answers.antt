use Rattle.std.proofs.Common.{◌≡◌, ℕ, subst, arith}
use Rattle.rss_page.specs.Slotted.{EndBy}
use Rattle.rss_page.proofs.Moves.{AreMoved, moved_none, move_fits, move_more, moved_all, moved_close}
use Rattle.rss_page.proofs.editing.compact.Goals as goal

pub carry-end-requires-clause-slotted : goal.carry-end-requires-clause-slotted
carry-end-requires-clause-slotted c = c.loop-slot.invariant.slotted

pub carry-end-requires-clause-header : goal.carry-end-requires-clause-header
carry-end-requires-clause-header c = c.loop-slot.invariant.header

pub carry-end-requires-clause-ends : goal.carry-end-requires-clause-ends
carry-end-requires-clause-ends c = c.loop-slot.invariant.ends

pub carry-end-requires-clause-low : goal.carry-end-requires-clause-low
carry-end-requires-clause-low c = omega (arith, c.loop-slot.invariant.close)

pub carry-end-requires-clause-high : goal.carry-end-requires-clause-high
carry-end-requires-clause-high c = move_fits _ _ _ _ c.requires (omega arith) c.loop-slot.invariant

pub loop-slot-init : goal.loop-slot-init
loop-slot-init c = moved_none c.args.page.now c.clear.new.page _ c.clear.ensures.becomes c.clear.ensures.ends

pub loop-slot-preserved : goal.loop-slot-preserved
loop-slot-preserved c = move_more _ _ _ _ _ _ (omega arith) c.loop-slot.invariant c.carry-end.ensures.becomes c.carry-end.ensures.ends c.carry-end.ensures.close

-- all entries were moved
done : (c : goal.After-loop-slot) → AreMoved c.args.page.now c.loop-slot.page 128 c.loop-slot.end
done c =
    let all : c.loop-slot.slot ≡ 128 = omega arith in
    subst (λ (n : ℕ). AreMoved c.args.page.now c.loop-slot.page n c.loop-slot.end) all c.loop-slot.invariant

pub returns-clause-becomes : goal.returns-clause-becomes
returns-clause-becomes c = moved_all _ _ _ (done c)

pub returns-clause-close : goal.returns-clause-close
returns-clause-close c = subst (EndBy c.loop-slot.page) (moved_close _ _ _ (done c)) (done c).ends
