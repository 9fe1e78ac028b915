use Rattle.std.proofs.Common.{arith, ap}
use Rattle.rss_base.specs.declared.tid.Tid.{Tid}
use Rattle.rss_access.proofs.edit.TupleChange.may_become.Goals as goal
use Rattle.rss_access.proofs.edit.TupleChange.may_become.Goals.{then-self-slots-via-then-self-slots, then-self-slots-via-else-self-slots+then-from-ge-PAGE_ENTRIES, then-self-slots-via-else-self-slots+else-from-ge-PAGE_ENTRIES+then-prefix_len-ge-FRONT_BYTES}
use Rattle.rss_access.proofs.Making.{tid_by, few_prefix}

pub returns-then-self-slots-clause-no : goal.returns-then-self-slots-clause-no
returns-then-self-slots-clause-no c = λ may. elim c.then-self-slots.branch [
  | then-self-slots-via-then-self-slots w ↦ absurd (let page = ap (λ (t : Tid). t.page) (tid_by c.args.self) in omega (arith, may.named.page, page, w.if-self-slots))
  | then-self-slots-via-else-self-slots+then-from-ge-PAGE_ENTRIES w ↦ absurd (let slot = ap (λ (t : Tid). t.slot) (tid_by c.args.self) in omega (arith, may.named.slot, slot, w.from.ensures, w.if-from-ge-PAGE_ENTRIES))
  | then-self-slots-via-else-self-slots+else-from-ge-PAGE_ENTRIES+then-prefix_len-ge-FRONT_BYTES w ↦ absurd (omega (arith, w.prefix_len.ensures.is, few_prefix c.args.self may, w.if-prefix_len-ge-FRONT_BYTES))
]
