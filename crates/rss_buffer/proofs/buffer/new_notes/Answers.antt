use Rattle.std.proofs.Common.{length, sym, ap, ◌∙◌, subst, arith}
use Rattle.rss_base.specs.PageMap.{IsTable}
use Rattle.rss_notes.specs.Marks.{told}
use Rattle.rss_shadow.proofs.Counts.{Owners}
use Rattle.rss_buffer.specs.Buffered.{AreNotesOf}
use Rattle.rss_buffer.proofs.Noted.{none_put, free_put, one_put, all_put}
use Rattle.rss_buffer.proofs.buffer.new_notes.Goals.{in-Some, in_default}
use Rattle.rss_buffer.proofs.buffer.new_notes.Goals as goal

pub loop-owner-init : goal.loop-owner-init
loop-owner-init c =
    let new = c.in_ok-notes.ensures in
    none_put _ _ (new.slots ∙ c.slots.ensures.count ∙ ap length (sym c.as_slice-owner-items.ensures.owners)) new.mapped new.notes

pub map-requires : goal.map-requires
map-requires c =
    let table = subst IsTable (sym c.as_slice-owner-items.ensures.owners) c.as_slice-owner-items.ensures.table in
    rw c.loop-owner.invariant.slots (table.allowed c.loop-owner.owner-index c.in-Some.key c.in-Some.is)

pub loop-owner-preserved : goal.loop-owner-preserved
loop-owner-preserved c = elim c.match-owner.branch [
  | in-Some w ↦ rw w.notes-is (one_put w.in-Some.is w.map.ensures c.loop-owner.invariant)
  | in_default w ↦ rw w.notes-is (free_put w.in_default.is c.loop-owner.invariant)
]

pub returns-clause-notes : goal.returns-clause-notes
returns-clause-notes c =
    let owners = c.as_slice-owner-items.ensures.owners in
    subst (λ (o : Owners). AreNotesOf o (told c.loop-owner.notes)) owners (all_put (omega arith) c.loop-owner.invariant)

pub returns-clause-none : goal.returns-clause-none
returns-clause-none c = c.loop-owner.invariant.none
