use Rattle.std.proofs.Common.{◌+◌, length, sym, ap, ◌∙◌, arith}
use Rattle.std.specs.Prelude.{Some, None}
use Rattle.std.proofs.lemmas.Bool.{cond-true, lt-ltb}
use Rattle.std.proofs.lemmas.List.{with_items_is}
use Rattle.rss_notes.specs.Marks.{mark_of}
use Rattle.rss_notes.proofs.Marking.{notes_again, note_told, length-with_mark}
use Rattle.rss_notes.proofs.notes.Notes.note.Goals as goal

pub returns-then-mark_of-ne-UNMAPPED : goal.returns-then-mark_of-ne-UNMAPPED
returns-then-mark_of-ne-UNMAPPED c =
    let s = c.self.inside in
    let mark = rw c.deref.ensures.value at c.mark_of.ensures in
    let put = rw c.deref_mut.ensures.value at c.put_mark.ensures in
    let long = ap length put ∙ length-with_mark s.columns.items c.args.key (c.args.number + 1) in
    let note = note_told c.args.number c.requires ∙ sym (cond-true _ (Some c.args.number) None (lt-ltb 0 (mark_of s.columns.items c.args.key) (omega (arith, mark)))) in
    rw (with_items_is s.columns c.put_mark.new.columns (omega (arith, long, s.columns.ok.0)), put, ← c.self.view_is) (notes_again s.slots s.columns.items c.self.invariant c.args.key (c.args.number + 1) _ (omega (arith, mark)) (omega arith) note)
