use Rattle.std.proofs.Common.{◌≡◌, inl, inr, length, refl, sym, ap, ◌∙◌, arith}
use Rattle.std.specs.Prelude.{None}
use Rattle.std.proofs.lemmas.List.{with_items_is}
use Rattle.rss_notes.specs.Marks.{mark_of, note_of_mark}
use Rattle.rss_notes.proofs.Marking.{notes_again, rests, length-with_mark}
use Rattle.rss_notes.proofs.notes.Notes.forget.Goals as goal

pub returns-then-mark : goal.returns-then-mark
returns-then-mark c =
    let s = c.self.inside in
    let mark = rw c.deref.ensures.value at c.mark_of-mark.ensures in
    let put = rw c.deref_mut.ensures.value at c.put_mark.ensures in
    let long = ap length put ∙ length-with_mark s.columns.items c.args.key 65535 in
    rw (with_items_is s.columns c.put_mark.new.columns (omega (arith, long, s.columns.ok.0)), put, ← c.self.view_is) (notes_again s.slots s.columns.items c.self.invariant c.args.key 65535 None (omega (arith, mark)) (omega arith) refl)

pub returns-else-mark-ne-UNMAPPED : goal.returns-else-mark-ne-UNMAPPED
returns-else-mark-ne-UNMAPPED c =
    let s = c.self.inside in
    let mark = rw c.deref.ensures.value at c.mark_of-mark.ensures in
    let none : note_of_mark (mark_of s.columns.items c.args.key) ≡ None = elim c.else-mark-ne-UNMAPPED.either [
      | inl both ↦ ap note_of_mark (sym mark ∙ both.1)
      | inr zero ↦ ap note_of_mark (sym mark ∙ zero)
    ] in
    rw (← c.self.view_is) (rests s.slots s.columns.items c.self.invariant c.args.key none)
