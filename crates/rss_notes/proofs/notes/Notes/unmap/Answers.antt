use Rattle.std.proofs.Common.{length, ap, ◌∙◌, arith}
use Rattle.std.proofs.lemmas.List.{with_items_is}
use Rattle.rss_notes.proofs.Marking.{unmaps, length-with_mark}
use Rattle.rss_notes.proofs.notes.Notes.unmap.Goals as goal

pub returns : goal.returns
returns c =
    let s = c.self.inside in
    let put = rw c.deref_mut.ensures.value at c.put_mark.ensures in
    let long = ap length put ∙ length-with_mark s.columns.items c.args.key 0 in
    rw (with_items_is s.columns c.put_mark.new.columns (omega (arith, long, s.columns.ok.0)), put, ← c.self.view_is) (unmaps s.slots s.columns.items c.self.invariant c.args.key)
