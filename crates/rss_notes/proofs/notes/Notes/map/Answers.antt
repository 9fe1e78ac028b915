use Rattle.std.proofs.Common.{length, sym, ap, ◌∙◌, subst, arith}
use Rattle.std.proofs.lemmas.List.{with_items_is}
use Rattle.rss_base.specs.PageMap.{IsKey}
use Rattle.rss_notes.specs.Marks.{Marked}
use Rattle.rss_notes.proofs.Marking.{maps, length-with_mark}
use Rattle.rss_notes.proofs.notes.Notes.map.Goals as goal

pub returns : goal.returns
returns c =
    let s = c.self.inside in
    let put = rw c.deref_mut.ensures.value at c.put_mark.ensures in
    let long = ap length put ∙ length-with_mark s.columns.items c.args.key 65535 in
    let allowed = subst (λ (m : Marked). IsKey m.slots c.args.key) (sym c.self.view_is) c.requires in
    rw (with_items_is s.columns c.put_mark.new.columns (omega (arith, long, s.columns.ok.0)), put, ← c.self.view_is) (maps s.slots s.columns.items c.self.invariant c.args.key allowed)
