use Rattle.std.proofs.Common.{◌<◌, length, sym, ◌∙◌, ap, arith}
use Rattle.std.specs.Ordering.{is_eq}
use Rattle.rss_plain.specs.Maps.{place_of}
use Rattle.rss_plain.proofs.Puts.{set_there, insert_past, insert_before}
use Rattle.rss_plain.proofs.sorted.put_in.Goals.{else-place-len-via-then-place-len+else-is_eq, else-place-len-via-else-place-len}
use Rattle.rss_plain.proofs.sorted.put_in.Goals as goal

pub returns-then-is_eq-clause-ok : goal.returns-then-is_eq-clause-ok
returns-then-is_eq-clause-ok g c =
    let R = g.K.Keyed.order in
    let es = c.args.list.now.items in
    let place = c.place_of-place.result in
    let ok = c.args.list.now.ok in
    let low : place < length es = omega (arith, c.if-place-len.true, c.len.ensures, ok.0) in
    set_there R c.args.key c.args.value es place
    (c.place_of-place.ensures.place ∙ ap (λ l. place_of R c.args.key l) c.deref.ensures.value)
    c.index_mut.result.now c.index.result.now low c.index_mut.ensures.value c.index.ensures
    (ap is_eq (sym c.compare.ensures) ∙ sym c.is_eq.ensures ∙ c.if-is_eq.true)

pub returns-in_ok-insert-clause-ok : goal.returns-in_ok-insert-clause-ok
returns-in_ok-insert-clause-ok g c =
    let R = g.K.Keyed.order in
    let es = c.args.list.now.items in
    let place = c.place_of-place.result in
    let ok = c.args.list.now.ok in
    let is = c.place_of-place.ensures.place ∙ ap (λ l. place_of R c.args.key l) c.deref.ensures.value in
    c.in_ok-insert.ensures.items ∙ elim c.else-place-len.branch [
      | else-place-len-via-then-place-len+else-is_eq w ↦
          let low : place < length es = omega (arith, w.if-place-len.true, c.len.ensures, ok.0) in
          insert_before R c.args.key c.args.value es place is w.index.result.now low w.index.ensures
          (ap is_eq (sym w.compare.ensures) ∙ sym w.is_eq.ensures ∙ w.if-is_eq.false)
      | else-place-len-via-else-place-len w ↦ insert_past R c.args.key c.args.value es place is
          (omega (arith, w.if-place-len.false, c.len.ensures, ok.0))
    ]
