use Rattle.std.proofs.Common.{Some, ◌∙◌, length, sym, ap, subst, arith}
use Rattle.rss_base.specs.PageMap.{IsTable}
use Rattle.rss_shadow.proofs.Counts.{Owners, one_heap_page-le, one_image_page-le}
use Rattle.rss_shadow.proofs.Filled.{AreFilled, AreFilled-none, AreFilled-free, AreFilled-more, AreFilled-few, IsShadow-filled}
use Rattle.rss_shadow.proofs.shadow.Shadow.new.Goals.{in-Some, in_default}
use Rattle.rss_shadow.proofs.shadow.Shadow.new.Goals as goal

pub loop-slot-init : goal.loop-slot-init
loop-slot-init c = AreFilled-none _ _ _ _ c.in_ok-index.ensures.numbers c.in_ok-index.ensures.empty c.in_ok-index.ensures.pages c.in_ok-used.ensures

pub put-requires : goal.put-requires
put-requires c =
    let table = subst IsTable (sym c.as_slice-owner-items.ensures.owners) c.as_slice-owner-items.ensures.table in
    let numbers = c.loop-slot.invariant.index_holds.numbers ∙ c.slots-slots.ensures.count ∙ ap length (sym c.as_slice-owner-items.ensures.owners) in
    rw numbers (table.allowed c.loop-slot.slot c.in-Some.key c.in-Some.is)

pub insert-requires : goal.insert-requires
insert-requires c = omega (arith, c.loop-slot.invariant.used_hold.count, c.slots-slots.ensures.count, ap length c.as_slice-owner-items.ensures.owners)

pub overflow_add-pages : goal.overflow_add-pages
overflow_add-pages c = omega (arith, AreFilled-few _ _ _ _ _ _ _ _ c.loop-slot.invariant, ap length c.as_slice-owner-items.ensures.owners, c.as_slice-owner-items.ensures.table.most)

pub overflow_add-heap : goal.overflow_add-heap
overflow_add-heap c = omega (arith, one_heap_page-le (Some c.in-Some.key), AreFilled-few _ _ _ _ _ _ _ _ c.loop-slot.invariant, ap length c.as_slice-owner-items.ensures.owners, c.as_slice-owner-items.ensures.table.most)

pub overflow_add-images : goal.overflow_add-images
overflow_add-images c = omega (arith, one_image_page-le (Some c.in-Some.key), AreFilled-few _ _ _ _ _ _ _ _ c.loop-slot.invariant, ap length c.as_slice-owner-items.ensures.owners, c.as_slice-owner-items.ensures.table.most)

pub loop-slot-preserved : goal.loop-slot-preserved
loop-slot-preserved c =
    let table = subst IsTable (sym c.as_slice-owner-items.ensures.owners) c.as_slice-owner-items.ensures.table in
    let long = c.slots-slots.ensures.count ∙ ap length (sym c.as_slice-owner-items.ensures.owners) in
    elim c.match-owner.branch [
      | in-Some w ↦ rw (w.index-is, w.used-is, w.pages-is, w.heap-is, w.images-is, w.insert.ensures, w.heap_pages-heap.ensures, w.image_pages-images.ensures)
          (AreFilled-more _ _ _ w.in-Some.key _ _ _ _ _ _ table long c.loop-slot-test.true w.in-Some.is w.put.ensures c.loop-slot.invariant)
      | in_default w ↦ rw (w.index-is, w.used-is, w.pages-is, w.heap-is, w.images-is) (AreFilled-free _ _ _ _ _ _ _ _ c.loop-slot-test.true w.in_default.is c.loop-slot.invariant)
    ]

pub invariant_of-result : goal.invariant_of-result
invariant_of-result c =
    let owners = c.as_slice-owner-items.ensures.owners in
    let table = c.as_slice-owner-items.ensures.table in
    let filled = subst (λ (o : Owners). AreFilled c.slots-slots.result o c.loop-slot.slot c.loop-slot.index c.loop-slot.used c.loop-slot.pages c.loop-slot.heap c.loop-slot.images) owners c.loop-slot.invariant in
    IsShadow-filled _ c.args.table _ c.loop-slot.slot _ _ _ _ _ table c.slots-slots.ensures.count (omega (arith, ap length owners)) (c.in_ok-shadow.ensures.items ∙ c.as_slice.ensures.owners) c.requires filled
