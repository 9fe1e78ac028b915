use Rattle.std.proofs.Common.{◌≡◌, inl, inr, false, ◌∙◌, ap, arith}
use Rattle.std.specs.Prelude.{Err}
use Rattle.rss_base.specs.declared.refusal.Refusal.TheVariants.{Full, LogFull}
use Rattle.rss_model.proofs.Lengths.{full_line}
use Rattle.rss_trans.specs.declared.sums.Sums.{Sums}
use Rattle.rss_session.specs.Parts.{view}
use Rattle.rss_session.specs.Weighing.{goes_on, saved_room_with}
use Rattle.rss_session.proofs.Outcomes.{goes_on_so, stays_off, is_full, log_is_full, saves_first}
use Rattle.rss_session.proofs.Lines.{log_full_line}
use Rattle.rss_session.proofs.Weighed.{rules_so}
use Rattle.rss_session.proofs.session.Session.weigh.Goals.{else-room-from-via-then-room-from+else-needed-log_free, else-room-from-via-else-room-from}
use Rattle.rss_session.proofs.session.Session.weigh.Goals as goal

pub returns-then-needed-log_free-clause-rules : goal.returns-then-needed-log_free-clause-rules
returns-then-needed-log_free-clause-rules g c =
    let now = view g.S.Pages.view c.args.self.now in
    rules_so now c.args.transaction c.args.number c.args.size _ c.requires.ready (g.met.S.Pages.holds c.args.self.now.store.tuples.pages)
    (goes_on_so now c.args.transaction c.args.number c.args.size
    (omega (arith, c.if-room-from.true, c.images_bound-images.ensures.is, c.from-2.ensures, c.slots-slots.ensures, c.room_of-room.ensures, c.from.ensures, ap (λ (s : Sums). s.s) c.sums-sums.ensures))
    (omega (arith, c.if-needed-log_free.true, c.log_free.ensures.free, c.needed_with-needed.ensures)))

pub returns-then-room-from-2-clause-weighed : goal.returns-then-room-from-2-clause-weighed
returns-then-room-from-2-clause-weighed g c =
    let now = view g.S.Pages.view c.args.self.now in
    let off : goes_on now c.args.transaction c.args.number c.args.size ≡ false = stays_off now c.args.transaction c.args.number c.args.size (elim c.else-room-from.branch [
      | else-room-from-via-then-room-from+else-needed-log_free w ↦ inr (omega (arith, w.if-needed-log_free.false, w.log_free.ensures.free, c.needed_with-needed.ensures))
      | else-room-from-via-else-room-from w ↦ inl (omega (arith, w.if-room-from.false, c.images_bound-images.ensures.is, c.from-2.ensures, c.slots-slots.ensures, c.room_of-room.ensures, c.from.ensures, ap (λ (s : Sums). s.s) c.sums-sums.ensures))
    ]) in
    let slots : c.slots-slots.result ≡ now.store.root.slots = c.slots-slots.ensures in
    let room : c.room_of-room-2.result ≡ saved_room_with now c.args.number = omega (arith, c.room_of-room-2.ensures, c.images_bound-images-2.ensures.is, c.from-3.ensures, c.heap.ensures, ap (λ (s : Sums). s.p) c.sums-sums.ensures) in
    (λ i. Err (Full (slots i) (room i))) ∙ is_full now c.args.transaction c.args.number c.args.size off (omega (arith, c.if-room-from-2.true, c.from-4.ensures, slots, room))

pub returns-then-room-from-2-clause-rules : goal.returns-then-room-from-2-clause-rules
returns-then-room-from-2-clause-rules g c =
    rules_so (view g.S.Pages.view c.args.self.now) c.args.transaction c.args.number c.args.size _ c.requires.ready (g.met.S.Pages.holds c.args.self.now.store.tuples.pages) (returns-then-room-from-2-clause-weighed g c)

pub returns-then-room-from-2-clause-short : goal.returns-then-room-from-2-clause-short
returns-then-room-from-2-clause-short g c = full_line c.slots-slots.result c.room_of-room-2.result (omega arith) (omega arith)

pub returns-then-needed-free-clause-weighed : goal.returns-then-needed-free-clause-weighed
returns-then-needed-free-clause-weighed g c =
    let now = view g.S.Pages.view c.args.self.now in
    let off : goes_on now c.args.transaction c.args.number c.args.size ≡ false = stays_off now c.args.transaction c.args.number c.args.size (elim c.else-room-from.branch [
      | else-room-from-via-then-room-from+else-needed-log_free w ↦ inr (omega (arith, w.if-needed-log_free.false, w.log_free.ensures.free, c.needed_with-needed.ensures))
      | else-room-from-via-else-room-from w ↦ inl (omega (arith, w.if-room-from.false, c.images_bound-images.ensures.is, c.from-2.ensures, c.slots-slots.ensures, c.room_of-room.ensures, c.from.ensures, ap (λ (s : Sums). s.s) c.sums-sums.ensures))
    ]) in
    let slots : c.slots-slots.result ≡ now.store.root.slots = c.slots-slots.ensures in
    let room : c.room_of-room-2.result ≡ saved_room_with now c.args.number = omega (arith, c.room_of-room-2.ensures, c.images_bound-images-2.ensures.is, c.from-3.ensures, c.heap.ensures, ap (λ (s : Sums). s.p) c.sums-sums.ensures) in
    (λ i. Err (LogFull (c.saved_free-free.ensures i) (c.needed_with-needed.ensures i)))
    ∙ log_is_full now c.args.transaction c.args.number c.args.size off (omega (arith, c.if-room-from-2.false, c.from-4.ensures, slots, room)) (omega (arith, c.if-needed-free.true, c.saved_free-free.ensures, c.needed_with-needed.ensures))

pub returns-then-needed-free-clause-rules : goal.returns-then-needed-free-clause-rules
returns-then-needed-free-clause-rules g c =
    rules_so (view g.S.Pages.view c.args.self.now) c.args.transaction c.args.number c.args.size _ c.requires.ready (g.met.S.Pages.holds c.args.self.now.store.tuples.pages) (returns-then-needed-free-clause-weighed g c)

pub returns-then-needed-free-clause-short : goal.returns-then-needed-free-clause-short
returns-then-needed-free-clause-short g c = log_full_line c.saved_free-free.result c.needed_with-needed.result (omega arith) (omega arith)

pub returns-clause-weighed : goal.returns-clause-weighed
returns-clause-weighed g c =
    let now = view g.S.Pages.view c.args.self.now in
    let off : goes_on now c.args.transaction c.args.number c.args.size ≡ false = stays_off now c.args.transaction c.args.number c.args.size (elim c.else-room-from.branch [
      | else-room-from-via-then-room-from+else-needed-log_free w ↦ inr (omega (arith, w.if-needed-log_free.false, w.log_free.ensures.free, c.needed_with-needed.ensures))
      | else-room-from-via-else-room-from w ↦ inl (omega (arith, w.if-room-from.false, c.images_bound-images.ensures.is, c.from-2.ensures, c.slots-slots.ensures, c.room_of-room.ensures, c.from.ensures, ap (λ (s : Sums). s.s) c.sums-sums.ensures))
    ]) in
    let slots : c.slots-slots.result ≡ now.store.root.slots = c.slots-slots.ensures in
    let room : c.room_of-room-2.result ≡ saved_room_with now c.args.number = omega (arith, c.room_of-room-2.ensures, c.images_bound-images-2.ensures.is, c.from-3.ensures, c.heap.ensures, ap (λ (s : Sums). s.p) c.sums-sums.ensures) in
    saves_first now c.args.transaction c.args.number c.args.size off (omega (arith, c.if-room-from-2.false, c.from-4.ensures, slots, room)) (omega (arith, c.if-needed-free.false, c.saved_free-free.ensures, c.needed_with-needed.ensures))

pub returns-clause-rules : goal.returns-clause-rules
returns-clause-rules g c =
    rules_so (view g.S.Pages.view c.args.self.now) c.args.transaction c.args.number c.args.size _ c.requires.ready (g.met.S.Pages.holds c.args.self.now.store.tuples.pages) (returns-clause-weighed g c)
