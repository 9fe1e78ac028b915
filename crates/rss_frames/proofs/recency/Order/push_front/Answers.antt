use Rattle.std.proofs.Common.{◌≡◌, ◌+◌, ◌<◌, ◌∷◌, length, get_or, set, refl, sym, ap, subst, arith}
use Rattle.std.proofs.lemmas.List.{get_or_read}
use Rattle.rss_frames.specs.Recency.{Recency}
use Rattle.rss_frames.specs.Lists.{Has}
use Rattle.rss_frames.specs.Links.{ring, IsLinked}
use Rattle.rss_frames.proofs.Ring.{length-walk, ring_is, first_within, pushed}
use Rattle.rss_frames.proofs.recency.Order.push_front.Goals as goal

pub index_mut-requires-4 : goal.index_mut-requires-4
index_mut-requires-4 c =
    let o = c.self.inside in
    let read = get_or_read o.next.items o.room c.index-first.result.now (omega (arith, c.self.invariant.0.nexts)) c.index-first.ensures 0 in
    omega (arith, read, first_within o.next.items o.prev.items o.room _ c.self.invariant.0, c.self.invariant.0.prevs)

pub overflow_add-self : goal.overflow_add-self
overflow_add-self c =
    let o = c.self.inside in
    omega (arith, length-walk o.next.items o.len (get_or o.next.items o.room 0), c.self.invariant.0.fits, ap (λ (r : Recency). length r.frames) c.self.view_is, ap (λ (r : Recency). r.room) c.self.view_is)

-- the links after the writes
linked : (c : goal.After-self-5-1) → let o = c.self.inside in let f = c.index-first.result.now in
    IsLinked (set (set o.next.items c.args.frame f) o.room c.args.frame) (set (set o.prev.items c.args.frame o.room) f c.args.frame) o.room (c.args.frame ∷ ring o.next.items o.len o.room)
linked c =
    let o = c.self.inside in
    let read = get_or_read o.next.items o.room c.index-first.result.now (omega (arith, c.self.invariant.0.nexts)) c.index-first.ensures 0 in
    let view = c.self.view_is in
    pushed o.next.items o.prev.items o.room (ring o.next.items o.len o.room) c.args.frame c.index-first.result.now read
    (subst (λ (r : Recency). c.args.frame < r.room) (sym view) c.requires.within)
    (subst (λ (r : Recency). Has c.args.frame r.frames → ⊥) (sym view) c.requires.absent)
    (subst (λ (r : Recency). length r.frames < r.room) (sym view) c.requires.free)
    (omega (arith, read, first_within o.next.items o.prev.items o.room _ c.self.invariant.0))
    c.self.invariant.0

frames_are : (c : goal.After-self-5-1) → let o = c.self.inside in let f = c.index-first.result.now in
    ring (set (set o.next.items c.args.frame f) o.room c.args.frame) (o.len + 1) o.room ≡ c.args.frame ∷ ring o.next.items o.len o.room
frames_are c =
    let o = c.self.inside in
    ring_is _ _ o.room (o.len + 1) _ (omega (arith, length-walk o.next.items o.len (get_or o.next.items o.room 0))) (linked c).leads

pub invariant_of-self : goal.invariant_of-self
invariant_of-self c = (rw (frames_are c) (linked c), c.self.invariant.1)

pub returns : goal.returns
returns c = rw (frames_are c, ← c.self.view_is) refl
