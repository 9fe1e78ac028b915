use Rattle.std.proofs.Common.{◌≡◌, ℕ, ◌+◌, ◌-◌, ◌<◌, ◌≤◌, length, get_or, set, refl, sym, ◌∙◌, subst, arith}
use Rattle.std.proofs.lemmas.List.{get_or_read}
use Rattle.rss_frames.specs.declared.recency.Order.TheInside.{Inside}
use Rattle.rss_frames.specs.contracts.recency.Order.{the_view}
use Rattle.rss_frames.specs.Recency.{Recency}
use Rattle.rss_frames.specs.Lists.{Has, without}
use Rattle.rss_frames.specs.Links.{ring, IsLinked}
use Rattle.rss_frames.proofs.Lists.{length-without}
use Rattle.rss_frames.proofs.Ring.{length-walk, ring_is, before_within, after_within, unlinked}
use Rattle.rss_frames.proofs.recency.Order.unlink.Goals as goal

-- the fields of an order that has the frame
record Opened (o : Inside) (frame : ℕ) : Type 0 where
  has : Has frame (ring o.next.items o.len o.room)
  linked : IsLinked o.next.items o.prev.items o.room (ring o.next.items o.len o.room)

module _ (o : Inside) (frame : ℕ) (k : Opened o frame) where
  within : frame < o.room
  within = k.linked.within frame k.has

  before : (x : ℕ) → x ≡ get_or o.prev.items frame x → (x ≡ get_or o.prev.items frame 0) × (x < o.room + 1)
  before x e =
      let read = get_or_read o.prev.items frame x (omega (arith, within, k.linked.prevs)) e 0 in
      (read, omega (arith, read, before_within o.next.items o.prev.items o.room _ frame k.has k.linked))

  after : (x : ℕ) → x ≡ get_or o.next.items frame x → (x ≡ get_or o.next.items frame 0) × (x < o.room + 1)
  after x e =
      let read = get_or_read o.next.items frame x (omega (arith, within, k.linked.nexts)) e 0 in
      (read, omega (arith, read, after_within o.next.items o.prev.items o.room _ frame k.has k.linked))

  counted : (length (without frame (ring o.next.items o.len o.room)) + 1 ≡ o.len) × (o.len ≤ o.room)
  counted =
      let len = length-walk o.next.items o.len (get_or o.next.items o.room 0) in
      (length-without frame _ k.linked.apart k.has ∙ len, omega (arith, len, k.linked.fits))

  module _ (b a : ℕ) (be : b ≡ get_or o.prev.items frame b) (ae : a ≡ get_or o.next.items frame a) where
    now : IsLinked (set o.next.items b a) (set o.prev.items a b) o.room (without frame (ring o.next.items o.len o.room))
    now = let p = before b be in let n = after a ae in unlinked _ _ _ _ frame b a p.0 n.0 k.has p.1 n.1 k.linked

    frames_are : ring (set o.next.items b a) (o.len - 1) o.room ≡ without frame (ring o.next.items o.len o.room)
    frames_are = ring_is _ _ o.room (o.len - 1) _ (omega (arith, counted.0)) now.leads

opened : (o : Inside) (frame : ℕ) (r : Recency) → the_view o ≡ r → Has frame r.frames
    → IsLinked o.next.items o.prev.items o.room (ring o.next.items o.len o.room) → Opened o frame
opened o frame r e has linked = record { has = subst (λ (v : Recency). Has frame v.frames) (sym e) has; linked = linked }

pub index-before-requires : goal.index-before-requires
index-before-requires c = omega (arith, within c.self.inside c.args.frame (opened _ _ _ c.self.view_is c.requires c.self.invariant.0), c.self.invariant.0.prevs)

pub index-after-requires : goal.index-after-requires
index-after-requires c = omega (arith, within c.self.inside c.args.frame (opened _ _ _ c.self.view_is c.requires c.self.invariant.0), c.self.invariant.0.nexts)

pub index_mut-requires : goal.index_mut-requires
index_mut-requires c = omega (arith, (before c.self.inside c.args.frame (opened _ _ _ c.self.view_is c.requires c.self.invariant.0) _ c.index-before.ensures).1, c.self.invariant.0.nexts)

pub index_mut-requires-2 : goal.index_mut-requires-2
index_mut-requires-2 c = omega (arith, (after c.self.inside c.args.frame (opened _ _ _ c.self.view_is c.requires c.self.invariant.0) _ c.index-after.ensures).1, c.self.invariant.0.prevs)

pub overflow_sub-self : goal.overflow_sub-self
overflow_sub-self c = omega (arith, (counted c.self.inside c.args.frame (opened _ _ _ c.self.view_is c.requires c.self.invariant.0)).0)

pub invariant_of-self : goal.invariant_of-self
invariant_of-self c =
    let k = opened c.self.inside c.args.frame _ c.self.view_is c.requires c.self.invariant.0 in
    (rw (frames_are _ _ k _ _ c.index-before.ensures c.index-after.ensures) (now _ _ k _ _ c.index-before.ensures c.index-after.ensures), c.self.invariant.1)

pub returns-clause-frames : goal.returns-clause-frames
returns-clause-frames c =
    let k = opened c.self.inside c.args.frame _ c.self.view_is c.requires c.self.invariant.0 in
    rw (frames_are _ _ k _ _ c.index-before.ensures c.index-after.ensures, ← c.self.view_is) refl

pub returns-clause-count : goal.returns-clause-count
returns-clause-count c =
    let k = opened c.self.inside c.args.frame _ c.self.view_is c.requires c.self.invariant.0 in
    rw (frames_are _ _ k _ _ c.index-before.ensures c.index-after.ensures, ← c.self.view_is) (length-without c.args.frame _ c.self.invariant.0.apart k.has)

pub returns-clause-within : goal.returns-clause-within
returns-clause-within c =
    let k = opened c.self.inside c.args.frame _ c.self.view_is c.requires c.self.invariant.0 in
    rw (← c.self.view_is) (within _ _ k)

pub returns-clause-apart : goal.returns-clause-apart
returns-clause-apart c = rw (← c.self.view_is) c.self.invariant.0.apart
