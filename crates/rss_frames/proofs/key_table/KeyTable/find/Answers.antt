use Rattle.std.proofs.Common.{◌≡◌, ◌≢◌, ℕ, ◌+◌, List, get_or, Some, inl, inr, sym, ◌∙◌, ap, subst, arith, false, true, Option}
use Rattle.std.proofs.lemmas.Bool.{false≢true}
use Rattle.std.proofs.lemmas.List.{get_or_read}
use Rattle.rss_frames.specs.Lists.{Has}
use Rattle.rss_base.specs.declared.key.PageKey.{PageKey}
use Rattle.rss_frames.specs.Keyed.{Keyed}
use Rattle.rss_frames.specs.Table.{key_at, is_of}
use Rattle.rss_frames.proofs.Chain.{Rest, frame_of_rest, one_less, none_left, Rest-tail}
use Rattle.rss_frames.proofs.Table.{is_of-itself, found}
use Rattle.rss_frames.proofs.key_table.KeyTable.find.Goals as goal

-- the frames that have the page are on what is left after a frame that hasn't
left : (keys : List (Option PageKey)) (l : List ℕ) (r at : ℕ) (key : PageKey) → (at ≢ r) → is_of key (key_at keys at) ≡ false
    → (rest : List ℕ) × Rest l r at rest × ((i : ℕ) → key_at keys i ≡ Some key → Has i rest)
    → (rest : List ℕ) × Rest l r (get_or l at 0) rest × ((i : ℕ) → key_at keys i ≡ Some key → Has i rest)
left keys l r at key off other now =
    let tail = Rest-tail l r at now.0 now.1 off in (
      tail.0,
      tail.1,
      λ i is. elim (subst (λ (xs : List ℕ). Has i xs) tail.2 (now.2 i is)) [
        | inl here ↦ absurd (false≢true (sym other ∙ is_of-itself key (key_at keys at) (ap (key_at keys) (sym here) ∙ is)))
        | inr later ↦ later
      ],
    )

pub has_at-requires : goal.has_at-requires
has_at-requires c =
    rw (← c.self.view_is) (omega (arith, frame_of_rest _ _ _ c.loop-at.invariant.0 c.loop-at.invariant.1 c.loop-at-test.true, c.self.invariant.0.keys_len))

pub index-at-requires-in-loop-at : goal.index-at-requires-in-loop-at
index-at-requires-in-loop-at c =
    omega (arith, frame_of_rest _ _ _ c.loop-at.invariant.0 c.loop-at.invariant.1 c.loop-at-test.true, c.self.invariant.0.links_len)

pub returns-then-has_at : goal.returns-then-has_at
returns-then-has_at c =
    let t = c.self.inside in
    let is : is_of c.args.key (key_at c.args.self.now.keys c.loop-at.at) ≡ true = sym c.has_at.ensures ∙ c.if-has_at.true in
    rw (← c.self.view_is) (found t.keys.items t.links.items t.room t.mask c.loop-at.at c.args.key c.self.invariant.0 (subst (λ (ks : Keyed). is_of c.args.key (key_at ks.keys c.loop-at.at) ≡ true) (sym c.self.view_is) is))

pub loop-at-smaller : goal.loop-at-smaller
loop-at-smaller c =
    let t = c.self.inside in
    let low = frame_of_rest _ _ _ c.loop-at.invariant.0 c.loop-at.invariant.1 c.loop-at-test.true in
    let read = get_or_read t.links.items c.loop-at.at c.index-at-in-loop-at.result.now (omega (arith, low, c.self.invariant.0.links_len)) c.index-at-in-loop-at.ensures 0 in
    rw read (one_less t.links.items t.room c.loop-at.at c.loop-at.invariant.0 c.loop-at.invariant.1 c.loop-at-test.true)

pub loop-at-init : goal.loop-at-init
loop-at-init c =
    let t = c.self.inside in
    let k = c.self.invariant.0 in
    let b = c.bucket.result in
    let low = c.bucket.ensures.within in
    let read = get_or_read t.links.items (t.room + b) c.index-at.result.now (omega (arith, low, k.links_len)) c.index-at.ensures 0 in
    let chain = k.chains b low in (
      k.chain b,
      rw read (record { leads = chain.leads; within = chain.within; apart = chain.apart }),
      λ i is. subst (λ (n : ℕ). Has i (k.chain n)) (sym c.bucket.ensures.value) (k.whole i c.args.key is),
    )

pub loop-at-preserved : goal.loop-at-preserved
loop-at-preserved c =
    let t = c.self.inside in
    let low = frame_of_rest _ _ _ c.loop-at.invariant.0 c.loop-at.invariant.1 c.loop-at-test.true in
    let read = get_or_read t.links.items c.loop-at.at c.index-at-in-loop-at.result.now (omega (arith, low, c.self.invariant.0.links_len)) c.index-at-in-loop-at.ensures 0 in
    let other : is_of c.args.key (key_at c.args.self.now.keys c.loop-at.at) ≡ false = sym c.has_at.ensures ∙ c.if-has_at.false in
    rw read (left t.keys.items t.links.items t.room c.loop-at.at c.args.key c.loop-at-test.true (subst (λ (ks : Keyed). is_of c.args.key (key_at ks.keys c.loop-at.at) ≡ false) (sym c.self.view_is) other) c.loop-at.invariant)

pub returns : goal.returns
returns c = rw (← c.self.view_is) (λ i is. none_left _ _ _ c.loop-at.invariant.0 i c.loop-at.invariant.1 c.loop-at-test.false (c.loop-at.invariant.2 i is))
