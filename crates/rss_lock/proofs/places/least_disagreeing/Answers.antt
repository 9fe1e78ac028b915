use Rattle.std.proofs.Common.{◌≡◌, ℕ, ◌+◌, refl, sym, ◌∙◌, ap, subst, arith}
use Rattle.std.specs.Prelude.{Option, Some, None}
use Rattle.rss_lock.specs.Table.{IsLeastOf, DisagreesIn, lesser}
use Rattle.rss_lock.proofs.Least.{least_skips, least_finds, least_whole}
use Rattle.rss_lock.proofs.places.least_disagreeing.Goals as goal
use Rattle.rss_lock.proofs.places.least_disagreeing.Goals.{in-Some, in_default}

pub loop-place-preserved : goal.loop-place-preserved
loop-place-preserved c =
    let To : Option ℕ → Type 0 = IsLeastOf (DisagreesIn c.args.holders.now.places c.args.modes.now c.args.mode c.args.besides (c.loop-place.place + 1)) in
    elim c.match-disagreeing.branch [
      | in-Some w ↦
          let there = w.in-Some.ensures in
          let chosen : c.match-disagreeing.least ≡ Some (lesser c.loop-place.least w.in-Some.transaction) = w.least-is ∙ ap Some w.lesser.ensures in
          subst To (sym chosen)
          (least_finds c.args.holders.now.places c.args.modes.now c.args.mode c.args.besides c.loop-place.place c.loop-place.least w.in-Some.transaction ((there w.in-Some.transaction).0 refl)
          (λ t here. let same : Some w.in-Some.transaction ≡ Some t = (there t).1 here in cc) c.loop-place.invariant)
      | in_default w ↦
          let there = w.in_default.ensures in
          subst To (sym w.least-is)
          (least_skips c.args.holders.now.places c.args.modes.now c.args.mode c.args.besides c.loop-place.place c.loop-place.least (λ t here. let same : None ≡ Some t = (there t).1 here in cc) c.loop-place.invariant)
    ]

pub returns : goal.returns
returns c =
    let all : c.loop-place.place ≡ c.args.holders.now.end = omega arith in
    least_whole c.args.holders.now.places c.args.modes.now c.args.mode c.args.besides c.args.holders.now.end c.loop-place.least c.args.holders.now.few c.args.holders.now.free
    (subst (λ (end : ℕ). IsLeastOf (DisagreesIn c.args.holders.now.places c.args.modes.now c.args.mode c.args.besides end) c.loop-place.least) all c.loop-place.invariant)
