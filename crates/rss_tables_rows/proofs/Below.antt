-- Those who hold locks have numbers below 32, whatever is taken and released.
use Rattle.std.proofs.Common.{◌≡◌, ℕ, ◌+◌, ◌<◌, List, length, get_or, sym, ◌∙◌, ap, subst, arith}
use Rattle.std.specs.Prelude.{Some, None}
use Rattle.std.specs.List.{range_with_len}
use Rattle.std.specs.FinMap as finite
use Rattle.std.specs.FinMap.{get-empty}
use Rattle.std.proofs.lemmas.List.FromFn.{get_or-range_with_len}
use Rattle.rss_base.specs.declared.item.Item.{Item}
use Rattle.rss_base.specs.declared.need.Mode.{Mode}
use Rattle.rss_base.specs.declared.need.Need.{Need}
use Rattle.rss_model.specs.Locks.{Locks, claim, claim_cmp, held, granted, released}
use Rattle.rss_model.proofs.Locking.{held_others, released_was}
use Rattle.rss_model.proofs.LogLists.{by_same}
use Rattle.rss_lock.specs.Locks.{AreFew}
use Rattle.rss_tables_rows.specs.Few.{HeldBelow}

pub none_below : (locks : Locks) → locks ≡ finite.empty → HeldBelow locks
none_below locks none u item mode holds = absurd (let two : None ≡ Some mode = sym (get-empty claim_cmp (claim u item)) ∙ ap (λ (l : Locks). held l u item) (sym none) ∙ holds in cc)

pub same_below : (old new : Locks) → new ≡ old → HeldBelow old → HeldBelow new
same_below old new same below = subst HeldBelow (sym same) below

pub granted_below : (old new : Locks) (t : ℕ) (needs : List Need) → t < 32 → new ≡ granted t needs old → HeldBelow old → HeldBelow new
granted_below old new t needs own is below u item mode holds = by_same u t
    (λ same. omega (arith, own, same))
    (λ other. below u item mode (sym (held_others t needs old u item other) ∙ ap (λ (l : Locks). held l u item) (sym is) ∙ holds))

pub released_below : (old new : Locks) (t : ℕ) → new ≡ released t old → HeldBelow old → HeldBelow new
released_below old new t is below u item mode holds = below u item mode (released_was t u old item mode (ap (λ (l : Locks). held l u item) (sym is) ∙ holds)).1

at_itself : (t : ℕ) → t < 32 → get_or (range_with_len 0 32) t t ≡ t
at_itself t below = let zero_more : 0 + t ≡ t = omega arith in get_or-range_with_len 0 32 t t below ∙ zero_more

pub few_below : (locks : Locks) (t : ℕ) → t < 32 → HeldBelow locks → AreFew locks t
few_below locks t own below = record {
  among = range_with_len 0 32;
  few = omega arith;
  own = (t, own, at_itself t own);
  holders = λ u item mode holds. let small = below u item mode holds in (u, small, at_itself u small);
}
