use Rattle.std.proofs.Common.{inl, inr, refl, sym, ◌∙◌, ap, arith, get_or}
use Rattle.std.specs.Prelude.{Option, None}
use Rattle.std.proofs.lemmas.Bool.{cases_lt}
use Rattle.rss_lock.specs.declared.places.Holder.{Holder}
use Rattle.rss_lock.specs.Table.{counted}
use Rattle.rss_lock.proofs.Holding.{current_is, nothing_in}
use Rattle.rss_lock.proofs.places.current.Goals as goal

pub loop-place-init : goal.loop-place-init
loop-place-init c = record { long = refl; found = λ k below. absurd (omega arith); others = λ k above. nothing_in 32 k }

pub returns : goal.returns
returns c =
    let grants = c.args.grants.now in
    current_is c.args.holders.now.places grants.as_of grants.modes c.loop-place.modes (omega arith) (λ k below. elim (cases_lt k c.args.holders.now.end) [
      | inl used ↦ c.loop-place.invariant.found k (omega arith)
      | inr past ↦ c.loop-place.invariant.others k (omega arith) ∙ ap (λ (h : Option Holder). counted h grants.as_of (get_or grants.modes k None)) (sym (c.args.holders.now.free k past))
    ])
