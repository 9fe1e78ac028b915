-- `lodge` at a call, for an empty row of any size. Assumes `Logic`.
use mathlib.Core.Path.{◌≡◌, refl}
use Prim.Native.Nat.{ℕ, ◌<◌, ◌≤◌, ◌^◌}
use native.Mathlib.Omega.{arith}
use mathlib.Core.List.{List, [], ◌∷◌}
use seplogic.Ra.Ura.{Ura}
use mir.Syntax.{w64}
use mir.Val.{Val, vint, vptr}
use base.Fraction.{full_share}
use base.Logic.{SProp, ent, emp}
use base.Fml.{flft}
use prog.Memory.{Memory}
use prog.Routine.{Routine}
use contract.Monad.{Fun, fact, fact_i}
use contract.BorrowLft.{◌⊑◌, ⊑_refl}
use types.Logic.{Logic, sem}
use types.Kit.{‵, raw, ◌$◌, ◌∵◌, !, qed, use0, join, fjoin, feq_i, flt_i, done}
use denote.Param.{param}
use denote.RattleType.{RattleType}
use denote.RawPtr.{block_ptr}
use denote.Steps.{nothing}
use Rattle.std_alloc.specs.Vec.Ownership.{lodged}
use Rattle.std_collections.proofs.TreeMemory.Lodging.{Lodges, at_lodge}

module _ (Y : RattleType) {M : Type 1} {𝓤 : Ura M} (𝓛 : Logic 𝓤) (at_mem : Memory → SProp 𝓤) (run : Routine → Fun 𝓤)
    (b o c : ℕ) where
  abbrev Asked : Type 0
  Asked = (◌≡◌ {A = ℕ} 0 0) × (0 ≤ c) × (c < 2 ^ 63)

  pub lodge_goes : c < 2 ^ 63 → ent 𝓤 (sem 𝓛 (lodged (param 0 Y) (block_ptr b o) 0 c []))
      ((Lodges Y 𝓛 at_mem run).pre (at_lodge Y 𝓛 at_mem run b o 0 c []))
  lodge_goes small =
      qed 𝓛 (‵ (lodged (param 0 Y) (block_ptr b o) 0 c []) ∷ []) ∵ use0 𝓛 (raw (fact 𝓤 Asked))
      (fact_i 𝓤 Asked (emp 𝓤) (refl, omega arith, small)) $ join ! $
      use0 𝓛 (raw (fact 𝓤 ([] ⊑ []))) (fact_i 𝓤 ([] ⊑ []) (emp 𝓤) (⊑_refl [])) $ join ! $
      nothing ! $ flt_i ! c (2 ^ 64) (omega arith) $ feq_i ! (List Val) (vint w64 c ∷ []) (vint w64 c ∷ []) refl $
      fjoin ! $ fjoin ! $
      flt_i ! 0 (2 ^ 64) (omega arith) $ feq_i ! (List Val) (vint w64 0 ∷ []) (vint w64 0 ∷ []) refl $ fjoin ! $
      fjoin ! $
      feq_i ! (List Val) (vptr b o ∷ []) (vptr b o ∷ []) refl $ fjoin ! $ nothing ! $
      use0 𝓛 (‵ (flft [] full_share)) (𝓛.lfts.lft-nil full_share) $ join ! $ join ! $ done !
