-- What a part, a lease and a seat own is taken apart and made. Assumes `Logic`.
use mathlib.Core.Path.{◌≡◌, refl, ◌∙◌}
use Prim.Native.Nat.{ℕ, ◌<◌, ◌^◌}
use mathlib.Core.List.{List, [], ◌∷◌, ◌++◌}
use lib.Dec.{T, lit<}
use seplogic.Ra.Ura.{Ura}
use mir.Syntax.{Args, Ty, w64, ty_array, ty_ptr, a_type, dcons, dnil}
use mir.Val.{Val, WT, has_ty, vint, vptr, vstruct, vcons, vnil, of_list}
use mir.Raw.{raw as bare}
use base.Fml.{froom, fwand}
use types.Logic.{Logic}
use types.Kit.{Goal, Step, step, Seq, Item, ‵, ◌$◌, drop, fsplit, fjoin, fpick, feq_l, flt_l}
use denote.Builtin.{u128}
use denote.RattleType.{RattleType}
use denote.Memory.{lone}
use denote.Param.{param, bounded, layouts}
use denote.Param.Laws.{Laws, of_field}
use denote.Param.Shared.{copy_shared}
use denote.RawPtr.{Ptr, block_ptr, null_ptr, ptr_val, room_for}
use denote.Shadow.{pure_i}
use denote.Struct.Field.{u128-field}
use denote.Struct.Laws.{u128-laws, u128-copy}
use denote.Struct.Struct.{Struct}
use denote.Struct.Owning.{shape}
use Rattle.core.proofs.mem.Param.{El}
use Rattle.core.proofs.alloc.Calls.{Al, token}
use Rattle.core.proofs.slots.Leases.{lease_val}
use Rattle.std_alloc.proofs.VecSteps.El.{no_al, El as Row}
use Rattle.std_collections.proofs.TreeMemory.Lodging.{Good}
use Rattle.rss_frames.specs.Block.{units}
use Rattle.rss_frames.specs.contracts.block.Part as PT
use Rattle.rss_frames.specs.contracts.block.Lease as LT
use Rattle.rss_frames.specs.contracts.block.Seat as ST

abbrev pub unit_laws : Laws u128
unit_laws = of_field u128-field u128-laws refl (copy_shared u128-field u128-copy)

-- a unit, as the steps for allocators and for rows take it
abbrev pub U : El
U = record { row = u128; laws = unit_laws }

abbrev pub UR : Row
UR = record { row = u128; laws = unit_laws; al = no_al }

abbrev pub Pt : RattleType
Pt = PT.the_row

abbrev pub part : ℕ → ℕ → ℕ → Pt.Denot
part b o n = record { ptr = block_ptr b o; len = n }

abbrev pub part_val : Ptr → ℕ → Val
part_val p n = vstruct (vcons (ptr_val p) (vcons (vint w64 n) vnil))

pub ptr_good : (p : Ptr) → T (has_ty ty_ptr (ptr_val p)) × WT (ptr_val p)
ptr_good (block_ptr b o) = (tt, tt)
ptr_good null_ptr = (tt, record { fits = lit< tt })

pub part_good : (p : Ptr) (n : ℕ) → n < 2 ^ 64 → Good Pt (part_val p n)
part_good (block_ptr b o) n fn = (tt, (tt, (record { fits = fn }, tt)))
part_good null_ptr n fn = (tt, (record { fits = lit< tt }, (record { fits = fn }, tt)))

module _ (Z : Al) where
  abbrev pub args : Args
  args = bounded (a_type ∷ []) (Z.row, tt) (dcons Z.d (dcons Z.drops dnil))

  abbrev pub P : RattleType
  P = param 0 Z.row

  abbrev pub Lr : RattleType
  Lr = LT.the_row P Z.g

  abbrev pub made : Z.row.Denot → ℕ → ℕ → ℕ → Lr.Denot
  made a b o n = record { ptr = block_ptr b o; len = n; by = record {}; alloc = a }

module _ (Y : RattleType) where
  abbrev pub row_args : Args
  row_args = layouts (a_type ∷ []) (Y, tt)

  abbrev pub St : RattleType
  St = ST.the_row (param 0 Y)

  abbrev pub room : ℕ → Ty
  room count = bare (ty_array (lone (param 0 Y).mir) count)

  pub seat_good : (p : Ptr) (n : ℕ) → n < 2 ^ 64 → Good St (lease_val p n)
  seat_good (block_ptr b o) n fn = (tt, (tt, (record { fits = fn }, (tt, tt))))
  seat_good null_ptr n fn = (tt, (record { fits = lit< tt }, (record { fits = fn }, (tt, tt))))

  abbrev pub seat : ℕ → ℕ → ℕ → ℕ → St.Denot
  seat b o n count = record { ptr = block_ptr b o; len = n; of = record {}; count = count }

module _ {M : Type 1} {𝓤 : Ura M} {𝓛 : Logic 𝓤} {K : Type 0} {Γ : List (Item 𝓤)} {G : Goal 𝓤 𝓛.H} where
  pub part_had : K → (d : Pt.Denot) (vs : List Val)
      → (vs ≡ part_val d.ptr d.len ∷ [] → d.len < 2 ^ 64 → Seq K 𝓛 (‵ (room_for (units d.len) d.ptr) ∷ Γ) G)
      → Seq K 𝓛 (‵ (Pt.own_val d vs) ∷ Γ) G
  part_had t d vs k =
      fsplit t $ fpick t (λ vss. fsplit t $ feq_l t (λ all. fsplit t $
      feq_l t (λ e₀. fsplit t $ fsplit t $ feq_l t (λ e₁. flt_l t (λ fn. drop t $
      k (all ∙ (λ i. vstruct (of_list (e₀ i ++ (e₁ i ++ []))) ∷ [])) fn)))))

  pub part_made : K → (b o n : ℕ) → n < 2 ^ 64 → Step K 𝓛
      (‵ (Pt.own_val (part b o n) (part_val (block_ptr b o) n ∷ [])) ∷ Γ) G (‵ (froom (units n) b o) ∷ Γ) G
  part_made t b o n fn = step (λ s.
      pure_i t ((Struct (shape PT.the_type)).own_val (block_ptr b o, (n, tt)) (part_val (block_ptr b o) n ∷ []))
      (λ vss. (tt, (tt, ((tt, tt), tt))))
      ((vptr b o ∷ [], (vint w64 n ∷ [], tt)), (refl, (refl, ((refl, fn), tt)))) $ fjoin t $ s)

module _ (Z : Al) {M : Type 1} {𝓤 : Ura M} {𝓛 : Logic 𝓤} {K : Type 0} {Γ : List (Item 𝓤)} {G : Goal 𝓤 𝓛.H} where
  pub lease_had : K → (d : (Lr Z).Denot) (vs : List Val)
      → (vs ≡ lease_val d.ptr d.len ∷ [] → Seq K 𝓛 (‵ (token Z d.alloc (units d.len) d.ptr) ∷ Γ) G)
      → Seq K 𝓛 (‵ ((Lr Z).own_val d vs) ∷ Γ) G
  lease_had t d vs k =
      fsplit t $ fpick t (λ vss. fsplit t $ feq_l t (λ all. fsplit t $
      feq_l t (λ e₀. fsplit t $ fsplit t $ feq_l t (λ e₁. drop t $ fsplit t $
      fpick t (λ none. fsplit t $ feq_l t (λ e₂. drop t $ drop t $
      k (all ∙ (λ i. vstruct (of_list (e₀ i ++ (e₁ i ++ (e₂ i ++ [])))) ∷ []))))))))

  pub lease_made : K → (a : Z.row.Denot) (b o n : ℕ) → n < 2 ^ 64
      → Step K 𝓛 (‵ ((Lr Z).own_val (made Z a b o n) (lease_val (block_ptr b o) n ∷ [])) ∷ Γ) G
      (‵ (token Z a (units n) (block_ptr b o)) ∷ Γ) G
  lease_made t a b o n fn = step (λ s.
      pure_i t ((Struct (shape (LT.the_type (P Z) Z.g))).own_val (block_ptr b o, (n, (tt, tt)))
      (lease_val (block_ptr b o) n ∷ [])) (λ vss. (tt, (tt, ((tt, tt), ((λ uss. (tt, tt)), tt))))) (
        (vptr b o ∷ [], (vint w64 n ∷ [], (vstruct vnil ∷ [], tt))),
        (refl, (refl, ((refl, fn), ((tt, (refl, tt)), tt)))),
      ) $ fjoin t $ s)

module _ (Y : RattleType) {M : Type 1} {𝓤 : Ura M} {𝓛 : Logic 𝓤} {K : Type 0} {Γ : List (Item 𝓤)} {G : Goal 𝓤 𝓛.H} where
  pub seat_had : K → (d : (St Y).Denot) (vs : List Val)
      → (vs ≡ lease_val d.ptr d.len ∷ [] → d.len < 2 ^ 64
      → Seq K 𝓛 (‵ (fwand (room_for (room Y d.count) d.ptr) (room_for (units d.len) d.ptr)) ∷ Γ) G)
      → Seq K 𝓛 (‵ ((St Y).own_val d vs) ∷ Γ) G
  seat_had t d vs k =
      fsplit t $ fpick t (λ vss. fsplit t $ feq_l t (λ all. fsplit t $
      feq_l t (λ e₀. fsplit t $ fsplit t $ feq_l t (λ e₁.
      flt_l t (λ fn. fsplit t $ fpick t (λ none. fsplit t $ feq_l t (λ e₂. drop t $ drop t $
      k (all ∙ (λ i. vstruct (of_list (e₀ i ++ (e₁ i ++ (e₂ i ++ [])))) ∷ [])) fn)))))))

  pub seat_made : K → (b o n count : ℕ) → n < 2 ^ 64
      → Step K 𝓛 (‵ ((St Y).own_val (seat Y b o n count) (lease_val (block_ptr b o) n ∷ [])) ∷ Γ) G
      (‵ (fwand (froom (room Y count) b o) (froom (units n) b o)) ∷ Γ) G
  seat_made t b o n count fn = step (λ s.
      pure_i t ((Struct (shape (ST.the_type (param 0 Y)))).own_val (block_ptr b o, (n, (tt, tt)))
      (lease_val (block_ptr b o) n ∷ [])) (λ vss. (tt, (tt, ((tt, tt), ((λ uss. (tt, tt)), tt))))) (
        (vptr b o ∷ [], (vint w64 n ∷ [], (vstruct vnil ∷ [], tt))),
        (refl, (refl, ((refl, fn), ((tt, (refl, tt)), tt)))),
      ) $ fjoin t $ s)
