-- `take` lodges an empty row in the first units of a part. Assumes `Logic`.
use mathlib.Core.Path.{◌≡◌, refl, sym, subst, ap, ◌∙◌}
use Prim.Native.Nat.{ℕ, ◌+◌, ◌-◌, ◌*◌, ◌<◌, ◌≤◌, ◌^◌}
use native.Mathlib.Omega.{arith}
use mathlib.Core.List.{List, [], ◌∷◌, ◌++◌}
use mir.Syntax.{Fn, Ty, w64, w128, ty_int, ty_array}
use mir.Val.{Val, vint, vptr, vstruct, vcons, vnil}
use mir.Raw.{raw as bare}
use base.Logic.{id⊢, SProp, ent, wand, never, apply∗}
use base.Fml.{ftrue, froom, fwand, flft}
use prog.Memory.{Memory}
use seplogic.Ra.Ura.{Ura}
use mir.MapTy.{inst_fn}
use prog.Routine.{Routine}
use prog.Wp.{Env, WpFn, Tables}
use types.Logic.{Logic}
use contract.BorrowLft.{◌⊑◌}
use contract.Monad.{Fun, fact}
use contract.Running.{tables, tables_of}
use denote.RattleType.{RattleType, owns}
use denote.Signature.{plain, types_at}
use denote.Steps.{heard, nothing, only}
use denote.Struct.Struct.{as_fields}
use denote.Param.{layout, param}
use denote.Param.Laws.{Laws, param_laws}
use denote.Triple.Clauses.{Clauses, Ended, closing}
use denote.Triple.Spec.{Meets, triple_of}
use denote.Triple.Table.{entered}
use sound.WpLaws.{fm_of, WpFn-mono}
use types.Kit.{‵, raw, ◌⊛◌, some, later, given, at_ret, ◌$◌, ◌∵◌, !, qed, move, drop, use1, use2, pick, learn, split, join, assume, fsplit, fjoin, feq_l, flt_l, suffices, await, done}
use types.Part.{whole, sub, agg}
use types.Run.{stop, fld, lit, no_more, and_then, of_opd, bin, first, blocks, exec, returns, enter}
use types.ByLocal.{alloc_all, pass_all, free_all, look_at, get, get_in, is, sets, sets_last, lands_as, env}
use denote.Exit.{yes, no}
use denote.Builtin.{usize}
use denote.RawPtr.{Ptr, block_ptr, room_for, in_a_block, ◌+ₚ◌}
use denote.Triple.Call.{calls_at}
use denote.Triple.Statement.{Triple}
use denote.Triple.Walked.{says, Stays, stay_dropped, walk_of, ends_at, Goes-dropped, walk_Meets}
use Rattle.core.specs.Mem.{type_size}
use Rattle.core.proofs.mem.Timeless.{timeless, timeless_laws}
use Rattle.core.proofs.slots.Bodies.{after}
use Rattle.core.proofs.slots.Carves.{carve}
use Rattle.core.proofs.slots.Leases.{lease_val}
use Rattle.std_alloc.specs.Vec.Ownership.{lodged}
use Rattle.std_alloc.specs.declared.vec.Vec.{Vec}
use Rattle.std_alloc.specs.declared.vec.lodged.Lodged.{Lodged}
use Rattle.std_alloc.proofs.RawLayout.{as_raw, as_written}
use Rattle.std_alloc.proofs.VecSteps.Rows.{room_split}
use Rattle.std_alloc.proofs.vec.lodge.Met as lodge_met
use Rattle.std_collections.proofs.TreeMemory.Lodging.{Row, row_laws, lodge_key, tells, three_made, Lodges, at_lodge, Lodged_as, lodge_gives}
use Rattle.std_collections.proofs.TreeMemory.Rooms.{row_of_room}
use Rattle.rss_frames.specs.Block.{units}
use Rattle.rss_frames.proofs.BlockSteps.{UR, Pt, part, part_val, part_had, part_made, row_args, St, seat, seat_made, part_good, seat_good}
use Rattle.rss_frames.proofs.Lodged.{lodge_goes}
use Rattle.rss_frames.specs.contracts.parts.take as F
use Rattle.rss_frames.specs.contracts.parts.take.Key.{name as #self}
use Rattle.rss_frames.proofs.parts.take.Statement as stated
use Rattle.rss_frames.proofs.parts.take.Code as code

module _ (Y : RattleType) (L : Laws Y) where
  abbrev here : Fn
  here = inst_fn (row_args Y) code.function

  abbrev ended : Ended
  ended = F.ended Y

  abbrev stayed : Stays ended.signature.params ended.kept
  stayed = (
    stay_dropped (plain (λ _. Pt)) yes,
    (
      stay_dropped (plain (λ _. usize)) yes,
      (stay_dropped (plain (λ _. usize)) yes, tt),
    ),
  )

  abbrev R : RattleType
  R = param 0 Y

  module _ {M : Type 1} {𝓤 : Ura M} (𝓛 : Logic 𝓤) (at_mem : Memory → SProp 𝓤) (run : Routine → Fun 𝓤) (𝓣 : Tables 𝓤 𝓛.H)
      (callee : Triple 𝓤 (𝓣.C (lodge_key Y)) (Lodges Y 𝓛 at_mem run)) where
    open 𝓛 use {H}

    abbrev held : Clauses 𝓤 ended
    held = F.clauses Y 𝓛 at_mem run

    abbrev Bound : Type 0
    Bound = (walk_of 𝓛 ended stayed held).Ghost

    abbrev Goes : Bound → Type 1
    Goes y = ent 𝓤 ((walk_of 𝓛 ended stayed held).pre y)
        (WpFn 𝓤 H 𝓣.C 𝓣.Λ here ((walk_of 𝓛 ended stayed held).args y) ((walk_of 𝓛 ended stayed held).post y))

    walk : (z : Bound) → Goes z
    walk z =
        let κ = z.0.0.0 in let q = z.0.1.0 in let d : Pt.Denot = z.0.3.0 in let k : ℕ = z.0.3.1.0 in
        let c : ℕ = z.0.3.1.1.0 in let vss = z.0.4 in
        let Post : Val → SProp 𝓤 = (walk_of 𝓛 ended stayed held).post z in let fr = fm_of 𝓤 H 𝓛.laws 𝓣 in
        let Asked : Type 0 = (0 < c) × (c < 2 ^ 63) × (c * type_size R ≤ k * 16) × (k ≤ d.len)
        × (d.len * 16 < 2 ^ 63) in
        qed 𝓛 (((‵ (flft κ q) ⊛ ‵ ftrue) ⊛ ‵ (owns (types_at ended.signature.params z.0.0) z.0.3 vss)) ∷
        (raw (fact 𝓤 (κ ⊑ Y.lives)) ⊛ raw (fact 𝓤 Asked)) ∷ []) ∵
        move ! (1 ∷ []) $ split ! $ heard ! (κ ⊑ Y.lives) (λ inY. heard ! Asked (λ asked.
        let pos = asked.0 in let few = asked.1 in let fits = asked.2 in let within = asked.3 in let small = asked.4 in
        split ! $ move ! (1 ∷ []) $ fsplit ! $ part_had ! d vss.0 (λ e₀ fd.
        in_a_block ! d.ptr (λ p. room_for (units d.len) p) (id⊢ 𝓤 (never 𝓤)) (λ b o at_d.
        -- [the room; the counts; the token]
        move ! (1 ∷ []) $ fsplit ! $ fsplit ! $ feq_l !
        (λ e₁. flt_l ! (λ fk. fsplit ! $ fsplit ! $ feq_l ! (λ e₂. flt_l ! (λ fc. drop ! $
        let σ : Ty = ty_array (ty_int w128) k in let τ : Ty = ty_array (layout Y) c in let left : ℕ = d.len - k in
        let at : ℕ = o + k * 16 in
        let Back : SProp 𝓤 = wand 𝓤 (H.room τ b o) (H.room σ b o) in
        let fm : k * 16 < 2 ^ 64 = omega arith in let moved : k * 16 + o ≡ o + k * 16 = omega arith in
        let fl : left < 2 ^ 64 = omega arith in
        as_written ! (ty_array (ty_int w128) d.len) b o $
        use1 𝓛 (‵ (froom σ b o) ⊛ ‵ (froom (ty_array (ty_int w128) left) b at)) (room_split UR 𝓛 k d.len b o within) $
        split ! $
        use1 𝓛 (‵ (froom τ b o) ⊛ raw Back) (carve 𝓛 σ τ k b o refl refl fits) $ split ! $ as_raw ! τ b o $
        use1 𝓛 (‵ (lodged R (block_ptr b o) 0 c [])) (row_of_room Y L 𝓛 b o c pos (omega arith)) $ move ! (1 ∷ []) $
        use1 𝓛 (‵ (fwand (froom (bare τ) b o) (froom (units k) b o)))
        (qed 𝓛 (raw Back ∷ []) ∵ assume ! (‵ (froom (bare τ) b o)) $ as_written ! τ b o $
        use2 𝓛 (‵ (froom σ b o)) (apply∗ 𝓤 (H.room τ b o) (H.room σ b o)) $ as_raw ! σ b o $ done !) $
        seat_made Y ! b o k c fk $ move ! (2 ∷ []) $ as_raw ! (ty_array (ty_int w128) left) b at $
        part_made ! b at left fl $ move ! (2 ∷ []) $
        -- [the row's room; the rest; the seat; the token]
        let us : List Val = part_val (block_ptr b o) d.len ∷ vint w64 k ∷ vint w64 c ∷ [] in
        let e₃ : vss.0 ≡ part_val (block_ptr b o) d.len ∷ [] = e₀ ∙ ap (λ (p : Ptr). part_val p d.len ∷ []) at_d in
        let Run : List Val → SProp 𝓤 = λ ws. WpFn 𝓤 H 𝓣.C 𝓣.Λ here ws Post in
        suffices ! (Run us) (subst (λ (ws : List Val). ent 𝓤 (Run us) (Run ws))
        (sym (λ i. e₃ i ++ (e₁ i ++ (e₂ i ++ [])))) (id⊢ 𝓤 (Run us))) $
        enter ! 𝓣.C 𝓣.Λ here us Post $ alloc_all ! (λ l.
        pass_all ! refl (
          (tt, (tt, (record { fits = fd }, tt))),
          ((tt, record { fits = fk }), ((tt, record { fits = fc }), tt)),
        ) $
        let En : Env 𝓤 H = env here.locals l in let y = at_lodge Y 𝓛 at_mem run b o 0 c [] in
        sets ! (of_opd ! (get_in ! (fld ! refl (stop !)) (sub ! 0 refl (whole !)))) refl (tt, tt) $
        sets ! (of_opd ! (get_in ! (fld ! refl (stop !)) (sub ! 1 refl (whole !)))) refl (tt, record { fits = fd }) $
        first ! $ blocks ! $
        sets ! (of_opd ! (get ! refl)) refl (tt, tt) $
        use1 𝓛 (raw ((Lodges Y 𝓛 at_mem run).pre y)) (lodge_goes Y 𝓛 at_mem run b o c few) $
        calls_at ! fr (Lodges Y 𝓛 at_mem run) callee y
        (and_then ! (get ! refl) (and_then ! (lit ! tt) (and_then ! (get ! refl) (no_more !)))) (λ u.
        use1 𝓛 (later (some (λ (r : Vec Y.Denot Lodged).
        given (Lodged_as Y 𝓛 at_mem run b o 0 c [] r) (‵ ((Row R).own_val r (u ∷ []))))))
        (lodge_gives Y 𝓛 at_mem run b o 0 c [] u) $
        await ! tt $ pick ! (λ r. learn ! (λ ir. tells ! (Row R) (row_laws R (param_laws 0 Y L)) r (u ∷ [])
        (λ v er gr. lands_as ! (ap only er) refl gr $
        -- [the row; the rest; the seat; the token]
        sets ! (bin ! (get ! refl) (lit ! tt) (record { fits = fm })) refl (tt, record { fits = fm }) $
        sets ! (is ! (bin ! (get ! refl) (get ! refl) tt) (ap (λ (n : ℕ). vptr b n) moved)) refl (tt, tt) $
        sets ! (bin ! (get ! refl) (get ! refl) within) refl (tt, record { fits = fl }) $
        let rest : Val = part_val (block_ptr b at) left in let w : Val = lease_val (block_ptr b o) k in
        let all : Val = vstruct (vcons v (vcons w (vcons rest vnil))) in
        let gw = seat_good Y (block_ptr b o) k fk in let ge = part_good (block_ptr b at) left fl in
        let ga = as_fields (layout (Row R) ∷ layout (St Y) ∷ layout Pt ∷ []) (v ∷ w ∷ rest ∷ []) (gr, (gw, (ge, tt))) in
        sets ! (agg ! (and_then ! (get ! refl) (and_then ! (get ! refl) (no_more !)))) refl ge $
        sets ! (agg ! (no_more !)) refl (tt, tt) $
        sets ! (of_opd ! (get ! refl)) refl gr $ sets !
        (agg ! (and_then ! (get ! refl) (and_then ! (get ! refl) (and_then ! (get ! refl) (no_more !))))) refl gw $
        sets ! (of_opd ! (get ! refl)) refl ge $
        sets_last ! (agg ! (and_then ! (get ! refl) (and_then ! (get ! refl) (and_then ! (get ! refl) (no_more !)))))
        refl ga $
        exec ! 𝓣.C 𝓣.Λ En (after 3 here.body) (at_ret En Post) $ sets ! (of_opd ! (get ! refl)) refl ga $
        returns ! (look_at ! 0 refl) $ free_all ! refl $
        move ! (0 ∷ 2 ∷ 1 ∷ []) $ three_made ! (Row R) (St Y) Pt r (seat Y b o k c) (part b at left) v w rest $
        suffices ! _ (ends_at 𝓛 ended stayed held z all (r, seat Y b o k c, part b at left) (_, (tt, (tt, tt)))
        (tt, (tt, (tt, tt)))) $
        says ! (
          ir.0,
          record { some = pos; at = ir.3; room = ir.2 },
          sym at_d,
          refl,
          refl,
          ap (λ (p : Ptr). p +ₚ k * 16) (sym at_d),
          omega arith,
        ) $
        nothing ! $ nothing ! $ fjoin ! $ nothing ! $ fjoin ! $ nothing ! $ fjoin ! $ join ! $ move ! (1 ∷ 0 ∷ []) $
        join ! $ done !)))))))))))))

    meets : Meets 𝓛 ended.signature (WpFn 𝓤 H 𝓣.C 𝓣.Λ here) (closing 𝓛 ended held)
    meets =
        walk_Meets 𝓛 ended stayed (
          Goes-dropped 𝓛 1 (plain (λ _. Pt)) yes (λ κs x f. refl),
          (
            Goes-dropped 𝓛 1 (plain (λ _. usize)) yes (λ κs x f. refl),
            (Goes-dropped 𝓛 1 (plain (λ _. usize)) yes (λ κs x f. refl), tt),
          ),
        ) held
        (WpFn 𝓤 H 𝓣.C 𝓣.Λ here) (WpFn-mono 𝓤 H 𝓛.laws 𝓣 here) walk

pub take_spec : {M : Type 1} → stated.statement M
unfolding tables_of
take_spec 𝓤 𝓛 𝓜 𝓡 wired Y L =
    let 𝓣 : Tables 𝓤 𝓛.H = tables_of 𝓤 𝓛.H 𝓜 (tables 𝓤 𝓛.H 𝓜 𝓡 𝓡.env) in
    entered 𝓤 𝓛.H (triple_of 𝓛 (F.signature Y) (F.spec Y 𝓛 𝓜.mem 𝓡.returns)) 𝓣.C 𝓣.Λ (#self (row_args Y)) (here Y L)
    (code.unfolded 𝓤 𝓛.H 𝓜 𝓡 wired (Y, tt))
    (meets Y L 𝓛 𝓜.mem 𝓡.returns 𝓣 (lodge_met.met 𝓤 𝓛 𝓜 𝓡 (code.calls-std_alloc::vec::lodge 𝓡.env wired) (timeless Y)
    (timeless_laws Y L)))
