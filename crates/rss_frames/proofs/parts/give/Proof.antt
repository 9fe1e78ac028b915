-- `give` makes one part of the units that a row lay in and those after it. Assumes `Logic`.
use mathlib.Core.Path.{◌≡◌, refl, sym, subst, ap, ◌∙◌}
use Prim.Native.Nat.{ℕ, ◌+◌, ◌*◌, ◌<◌, ◌≤◌, ◌^◌}
use native.Mathlib.Omega.{arith}
use mathlib.Core.List.{List, [], ◌∷◌, ◌++◌}
use mir.Syntax.{Fn, Ty, w64, w128, ty_int, ty_array}
use mir.Val.{Val, vint}
use mir.Raw.{raw as bare}
use base.Logic.{id⊢, SProp, ent, snd∗, never, apply∗}
use base.Fml.{ftrue, froom, fwand, flft, flt}
use prog.Memory.{Memory}
use seplogic.Ra.Ura.{Ura}
use mir.MapTy.{inst_fn}
use prog.Routine.{Routine}
use prog.Wp.{WpFn, Tables}
use types.Logic.{Logic, sem}
use contract.BorrowLft.{◌⊑◌}
use contract.Monad.{Fun, fact}
use contract.Running.{tables, tables_of}
use denote.RattleType.{RattleType, owns}
use denote.Signature.{plain, types_at}
use denote.Steps.{heard, nothing}
use denote.Memory.{lone}
use denote.Param.{param}
use denote.Param.Laws.{Laws, param_laws}
use denote.Triple.Clauses.{Clauses, Ended, closing}
use denote.Triple.Spec.{Meets, triple_of}
use denote.Triple.Table.{entered}
use sound.WpLaws.{fm_of, WpFn-mono}
use types.Kit.{‵, raw, ◌⊛◌, later, given, ◌$◌, ◌∵◌, !, qed, move, drop, use1, use2, learn, split, join, rewrite, fsplit, fjoin, suffices, await, done}
use types.Part.{whole, sub, agg}
use types.Run.{stop, fld, no_more, and_then, of_opd, bin, returns, enter}
use types.ByLocal.{alloc_all, pass_all, free_all, look_at, get, get_in, sets, lands_as}
use denote.Exit.{yes, no}
use denote.RawPtr.{Ptr, room_for, in_a_block, ◌+ₚ◌}
use denote.Triple.Call.{calls_at}
use denote.Triple.Statement.{Triple}
use denote.Triple.Walked.{says, Stays, stay_dropped, walk_of, ends_at, Goes-dropped, walk_Meets}
use Rattle.core.specs.Mem.{type_size}
use Rattle.core.proofs.mem.Timeless.{timeless, timeless_laws}
use Rattle.core.proofs.slots.Leases.{lease_val}
use Rattle.std_alloc.specs.Vec.Ownership.{lodged}
use Rattle.std_alloc.specs.declared.vec.Vec.{Vec}
use Rattle.std_alloc.specs.declared.vec.lodged.Lodged.{Lodged}
use Rattle.std_alloc.proofs.RawLayout.{as_raw, as_written}
use Rattle.std_alloc.proofs.VecSteps.Rows.{glued}
use Rattle.std_alloc.proofs.vec.lodged.Vec+T+Lodged.dislodge.Met as dislodge_met
use Rattle.std_collections.proofs.TreeMemory.Lodging.{Row, row_laws, dislodge_key, tells, Dislodges, at_dislodge, dislodge_goes, dislodge_gives}
use Rattle.std_collections.proofs.TreeMemory.Rooms.{room_of_row}
use Rattle.rss_frames.specs.Block.{units}
use Rattle.rss_frames.specs.Seated.{IsSeated}
use Rattle.rss_frames.proofs.BlockSteps.{UR, Pt, part, part_val, part_had, part_made, part_good, ptr_good, row_args, seat_good, St, seat_had}
use Rattle.rss_frames.specs.contracts.parts.give as F
use Rattle.rss_frames.specs.contracts.parts.give.Key.{name as #self}
use Rattle.rss_frames.proofs.parts.give.Statement as stated
use Rattle.rss_frames.proofs.parts.give.Code as code

module _ (Y : RattleType) (L : Laws Y) where
  abbrev here : Fn
  here = inst_fn (row_args Y) code.function

  abbrev ended : Ended
  ended = F.ended Y

  abbrev R : RattleType
  R = param 0 Y

  abbrev stayed : Stays ended.signature.params ended.kept
  stayed = (
    stay_dropped (plain (λ _. Row R)) no,
    (stay_dropped (plain (λ _. St Y)) no, (stay_dropped (plain (λ _. Pt)) yes, tt)),
  )

  module _ {M : Type 1} {𝓤 : Ura M} (𝓛 : Logic 𝓤) (at_mem : Memory → SProp 𝓤) (run : Routine → Fun 𝓤) (𝓣 : Tables 𝓤 𝓛.H)
      (callee : Triple 𝓤 (𝓣.C (dislodge_key Y)) (Dislodges Y 𝓛 at_mem run)) where
    open 𝓛 use {H}

    abbrev held : Clauses 𝓤 ended
    held = F.clauses Y 𝓛 at_mem run

    abbrev Bound : Type 0
    Bound = (walk_of 𝓛 ended stayed held).Ghost

    abbrev Goes : Bound → Type 1
    Goes y = ent 𝓤 ((walk_of 𝓛 ended stayed held).pre y)
        (WpFn 𝓤 H 𝓣.C 𝓣.Λ here ((walk_of 𝓛 ended stayed held).args y) ((walk_of 𝓛 ended stayed held).post y))

    walk : (z : Bound) → Goes z
    walk z =
        let κ = z.0.0.0 in let q = z.0.1.0 in let r : Vec Y.Denot Lodged = z.0.3.0 in
        let s : (St Y).Denot = z.0.3.1.0 in let d : Pt.Denot = z.0.3.1.1.0 in let vss = z.0.4 in
        let Post : Val → SProp 𝓤 = (walk_of 𝓛 ended stayed held).post z in let fr = fm_of 𝓤 H 𝓛.laws 𝓣 in
        let k : ℕ = s.len in let m : ℕ = d.len in let c : ℕ = s.count in
        let Asked : Type 0 = IsSeated r s × (d.ptr ≡ s.ptr +ₚ k * 16) × ((k + m) * 16 < 2 ^ 63) in
        qed 𝓛 (((‵ (flft κ q) ⊛ ‵ ftrue) ⊛ ‵ (owns (types_at ended.signature.params z.0.0) z.0.3 vss)) ∷
        (raw (fact 𝓤 (κ ⊑ Y.lives)) ⊛ raw (fact 𝓤 Asked)) ∷ []) ∵
        move ! (1 ∷ []) $ split ! $ heard ! (κ ⊑ Y.lives) (λ inY. heard ! Asked (λ asked.
        let seated = asked.0 in let next = asked.1 in let small = asked.2 in
        split ! $ move ! (1 ∷ []) $ fsplit ! $ move ! (1 ∷ []) $ fsplit ! $ move ! (1 ∷ []) $ fsplit ! $
        move ! (1 ∷ []) $ drop ! $
        -- [the rest; the seat; the row; the token]
        part_had ! d vss.1.1.0 (λ e₂ fm. move ! (1 ∷ []) $
        seat_had Y ! s vss.1.0 (λ e₁ fk. move ! (2 ∷ []) $
        tells ! (Row R) (row_laws R (param_laws 0 Y L)) r vss.0 (λ v e₀ gr.
        -- [the row; the way back; the rest; the token]
        let w : Val = lease_val s.ptr k in let x : Val = part_val d.ptr m in let us : List Val = v ∷ w ∷ x ∷ [] in
        let fa : k + m < 2 ^ 64 = omega arith in
        let Run : List Val → SProp 𝓤 = λ ws. WpFn 𝓤 H 𝓣.C 𝓣.Λ here ws Post in
        suffices ! (Run us) (subst (λ (ws : List Val). ent 𝓤 (Run us) (Run ws))
        (sym (λ i. e₀ i ++ (e₁ i ++ (e₂ i ++ [])))) (id⊢ 𝓤 (Run us))) $
        enter ! 𝓣.C 𝓣.Λ here us Post $ alloc_all ! (λ l.
        pass_all ! refl (gr, (seat_good Y s.ptr k fk, (part_good d.ptr m fm, tt))) $
        let y = at_dislodge Y 𝓛 at_mem run r v in
        sets ! (of_opd ! (get ! refl)) refl gr $ use1 𝓛 (raw ((Dislodges Y 𝓛 at_mem run).pre y))
        (dislodge_goes Y 𝓛 at_mem run r v) $
        calls_at ! fr (Dislodges Y 𝓛 at_mem run) callee y (and_then ! (get ! refl) (no_more !)) (λ u.
        use1 𝓛 (later (given ((u ≡ vint w64 r.len) × (r.len < 2 ^ 64)) (‵ (lodged R r.ptr r.len r.cap r.items))))
        (dislodge_gives Y 𝓛 at_mem run r v u) $ await ! tt $ learn ! (λ iu.
        lands_as ! iu.0 refl (tt, record { fits = iu.1 }) $
        rewrite ! 0 (λ (g : Ptr × ℕ). ‵ (lodged R g.0 r.len g.1 r.items)) {x = (s.ptr, c)}
        (λ i. (seated.at i, seated.room i)) refl $
        in_a_block ! s.ptr (λ p. lodged R p r.len c r.items) (snd∗ 𝓤 (sem 𝓛 (flt (c * type_size R) (2 ^ 63))) (never 𝓤))
        (λ b o at.
        let few : r.len ≤ c = omega (arith, r.ok.1, seated.room) in
        let τ : Ty = bare (ty_array (lone R.mir) c) in
        use1 𝓛 (‵ (froom τ b o)) (room_of_row Y L 𝓛 b o c seated.some r.len r.items few) $
        move ! (1 ∷ []) $ rewrite ! 0 (λ (p : Ptr). ‵ (fwand (room_for τ p) (room_for (units k) p))) at refl $
        move ! (1 ∷ 0 ∷ []) $
        use2 𝓛 (‵ (froom (units k) b o)) (apply∗ 𝓤 (H.room τ b o) (H.room (units k) b o)) $
        as_written ! (ty_array (ty_int w128) k) b o $
        move ! (1 ∷ []) $ rewrite ! 0 (λ (p : Ptr). ‵ (room_for (units m) p)) (next ∙ ap (λ (p : Ptr). p +ₚ k * 16) at)
        refl $ as_written ! (ty_array (ty_int w128) m) b (o + k * 16) $ move ! (1 ∷ 0 ∷ []) $
        use2 𝓛 (‵ (froom (ty_array (ty_int w128) (k + m)) b o)) (glued UR 𝓛 k m (k + m) b o refl) $
        as_raw ! (ty_array (ty_int w128) (k + m)) b o $ part_made ! b o (k + m) fa $
        -- [the part; the token]
        sets ! (of_opd ! (get_in ! (fld ! refl (stop !)) (sub ! 0 refl (whole !)))) refl (ptr_good s.ptr) $
        sets ! (of_opd ! (get_in ! (fld ! refl (stop !)) (sub ! 1 refl (whole !)))) refl (tt, record { fits = fk }) $
        sets ! (of_opd ! (get_in ! (fld ! refl (stop !)) (sub ! 1 refl (whole !)))) refl (tt, record { fits = fm }) $
        sets ! (bin ! (get ! refl) (get ! refl) (record { fits = fa })) refl (tt, record { fits = fa }) $
        sets ! (agg ! (and_then ! (get ! refl) (and_then ! (get ! refl) (no_more !)))) refl
        (part_good s.ptr (k + m) fa) $
        returns ! (look_at ! 0 refl) $ free_all ! refl $
        rewrite ! 0 (λ (p : Ptr). ‵ (Pt.own_val (part b o (k + m)) (part_val p (k + m) ∷ []))) (sym at) refl $
        suffices ! _ (ends_at 𝓛 ended stayed held z (part_val s.ptr (k + m)) (part b o (k + m)) (_, (_, (_, tt)))
        (tt, (tt, (tt, tt)))) $ says ! (sym at, refl) $
        nothing ! $ nothing ! $ fjoin ! $ nothing ! $ fjoin ! $ nothing ! $ fjoin ! $ join ! $ move ! (1 ∷ 0 ∷ []) $
        join ! $ done !)))))))))

    meets : Meets 𝓛 ended.signature (WpFn 𝓤 H 𝓣.C 𝓣.Λ here) (closing 𝓛 ended held)
    meets =
        walk_Meets 𝓛 ended stayed (
          Goes-dropped 𝓛 1 (plain (λ _. Row R)) no (λ κs x f. refl),
          (
            Goes-dropped 𝓛 1 (plain (λ _. St Y)) no (λ κs x f. refl),
            (Goes-dropped 𝓛 1 (plain (λ _. Pt)) yes (λ κs x f. refl), tt),
          ),
        ) held
        (WpFn 𝓤 H 𝓣.C 𝓣.Λ here) (WpFn-mono 𝓤 H 𝓛.laws 𝓣 here) walk

pub give_spec : {M : Type 1} → stated.statement M
unfolding tables_of
give_spec 𝓤 𝓛 𝓜 𝓡 wired Y L =
    let 𝓣 : Tables 𝓤 𝓛.H = tables_of 𝓤 𝓛.H 𝓜 (tables 𝓤 𝓛.H 𝓜 𝓡 𝓡.env) in
    entered 𝓤 𝓛.H (triple_of 𝓛 (F.signature Y) (F.spec Y 𝓛 𝓜.mem 𝓡.returns)) 𝓣.C 𝓣.Λ (#self (row_args Y)) (here Y L)
    (code.unfolded 𝓤 𝓛.H 𝓜 𝓡 wired (Y, tt))
    (meets Y L 𝓛 𝓜.mem 𝓡.returns 𝓣 (dislodge_met.met 𝓤 𝓛 𝓜 𝓡
    (code.calls-std_alloc::vec::lodged::Vec+T+Lodged::dislodge 𝓡.env wired) (timeless Y) (timeless_laws Y L)))
