-- `claim` asks the allocator for an array of units. Assumes `Logic`.
use mathlib.Core.Path.{◌≡◌, refl, ap}
use mathlib.Core.Bool.{true, false}
use Prim.Native.Nat.{ℕ, ◌*◌, ◌<◌, ◌^◌}
use native.Mathlib.Omega.{arith}
use mathlib.Core.List.{[], ◌∷◌}
use lib.Dec.{lit<}
use mir.Syntax.{Fn, Body, w64, named}
use mir.Val.{Val, vint, vptr, vstruct, vcons, vnil, of_list, WT}
use base.Logic.{sep, emp, SProp, ent}
use base.Fml.{ftrue, flft, Incl-trans}
use prog.Memory.{align, capped, Memory}
use prog.Capped.{capped_fits}
use prog.Wp.{Wp, after_seq, at_return, Env, WpFn, Tables}
use types.Logic.{Logic, sem}
use seplogic.Ra.Ura.{Ura}
use mir.MapTy.{inst_fn}
use prog.Routine.{Routine}
use contract.BorrowLft.{◌⊑◌}
use contract.Monad.{Fun, fact}
use contract.Running.{tables, tables_of}
use denote.RattleType.{RattleType, owns}
use denote.Signature.{plain, types_at}
use denote.Steps.{heard, nothing, owned}
use denote.Triple.Clauses.{Clauses, Ended, closing}
use denote.Triple.Spec.{Meets, triple_of}
use denote.Triple.Table.{entered}
use sound.WpLaws.{fm_of, WpFn-mono}
use types.Kit.{Post as After, any_q, ‵, raw, ◌⊛◌, later, at_ret, ◌$◌, ◌∵◌, !, qed, by, move, keep, use0, use1, use2, split, join, fsplit, fjoin3, suffices, await, done}
use types.Part.{whole, agg}
use types.Match.{live, vrt, in_variant}
use types.Run.{stop, fld, lit, no_more, and_then, of_opd, bin, first, switches_on, exec, returns, enter}
use types.ByLocal.{alloc_all, pass_all, free_all, look_at, get, get_in, get_tag, is, sets, sets_last, lands_as, env}
use denote.Exit.{yes}
use denote.Laws.{Is}
use denote.Builtin.{RefOf, usize}
use denote.Plain.{uint_vals, uint_Tells}
use denote.RawPtr.{block_ptr}
use denote.Ref.{shr_vals, shr_Tells}
use denote.Struct.Struct.{Struct, Struct-Makes}
use denote.Struct.Declared as Declared
use denote.Struct.Tuple.{Tuple}
use denote.Triple.Call.{calls_at}
use denote.Triple.Entry.{alive}
use denote.Triple.Statement.{Triple}
use denote.Triple.Walked.{says, Stays, stay_dropped, walk_of, ends_at, walked, Goes-dropped, walk_Meets}
use Rattle.core.specs.Result.{IfOk}
use Rattle.core.specs.declared.result.Result.TheVariants.{Ok, Err}
use Rattle.core.specs.contracts.result.Result as RS
use Rattle.core.specs.contracts.alloc.AllocError as AE
use Rattle.core.proofs.mem.Param.{elτ}
use Rattle.core.proofs.alloc.Calls.{Al, Answer-typed, takes_key, Takes, at_takes, Answered, Takes-goes, Takes-gives, answers}
use Rattle.core.proofs.slots.Bodies.{after, head, arm_body}
use Rattle.core.proofs.slots.Leases.{lease_val, block_ty, block_size, block_align}
use Rattle.std_alloc.proofs.ResultValues.{ok_val, ok_of, err_of}
use Rattle.std_collections.proofs.TreeMemory.Lodging.{two_made}
use Rattle.rss_frames.proofs.BlockSteps.{U, args, P, Pt, Lr, part, part_val, part_made, made, lease_made}
use Rattle.rss_frames.specs.contracts.parts.claim as F
use Rattle.rss_frames.specs.contracts.parts.claim.Key.{name as #self}
use Rattle.rss_frames.proofs.parts.claim.Statement as stated
use Rattle.rss_frames.proofs.parts.claim.Code as code

module _ {M : Type 1} {𝓤 : Ura M} (𝓛 : Logic 𝓤) (X : RattleType) where
  refused : ent 𝓤 (emp 𝓤) (sem 𝓛 ((RS.the_row X AE.the_row).own_val (Err (record {}))
      (live 1 (of_list (vstruct vnil ∷ [])) ∷ [])))
  refused =
      qed 𝓛 [] ∵ owned ! (Struct (Declared.shape AE.the_type)) (Is (Struct (Declared.shape AE.the_type)))
      (Struct-Makes 𝓛 (Declared.shape AE.the_type) tt) tt (vstruct vnil ∷ []) (tt, (refl, tt)) $
      by ! (err_of 𝓛 X AE.the_row (record {}) (vstruct vnil))

module _ (Z : Al) where
  abbrev here : Fn
  here = inst_fn (args Z) code.function

  abbrev ended : Ended
  ended = F.ended Z.row Z.g Z.d Z.drops

  abbrev stayed : Stays ended.signature.params ended.kept
  stayed = (
    stay_dropped (RefOf (0 ∷ []) tt (plain (λ _. P Z)) (λ _. tt)) yes,
    (stay_dropped (plain (λ _. usize)) yes, tt),
  )

  module _ {M : Type 1} {𝓤 : Ura M} (𝓛 : Logic 𝓤) (at_mem : Memory → SProp 𝓤) (run : Routine → Fun 𝓤) (𝓣 : Tables 𝓤 𝓛.H)
      (callee : Triple 𝓤 (𝓣.C (takes_key Z)) (Takes Z 𝓛 at_mem run)) where
    open 𝓛 use {H}

    abbrev held : Clauses 𝓤 ended
    held = F.clauses Z.row Z.g Z.d Z.drops 𝓛 at_mem run

    abbrev Bound : Type 0
    Bound = (walk_of 𝓛 ended stayed held).Ghost

    abbrev Goes : Bound → Type 1
    Goes y = ent 𝓤 ((walk_of 𝓛 ended stayed held).pre y)
        (WpFn 𝓤 H 𝓣.C 𝓣.Λ here ((walk_of 𝓛 ended stayed held).args y) ((walk_of 𝓛 ended stayed held).post y))

    abbrev Two : RattleType
    Two = Tuple (Pt ∷ Lr Z ∷ [])

    abbrev Out : RattleType
    Out = RS.the_row Two AE.the_row

    abbrev spelled : Bound → Bound
    spelled z = ((z.0.0, z.0.1, z.0.2, z.0.3, (shr_vals z.0.3.0, (vint w64 z.0.3.1.0 ∷ [], tt))), z.1)

    exits : (z : Bound) (r : Out.Denot) (v : Val) → IfOk r
        (λ p. (p.0.len ≡ z.0.3.1.0) × (p.1.ptr ≡ p.0.ptr) × (p.1.len ≡ p.0.len) × (p.1.alloc ≡ z.0.3.0.now))
        → ent 𝓤 (sep 𝓤 (sem 𝓛 (Out.own_val r (v ∷ []))) (alive 𝓛 ended.signature z.0.0 z.0.1))
        ((walk_of 𝓛 ended stayed held).post (spelled z) v)
    exits z r v said =
        qed 𝓛 (‵ (Out.own_val r (v ∷ [])) ∷ raw (alive 𝓛 ended.signature z.0.0 z.0.1) ∷ []) ∵
        suffices ! _ (ends_at 𝓛 ended stayed held (spelled z) v r (tt, (tt, tt)) (tt, (tt, tt))) $ says ! said $
        nothing ! $ nothing ! $ nothing ! $ fjoin3 ! $ move ! (2 ∷ 0 ∷ 1 ∷ []) $ done !

    walk : (z : Bound) → z.0.3.1.0 < 2 ^ 64 → Goes (spelled z)
    walk z fn =
        let κ = z.0.0.0 in let κ₁ = z.0.0.1.0 in let q = z.0.1.0 in let q₁ = z.0.1.1.0 in
        let hp : ℕ × ℕ = z.0.3.0.ref_ptr in let a : Z.row.Denot = z.0.3.0.now in let n : ℕ = z.0.3.1.0 in
        let Post : Val → SProp 𝓤 = (walk_of 𝓛 ended stayed held).post (spelled z) in
        let al : ℕ = capped (align (elτ U)) in
        qed 𝓛 (((‵ (flft κ q) ⊛ ‵ (flft κ₁ q₁) ⊛ ‵ ftrue) ⊛ ‵
        (owns (types_at ended.signature.params z.0.0) z.0.3 (spelled z).0.4))
        ∷ (raw (fact 𝓤 (κ₁ ⊑ Z.row.lives)) ⊛ raw (fact 𝓤 (n * 16 < 2 ^ 63))) ∷ []) ∵
        move ! (1 ∷ []) $ split ! $ heard ! (κ₁ ⊑ Z.row.lives) (λ inZ. heard ! (n * 16 < 2 ^ 63) (λ small.
        let fm : n * 16 < 2 ^ 64 = omega arith in
        split ! $ split ! $ move ! (2 ∷ []) $ fsplit ! $ fsplit ! $ keep ! (1 ∷ 3 ∷ 4 ∷ []) $
        -- [the handle; its token; the other token]
        enter ! 𝓣.C 𝓣.Λ here (vptr hp.0 hp.1 ∷ vint w64 n ∷ []) _ $
        alloc_all ! (λ l. pass_all ! refl ((tt, tt), ((tt, record { fits = fn }), tt)) $
        let En : Env 𝓤 H = env here.locals l in
        let both : Body = head (after 2 here.body) in
        let Then : After 𝓤 H = any_q (after_seq 𝓤 H (Wp 𝓤 H 𝓣.C 𝓣.Λ En (after 3 here.body) (at_return 𝓤 H En Post))
        (at_return 𝓤 H En Post)) in
        let y : (Takes Z 𝓛 at_mem run).Ghost = at_takes Z 𝓛 at_mem run κ q hp a (n * 16) al (block_ty U n) in
        sets ! (bin ! (get ! refl) (lit ! tt) (record { fits = fm })) refl (tt, record { fits = fm }) $
        use2 𝓛 (raw ((Takes Z 𝓛 at_mem run).pre y))
        (Takes-goes Z 𝓛 at_mem run κ q hp a (Incl-trans z.0.2.0 inZ) (n * 16) al (block_ty U n) (block_size U n fm)
        (block_align U n) fm (capped_fits (align (elτ U)))) $
        calls_at ! (fm_of 𝓤 H 𝓛.laws 𝓣) (Takes Z 𝓛 at_mem run) callee y
        (and_then ! (get ! refl) (and_then ! (get ! refl) (and_then ! (lit ! tt) (no_more !)))) (λ v.
        use1 𝓛 (later (raw (Answered Z 𝓛 at_mem run a (block_ty U n) v) ⊛ ‵ (flft κ q)))
        (Takes-gives Z 𝓛 at_mem run κ q hp a (n * 16) al (block_ty U n) v) $ await ! tt $ split ! $
        move ! (1 ∷ 2 ∷ []) $ join ! $ move ! (1 ∷ []) $ answers Z ! at_mem run a (block_ty U n) v
        (λ b o e.
        let pair : Val = vstruct (vcons (part_val (block_ptr b o) n) (vcons (lease_val (block_ptr b o) n) vnil)) in
        let words : WT (part_val (block_ptr b o) n) = (tt, (record { fits = fn }, tt)) in
        let lease : WT (lease_val (block_ptr b o) n) = (tt, (record { fits = fn }, (tt, tt))) in
        let all : WT (live 0 (vcons pair vnil)) = (record { fits = lit< tt }, ((words, (lease, tt)), tt)) in
        lands_as ! e refl (Answer-typed true b o) $ first ! $
        switches_on ! (get_tag ! (vrt ! refl (fld ! refl (stop !))) (whole !)) $
        exec ! 𝓣.C 𝓣.Λ En (arm_body 0 both) Then $
        sets ! (of_opd ! (get_in ! (vrt ! refl (fld ! refl (stop !))) (in_variant ! 0 0 refl refl (whole !)))) refl
        (tt, tt) $ sets ! (of_opd ! (get ! refl)) refl (tt, tt) $
        sets ! (agg ! (no_more !)) refl (tt, tt) $ sets !
        (agg ! (and_then ! (get ! refl) (and_then ! (get ! refl) (no_more !)))) refl (tt, words) $
        sets ! (agg ! (and_then ! (get ! refl) (and_then ! (get ! refl) (and_then ! (get ! refl) (no_more !))))) refl
        (tt, lease) $
        sets ! (agg ! (and_then ! (get ! refl) (and_then ! (get ! refl) (no_more !)))) refl (tt, (words, (lease, tt))) $
        sets_last ! (agg ! (and_then ! (lit ! tt) (and_then ! (get ! refl) (no_more !)))) refl (tt, all) $
        exec ! 𝓣.C 𝓣.Λ En (after 3 here.body) (at_ret En Post) $ sets ! (of_opd ! (get ! refl)) refl (tt, all) $
        part_made ! b o n fn $ move ! (1 ∷ []) $ lease_made Z ! a b o n fn $ move ! (1 ∷ 0 ∷ []) $
        two_made ! Pt (Lr Z) (part b o n) (made Z a b o n) (part_val (block_ptr b o) n) (lease_val (block_ptr b o) n) $
        use1 𝓛 (‵ (Out.own_val (Ok (part b o n, made Z a b o n)) (ok_val pair ∷ [])))
        (ok_of 𝓛 Two AE.the_row (part b o n, made Z a b o n) pair) $
        returns ! (look_at ! 0 refl) $ free_all ! refl $ keep ! (0 ∷ 1 ∷ []) $
        by ! (exits z (Ok (part b o n, made Z a b o n)) (ok_val pair) (refl, refl, refl, refl)))
        (λ e.
        let none : WT (live 1 (vcons (vstruct vnil) vnil)) = (record { fits = lit< tt }, (tt, tt)) in
        lands_as ! e refl (Answer-typed false 0 0) $ first ! $
        switches_on ! (get_tag ! (vrt ! refl (fld ! refl (stop !))) (whole !)) $
        exec ! 𝓣.C 𝓣.Λ En (arm_body 1 both) Then $
        sets ! (of_opd ! (get_in ! (vrt ! refl (fld ! refl (stop !))) (in_variant ! 1 0 refl refl (whole !)))) refl
        (tt, tt) $
        sets_last ! (agg ! (and_then ! (lit ! tt) (and_then ! (get ! refl) (no_more !)))) refl (tt, none) $
        exec ! 𝓣.C 𝓣.Λ En (after 3 here.body) (at_ret En Post) $ sets ! (of_opd ! (get ! refl)) refl (tt, none) $
        use0 𝓛 (‵ (Out.own_val (Err (record {})) (live 1 (vcons (vstruct vnil) vnil) ∷ []))) (refused 𝓛 Two) $
        returns ! (look_at ! 0 refl) $ free_all ! refl $ keep ! (0 ∷ 1 ∷ []) $
        by ! (exits z (Err (record {})) (live 1 (vcons (vstruct vnil) vnil)) tt))))))

    meets : Meets 𝓛 ended.signature (WpFn 𝓤 H 𝓣.C 𝓣.Λ here) (closing 𝓛 ended held)
    meets =
        walk_Meets 𝓛 ended stayed (
          Goes-dropped 𝓛 2 (RefOf (0 ∷ []) tt (plain (λ _. P Z)) (λ _. tt)) yes
              (λ κs x f. refl),
          (Goes-dropped 𝓛 2 (plain (λ _. usize)) yes (λ κs x f. refl), tt),
        ) held
        (WpFn 𝓤 H 𝓣.C 𝓣.Λ here) (WpFn-mono 𝓤 H 𝓛.laws 𝓣 here)
        (walked 𝓛 ended stayed held (WpFn 𝓤 H 𝓣.C 𝓣.Λ here) (λ κs. (shr_vals, (uint_vals w64, tt)))
        (λ κs. (shr_Tells (named 0) κs.0 (P Z), (uint_Tells w64, tt)))
        (λ κs qs bounds a g are. walk ((κs, qs, bounds, a, (shr_vals a.0, (vint w64 a.1.0 ∷ [], tt))), g) are.1.0.1))

pub claim_spec : {M : Type 1} → stated.statement M
unfolding tables_of
claim_spec 𝓤 𝓛 𝓜 𝓡 wired Y LY g d dd met md =
    let Z : Al = record { row = Y; laws = LY; g = g; d = d; drops = dd } in
    let 𝓣 : Tables 𝓤 𝓛.H = tables_of 𝓤 𝓛.H 𝓜 (tables 𝓤 𝓛.H 𝓜 𝓡 𝓡.env) in
    entered 𝓤 𝓛.H (triple_of 𝓛 (ended Z).signature (F.spec Y g d dd 𝓛 𝓜.mem 𝓡.returns)) 𝓣.C 𝓣.Λ (#self (args Z))
    (here Z) (code.unfolded 𝓤 𝓛.H 𝓜 𝓡 wired (Y, tt) d dd)
    (meets Z 𝓛 𝓜.mem 𝓡.returns 𝓣 (met.allocate dd))
