-- `lend_two` lends two pages out of the pages of all frames, and the frames follow both.
use mathlib.Core.Path.{◌≡◌, refl, sym, ap, ◌∙◌}
use Prim.Native.Nat.{ℕ, ◌<◌, ◌^◌}
use native.Mathlib.Omega.{arith}
use mathlib.Core.List.{List, [], ◌∷◌}
use mathlib.Core.Logic.{◌≢◌}
use lib.ListN.{length}
use mir.Syntax.{named, w32}
use mir.Val.{Val, vint}
use base.Logic.{emp, id⊢}
use base.Fml.{ftrue, flft}
use contract.Monad.{fact, fact_i}
use contract.Running.{tables}
use types.Kit.{‵, raw, ◌⊛◌, some, later, ◌$◌, ◌∵◌, !, qed, done, move, keep, drop, use0, use1, use2, split, split3, join, fsplit, fjoin, feq_i, feq_l, flt_i, flt_l, pick, await, rewrite, suffices, frame}
use types.Run.{enter, addr, stop, no_more, and_then, returns}
use types.ByLocal.{alloc_all, pass_all, free_all, look_at, get, through, sets, lands_as}
use denote.Array.{Array}
use denote.Builtin.{u8, u32}
use denote.Exit.{yes, no}
use denote.Follow.{follows, follows_both}
use denote.Laws.{shows}
use denote.Plain.{uint_Makes, uint_vals, uint_Tells}
use denote.RattleType.{RattleType, owns}
use denote.Ref.{MutBor, mut_vals, mut_Tells}
use denote.Signature.{plain, mut_ref_to, named_lft, type_at, types_at}
use denote.Slice.{MutSlice, mut_slice_vals}
use denote.Steps.{nothing, owned, peeks, heard, only}
use denote.Triple.Call.{calls_at}
use denote.Triple.Clauses.{Lasts, lasts}
use denote.Triple.Spec.{triple_of}
use denote.Triple.Table.{framed}
use denote.Triple.Walked.{Stays, walk_of, says, stay_dropped, Goes-dropped, Goes-spent_ref, ends_at}
use Rattle.std.proofs.raw_atomic.Walks.{proved}
use Rattle.rss_frames.specs.Pairs.{page_at, with_two}
use Rattle.rss_frames.specs.Places.{with_all}
use Rattle.rss_frames.specs.declared.pairs.TwoPages.{TwoPages}
use Rattle.rss_frames.specs.contracts.frames.Frames.{the_row as R}
use Rattle.rss_frames.specs.contracts.frames.Frames.lend_all as g
use Rattle.rss_frames.specs.contracts.pairs.pair as h
use Rattle.rss_frames.specs.contracts.frames.Frames.lend_two as f
use Rattle.rss_frames.proofs.Follows.{both_then}
use Rattle.rss_frames.proofs.pairs.TwoPages.TheLaws.{lowers}
use Rattle.rss_frames.proofs.frames.Frames.lend_all.Met as all
use Rattle.rss_frames.proofs.pairs.pair.Met as two
use Rattle.rss_frames.proofs.frames.Frames.lend_two.Statement.{statement}
use Rattle.rss_frames.proofs.frames.Frames.lend_two.Code as code

abbrev Pg : RattleType
Pg = Array u8 4096

abbrev stayed : Stays f.ended.signature.params f.ended.kept
stayed = (
  stay_dropped (mut_ref_to (0 ∷ []) tt (plain (λ _. R))) no,
  (stay_dropped (plain (λ _. u32)) yes, (stay_dropped (plain (λ _. u32)) yes, tt)),
)

pub lend_two_spec : {M : Type 1} → statement M
lend_two_spec 𝓤 𝓛 𝓜 𝓡 wired =
    let c = f.clauses 𝓛 𝓜.mem 𝓡.returns in let W = walk_of 𝓛 f.ended stayed c in let 𝓣 = tables 𝓤 𝓛.H 𝓜 𝓡 𝓡.env in
    let drops = Goes-dropped 𝓛 1 (plain (λ _. u32)) yes (λ κs x w. refl) in
    proved 𝓛 f.ended stayed c 𝓜 𝓡 (Goes-spent_ref 𝓛 1 (0 ∷ []) tt (plain (λ _. R)), (drops, (drops, tt)))
    f.Key.name code.function (code.unfolded 𝓤 𝓛.H 𝓜 𝓡 wired)
    (λ κs. (mut_vals, (uint_vals w32, (uint_vals w32, tt))))
    (λ κs. (mut_Tells (named 0) κs.0 R, (uint_Tells w32, (uint_Tells w32, tt)))) (λ κs qs bounds a n are.
    let κ = κs.0 in let q = qs.0 in let s = a.0 in let i = a.1.0 in let j = a.1.1.0 in
    let G = triple_of 𝓛 g.signature (g.spec 𝓛 𝓜.mem 𝓡.returns) in
    let P = triple_of 𝓛 h.signature (h.spec 𝓛 𝓜.mem 𝓡.returns) in
    let TP : RattleType = type_at h.signature.result (κ, tt) in
    let y : W.Ghost = ((κs, qs, bounds, a, (mut_vals s, (vint w32 i ∷ [], (vint w32 j ∷ [], tt)))), n) in
    let at_all : G.Ghost = (((κ, tt), (q, tt), tt, (s, tt), (mut_vals s, tt)), tt) in
    qed 𝓛 (((‵ (flft κ q) ⊛ ‵ ftrue) ⊛ ‵ (owns (types_at f.ended.signature.params κs) a y.0.4)) ∷ raw (fact 𝓤 (i ≢ j)) ∷
    raw (fact 𝓤 (i < length s.now.pages)) ∷ raw (fact 𝓤 (j < length s.now.pages)) ∷ []) ∵
    split ! $ split ! $ move ! (2 ∷ []) $ fsplit ! $ keep ! (0 ∷ 2 ∷ 4 ∷ 5 ∷ 6 ∷ []) $
    move ! (2 ∷ []) $ heard ! (i ≢ j) (λ apart. move ! (2 ∷ []) $
    heard ! (i < length s.now.pages) (λ first_within. move ! (2 ∷ []) $
    heard ! (j < length s.now.pages) (λ second_within.
    -- [the frames; the token]
    enter ! _ _ _ _ _ $ alloc_all ! (λ l. pass_all ! refl
    ((tt, tt), ((tt, record { fits = are.1.0.1 }), ((tt, record { fits = are.1.1.0.1 }), tt))) $
    sets ! (addr ! (through ! refl (stop !))) refl (tt, tt) $
    nothing ! $ move ! (1 ∷ 0 ∷ []) $ fjoin ! $ nothing ! $ move ! (2 ∷ 0 ∷ []) $ join ! $ join ! $ nothing ! $
    move ! (1 ∷ 0 ∷ []) $ use2 𝓛 (raw (G.pre at_all)) (id⊢ 𝓤 _) $
    calls_at ! (framed 𝓤 𝓛.H 𝓜 𝓣) G (all.met 𝓤 𝓛 𝓜 𝓡 (code.calls-rss_frames::frames::Frames::lend_all 𝓡.env wired))
    at_all
    (and_then ! (get ! refl) (no_more !)) (λ v.
    use1 𝓛 (later (some (λ (r : MutBor (List (List ℕ))).
    ((‵ (flft κ q) ⊛ ‵ ftrue) ⊛ ‵ ((MutSlice (named 0) κ Pg).own_val r (v ∷ []))) ⊛
    some (λ (ws : Lasts g.ended (κ, tt) (s, tt)). ‵ (lasts g.ended (κ, tt) (s, tt) ws) ⊛ ‵
    (follows R (Array Pg 0) s.ghost_name r.ghost_name (with_all s.now)) ⊛ raw (fact 𝓤 (r.now ≡ s.now.pages))))))
    (id⊢ 𝓤 _) $
    await ! tt $ pick ! (λ r. split ! $ split ! $ split ! $ move ! (3 ∷ []) $
    pick ! (λ ws. split3 ! $ drop ! $ move ! (1 ∷ []) $ heard ! (r.now ≡ s.now.pages) (λ pages.
    -- [what the frames follow; the token; nothing; all pages]
    move ! (3 ∷ []) $ fsplit ! $ fsplit ! $ feq_l ! (λ e. fsplit ! $ flt_l ! (λ small.
    flt_i ! (length r.now) (2 ^ 64) small $ fjoin ! $ feq_i ! (List Val) (mut_slice_vals r) (mut_slice_vals r) refl $
    fjoin ! $ fjoin ! $
    lands_as ! (ap only e) refl (tt, (tt, (record { fits = small }, tt))) $
    -- [all pages; what the frames follow; the token; nothing]
    let at_two : P.Ghost = (
      (
        (κ, tt),
        (q, tt),
        tt,
        (r, (i, (j, tt))),
        (mut_slice_vals r, (vint w32 i ∷ [], (vint w32 j ∷ [], tt))),
      ),
      tt,
    ) in
    let many : length s.now.pages ≡ length r.now = ap length (sym pages) in
    use0 𝓛 (raw (fact 𝓤 (j < length r.now))) (fact_i 𝓤 (j < length r.now) (emp 𝓤)
    (omega (arith, second_within, many))) $
    use0 𝓛 (raw (fact 𝓤 (i < length r.now))) (fact_i 𝓤 (i < length r.now) (emp 𝓤) (omega (arith, first_within, many))) $
    join ! $
    use0 𝓛 (raw (fact 𝓤 (i ≢ j))) (fact_i 𝓤 (i ≢ j) (emp 𝓤) apart) $ join ! $
    nothing ! $ owned ! u32 _ (uint_Makes 𝓛 w32) j (vint w32 j ∷ []) (refl, are.1.1.0.1) $ fjoin ! $
    owned ! u32 _ (uint_Makes 𝓛 w32) i (vint w32 i ∷ []) (refl, are.1.0.1) $ fjoin ! $
    move ! (2 ∷ 0 ∷ []) $ fjoin ! $ move ! (3 ∷ 4 ∷ []) $ join ! $ join ! $ use2 𝓛 (raw (P.pre at_two)) (id⊢ 𝓤 _) $
    calls_at ! (framed 𝓤 𝓛.H 𝓜 𝓣) P (two.met 𝓤 𝓛 𝓜 𝓡 (code.calls-rss_frames::pairs::pair 𝓡.env wired)) at_two
    (and_then ! (get ! refl) (and_then ! (get ! refl) (and_then ! (get ! refl) (no_more !)))) (λ u.
    use1 𝓛 (later (some (λ (t : TwoPages). ((‵ (flft κ q) ⊛ ‵ ftrue) ⊛ ‵ (TP.own_val t (u ∷ []))) ⊛
    some (λ (ws : Lasts h.ended (κ, tt) (r, (i, (j, tt)))). ‵ (lasts h.ended (κ, tt) (r, (i, (j, tt))) ws)
    ⊛ ‵ (follows_both (Array Pg 0) Pg Pg r.ghost_name t.first.ghost_name t.second.ghost_name (with_two r.now i j))
    ⊛ raw (fact 𝓤 (t.first.now ≡ page_at r.now i)) ⊛ raw (fact 𝓤 (t.second.now ≡ page_at r.now j)))))) (id⊢ 𝓤 _) $
    await ! tt $ pick ! (λ t. split ! $ split ! $ split ! $ move ! (3 ∷ []) $
    pick ! (λ ws. split ! $ drop ! $ split3 ! $
    -- [what all pages follow; the first's bytes; the second's; the token; nothing; the two; what the frames follow]
    move ! (1 ∷ []) $ heard ! (t.first.now ≡ page_at r.now i)
    (λ first_is. move ! (1 ∷ []) $ heard ! (t.second.now ≡ page_at r.now j) (λ second_is.
    move ! (4 ∷ 0 ∷ []) $ use2 𝓛 (‵ (follows_both R Pg Pg s.ghost_name t.first.ghost_name t.second.ghost_name
    (λ x z. with_all s.now (with_two r.now i j x z))))
    (both_then 𝓛 R (Array Pg 0) Pg Pg (with_all s.now) (with_two r.now i j) s.ghost_name r.ghost_name t.first.ghost_name
    t.second.ghost_name) $
    rewrite ! 0 (λ (ps : List (List ℕ)). ‵ (follows_both R Pg Pg s.ghost_name t.first.ghost_name t.second.ghost_name
    (λ x z. with_all s.now (with_two ps i j x z)))) pages refl $
    -- [what the frames follow; the token; nothing; the two]
    move ! (3 ∷ []) $ peeks ! TP _ (shows 𝓛 TP) t (u ∷ [])
    (λ is. let low_of = lowers (named_lft 1 0 tt κs) in let e = low_of.val_is t (u ∷ []) is in
    lands_as ! (ap only e) refl (tt, (tt, (tt, tt))) $ returns ! (look_at ! 0 refl) $ free_all ! refl $
    keep ! (0 ∷ 2 ∷ 1 ∷ []) $
    rewrite ! 0 (λ (vs : List Val). ‵ (TP.own_val t vs)) e refl $
    suffices ! _ (ends_at 𝓛 f.ended stayed c y (low_of.lowered t) t (tt, (tt, (tt, tt))) (tt, (tt, (tt, tt)))) $
    nothing ! $ nothing ! $ fjoin ! $ nothing ! $ fjoin ! $ nothing ! $ fjoin ! $ join ! $ nothing ! $
    move ! (2 ∷ 0 ∷ []) $ join ! $ join ! $ frame ! $
    says ! (
      first_is ∙ ap (λ (ps : List (List ℕ)). page_at ps i) pages,
      second_is
          ∙ ap (λ (ps : List (List ℕ)). page_at ps j) pages,
    ) $ done !)))))))))))))))))
