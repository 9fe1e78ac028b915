-- `two_mut` marks both pages, and lends them out of their frames.
use mathlib.Core.Path.{◌≡◌, refl, sym, ap, subst, ◌∙◌}
use Prim.Native.Nat.{ℕ, ◌<◌}
use mathlib.Core.List.{List, [], ◌∷◌}
use mathlib.Core.Logic.{◌≢◌}
use lib.ListN.{length}
use mir.Syntax.{named, w32}
use mir.Val.{Val, vint}
use base.Logic.{emp, id⊢}
use base.Fml.{GName, ftrue, flft}
use contract.Monad.{fact, fact_i}
use contract.Running.{tables}
use types.Kit.{‵, raw, ◌⊛◌, some, later, given, ◌$◌, ◌∵◌, !, qed, done, move, keep, drop, use0, use1, use2, use3, split, split3, join, fsplit, fjoin, pick, await, learn, rewrite, suffices, frame}
use types.Run.{enter, addr, stop, no_more, and_then, returns}
use types.ByLocal.{alloc_all, pass_all, free_all, look_at, get, through, sets, lands_as}
use denote.Array.{Array}
use denote.Builtin.{u8, u32}
use denote.Exit.{yes, no}
use denote.Follow.{follows_both}
use denote.Laws.{shows}
use denote.Plain.{uint_Makes}
use denote.RattleType.{RattleType, owns}
use denote.Ref.{MutBor, mut_vals, mut_Tells}
use denote.Signature.{plain, mut_ref_to, named_lft, type_at, types_at}
use denote.Steps.{nothing, owned, peeks, heard, only}
use denote.Triple.Call.{calls_at}
use denote.Triple.Clauses.{Lasts, lasts}
use denote.Triple.Spec.{triple_of}
use denote.Triple.Table.{framed}
use denote.Triple.Walked.{Stays, walk_of, stay_dropped, Goes-dropped, Goes-spent_ref, ends_at}
use Rattle.std.specs.Prelude.{IsSome, Some, Option}
use Rattle.std.proofs.raw_atomic.Walks.{proved}
use Rattle.rss_base.specs.declared.key.PageKey.{PageKey}
use Rattle.rss_base.specs.contracts.key.PageKey.{the_row as Key}
use Rattle.rss_base.proofs.key.PageKey.TheLaws as key
use Rattle.rss_frames.specs.State.{State}
use Rattle.rss_frames.specs.Entries.{Shows, bytes_of, entries, entry, room, written}
use Rattle.rss_frames.specs.Frames.{Frame, frame_in}
use Rattle.rss_frames.specs.Pairs.{page_at}
use Rattle.rss_frames.specs.Places.{marked, with_both, with_frames}
use Rattle.rss_frames.specs.declared.pairs.TwoPages.{TwoPages}
use Rattle.rss_frames.specs.contracts.frames.Frames.{the_row as R}
use Rattle.rss_frames.specs.contracts.frames.Frames.lend_two as h
use Rattle.rss_frames.specs.contracts.frames.Frames.two_mut as f
use Rattle.rss_frames.proofs.Both.{first_bytes, high_within, low_within, others_kept, second_bytes, two_apart, two_shown, two_written}
use Rattle.rss_frames.proofs.Marks.{Marks, Ref, at_mark, Keeps, IsMarked, mark_goes, mark_gives}
use Rattle.rss_frames.proofs.pairs.TwoPages.TheLaws.{lowers}
use Rattle.rss_frames.proofs.frames.Frames.mark.Met as mark_met
use Rattle.rss_frames.proofs.frames.Frames.lend_two.Met as two
use Rattle.rss_frames.proofs.frames.Frames.two_mut.Statement.{statement}
use Rattle.rss_frames.proofs.frames.Frames.two_mut.Code as code

abbrev Pg : RattleType
Pg = Array u8 4096

abbrev kv : PageKey → List Val
kv k = key.lowers.lowered k ∷ []

abbrev stayed : Stays f.ended.signature.params f.ended.kept
stayed = (
  stay_dropped (mut_ref_to (0 ∷ []) tt (plain (λ _. R))) no,
  (stay_dropped (plain (λ _. Key)) yes, (stay_dropped (plain (λ _. Key)) yes, tt)),
)

pub two_mut_spec : {M : Type 1} → statement M
two_mut_spec 𝓤 𝓛 𝓜 𝓡 wired =
    let c = f.clauses 𝓛 𝓜.mem 𝓡.returns in let W = walk_of 𝓛 f.ended stayed c in let 𝓣 = tables 𝓤 𝓛.H 𝓜 𝓡 𝓡.env in
    let drops = Goes-dropped 𝓛 1 (plain (λ _. Key)) yes (λ κs x w. refl) in let fr = framed 𝓤 𝓛.H 𝓜 𝓣 in
    proved 𝓛 f.ended stayed c 𝓜 𝓡 (Goes-spent_ref 𝓛 1 (0 ∷ []) tt (plain (λ _. R)), (drops, (drops, tt)))
    f.Key.name code.function (code.unfolded 𝓤 𝓛.H 𝓜 𝓡 wired)
    (λ κs. (mut_vals, (kv, (kv, tt)))) (λ κs. (
      mut_Tells (named 0) κs.0 R,
      (key.lowers.val_is, (key.lowers.val_is, tt)),
    )) (λ κs qs bounds a n are.
    let κ = κs.0 in let q = qs.0 in let s = a.0 in let one = a.1.0 in let other = a.1.1.0 in let x = s.now in
    let P = triple_of 𝓛 h.signature (h.spec 𝓛 𝓜.mem 𝓡.returns) in let Ms = Marks 𝓛 𝓜.mem 𝓡.returns in
    let TP : RattleType = type_at h.signature.result (κ, tt) in
    let marks = mark_met.met 𝓤 𝓛 𝓜 𝓡 (code.calls-rss_frames::frames::Frames::mark 𝓡.env wired) in
    let y : W.Ghost = ((κs, qs, bounds, a, (mut_vals s, (kv one, (kv other, tt)))), n) in
    qed 𝓛 (((‵ (flft κ q) ⊛ ‵ ftrue) ⊛ ‵ (owns (types_at f.ended.signature.params κs) a y.0.4)) ∷ raw
    (fact 𝓤 (IsSome (frame_in x one))) ∷ raw (fact 𝓤 (IsSome (frame_in x other))) ∷ raw (fact 𝓤 (one ≢ other)) ∷ []) ∵
    split ! $ split ! $ move ! (2 ∷ []) $ fsplit ! $ move ! (1 ∷ []) $ fsplit ! $ move ! (1 ∷ []) $ fsplit ! $
    keep ! (3 ∷ 4 ∷ 2 ∷ 0 ∷ 6 ∷ 7 ∷ 8 ∷ []) $
    move ! (4 ∷ []) $ heard ! (IsSome (frame_in x one))
    (λ one_there. move ! (4 ∷ []) $ heard ! (IsSome (frame_in x other))
    (λ other_there. move ! (4 ∷ []) $ heard ! (one ≢ other) (λ apart.
    -- [the frames; the token; the first key; the second key]
    move ! (0 ∷ 1 ∷ 3 ∷ 2 ∷ []) $
    -- [the frames; the token; the second key; the first key]
    enter ! _ _ _ _ _ $ alloc_all ! (λ l. pass_all ! refl (
      (tt, tt),
      (
        ((key.the_row_laws.lawful 𝓛).typed one (kv one) are.1.0).0,
        (((key.the_row_laws.lawful 𝓛).typed other (kv other) are.1.1.0).0, tt),
      ),
    ) $
    sets ! (addr ! (through ! refl (stop !))) refl (tt, tt) $
    use3 𝓛 (later (some (λ (z : ℕ × GName). raw (Ms.pre (at_mark 𝓛 𝓜.mem 𝓡.returns κ q s x other (kv other) z)) ⊛ ‵
    (Keeps 𝓛 𝓜.mem 𝓡.returns κ q s x other (kv other) z))))
    (mark_goes 𝓛 𝓜.mem 𝓡.returns κ q s x other (kv other) other_there) $ await ! tt $ pick ! (λ z1. split ! $
    calls_at ! fr Ms marks (at_mark 𝓛 𝓜.mem 𝓡.returns κ q s x other (kv other) z1)
    (and_then ! (get ! refl) (and_then ! (get ! refl) (no_more !))) (λ v.
    use2 𝓛 (later (some (λ (r : ℕ). given (IsMarked 𝓛 𝓜.mem 𝓡.returns κ q s x other (kv other) v r)
    (‵ (Ref 𝓛 𝓜.mem 𝓡.returns κ q s x other (kv other) κ s.ghost_name (marked other x)) ⊛ ‵ (flft κ q)))))
    (mark_gives 𝓛 𝓜.mem 𝓡.returns κ q s x other (kv other) z1 v) $ await ! tt $
    pick ! (λ low. learn ! (λ m. split ! $ lands_as ! m.0 refl (tt, record { fits = m.1 }) $
    -- [the frames; the token; the first key]
    let x1 = marked other x in
    let kept = others_kept x m.2.0 m.2.1 m.2.2 other low m.3 (sym m.4) one apart in
    let there = subst (λ (o : Option Frame). IsSome o) (sym kept) one_there in
    sets ! (addr ! (through ! refl (stop !))) refl (tt, tt) $
    use3 𝓛 (later (some (λ (z : ℕ × GName). raw (Ms.pre (at_mark 𝓛 𝓜.mem 𝓡.returns κ q s x1 one (kv one) z)) ⊛ ‵
    (Keeps 𝓛 𝓜.mem 𝓡.returns κ q s x1 one (kv one) z))))
    (mark_goes 𝓛 𝓜.mem 𝓡.returns κ q s x1 one (kv one) there) $ await ! tt $ pick ! (λ z2. split ! $
    calls_at ! fr Ms marks (at_mark 𝓛 𝓜.mem 𝓡.returns κ q s x1 one (kv one) z2)
    (and_then ! (get ! refl) (and_then ! (get ! refl) (no_more !))) (λ v'.
    use2 𝓛 (later (some (λ (r : ℕ). given (IsMarked 𝓛 𝓜.mem 𝓡.returns κ q s x1 one (kv one) v' r)
    (‵ (Ref 𝓛 𝓜.mem 𝓡.returns κ q s x1 one (kv one) κ s.ghost_name (marked one x1)) ⊛ ‵ (flft κ q)))))
    (mark_gives 𝓛 𝓜.mem 𝓡.returns κ q s x1 one (kv one) z2 v') $ await ! tt $
    pick ! (λ high. learn ! (λ m'. split ! $ lands_as ! m'.0 refl (tt, record { fits = m'.1 }) $
    -- [the frames; the token]
    let x2 = marked one x1 in let s2 : MutBor State = record
    { ref_ptr = s.ref_ptr; ghost_name = s.ghost_name; now = x2 } in
    let off = two_apart x x1 x2 m.2 one other high low m.3 m.4 refl m'.3 m'.4 refl apart in
    let low_in = low_within x x1 x2 m.2 one other high low m.3 m.4 refl m'.3 m'.4 refl apart in
    let high_in = high_within x x1 x2 m.2 one other high low m.3 m.4 refl m'.3 m'.4 refl apart in
    let z3 : P.Ghost = (
      (
        (κ, tt),
        (q, tt),
        tt,
        (s2, (high, (low, tt))),
        (mut_vals s, (vint w32 high ∷ [], (vint w32 low ∷ [], tt))),
      ),
      tt,
    ) in
    sets ! (addr ! (through ! refl (stop !))) refl (tt, tt) $
    use0 𝓛 (raw (fact 𝓤 (low < length x2.pages))) (fact_i 𝓤 (low < length x2.pages) (emp 𝓤) low_in) $
    use0 𝓛 (raw (fact 𝓤 (high < length x2.pages))) (fact_i 𝓤 (high < length x2.pages) (emp 𝓤) high_in) $ join ! $
    use0 𝓛 (raw (fact 𝓤 (high ≢ low))) (fact_i 𝓤 (high ≢ low) (emp 𝓤) off) $ join ! $
    nothing ! $ owned ! u32 _ (uint_Makes 𝓛 w32) low (vint w32 low ∷ []) (refl, m.1) $ fjoin ! $
    owned ! u32 _ (uint_Makes 𝓛 w32) high (vint w32 high ∷ []) (refl, m'.1) $ fjoin ! $
    -- [the frame numbers; the facts; the frames; the token]
    move ! (2 ∷ 0 ∷ []) $ fjoin ! $ nothing ! $ move ! (3 ∷ 0 ∷ []) $ join ! $ join ! $
    use2 𝓛 (raw (P.pre z3)) (id⊢ 𝓤 _) $
    calls_at ! fr P (two.met 𝓤 𝓛 𝓜 𝓡 (code.calls-rss_frames::frames::Frames::lend_two 𝓡.env wired)) z3
    (and_then ! (get ! refl) (and_then ! (get ! refl) (and_then ! (get ! refl) (no_more !)))) (λ u.
    use1 𝓛 (later (some (λ (t : TwoPages). ((‵ (flft κ q) ⊛ ‵ ftrue) ⊛ ‵ (TP.own_val t (u ∷ []))) ⊛
    some (λ (ws : Lasts h.ended (κ, tt) (s2, (high, (low, tt)))). ‵ (lasts h.ended (κ, tt) (s2, (high, (low, tt))) ws)
    ⊛ ‵ (follows_both R Pg Pg s.ghost_name t.first.ghost_name t.second.ghost_name (with_frames x2 high low))
    ⊛ raw (fact 𝓤 ((t.first.now ≡ page_at x2.pages high) × (t.second.now ≡ page_at x2.pages low))))))) (id⊢ 𝓤 _) $
    await ! tt $ pick ! (λ t. split ! $ split ! $ split ! $ move ! (3 ∷ []) $
    pick ! (λ ws. split3 ! $ drop ! $ move ! (1 ∷ []) $
    heard ! ((t.first.now ≡ page_at x2.pages high) × (t.second.now ≡ page_at x2.pages low)) (λ said.
    let told = two_written x x1 x2 m.2 one other high low m.3 m.4 refl m'.3 m'.4 refl apart in
    -- [what the frames follow; the token; nothing; the two]
    rewrite ! 0 (λ (F : List ℕ → List ℕ → State). ‵
    (follows_both R Pg Pg s.ghost_name t.first.ghost_name t.second.ghost_name F)) (λ i v w. told v w i) refl $
    move ! (3 ∷ []) $ peeks ! TP _ (shows 𝓛 TP) t (u ∷ [])
    (λ is. let low_of = lowers (named_lft 1 0 tt κs) in let e = low_of.val_is t (u ∷ []) is in
    lands_as ! (ap only e) refl (tt, (tt, (tt, tt))) $ returns ! (look_at ! 0 refl) $ free_all ! refl $
    keep ! (0 ∷ 2 ∷ 1 ∷ []) $
    rewrite ! 0 (λ (vs : List Val). ‵ (TP.own_val t vs)) e refl $
    suffices ! _ (ends_at 𝓛 f.ended stayed c y (low_of.lowered t) t (tt, (tt, (tt, tt))) (tt, (tt, (tt, tt)))) $
    nothing ! $ nothing ! $ fjoin ! $ nothing ! $ fjoin ! $ nothing ! $ fjoin ! $ join ! $ nothing ! $
    move ! (2 ∷ 0 ∷ []) $ join ! $ join ! $ frame ! $
    let Seen : Type 0 = (v w : List ℕ) → Shows (with_both one v other w x) (written one v (written other w (entries x)))
    (room x) in
    let First : Type 0 = bytes_of (entry one (entries x)) ≡ Some t.first.now in
    let Second : Type 0 = bytes_of (entry other (entries x)) ≡ Some t.second.now in
    use0 𝓛 (raw (fact 𝓤 Second)) (fact_i 𝓤 Second (emp 𝓤)
    (second_bytes x x1 x2 m.2 one other high low m.3 m.4 refl m'.3 m'.4 refl apart ∙ ap Some (sym said.1))) $
    use0 𝓛 (raw (fact 𝓤 First)) (fact_i 𝓤 First (emp 𝓤)
    (first_bytes x x1 x2 m.2 one other high low m.3 m.4 refl m'.3 m'.4 refl apart ∙ ap Some (sym said.0))) $ join ! $
    use0 𝓛 (raw (fact 𝓤 Seen)) (fact_i 𝓤 Seen (emp 𝓤)
    (two_shown x x1 x2 m.2 one other high low m.3 m.4 refl m'.3 m'.4 refl apart)) $ join ! $ move ! (1 ∷ 0 ∷ []) $
    join ! $ done !))))))))))))))))))
