-- `mark` at a call, over a reference that is lent again. Assumes `Logic`.
use mathlib.Core.Path.{◌≡◌, refl, ap}
use Prim.Native.Nat.{ℕ, ◌<◌, ◌^◌}
use mathlib.Core.List.{List, [], ◌∷◌}
use seplogic.Ra.Ura.{Ura}
use mir.Syntax.{named, w32}
use mir.Val.{Val, vint}
use base.Fraction.{full_share}
use base.Logic.{SProp, ent, sep, ex, guard, emp, id⊢}
use base.Fml.{Fml, GName, Lft, Share, ftrue, flft, fres}
use prog.Memory.{Memory}
use prog.Routine.{Routine}
use contract.Monad.{Fun, fact, fact_i}
use types.Logic.{Logic, sem}
use types.Kit.{‵, raw, ◌⊛◌, some, later, ◌$◌, ◌∵◌, !, qed, done, move, keep, use0, use1, use2, use3, split, split3, join, fsplit, fjoin, feq_l, flt_l, pick, await, rewrite, updating, now, show, check}
use types.Tokens.{lft_new, lft_end}
use denote.Builtin.{u32}
use denote.Lend.{lends_again, comes_back, LentAgain}
use denote.Ref.{MutBor, MutRef, mut_vals}
use denote.Steps.{nothing, heard, only}
use denote.Triple.Clauses.{Lasts, lasts}
use denote.Triple.Spec.{triple_of}
use denote.Triple.Statement.{Contract}
use Rattle.std.specs.Prelude.{IsSome, Some}
use Rattle.rss_base.specs.declared.key.PageKey.{PageKey}
use Rattle.rss_base.specs.contracts.key.PageKey.{the_row as Key}
use Rattle.rss_frames.specs.Table.{key_at}
use Rattle.rss_frames.specs.State.{State}
use Rattle.rss_frames.specs.Frames.{frame_in}
use Rattle.rss_frames.specs.Places.{IsSound, frame_for, marked}
use Rattle.rss_frames.specs.contracts.frames.Frames.{the_row as R}
use Rattle.rss_frames.specs.contracts.frames.Frames.mark as m

module _ {M : Type 1} {𝓤 : Ura M} (𝓛 : Logic 𝓤) (at_mem : Memory → SProp 𝓤) (run : Routine → Fun 𝓤) where
  open 𝓛 use {H}

  abbrev pub Marks : Contract 𝓤
  Marks = triple_of 𝓛 m.signature (m.spec 𝓛 at_mem run)

  module _ (κ : Lft) (q : Share) (s : MutBor State) (x : State) (key : PageKey) (ks : List Val) where
    abbrev at_ref : GName → MutBor State
    at_ref γ = record { ref_ptr = s.ref_ptr; ghost_name = γ; now = x }

    abbrev pub Ref : Lft → GName → State → Fml
    Ref κ' γ z = (MutRef (named 0) κ' R).own_val (record { ref_ptr = s.ref_ptr; ghost_name = γ; now = z }) (mut_vals s)

    abbrev pub at_mark : ℕ × GName → Marks.Ghost
    at_mark c = (((c.0 ∷ [], tt), (full_share, tt), tt, (at_ref c.1, (key, tt)), (mut_vals s, (ks, tt))), tt)

    abbrev pub Keeps : ℕ × GName → Fml
    Keeps c = LentAgain R κ (c.0 ∷ []) q s.ghost_name s.ref_ptr.0 s.ref_ptr.1 c.1 x

    abbrev pub IsMarked : Val → ℕ → Type 0
    IsMarked v r = (v ≡ vint w32 r) × (r < 2 ^ 32) × IsSound x × (key_at x.keys r ≡ Some key) × (r ≡ frame_for key x)

    pub mark_goes : IsSome (frame_in x key) → ent 𝓤
        (sep 𝓤 (sem 𝓛 (Ref κ s.ghost_name x)) (sep 𝓤 (sem 𝓛 (flft κ q)) (sem 𝓛 (Key.own_val key ks))))
        (H.⇛ (ex 𝓤 (λ (c : ℕ × GName). sep 𝓤 (Marks.pre (at_mark c)) (sem 𝓛 (Keeps c)))))
    mark_goes there =
        qed 𝓛 (‵ (Ref κ s.ghost_name x) ∷ ‵ (flft κ q) ∷ ‵ (Key.own_val key ks) ∷ []) ∵ updating ! $
        lft_new ! tt (λ α. move ! (1 ∷ 2 ∷ []) $
        use2 𝓛 (later (some (λ (δ : GName). ‵ (Ref (α ∷ []) δ x) ⊛ ‵ (Keeps (α, δ)))))
        (lends_again 𝓛 R (named 0) κ (α ∷ []) q s.ghost_name s.ref_ptr.0 s.ref_ptr.1 (named 0) x) $ await ! tt $
        pick ! (λ δ. split ! $
        -- [the loan; what the lender keeps; the token of α; the key]
        nothing ! $ move ! (4 ∷ 0 ∷ []) $ fjoin ! $ move ! (1 ∷ 0 ∷ []) $ fjoin ! $ nothing ! $ move ! (3 ∷ 0 ∷ []) $
        join ! $ join ! $
        use0 𝓛 (raw (fact 𝓤 (IsSome (frame_in x key)))) (fact_i 𝓤 (IsSome (frame_in x key)) (emp 𝓤) there) $
        move ! (1 ∷ 0 ∷ []) $
        use2 𝓛 (raw (Marks.pre (at_mark (α, δ)))) (id⊢ 𝓤 _) $ now ! $
        show ! (λ (c : ℕ × GName). sep 𝓤 (Marks.pre (at_mark c)) (sem 𝓛 (Keeps c))) (α, δ) $ done !))

    pub mark_gives : (c : ℕ × GName) (v : Val) → ent 𝓤 (sep 𝓤 (Marks.post (at_mark c) v) (sem 𝓛 (Keeps c)))
        (H.⇛ (ex 𝓤 (λ (r : ℕ). guard 𝓤 (IsMarked v r) (sep 𝓤 (sem 𝓛 (Ref κ s.ghost_name (marked key x)))
        (sem 𝓛 (flft κ q))))))
    mark_gives c v =
        let κs : Lft × Unit {0} = (c.0 ∷ [], tt) in
        qed 𝓛 (raw (Marks.post (at_mark c) v) ∷ ‵ (Keeps c) ∷ []) ∵ updating ! $
        use1 𝓛 (later (some (λ (r : ℕ). ((‵ (flft (c.0 ∷ []) full_share) ⊛ ‵ ftrue) ⊛ ‵ (u32.own_val r (v ∷ [])))
        ⊛ some (λ (ws : Lasts m.ended κs (at_ref c.1, (key, tt))). ‵ (lasts m.ended κs (at_ref c.1, (key, tt)) ws)
        ⊛ raw (fact 𝓤 (IsSound x)) ⊛ raw (fact 𝓤 (key_at x.keys r ≡ Some key)) ⊛ raw (fact 𝓤 (r ≡ frame_for key x)) ⊛
        raw (fact 𝓤 (ws.0 ≡ marked key x)))))) (id⊢ 𝓤 _) $ await ! tt $ pick ! (λ r.
        split ! $ split ! $ split ! $ lft_end ! tt $ move ! (3 ∷ []) $
        pick ! (λ ws. split3 ! $ move ! (1 ∷ []) $ heard ! (IsSound x) (λ sound. move ! (1 ∷ []) $ split3 ! $
        heard ! (key_at x.keys r ≡ Some key) (λ at. heard ! (r ≡ frame_for key x)
        (λ is. heard ! (ws.0 ≡ marked key x) (λ changed.
        -- [the last values; α is over; nothing; the frame; what the lender keeps]
        fsplit ! $ fsplit ! $ rewrite ! 0 (λ (z : State). ‵ (fres c.1 (R.coded.code z))) changed refl $
        move ! (3 ∷ 6 ∷ 0 ∷ []) $
        use3 𝓛 (later (‵ (Ref κ s.ghost_name (marked key x)) ⊛ ‵ (flft κ q)))
        (comes_back 𝓛 R (named 0) κ (c.0 ∷ []) q s.ghost_name s.ref_ptr.0 s.ref_ptr.1 c.1 x (marked key x)) $
        await ! tt $ split ! $
        move ! (5 ∷ []) $ fsplit ! $ feq_l ! (λ e. flt_l ! (λ fits. now ! $
        show ! (λ (z : ℕ). guard 𝓤 (IsMarked v z) (sep 𝓤 (sem 𝓛 (Ref κ s.ghost_name (marked key x)))
        (sem 𝓛 (flft κ q)))) r $ check ! (ap only e, fits, sound, at, is) $ keep ! (0 ∷ 1 ∷ []) $ done !))))))))
