-- All tables on the way of restart fit, where what is committed fits with any of the listed changes.
use Rattle.std.proofs.Common.{◌≡◌, ℕ, ◌+◌, ◌<◌, List, [], ◌∷◌, ◌++◌, length, refl, sym, ◌∙◌, ap, subst, arith}
use Rattle.std.specs.Prelude.{true, false, nat_le, min}
use Rattle.std.specs.List.{AllByRecursion}
use Rattle.std.proofs.lemmas.Bool.Decides.{nat_tests}
use Rattle.rss_model.specs.Tables.{Contents, Tables, content, put}
use Rattle.rss_model.specs.Changes.{Change, maker, own, kept_to, after, undo, Chained}
use Rattle.rss_model.specs.Records.{Placed, Listed, changes_in, listed, committed_by, Rise}
use Rattle.rss_model.specs.Restart.{stays, losers, FitWith, UndoFits, RedoFits, Lone, LoneAlong}
use Rattle.rss_model.specs.EngineLogs.{FitsMixed, FitsAlong}
use Rattle.rss_model.proofs.Surviving.{winners, Falls}
use Rattle.rss_model.proofs.LogLists.{by_test, false_true, all_append, all_weaker}
use Rattle.rss_model.proofs.LogChanging.{NotAt, put_here, put_other, put_both, undo_one}
use Rattle.rss_model.proofs.LogUndoing.{winner, no_winner, loser, no_loser, survives_too}
use Rattle.rss_model.proofs.LogRedoing.{Below, below_more, below_listed, falls_listed, all_listed, redo_step}
use Rattle.rss_model.proofs.LogKeeping.{both, cut_own_none}
use Rattle.rss_model.proofs.Mixing.{cut_here, cut_off_it, with_count, up_cut}
use Rattle.rss_model.proofs.ChangeKeeping.{up_all}

-- ---- below changes of other items

-- a change is undone below them
pub undo_below : (base : Contents) (ws : List Change) (c : Change) (cs : List Change) → NotAt c.item ws → c.old ≡ content (after base cs) c.item → undo (after base (ws ++ c ∷ cs)) c ≡ after base (ws ++ cs)
undo_below base [] c cs off is = undo_one base c cs is
undo_below base (w ∷ ws) c cs off is =
    put_both (after base (ws ++ c ∷ cs)) w.item c.item w.new c.old off.0
    ∙ ap (λ (k : Contents). put k w.item w.new) (undo_below base ws c cs off.1 is)

-- and its new content is found there
pub finds_below : (base : Contents) (ws : List Change) (c : Change) (cs : List Change) → NotAt c.item ws → content (after base (ws ++ c ∷ cs)) c.item ≡ c.new
finds_below base [] c cs off = put_here (after base cs) c.item c.item c.new refl
finds_below base (w ∷ ws) c cs off = put_other (after base (ws ++ c ∷ cs)) w.item c.item w.new (λ e. off.0 (sym e)) ∙ finds_below base ws c cs off.1

-- ---- mixtures

-- without its transaction's last change
one_less : (ws : List Change) (c : Change) (cs : List Change) → AllByRecursion (λ w. w.by ≡ c.by → ⊥) ws → kept_to maker c.by (length (own c.by cs)) (ws ++ c ∷ cs) ≡ ws ++ cs
one_less [] c cs off =
    let all : nat_le (length (own c.by cs)) (length (own c.by cs)) ≡ true = grind (arith, nat_tests) in
    cut_here c.by (length (own c.by cs)) c cs refl all ∙ cut_own_none c.by (length (own c.by cs)) cs (omega arith)
one_less (w ∷ ws) c cs off = cut_off_it c.by (length (own c.by cs)) w (ws ++ c ∷ cs) off.0 ∙ ap (λ (l : List Change). w ∷ l) (one_less ws c cs off.1)

module _ (slots : ℕ) (saved : Tables) where
  pub mixed_cut : (base : Contents) (t n : ℕ) (cs : List Change) → FitsMixed slots saved base cs → FitsMixed slots saved base (kept_to maker t n cs)
  mixed_cut base t n cs fit = λ counts. subst (λ (l : List Change). FitWith slots saved (after base l)) (sym (up_cut t n counts cs)) (fit (with_count t (min (counts t) n) counts))

  pub mixed_now : (base : Contents) (cs : List Change) → FitsMixed slots saved base cs → FitWith slots saved (after base cs)
  mixed_now base cs fit = subst (λ (l : List Change). FitWith slots saved (after base l)) (up_all (length cs + 1) cs (omega arith)) (fit (λ u. length cs + 1))

  mixed_less : (base : Contents) (ws : List Change) (c : Change) (cs : List Change) → AllByRecursion (λ w. w.by ≡ c.by → ⊥) ws → FitsMixed slots saved base (ws ++ c ∷ cs) → FitsMixed slots saved base (ws ++ cs)
  mixed_less base ws c cs off fit = subst (FitsMixed slots saved base) (one_less ws c cs off) (mixed_cut base c.by (length (own c.by cs)) (ws ++ c ∷ cs) fit)

-- ---- changes that survive, before older ones

-- of two listed changes the newer one
abbrev IsNewer : Listed → Listed → Type 0
IsNewer w l = (l.at < w.at) × (l.change.item ≡ w.change.item → l.change.by ≡ w.change.by)

-- these survive, and are newer than the others
abbrev Stay : List Placed → List Listed → List Listed → Type 0
Stay ps ws ls = AllByRecursion (λ w. (stays ps w ≡ true) × AllByRecursion (IsNewer w) ls) ws

shift : (ws : List Listed) (l : Listed) (cs : List Change) → changes_in (ws ++ l ∷ []) ++ cs ≡ changes_in ws ++ l.change ∷ cs
shift [] l cs = refl
shift (w ∷ ws) l cs = ap (λ (k : List Change). w.change ∷ k) (shift ws l cs)

module _ (ps : List Placed) where
  stay_less : (ws : List Listed) (l : Listed) (ls : List Listed) → Stay ps ws (l ∷ ls) → Stay ps ws ls
  stay_less ws l ls stay = all_weaker (λ w. (stays ps w ≡ true) × AllByRecursion (IsNewer w) (l ∷ ls)) (λ w. (stays ps w ≡ true) × AllByRecursion (IsNewer w) ls) ws (λ w is. (is.0, is.1.1)) stay

  stay_more : (ws : List Listed) (l : Listed) (ls : List Listed) → Stay ps ws (l ∷ ls) → stays ps l ≡ true → Falls (l ∷ ls) → Lone (changes_in (l ∷ ls)) → Stay ps (ws ++ l ∷ []) ls
  stay_more ws l ls stay e falls lone =
      let only : AllByRecursion (λ k. k.change.item ≡ l.change.item → k.change.by ≡ l.change.by) ls = all_listed (λ c. c.item ≡ l.change.item → c.by ≡ l.change.by) ls lone.0 in
      let newer : AllByRecursion (IsNewer l) ls = both (λ k. k.at < l.at) (λ k. k.change.item ≡ l.change.item → k.change.by ≡ l.change.by) ls falls.0 only in
      all_append (λ w. (stays ps w ≡ true) × AllByRecursion (IsNewer w) ls) ws (l ∷ []) (stay_less ws l ls stay) ((e, newer), tt)

  -- what is lost is another transaction's, and of another item, than the newer ones that survive
  apart : (w l : Listed) → stays ps w ≡ true → l.at < w.at → stays ps l ≡ false → l.change.by ≡ w.change.by → ⊥
  apart w l stay lt e same = false_true (survives_too ps w.change.by w.at l same lt stay) e

  makers_off : (ws : List Listed) (l : Listed) (ls : List Listed) → Stay ps ws (l ∷ ls) → stays ps l ≡ false → AllByRecursion (λ c. c.by ≡ l.change.by → ⊥) (changes_in ws)
  makers_off [] l ls stay e = tt
  makers_off (w ∷ ws) l ls stay e = ((λ same. apart w l stay.0.0 stay.0.1.0.0 e (sym same)), makers_off ws l ls stay.1 e)

  items_off : (ws : List Listed) (l : Listed) (ls : List Listed) → Stay ps ws (l ∷ ls) → stays ps l ≡ false → NotAt l.change.item (changes_in ws)
  items_off [] l ls stay e = tt
  items_off (w ∷ ws) l ls stay e = ((λ same. apart w l stay.0.0 stay.0.1.0.0 e (stay.0.1.0.1 (sym same))), items_off ws l ls stay.1 e)

  module _ (slots : ℕ) (saved : Tables) (base : Contents) where
    abbrev Fit : List Change → Type 0
    Fit cs = FitsMixed slots saved base cs

    winners_mixed : (ws ls : List Listed) → Stay ps ws ls → Falls ls → Lone (changes_in ls) → Fit (changes_in ws ++ changes_in ls) → Fit (changes_in ws ++ changes_in (winners ps ls))
    winners_mixed ws [] stay falls lone fit = fit
    winners_mixed ws (l ∷ ls) stay falls lone fit = by_test (stays ps l)
        (λ e. subst (λ (k : List Listed). Fit (changes_in ws ++ changes_in k)) (sym (winner ps l ls e))
        (subst Fit (shift ws l (changes_in (winners ps ls)))
        (winners_mixed (ws ++ l ∷ []) ls (stay_more ws l ls stay e falls lone) falls.1 lone.1 (subst Fit (sym (shift ws l (changes_in ls))) fit))))
        (λ e. subst (λ (k : List Listed). Fit (changes_in ws ++ changes_in k)) (sym (no_winner ps l ls e))
        (winners_mixed ws ls (stay_less ws l ls stay) falls.1 lone.1 (mixed_less slots saved base (changes_in ws) l.change (changes_in ls) (makers_off ws l ls stay e) fit)))

    undo_mixed : (ws ls : List Listed) → Stay ps ws ls → Falls ls → Lone (changes_in ls) → Chained base (changes_in ls) → Fit (changes_in ws ++ changes_in ls)
        → UndoFits slots saved (after base (changes_in ws ++ changes_in ls)) (changes_in (losers ps ls))
    undo_mixed ws [] stay falls lone chained fit = mixed_now slots saved base (changes_in ws ++ []) fit
    undo_mixed ws (l ∷ ls) stay falls lone chained fit =
        let all : Contents = after base (changes_in ws ++ changes_in (l ∷ ls)) in
        by_test (stays ps l)
        (λ e. subst (λ (k : List Listed). UndoFits slots saved all (changes_in k)) (sym (no_loser ps l ls e))
        (subst (λ (cs : List Change). UndoFits slots saved (after base cs) (changes_in (losers ps ls))) (shift ws l (changes_in ls))
        (undo_mixed (ws ++ l ∷ []) ls (stay_more ws l ls stay e falls lone) falls.1 lone.1 chained.1 (subst Fit (sym (shift ws l (changes_in ls))) fit))))
        (λ e. subst (λ (k : List Listed). UndoFits slots saved all (changes_in k)) (sym (loser ps l ls e)) (
          mixed_now slots saved base (changes_in ws ++ changes_in (l ∷ ls)) fit,
          subst (λ (k : Contents). UndoFits slots saved k (changes_in (losers ps ls))) (sym (undo_below base (changes_in ws) l.change (changes_in ls) (items_off ws l ls stay e) chained.0))
              (undo_mixed ws ls (stay_less ws l ls stay) falls.1 lone.1 chained.1 (mixed_less slots saved base (changes_in ws) l.change (changes_in ls) (makers_off ws l ls stay e) fit)),
        ))

-- ---- the way of restart

module _ (slots : ℕ) (saved : Tables) where
  pub undo_fits : (base : Contents) (ps : List Placed) (ls : List Listed) → Falls ls → Lone (changes_in ls) → Chained base (changes_in ls) → FitsMixed slots saved base (changes_in ls)
      → UndoFits slots saved (after base (changes_in ls)) (changes_in (losers ps ls))
  undo_fits base ps ls falls lone chained fit = undo_mixed ps slots saved base [] ls tt falls lone chained fit

  survivors_fit : (base : Contents) (ps : List Placed) (ls : List Listed) → Falls ls → Lone (changes_in ls) → FitsMixed slots saved base (changes_in ls) → FitWith slots saved (after base (changes_in (winners ps ls)))
  survivors_fit base ps ls falls lone fit = mixed_now slots saved base (changes_in (winners ps ls)) (winners_mixed ps slots saved base [] ls tt falls lone fit)

  pub redo_fits : (base : Contents) (from until : ℕ) (ls : List Listed) (ps : List Placed) → Below from ls → Falls ls → Rise from ps until → LoneAlong ls ps → FitsAlong slots saved base ls ps
      → RedoFits slots saved (after base (changes_in (winners ps ls))) ps
  redo_fits base from until ls [] below falls rise lone along = survivors_fit base [] ls falls lone along
  redo_fits base from until ls (p ∷ ps) below falls rise lone along =
      let at : Below p.at ls = below_more from p.at ls rise.0 below in (
        survivors_fit base (p ∷ ps) ls falls lone.0 along.0,
        subst (λ (k : Contents). RedoFits slots saved k ps) (sym (redo_step base ls p.at p.is ps lone.0))
            (redo_fits (committed_by base ls p.is) (p.at + 1) until (listed ls p.at p.is) ps (below_listed ls p.at p.is at) (falls_listed ls p.at p.is at falls) rise.1 lone.1 along.1),
      )
