-- What survives is done again.
use Rattle.std.proofs.Common.{◌≡◌, ℕ, ◌<◌, ◌≤◌, List, [], ◌∷◌, refl, sym, ◌∙◌, ap, subst, arith}
use Rattle.std.specs.Prelude.{Bool, true, false, not, ◌+◌, filter}
use Rattle.std.specs.List.{AllByRecursion}
use Rattle.std.proofs.lemmas.Bool.{eq-eqb, ne_eqb}
use Rattle.rss_base.specs.declared.item.Item.{Item}
use Rattle.rss_model.specs.Tables.{Contents, content, put}
use Rattle.rss_model.specs.Changes.{Change, after}
use Rattle.rss_model.specs.Records.{LogEntry, Changed, Restore, End, Abort, Checkpoint, Placed, Listed, changes_in, is_by, own_in, others_in, is_cut, listed, committed_by as committed, recovered, Rise}
use Rattle.rss_model.specs.Restart.{survives, stays, redo, redone, restarted, FindsOld, RedoFinds}
use Rattle.rss_model.specs.Changes.{Chained}
use Rattle.rss_model.specs.Restart.{OnlyBy, Lone, LoneAlong}
use Rattle.rss_model.specs.Ties.{TellsOld, ChainedAlong}
use Rattle.rss_model.proofs.Surviving.{winners, Falls}
use Rattle.rss_model.proofs.LogLists.{by_test, by_same, filter_yes, filter_no, filter_filter, all_filter, all_weaker}
use Rattle.rss_model.proofs.LogChanging.{NotAt, by_item, put_here, put_other, same_contents, after_off, after_frame}
use Rattle.rss_model.proofs.LogUndoing.{winner, no_winner, survives_too, undo_losers}

-- ---- what survives past a record

pub winners_none : (ls : List Listed) → winners [] ls ≡ []
winners_none [] = refl
winners_none (l ∷ ls) = winners_none ls

pub all_changes : (P : Change → Type 0) (ls : List Listed) → AllByRecursion (λ l. P l.change) ls → AllByRecursion P (changes_in ls)
all_changes P [] all = tt
all_changes P (l ∷ ls) all = (all.0, all_changes P ls all.1)

pub all_listed : (P : Change → Type 0) (ls : List Listed) → AllByRecursion P (changes_in ls) → AllByRecursion (λ l. P l.change) ls
all_listed P [] all = tt
all_listed P (l ∷ ls) all = (all.0, all_listed P ls all.1)

-- a transaction's item is none of the others'
pub others_off : (t : ℕ) (item : Item) (ps : List Placed) (ls : List Listed) → OnlyBy t item (changes_in ls) → NotAt item (changes_in (winners ps (others_in t ls)))
others_off t item ps ls only =
    let off : AllByRecursion (λ l. l.change.item ≡ item → ⊥) (others_in t ls) =
    all_filter (λ l. l.change.item ≡ item → l.change.by ≡ t) (λ l. l.change.item ≡ item → ⊥) (λ l. not (is_by t l)) ls (λ l other is same. clash (sym other ∙ ap not (eq-eqb l.change.by t (is same)))) (all_listed (λ c. c.item ≡ item → c.by ≡ t) ls only) in
    all_changes (λ c. c.item ≡ item → ⊥) (winners ps (others_in t ls)) (all_filter (λ l. l.change.item ≡ item → ⊥) (λ l. l.change.item ≡ item → ⊥) (stays ps) (others_in t ls) (λ l e o. o) off)
  where
    clash : true ≡ false → ⊥
    clash e = cc (e)

-- what survives past an End is what ended, and what survives of the others
winners_ended : (base : Contents) (at t : ℕ) (ps : List Placed) (ls : List Listed) → Lone (changes_in ls) → (i : Item)
    → content (after base (changes_in (winners (record { at = at; is = End t } ∷ ps) ls))) i ≡ content (after (after base (changes_in (own_in t ls))) (changes_in (winners ps (others_in t ls)))) i
winners_ended base at t ps [] lone i = refl
winners_ended base at t ps (l ∷ ls) lone i =
    let all : List Placed = record { at = at; is = End t } ∷ ps in
    let c : Change = l.change in
    let ended : Contents = after base (changes_in (own_in t ls)) in
    let rest : content (after base (changes_in (winners all ls))) i ≡ content (after ended (changes_in (winners ps (others_in t ls)))) i = winners_ended base at t ps ls lone.1 i in
    by_same c.by t
    (λ e. let here : is_by t l ≡ true = eq-eqb c.by t e in
    let left : winners all (l ∷ ls) ≡ l ∷ winners all ls = winner all l ls (rw here) in
    let mine : own_in t (l ∷ ls) ≡ l ∷ own_in t ls = filter_yes (is_by t) l ls here in
    let rest_of : others_in t (l ∷ ls) ≡ others_in t ls = filter_no (λ k. not (is_by t k)) l ls (ap not here) in
    ap (λ (k : List Listed). content (after base (changes_in k)) i) left
    ∙ by_item i c.item
    (λ f. put_here (after base (changes_in (winners all ls))) c.item i c.new f
    ∙ sym (after_off (put ended c.item c.new) i (changes_in (winners ps (others_in t ls))) (subst (λ (j : Item). NotAt j (changes_in (winners ps (others_in t ls)))) (sym f) (subst (λ (u : ℕ). NotAt c.item (changes_in (winners ps (others_in u ls)))) e (others_off c.by c.item ps ls lone.0))) ∙ put_here ended c.item i c.new f))
    (λ f. put_other (after base (changes_in (winners all ls))) c.item i c.new f ∙ rest ∙ after_frame ended (put ended c.item c.new) (changes_in (winners ps (others_in t ls))) i (sym (put_other ended c.item i c.new f)))
    ∙ sym (ap (λ (k : List Listed). content (after (after base (changes_in (own_in t (l ∷ ls)))) (changes_in (winners ps k))) i) rest_of ∙ ap (λ (k : List Listed). content (after (after base (changes_in k)) (changes_in (winners ps (others_in t ls)))) i) mine))
    (λ e. let there : is_by t l ≡ false = ne_eqb c.by t e in
    let mine : own_in t (l ∷ ls) ≡ own_in t ls = filter_no (is_by t) l ls there in
    let rest_of : others_in t (l ∷ ls) ≡ l ∷ others_in t ls = filter_yes (λ k. not (is_by t k)) l ls (ap not there) in
    let right : content (after (after base (changes_in (own_in t (l ∷ ls)))) (changes_in (winners ps (others_in t (l ∷ ls))))) i ≡ content (after ended (changes_in (winners ps (l ∷ others_in t ls)))) i =
    ap (λ (k : List Listed). content (after (after base (changes_in (own_in t (l ∷ ls)))) (changes_in (winners ps k))) i) rest_of ∙ ap (λ (k : List Listed). content (after (after base (changes_in k)) (changes_in (winners ps (l ∷ others_in t ls)))) i) mine in
    let same : stays all l ≡ stays ps l = rw there in
    by_test (stays ps l)
    (λ f. ap (λ (k : List Listed). content (after base (changes_in k)) i) (winner all l ls (same ∙ f))
    ∙ by_item i c.item
    (λ g. put_here (after base (changes_in (winners all ls))) c.item i c.new g ∙ sym (put_here (after ended (changes_in (winners ps (others_in t ls)))) c.item i c.new g))
    (λ g. put_other (after base (changes_in (winners all ls))) c.item i c.new g ∙ rest ∙ sym (put_other (after ended (changes_in (winners ps (others_in t ls)))) c.item i c.new g))
    ∙ sym (right ∙ ap (λ (k : List Listed). content (after ended (changes_in k)) i) (winner ps l (others_in t ls) f)))
    (λ f. ap (λ (k : List Listed). content (after base (changes_in k)) i) (no_winner all l ls (same ∙ f))
    ∙ rest
    ∙ sym (right ∙ ap (λ (k : List Listed). content (after ended (changes_in k)) i) (no_winner ps l (others_in t ls) f))))

-- ---- redo

pub redo_step : (base : Contents) (ls : List Listed) (at : ℕ) (r : LogEntry) (ps : List Placed) → Lone (changes_in ls)
    → redo (after base (changes_in (winners (record { at = at; is = r } ∷ ps) ls))) at r ps ≡ after (committed base ls r) (changes_in (winners ps (listed ls at r)))
redo_step base ls at (Changed c) ps lone = by_test (survives c.by at ps)
    (λ e. rw e)
    (λ e. rw e)
redo_step base ls at (Restore t first) ps lone = ap (λ (k : List Listed). after base (changes_in k)) (sym (filter_filter (stays ps) (λ l. not (is_cut t first l)) ls))
redo_step base ls at (End t) ps lone = same_contents _ _ (winners_ended base at t ps ls lone)
redo_step base ls at (Abort t) ps lone = ap (λ (k : List Listed). after base (changes_in k)) (sym (filter_filter (stays ps) (λ l. not (is_by t l)) ls))
redo_step base ls at (Checkpoint named) ps lone = refl

pub lone_now : (ls : List Listed) (ps : List Placed) → LoneAlong ls ps → Lone (changes_in ls)
lone_now ls [] lone = lone
lone_now ls (p ∷ ps) lone = lone.0

pub redo_law : (base : Contents) (ls : List Listed) (ps : List Placed) → LoneAlong ls ps → redone (after base (changes_in (winners ps ls))) ps ≡ recovered base ls ps
redo_law base ls [] lone = ap (λ (k : List Listed). after base (changes_in k)) (winners_none ls)
redo_law base ls (p ∷ ps) lone = ap (λ (k : Contents). redone k ps) (redo_step base ls p.at p.is ps lone.0) ∙ redo_law (committed base ls p.is) (listed ls p.at p.is) ps lone.1

-- undoing what is lost and redoing what survives gives the committed tables
pub restart_law : (base : Contents) (ls : List Listed) (ps : List Placed) → Chained base (changes_in ls) → Falls ls → LoneAlong ls ps → restarted (after base (changes_in ls)) ls ps ≡ recovered base ls ps
restart_law base ls ps chained falls lone = ap (λ (k : Contents). redone k ps) (undo_losers base ps ls chained (lone_now ls ps lone) falls) ∙ redo_law base ls ps lone

-- ---- positions

abbrev pub Below : ℕ → List Listed → Type 0
Below at ls = AllByRecursion (λ l. l.at < at) ls

pub below_more : (a b : ℕ) (ls : List Listed) → a ≤ b → Below a ls → Below b ls
below_more a b ls le below = all_weaker (λ l. l.at < a) (λ l. l.at < b) ls (λ l lt. omega arith) below

pub below_part : (at : ℕ) (p : Listed → Bool) (ls : List Listed) → Below at ls → Below at (filter p ls)
below_part at p ls below = all_filter (λ l. l.at < at) (λ l. l.at < at) p ls (λ l e lt. lt) below

pub falls_part : (p : Listed → Bool) (ls : List Listed) → Falls ls → Falls (filter p ls)
falls_part p [] falls = tt
falls_part p (l ∷ ls) falls = by_test (p l)
    (λ e. subst Falls (sym (filter_yes p l ls e)) (below_part l.at p ls falls.0, falls_part p ls falls.1))
    (λ e. subst Falls (sym (filter_no p l ls e)) (falls_part p ls falls.1))

pub below_listed : (ls : List Listed) (at : ℕ) (r : LogEntry) → Below at ls → Below (at + 1) (listed ls at r)
below_listed ls at (Changed c) below = (omega arith, below_more at (at + 1) ls (omega arith) below)
below_listed ls at (Restore t first) below = below_part (at + 1) (λ l. not (is_cut t first l)) ls (below_more at (at + 1) ls (omega arith) below)
below_listed ls at (End t) below = below_part (at + 1) (λ l. not (is_by t l)) ls (below_more at (at + 1) ls (omega arith) below)
below_listed ls at (Abort t) below = below_part (at + 1) (λ l. not (is_by t l)) ls (below_more at (at + 1) ls (omega arith) below)
below_listed ls at (Checkpoint named) below = below_more at (at + 1) ls (omega arith) below

pub falls_listed : (ls : List Listed) (at : ℕ) (r : LogEntry) → Below at ls → Falls ls → Falls (listed ls at r)
falls_listed ls at (Changed c) below falls = (below, falls)
falls_listed ls at (Restore t first) below falls = falls_part (λ l. not (is_cut t first l)) ls falls
falls_listed ls at (End t) below falls = falls_part (λ l. not (is_by t l)) ls falls
falls_listed ls at (Abort t) below falls = falls_part (λ l. not (is_by t l)) ls falls
falls_listed ls at (Checkpoint named) below falls = falls

-- ---- each redo finds the old content

-- where t's change at a position survives, what survives has t's item as all changes have it
winners_at : (base : Contents) (ps : List Placed) (t at : ℕ) (item : Item) (ls : List Listed) → OnlyBy t item (changes_in ls) → Below at ls → survives t at ps ≡ true → content (after base (changes_in (winners ps ls))) item ≡ content (after base (changes_in ls)) item
winners_at base ps t at item [] only below e = refl
winners_at base ps t at item (l ∷ ls) only below e =
    let c : Change = l.change in
    let rest : content (after base (changes_in (winners ps ls))) item ≡ content (after base (changes_in ls)) item = winners_at base ps t at item ls only.1 below.1 e in
    by_item item c.item
    (λ f. ap (λ (k : List Listed). content (after base (changes_in k)) item) (winner ps l ls (survives_too ps t at l (only.0 (sym f)) below.0 e))
    ∙ put_here (after base (changes_in (winners ps ls))) c.item item c.new f ∙ sym (put_here (after base (changes_in ls)) c.item item c.new f))
    (λ f. by_test (stays ps l)
    (λ g. ap (λ (k : List Listed). content (after base (changes_in k)) item) (winner ps l ls g) ∙ put_other (after base (changes_in (winners ps ls))) c.item item c.new f ∙ rest ∙ sym (put_other (after base (changes_in ls)) c.item item c.new f))
    (λ g. ap (λ (k : List Listed). content (after base (changes_in k)) item) (no_winner ps l ls g) ∙ rest ∙ sym (put_other (after base (changes_in ls)) c.item item c.new f)))

finds_step : (base : Contents) (ls : List Listed) (at : ℕ) (r : LogEntry) (ps : List Placed) → Below at ls → Lone (changes_in (listed ls at r)) → TellsOld base ls r → FindsOld (after base (changes_in (winners (record { at = at; is = r } ∷ ps) ls))) at r ps
finds_step base ls at (Changed c) ps below lone tells = λ e. winners_at base ps c.by at c.item ls lone.0 below e ∙ sym tells
finds_step base ls at (Restore t first) ps below lone tells = tt
finds_step base ls at (End t) ps below lone tells = tt
finds_step base ls at (Abort t) ps below lone tells = tt
finds_step base ls at (Checkpoint named) ps below lone tells = tt

pub redo_finds : (base : Contents) (from until : ℕ) (ls : List Listed) (ps : List Placed) → Below from ls → Rise from ps until → LoneAlong ls ps → ChainedAlong base ls ps → RedoFinds (after base (changes_in (winners ps ls))) ps
redo_finds base from until ls [] below rise lone chained = tt
redo_finds base from until ls (p ∷ ps) below rise lone chained =
    let here : Below p.at ls = below_more from p.at ls rise.0 below in (
      finds_step base ls p.at p.is ps here (lone_now (listed ls p.at p.is) ps lone.1) chained.0,
      subst (λ (k : Contents). RedoFinds k ps) (sym (redo_step base ls p.at p.is ps lone.0)) (redo_finds (committed base ls p.is) (p.at + 1) until (listed ls p.at p.is) ps (below_listed ls p.at p.is here) rise.1 lone.1 chained.1),
    )
