-- A part of the changes is undone: what an abort, a way back to a save point and an end make of the tables of now.
use Rattle.std.proofs.Common.{◌≡◌, ℕ, suc, ◌<◌, List, [], ◌∷◌, length, refl, sym, ◌∙◌, ap, subst, arith}
use Rattle.std.specs.Prelude.{Bool, true, false, not, ◌==◌, filter}
use Rattle.std.specs.List.{AllByRecursion}
use Rattle.std.proofs.lemmas.Bool.{eq-eqb, ne_eqb}
use Rattle.rss_base.specs.declared.item.Item.{Item}
use Rattle.rss_model.specs.Tables.{Contents, content, put}
use Rattle.rss_model.specs.Changes.{Change, after, own}
use Rattle.rss_model.specs.Records.{Listed, changes_in, is_by, own_in, others_in, is_cut}
use Rattle.rss_model.specs.Changes.{undone}
use Rattle.rss_model.specs.Restart.{UndoFinds}
use Rattle.rss_model.specs.Changes.{Chained}
use Rattle.rss_model.specs.Restart.{OnlyBy, Lone}
use Rattle.rss_model.specs.Ties.{StandsAt, here, older, kept, gone, Undoes}
use Rattle.rss_model.proofs.Surviving.{Falls}
use Rattle.rss_model.proofs.LogLists.{by_test, by_same, false_true, filter_yes, filter_no}
use Rattle.rss_model.proofs.LogChanging.{NotAt, by_item, put_here, put_other, same_contents, after_off, after_frame, undone_off, undo_one}
use Rattle.rss_model.proofs.LogUndoing.{finds_off}
use Rattle.rss_model.proofs.LogKeeping.{Closed, closed_others, closed_cut}

gone_off : (p : Listed → Bool) (item : Item) (ls : List Listed) → AllByRecursion (λ k. k.change.item ≡ item → p k ≡ true) ls → NotAt item (gone p ls)
gone_off p item [] all = tt
gone_off p item (l ∷ ls) all =
    let rest : NotAt item (gone p ls) = gone_off p item ls all.1 in
    by_test (p l)
    (λ e. subst (λ (k : List Listed). NotAt item (changes_in k)) (sym (filter_no (λ k. not (p k)) l ls (ap not e))) rest)
    (λ e. subst (λ (k : List Listed). NotAt item (changes_in k)) (sym (filter_yes (λ k. not (p k)) l ls (ap not e))) ((λ same. false_true (all.0 same) e), rest))

-- The rest is undone, newest first, where with a change that stays every older one of its item does. Each undo finds the new content.
pub undo_part : (base : Contents) (p : Listed → Bool) (ls : List Listed) → Closed p ls → Chained base (changes_in ls) → (undone (after base (changes_in ls)) (gone p ls) ≡ after base (kept p ls)) × UndoFinds (after base (changes_in ls)) (gone p ls)
undo_part base p [] closed chained = (refl, tt)
undo_part base p (l ∷ ls) closed chained =
    let c : Change = l.change in
    let before : Contents = after base (changes_in ls) in
    let rest = undo_part base p ls closed.1 chained.1 in
    by_test (p l)
    (λ e.
    let off : NotAt c.item (gone p ls) = gone_off p c.item ls (closed.0 e) in
    let lost : filter (λ k. not (p k)) (l ∷ ls) ≡ filter (λ k. not (p k)) ls = filter_no (λ k. not (p k)) l ls (ap not e) in (
      ap (λ (k : List Listed). undone (after base (changes_in (l ∷ ls))) (changes_in k)) lost
          ∙ undone_off before c.item c.new (gone p ls) off
          ∙ ap (λ (k : Contents). put k c.item c.new) rest.0
          ∙ sym (ap (λ (k : List Listed). after base (changes_in k)) (filter_yes p l ls e)),
      subst (λ (k : List Listed). UndoFinds (after base (changes_in (l ∷ ls))) (changes_in k)) (sym lost) (finds_off before c.item c.new (gone p ls) off rest.1),
    ))
    (λ e.
    let lost : filter (λ k. not (p k)) (l ∷ ls) ≡ l ∷ filter (λ k. not (p k)) ls = filter_yes (λ k. not (p k)) l ls (ap not e) in
    let back : put (after base (changes_in (l ∷ ls))) c.item c.old ≡ before = undo_one base c (changes_in ls) chained.0 in (
      ap (λ (k : List Listed). undone (after base (changes_in (l ∷ ls))) (changes_in k)) lost
          ∙ ap (λ (k : Contents). undone k (gone p ls)) back
          ∙ rest.0
          ∙ sym (ap (λ (k : List Listed). after base (changes_in k)) (filter_no p l ls e)),
      subst (λ (k : List Listed). UndoFinds (after base (changes_in (l ∷ ls))) (changes_in k)) (sym lost)
          (put_here before c.item c.item c.new refl, subst (λ (k : Contents). UndoFinds k (gone p ls)) (sym back) rest.1),
    ))

undoes : (base : Contents) (p : Listed → Bool) (ls : List Listed) → Closed p ls → Chained base (changes_in ls) → Undoes base p ls
undoes base p ls closed chained = let both = undo_part base p ls closed chained in record { gives = both.0; finds = both.1 }

-- an abort
pub undo_own : (base : Contents) (t : ℕ) (ls : List Listed) → Lone (changes_in ls) → Chained base (changes_in ls) → Undoes base (λ l. not (is_by t l)) ls
undo_own base t ls lone chained = undoes base (λ l. not (is_by t l)) ls (closed_others t ls lone) chained

-- the way back to a save point
pub undo_cut : (base : Contents) (t first : ℕ) (ls : List Listed) → Lone (changes_in ls) → Falls ls → Chained base (changes_in ls) → Undoes base (λ l. not (is_cut t first l)) ls
undo_cut base t first ls lone falls chained = undoes base (λ l. not (is_cut t first l)) ls (closed_cut t first ls lone falls) chained

-- where t has more than n changes, one of them has n older ones
pub stands : (t n : ℕ) (ls : List Listed) → n < length (own t (changes_in ls)) → (first : ℕ) × StandsAt t n first ls
stands t n [] lt = absurd (omega arith)
stands t n (l ∷ ls) lt = by_same l.change.by t
    (λ e. by_same (length (own t (changes_in ls))) n
    (λ f. (l.at, here l ls e f refl))
    (λ f.
    let mine : (l.change.by == t) ≡ true = eq-eqb l.change.by t e in
    let more : n < suc (length (own t (changes_in ls))) = rw mine at lt in
    let rest = stands t n ls (omega (arith, more, f)) in (rest.0, older l ls rest.1)))
    (λ e.
    let other : (l.change.by == t) ≡ false = ne_eqb l.change.by t e in
    let same : n < length (own t (changes_in ls)) = rw other at lt in
    let rest = stands t n ls same in (rest.0, older l ls rest.1))

others_not : (t : ℕ) (item : Item) (ls : List Listed) → OnlyBy t item (changes_in ls) → NotAt item (changes_in (others_in t ls))
others_not t item [] only = tt
others_not t item (l ∷ ls) only = by_same l.change.by t
    (λ e. subst (λ (k : List Listed). NotAt item (changes_in k)) (sym (filter_no (λ k. not (is_by t k)) l ls (ap not (eq-eqb l.change.by t e)))) (others_not t item ls only.1))
    (λ e. subst (λ (k : List Listed). NotAt item (changes_in k)) (sym (filter_yes (λ k. not (is_by t k)) l ls (ap not (ne_eqb l.change.by t e)))) ((λ same. e (only.0 same)), others_not t item ls only.1))

-- an end changes nothing of the tables of now
end_at : (base : Contents) (t : ℕ) (ls : List Listed) → Lone (changes_in ls) → (i : Item) → content (after (after base (changes_in (own_in t ls))) (changes_in (others_in t ls))) i ≡ content (after base (changes_in ls)) i
end_at base t [] lone i = refl
end_at base t (l ∷ ls) lone i =
    let c : Change = l.change in
    let ended : Contents = after base (changes_in (own_in t ls)) in
    let others : List Change = changes_in (others_in t ls) in
    let rest : content (after ended others) i ≡ content (after base (changes_in ls)) i = end_at base t ls lone.1 i in
    by_same c.by t
    (λ e.
    let mine : own_in t (l ∷ ls) ≡ l ∷ own_in t ls = filter_yes (is_by t) l ls (eq-eqb c.by t e) in
    let theirs : others_in t (l ∷ ls) ≡ others_in t ls = filter_no (λ k. not (is_by t k)) l ls (ap not (eq-eqb c.by t e)) in
    let off : NotAt c.item others = others_not t c.item ls (subst (λ (u : ℕ). OnlyBy u c.item (changes_in ls)) e lone.0) in
    (λ j. content (after (after base (changes_in (mine j))) (changes_in (theirs j))) i)
    ∙ by_item i c.item
    (λ f. after_off (put ended c.item c.new) i others (subst (λ (j : Item). NotAt j others) (sym f) off) ∙ put_here ended c.item i c.new f ∙ sym (put_here (after base (changes_in ls)) c.item i c.new f))
    (λ f. after_frame (put ended c.item c.new) ended others i (put_other ended c.item i c.new f) ∙ rest ∙ sym (put_other (after base (changes_in ls)) c.item i c.new f)))
    (λ e.
    let mine : own_in t (l ∷ ls) ≡ own_in t ls = filter_no (is_by t) l ls (ne_eqb c.by t e) in
    let theirs : others_in t (l ∷ ls) ≡ l ∷ others_in t ls = filter_yes (λ k. not (is_by t k)) l ls (ap not (ne_eqb c.by t e)) in
    (λ j. content (after (after base (changes_in (mine j))) (changes_in (theirs j))) i)
    ∙ by_item i c.item
    (λ f. put_here (after ended others) c.item i c.new f ∙ sym (put_here (after base (changes_in ls)) c.item i c.new f))
    (λ f. put_other (after ended others) c.item i c.new f ∙ rest ∙ sym (put_other (after base (changes_in ls)) c.item i c.new f)))

pub end_now : (base : Contents) (t : ℕ) (ls : List Listed) → Lone (changes_in ls) → after (after base (changes_in (own_in t ls))) (changes_in (others_in t ls)) ≡ after base (changes_in ls)
end_now base t ls lone = same_contents _ _ (end_at base t ls lone)
