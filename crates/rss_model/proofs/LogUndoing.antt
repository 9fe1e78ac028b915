-- What does not survive is undone.
use Rattle.std.proofs.Common.{◌≡◌, ℕ, ◌<◌, ◌≤◌, List, [], ◌∷◌, refl, sym, ◌∙◌, ap, subst, arith}
use Rattle.std.specs.Prelude.{Bool, true, false, not, ◌==◌, nat_le, Option}
use Rattle.std.specs.List.{AllByRecursion}
use Rattle.std.proofs.lemmas.Bool.Decides.{nat_tests}
use Rattle.rss_base.specs.declared.item.Item.{Item}
use Rattle.rss_model.specs.Items.{Content}
use Rattle.rss_model.specs.Tables.{Contents, put}
use Rattle.rss_model.specs.Changes.{Change, after}
use Rattle.rss_model.specs.Records.{LogEntry, Changed, Restore, End, Abort, Checkpoint, Placed, Listed, changes_in}
use Rattle.rss_model.specs.Changes.{undone}
use Rattle.rss_model.specs.Restart.{survives_by, survives, stays, losers, UndoFinds}
use Rattle.rss_model.specs.Changes.{Chained}
use Rattle.rss_model.specs.Restart.{OnlyBy, Lone}
use Rattle.rss_model.proofs.Surviving.{winners, Falls}
use Rattle.rss_model.proofs.LogLists.{by_test, false_true, filter_yes, filter_no}
use Rattle.rss_model.proofs.LogChanging.{NotAt, put_other, put_here, put_both, undone_off, undo_one}

-- ---- what survives

older_by : (t n m : ℕ) (r : LogEntry) (a b : Bool) → n ≤ m → (a ≡ true → b ≡ true) → survives_by t m r a ≡ true → survives_by t n r b ≡ true
older_by t n m (Changed c) a b le is e = is e
older_by t n m (Restore u q) a b le is e = by_test (t == u)
    (λ f. by_test (nat_le q m)
    (λ g. false_true (simp (f, g) at e) refl)
    (λ g. let h : nat_le q n ≡ false = grind (arith, nat_tests) in simp (f, h) (is (simp (f, g) at e))))
    (λ f. simp f (is (simp f at e)))
older_by t n m (End u) a b le is e = by_test (t == u) (λ f. simp f) (λ f. simp f (is (simp f at e)))
older_by t n m (Abort u) a b le is e = by_test (t == u) (λ f. false_true (simp f at e) refl) (λ f. simp f (is (simp f at e)))
older_by t n m (Checkpoint named) a b le is e = is e

-- of one transaction, what is older than a change that survives does too
pub older_survives : (t n m : ℕ) (ps : List Placed) → n ≤ m → survives t m ps ≡ true → survives t n ps ≡ true
older_survives t n m [] le e = e
older_survives t n m (p ∷ ps) le e = older_by t n m p.is (survives t m ps) (survives t n ps) le (older_survives t n m ps le) e

pub loser : (ps : List Placed) (l : Listed) (ls : List Listed) → stays ps l ≡ false → losers ps (l ∷ ls) ≡ l ∷ losers ps ls
loser ps l ls e = filter_yes (λ k. not (stays ps k)) l ls (ap not e)

pub no_loser : (ps : List Placed) (l : Listed) (ls : List Listed) → stays ps l ≡ true → losers ps (l ∷ ls) ≡ losers ps ls
no_loser ps l ls e = filter_no (λ k. not (stays ps k)) l ls (ap not e)

pub winner : (ps : List Placed) (l : Listed) (ls : List Listed) → stays ps l ≡ true → winners ps (l ∷ ls) ≡ l ∷ winners ps ls
winner ps l ls e = filter_yes (stays ps) l ls e

pub no_winner : (ps : List Placed) (l : Listed) (ls : List Listed) → stays ps l ≡ false → winners ps (l ∷ ls) ≡ winners ps ls
no_winner ps l ls e = filter_no (stays ps) l ls e

-- where t's change at this position survives, an older one of t does
pub survives_too : (ps : List Placed) (t at : ℕ) (l : Listed) → l.change.by ≡ t → l.at < at → survives t at ps ≡ true → stays ps l ≡ true
survives_too ps t at l by lt e = subst (λ (u : ℕ). survives u l.at ps ≡ true) (sym by) (older_survives t l.at at ps (omega arith) e)

-- below a change that survives no change of its item is lost
pub losers_off : (ps : List Placed) (t at : ℕ) (item : Item) (ls : List Listed) → OnlyBy t item (changes_in ls) → AllByRecursion (λ k. k.at < at) ls → survives t at ps ≡ true → NotAt item (changes_in (losers ps ls))
losers_off ps t at item [] only below e = tt
losers_off ps t at item (l ∷ ls) only below e =
    let rest : NotAt item (changes_in (losers ps ls)) = losers_off ps t at item ls only.1 below.1 e in
    by_test (stays ps l)
    (λ f. subst (λ (k : List Listed). NotAt item (changes_in k)) (sym (no_loser ps l ls f)) rest)
    (λ f. subst (λ (k : List Listed). NotAt item (changes_in k)) (sym (loser ps l ls f)) ((λ same. false_true (survives_too ps t at l (only.0 same) below.0 e) f), rest))

-- ---- undo

pub undo_losers : (base : Contents) (ps : List Placed) (ls : List Listed) → Chained base (changes_in ls) → Lone (changes_in ls) → Falls ls → undone (after base (changes_in ls)) (changes_in (losers ps ls)) ≡ after base (changes_in (winners ps ls))
undo_losers base ps [] chained lone falls = refl
undo_losers base ps (l ∷ ls) chained lone falls =
    let c : Change = l.change in
    let older : Contents = after base (changes_in ls) in
    let rest : undone older (changes_in (losers ps ls)) ≡ after base (changes_in (winners ps ls)) = undo_losers base ps ls chained.1 lone.1 falls.1 in
    by_test (stays ps l)
    (λ e. ap (λ (k : List Listed). undone (after base (changes_in (l ∷ ls))) (changes_in k)) (no_loser ps l ls e)
    ∙ undone_off older c.item c.new (changes_in (losers ps ls)) (losers_off ps c.by l.at c.item ls lone.0 falls.0 e)
    ∙ ap (λ (k : Contents). put k c.item c.new) rest
    ∙ sym (ap (λ (k : List Listed). after base (changes_in k)) (winner ps l ls e)))
    (λ e. ap (λ (k : List Listed). undone (after base (changes_in (l ∷ ls))) (changes_in k)) (loser ps l ls e)
    ∙ ap (λ (k : Contents). undone k (changes_in (losers ps ls))) (undo_one base c (changes_in ls) chained.0)
    ∙ rest
    ∙ sym (ap (λ (k : List Listed). after base (changes_in k)) (no_winner ps l ls e)))

-- ---- each undo finds the new content

pub finds_off : (contents : Contents) (item : Item) (x : Option Content) (cs : List Change) → NotAt item cs → UndoFinds contents cs → UndoFinds (put contents item x) cs
finds_off contents item x [] off finds = tt
finds_off contents item x (c ∷ cs) off finds = (
  put_other contents item c.item x off.0 ∙ finds.0,
  subst (λ (k : Contents). UndoFinds k cs) (sym (put_both contents item c.item x c.old (λ e. off.0 (sym e)))) (finds_off (put contents c.item c.old) item x cs off.1 finds.1),
)

pub undo_finds : (base : Contents) (ps : List Placed) (ls : List Listed) → Chained base (changes_in ls) → Lone (changes_in ls) → Falls ls → UndoFinds (after base (changes_in ls)) (changes_in (losers ps ls))
undo_finds base ps [] chained lone falls = tt
undo_finds base ps (l ∷ ls) chained lone falls =
    let c : Change = l.change in
    let older : Contents = after base (changes_in ls) in
    let rest : UndoFinds older (changes_in (losers ps ls)) = undo_finds base ps ls chained.1 lone.1 falls.1 in
    by_test (stays ps l)
    (λ e. subst (λ (k : List Listed). UndoFinds (after base (changes_in (l ∷ ls))) (changes_in k)) (sym (no_loser ps l ls e))
    (finds_off older c.item c.new (changes_in (losers ps ls)) (losers_off ps c.by l.at c.item ls lone.0 falls.0 e) rest))
    (λ e. subst (λ (k : List Listed). UndoFinds (after base (changes_in (l ∷ ls))) (changes_in k)) (sym (loser ps l ls e))
    (put_here older c.item c.item c.new refl, subst (λ (k : Contents). UndoFinds k (changes_in (losers ps ls))) (sym (undo_one base c (changes_in ls) chained.0)) rest))
