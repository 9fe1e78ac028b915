-- Records behind others, and a head that moves.
use Rattle.std.proofs.Common.{◌≡◌, ℕ, ◌<◌, ◌≤◌, List, [], ◌∷◌, ◌++◌, refl, sym, ◌∙◌, ap, subst, arith}
use Rattle.std.specs.Prelude.{Bool, true, false, not, ◌&&◌, nat_le, ◌+◌, filter}
use Rattle.std.specs.List.{AllByRecursion}
use Rattle.std.proofs.lemmas.Bool.Decides.{nat_tests}
use Rattle.rss_model.specs.Tables.{Contents}
use Rattle.rss_model.specs.Changes.{Change}
use Rattle.rss_model.specs.Records.{LogEntry, Changed, Restore, End, Abort, Checkpoint, Placed, Listed, changes_in, is_by, is_cut, listed, committed_by as committed, list_after, recovered, Rise}
use Rattle.rss_model.specs.Restart.{OnlyBy, Lone, LoneAlong}
use Rattle.rss_model.specs.Ties.{ChainedAlong}
use Rattle.rss_model.proofs.Surviving.{Falls}
use Rattle.rss_model.proofs.LogLists.{by_test, filter_yes, filter_no, filter_same, filter_filter, filter_all, filter_none, all_weaker}
use Rattle.rss_model.proofs.LogRedoing.{Below, below_more, below_listed, falls_listed, lone_now}

-- ---- records behind others

pub list_after-append : (ls : List Listed) (ps qs : List Placed) → list_after ls (ps ++ qs) ≡ list_after (list_after ls ps) qs
list_after-append ls [] qs = refl
list_after-append ls (p ∷ ps) qs = list_after-append (listed ls p.at p.is) ps qs

pub recovered-append : (base : Contents) (ls : List Listed) (ps qs : List Placed) → recovered base ls (ps ++ qs) ≡ recovered (recovered base ls ps) (list_after ls ps) qs
recovered-append base ls [] qs = refl
recovered-append base ls (p ∷ ps) qs = recovered-append (committed base ls p.is) (listed ls p.at p.is) ps qs

pub lone_append : (ls : List Listed) (ps qs : List Placed) → LoneAlong ls ps → LoneAlong (list_after ls ps) qs → LoneAlong ls (ps ++ qs)
lone_append ls [] qs front back = back
lone_append ls (p ∷ ps) qs front back = (front.0, lone_append (listed ls p.at p.is) ps qs front.1 back)

pub lone_front : (ls : List Listed) (ps qs : List Placed) → LoneAlong ls (ps ++ qs) → LoneAlong ls ps
lone_front ls [] qs all = lone_now ls qs all
lone_front ls (p ∷ ps) qs all = (all.0, lone_front (listed ls p.at p.is) ps qs all.1)

pub lone_back : (ls : List Listed) (ps qs : List Placed) → LoneAlong ls (ps ++ qs) → LoneAlong (list_after ls ps) qs
lone_back ls [] qs all = all
lone_back ls (p ∷ ps) qs all = lone_back (listed ls p.at p.is) ps qs all.1

pub chained_append : (base : Contents) (ls : List Listed) (ps qs : List Placed) → ChainedAlong base ls ps → ChainedAlong (recovered base ls ps) (list_after ls ps) qs → ChainedAlong base ls (ps ++ qs)
chained_append base ls [] qs front back = back
chained_append base ls (p ∷ ps) qs front back = (front.0, chained_append (committed base ls p.is) (listed ls p.at p.is) ps qs front.1 back)

pub chained_front : (base : Contents) (ls : List Listed) (ps qs : List Placed) → ChainedAlong base ls (ps ++ qs) → ChainedAlong base ls ps
chained_front base ls [] qs all = tt
chained_front base ls (p ∷ ps) qs all = (all.0, chained_front (committed base ls p.is) (listed ls p.at p.is) ps qs all.1)

-- the list along records with rising positions
pub below_after : (from until : ℕ) (ls : List Listed) (ps : List Placed) → Below from ls → Rise from ps until → Below until (list_after ls ps)
below_after from until ls [] below rise = below_more from until ls rise below
below_after from until ls (p ∷ ps) below rise = below_after (p.at + 1) until (listed ls p.at p.is) ps (below_listed ls p.at p.is (below_more from p.at ls rise.0 below)) rise.1

pub falls_after : (from until : ℕ) (ls : List Listed) (ps : List Placed) → Below from ls → Falls ls → Rise from ps until → Falls (list_after ls ps)
falls_after from until ls [] below falls rise = falls
falls_after from until ls (p ∷ ps) below falls rise =
    let here : Below p.at ls = below_more from p.at ls rise.0 below in
    falls_after (p.at + 1) until (listed ls p.at p.is) ps (below_listed ls p.at p.is here) (falls_listed ls p.at p.is here falls) rise.1

pub rise_le : (from until : ℕ) (ps : List Placed) → Rise from ps until → from ≤ until
rise_le from until [] rise = rise
rise_le from until (p ∷ ps) rise = omega (arith, rise.0, rise_le (p.at + 1) until ps rise.1)

pub rise_append : (from mid until : ℕ) (ps qs : List Placed) → Rise from ps mid → Rise mid qs until → Rise from (ps ++ qs) until
rise_append from mid until [] [] front back = omega arith
rise_append from mid until [] (q ∷ qs) front back = (omega (arith, front, back.0), back.1)
rise_append from mid until (p ∷ ps) qs front back = (front.0, rise_append (p.at + 1) mid until ps qs front.1 back)

pub rise_front : (from until : ℕ) (ps qs : List Placed) → Rise from (ps ++ qs) until → Rise from ps until
rise_front from until [] qs rise = rise_le from until qs rise
rise_front from until (p ∷ ps) qs rise = (rise.0, rise_front (p.at + 1) until ps qs rise.1)

-- a position between the two
pub rise_split : (from until : ℕ) (ps qs : List Placed) → Rise from (ps ++ qs) until → (mid : ℕ) × (Rise from ps mid × Rise mid qs until)
rise_split from until [] qs rise = (from, (omega arith, rise))
rise_split from until (p ∷ ps) qs rise = let rest : (mid : ℕ) × (Rise (p.at + 1) ps mid × Rise mid qs until) = rise_split (p.at + 1) until ps qs rise.1 in (rest.0, ((rise.0, rest.1.0), rest.1.1))

pub in_row : (a b c : List Placed) → (a ++ b) ++ c ≡ a ++ (b ++ c)
in_row [] b c = refl
in_row (p ∷ a) b c = ap (λ (l : List Placed). p ∷ l) (in_row a b c)

pub none_behind : (a : List Placed) → a ++ [] ≡ a
none_behind [] = refl
none_behind (p ∷ a) = ap (λ (l : List Placed). p ∷ l) (none_behind a)

-- ---- a head that moves

-- what stands from a position on
abbrev pub from_on : ℕ → List Listed → List Listed
from_on head ls = filter (λ l. nat_le head l.at) ls

and_swap : (a b : Bool) → (a && b) ≡ (b && a)
and_swap true true = refl
and_swap true false = refl
and_swap false true = refl
and_swap false false = refl

filter_swap : {X : Type 0} (p q : X → Bool) (xs : List X) → filter p (filter q xs) ≡ filter q (filter p xs)
filter_swap p q xs = filter_filter p q xs ∙ filter_same (λ x. q x && p x) (λ x. p x && q x) xs (λ x. and_swap (q x) (p x)) ∙ sym (filter_filter q p xs)

listed_from : (head : ℕ) (ls : List Listed) (at : ℕ) (r : LogEntry) → head ≤ at → listed (from_on head ls) at r ≡ from_on head (listed ls at r)
listed_from head ls at (Changed c) le = let here : nat_le head at ≡ true = grind (arith, nat_tests) in sym (filter_yes (λ l. nat_le head l.at) (record { at = at; change = c }) ls here)
listed_from head ls at (Restore t first) le = filter_swap (λ l. not (is_cut t first l)) (λ l. nat_le head l.at) ls
listed_from head ls at (End t) le = filter_swap (λ l. not (is_by t l)) (λ l. nat_le head l.at) ls
listed_from head ls at (Abort t) le = filter_swap (λ l. not (is_by t l)) (λ l. nat_le head l.at) ls
listed_from head ls at (Checkpoint named) le = refl

pub list_after_from : (head from until : ℕ) (ls : List Listed) (ps : List Placed) → head ≤ from → Rise from ps until → list_after (from_on head ls) ps ≡ from_on head (list_after ls ps)
list_after_from head from until ls [] le rise = refl
list_after_from head from until ls (p ∷ ps) le rise =
    ap (λ (k : List Listed). list_after k ps) (listed_from head ls p.at p.is (omega (arith, rise.0))) ∙ list_after_from head (p.at + 1) until (listed ls p.at p.is) ps (omega (arith, rise.0)) rise.1

only_part : (p : Listed → Bool) (c : Change) (ls : List Listed) → OnlyBy c.by c.item (changes_in ls) → OnlyBy c.by c.item (changes_in (filter p ls))
only_part p c [] only = tt
only_part p c (l ∷ ls) only = by_test (p l)
    (λ e. subst (λ (k : List Listed). OnlyBy c.by c.item (changes_in k)) (sym (filter_yes p l ls e)) (only.0, only_part p c ls only.1))
    (λ e. subst (λ (k : List Listed). OnlyBy c.by c.item (changes_in k)) (sym (filter_no p l ls e)) (only_part p c ls only.1))

pub lone_part : (p : Listed → Bool) (ls : List Listed) → Lone (changes_in ls) → Lone (changes_in (filter p ls))
lone_part p [] lone = tt
lone_part p (l ∷ ls) lone = by_test (p l)
    (λ e. subst (λ (k : List Listed). Lone (changes_in k)) (sym (filter_yes p l ls e)) (only_part p l.change ls lone.0, lone_part p ls lone.1))
    (λ e. subst (λ (k : List Listed). Lone (changes_in k)) (sym (filter_no p l ls e)) (lone_part p ls lone.1))

pub lone_from : (head from until : ℕ) (ls : List Listed) (ps : List Placed) → head ≤ from → Rise from ps until → LoneAlong ls ps → LoneAlong (from_on head ls) ps
lone_from head from until ls [] le rise lone = lone_part (λ l. nat_le head l.at) ls lone
lone_from head from until ls (p ∷ ps) le rise lone = (
  lone_part (λ l. nat_le head l.at) ls lone.0,
  subst (λ (k : List Listed). LoneAlong k ps) (sym (listed_from head ls p.at p.is (omega (arith, rise.0)))) (lone_from head (p.at + 1) until (listed ls p.at p.is) ps (omega (arith, rise.0)) rise.1 lone.1),
)

below_gone : (head : ℕ) (ls : List Listed) → Below head ls → from_on head ls ≡ []
below_gone head ls below = filter_none (λ l. nat_le head l.at) ls (all_weaker (λ l. l.at < head) (λ l. nat_le head l.at ≡ false) ls (λ l lt. grind (arith, nat_tests)) below)

-- The lists are the same from a later head on, where no change that stands in one is before it.
module _ (from head until : ℕ) (dropped kept : List Placed) (first : Rise from dropped head) (rise : Rise head kept until) (all : AllByRecursion (λ (l : Listed). head ≤ l.at) (list_after [] (dropped ++ kept))) where
  gone : from_on head (list_after [] dropped) ≡ []
  gone = below_gone head (list_after [] dropped) (below_after from head [] dropped tt first)

  pub head_list : list_after [] kept ≡ list_after [] (dropped ++ kept)
  head_list =
      ap (λ (k : List Listed). list_after k kept) (sym gone)
      ∙ list_after_from head head until (list_after [] dropped) kept (omega arith) rise
      ∙ ap (from_on head) (sym (list_after-append [] dropped kept))
      ∙ filter_all (λ l. nat_le head l.at) (list_after [] (dropped ++ kept)) (all_weaker (λ l. head ≤ l.at) (λ l. nat_le head l.at ≡ true) (list_after [] (dropped ++ kept)) (λ l le. grind (arith, nat_tests)) all)

  pub head_lone : LoneAlong [] (dropped ++ kept) → LoneAlong [] kept
  head_lone lone = subst (λ (k : List Listed). LoneAlong k kept) gone (lone_from head head until (list_after [] dropped) kept (omega arith) rise (lone_back [] dropped kept lone))
