-- Which pages a tree has, and which of them are other ones.
use Rattle.std.proofs.Common.{◌<◌, ◌≤◌, ◌≡◌, ◌≢◌, ◌⊎◌, inl, inr, ⊎_elim, ℕ, suc, List, [], ◌∷◌, ◌++◌, length, refl, sym, ◌∙◌, ap, subst, arith, Some, None, Option}
use Rattle.std.proofs.lemmas.Bool.{cases_lt}
use Rattle.rss_levels.specs.Entries.{Each, Pairwise, IsIn}
use Rattle.rss_levels.specs.Rows.{Part, Row, Cells, Spell, HoldsRow, IsRow, IsStack, numbers, pages}
use Rattle.rss_levels.specs.Spots.{Keeps, IsOwn, LosesNone}
use Rattle.rss_levels.proofs.Lists.{each_append, each_left, each_right, each_weaker, each_unmap}
use Rattle.rss_levels.proofs.Held.{held_kept}

pub record IsHeld (cells : Cells) (n : ℕ) : Type 0 where
  pub bytes : List ℕ
  pub held : cells n ≡ Some bytes

-- ---- members

pub in_left : (xs ys : List ℕ) (n : ℕ) → IsIn xs n → IsIn (xs ++ ys) n
in_left [] ys n is = absurd is
in_left (x ∷ xs) ys n is = ⊎_elim (λ (here : x ≡ n). inl here) (λ (more : IsIn xs n). inr (in_left xs ys n more)) is

pub in_right : (xs ys : List ℕ) (n : ℕ) → IsIn ys n → IsIn (xs ++ ys) n
in_right [] ys n is = is
in_right (x ∷ xs) ys n is = inr (in_right xs ys n is)

pub in_append : (xs ys : List ℕ) (n : ℕ) → IsIn (xs ++ ys) n → IsIn xs n ⊎ IsIn ys n
in_append [] ys n is = inr is
in_append (x ∷ xs) ys n is = ⊎_elim
    (λ (here : x ≡ n). inl (inl here))
    (λ (more : IsIn (xs ++ ys) n). ⊎_elim (λ (left : IsIn xs n). inl (inr left)) (λ (right : IsIn ys n). inr right) (in_append xs ys n more)) is

pub not_in : (xs : List ℕ) (n : ℕ) → Each (λ m. n ≢ m) xs → IsIn xs n → ⊥
not_in [] n off is = is
not_in (x ∷ xs) n off is = ⊎_elim (λ (here : x ≡ n). off.0 (sym here)) (λ (more : IsIn xs n). not_in xs n off.1 more) is

pub each_in : (xs : List ℕ) → Each (IsIn xs) xs
each_in [] = tt
each_in (x ∷ xs) = (inl refl, each_weaker (IsIn xs) (IsIn (x ∷ xs)) xs (λ n is. inr is) (each_in xs))

pub same_or_not : (a b : ℕ) → (a ≡ b) ⊎ (a ≢ b)
same_or_not a b = ⊎_elim (λ (lt : a < b). inr (λ is. omega arith)) (λ (le : b ≤ a). ⊎_elim (λ (lt : b < a). inr (λ is. omega arith)) (λ (more : a ≤ b). inl (omega arith)) (cases_lt b a)) (cases_lt a b)

pub in_or_not : (xs : List ℕ) (n : ℕ) → IsIn xs n ⊎ (IsIn xs n → ⊥)
in_or_not [] n = inr (λ is. is)
in_or_not (x ∷ xs) n = ⊎_elim (λ (here : x ≡ n). inl (inl here)) (λ (off : x ≢ n). ⊎_elim (λ (more : IsIn xs n). inl (inr more)) (λ (none : IsIn xs n → ⊥). inr (λ is. ⊎_elim off none is)) (in_or_not xs n)) (same_or_not x n)

-- ---- what is held

held_not : (cells : Cells) (n : ℕ) → IsHeld cells n → cells n ≡ None → ⊥
held_not cells n held none = let never : Some held.bytes ≡ None = sym held.held ∙ none in cc

-- a page that is held and not one's own is none of these
pub apart : (own : List ℕ) (cells : Cells) (n m : ℕ) → IsHeld cells n → (IsIn own n → ⊥) → IsOwn own cells m → n ≢ m
apart own cells n m held off is same = ⊎_elim
    (λ (there : IsIn own m). off (subst (IsIn own) (sym same) there))
    (λ (none : cells m ≡ None). held_not cells n held (ap cells same ∙ none)) is

pub apart_each : (own : List ℕ) (cells : Cells) (n : ℕ) (ms : List ℕ) → IsHeld cells n → (IsIn own n → ⊥) → Each (IsOwn own cells) ms → Each (λ m. n ≢ m) ms
apart_each own cells n ms held off all = each_weaker (IsOwn own cells) (λ m. n ≢ m) ms (λ m is. apart own cells n m held off is) all

pub distinct_join : (own : List ℕ) (cells : Cells) (ns ms : List ℕ) → Pairwise (λ a b. a ≢ b) ns → Pairwise (λ a b. a ≢ b) ms → Each (IsHeld cells) ns → Each (λ n. IsIn own n → ⊥) ns → Each (IsOwn own cells) ms → Pairwise (λ a b. a ≢ b) (ns ++ ms)
distinct_join own cells [] ms one two held off all = two
distinct_join own cells (n ∷ ns) ms one two held off all =
    (each_append (λ m. n ≢ m) ns ms one.0 (apart_each own cells n ms held.0 off.0 all), distinct_join own cells ns ms one.1 two held.1 off.1 all)

-- a page that isn't held is none of those that are
pub fresh_before : (cells : Cells) (q : ℕ) (ns : List ℕ) → cells q ≡ None → Each (IsHeld cells) ns → Each (λ n. n ≢ q) ns
fresh_before cells q ns none all = each_weaker (IsHeld cells) (λ n. n ≢ q) ns (λ n held same. held_not cells n held (ap cells same ∙ none)) all

pub fresh_behind : (cells : Cells) (q : ℕ) (ns : List ℕ) → cells q ≡ None → Each (IsHeld cells) ns → Each (λ n. q ≢ n) ns
fresh_behind cells q ns none all = each_weaker (IsHeld cells) (λ n. q ≢ n) ns (λ n held same. held_not cells n held (ap cells (sym same) ∙ none)) all

-- a page that isn't held after a step
pub own_back : (touched : List ℕ) (old new : Cells) → Keeps touched old new → (n : ℕ) → new n ≡ None → IsOwn touched old n
own_back touched old new keeps n none = ⊎_elim
    (λ (is : IsIn touched n). inl is)
    (λ (off : IsIn touched n → ⊥). back (old n) refl off) (in_or_not touched n)
  where
    back : (c : Option (List ℕ)) → old n ≡ c → (IsIn touched n → ⊥) → IsOwn touched old n
    back None is off = inr is
    back (Some bytes) is off = let never : Some bytes ≡ None = sym (keeps.same n bytes off is) ∙ none in absurd (cc)

pub own_wider : (own more : List ℕ) (cells : Cells) (ns : List ℕ) → ((n : ℕ) → IsIn own n → IsIn more n) → Each (IsOwn own cells) ns → Each (IsOwn more cells) ns
own_wider own more cells ns wider all = each_weaker (IsOwn own cells) (IsOwn more cells) ns (λ n is. ⊎_elim (λ (there : IsIn own n). inl (wider n there)) (λ (none : cells n ≡ None). inr none) is) all

pub keeps_then : (a b c : List ℕ) (old mid new : Cells) → ((n : ℕ) → IsIn a n → IsIn c n) → ((n : ℕ) → IsIn b n → IsIn c n) → Keeps a old mid → Keeps b mid new → Keeps c old new
keeps_then a b c old mid new left right one two = record { same = λ n bytes off held. two.same n bytes (λ is. off (right n is)) (one.same n bytes (λ is. off (left n is)) held) }

-- ---- no page is lost

-- by one step and another, in two parts of what is one's own
pub loses_both : (a b c d : List ℕ) (old mid new : Cells) → LosesNone a b old mid → LosesNone c d mid new → LosesNone (c ++ a) (d ++ b) old new
loses_both a b c d old mid new one two n is = ⊎_elim
    (λ (there : IsIn (c ++ a) n). ⊎_elim (λ (left : IsIn c n). behind (two n (inl left))) (λ (right : IsIn a n). from (one n (inl right))) (in_append c a n there))
    (λ (none : old n ≡ None). from (one n (inr none))) is
  where
    behind : IsOwn d new n → IsOwn (d ++ b) new n
    behind own = ⊎_elim (λ (there : IsIn d n). inl (in_left d b n there)) (λ (none : new n ≡ None). inr none) own

    from : IsOwn b mid n → IsOwn (d ++ b) new n
    from own = ⊎_elim (λ (there : IsIn b n). inl (in_right d b n there)) (λ (none : mid n ≡ None). behind (two n (inr none))) own

-- by a step in a part of what is one's own
pub loses_between : (xs gone mid ys : List ℕ) (old new : Cells) → LosesNone gone mid old new → LosesNone (xs ++ (gone ++ ys)) (xs ++ (mid ++ ys)) old new
loses_between xs gone mid ys old new step n is = ⊎_elim
    (λ (there : IsIn (xs ++ (gone ++ ys)) n). ⊎_elim
    (λ (left : IsIn xs n). inl (in_left xs (mid ++ ys) n left))
    (λ (more : IsIn (gone ++ ys) n). ⊎_elim (λ (here : IsIn gone n). within (step n (inl here))) (λ (right : IsIn ys n). inl (in_right xs (mid ++ ys) n (in_right mid ys n right))) (in_append gone ys n more))
    (in_append xs (gone ++ ys) n there))
    (λ (none : old n ≡ None). within (step n (inr none))) is
  where
    within : IsOwn mid new n → IsOwn (xs ++ (mid ++ ys)) new n
    within own = ⊎_elim (λ (there : IsIn mid n). inl (in_right xs (mid ++ ys) n (in_left mid ys n there))) (λ (none : new n ≡ None). inr none) own

pub held_still : (touched : List ℕ) (old new : Cells) (ns : List ℕ) → Keeps touched old new → Each (λ n. IsIn touched n → ⊥) ns → Each (IsHeld old) ns → Each (IsHeld new) ns
held_still touched old new [] keeps off all = tt
held_still touched old new (n ∷ ns) keeps off all = (record { bytes = all.0.bytes; held = keeps.same n all.0.bytes off.0 all.0.held }, held_still touched old new ns keeps off.1 all.1)

module _ (spell : Spell) (width : ℕ) where
  pub row_held : (cells : Cells) (level : ℕ) (row : Row) (end : ℕ) → HoldsRow spell cells width level row end → Each (IsHeld cells) (numbers row)
  row_held cells level [] end held = tt
  row_held cells level (p ∷ row) end held = (record { bytes = held.0.bytes; held = held.0.held }, row_held cells level row end held.1)

  pub stack_held : (cells : Cells) (pairs : List (List ℕ)) (row : Row) (rows : List Row) → IsStack spell cells width pairs (row ∷ rows) → Each (IsHeld cells) (pages (row ∷ rows))
  stack_held cells pairs row [] stack = each_append (IsHeld cells) (numbers row) [] (row_held cells 0 row _ stack.0.held) tt
  stack_held cells pairs row (lower ∷ rows) stack = each_append (IsHeld cells) (numbers row) (pages (lower ∷ rows)) (row_held cells (suc (length rows)) row _ stack.0.held) (stack_held cells pairs lower rows stack.2)

  row_kept : (old new : Cells) (touched : List ℕ) (level : ℕ) (row : Row) → Keeps touched old new → Each (λ n. IsIn touched n → ⊥) (numbers row) → IsRow spell old width level row → IsRow spell new width level row
  row_kept old new touched level row keeps off is = record { held = held_kept spell width level old new touched row _ keeps (each_unmap (λ n. IsIn touched n → ⊥) (λ (p : Part). p.number) row off) is.held; few = is.few }

  -- the rows, after a step that touched none of their pages
  pub stack_kept : (old new : Cells) (touched : List ℕ) (pairs : List (List ℕ)) (row : Row) (rows : List Row) → Keeps touched old new → Each (λ n. IsIn touched n → ⊥) (pages (row ∷ rows)) → IsStack spell old width pairs (row ∷ rows) → IsStack spell new width pairs (row ∷ rows)
  stack_kept old new touched pairs row [] keeps off stack = (row_kept old new touched 0 row keeps (each_left (λ n. IsIn touched n → ⊥) (numbers row) [] off) stack.0, stack.1)
  stack_kept old new touched pairs row (lower ∷ rows) keeps off stack = (
    row_kept old new touched (suc (length rows)) row keeps (each_left (λ n. IsIn touched n → ⊥) (numbers row) (pages (lower ∷ rows)) off) stack.0,
    stack.1,
    stack_kept old new touched pairs lower rows keeps (each_right (λ n. IsIn touched n → ⊥) (numbers row) (pages (lower ∷ rows)) off) stack.2,
  )
