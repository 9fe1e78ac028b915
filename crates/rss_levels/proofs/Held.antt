-- What the pages of a row hold.
use Rattle.std.proofs.Common.{◌≡◌, ℕ, suc, zero, List, [], ◌∷◌, ◌++◌, refl, sym, subst}
use Rattle.rss_levels.specs.Entries.{Each, IsIn}
use Rattle.rss_levels.specs.Rows.{Row, Cells, Spell, HoldsAt, HoldsRow, first, link, stored}
use Rattle.rss_levels.specs.Spots.{Keeps}

pub link_append : (level : ℕ) (xs ys : Row) (end : ℕ) → link level (xs ++ ys) end ≡ link level xs (first ys end)
link_append zero [] ys end = refl
link_append zero (x ∷ xs) ys end = refl
link_append (suc level) xs ys end = refl

pub first_append : (xs ys : Row) (end : ℕ) → first (xs ++ ys) end ≡ first xs (first ys end)
first_append [] ys end = refl
first_append (x ∷ xs) ys end = refl

module _ (spell : Spell) (width level : ℕ) where
  -- the pages of a row in two parts
  pub held_append : (cells : Cells) (xs ys : Row) (end : ℕ) → HoldsRow spell cells width level xs (first ys end) → HoldsRow spell cells width level ys end → HoldsRow spell cells width level (xs ++ ys) end
  held_append cells [] ys end one two = two
  held_append cells (x ∷ xs) ys end one two =
      (subst (λ (n : ℕ). HoldsAt spell cells level x.number n (stored width level x.items)) (sym (link_append level xs ys end)) one.0, held_append cells xs ys end one.1 two)

  pub held_left : (cells : Cells) (xs ys : Row) (end : ℕ) → HoldsRow spell cells width level (xs ++ ys) end → HoldsRow spell cells width level xs (first ys end)
  held_left cells [] ys end all = tt
  held_left cells (x ∷ xs) ys end all =
      (subst (λ (n : ℕ). HoldsAt spell cells level x.number n (stored width level x.items)) (link_append level xs ys end) all.0, held_left cells xs ys end all.1)

  pub held_right : (cells : Cells) (xs ys : Row) (end : ℕ) → HoldsRow spell cells width level (xs ++ ys) end → HoldsRow spell cells width level ys end
  held_right cells [] ys end all = all
  held_right cells (x ∷ xs) ys end all = held_right cells xs ys end all.1

  pub held_kept : (old new : Cells) (touched : List ℕ) (row : Row) (end : ℕ) → Keeps touched old new → Each (λ p. IsIn touched p.number → ⊥) row → HoldsRow spell old width level row end → HoldsRow spell new width level row end
  held_kept old new touched [] end keeps off held = tt
  held_kept old new touched (p ∷ row) end keeps off held = (record { bytes = held.0.bytes; held = keeps.same p.number held.0.bytes off.0 held.0.held; spells = held.0.spells }, held_kept old new touched row end keeps off.1 held.1)

  -- some nodes in place of others
  pub held_replaced : (old new : Cells) (touched : List ℕ) (before gone mid after : Row) (end : ℕ) → Keeps touched old new → Each (λ p. IsIn touched p.number → ⊥) before → Each (λ p. IsIn touched p.number → ⊥) after
      → first (gone ++ after) end ≡ first (mid ++ after) end → HoldsRow spell old width level (before ++ (gone ++ after)) end → HoldsRow spell new width level mid (first after end) → HoldsRow spell new width level (before ++ (mid ++ after)) end
  held_replaced old new touched before gone mid after end keeps left right same held there =
      let front : HoldsRow spell old width level before (first (mid ++ after) end) = subst (λ (n : ℕ). HoldsRow spell old width level before n) same (held_left old before (gone ++ after) end held) in
      let back : HoldsRow spell old width level after end = held_right old gone after end (held_right old before (gone ++ after) end held) in
      held_append new before (mid ++ after) end (held_kept old new touched before (first (mid ++ after) end) keeps left front)
      (held_append new mid after end there (held_kept old new touched after end keeps right back))
