-- The halves of a node into which an entry was put.
use Rattle.std.proofs.Common.{◌≡◌, ℕ, suc, zero, ◌+◌, ◌-◌, ◌/◌, ◌<◌, ◌≤◌, List, [], ◌∷◌, ◌++◌, length, take, drop, refl, sym, ◌∙◌, ap, arith, add-zero}
use Rattle.std.proofs.lemmas.List.{append-nil, take_all, drop_all, length-drop}
use Rattle.std.proofs.Math.Nat.{le-div_iff_mul-le}
use Rattle.std.proofs.Common.{◌*◌}
use Rattle.rss_base.specs.Entries.{Entry, no_page}
use Rattle.rss_base.specs.Nodes.{node_most, node_least}
use Rattle.rss_levels.specs.Entries.{zeros}
use Rattle.rss_levels.specs.Rows.{stored, blanked, Begins}
use Rattle.rss_node.specs.Nodes.{spliced, entry_at}
use Rattle.rss_image.specs.Grown.{put_at, left_next, right_next}

pub spliced_put : (es : List Entry) (at : ℕ) (e : Entry) → spliced es at 0 (e ∷ []) ≡ put_at es at e
spliced_put es at e = ap (λ (n : ℕ). take at es ++ (e ∷ drop n es)) (add-zero at)

pub spliced_cut : (es : List Entry) (at removed : ℕ) → length es ≤ at + removed → spliced es at removed [] ≡ take at es
spliced_cut es at removed all = ap (λ (l : List Entry). take at es ++ l) (drop_all (at + removed) es all) ∙ append-nil (take at es)

pub spliced_all : (es : List Entry) → spliced [] 0 0 es ≡ es
spliced_all es = append-nil es

pub take_low : (es : List Entry) (at half : ℕ) (e : Entry) → at ≤ half → half ≤ length es → take (suc half) (put_at es at e) ≡ put_at (take half es) at e
take_low es zero half e low long = refl
take_low [] (suc at) half e low long = absurd (omega arith)
take_low (x ∷ es) (suc at) zero e low long = absurd (omega arith)
take_low (x ∷ es) (suc at) (suc half) e low long = ap (λ (l : List Entry). x ∷ l) (take_low es at half e (omega arith) (omega arith))

pub drop_low : (es : List Entry) (at half : ℕ) (e : Entry) → at ≤ half → at ≤ length es → drop (suc half) (put_at es at e) ≡ drop half es
drop_low es zero half e low long = refl
drop_low [] (suc at) half e low long = absurd (omega arith)
drop_low (x ∷ es) (suc at) zero e low long = absurd (omega arith)
drop_low (x ∷ es) (suc at) (suc half) e low long = drop_low es at half e (omega arith) (omega arith)

pub take_high : (es : List Entry) (at half : ℕ) (e : Entry) → half < at → at ≤ length es → take (suc half) (put_at es at e) ≡ take (suc half) es
take_high es zero half e high long = absurd (omega arith)
take_high [] (suc at) half e high long = absurd (omega arith)
take_high (x ∷ es) (suc at) zero e high long = refl
take_high (x ∷ es) (suc at) (suc half) e high long = ap (λ (l : List Entry). x ∷ l) (take_high es at half e (omega arith) (omega arith))

pub drop_high : (es : List Entry) (at half : ℕ) (e : Entry) → half < at → at ≤ length es → drop (suc half) (put_at es at e) ≡ put_at (drop (suc half) es) (at - suc half) e
drop_high es zero half e high long = absurd (omega arith)
drop_high [] (suc at) half e high long = absurd (omega arith)
drop_high (x ∷ es) (suc at) zero e high long = let same : at ≡ suc at - suc zero = omega arith in ap (λ (n : ℕ). put_at es n e) same
drop_high (x ∷ es) (suc at) (suc half) e high long = let same : at - suc half ≡ suc at - suc (suc half) = omega arith in drop_high es at half e (omega arith) (omega arith) ∙ ap (λ (n : ℕ). put_at (drop (suc half) es) n e) same

pub long_put : (es : List Entry) (at : ℕ) (e : Entry) → at ≤ length es → length (put_at es at e) ≡ suc (length es)
long_put es zero e low = refl
long_put [] (suc at) e low = absurd (omega arith)
long_put (x ∷ es) (suc at) e low = ap (λ (n : ℕ). suc n) (long_put es at e (omega arith))

pub stored_leaf : (width level : ℕ) (es : List Entry) → level ≡ 0 → stored width level es ≡ es
stored_leaf width zero es is = refl
stored_leaf width (suc level) es is = absurd (omega arith)

pub stored_inner : (width level : ℕ) (es : List Entry) → 0 < level → stored width level es ≡ blanked width es
stored_inner width zero es is = absurd (omega arith)
stored_inner width (suc level) es is = refl

pub spliced_blank : (width : ℕ) (es : List Entry) → 0 < length es → spliced es 0 1 (record { pair = zeros width; child = (entry_at es 0).child } ∷ []) ≡ blanked width es
spliced_blank width [] some = absurd (omega arith)
spliced_blank width (e ∷ es) some = refl

-- ---- the halves, as they are made

module _ (es : List Entry) (at count width : ℕ) (e : Entry) (long : count ≡ length es) (full : length es ≡ node_most width) (low : at ≤ length es) where
  half_is : suc (count / 2) ≡ node_least width + 1
  half_is = omega (arith, long, full)

  pub left_low : at ≤ count / 2 → spliced (spliced es (count / 2) (count - count / 2) []) at 0 (e ∷ []) ≡ take (node_least width + 1) (put_at es at e)
  left_low first =
      ap (λ (l : List Entry). spliced l at 0 (e ∷ [])) (spliced_cut es (count / 2) (count - count / 2) (omega arith))
      ∙ spliced_put (take (count / 2) es) at e
      ∙ sym (take_low es at (count / 2) e first (omega arith))
      ∙ ap (λ (n : ℕ). take n (put_at es at e)) half_is

  pub right_low : (none : List Entry) → none ≡ [] → at ≤ count / 2 → spliced none 0 0 (take (count - count / 2) (drop (count / 2) es)) ≡ drop (node_least width + 1) (put_at es at e)
  right_low none empty first =
      ap (λ (l : List Entry). spliced l 0 0 (take (count - count / 2) (drop (count / 2) es))) empty
      ∙ spliced_all (take (count - count / 2) (drop (count / 2) es))
      ∙ take_all (count - count / 2) (drop (count / 2) es) (omega (arith, length-drop (count / 2) es))
      ∙ sym (drop_low es at (count / 2) e first low)
      ∙ ap (λ (n : ℕ). drop n (put_at es at e)) half_is

  pub left_high : count / 2 < at → spliced es (count / 2 + 1) (count - count / 2 - 1) [] ≡ take (node_least width + 1) (put_at es at e)
  left_high last =
      let one : count / 2 + 1 ≡ suc (count / 2) = omega arith in
      spliced_cut es (count / 2 + 1) (count - count / 2 - 1) (omega arith)
      ∙ ap (λ (n : ℕ). take n es) one
      ∙ sym (take_high es at (count / 2) e last low)
      ∙ ap (λ (n : ℕ). take n (put_at es at e)) half_is

  pub right_high : (none : List Entry) → none ≡ [] → count / 2 < at → spliced (spliced none 0 0 (take (count - count / 2 - 1) (drop (count / 2 + 1) es))) (at - count / 2 - 1) 0 (e ∷ []) ≡ drop (node_least width + 1) (put_at es at e)
  right_high none empty last =
      let one : count / 2 + 1 ≡ suc (count / 2) = omega arith in
      let place : at - count / 2 - 1 ≡ at - suc (count / 2) = omega arith in
      let behind : List Entry = drop (count / 2 + 1) es in
      ap (λ (l : List Entry). spliced (spliced l 0 0 (take (count - count / 2 - 1) behind)) (at - count / 2 - 1) 0 (e ∷ [])) empty
      ∙ ap (λ (l : List Entry). spliced l (at - count / 2 - 1) 0 (e ∷ [])) (spliced_all (take (count - count / 2 - 1) behind) ∙ take_all (count - count / 2 - 1) behind (omega (arith, length-drop (count / 2 + 1) es)))
      ∙ spliced_put behind (at - count / 2 - 1) e
      ∙ (λ i. put_at (drop (one i) es) (place i) e)
      ∙ sym (drop_high es at (count / 2) e last low)
      ∙ ap (λ (n : ℕ). drop n (put_at es at e)) half_is

-- ---- next leaves

pub next_leaf : (level next other : ℕ) → level ≡ 0 → other ≡ left_next level next other
next_leaf zero next other is = refl
next_leaf (suc level) next other is = absurd (omega arith)

pub next_inner : (level next other : ℕ) → 0 < level → next ≡ left_next level next other
next_inner zero next other is = absurd (omega arith)
next_inner (suc level) next other is = refl

pub last_leaf : (level next : ℕ) → level ≡ 0 → next ≡ right_next level next
last_leaf zero next is = refl
last_leaf (suc level) next is = absurd (omega arith)

pub last_inner : (level next : ℕ) → 0 < level → no_page ≡ right_next level next
last_inner zero next is = absurd (omega arith)
last_inner (suc level) next is = refl

pub begins_entry : (low : List ℕ) (es : List Entry) → 0 < length es → low ≡ (entry_at es 0).pair → Begins low es
begins_entry low [] some is = absurd (omega arith)
begins_entry low (e ∷ es) some is = sym is

-- many entries have room in a node
pub many : (width : ℕ) → width ≤ 120 → 31 ≤ node_most width
many width narrow = let fits : 31 * (width + 10) ≤ 4064 = omega arith in (le-div_iff_mul-le {k = width + 10} {x = 31} {y = 4064} (omega arith)).1 fits
