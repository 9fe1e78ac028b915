-- An image that gets pairs which rise, one after another.
use Rattle.std.proofs.Common.{◌≡◌, ◌≢◌, ◌<◌, ◌≤◌, ◌+◌, ⊎_elim, ℕ, zero, suc, true, false, List, [], ◌∷◌, ◌++◌, length, take, map, get_or, None, Some, sym, ◌∙◌, ap, subst, arith}
use Rattle.std.specs.Ordering.{nat_cmp, is_lt, ordering_reverse}
use Rattle.std.specs.Cmp.Lexicographic.{slice_cmp}
use Rattle.std.proofs.lemmas.List.{length-map, length-take-le, map_more}
use Rattle.std.proofs.lemmas.Cmp.{nat_list_cmp_total}
use Rattle.rss_base.specs.Steps.{PagesView}
use Rattle.rss_base.specs.declared.tid.Tid.{Tid}
use Rattle.rss_base.specs.Entries.{IsLess}
use Rattle.rss_levels.specs.Entries.{Each, IsIn, Pairwise, zeros}
use Rattle.rss_levels.specs.Spots.{IsOwn, with_pair}
use Rattle.rss_levels.proofs.Lists.{each_left, each_right, each_weaker}
use Rattle.rss_base.proofs.Entries.{less_never}
use Rattle.rss_levels.proofs.Pages.{own_back}
use Rattle.rss_node.specs.Pairs.{pair_bytes}
use Rattle.rss_node.specs.declared.pair.Nodes.{Nodes}
use Rattle.rss_image.specs.Trees.{cells_of, KeepsPages, LosesNoPage}
use Rattle.rss_image.specs.Images.{nodes_of, pages_of, pairs_most, page_bound, Becomes, MayPut, HasSpare, PutsPair, PutsMade, StartsMade}
use Rattle.rss_image.specs.declared.image.Image.{Image}
use Rattle.rss_image.proofs.Putting.{spell_one}
use Rattle.rss_model.proofs.Saving.{more_bound}
use Rattle.rss_entries.specs.Building.{pair_list, AreRising, BuildsMade}

-- ---- the next pair of a list that rises

abbrev bytes_of : List ℕ × Tid → List ℕ
bytes_of pair = pair_bytes pair.0 pair.1

-- what is above each pair of a list is put behind them
put_last : (p : List ℕ) (xs : List (List ℕ)) → Each (λ x. IsLess x p) xs → with_pair p xs ≡ xs ++ p ∷ []
put_last p [] below = λ i. p ∷ []
put_last p (x ∷ xs) below =
    let test : is_lt (slice_cmp nat_cmp p x) ≡ false = ap is_lt (nat_list_cmp_total.antisymm p x ∙ ap ordering_reverse below.0.is) in
    rw test (ap (λ (l : List (List ℕ)). x ∷ l) (put_last p xs below.1))

-- and is none of them
not_there : (p : List ℕ) (xs : List (List ℕ)) → Each (λ x. IsLess x p) xs → Each (λ x. x ≢ p) xs
not_there p xs below = each_weaker (λ x. IsLess x p) (λ x. x ≢ p) xs (λ x less same. less_never (subst (IsLess x) (sym same) less)) below

module _ {X : Type 0} (f : X → List ℕ) where
  each_at : (P : List ℕ → Type 0) (xs : List X) (i : ℕ) (d : X) → i < length xs → Each P (map f xs) → P (f (get_or xs i d))
  each_at P [] i d low all = absurd (omega (arith, low))
  each_at P (x ∷ xs) zero d low all = all.0
  each_at P (x ∷ xs) (suc i) d low all = each_at P xs i d (omega (arith, low)) all.1

  -- those before an element are below it
  below_at : (xs : List X) (i : ℕ) (d : X) → i < length xs → Pairwise IsLess (map f xs) → Each (λ p. IsLess p (f (get_or xs i d))) (map f (take i xs))
  below_at [] i d low rises = absurd (omega (arith, low))
  below_at (x ∷ xs) zero d low rises = tt
  below_at (x ∷ xs) (suc i) d low rises = (each_at (IsLess (f x)) xs i d (omega (arith, low)) rises.0, below_at xs i d (omega (arith, low)) rises.1)

pub list_long : (pairs : List (List ℕ × Tid)) (i : ℕ) → i ≤ length pairs → length (pair_list (take i pairs)) ≡ i
list_long pairs i upto = length-map (take i pairs) bytes_of ∙ length-take-le i pairs upto

-- the next pair, which is at this place
module _ (pairs : List (List ℕ × Tid)) (i : ℕ) (next : List ℕ × Tid) (low : i < length pairs) (at : next ≡ get_or pairs i next) where
  pub below_next : AreRising pairs → Each (λ p. IsLess p (bytes_of next)) (pair_list (take i pairs))
  below_next rises = subst (λ (pair : List ℕ × Tid). Each (λ p. IsLess p (bytes_of pair)) (pair_list (take i pairs))) (sym at) (below_at bytes_of pairs i next low rises)

  pub list_more : pair_list (take i pairs) ++ bytes_of next ∷ [] ≡ pair_list (take (i + 1) pairs)
  list_more = ap (λ (pair : List ℕ × Tid). pair_list (take i pairs) ++ bytes_of pair ∷ []) at ∙ sym (map_more bytes_of pairs i next low)

-- ---- one image, and then another

-- which image it was says no more than whose nodes they are
becomes_of : {one other after : Image} {old new : PagesView} {own : List ℕ} {pairs : List (List ℕ)} → nodes_of one ≡ nodes_of other → Becomes one after old new own pairs → Becomes other after old new own pairs
becomes_of {old = old} {new = new} {own = own} same becomes =
    let now = pages_of becomes.tree in
    record {
      tree = becomes.tree;
      own_pages = subst (λ (of : Nodes). Each (IsOwn own (cells_of of old.held)) now) same becomes.own_pages;
      keeps = subst (λ (of : Nodes). KeepsPages of own old new) same becomes.keeps;
      loses_none = subst (λ (of : Nodes). LosesNoPage of own now old new) same becomes.loses_none;
      spare = becomes.spare;
    }

each_is : (P : ℕ → Type 0) (ns : List ℕ) → Each P ns → (n : ℕ) → IsIn ns n → P n
each_is P [] all n is = absurd is
each_is P (m ∷ ns) all n is = ⊎_elim (λ (here : m ≡ n). subst P here all.0) (λ (more : IsIn ns n). each_is P ns all.1 n more) is

module _ (image : Image) {old between : PagesView} {own : List ℕ} {few : List (List ℕ)} (first : Becomes image image old between own few) where
  mine : (n : ℕ) → IsIn (pages_of first.tree) n → IsOwn own (cells_of (nodes_of image) old.held) n
  mine = each_is (IsOwn own (cells_of (nodes_of image) old.held)) (pages_of first.tree) first.own_pages

  keeps_both : (new : PagesView) → KeepsPages (nodes_of image) (pages_of first.tree) between new → KeepsPages (nodes_of image) own old new
  keeps_both new second = record {
    same = λ n bytes off held. second.same n bytes
        (λ is. ⊎_elim off (λ (none : cells_of (nodes_of image) old.held n ≡ None). let never : Some bytes ≡ None = sym held ∙ none in absurd (cc)) (mine n is))
        (first.keeps.same n bytes off held);
  }

  becomes_next : {after : Image} {new : PagesView} {more : List (List ℕ)} → Becomes image after between new (pages_of first.tree) more → Becomes image after old new own more
  becomes_next {new = new} second =
      let cells = cells_of (nodes_of image) old.held in
      let mid = cells_of (nodes_of image) between.held in
      record {
        tree = second.tree;
        own_pages = each_weaker (IsOwn (pages_of first.tree) mid) (IsOwn own cells) (pages_of second.tree)
            (λ n is. ⊎_elim (mine n) (λ (none : mid n ≡ None). own_back own cells mid first.keeps n none) is) second.own_pages;
        keeps = keeps_both new second.keeps;
        loses_none = λ n is. second.loses_none n (first.loses_none n is);
        spare = second.spare ∙ first.spare;
      }

-- ---- what was built

-- The image has these pairs, in pages that weren't mapped, and passes the tests that they pass.
pub record Built (image : Image) (old new : PagesView) (pairs : List (List ℕ)) : Type 0 where
  pub becomes : Becomes image image old new [] pairs
  pub made : BuildsMade image pairs new

-- a new image without pairs
pub starts_built : {image : Image} {old new : PagesView} → Becomes image image old new [] [] → StartsMade image new → Built image old new []
starts_built becomes starts = record { becomes = becomes; made = λ good zeros none. starts good zeros }

module _ {image : Image} {old between : PagesView} {pairs : List (List ℕ)} (built : Built image old between pairs) where
  pub spare_next : (width count : ℕ) → image.width ≡ width → length pairs + 1 ≤ count → page_bound width count ≤ old.spare → HasSpare image between
  spare_next width count same few room others tree =
      let one = spell_one image between.held others pairs tree built.becomes.tree in
      let bound : page_bound width (length others + 1) ≤ page_bound width count = more_bound width (length others + 1) count (omega (arith, few, ap length one.pairs_are)) in
      let here : page_bound image.width (length others + 1) ≡ page_bound width (length others + 1) = ap (λ (n : ℕ). page_bound n (length others + 1)) same in
      omega (arith, here, bound, room, built.becomes.spare, ap length one.pages_are)

  module _ (p : List ℕ) (below : Each (λ x. IsLess x p) pairs) where
    pub may_put_next : length pairs ≤ pairs_most → MayPut image between.held p
    may_put_next few = record { pairs = pairs; tree = built.becomes.tree; absent = not_there p pairs below; few = few }

    pub built_next : {after : Image} {new : PagesView} → nodes_of after ≡ nodes_of image → PutsPair p image after between new → PutsMade p image after between new → Built after old new (pairs ++ p ∷ [])
    built_next {after = after} {new = new} same puts made =
        let tree = built.becomes.tree in
        let width : image.width ≡ after.width = ap (λ (of : Nodes). of.width) (sym same) in
        let becomes : Becomes after after old new [] (with_pair p pairs) = becomes_of (sym same) (becomes_next image built.becomes (puts pairs tree (not_there p pairs below))) in
        record {
          becomes = subst (Becomes after after old new []) (put_last p pairs below) becomes;
          made = λ good fine each.
              let before = built.made good (ap (λ (n : ℕ). good (zeros n)) width ∙ fine) (each_left (λ x. good x ≡ true) pairs (p ∷ []) each) in
              made good (each_right (λ x. good x ≡ true) pairs (p ∷ []) each).0 pairs tree (before pairs tree);
        }
