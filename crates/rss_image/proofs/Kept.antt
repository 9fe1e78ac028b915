-- What the bounds and the pairs of an image passed, they pass still.
use Rattle.std.proofs.Common.{◌≡◌, ◌<◌, ◌≤◌, ◌+◌, ◌-◌, ℕ, suc, List, [], ◌∷◌, ◌++◌, length, Bool, true, refl, sym, ◌∙◌, ap, subst, arith}
use Rattle.std.proofs.Math.Bool.{Bool-set}
use Rattle.std.proofs.lemmas.List.{append-nil}
use Rattle.std.specs.Ordering.{nat_cmp, is_lt}
use Rattle.std.specs.Cmp.{nat_cmp_is}
use Rattle.std.specs.declared.cmp.Ordering.TheVariants.{Less}
use Rattle.rss_base.specs.Paged.{Held}
use Rattle.rss_base.specs.Trees.{Pair}
use Rattle.rss_base.specs.declared.tid.Tid.{Tid}
use Rattle.rss_base.specs.Steps.{PagesView}
use Rattle.rss_base.specs.Entries.{Entry, no_page}
use Rattle.rss_base.specs.Nodes.{node_most}
use Rattle.rss_levels.specs.Entries.{Each, zeros}
use Rattle.rss_levels.specs.Rows.{Part, Row, IsTree}
use Rattle.rss_levels.specs.Spots.{Inserts, IsMade, AreMade, with_pair}
use Rattle.rss_levels.specs.Removes.{Removes, without_pair}
use Rattle.rss_levels.proofs.Cutting.{tree_cut, tree_collapses}
use Rattle.rss_levels.proofs.Lists.{each_left}
use Rattle.rss_levels.proofs.Made.{made_names}
use Rattle.rss_levels.proofs.Spotted.{at_place, stored_child}
use Rattle.rss_levels.proofs.Trees.{tree_whole, tree_split}
use Rattle.rss_base.specs.Tids.{IsSpelledTid}
use Rattle.rss_node.specs.Pairs.{pair_bytes, tid_from}
use Rattle.rss_node.specs.declared.pair.Nodes.{Nodes}
use Rattle.rss_node.proofs.Agreed.{pair_said}
use Rattle.rss_image.specs.Trees.{cells_of, spells, HoldsNode}
use Rattle.rss_image.specs.Images.{nodes_of, has_page, ImageTree, AreAllMade, Rooted, StartsMade}
use Rattle.rss_image.specs.Removed.{Dropped}
use Rattle.rss_image.specs.declared.image.Image.{Image}
use Rattle.rss_image.proofs.Cut.{root_holds, still_one}
use Rattle.rss_image.proofs.Making.{empty_tree}
use Rattle.rss_image.proofs.Putting.{no_extra, same_rows, spot_of}

each_prop : {X : Type 0} (P : X → Type 0) → ((x : X) → IsProp (P x)) → (xs : List X) → IsProp (Each P xs)
each_prop P all [] a b = refl
each_prop P all (x ∷ xs) a b = λ i. (all x a.0 b.0 i, each_prop P all xs a.1 b.1 i)

-- any two proofs are equal that the bounds and the pairs of a tree pass a test
pub AreMade-prop : (good : List ℕ → Bool) {image : Image} {held : Held} {pairs : List (List ℕ)} (tree : ImageTree image held pairs) → IsProp (AreMade good ((tree.top ∷ []) ∷ tree.lower))
AreMade-prop good tree = each_prop (Each (IsMade good)) (each_prop (IsMade good) (λ p a b i. (Bool-set _ _ a.0 b.0 i, each_prop (λ (e : Entry). good e.pair ≡ true) (λ e. Bool-set _ _) p.items a.1 b.1 i))) ((tree.top ∷ []) ∷ tree.lower)

-- the rows of one tree of the pages are those of each
each_made : (image : Image) (held : Held) (good : List ℕ → Bool) (pairs : List (List ℕ)) (top : Part) (lower : List Row) → IsTree (spells (nodes_of image)) (cells_of (nodes_of image) held) image.width image.root image.levels pairs top lower → AreMade good ((top ∷ []) ∷ lower) → AreAllMade good image held
each_made image held good pairs top lower tree made others other = subst (AreMade good) (same_rows image held pairs others top other.top lower other.lower tree other.tree).rows_are made

pub one_made : (image : Image) (held : Held) (good : List ℕ → Bool) (pairs : List (List ℕ)) (tree : ImageTree image held pairs) → AreMade good ((tree.top ∷ []) ∷ tree.lower) → AreAllMade good image held
one_made image held good pairs tree made = each_made image held good pairs tree.top tree.lower tree.tree made

pub start_made : (image : Image) (view : PagesView) → HoldsNode (nodes_of image) view.held 0 image.root no_page [] → image.levels ≡ 1 → StartsMade image view
start_made image view holds one good fine = one_made image view.held good [] (empty_tree image view.held holds one) (((fine, tt), tt), tt)

module _ (image : Image) (old : PagesView) (pair : List ℕ) (pairs : List (List ℕ)) (tree : ImageTree image old.held pairs) (long : length pair ≡ image.width + 6) (many : 31 ≤ node_most image.width) (good : List ℕ → Bool) (made : AreMade good ((tree.top ∷ []) ∷ tree.lower)) where
  zeros_made : good (zeros image.width) ≡ true
  zeros_made = sym (ap good tree.tree.low) ∙ made.0.0.0

  pub whole_made : (new : PagesView) → good pair ≡ true → Inserts (spot_of image old.held pair pairs tree long) (cells_of (nodes_of image) new.held) [] → AreAllMade good image new.held
  whole_made new fine ins =
      let row : ins.head ∷ (ins.extra ++ []) ≡ ins.head ∷ [] = ap (λ (r : Row). ins.head ∷ r) (append-nil ins.extra ∙ no_extra ins.extra ins.names_are) in
      let whole = tree_whole (spells (nodes_of image)) (cells_of (nodes_of image) old.held) image.width image.root image.levels pair pairs tree.top tree.lower tree.tree long (omega arith) (cells_of (nodes_of image) new.held) ins in
      each_made image new.held good (with_pair pair pairs) ins.head ins.rest whole (subst (λ (r : Row). AreMade good (r ∷ ins.rest)) row (ins.made good fine made))

  pub split_made : (mid new : PagesView) (e : Entry) (number : ℕ) → good pair ≡ true → Inserts (spot_of image old.held pair pairs tree long) (cells_of (nodes_of image) mid.held) (e ∷ []) → Rooted (nodes_of image) image.levels image.root e number mid new → AreAllMade good (record image { root = number; levels = image.levels + 1 }) new.held
  split_made mid new e number fine ins rooted =
      let of : Nodes = nodes_of image in
      let top : Part = record { number = number; low = zeros image.width; items = record { pair = zeros image.width; child = image.root } ∷ e ∷ [] } in
      let row : Row = ins.head ∷ (ins.extra ++ []) in
      let split = tree_split (spells of) (cells_of of old.held) image.width image.root image.levels pair pairs tree.top tree.lower tree.tree long (omega arith) (cells_of of mid.held) (cells_of of new.held) e ins number rooted.held rooted.fresh rooted.keeps (omega arith) in
      let height : suc image.levels ≡ image.levels + 1 = omega arith in
      let rows_made = ins.made good fine made in
      let named = made_names good ins.extra (each_left (IsMade good) ins.extra [] rows_made.0.1) in
      let entry_made : good e.pair ≡ true = (subst (Each (λ x. good x.pair ≡ true)) ins.names_are named).0 in
      each_made (record image { root = number; levels = image.levels + 1 }) new.held good (with_pair pair pairs) top (row ∷ ins.rest)
      (subst (λ (n : ℕ). IsTree (spells of) (cells_of of new.held) image.width number n (with_pair pair pairs) top (row ∷ ins.rest)) height split)
      (((zeros_made, (zeros_made, (entry_made, tt))), tt), rows_made)

  pub cut_made : (new : PagesView) (count : ℕ) → Removes (spot_of image old.held pair pairs tree long) (cells_of (nodes_of image) new.held) count → (1 < image.levels → 2 ≤ count) → AreAllMade good image new.held
  cut_made new count rem more =
      each_made image new.held good (without_pair pair pairs) rem.head rem.rest
      (tree_cut (spells (nodes_of image)) (cells_of (nodes_of image) old.held) image.width image.root image.levels pair pairs tree.top tree.lower tree.tree long (omega arith) (cells_of (nodes_of image) new.held) count rem more)
      (rem.made good made)

  pub lower_made : (mid new : PagesView) (count child : ℕ) → Removes (spot_of image old.held pair pairs tree long) (cells_of (nodes_of image) mid.held) count → 1 < image.levels → count ≤ 1 → Dropped (nodes_of image) (image.levels - 1) image.root child mid new → AreAllMade good (record image { root = child; levels = image.levels - 1 }) new.held
  lower_made mid new count child rem high low drop =
      let one : count ≡ 1 = omega (arith, low, still_one image old pair pairs tree long many mid count rem high) in
      let col = tree_collapses (spells (nodes_of image)) (cells_of (nodes_of image) old.held) image.width image.root image.levels pair pairs tree.top tree.lower tree.tree long (omega arith) (cells_of (nodes_of image) mid.held) (cells_of (nodes_of image) new.held) count rem high one drop.keeps in
      let child_is : child ≡ col.entry.child = drop.child_is _ _ (root_holds image old pair pairs tree long many mid count rem) ∙ stored_child image.width (image.levels - 1) rem.head.items 0 ∙ ap (λ (l : List Entry). (at_place l 0).child) col.entry_is in
      each_made (record image { root = child; levels = image.levels - 1 }) new.held good (without_pair pair pairs) col.top col.lower
      (subst (λ (n : ℕ). IsTree (spells (nodes_of image)) (cells_of (nodes_of image) new.held) image.width n (image.levels - 1) (without_pair pair pairs) col.top col.lower) (sym child_is) col.tree)
      (subst (AreMade good) col.rows_are (rem.made good made).1)

-- an identifier's own bytes name its page
pub page_pair : (width slots : ℕ) (key : List ℕ) (tid : Tid) → length key ≡ width → IsSpelledTid tid → tid.page < slots → has_page width slots (pair_bytes key tid) ≡ true
page_pair width slots key tid long spelled low =
    let same : tid_from width (pair_bytes key tid) ≡ tid = ap (λ (p : Pair). p.tid) (pair_said width (record { key = key; tid = tid }) long spelled) in
    ap (λ (t : Tid). is_lt (nat_cmp t.page slots)) same ∙ ap is_lt (sym (nat_cmp_is tid.page slots Less low))
