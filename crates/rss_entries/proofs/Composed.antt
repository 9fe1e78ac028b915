-- An image that shrinks and then becomes another becomes that.
use Rattle.std.proofs.Common.{◌≡◌, inl, ⊎_elim, ℕ, List, [], ◌∷◌, None, refl, subst, arith}
use Rattle.rss_base.specs.Steps.{PagesView}
use Rattle.rss_levels.specs.Entries.{Each, IsIn}
use Rattle.rss_levels.specs.Spots.{IsOwn}
use Rattle.rss_levels.proofs.Lists.{each_weaker}
use Rattle.rss_levels.proofs.Pages.{each_in, own_back, keeps_then}
use Rattle.rss_node.specs.declared.pair.Nodes.{Nodes}
use Rattle.rss_image.specs.Trees.{cells_of, KeepsPages, LosesNoPage}
use Rattle.rss_image.specs.Images.{nodes_of, ImageTree, pages_of, Becomes, Shrinks}
use Rattle.rss_image.specs.declared.image.Image.{Image}

-- an image to which nothing is done
module _ (image : Image) (view : PagesView) (pairs : List (List ℕ)) (tree : ImageTree image view.held pairs) where
  pub shrinks_by_none : Shrinks image image view view (pages_of tree) pairs
  shrinks_by_none = record {
    tree = tree;
    own_pages = each_in (pages_of tree);
    keeps = record { same = λ number bytes off held. held };
    loses_none = λ number is. is;
    spare = refl;
  }

  pub becomes_itself : Becomes image image view view (pages_of tree) pairs
  becomes_itself = record {
    tree = tree;
    own_pages = each_weaker (IsIn (pages_of tree)) (IsOwn (pages_of tree) (cells_of (nodes_of image) view.held)) (pages_of tree) (λ number is. inl is) (each_in (pages_of tree));
    keeps = record { same = λ number bytes off held. held };
    loses_none = λ number is. is;
    spare = refl;
  }

-- each number that is one of the first list is one of the other
wider : (own ns : List ℕ) → Each (IsIn own) ns → (n : ℕ) → IsIn ns n → IsIn own n
wider own [] all n is = absurd is
wider own (m ∷ ns) all n is = ⊎_elim (λ (same : m ≡ n). subst (IsIn own) same all.0) (λ (rest : IsIn ns n). wider own ns all.1 n rest) is

module _ (before mid after : Image) (same : nodes_of mid ≡ nodes_of before) (old between new : PagesView) (own : List ℕ) (less more : List (List ℕ)) (shrinks : Shrinks before mid old between own less) where
  pub becomes_then : Becomes mid after between new (pages_of shrinks.tree) more → Becomes before after old new own more
  becomes_then becomes =
      let of : Nodes = nodes_of before in
      let fewer = wider own (pages_of shrinks.tree) shrinks.own_pages in
      let mine : Each (IsOwn (pages_of shrinks.tree) (cells_of of between.held)) (pages_of becomes.tree) = subst (λ (n : Nodes). Each (IsOwn (pages_of shrinks.tree) (cells_of n between.held)) (pages_of becomes.tree)) same becomes.own_pages in
      let keeps : KeepsPages of (pages_of shrinks.tree) between new = subst (λ (n : Nodes). KeepsPages n (pages_of shrinks.tree) between new) same becomes.keeps in
      let loses : LosesNoPage of (pages_of shrinks.tree) (pages_of becomes.tree) between new = subst (λ (n : Nodes). LosesNoPage n (pages_of shrinks.tree) (pages_of becomes.tree) between new) same becomes.loses_none in
      record {
        tree = becomes.tree;
        own_pages = each_weaker (IsOwn (pages_of shrinks.tree) (cells_of of between.held)) (IsOwn own (cells_of of old.held)) (pages_of becomes.tree)
            (λ n is. ⊎_elim (λ (there : IsIn (pages_of shrinks.tree) n). inl (fewer n there)) (λ (none : cells_of of between.held n ≡ None). own_back own (cells_of of old.held) (cells_of of between.held) shrinks.keeps n none) is) mine;
        keeps = keeps_then own (pages_of shrinks.tree) own (cells_of of old.held) (cells_of of between.held) (cells_of of new.held) (λ n is. is) fewer shrinks.keeps keeps;
        loses_none = λ n is. loses n (shrinks.loses_none n is);
        spare = omega (arith, shrinks.spare, becomes.spare);
      }
