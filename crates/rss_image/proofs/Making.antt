-- An image without pairs.
use Rattle.std.proofs.Common.{◌≡◌, ◌+◌, ⊎_elim, inr, ℕ, List, [], ◌∷◌, refl, subst, arith, None, Some, ◌∙◌, sym, ap}
use Rattle.rss_base.specs.Paged.{Held}
use Rattle.rss_base.specs.Steps.{PagesView}
use Rattle.rss_levels.specs.Entries.{zeros}
use Rattle.rss_base.specs.Entries.{no_page}
use Rattle.rss_levels.specs.Rows.{Part}
use Rattle.rss_node.specs.Nodes.{NodeView, blank_node}
use Rattle.rss_image.specs.Trees.{cells_of, HoldsNode, KeepsPages, LosesNoPage, Writes}
use Rattle.rss_image.specs.Images.{nodes_of, ImageTree, Becomes}
use Rattle.rss_image.specs.declared.image.Image.{Image}
use Rattle.rss_image.proofs.Putting.{zeros_slot}

abbrev pub empty_tree : (image : Image) (held : Held) → HoldsNode (nodes_of image) held 0 image.root no_page [] → image.levels ≡ 1 → ImageTree image held []
empty_tree image held holds one =
    let top : Part = record { number = image.root; low = zeros image.width; items = [] } in
    record {
      top = top;
      lower = [];
      tree = record {
        stack = (record { held = (holds, tt); few = (omega arith, tt) }, record { pairs_are = refl; rises = (tt, tt) });
        at_root = refl;
        low = refl;
        high = one;
        branches = λ some. absurd (omega arith);
        distinct = (tt, tt);
      };
      made = (((zeros_slot image.width, tt), tt), tt);
    }

pub created : (image : Image) (old mid new : PagesView) (node : NodeView) → image.levels ≡ 1 → node ≡ blank_node (nodes_of image) 0 image.root → cells_of (nodes_of image) old.held image.root ≡ None → KeepsPages (nodes_of image) [] old mid → LosesNoPage (nodes_of image) [] (image.root ∷ []) old mid → Writes (nodes_of image) 0 image.root node mid new → old.spare ≡ new.spare + 1
    → Becomes image image old new [] []
created image old mid new node one blank fresh keeps loses wrote spare =
    let holds = subst (λ (n : NodeView). HoldsNode (nodes_of image) new.held 0 image.root n.next n.entries) blank wrote.holds in
    record {
      tree = empty_tree image new.held holds one;
      own_pages = (inr fresh, tt);
      keeps = record { same = λ n bytes off was. wrote.keeps.same n bytes (λ is. ⊎_elim (λ (here : image.root ≡ n). taken n bytes was here) (λ (none : ⊥). none) is) (keeps.same n bytes off was) };
      loses_none = λ n is. wrote.loses_none n (loses n is);
      spare = omega (arith, spare);
    }
  where
    taken : (n : ℕ) (bytes : List ℕ) → cells_of (nodes_of image) old.held n ≡ Some bytes → image.root ≡ n → ⊥
    taken n bytes was here = let never : Some bytes ≡ None = sym was ∙ ap (cells_of (nodes_of image) old.held) (sym here) ∙ fresh in cc
