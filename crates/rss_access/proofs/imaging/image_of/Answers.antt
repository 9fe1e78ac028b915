-- The image is that of the catalog's entry.
use Rattle.std.proofs.Common.{ℕ, sym, ◌∙◌, subst}
use Rattle.rss_node.specs.Nodes.{AreNodes}
use Rattle.rss_access.proofs.ImageKeys.{image_nodes, same_listed}
use Rattle.rss_entries.specs.Images.{image_of}
use Rattle.rss_access.proofs.imaging.image_of.Goals as goal

pub returns-clause-is : goal.returns-clause-is
returns-clause-is c = λ image relation listed.
    let same = same_listed c.image-entry.ensures.is c.relation-relation.ensures.is listed in
    (λ i. record {
      segment = c.relation-relation.result.now.segment;
      number = c.args.number;
      width = c.image_width.ensures.is i;
      root = c.image-entry.result.now.root;
      levels = c.image-entry.result.now.levels;
    })
    ∙ (λ i. image_of c.args.number (same.0 i) (same.1 i))

pub returns-clause-of : goal.returns-clause-of
returns-clause-of c =
    subst (λ (width : ℕ). AreNodes (record { segment = c.relation-relation.result.now.segment; image = c.args.number; width = width })) (sym c.image_width.ensures.is)
    (image_nodes c.relation-relation.ensures.is c.image-entry.ensures.safe c.image_width.ensures.places c.relation-relation.ensures.safe c.args.number)

pub returns-clause-listed : goal.returns-clause-listed
returns-clause-listed c = record { image = c.image-entry.result.now; relation = c.relation-relation.result.now; at = record { at = c.image-entry.ensures.is; within = c.relation-relation.ensures.is } }
