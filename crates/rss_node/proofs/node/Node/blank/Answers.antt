use Rattle.std.proofs.Common.{ℕ, List, ap, ◌∙◌, refl, replicate}
use Rattle.rss_node.specs.Nodes.{put}
use Rattle.rss_node.proofs.Headers.{IsBlank, blank_page}
use Rattle.rss_node.proofs.Parts.{low_zeros}
use Rattle.rss_node.proofs.node.Node.blank.Goals as goal

blanked : (c : goal.After-put_bytes) → IsBlank c.args.of c.args.level c.args.number c.put_bytes.new.page
blanked c = let none : List ℕ = replicate 4096 0 in blank_page c.args.of c.args.level c.args.number none c.put_bytes.new.page c.requires c.ranges.number.fits refl (low_zeros 4096) c.header-header.ensures.bytes (c.put_bytes.ensures ∙ ap (λ (l : List ℕ). put none 0 l) c.header-header.ensures.spelled)

pub returns : goal.returns
returns c = (blanked c).says

pub invariant_of-result : goal.invariant_of-result
invariant_of-result c = record { formed = (blanked c).formed; bytes = (blanked c).bytes }
