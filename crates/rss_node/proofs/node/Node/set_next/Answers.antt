use Rattle.std.proofs.Common.{ap, ◌∙◌}
use Rattle.rss_node.specs.Nodes.{NodeView, with_next}
use Rattle.rss_node.proofs.Headers.{IsRenexted, next_page}
use Rattle.rss_node.proofs.node.Node.set_next.Goals as goal

renexted : (c : goal.After-put_u32) → IsRenexted c.self.inside.width c.args.next c.self.inside.page c.put_u32.new.page
renexted c = next_page c.self.inside.width c.args.next c.self.inside.page c.put_u32.new.page c.self.invariant.formed c.self.invariant.bytes c.ranges.next.fits c.put_u32.ensures

pub returns : goal.returns
returns c = (renexted c).says ∙ ap (λ (n : NodeView). with_next n c.args.next) c.self.view_is

pub invariant_of-self : goal.invariant_of-self
invariant_of-self c = record { formed = (renexted c).formed; bytes = (renexted c).bytes }
