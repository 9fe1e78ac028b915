-- The identifiers in the nodes of images name pages of the store.
use Rattle.std.proofs.Common.{◌<◌}
use Rattle.std.specs.List.{AllByRecursion-prop}
use Rattle.std.proofs.Math.Logic.{∥∥₁_elim}
use Rattle.std.proofs.Math.Bridge.{le_prop}
use Rattle.std.proofs.lemmas.List.Elements.{recursion_from_All, All-from_recursion}
use Rattle.rss_base.specs.Nodes.{NodeEntry}
use Rattle.rss_stored.specs.Store.{AreNodesWithin}
use Rattle.rss_access.specs.Changes.{AccessView, HasTables}

-- so it is where pages spell tables
pub nodes_within : {at : AccessView} → ∥ HasTables at ∥₁ → AreNodesWithin at.pages.slots at.pages.held at.catalog.listing
nodes_within {at = at} has number image relation listed page node is =
    All-from_recursion (λ (entry : NodeEntry). entry.tid.page < at.pages.slots) node.entries
    (∥∥₁_elim has (AllByRecursion-prop (λ (entry : NodeEntry). entry.tid.page < at.pages.slots) (λ entry. le_prop) node.entries)
    (λ tables. recursion_from_All (λ (entry : NodeEntry). entry.tid.page < at.pages.slots) node.entries (tables.nodes number image relation listed page node is)))
