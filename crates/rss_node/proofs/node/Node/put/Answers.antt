use Rattle.std.proofs.Common.{◌≡◌, ℕ, List, ◌++◌, ap, ◌∙◌}
use Rattle.std.specs.Int.{w32, to_be_bytes}
use Rattle.rss_base.specs.Entries.{Entry}
use Rattle.rss_node.specs.Nodes.{with_entries, spliced, entries_from}
use Rattle.rss_node.proofs.Codec.{entry_spelled}
use Rattle.rss_node.proofs.node.Node.put.Goals as goal

pub returns : goal.returns
returns c =
    let node = c.args.self.now in
    let es = entry_spelled node.width c.args.child c.args.pair.now c.requires.long c.ranges.child.fits in
    let one : c.extend_from_slice.new.self ≡ c.args.pair.now = c.extend_from_slice.ensures ∙ ap (λ (l : List ℕ). l ++ c.as_slice.result.now) c.new-bytes.ensures ∙ c.as_slice.ensures.bytes in
    let two : c.to_be_bytes.result ≡ to_be_bytes w32 c.args.child = c.to_be_bytes.ensures in
    let bytes : c.as_slice-2.result.now ≡ c.args.pair.now ++ to_be_bytes w32 c.args.child = c.as_slice-2.ensures.bytes ∙ c.extend_from_slice-2.ensures ∙ (λ i. one i ++ two i) in
    c.splice.ensures ∙ ap (λ (l : List Entry). with_entries node (spliced node.entries c.args.at c.args.removed l)) (ap (λ (l : List ℕ). entries_from node.width 1 l) bytes ∙ es)
