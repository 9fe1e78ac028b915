use Rattle.std.proofs.Common.{ℕ, List, take, ap, ◌∙◌, length-take-le}
use Rattle.std.proofs.lemmas.Nat.{be_bytes_8}
use Rattle.std.specs.Int.{w64, from_be_bytes}
use Rattle.rss_node.proofs.Parts.{low_take}
use Rattle.rss_node.proofs.order.word_of.Goals as goal

pub returns : goal.returns
returns c =
    let bytes : List ℕ = c.args.bytes.now in
    be_bytes_8 (take 8 bytes) c.from_be_bytes.result (length-take-le 8 bytes c.requires) (low_take 8 bytes (λ i. (c.type_inv.bytes i).fits)) (c.from_be_bytes.ensures ∙ ap (from_be_bytes w64) c.copy_from_slice.ensures.after)
