use Rattle.std.proofs.Common.{◌<◌, ℕ, suc, zero, List, ◌∷◌, ◌++◌, replicate, arith}
use Rattle.std.specs.Int.{w32, to_be_bytes}
use Rattle.rss_node.specs.Nodes.{IsBytes, header_bytes}
use Rattle.rss_node.proofs.Parts.{low_append, low_four, low_zeros}
use Rattle.rss_node.proofs.node.header.Goals as goal

low_cons : (b : ℕ) (bytes : List ℕ) → b < 256 → IsBytes bytes → IsBytes (b ∷ bytes)
low_cons b bytes one rest zero = one
low_cons b bytes one rest (suc i) = rest i

low_header : (segment image level number : ℕ) → segment < 256 → image < 256 → level < 256 → IsBytes (header_bytes (record { segment = segment; image = image; width = 0 }) level number)
low_header segment image level number one two three =
    let ones : IsBytes (replicate 4 255) = λ i. low_ones 4 i in
    let tail = low_append (replicate 4 0) (replicate 4 255 ++ replicate 16 0) (low_zeros 4) (low_append (replicate 4 255) (replicate 16 0) ones (low_zeros 16)) in
    let rest = low_append (to_be_bytes w32 number) (replicate 4 0 ++ (replicate 4 255 ++ replicate 16 0)) (low_four number) tail in
    let words : List ℕ = to_be_bytes w32 number ++ (replicate 4 0 ++ (replicate 4 255 ++ replicate 16 0)) in
    low_cons 3 (segment ∷ image ∷ level ∷ words) (omega arith) (low_cons segment (image ∷ level ∷ words) one (low_cons image (level ∷ words) two (low_cons level words three rest)))
  where
    low_ones : (n : ℕ) → IsBytes (replicate n 255)
    low_ones zero i = low_zeros 0 i
    low_ones (suc n) zero = omega arith
    low_ones (suc n) (suc i) = low_ones n i

pub returns-clause-bytes : goal.returns-clause-bytes
returns-clause-bytes c = low_header c.args.segment c.args.image c.args.level c.args.number c.ranges.segment.fits c.ranges.image.fits c.ranges.level.fits
