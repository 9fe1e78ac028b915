use Rattle.std.proofs.Common.{◌∙◌, ◌+◌, ap, List, ℕ, ◌++◌, drop, length, replicate, zero-add}
use Rattle.std.proofs.lemmas.List.{drop-replicate}
use Rattle.rss_catalog.proofs.encoding.page_of.Goals as goal

pub returns : goal.returns
returns c =
    let bytes = c.args.bytes.now in
    c.put_bytes.ensures
    ∙ ap (λ (l : List ℕ). l ++ drop (0 + length l) (replicate 4096 0)) c.as_slice.ensures.bytes
    ∙ ap (λ (n : ℕ). bytes ++ drop n (replicate 4096 0)) (zero-add (length bytes))
    ∙ ap (λ (l : List ℕ). bytes ++ l) (drop-replicate (length bytes) 4096 0)
