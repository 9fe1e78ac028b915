use Rattle.std.proofs.Common.{◌≡◌, ◌-◌, ◌∙◌, ap, sym, take, drop, get_or, rules, ℕ, List, Some, None}
use Rattle.std.proofs.lemmas.List.{take_rest}
use Rattle.std.specs.Prelude.{min, ◌==◌}
use Rattle.std.specs.Int.{w32, from_be_bytes}
use Rattle.std.proofs.lemmas.Bool.{cond-false, ne_eqb}
use Rattle.rss_catalog.specs.Reading.{fields_of, entry_of}
use Rattle.rss_catalog.proofs.decoding.read_relation.Goals as goal

pub returns : goal.returns
returns c =
    let bytes = c.args.bytes.now in
    let live : c.read_number.result ≡ from_be_bytes w32 (take 4 (drop 20 bytes)) = search rules in
    let count : c.min-count.result ≡ min (get_or bytes 17 0) 16 = c.min-count.ensures ∙ ap (λ (n : ℕ). min n 16) c.from.ensures in
    let originals : c.saturating_sub-originals.result ≡ min (get_or bytes 17 0) 16 - get_or bytes 18 0 = c.saturating_sub-originals.ensures ∙ (λ i. count i - c.from-2.ensures i) in
    let fields = c.in_ok-read_fields.ensures ∙ ap (λ (l : List ℕ). fields_of c.saturating_sub-originals.result c.min-count.result l) (take_rest bytes 32) ∙ (λ i. fields_of (originals i) (count i) (drop 32 bytes)) in
    (λ i. Some (record { name = record { bytes = c.read_name.ensures i }; segment = get_or bytes 16 0; fields = fields i; live = live i }))
    ∙ sym (cond-false (get_or bytes 0 0 == 0) None (Some (entry_of bytes)) (ne_eqb (get_or bytes 0 0) 0 c.if-bytes-eq0.false))
