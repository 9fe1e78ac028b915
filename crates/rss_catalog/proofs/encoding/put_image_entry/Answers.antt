-- The parts are put one behind another, and zeros behind them.
use Rattle.std.proofs.Common.{◌≡◌, ◌∙◌, ◌++◌, ℕ, List, ap, length, arith}
use Rattle.rss_catalog.proofs.Imaged.{flag_is, put_image}
use Rattle.rss_catalog.proofs.encoding.put_image_entry.Goals as goal

pub returns-clause-put : goal.returns-clause-put
returns-clause-put c =
    let image = c.args.image.now in
    let name : length image.name.bytes ≡ 16 = omega arith in
    let fields : length image.fields ≡ 16 = omega arith in
    put_image image c.args.bytes.now _ _ _ _ _ c.from.result c.extend_from_slice.ensures (c.from.ensures ∙ flag_is image.is_unique) c.extend_from_slice-2.ensures (c.extend_from_slice-3.ensures ∙ ap (λ (l : List ℕ). c.extend_from_slice-2.new.self ++ l) c.to_be_bytes.ensures) c.extend_from_slice-4.ensures c.extend_from_slice-5.ensures name fields
