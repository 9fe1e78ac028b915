-- The parts are put one behind another, and zeros behind them.
use Rattle.std.proofs.Common.{◌≡◌, ◌∙◌, ◌++◌, ℕ, List, ap, length, arith}
use Rattle.rss_catalog.proofs.Imaged.{flag_is}
use Rattle.rss_catalog.proofs.Linked.{put_link}
use Rattle.rss_catalog.proofs.encoding.put_link_entry.Goals as goal

pub returns-clause-put : goal.returns-clause-put
returns-clause-put c =
    let link = c.args.link.now in
    let name : length link.name.bytes ≡ 16 = omega arith in
    put_link link c.args.bytes.now _ _ _ _ _ _ c.from.result c.extend_from_slice.ensures (c.extend_from_slice-2.ensures ∙ ap (λ (l : List ℕ). c.extend_from_slice.new.self ++ l) c.parent_bytes.ensures) (c.from.ensures ∙ flag_is link.late) c.extend_from_slice-3.ensures
    (c.extend_from_slice-4.ensures ∙ ap (λ (l : List ℕ). c.extend_from_slice-3.new.self ++ l) c.place_bytes.ensures) (c.extend_from_slice-5.ensures ∙ ap (λ (l : List ℕ). c.extend_from_slice-4.new.self ++ l) c.place_bytes-2.ensures) c.extend_from_slice-6.ensures name
