use Rattle.std.proofs.Common.{◌≡◌, ◌+◌, ◌-◌, length, arith}
use Rattle.std.specs.List.{slice_range}
use Rattle.rss_base.proofs.Copies.{length-range, put_bytes}
use Rattle.rss_base.proofs.page.copy_bytes.Goals as goal

pub returns : goal.returns
returns c =
    let a = c.args in
    let bytes = slice_range a.from.now a.from_at (a.from_at + a.count) in
    let long : length bytes ≡ a.to_at + a.count - a.to_at = omega (arith, length-range a.from.now a.from_at a.count (omega (arith, c.told-from, c.requires.from_within))) in
    put_bytes a.to_at (a.to_at + a.count - a.to_at) a.to.now c.copy_from_slice.new.self bytes c.copy_from_slice.ensures.after long
