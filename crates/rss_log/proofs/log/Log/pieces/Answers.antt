use Rattle.std.proofs.Common.{◌≡◌, ◌*◌, ◌++◌, length, take, drop, sym, ◌∙◌, ap, length-take-le, arith}
use Rattle.rss_log.specs.Logs.{LogView, piece_of}
use Rattle.rss_log.specs.Rings.{ring_bytes}
use Rattle.rss_log.proofs.LogViews.{piece_in}
use Rattle.rss_log.proofs.log.Log.pieces.Goals as goal

pub returns : goal.returns
returns c =
    let size : length (take 4000 c.args.into.now) ≡ 4000 = length-take-le 4000 c.args.into.now (omega arith) in
    let found = piece_in c.self.inside c.args.number (rw (← c.self.view_is) at c.requires.low) (rw (← c.self.view_is) at c.requires.high) in
    let copied : c.copy.new.into ≡ piece_of c.args.self.now c.args.number =
    c.copy.ensures ∙ (λ i. ring_bytes (c.deref.ensures.value i) (c.args.number * 4000) (size i)) ∙ sym found ∙ ap (λ (v : LogView). piece_of v c.args.number) c.self.view_is in
    λ i. copied i ++ drop 4000 c.args.into.now
