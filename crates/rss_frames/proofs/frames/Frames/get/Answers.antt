use Rattle.std.proofs.Common.{[], Some, refl, sym, ◌∙◌, ap, arith}
use Rattle.std.proofs.lemmas.List.{get_or_read}
use Rattle.rss_frames.specs.Entries.{bytes_of}
use Rattle.rss_frames.specs.contracts.frames.Frames.{the_view}
use Rattle.rss_frames.proofs.Changes.{front}
use Rattle.rss_frames.proofs.Entries.{absent_entry, found_entry}
use Rattle.rss_frames.proofs.Shown.{absent_fronted, shown_fronted}
use Rattle.rss_frames.proofs.frames.Frames.get.Goals as goal

pub returns-in_err-frame : goal.returns-in_err-frame
returns-in_err-frame c =
    let s = the_view c.self.inside in
    let none = c.in_err-frame.ensures in
    rw (c.from_residual.ensures, ← c.self.view_is) (
      (refl, λ w. tt, absent_fronted s _ _ c.self.invariant.0 c.args.key none),
      record { used = tt; value = sym (ap bytes_of (absent_entry s _ _ c.self.invariant.0 c.args.key none)) },
    )

pub invariant_of-self-2 : goal.invariant_of-self-2
invariant_of-self-2 c = rw c.to_front.ensures (front (the_view c.self.inside) _ _ c.self.invariant.0 c.in_ok-frame.frame (c.self.invariant.0.has_used _ _ c.in_ok-frame.ensures.at), c.self.invariant.1, c.self.invariant.2)

pub returns : goal.returns
returns c =
    let f = c.self.inside in
    let k = c.self.invariant.0 in
    let found = c.in_ok-frame.ensures in
    let bytes = get_or_read f.pages.items c.in_ok-frame.frame c.index.result.now (omega (arith, found.within, k.pages_len)) c.index.ensures [] in
    rw (← c.self.view_is) (
      (refl, λ w. tt, rw c.to_front.ensures (shown_fronted (the_view f) _ _ k c.args.key c.in_ok-frame.frame found.at)),
      record { used = tt; value = ap Some bytes ∙ sym (ap bytes_of (found_entry (the_view f) _ _ k c.args.key c.in_ok-frame.frame found.at)) },
    )
