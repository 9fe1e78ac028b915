use Rattle.rss_frames.specs.contracts.frames.Frames.{the_view}
use Rattle.rss_frames.proofs.Changes.{front}
use Rattle.std.proofs.Common.{sym, ap}
use Rattle.std.specs.Prelude.{is_some, option_map}
use Rattle.rss_frames.specs.Frames.{frame_of}
use Rattle.rss_frames.proofs.Entries.{found_entry, absent_entry}
use Rattle.rss_frames.proofs.Shown.{absent_fronted, shown_fronted}
use Rattle.rss_frames.proofs.frames.Frames.touch.Goals as goal

pub invariant_of-self : goal.invariant_of-self
invariant_of-self c = rw c.to_front.ensures (front (the_view c.self.inside) _ _ c.self.invariant.0 c.in-Some.frame (c.self.invariant.0.has_used _ _ c.in-Some.ensures.at), c.self.invariant.1, c.self.invariant.2)

pub returns-in-Some : goal.returns-in-Some
returns-in-Some c =
    let f = c.self.inside in
    rw (← c.self.view_is) (record {
      there = sym (ap (λ o. is_some (option_map frame_of o)) (found_entry (the_view f) _ _ c.self.invariant.0 c.args.key c.in-Some.frame c.in-Some.ensures.at));
      used = rw c.to_front.ensures (shown_fronted (the_view f) _ _ c.self.invariant.0 c.args.key c.in-Some.frame c.in-Some.ensures.at);
    })

pub returns : goal.returns
returns c =
    let f = c.self.inside in
    rw (← c.self.view_is) (record {
      there = sym (ap (λ o. is_some (option_map frame_of o)) (absent_entry (the_view f) _ _ c.self.invariant.0 c.args.key c.in_default.ensures));
      used = absent_fronted (the_view f) _ _ c.self.invariant.0 c.args.key c.in_default.ensures;
    })
