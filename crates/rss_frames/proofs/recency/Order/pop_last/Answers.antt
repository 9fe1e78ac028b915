use Rattle.std.proofs.Common.{◌≡◌, Some, refl, sym, subst}
use Rattle.rss_frames.specs.Lists.{Has, last_frame}
use Rattle.rss_frames.proofs.Lists.{last_out, last_has, Has-without}
use Rattle.rss_frames.specs.Recency.{Recency}
use Rattle.rss_frames.proofs.recency.Order.pop_last.Goals as goal

pub unlink-requires : goal.unlink-requires
unlink-requires c = let is : last_frame c.args.self.now.frames ≡ Some c.in_ok-frame.frame = sym c.in_ok-frame.ensures in last_has c.args.self.now.frames c.in_ok-frame.frame is

pub returns-clause-frames : goal.returns-clause-frames
returns-clause-frames c =
    let is : last_frame c.args.self.now.frames ≡ Some c.in_ok-frame.frame = sym c.in_ok-frame.ensures in
    rw c.unlink.ensures.frames (last_out c.args.self.now.frames c.in_ok-frame.frame c.unlink.ensures.apart is).1

pub returns-clause-gone : goal.returns-clause-gone
returns-clause-gone c = λ h. (Has-without c.in_ok-frame.frame c.in_ok-frame.frame c.args.self.now.frames (subst (λ (r : Recency). Has c.in_ok-frame.frame r.frames) c.unlink.ensures.frames h)).1 refl

pub returns-clause-kept : goal.returns-clause-kept
returns-clause-kept c = rw c.unlink.ensures.frames refl
