use Rattle.std.proofs.Common.{◌≡◌, false, Some, None, refl, sym, ◌∙◌, arith}
use Rattle.std.proofs.lemmas.List.{get_or_read}
use Rattle.rss_frames.specs.Lists.{last_frame}
use Rattle.rss_frames.specs.Table.{key_at}
use Rattle.rss_frames.proofs.Table.{frame_within}
use Rattle.rss_frames.specs.contracts.frames.Frames.{the_view}
use Rattle.rss_frames.proofs.Lists.{last_has}
use Rattle.rss_frames.proofs.Shown.{eldest_is}
use Rattle.rss_frames.proofs.frames.Frames.eldest.Goals as goal

pub returns-in_err-frame : goal.returns-in_err-frame
returns-in_err-frame c =
    let none : last_frame c.self.inside.used.frames ≡ None = sym c.in_err-frame.ensures in
    rw (c.from_residual.ensures, ← c.self.view_is) (rw (eldest_is (the_view c.self.inside)) (rw none refl))

pub key-requires : goal.key-requires
key-requires c =
    let is : last_frame c.self.inside.used.frames ≡ Some c.in_ok-frame.frame = sym c.in_ok-frame.ensures in
    let o = c.self.invariant.0.used_has c.in_ok-frame.frame (last_has _ _ is) in
    frame_within c.self.inside.table.keys c.in_ok-frame.frame o.0 o.1

pub returns-in_err-key : goal.returns-in_err-key
returns-in_err-key c =
    let is : last_frame c.self.inside.used.frames ≡ Some c.in_ok-frame.frame = sym c.in_ok-frame.ensures in
    let o = c.self.invariant.0.used_has c.in_ok-frame.frame (last_has _ _ is) in
    let none : None ≡ key_at c.self.inside.table.keys c.in_ok-frame.frame = c.in_err-key.ensures in
    let never : None ≡ Some o.0 = none ∙ o.1 in cc

pub returns : goal.returns
returns c =
    let f = c.self.inside in
    let is : last_frame f.used.frames ≡ Some c.in_ok-frame.frame = sym c.in_ok-frame.ensures in
    let key : key_at f.table.keys c.in_ok-frame.frame ≡ Some c.in_ok-key.key = sym c.in_ok-key.ensures in
    let within = frame_within f.table.keys c.in_ok-frame.frame c.in_ok-key.key key in
    let read = get_or_read f.changed.items c.in_ok-frame.frame c.index.result.now (omega (arith, within, c.self.invariant.0.marks_len)) c.index.ensures false in
    rw (← c.self.view_is) (rw (eldest_is (the_view f)) (rw is (rw (key, read) refl)))
