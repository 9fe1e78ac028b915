use Rattle.std.proofs.Common.{[], false, Some, sym, ◌∙◌, ap, arith}
use Rattle.std.specs.Prelude.{option_map}
use Rattle.std.proofs.lemmas.List.{get_or_read}
use Rattle.rss_frames.specs.Frames.{frame_of}
use Rattle.rss_frames.specs.contracts.frames.Frames.{the_view}
use Rattle.rss_frames.proofs.Entries.{absent_entry, found_entry, held_is}
use Rattle.rss_frames.proofs.frames.Frames.peek.Goals as goal

pub returns-in_err-frame : goal.returns-in_err-frame
returns-in_err-frame c = rw (c.from_residual.ensures, ← c.self.view_is) (record { some = tt; none = ap (option_map frame_of) (absent_entry (the_view c.self.inside) _ _ c.self.invariant.0 c.args.key c.in_err-frame.ensures) })

pub returns : goal.returns
returns c =
    let f = c.self.inside in
    let k = c.self.invariant.0 in
    let found = c.in_ok-frame.ensures in
    let bytes = get_or_read f.pages.items c.in_ok-frame.frame c.index.result.now (omega (arith, found.within, k.pages_len)) c.index.ensures [] in
    let mark = get_or_read f.changed.items c.in_ok-frame.frame c.index-2.result.now (omega (arith, found.within, k.marks_len)) c.index-2.ensures false in
    rw (← c.self.view_is) (record {
      some = ap (option_map frame_of) (found_entry (the_view f) _ _ k c.args.key c.in_ok-frame.frame found.at ∙ ap Some (held_is (the_view f) c.in_ok-frame.frame c.args.key c.index.result.now c.index-2.result.now found.at (sym bytes) (sym mark)));
      none = tt;
    })
