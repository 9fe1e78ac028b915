use Rattle.std.proofs.Common.{[], ◌∷◌, true, Some, refl, sym, ◌∙◌, ap, set, arith}
use Rattle.std.proofs.lemmas.List.{get_or_read, length-set}
use Rattle.rss_frames.specs.Entries.{bytes_of}
use Rattle.rss_frames.specs.Lists.{without}
use Rattle.rss_frames.specs.State.{State}
use Rattle.rss_frames.specs.contracts.frames.Frames.{the_view}
use Rattle.rss_frames.proofs.Changes.{front, rewritten}
use Rattle.rss_frames.proofs.Entries.{absent_entry, found_entry}
use Rattle.rss_frames.proofs.Shown.{shown_written}
use Rattle.rss_frames.proofs.frames.Frames.get_mut.Goals as goal

pub returns-in_err-frame : goal.returns-in_err-frame
returns-in_err-frame c =
    let s = the_view c.self.inside in
    rw (c.from_residual.ensures, ← c.self.view_is) (
      (refl, λ w. tt, record { are = refl; room_is = refl }),
      record { writes_back = tt; value = sym (ap bytes_of (absent_entry s _ _ c.self.invariant.0 c.args.key c.in_err-frame.ensures)) },
    )

pub invariant_of-self-lent : goal.invariant_of-self-lent
invariant_of-self-lent c = λ w.
    let f = c.self.inside in
    let i = c.in_ok-frame.frame in
    let s : State = record { keys = f.table.keys; used = i ∷ without i f.used.frames; pages = f.pages.items; marks = f.changed.items } in
    rw c.to_front.ensures (
      rewritten s _ _ (front (the_view f) _ _ c.self.invariant.0 i (c.self.invariant.0.has_used _ _ c.in_ok-frame.ensures.at)) (set f.pages.items i w) (set f.changed.items i true)
          (length-set f.pages.items i w) (length-set f.changed.items i true),
      c.self.invariant.1,
      c.self.invariant.2,
    )

pub returns : goal.returns
returns c =
    let f = c.self.inside in
    let k = c.self.invariant.0 in
    let i = c.in_ok-frame.frame in
    let found = c.in_ok-frame.ensures in
    let page = c.index_mut-2.result.now in
    let bytes = get_or_read f.pages.items i page (omega (arith, found.within, k.pages_len)) c.index_mut-2.ensures.value [] in
    rw (← c.self.view_is) (
      (refl, (λ w. rw c.to_front.ensures (shown_written (the_view f) _ _ k c.args.key i found.at w)), tt),
      record { writes_back = tt; value = ap Some bytes ∙ sym (ap bytes_of (found_entry (the_view f) _ _ k c.args.key i found.at)) },
    )
