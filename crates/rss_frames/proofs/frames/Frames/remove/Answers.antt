use Rattle.std.proofs.Common.{length, None, sym, ap, subst, arith}
use Rattle.std.specs.Prelude.{IsSome}
use Rattle.std.proofs.lemmas.List.{length-set}
use Rattle.rss_frames.specs.Keyed.{Keyed}
use Rattle.rss_frames.specs.State.{State}
use Rattle.rss_frames.specs.Frames.{frame_in}
use Rattle.rss_frames.specs.contracts.frames.Frames.{the_view}
use Rattle.rss_frames.proofs.Changes.{removed}
use Rattle.rss_frames.proofs.Entries.{length_entries, there_from_entry}
use Rattle.rss_frames.proofs.Shown.{shown_removed, absent_removed}
use Rattle.rss_frames.proofs.frames.Frames.remove.Goals as goal

pub invariant_of-self : goal.invariant_of-self
invariant_of-self c = rw (c.remove.ensures, c.unlink.ensures.frames, c.push_front.ensures) (removed (the_view c.self.inside) _ _ c.self.invariant.0 c.in-Some.frame c.args.key c.in-Some.ensures.at, c.self.invariant.1, c.self.invariant.2)

pub returns-in-Some-clause-gone : goal.returns-in-Some-clause-gone
returns-in-Some-clause-gone c = rw (c.remove.ensures, c.unlink.ensures.frames, ← c.self.view_is) (shown_removed (the_view c.self.inside) _ _ c.self.invariant.0 c.args.key c.in-Some.frame c.in-Some.ensures.at)

pub returns-in-Some-clause-free : goal.returns-in-Some-clause-free
returns-in-Some-clause-free c = λ there.
    let f = c.self.inside in
    let now : State = record { keys = c.remove.new.self.keys; used = c.unlink.new.self.frames; pages = f.pages.items; marks = f.changed.items } in
    omega (arith, length_entries now, ap (λ (t : Keyed). length t.keys) c.remove.ensures, length-set f.table.keys c.in-Some.frame None, c.unlink.ensures.count, c.self.invariant.0.count)

pub returns-in_default-clause-gone : goal.returns-in_default-clause-gone
returns-in_default-clause-gone c = rw (← c.self.view_is) (absent_removed (the_view c.self.inside) _ _ c.self.invariant.0 c.args.key c.in_default.ensures)

pub returns-in_default-clause-free : goal.returns-in_default-clause-free
returns-in_default-clause-free c = λ there. absurd (there_from_entry (the_view c.self.inside) _ _ c.self.invariant.0 c.args.key (subst (λ (s : State). IsSome (frame_in s c.args.key)) (sym c.self.view_is) there) c.in_default.ensures)
