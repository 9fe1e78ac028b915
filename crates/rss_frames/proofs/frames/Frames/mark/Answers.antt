use Rattle.std.proofs.Common.{true, ℕ, ◌∷◌, set, refl, sym, ap, subst}
use Rattle.std.specs.Prelude.{IsSome}
use Rattle.std.proofs.lemmas.List.{length-set}
use Rattle.rss_frames.specs.Lists.{without}
use Rattle.rss_frames.specs.State.{State}
use Rattle.rss_frames.specs.Frames.{frame_in}
use Rattle.rss_frames.specs.contracts.frames.Frames.{the_view}
use Rattle.rss_frames.proofs.Both.{frame_is}
use Rattle.rss_frames.proofs.Changes.{front, rewritten}
use Rattle.rss_frames.proofs.Entries.{there_from_entry}
use Rattle.rss_frames.proofs.frames.Frames.mark.Goals as goal

pub place-frame-requires : goal.place-frame-requires
place-frame-requires c = there_from_entry (the_view c.self.inside) _ _ c.self.invariant.0 c.args.key
    (subst (λ (s : State). IsSome (frame_in s c.args.key)) (sym c.self.view_is) c.requires)

pub invariant_of-self : goal.invariant_of-self
invariant_of-self c =
    let f = c.self.inside in
    let i = c.place-frame.result in
    let s : State = record {
      keys = f.table.keys;
      used = i ∷ without i f.used.frames;
      pages = f.pages.items;
      marks = f.changed.items;
    } in
    rw c.to_front.ensures (
      rewritten s _ _ (front (the_view f) _ _ c.self.invariant.0 i
          (c.self.invariant.0.has_used _ _ c.place-frame.ensures.at)) f.pages.items (set f.changed.items i true) refl
          (length-set f.changed.items i true),
      c.self.invariant.1,
      c.self.invariant.2,
    )

pub returns : goal.returns
returns c =
    let f = c.self.inside in
    let s = the_view f in
    let k = c.self.invariant.0 in
    let at = c.place-frame.ensures.at in
    let is = frame_is s _ _ k c.args.key c.place-frame.result at in
    rw (← c.self.view_is, c.to_front.ensures) (record {
      sound = (f.used.room, f.free, k);
      at = at;
      frame = sym is;
      now = ap (λ (i : ℕ). record {
        keys = s.keys;
        used = i ∷ without i s.used;
        pages = s.pages;
        marks = set s.marks i true;
      }) (sym is);
    })
