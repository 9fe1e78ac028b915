use Rattle.std.proofs.Common.{◌≡◌, inl, inr, true, List, ◌∷◌, set, sym, ◌∙◌, ap, subst}
use Rattle.std.specs.Prelude.{IsSome, option_map}
use Rattle.std.proofs.lemmas.List.{length-set}
use Rattle.rss_frames.specs.Lists.{without}
use Rattle.rss_frames.specs.Entries.{Held, changed_to, entries, others}
use Rattle.rss_frames.specs.State.{State}
use Rattle.rss_frames.specs.Frames.{frame_of, frame_in}
use Rattle.rss_frames.specs.contracts.frames.Frames.{the_view}
use Rattle.rss_frames.proofs.Entries.{absent_entry, absent_others, there_from_entry}
use Rattle.rss_frames.proofs.Changes.{front, rewritten}
use Rattle.rss_frames.proofs.Shown.{shown_written}
use Rattle.rss_frames.proofs.frames.Frames.put.Goals as goal

-- ---- it is in memory

pub invariant_of-self : goal.invariant_of-self
invariant_of-self c =
    let f = c.self.inside in
    let own = c.in-Some.own in
    let s : State = record { keys = f.table.keys; used = own ∷ without own f.used.frames; pages = f.pages.items; marks = f.changed.items } in
    rw c.to_front.ensures (
      rewritten s _ _ (front (the_view f) _ _ c.self.invariant.0 own (c.self.invariant.0.has_used _ _ c.in-Some.ensures.at)) (set f.pages.items own c.args.page.now) (set f.changed.items own true)
          (length-set f.pages.items own c.args.page.now) (length-set f.changed.items own true),
      c.self.invariant.1,
      c.self.invariant.2,
    )

pub returns-in-Some : goal.returns-in-Some
returns-in-Some c = rw (← c.self.view_is, c.to_front.ensures) (shown_written (the_view c.self.inside) _ _ c.self.invariant.0 c.args.key c.in-Some.own c.in-Some.ensures.at c.args.page.now)

-- ---- it isn't

pub admit-requires-clause-room : goal.admit-requires-clause-room
admit-requires-clause-room c = elim c.requires [
  | inl room ↦ room
  | inr there ↦ absurd (there_from_entry (the_view c.self.inside) _ _ c.self.invariant.0 c.args.key (subst (λ (s : State). IsSome (frame_in s c.args.key)) (sym c.self.view_is) there) c.in_default.ensures)
]

pub admit-requires-clause-absent : goal.admit-requires-clause-absent
admit-requires-clause-absent c = rw (← c.self.view_is) (ap (option_map frame_of) (absent_entry (the_view c.self.inside) _ _ c.self.invariant.0 c.args.key c.in_default.ensures))

pub returns : goal.returns
returns c =
    let others_are = subst (λ (s : State). others c.args.key (entries s) ≡ entries s) c.self.view_is (absent_others (the_view c.self.inside) _ _ c.self.invariant.0 c.args.key c.in_default.ensures) in
    record {
      are = c.admit.ensures.are ∙ ap (λ (es : List Held). changed_to c.args.key c.args.page.now ∷ es) (sym others_are);
      room_is = c.admit.ensures.room_is;
    }
