use Rattle.std.proofs.Common.{◌≡◌, ℕ, List, [], ◌∷◌, ◌++◌, length, None, refl, sym, ap, subst, arith}
use Rattle.rss_frames.specs.Lists.{Has}
use Rattle.rss_frames.specs.Filled.{FillsBlock}
use Rattle.rss_frames.specs.Recency.{Recency}
use Rattle.rss_frames.specs.State.{State}
use Rattle.rss_frames.specs.contracts.frames.Frames.{the_view}
use Rattle.rss_frames.specs.Frames.{frame_in, HasRoom}
use Rattle.rss_frames.proofs.Changes.{admitted, used_off_free}
use Rattle.rss_frames.proofs.Entries.{absent_from_entry, length_entries}
use Rattle.rss_frames.proofs.Shown.{Has-push, Has-more}
use Rattle.rss_frames.proofs.frames.Frames.give_frame.Goals as goal

-- what the cut of the free frames says
in_free : (free left : List ℕ) (frame : ℕ) → free ≡ left ++ frame ∷ [] → Has frame free
in_free free left frame cut = subst (λ (l : List ℕ). Has frame l) (sym cut) (Has-push frame left)

still_free : (free left : List ℕ) (frame : ℕ) → free ≡ left ++ frame ∷ [] → (j : ℕ) → Has j left → Has j free
still_free free left frame cut j h = subst (λ (l : List ℕ). Has j l) (sym cut) (Has-more frame j left h)

pub unreachable-requires : goal.unreachable-requires
unreachable-requires c =
    let s = the_view c.self.inside in
    let room = subst HasRoom (sym c.self.view_is) c.requires.room in
    omega (arith, room, length_entries s, c.self.invariant.0.count, ap length c.in_default.ensures.none)

pub insert-requires-clause-free : goal.insert-requires-clause-free
insert-requires-clause-free c = c.self.invariant.0.free_none c.in-Some.frame (in_free _ _ _ c.in-Some.ensures.frames)

pub insert-requires-clause-absent : goal.insert-requires-clause-absent
insert-requires-clause-absent c =
    absent_from_entry (the_view c.self.inside) _ _ c.self.invariant.0 c.args.key (subst (λ (s : State). frame_in s c.args.key ≡ None) (sym c.self.view_is) c.requires.absent)

pub push_front-requires-clause-absent : goal.push_front-requires-clause-absent
push_front-requires-clause-absent c = used_off_free (the_view c.self.inside) _ _ c.self.invariant.0 c.in-Some.frame (in_free _ _ _ c.in-Some.ensures.frames)

pub invariant_of-self : goal.invariant_of-self
invariant_of-self c =
    let absent = absent_from_entry (the_view c.self.inside) _ _ c.self.invariant.0 c.args.key (subst (λ (s : State). frame_in s c.args.key ≡ None) (sym c.self.view_is) c.requires.absent) in
    let e = c.in-Some.ensures in let f = c.self.inside in
    let fills = subst (λ (r : Recency). FillsBlock (f.table.start, f.table.units) (f.used.start, f.used.units) (r.start, r.units) f.pages_seat f.changed_seat f.rest f.lease f.alloc) (sym e.kept) c.self.invariant.2 in
    rw (c.insert.ensures, c.push_front.ensures) (
      admitted (the_view c.self.inside) _ _ c.self.invariant.0 c.pop_last.new.self c.in-Some.frame c.args.key c.args.changed
          e.frames (ap (λ (r : Recency). r.room) e.kept) e.gone (in_free _ _ _ e.frames) (still_free _ _ _ e.frames) absent (omega (arith, e.within, c.self.invariant.0.free_room)),
      c.self.invariant.1,
      fills,
    )

pub returns : goal.returns
returns c =
    let e = c.in-Some.ensures in
    rw (← c.self.view_is, c.insert.ensures, c.push_front.ensures) (record {
      within = omega (arith, e.within, c.self.invariant.0.free_room);
      unused = used_off_free (the_view c.self.inside) _ _ c.self.invariant.0 c.in-Some.frame (in_free _ _ _ e.frames);
      now = refl;
    })
