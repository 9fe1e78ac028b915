use Rattle.std.proofs.Common.{◌≡◌, inr, true, false, List, ℕ, [], ◌∷◌, length, get_or, set, Some, refl, sym, ◌∙◌, ap, subst}
use Rattle.std.specs.Prelude.{IsSome}
use Rattle.std.proofs.lemmas.List.{length-set, with_items_is}
use Rattle.rss_frames.specs.Lists.{without}
use Rattle.rss_frames.specs.State.{State}
use Rattle.rss_frames.specs.Frames.{frame_in}
use Rattle.rss_frames.specs.Entries.{bytes_of}
use Rattle.rss_frames.specs.Pairs.{with_two}
use Rattle.rss_frames.specs.contracts.frames.Frames.{the_view}
use Rattle.rss_frames.proofs.Lists.{Has-kept}
use Rattle.rss_frames.proofs.Entries.{there_from_entry, found_entry, held_is}
use Rattle.rss_frames.proofs.Changes.{front, rewritten}
use Rattle.rss_frames.proofs.Shown.{frames_apart, shown}
use Rattle.rss_frames.proofs.frames.Frames.copy.Goals as goal

pub place-low-requires : goal.place-low-requires
place-low-requires c = there_from_entry (the_view c.self.inside) _ _ c.self.invariant.0 c.args.to (subst (λ (s : State). IsSome (frame_in s c.args.to)) (sym c.self.view_is) c.requires.to)

pub place-high-requires : goal.place-high-requires
place-high-requires c = there_from_entry (the_view c.self.inside) _ _ c.self.invariant.0 c.args.from (subst (λ (s : State). IsSome (frame_in s c.args.from)) (sym c.self.view_is) c.requires.from)

pub to_front-requires-2 : goal.to_front-requires-2
to_front-requires-2 c =
    let k = c.self.invariant.0 in
    let off = frames_apart (the_view c.self.inside) _ _ k c.args.to c.args.from c.place-low.result c.place-high.result c.place-low.ensures.at c.place-high.ensures.at (λ e. c.requires.apart (sym e)) in
    rw c.to_front.ensures (inr (Has-kept c.place-high.result c.place-low.result c.self.inside.used.frames (k.has_used _ _ c.place-low.ensures.at) off))

pub invariant_of-self : goal.invariant_of-self
invariant_of-self c =
    let f = c.self.inside in
    let k = c.self.invariant.0 in
    let low = c.place-low.result in
    let high = c.place-high.result in
    let off = frames_apart (the_view f) _ _ k c.args.to c.args.from low high c.place-low.ensures.at c.place-high.ensures.at (λ e. c.requires.apart (sym e)) in
    let s1 : State = record { keys = f.table.keys; used = high ∷ without high f.used.frames; pages = f.pages.items; marks = f.changed.items } in
    let s2 : State = record { keys = f.table.keys; used = low ∷ without low (high ∷ without high f.used.frames); pages = f.pages.items; marks = f.changed.items } in
    let k1 = front (the_view f) _ _ k high (k.has_used _ _ c.place-high.ensures.at) in
    let k2 = front s1 _ _ k1 low (inr (Has-kept high low f.used.frames (k.has_used _ _ c.place-low.ensures.at) off)) in
    let ws : List (List ℕ) = with_two c.as_mut_slice.result.now low high c.copy_bytes.new.to c.pair-first.result.second.now in
    let many : length ws ≡ length f.pages.items = simp length-set (ap length c.as_mut_slice.ensures.value) in
    rw (with_items_is f.pages ws (many ∙ sym f.pages.ok.0), c.to_front-2.ensures, c.to_front.ensures) (rewritten s2 _ _ k2 ws (set f.changed.items low true) many (length-set f.changed.items low true), c.self.invariant.1, c.self.invariant.2)

pub returns : goal.returns
returns c =
    let f = c.self.inside in
    let s = the_view f in
    let k = c.self.invariant.0 in
    let low = c.place-low.result in
    let high = c.place-high.result in
    let at_low = c.place-low.ensures.at in
    let at_high = c.place-high.ensures.at in
    let v = c.copy_bytes.new.to in
    let w = c.pair-first.result.second.now in
    let first = c.pair-first.result.first.now in
    let value = c.as_mut_slice.ensures.value in
    let mark = get_or f.changed.items high false in
    let is_first : first ≡ get_or f.pages.items low [] = c.pair-first.ensures.first ∙ ap (λ (ps : List (List ℕ)). get_or ps low []) value in
    let is_second : w ≡ get_or f.pages.items high [] = c.pair-first.ensures.second ∙ ap (λ (ps : List (List ℕ)). get_or ps high []) value in
    let ws : List (List ℕ) = with_two c.as_mut_slice.result.now low high v w in
    let many : length ws ≡ length f.pages.items = simp length-set (ap length value) in
    rw (← c.self.view_is, with_items_is f.pages ws (many ∙ sym f.pages.ok.0), c.to_front-2.ensures, c.to_front.ensures) (record {
      source = record { page = w; changed = mark };
      bytes = first;
      from_there = found_entry s _ _ k c.args.from high at_high ∙ ap Some (held_is s high c.args.from w mark at_high (sym is_second) refl);
      to_there = ap bytes_of (found_entry s _ _ k c.args.to low at_low) ∙ ap Some (sym is_first);
      now = rw (← c.copy_bytes.ensures, value) (shown s _ _ k c.args.to c.args.from low high at_low at_high (λ e. c.requires.apart (sym e)) v w);
    })
