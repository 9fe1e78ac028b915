use Rattle.std.proofs.Common.{◌≡◌, [], ◌∷◌, ◌++◌, false, List, Some, None, refl, sym, ◌∙◌, ap, subst, arith}
use Rattle.std.specs.Prelude.{option_map}
use Rattle.std.proofs.lemmas.List.{get_or_read}
use Rattle.rss_frames.specs.Lists.{last_frame}
use Rattle.rss_frames.specs.Table.{key_at}
use Rattle.rss_frames.specs.Entries.{Held, eldest, entries, held_at, others}
use Rattle.rss_frames.specs.State.{State}
use Rattle.rss_frames.specs.contracts.frames.Frames.{the_view}
use Rattle.rss_frames.proofs.Table.{frame_within}
use Rattle.rss_frames.proofs.Lists.{last_has}
use Rattle.rss_frames.proofs.Entries.{entries_distinct, held_is}
use Rattle.rss_frames.proofs.Looked.{none_eldest, others_eldest}
use Rattle.rss_frames.proofs.Shown.{eldest_is}
use Rattle.rss_frames.proofs.frames.Frames.evict_last.Goals as goal

pub returns-in_err-frame : goal.returns-in_err-frame
returns-in_err-frame c =
    let s = the_view c.self.inside in
    let none : last_frame s.used ≡ None = sym c.in_err-frame.ensures in
    let empty : entries s ≡ [] = none_eldest (entries s) (eldest_is s ∙ ap (option_map (held_at s)) none) in
    rw (c.from_residual.ensures, ← c.self.view_is) (record { some = tt; none = record { before = empty; after = empty }; kept = refl; room = refl })

pub key-requires : goal.key-requires
key-requires c =
    let is : last_frame c.self.inside.used.frames ≡ Some c.in_ok-frame.frame = sym c.in_ok-frame.ensures in
    let o = c.self.invariant.0.used_has c.in_ok-frame.frame (last_has _ _ is) in
    frame_within c.self.inside.table.keys c.in_ok-frame.frame o.0 o.1

pub returns-in_err-key : goal.returns-in_err-key
returns-in_err-key c =
    let is : last_frame c.self.inside.used.frames ≡ Some c.in_ok-frame.frame = sym c.in_ok-frame.ensures in
    let o = c.self.invariant.0.used_has c.in_ok-frame.frame (last_has _ _ is) in
    let none : None ≡ key_at c.self.inside.table.keys c.in_ok-frame.frame = c.in_err-key.ensures in
    let never : None ≡ Some o.0 = none ∙ o.1 in cc

pub returns : goal.returns
returns c =
    let s = the_view c.self.inside in
    let k = c.self.invariant.0 in
    let i = c.in_ok-frame.frame in
    let is : last_frame s.used ≡ Some i = sym c.in_ok-frame.ensures in
    let at : key_at s.keys i ≡ Some c.in_ok-key.key = sym c.in_ok-key.ensures in
    let within = frame_within s.keys i c.in_ok-key.key at in
    let mark = get_or_read s.marks i c.index-changed.result.now (omega (arith, within, k.marks_len)) c.index-changed.ensures false in
    let bytes = get_or_read s.pages i c.index.result.now (omega (arith, within, k.pages_len)) c.index.ensures [] in
    let e : Held = record { key = c.in_ok-key.key; bytes = c.index.result.now; changed = c.index-changed.result.now } in
    let last : eldest (entries s) ≡ Some e = eldest_is s ∙ ap (option_map (held_at s)) is ∙ ap Some (held_is s i e.key e.bytes e.changed at (sym bytes) (sym mark)) in
    let gone = c.remove.ensures.gone in
    record {
      some = subst (λ (t : State). entries t ≡ others e.key (entries t) ++ e ∷ []) c.self.view_is (others_eldest (entries s) e (entries_distinct s _ _ k) last) ∙ ap (λ (es : List Held). es ++ e ∷ []) (sym gone.are);
      none = tt;
      kept = tt;
      room = gone.room_is;
    }
