use Rattle.std.proofs.Common.{◌∙◌, false, ap, Result, Ok, Err}
use Rattle.std.specs.Prelude.{OnErr}
use Rattle.std.proofs.lemmas.Result.{on_ok_weaker}
use Rattle.rss_frames.specs.Entries.{Held, entries, entry, others}
use Rattle.rss_frames.specs.Frames.{Admits}
use Rattle.rss_frames.specs.contracts.frames.Frames.{the_view}
use Rattle.rss_frames.proofs.Looked.{none_entry, others_new}
use Rattle.rss_frames.proofs.Shown.{shown_admitted}
use Rattle.rss_frames.proofs.frames.Frames.read_in.Goals as goal

on_err : {T E P : Type 0} (result : Result T E) → P → OnErr result P
on_err (Ok x) p = tt
on_err (Err e) p = p

pub returns-then-is_err-clause-err : goal.returns-then-is_err-clause-err
returns-then-is_err-clause-err g c =
    let es = entries c.args.self.now in
    let bytes = c.read-result.new.into in
    let e : Held = record { key = c.args.key; bytes = bytes; changed = false } in
    let new = the_view c.self.inside in
    let admits : Admits c.args.key c.give_frame-frame.result false c.args.self.now new = rw c.self.view_is c.give_frame-frame.ensures in
    let shows = shown_admitted c.args.self.now new _ _ c.self.invariant.0 c.args.key c.give_frame-frame.result false admits bytes in
    on_err c.read-result.result (c.remove.ensures.gone.are ∙ ap (others c.args.key) shows.are ∙ others_new e es (none_entry (entry c.args.key es) c.requires.absent))

pub returns-else-is_err-clause-ok : goal.returns-else-is_err-clause-ok
returns-else-is_err-clause-ok g c =
    let bytes = c.read-result.new.into in
    let new = the_view c.self.inside in
    let admits : Admits c.args.key c.give_frame-frame.result false c.args.self.now new = rw c.self.view_is c.give_frame-frame.ensures in
    let shows = shown_admitted c.args.self.now new _ _ c.self.invariant.0 c.args.key c.give_frame-frame.result false admits bytes in
    on_ok_weaker c.read-result.result (λ read. record { bytes = bytes; now = shows.are; read = read }) c.read-result.ensures.page
