use Rattle.std.proofs.Common.{◌≡◌, ◌∙◌, ℕ, None, Some, option_map, refl, ap, sym, List, Option}
use Rattle.rss_base.specs.PageMap.{owner_of}
use Rattle.rss_base.specs.declared.key.PageKey.{PageKey}
use Rattle.rss_base.proofs.Copies.{copies_page}
use Rattle.rss_base.proofs.Steps.{wrote}
use Rattle.rss_shadow.proofs.Owned.{HasPage-mapped}
use Rattle.rss_frames.specs.Frames.{frame_of, frame_in}
use Rattle.rss_buffer.specs.Devices.{buffer_view}
use Rattle.rss_buffer.proofs.Lookups.{bytes_frame, copied_shown}
use Rattle.rss_buffer.proofs.Turns.{KeepsPages-rests, puts_none, mapped_there}
use Rattle.rss_buffer.proofs.Changed.{Reslots-moves, Fits-changed, changes_page, held-there, IsBuffer-changes, passes_on, changed-off, writes_page}
use Rattle.rss_buffer.proofs.buffer.Buffer.copy_there.Goals as goal

pub first_write-requires : goal.first_write-requires
first_write-requires g c =
    let self = c.args.self.now in
    HasPage-mapped self.shadow.current c.args.to (mapped_there {b = buffer_view self} self.holds c.args.to c.requires.to)

pub invariant_of-self : goal.invariant_of-self
invariant_of-self g c =
    let self = c.args.self.now in
    let moves = c.first_write.ensures.moves in
    let re = Reslots-moves self.shadow c.first_write.new.self c.args.to c.first_write.result self.holds.laid_out.table self.holds.laid_out.room moves in
    let outside : owner_of self.shadow.shadow c.first_write.result ≡ None = ap (λ (owners : List (Option PageKey)). owner_of owners c.first_write.result) (sym moves.shadow) ∙ c.first_write.ensures.outside in
    let is = mapped_there {b = buffer_view self} self.holds c.args.to c.requires.to in
    let change = changes_page (buffer_view self) _ self.holds re (copied_shown c.requires.apart c.copy.ensures) c.forget.ensures (λ space. self.holds.noted.mapped c.args.to space ∙ is) in
    record { saved_area = λ area is. absurd (cc); holds = rw c.copy.ensures.now.room_is (IsBuffer-changes change self.holds (Fits-changed self.shadow.shadow c.first_write.result _ refl outside)) }

pub returns-clause-copied : goal.returns-clause-copied
returns-clause-copied g c =
    let self = c.args.self.now in
    let copied = c.copy.ensures in
    let page = bytes_frame _ copied.bytes copied.to_there in
    let re = Reslots-moves self.shadow c.first_write.new.self c.args.to c.first_write.result self.holds.laid_out.table self.holds.laid_out.room c.first_write.ensures.moves in
    let is_from = mapped_there {b = buffer_view self} self.holds c.args.from c.requires.from in
    let is = mapped_there {b = buffer_view self} self.holds c.args.to c.requires.to in
    let change = changes_page (buffer_view self) _ self.holds re (copied_shown c.requires.apart copied) c.forget.ensures (λ space. self.holds.noted.mapped c.args.to space ∙ is) in
    let frames = frame_in self.frames in
    let contents = (g.D.Device.view self.device).disk.contents in
    rw c.copy.ensures.now.room_is (copies_page copied.source.page copied.bytes
    (λ told. held-there self.first_slot self.shadow.current frames contents c.args.from copied.source is_from (ap (option_map frame_of) copied.from_there))
    (λ told. held-there self.first_slot self.shadow.current frames contents c.args.to page.0 is page.1 ∙ ap Some page.2)
    (writes_page (KeepsPages-rests (buffer_view self)) change is))

pub returns-clause-did : goal.returns-clause-did
returns-clause-did g c =
    let self = c.args.self.now in
    let rests = KeepsPages-rests (buffer_view self) in
    let re = Reslots-moves self.shadow c.first_write.new.self c.args.to c.first_write.result self.holds.laid_out.table self.holds.laid_out.room c.first_write.ensures.moves in
    let is = mapped_there {b = buffer_view self} self.holds c.args.to c.requires.to in
    let change = changes_page (buffer_view self) _ self.holds re (copied_shown c.requires.apart c.copy.ensures) c.forget.ensures (λ space. self.holds.noted.mapped c.args.to space ∙ is) in
    rw c.copy.ensures.now.room_is ((wrote {T = ℕ} {asks = 0} {outs = 0} 0 (passes_on change rests puts_none) (changed-off change rests) (writes_page rests change is)).step)
