use Rattle.std.proofs.Common.{rules, refl}
use Rattle.rss_base.proofs.Moments.{same_device}
use Rattle.rss_base.proofs.Steps.{noted}
use Rattle.rss_notes.specs.Marks.{told}
use Rattle.rss_buffer.specs.Devices.{buffer_view}
use Rattle.rss_buffer.proofs.Changed.{AreNotesOf-noted}
use Rattle.rss_buffer.proofs.Turns.{IsBuffer-beside}
use Rattle.rss_buffer.proofs.Noted.{notes_page}
use Rattle.rss_buffer.proofs.pages.BufferPages.note.Goals as goal

pub invariant_of-self : goal.invariant_of-self
invariant_of-self g c =
    let self = c.args.self.now in
    record { saved_area = self.saved_area; holds = IsBuffer-beside self.holds (AreNotesOf-noted c.requires.mapped self.holds.noted c.note.ensures) }

pub returns-clause-noted : goal.returns-clause-noted
returns-clause-noted g c =
    let self = c.args.self.now in
    notes_page (buffer_view self) (told c.note.new.self) self.holds.noted c.requires.mapped c.requires.space c.note.ensures

pub returns-clause-idle : goal.returns-clause-idle
returns-clause-idle g c = record { device = same_device _; in_memory = refl }

pub returns-clause-did : goal.returns-clause-did
returns-clause-did g c = noted (search rules) (returns-clause-noted g c)
