use Rattle.std.proofs.Common.{◌≡◌, ◌∙◌, ℕ, true, Some, None, refl, sym, ap, subst, arith}
use Rattle.rss_base.specs.DiskRule.{Told}
use Rattle.rss_base.specs.StoredPages.{StandInSlots}
use Rattle.rss_notes.specs.Marks.{told}
use Rattle.rss_shadow.specs.Maps.{Maps}
use Rattle.rss_frames.specs.Entries.{room}
use Rattle.rss_frames.specs.Frames.{frame_in}
use Rattle.rss_buffer.specs.Waiting.{is_changed}
use Rattle.rss_buffer.specs.Buffered.{BufferView, held_of}
use Rattle.rss_buffer.specs.declared.stage.Stage.TheVariants.{Changing}
use Rattle.rss_buffer.proofs.Elsewhere.{buffer_new}
use Rattle.rss_buffer.proofs.Saves.{stands}
use Rattle.rss_buffer.proofs.buffer.Buffer.new.Goals as goal

pub invariant_of-result-clause-holds : goal.invariant_of-result-clause-holds
invariant_of-result-clause-holds g c =
    let parts = c.in-Ok.ensures in
    rw parts.maps (buffer_new _ (omega (arith, parts.room, c.requires.least)) parts.frames refl refl parts.table c.requires.half (omega (arith, c.slots_at.ensures, c.requires.count)) (omega (arith, c.slots_at.ensures, c.requires.count, c.requires.size)) parts.notes c.requires.synced)

pub returns-clause-held : goal.returns-clause-held
returns-clause-held g c =
    let parts = c.in-Ok.ensures in
    let device = g.D.Device.view c.args.device in
    let b : BufferView = record {
      device = device;
      first = c.slots_at.result;
      maps = record { current = c.args.table; shadow = c.args.table };
      notes = told c.in-Ok.notes;
      frames = frame_in c.in-Ok.frames;
      settled = true;
      log_pages = c.args.root.now.log_pages;
      area = c.args.root.now.area;
      stage = Changing;
      asks = 0;
      outs = 0;
      room = room c.in-Ok.frames;
    } in
    rw parts.maps
    (subst (λ (first : ℕ). Told device.disk (λ pages. StandInSlots first pages c.args.table (held_of b))) c.slots_at.ensures
    (stands {b = b} (buffer_new b (omega (arith, parts.room, c.requires.least)) parts.frames refl refl parts.table c.requires.half (omega (arith, c.slots_at.ensures, c.requires.count)) (omega (arith, c.slots_at.ensures, c.requires.count, c.requires.size)) parts.notes c.requires.synced)
    (λ key frame here. let none : None ≡ Some frame = sym (parts.frames key) ∙ here in absurd (cc))))

pub returns-clause-fresh : goal.returns-clause-fresh
returns-clause-fresh g c =
    let parts = c.in-Ok.ensures in
    record {
      current = ap (λ (m : Maps). m.current) parts.maps;
      backing = λ i. record { log_pages = c.args.root.now.log_pages; area = c.args.root.now.area; shadow = ap (λ (m : Maps). m.shadow) parts.maps i; frames = parts.room i };
      stage = refl;
      none_wait = λ key. ap is_changed (parts.frames key);
      none_noted = parts.none;
      settled = refl;
      asks = refl;
      writes_are = refl;
    }
