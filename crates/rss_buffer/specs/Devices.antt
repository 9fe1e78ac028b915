-- What a `Buffer` stands on, and what there is to see of it.
use Rattle.rss_base.specs.declared.device.Device.{Ghosts}
use Rattle.rss_notes.specs.Marks.{told}
use Rattle.rss_buffer.specs.declared.buffer.Buffer.{Buffer}
use Rattle.rss_frames.specs.Entries.{room}
use Rattle.rss_frames.specs.Frames.{frame_in}
use Rattle.rss_buffer.specs.Buffered.{BufferView}

module _ {D : Type 0} {g : Ghosts D} where
  -- the device under the pages
  abbrev pub device_of : Buffer D g → D
  device_of buffer = buffer.device

  abbrev pub buffer_view : Buffer D g → BufferView
  buffer_view buffer = record {
    device = g.view buffer.device;
    first = buffer.first_slot;
    maps = buffer.shadow;
    notes = told buffer.notes;
    frames = frame_in buffer.frames;
    settled = buffer.settled;
    log_pages = buffer.log_pages;
    area = buffer.area;
    stage = buffer.stage;
    asks = buffer.asks;
    outs = buffer.outs;
    room = room buffer.frames;
  }
