-- What a layer above sees of a buffer.
use Rattle.std.specs.Prelude.{length, is_some}
use Rattle.rss_base.specs.Steps.{PagesView}
use Rattle.rss_base.specs.StoredPages.{mapped_by}
use Rattle.rss_shadow.specs.Maps.{spare}
use Rattle.rss_buffer.specs.Waiting.{waiting_in}
use Rattle.rss_buffer.specs.Slots.{fixed_by}
use Rattle.rss_buffer.specs.Buffered.{BufferView, held_of}
use Rattle.rss_buffer.specs.Saving.{SavingView, changed_by}

-- its pages
abbrev pub pages_view : BufferView → PagesView
pages_view view = record {
  disk = view.device.disk;
  slots = length view.maps.current;
  mapped = mapped_by view.maps.current;
  held = held_of view;
  notes = view.notes.notes;
  changed = changed_by view.maps;
  in_memory = λ key. is_some (view.frames key);
  spare = spare view.maps;
  asks = view.asks;
  writes = view.device.writes;
  faults = view.device.faults;
  outs = view.outs;
  fixed = fixed_by view.first view.maps.shadow view.device.disk.contents;
  settled = view.settled;
  backing = record { log_pages = view.log_pages; area = view.area; shadow = view.maps.shadow; frames = view.room };
}

-- what of them can be saved
abbrev pub saving_view : BufferView → SavingView
saving_view view = record {
  current = view.maps.current;
  stage = view.stage;
  waiting = waiting_in view.frames;
}
