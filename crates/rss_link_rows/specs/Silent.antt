-- Tuples that don't tell what they are.
use Rattle.std.specs.Prelude.{true, false, [], None}
use Rattle.rss_base.specs.Steps.{PagesView}
use Rattle.rss_images.specs.Silent.{silent}
use Rattle.rss_tuple.specs.TupleSteps.{TuplesView, tuples_in}

-- every page is there and in memory, over a device that tells nothing, and none is said to hold anything;
-- one more may be taken
abbrev pub no_pages : PagesView
no_pages = record {
  disk = silent;
  slots = 1;
  mapped = λ key. true;
  held = λ key. None;
  notes = λ key. None;
  changed = λ key. false;
  in_memory = λ key. true;
  spare = 1;
  asks = 0;
  writes = 0;
  faults = 0;
  outs = 0;
  fixed = record { size = 0; held_at = λ q. None };
  settled = false;
  backing = record { log_pages = 0; area = 0; frames = 0; shadow = [] };
}

abbrev pub untold : TuplesView
untold = tuples_in no_pages
