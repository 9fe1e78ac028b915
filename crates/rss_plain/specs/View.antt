-- What a plain machine stands for.
use Rattle.std.specs.Ordering.{nat_cmp}
use Rattle.rss_lock.specs.Table.{told}
use Rattle.rss_model.specs.Items.{item_cmp, name_cmp}
use Rattle.rss_model.specs.Tables.{Definitions}
use Rattle.rss_model.specs.Machine.{State}
use Rattle.rss_plain.specs.declared.definitions.Definitions.{Definitions as Defined}
use Rattle.rss_plain.specs.declared.plain.Plain.{Plain}
use Rattle.rss_plain.specs.Maps.{mapped}
use Rattle.rss_plain.specs.Seen.{Seen, state_of}

abbrev pub definitions_of : Defined → Definitions
definitions_of defined = record {
  segments = mapped name_cmp defined.segments;
  relations = mapped name_cmp defined.relations;
  images = mapped name_cmp defined.images;
  links = mapped name_cmp defined.links;
}

abbrev pub view : Plain → Seen
view plain = record {
  slots = plain.slots;
  base = record {
    definitions = definitions_of plain.definitions;
    contents = mapped item_cmp plain.items.base;
  };
  changes = plain.items.changes;
  marks = mapped nat_cmp plain.marks;
  locks = (told plain.locks).locks;
  scans = mapped nat_cmp plain.scans;
}

-- one of the states that it shows
abbrev pub machine : Plain → State
machine plain = state_of (view plain)
