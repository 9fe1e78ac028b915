use Rattle.std.proofs.Common.{◌≡◌, ℕ, ◌+◌, ◌*◌, length, min}
use Rattle.rss_base.specs.DiskRule.{Pages, page}
use Rattle.rss_pagemap.specs.Taking.{IsReading, BeginsArea}
use Rattle.rss_pagemap.proofs.reading.Reading.take_page.Given as goal

abbrev pub invariant-loop-place : goal.invariant-loop-place
invariant-loop-place l = record {
  reading : IsReading l.self;
  slots : l.self.slots ≡ l.initial.self.slots;
  long : length l.self.owners.items ≡ min (length l.initial.self.owners.items + l.place) l.initial.self.slots;
  taken : (pages : Pages) (first at : ℕ) → l.page ≡ page pages (first + at) → BeginsArea l.initial.self.slots pages first (512 * at) l.initial.self.owners.items → BeginsArea l.initial.self.slots pages first (512 * at + l.place) l.self.owners.items;
}
