use Rattle.std.proofs.Common.{◌≡◌, length, sym, ◌∙◌, rules}
use Rattle.rss_frames.specs.contracts.frames.Frames.{the_view}
use Rattle.rss_frames.specs.Entries.{entries, room}
use Rattle.rss_frames.proofs.Entries.{length_entries, entries_distinct}
use Rattle.rss_frames.proofs.frames.Frames.is_full.Goals as goal

pub returns-clause-full : goal.returns-clause-full
returns-clause-full c =
    let len = length_entries (the_view c.self.inside) in
    let most : c.room.result ≡ room (the_view c.self.inside) = c.room.ensures ∙ c.self.invariant.0.room in
    let count : length (entries (the_view c.self.inside)) ≡ c.len.result = len ∙ sym c.len.ensures in
    rw (← c.self.view_is) (rw (count, ← most) (search rules))

pub returns-clause-distinct : goal.returns-clause-distinct
returns-clause-distinct c = rw (← c.self.view_is) (entries_distinct (the_view c.self.inside) _ _ c.self.invariant.0)
