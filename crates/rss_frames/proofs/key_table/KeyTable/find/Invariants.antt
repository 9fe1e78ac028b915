use Rattle.std.proofs.Common.{◌≡◌, ℕ, List, Some}
use Rattle.rss_frames.specs.Lists.{Has}
use Rattle.rss_frames.specs.Table.{key_at}
use Rattle.rss_frames.proofs.Chain.{Rest, steps}
use Rattle.rss_frames.proofs.key_table.KeyTable.find.Given as goal

-- each frame that has the page is on what is left of the chain
abbrev pub invariant-loop-at : goal.invariant-loop-at
invariant-loop-at l = (rest : List ℕ) × Rest l.self-inside.links.items l.self-inside.room l.at rest × ((i : ℕ) → key_at l.self-inside.keys.items i ≡ Some l.key → Has i rest)

abbrev pub decreases-loop-at : goal.decreases-loop-at
decreases-loop-at l = steps l.self-inside.links.items l.self-inside.room l.self-inside.room l.at
