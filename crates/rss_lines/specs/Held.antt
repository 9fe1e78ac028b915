-- What the lines of a source hold.
use Rattle.std.specs.Prelude.{◌≡◌, ◌<◌, ◌≤◌, true, length}
use Rattle.rss_lines.specs.Lines.{script_limit}
use Rattle.rss_lines.specs.declared.lines.Lines.TheInside.{Inside}
use Rattle.rss_lines.specs.declared.lines.TheConstants.{PIECE_BYTES}

-- over: the source had no more, so nothing is left
pub record IsHeld (l : Inside) : Type 0 where
  pub some : 1 ≤ l.keep
  pub few : length l.line.items ≤ l.keep
  pub size : length l.piece.items ≡ PIECE_BYTES
  pub until : l.until ≤ length l.piece.items
  pub from : l.from ≤ l.until
  pub most : l.taken ≤ script_limit
  pub over : l.over ≡ true → (l.from ≡ l.until) × (l.taken < script_limit)
