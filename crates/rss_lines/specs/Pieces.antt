-- What the parts of a look for a line do.
use Rattle.std.specs.Prelude.{◌≡◌, ℕ, ◌+◌, ◌<◌, ◌≤◌, Bool, true, false, not, List, [], ◌∷◌, ◌++◌, length, take, drop, Result, Ok, Err}
use Rattle.rss_base.specs.Faults.{Rises}
use Rattle.rss_base.specs.Streams.{Stream, Gives, IsAllOf}
use Rattle.rss_model.specs.Script.{IsUnbroken}
use Rattle.rss_lines.specs.Lines.{LinesView, line_end, piece_most, script_limit}
use Rattle.rss_lines.specs.declared.unread.Unread.{Unread}
use Rattle.rss_lines.specs.declared.unread.Unread.TheVariants.{ReadFault, NoMemory, TooLong}

-- so many of the bytes that were read go to the line, as far as it is kept
abbrev pub passed : LinesView → ℕ → LinesView
passed lines count = record lines {
  line = take lines.keep (lines.line ++ take count lines.rest);
  rest = drop count lines.rest;
}

-- what stands behind these bytes of a line: its end, if it was found, and the rest
abbrev pub behind : Bool → List ℕ → List ℕ
behind true rest = line_end ∷ rest
behind false rest = rest

-- What was read was looked through up to the end of the line, or all of it, where that isn't there.
pub record FindsEnd (old new : LinesView) (found : Bool) : Type 0 where
  pub bytes : List ℕ
  pub unbroken : IsUnbroken bytes
  pub parts : old.rest ≡ bytes ++ behind found new.rest
  pub none : found ≡ false → new.rest ≡ []
  pub is : new ≡ record old { line = take old.keep (old.line ++ bytes); rest = new.rest }

-- whether the source has no more, by the result of a read of the next piece
abbrev pub is_end : Result Bool Unread → Bool
is_end (Ok filled) = not filled
is_end (Err why) = false

-- How a read of the next piece ends, by its result.
abbrev pub FillsTo : LinesView → Stream → Stream → List ℕ → Result Bool Unread → Type 0
FillsTo new before after more (Ok true) = 0 < length more
FillsTo new before after more (Ok false) =
    (more ≡ []) × IsAllOf before.bytes [] × (new.taken < script_limit)
FillsTo new before after more (Err ReadFault) =
    (more ≡ []) × (new.taken < script_limit) × Rises before.faults after.faults
FillsTo new before after more (Err TooLong) = (more ≡ []) × (new.taken ≡ script_limit)
FillsTo new before after more (Err NoMemory) = ⊥

pub record Fills (old new : LinesView) (before after : Stream) (result : Result Bool Unread)
    : Type 0 where
  pub more : List ℕ
  pub gives : Gives before.bytes more after.bytes
  pub later : before.faults ≤ after.faults
  pub is : new ≡ record old { taken = old.taken + length more; rest = more; over = is_end result }
  pub most : new.taken ≤ script_limit
  pub few : length more ≤ piece_most
  pub outcome : FillsTo new before after more result
