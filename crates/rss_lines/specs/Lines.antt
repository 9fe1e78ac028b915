-- The lines of a source, one after another.
use Rattle.std.specs.Prelude.{◌≡◌, ◌⊎◌, ℕ, ◌+◌, ◌^◌, ◌<◌, ◌≤◌, Bool, true, false, List, [], ◌∷◌, ◌++◌, length, take, Result, Ok, Err}
use Rattle.rss_base.specs.Faults.{Rises}
use Rattle.rss_base.specs.Streams.{Stream, Gives, IsAllOf}
use Rattle.rss_model.specs.Script.{IsUnbroken}
use Rattle.rss_lines.specs.declared.unread.Unread.{Unread}
use Rattle.rss_lines.specs.declared.unread.Unread.TheVariants.{ReadFault, NoMemory, TooLong}

-- the byte that ends a line
abbrev pub line_end : ℕ
line_end = 10

-- a script has fewer bytes than this
abbrev pub script_limit : ℕ
script_limit = 2 ^ 30

-- the source is asked for no more bytes than these at a time
abbrev pub piece_most : ℕ
piece_most = 65536

-- What there is to see of the lines of a source.
-- keep: so many bytes of a line are kept. taken: so many the source gave. line: what is kept of the
-- line that was found last. rest: what the source gave behind that line. over: the source had no more.
pub record LinesView : Type 0 where
  pub keep : ℕ
  pub taken : ℕ
  pub line : List ℕ
  pub rest : List ℕ
  pub over : Bool

-- where nothing was read
abbrev pub at_start : ℕ → LinesView
at_start keep = record { keep = keep; taken = 0; line = []; rest = []; over = false }

-- no line ends in what is left, and the source isn't over
pub record MayRead (lines : LinesView) : Type 0 where
  pub unbroken : IsUnbroken lines.rest
  pub going : lines.over ≡ false

-- The source gave more, and a line was looked through, or its front, and kept as far as lines are.
pub record Seeks (old new : LinesView) (before after : Stream) (more line : List ℕ) : Type 0 where
  pub gives : Gives before.bytes more after.bytes
  pub later : before.faults ≤ after.faults
  pub taken : new.taken ≡ old.taken + length more
  pub most : new.taken ≤ script_limit
  pub unbroken : IsUnbroken line
  pub kept : new.line ≡ take old.keep line
  pub same_keep : new.keep ≡ old.keep

-- The source was over before, or has no more than this; and of what it gave nothing is left.
pub record IsOver (old new : LinesView) (before : Stream) (more : List ℕ) : Type 0 where
  pub all : (old.over ≡ true) ⊎ IsAllOf before.bytes more
  pub none : new.rest ≡ []
  pub short : new.taken < script_limit

-- A line was found with its end, or the last line, which has none.
pub data Finds (new : LinesView) (bytes line : List ℕ) : Type 0 where
  ended : bytes ≡ line ++ line_end ∷ new.rest → new.over ≡ false → Finds new bytes line
  last : bytes ≡ line → 0 < length line → new.over ≡ true → Finds new bytes line

-- all that was read is the front of a line
pub record IsFront (new : LinesView) (bytes line : List ℕ) : Type 0 where
  pub whole : bytes ≡ line
  pub none : new.rest ≡ []

-- How a look for the next line ends, by its result. bytes: what was left, and what the source gave.
-- False: the script is over. The front of a line that an error leaves is no part of the rest.
abbrev pub AdvancesTo : LinesView → List ℕ → List ℕ → Result Bool Unread → Type 0
AdvancesTo new bytes line (Ok true) = Finds new bytes line
AdvancesTo new bytes line (Ok false) = (bytes ≡ []) × (line ≡ []) × (new.over ≡ true)
AdvancesTo new bytes line (Err ReadFault) = IsFront new bytes line × (new.taken < script_limit)
AdvancesTo new bytes line (Err TooLong) = IsFront new bytes line × (new.taken ≡ script_limit)
AdvancesTo new bytes line (Err NoMemory) = bytes ≡ line ++ new.rest

pub record Advances (old new : LinesView) (before after : Stream) (result : Result Bool Unread)
    : Type 0 where
  pub more : List ℕ
  pub line : List ℕ
  pub seeks : Seeks old new before after more line
  pub outcome : AdvancesTo new (old.rest ++ more) line result
  pub ahead : length new.rest ≤ piece_most
  pub reads : (after ≡ before) ⊎ MayRead old
  pub over : new.over ≡ true → IsOver old new before more
  pub stays_over : old.over ≡ true → result ≡ Ok false
  pub cause : result ≡ Err ReadFault → Rises before.faults after.faults
