-- The replies of a trial, counted, and what it writes of them.
use Rattle.std.specs.Prelude.{◌≡◌, ℕ, ◌+◌, Bool, List, ◌++◌, length, count_by, codes, decimal, nat_eq}
use Rattle.std.specs.List.{starts_with}
use Rattle.rss_base.specs.Streams.{Stream}
use Rattle.rss_model.specs.ReplyText.{not_a_store_line, damaged_line}
use Rattle.rss_model.specs.Script.{AreLines}
use Rattle.rss_top.specs.Says.{Says}
use Rattle.rss_top.specs.declared.status.Status.{Status}
use Rattle.rss_top.specs.declared.status.Status.TheVariants.{Ok, Words, ReadFault, WriteFault, DeviceFault, NotAStore, Damaged, NoMemory, TooLong, WrongSize}

-- ---- replies, counted

abbrev pub is_refusal : List ℕ → Bool
is_refusal line = starts_with nat_eq line (codes "refused")

abbrev pub refusals : List (List ℕ) → ℕ
refusals = count_by is_refusal

-- Of the lines of a text so many begin with `refused`, and so many don't.
pub record IsTally (text : List ℕ) (ok refused : ℕ) : Type 0 where
  pub replies : List (List ℕ)
  pub are_lines : AreLines text replies
  pub all : ok + refused ≡ length replies
  pub some : refused ≡ refusals replies

abbrev pub tally_line : ℕ → ℕ → List ℕ
tally_line ok refused =
    codes "lines " ++ decimal (ok + refused) ++ codes " ok " ++ decimal ok
    ++ codes " refused " ++ decimal refused ++ codes "\n"

-- the line of the tally of these replies
pub record TellsTally (replies : List ℕ) (status : Status) (old new : Stream) : Type 0 where
  pub ok : ℕ
  pub refused : ℕ
  pub tally : IsTally replies ok refused
  pub says : Says Ok (tally_line ok refused) status old new

-- ---- what is written

-- the trial ends so, and nothing is written
pub record TellsNothing (meant status : Status) (old new : Stream) : Type 0 where
  pub same_status : status ≡ meant
  pub silent : new ≡ old

-- What a trial writes, by how the run of its script ended, with these replies. The run's source and
-- its sink fail for want of memory alone.
abbrev pub TellsTrial : Status → List ℕ → Status → Stream → Stream → Type 0
TellsTrial Ok replies status old new = TellsTally replies status old new
TellsTrial (NotAStore place) replies status old new =
    Says (NotAStore place) (not_a_store_line place) status old new
TellsTrial (Damaged place) replies status old new =
    Says (Damaged place) (damaged_line place) status old new
TellsTrial DeviceFault replies status old new = TellsNothing DeviceFault status old new
TellsTrial ReadFault replies status old new = TellsNothing NoMemory status old new
TellsTrial WriteFault replies status old new = TellsNothing NoMemory status old new
TellsTrial NoMemory replies status old new = TellsNothing NoMemory status old new
TellsTrial Words replies status old new = ⊥
TellsTrial TooLong replies status old new = ⊥
TellsTrial WrongSize replies status old new = ⊥
