-- What a call may cost: how many pages it asks for, how many it writes, and whether it may lack memory.
use Rattle.std.specs.Prelude.{ℕ, ◌+◌, ◌*◌, ◌≤◌, Bool, true, false, Option, Some, None, IfSome}
use Rattle.rss_base.specs.Runs.{run_pages}
use Rattle.rss_base.specs.declared.call.Call.{Call}
use Rattle.rss_base.specs.declared.call.Call.TheVariants.{Begin, Save, Restore, End, Abort, Fetch, Parent, OpenRelation, OpenImage, OpenLink, Next, CloseScan, Lock, Checkpoint, MakeSegment, MakeRelation, MakeLink, DropSegment, DropRelation, DropImage, DropLink}

-- a count has risen by no more than this, where a bound is claimed
abbrev pub RisesAtMost : Option ℕ → ℕ → ℕ → Type 0
RisesAtMost most before now = IfSome most (λ n. now ≤ before + n)

-- How many pages a call asks for at most. A call that changes tuples looks for a page with room, and no bound is claimed of it.
abbrev pub most_asks : Call → Option ℕ
most_asks (Begin transaction) = Some 0
most_asks (Save transaction) = Some 0
most_asks (End transaction) = Some 0
most_asks (Fetch transaction relation tid) = Some 2
most_asks (OpenRelation transaction relation) = Some 0
most_asks (OpenImage transaction image start) = Some 0
most_asks (CloseScan transaction scan) = Some 0
most_asks (Lock transaction item exclusive) = Some 0
most_asks (MakeSegment name) = Some 0
most_asks (MakeRelation name segment fields) = Some 0
most_asks (DropSegment name) = Some 0
most_asks (DropRelation name) = Some 0
most_asks call = None

-- How many pages of the device a call writes at most. A page that is brought into memory may drive out another that was changed, with a run of pages beside it.
abbrev pub most_writes : Call → Option ℕ
most_writes (Begin transaction) = Some 0
most_writes (Save transaction) = Some 0
most_writes (Fetch transaction relation tid) = Some (run_pages * 2)
most_writes (OpenRelation transaction relation) = Some 0
most_writes (OpenImage transaction image start) = Some 0
most_writes (CloseScan transaction scan) = Some 0
most_writes (Lock transaction item exclusive) = Some 0
most_writes call = None

-- Whether a call may take a checkpoint. What begins, ends, undoes or looks takes none.
abbrev pub may_save : Call → Bool
may_save (Begin transaction) = false
may_save (Save transaction) = false
may_save (Restore transaction save) = false
may_save (End transaction) = false
may_save (Abort transaction) = false
may_save (Fetch transaction relation tid) = false
may_save (Parent transaction link child) = false
may_save (OpenRelation transaction relation) = false
may_save (OpenImage transaction image start) = false
may_save (OpenLink transaction link parent) = false
may_save (Next transaction scan) = false
may_save (CloseScan transaction scan) = false
may_save (Lock transaction item exclusive) = false
may_save call = true

-- Whether a call may be answered that memory ran out. What undoes, commits, saves or drops takes none.
abbrev pub may_lack_memory : Call → Bool
may_lack_memory (Restore transaction save) = false
may_lack_memory (End transaction) = false
may_lack_memory (Abort transaction) = false
may_lack_memory (CloseScan transaction scan) = false
may_lack_memory Checkpoint = false
may_lack_memory (MakeSegment name) = false
may_lack_memory (MakeLink name parent child) = false
may_lack_memory (DropSegment name) = false
may_lack_memory (DropRelation name) = false
may_lack_memory (DropImage name) = false
may_lack_memory (DropLink name) = false
may_lack_memory call = true
