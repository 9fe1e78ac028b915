-- A format: a device is made an empty store.
use Rattle.std.specs.Prelude.{◌≡◌, ◌⊎◌, ◌↔◌, ℕ, Ok}
use Rattle.rss_base.specs.DiskRule.{Disk, Pages, Told, IsTold, LeavesOnly}
use Rattle.rss_base.specs.Faults.{Rises}
use Rattle.rss_base.specs.Streams.{Takes, TakesFront}
use Rattle.rss_base.specs.declared.answer.Reply.TheVariants.{Ok as Done}
use Rattle.rss_model.specs.ReplyText.{answer_line}
use Rattle.rss_model.specs.Tables.{no_tables}
use Rattle.rss_stored.specs.Store.{OpensTo}
use Rattle.rss_store.specs.Formatted.{AreSizes, IsFormatted}
use Rattle.rss_top.specs.Run.{World}
use Rattle.rss_top.specs.declared.status.Status.{Status}
use Rattle.rss_top.specs.declared.status.Status.TheVariants.{Ok as Made, WriteFault, DeviceFault, NoMemory, WrongSize}

-- the pages are an empty store of these sizes, and a stop leaves no others
pub record IsMade (disk : Disk) (slots log_pages : ℕ) (pages : Pages) : Type 0 where
  pub formatted : IsFormatted slots log_pages pages
  pub opens : OpensTo pages (record { slots = slots; log_pages = log_pages }) no_tables
  pub only : LeavesOnly disk pages

-- How a format ends, by its status. A device that was made a store is so after a fault of the sink
-- too, which then has a front of the answer.
abbrev pub IsFormatEnd : ℕ → ℕ → World → World → Status → Type 0
IsFormatEnd slots log_pages old new Made =
    Told new.disk (IsMade new.disk slots log_pages)
    × Takes old.sink.bytes (answer_line (Ok Done)) new.sink.bytes
IsFormatEnd slots log_pages old new WriteFault =
    Told new.disk (IsMade new.disk slots log_pages)
    × TakesFront old.sink.bytes (answer_line (Ok Done)) new.sink.bytes
    × Rises old.sink.faults new.sink.faults
IsFormatEnd slots log_pages old new DeviceFault =
    Rises old.faults new.faults × (new.sink ≡ old.sink)
IsFormatEnd slots log_pages old new NoMemory = new.sink ≡ old.sink
IsFormatEnd slots log_pages old new WrongSize =
    (AreSizes slots log_pages → ⊥) × (new.sink ≡ old.sink)
IsFormatEnd slots log_pages old new status = ⊥

pub record IsFormat (slots log_pages : ℕ) (status : Status) (old new : World) : Type 0 where
  pub ends : IsFormatEnd slots log_pages old new status
  pub told : IsTold old.disk ↔ IsTold new.disk
  pub wrong : (AreSizes slots log_pages → ⊥) → status ≡ WrongSize
  -- Where a store can have the size and nothing fails, the device is made one, or memory ran out.
  pub complete : AreSizes slots log_pages
      → (Rises old.sink.faults new.sink.faults → ⊥) → (Rises old.faults new.faults → ⊥)
      → (status ≡ Made) ⊎ (status ≡ NoMemory)
