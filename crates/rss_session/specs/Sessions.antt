-- A durable store with its open transactions, as its callers see it, and what holds of it between two calls, whatever its device tells.
use Rattle.std.specs.Prelude.{◌≡◌, ℕ, ◌+◌, ◌-◌, ◌*◌, ◌^◌, ◌<◌, ◌≤◌, min, true, List, [], ◌∷◌}
use Rattle.std.specs.FinMap.{values}
use Rattle.rss_base.specs.Sizes.{largest_checkpoint, position_limit}
use Rattle.rss_log.specs.Logs.{free_of}
use Rattle.rss_model.specs.Meter.{restore_size, end_size}
use Rattle.rss_model.specs.Spares.{ChangeCounts, listed_bound, page_counts, HasRoomFor, IsInSession}
use Rattle.rss_trans.specs.declared.noted.Noted.{Noted}
use Rattle.rss_trans.specs.declared.sums.Sums.{Sums}
use Rattle.rss_trans.specs.Transactions.{OpenView, is_open, transaction_in, any, sums_of}
use Rattle.rss_store.specs.Stores.{StoreView}
use Rattle.rss_store.specs.Stores.{IsReady as IsStoreReady}

-- store: the durable store.
-- open: the open transactions.
-- heap: how many home and overflow pages there were at the last checkpoint.
-- surviving: how many changes of open transactions survived there.
-- entries: how many tuples the relation of each number had there.
-- survived: how many changes of its tuples by open transactions survived there.
pub record SessionView : Type 1 where
  pub store : StoreView
  pub opened : OpenView
  pub heap : ℕ
  pub surviving : ℕ
  pub entries : ℕ → ℕ
  pub survived : ℕ → ℕ

-- what was counted at the last checkpoint stays
pub record CountsStill (old new : SessionView) : Type 0 where
  pub heap : new.heap ≡ old.heap
  pub surviving : new.surviving ≡ old.surviving
  pub entries : new.entries ≡ old.entries
  pub survived : new.survived ≡ old.survived

-- ---- what is counted

-- as far as a u32 counts
abbrev pub few : ℕ → ℕ
few count = min count (2 ^ 32 - 1)

-- how many entries an image of the relation of a number may have: its tuples at the last checkpoint, and as many as changes may add to them
abbrev pub most_in : SessionView → ℕ → ℕ
most_in view number = view.entries number + view.survived number + 2 * few (view.opened.since_of number)

-- what was counted at the last checkpoint, and since then
abbrev pub counts : SessionView → ChangeCounts
counts view = record {
  heap = view.heap;
  surviving = view.surviving;
  since = view.opened.since;
  images = listed_bound view.store.catalog.listing (most_in view);
}

-- the sums over all changes of open transactions
abbrev pub sums_in : OpenView → Sums
sums_in opened = sums_of any opened.since (values opened.transactions)

-- how many bytes of the log so many changes of so many transactions are owed
abbrev pub owed_for : ℕ → ℕ → ℕ
owed_for p q = restore_size * p + end_size * q + largest_checkpoint

abbrev pub owed_by : OpenView → ℕ
owed_by opened = owed_for (sums_in opened).p (sums_in opened).q

-- ---- where the changes stand

-- the changes stand one behind another, from a position on and before another
abbrev pub AreRising : ℕ → ℕ → List Noted → Type 0
AreRising low high [] = low ≤ high
AreRising low high (note ∷ notes) = (low ≤ note.position) × AreRising (note.position + 1) high notes

-- ---- between two calls

-- A call may be made. Pages are spare for all changes that may be undone, and the log has room for what is owed to them.
pub record IsReady (view : SessionView) : Type 0 where
  pub store : IsStoreReady view.store
  pub pages : IsInSession (counts view) (sums_in view.opened).p (page_counts view.store.pages)
  pub room : HasRoomFor (counts view) (page_counts view.store.pages)
  pub saved : (page_counts view.store.pages).saved_images ≤ (counts view).images
  pub log : owed_by view.opened ≤ free_of view.store.log
  pub placed : (t : ℕ) → AreRising view.store.log.head view.store.log.end (transaction_in view.opened t).changes
  pub numbers : (t : ℕ) → is_open view.opened t ≡ true → t < 2 ^ 32

-- A checkpoint may be taken, if there is room for it.
pub record CanSave (view : SessionView) : Type 0 where
  pub store : IsStoreReady view.store
  pub log : owed_by view.opened ≤ free_of view.store.log
  pub placed : (t : ℕ) → AreRising view.store.log.head view.store.log.end (transaction_in view.opened t).changes
  pub numbers : (t : ℕ) → is_open view.opened t ≡ true → t < 2 ^ 32

-- Positions stay numbers where records of so many bytes are appended.
abbrev pub IsEarly : SessionView → ℕ → Type 0
IsEarly view bytes = view.store.log.end + bytes < position_limit
