-- What a checkpoint leaves.
use Rattle.std.specs.Prelude.{◌≡◌}
use Rattle.rss_base.specs.DiskRule.{IsTold}
use Rattle.rss_base.specs.Steps.{NoneChanged}
use Rattle.rss_model.specs.Machine.{State}
use Rattle.rss_model.specs.Rules.{saved_now}
use Rattle.rss_store.specs.Commits.{StandsAtCheckpoint}
use Rattle.rss_store.specs.Stores.{IsSaved}
use Rattle.rss_session.specs.Weighing.{saved_end}
use Rattle.rss_rsi.specs.Views.{RssParts, IsIn}

-- A checkpoint was taken: no page is changed that isn't saved, the selected root has the whole log and a map with each page, and the log ends with the checkpoint's record. In each state that was shown, what a stop leaves has the tables now in its pages, lists the changes of open transactions, and has nothing behind that record.
pub record HasCheckpointOf (old new : RssParts) : Type 0 where
  pub unchanged : NoneChanged new.session.store.pages
  pub saved : IsSaved new.session.store
  pub begins : new.session.store.root.checkpoint ≡ old.session.store.log.end
  pub ends : new.session.store.root.end ≡ saved_end old.session
  pub stands : IsTold old.session.store.pages.disk → (state : State) → IsIn old state
      → StandsAtCheckpoint new.session.store (record state { meter = saved_now state })
