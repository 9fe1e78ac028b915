use Rattle.rss_stored.proofs.Endings.{never_down}
use Rattle.rss_rsi.proofs.engine.RssEngine.call.Goals as goal

pub returns-in-Begin-clause-done : goal.returns-in-Begin-clause-done
returns-in-Begin-clause-done g c = rw c.in-Begin.is c.begin.ensures.did

pub returns-in-Begin-clause-untouched : goal.returns-in-Begin-clause-untouched
returns-in-Begin-clause-untouched g c = λ is. c.begin.ensures.untouched (λ up. never_down c.begin.ensures.did up is)

pub returns-in-Save-clause-done : goal.returns-in-Save-clause-done
returns-in-Save-clause-done g c = rw c.in-Save.is c.save.ensures.did

pub returns-in-Save-clause-untouched : goal.returns-in-Save-clause-untouched
returns-in-Save-clause-untouched g c = λ is. c.save.ensures.untouched (λ up. never_down c.save.ensures.did up is)

pub returns-in-Restore-clause-done : goal.returns-in-Restore-clause-done
returns-in-Restore-clause-done g c = rw c.in-Restore.is c.restore.ensures.did

pub returns-in-Restore-clause-untouched : goal.returns-in-Restore-clause-untouched
returns-in-Restore-clause-untouched g c = λ is. c.restore.ensures.untouched (λ up. never_down c.restore.ensures.did up is)

pub returns-in-End-clause-done : goal.returns-in-End-clause-done
returns-in-End-clause-done g c = rw c.in-End.is c.end.ensures.did

pub returns-in-End-clause-untouched : goal.returns-in-End-clause-untouched
returns-in-End-clause-untouched g c = λ is. c.end.ensures.untouched (λ up. never_down c.end.ensures.did up is)

pub returns-in-Abort-clause-done : goal.returns-in-Abort-clause-done
returns-in-Abort-clause-done g c = rw c.in-Abort.is c.abort.ensures.did

pub returns-in-Abort-clause-untouched : goal.returns-in-Abort-clause-untouched
returns-in-Abort-clause-untouched g c = λ is. c.abort.ensures.untouched (λ up. never_down c.abort.ensures.did up is)

pub returns-in-Insert-clause-done : goal.returns-in-Insert-clause-done
returns-in-Insert-clause-done g c = rw c.in-Insert.is c.insert.ensures.did

pub returns-in-Insert-clause-untouched : goal.returns-in-Insert-clause-untouched
returns-in-Insert-clause-untouched g c = λ is. c.insert.ensures.untouched (λ up. never_down c.insert.ensures.did up is)

pub returns-in-Fetch-clause-done : goal.returns-in-Fetch-clause-done
returns-in-Fetch-clause-done g c = rw c.in-Fetch.is c.fetch.ensures.did

pub returns-in-Fetch-clause-untouched : goal.returns-in-Fetch-clause-untouched
returns-in-Fetch-clause-untouched g c = λ is. c.fetch.ensures.untouched (λ up. never_down c.fetch.ensures.did up is)

pub returns-in-Update-clause-done : goal.returns-in-Update-clause-done
returns-in-Update-clause-done g c = rw c.in-Update.is c.update.ensures.did

pub returns-in-Update-clause-untouched : goal.returns-in-Update-clause-untouched
returns-in-Update-clause-untouched g c = λ is. c.update.ensures.untouched (λ up. never_down c.update.ensures.did up is)

pub returns-in-Delete-clause-done : goal.returns-in-Delete-clause-done
returns-in-Delete-clause-done g c = rw c.in-Delete.is c.delete.ensures.did

pub returns-in-Delete-clause-untouched : goal.returns-in-Delete-clause-untouched
returns-in-Delete-clause-untouched g c = λ is. c.delete.ensures.untouched (λ up. never_down c.delete.ensures.did up is)

pub returns-in-OpenRelation-clause-done : goal.returns-in-OpenRelation-clause-done
returns-in-OpenRelation-clause-done g c = rw c.in-OpenRelation.is c.open_relation.ensures.did

pub returns-in-OpenRelation-clause-untouched : goal.returns-in-OpenRelation-clause-untouched
returns-in-OpenRelation-clause-untouched g c = λ is. c.open_relation.ensures.untouched (λ up. never_down c.open_relation.ensures.did up is)

pub returns-in-Next-clause-done : goal.returns-in-Next-clause-done
returns-in-Next-clause-done g c = rw c.in-Next.is c.next.ensures.did

pub returns-in-Next-clause-untouched : goal.returns-in-Next-clause-untouched
returns-in-Next-clause-untouched g c = λ is. c.next.ensures.untouched (λ up. never_down c.next.ensures.did up is)

pub returns-in-CloseScan-clause-done : goal.returns-in-CloseScan-clause-done
returns-in-CloseScan-clause-done g c = rw c.in-CloseScan.is c.close_scan.ensures.did

pub returns-in-CloseScan-clause-untouched : goal.returns-in-CloseScan-clause-untouched
returns-in-CloseScan-clause-untouched g c = λ is. c.close_scan.ensures.untouched (λ up. never_down c.close_scan.ensures.did up is)

pub returns-in-Lock-clause-done : goal.returns-in-Lock-clause-done
returns-in-Lock-clause-done g c = rw c.in-Lock.is c.lock.ensures.did

pub returns-in-Lock-clause-untouched : goal.returns-in-Lock-clause-untouched
returns-in-Lock-clause-untouched g c = λ is. c.lock.ensures.untouched (λ up. never_down c.lock.ensures.did up is)

pub returns-in-Checkpoint-clause-done : goal.returns-in-Checkpoint-clause-done
returns-in-Checkpoint-clause-done g c = rw c.in-Checkpoint.is c.checkpoint.ensures.did

pub returns-in-Checkpoint-clause-untouched : goal.returns-in-Checkpoint-clause-untouched
returns-in-Checkpoint-clause-untouched g c = λ is. c.checkpoint.ensures.untouched (λ up. never_down c.checkpoint.ensures.did up is)

pub returns-in-MakeSegment-clause-done : goal.returns-in-MakeSegment-clause-done
returns-in-MakeSegment-clause-done g c = rw c.in-MakeSegment.is c.make_segment.ensures.did

pub returns-in-MakeSegment-clause-untouched : goal.returns-in-MakeSegment-clause-untouched
returns-in-MakeSegment-clause-untouched g c = λ is. c.make_segment.ensures.untouched (λ up. never_down c.make_segment.ensures.did up is)

pub returns-in-MakeRelation-clause-done : goal.returns-in-MakeRelation-clause-done
returns-in-MakeRelation-clause-done g c = rw c.in-MakeRelation.is c.make_relation.ensures.did

pub returns-in-MakeRelation-clause-untouched : goal.returns-in-MakeRelation-clause-untouched
returns-in-MakeRelation-clause-untouched g c = λ is. c.make_relation.ensures.untouched (λ up. never_down c.make_relation.ensures.did up is)

pub returns-in-DropSegment-clause-done : goal.returns-in-DropSegment-clause-done
returns-in-DropSegment-clause-done g c = rw c.in-DropSegment.is c.drop_segment.ensures.did

pub returns-in-DropSegment-clause-untouched : goal.returns-in-DropSegment-clause-untouched
returns-in-DropSegment-clause-untouched g c = λ is. c.drop_segment.ensures.untouched (λ up. never_down c.drop_segment.ensures.did up is)

pub returns-in-DropRelation-clause-done : goal.returns-in-DropRelation-clause-done
returns-in-DropRelation-clause-done g c = rw c.in-DropRelation.is c.drop_relation.ensures.did

pub returns-in-DropRelation-clause-untouched : goal.returns-in-DropRelation-clause-untouched
returns-in-DropRelation-clause-untouched g c = λ is. c.drop_relation.ensures.untouched (λ up. never_down c.drop_relation.ensures.did up is)

pub returns-in-Connect-clause-done : goal.returns-in-Connect-clause-done
returns-in-Connect-clause-done g c = rw c.in-Connect.is c.connect.ensures.did

pub returns-in-Connect-clause-untouched : goal.returns-in-Connect-clause-untouched
returns-in-Connect-clause-untouched g c = λ is. c.connect.ensures.untouched (λ up. never_down c.connect.ensures.did up is)

pub returns-in-Disconnect-clause-done : goal.returns-in-Disconnect-clause-done
returns-in-Disconnect-clause-done g c = rw c.in-Disconnect.is c.disconnect.ensures.did

pub returns-in-Disconnect-clause-untouched : goal.returns-in-Disconnect-clause-untouched
returns-in-Disconnect-clause-untouched g c = λ is. c.disconnect.ensures.untouched (λ up. never_down c.disconnect.ensures.did up is)

pub returns-in-Parent-clause-done : goal.returns-in-Parent-clause-done
returns-in-Parent-clause-done g c = rw c.in-Parent.is c.parent.ensures.did

pub returns-in-Parent-clause-untouched : goal.returns-in-Parent-clause-untouched
returns-in-Parent-clause-untouched g c = λ is. c.parent.ensures.untouched (λ up. never_down c.parent.ensures.did up is)

pub returns-in-OpenLink-clause-done : goal.returns-in-OpenLink-clause-done
returns-in-OpenLink-clause-done g c = rw c.in-OpenLink.is c.open_link.ensures.did

pub returns-in-OpenLink-clause-untouched : goal.returns-in-OpenLink-clause-untouched
returns-in-OpenLink-clause-untouched g c = λ is. c.open_link.ensures.untouched (λ up. never_down c.open_link.ensures.did up is)

pub returns-in-MakeLink-clause-done : goal.returns-in-MakeLink-clause-done
returns-in-MakeLink-clause-done g c = rw c.in-MakeLink.is c.make_link.ensures.did

pub returns-in-MakeLink-clause-untouched : goal.returns-in-MakeLink-clause-untouched
returns-in-MakeLink-clause-untouched g c = λ is. c.make_link.ensures.untouched (λ up. never_down c.make_link.ensures.did up is)

pub returns-in-DropLink-clause-done : goal.returns-in-DropLink-clause-done
returns-in-DropLink-clause-done g c = rw c.in-DropLink.is c.drop_link.ensures.did

pub returns-in-DropLink-clause-untouched : goal.returns-in-DropLink-clause-untouched
returns-in-DropLink-clause-untouched g c = λ is. c.drop_link.ensures.untouched (λ up. never_down c.drop_link.ensures.did up is)
