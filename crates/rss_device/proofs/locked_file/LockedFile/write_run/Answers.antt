use Rattle.rss_device.proofs.FileRuns.{run_written}
use Rattle.rss_device.proofs.locked_file.LockedFile.write_run.Goals as goal

pub returns-clause-written : goal.returns-clause-written
returns-clause-written g c = run_written _ _ _ _ _ _ c.told-from c.in_ok-offset.ensures.value c.as_flattened.ensures.value c.write_from.ensures.written
