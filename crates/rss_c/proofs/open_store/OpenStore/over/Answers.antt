use Rattle.rss_device.specs.StepDevice.{view_of}
use Rattle.rss_c.proofs.Openings.{lacks_over}
use Rattle.rss_c.proofs.open_store.OpenStore.over.Goals as goal

pub returns-clause-refused : goal.returns-clause-refused
returns-clause-refused c = lacks_over (view_of c.args.device) c.without_device.result.fault c.without_device.ensures
