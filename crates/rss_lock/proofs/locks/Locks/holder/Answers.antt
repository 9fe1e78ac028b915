use Rattle.rss_lock.specs.Table.{mode_of, locks_of}
use Rattle.rss_lock.proofs.Barring.{least_holder}
use Rattle.rss_lock.proofs.Machine.{tells}
use Rattle.rss_lock.proofs.Firsts.{holder_is}
use Rattle.rss_lock.proofs.locks.Locks.holder.Goals as goal

pub returns : goal.returns
returns c = holder_is (locks_of c.args.self.now) (mode_of c.args.self.now) (tells c.args.self.now) c.args.item.now c.least_barring.result
    (least_holder (mode_of c.args.self.now) c.args.item.now c.least_barring.result c.least_barring.ensures)
