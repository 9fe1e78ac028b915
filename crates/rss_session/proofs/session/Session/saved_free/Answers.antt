use Rattle.std.proofs.Common.{◌+◌, ◌<◌, ◌≤◌, length, arith}
use Rattle.rss_base.specs.LogRecords.{longest_record, marks_most}
use Rattle.rss_base.specs.Sizes.{position_limit}
use Rattle.rss_record.proofs.Marks.{length-marks_bytes}
use Rattle.rss_session.proofs.session.Session.saved_free.Goals as goal

pub free_behind-requires-clause-early : goal.free_behind-requires-clause-early
free_behind-requires-clause-early g c =
    let few : length c.marks.result ≤ marks_most = c.marks.ensures.few in
    let early : c.args.self.now.store.log.end + longest_record < position_limit = c.requires.early in
    omega (arith, length-marks_bytes c.marks.result, few, early)
