use Rattle.std.proofs.Common.{◌≡◌, ℕ, ◌+◌, ◌*◌, ◌∙◌, List, length, ap, arith}
use Rattle.rss_base.specs.LogRecords.{record_size}
use Rattle.rss_base.specs.declared.log_record.LogRecord.TheVariants as records
use Rattle.rss_record.proofs.Marks.{length-marks_bytes}
use Rattle.rss_store.specs.Commits.{least_mark}
use Rattle.rss_store.proofs.Checkpointed.{mark_least}
use Rattle.rss_store.proofs.store.DurableStore.free_behind.Goals as goal

pub overflow_mul-pieces : goal.overflow_mul-pieces
overflow_mul-pieces g c =
    omega (arith, c.least_mark-head.ensures, mark_least c.end-end.result c.args.marks.now, c.end-end.ensures.end, c.requires.early, c.requires.ready.formed.log_most)

pub returns : goal.returns
returns g c =
    let marks = c.args.marks.now in
    let log = c.args.self.now.log in
    let size : record_size (records.Checkpoint marks) ≡ 2 + 12 * length marks = omega (arith, length-marks_bytes marks) in
    let head : c.least_mark-head.result ≡ least_mark log.end marks = c.least_mark-head.ensures ∙ ap (λ (n : ℕ). least_mark n marks) c.end-end.ensures.end in
    let pages : log.pages ≡ c.args.self.now.root.log_pages = c.requires.ready.log.pages in
    let slice : length c.as_slice.result.now ≡ length marks = ap (λ (l : List (ℕ × ℕ)). length l) c.as_slice.ensures.marks in
    omega (arith, c.saturating_sub.ensures, head, pages, size, slice, c.end-end.ensures.end)
