-- The pieces of the log in memory, and the log of the root that was last written.
use Rattle.std.proofs.Common.{◌≡◌, ℕ, ◌+◌, ◌-◌, ◌*◌, ◌/◌, ◌<◌, ◌≤◌, List, ◌++◌, length, take, drop, sym, ◌∙◌, ap, drop-drop, length-drop, arith}
use Rattle.rss_base.specs.Sizes.{piece_bytes}
use Rattle.rss_base.specs.DiskRule.{Pages}
use Rattle.rss_base.specs.Layout.{log_at}
use Rattle.rss_base.specs.declared.root.Root.{Root}
use Rattle.rss_base.specs.LogPages.{piece, Grows}
use Rattle.rss_log.specs.Logs.{LogView, IsLog, bytes_from, piece_of, piece_start, tail_of}

-- the bytes from a later position on
later_bytes : (log : LogView) (position later : ℕ) → piece_start log.head ≤ position → position ≤ later → bytes_from log later ≡ drop (later - position) (bytes_from log position)
later_bytes log position later low high =
    sym (drop-drop (later - position) (position - piece_start log.head) log.kept ∙ ap (λ (n : ℕ). drop n log.kept) (omega arith))

pub grown : (log : LogView) (root : Root) (more : List ℕ) (pages : Pages) → IsLog log → piece_start log.head ≤ piece_start root.end → log.end ≡ root.end + length more → bytes_from log (piece_start root.end) ≡ root.tail ++ more
    → ((k : ℕ) → root.end / piece_bytes ≤ k → k < log.end / piece_bytes → piece pages (log_at root.slots) root.log_pages k ≡ piece_of log k) → Grows root more pages log.end (tail_of log)
grown log root more pages is low end bytes each =
    let first : ℕ = root.end / piece_bytes in
    let count : ℕ = log.end / piece_bytes - root.end / piece_bytes in
    let long : length (root.tail ++ more) ≡ log.end - piece_start root.end = ap length (sym bytes) ∙ length-drop (piece_start root.end - piece_start log.head) log.kept ∙ omega (arith, is.long) in
    record {
      end_is = end;
      full = record {
        each = λ i lt.
            let gap : (first + i) * piece_bytes - piece_start root.end ≡ piece_bytes * i = omega arith in
            each (first + i) (omega arith) (omega arith)
            ∙ ap (take piece_bytes) (later_bytes log (piece_start root.end) ((first + i) * piece_bytes) low (omega arith) ∙ (λ j. drop (gap j) (bytes j)));
        enough = omega (arith, long);
      };
      tail_is =
          let gap : piece_start log.end - piece_start root.end ≡ piece_bytes * count = omega arith in
          later_bytes log (piece_start root.end) (piece_start log.end) low (omega arith) ∙ (λ j. drop (gap j) (bytes j));
    }
