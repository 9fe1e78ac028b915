-- The pieces of the log, read into a ring.
use Rattle.std.proofs.Common.{◌≡◌, ℕ, ◌+◌, ◌-◌, ◌*◌, ◌/◌, ◌%◌, ◌≤◌, List, ◌++◌, length, get_or, take, sym, ◌∙◌, ap, length-take-le, arith}
use Rattle.rss_base.specs.Sizes.{piece_bytes}
use Rattle.rss_base.specs.DiskRule.{Pages, page}
use Rattle.rss_base.specs.LogPages.{piece, pieces, kept_from}
use Rattle.rss_log.specs.Rings.{ring_bytes, IsPut}
use Rattle.rss_log.specs.Logs.{piece_start}
use Rattle.rss_log.proofs.RingBytes.{written_behind, ring_bytes_are}
use Rattle.rss_log.proofs.LogRing.{pieces_more}

-- one piece more
pub piece_read : (pages : Pages) (first_page log_pages first number : ℕ) (old new bytes : List ℕ) → first ≤ number → (number + 1 - first) * piece_bytes ≤ length old → length bytes ≡ 4096
    → ring_bytes old (first * piece_bytes) ((number - first) * piece_bytes) ≡ pieces pages first_page log_pages first (number - first) → bytes ≡ page pages (first_page + number % log_pages) → IsPut (number * piece_bytes) (take piece_bytes bytes) old new
    → ring_bytes new (first * piece_bytes) ((number + 1 - first) * piece_bytes) ≡ pieces pages first_page log_pages first (number + 1 - first)
piece_read pages first_page log_pages first number old new bytes order room whole before bytes_are put =
    let n : ℕ = number - first in
    let long : length (take piece_bytes bytes) ≡ piece_bytes = length-take-le piece_bytes bytes (omega arith) in
    let more : ring_bytes new (first * piece_bytes) (number * piece_bytes + length (take piece_bytes bytes) - first * piece_bytes) ≡ ring_bytes old (first * piece_bytes) (number * piece_bytes - first * piece_bytes) ++ take piece_bytes bytes =
    written_behind old new (take piece_bytes bytes) (first * piece_bytes) (number * piece_bytes) put.long (omega arith) (omega (arith, long)) put.written put.others in
    let at : number ≡ first + n = omega arith in
    let last : take piece_bytes bytes ≡ piece pages first_page log_pages (first + n) = ap (take piece_bytes) bytes_are ∙ ap (piece pages first_page log_pages) at in
    let size : (number + 1 - first) * piece_bytes ≡ number * piece_bytes + length (take piece_bytes bytes) - first * piece_bytes = omega (arith, long) in
    let size_before : number * piece_bytes - first * piece_bytes ≡ (number - first) * piece_bytes = omega arith in
    let count : n + 1 ≡ number + 1 - first = omega arith in
    ap (ring_bytes new (first * piece_bytes)) size
    ∙ more
    ∙ (λ i. (ap (ring_bytes old (first * piece_bytes)) size_before ∙ before) i ++ last i)
    ∙ sym (pieces_more pages first_page log_pages first n)
    ∙ ap (pieces pages first_page log_pages first) count

-- the tail behind the last piece
pub tail_read : (pages : Pages) (first_page log_pages head end : ℕ) (old new tail : List ℕ) → head ≤ end → length tail ≡ end % piece_bytes → end - piece_start head ≤ length old
    → ring_bytes old (head / piece_bytes * piece_bytes) ((end / piece_bytes - head / piece_bytes) * piece_bytes) ≡ pieces pages first_page log_pages (head / piece_bytes) (end / piece_bytes - head / piece_bytes) → IsPut (end / piece_bytes * piece_bytes) tail old new
    → ring_bytes new (piece_start head) (end - piece_start head) ≡ kept_from pages first_page log_pages head end tail
tail_read pages first_page log_pages head end old new tail order long room before put =
    let more : ring_bytes new (piece_start head) (end / piece_bytes * piece_bytes + length tail - piece_start head) ≡ ring_bytes old (piece_start head) (end / piece_bytes * piece_bytes - piece_start head) ++ tail =
    written_behind old new tail (piece_start head) (end / piece_bytes * piece_bytes) put.long (omega arith) (omega (arith, long)) put.written put.others in
    let size : end - piece_start head ≡ end / piece_bytes * piece_bytes + length tail - piece_start head = omega (arith, long) in
    let size_before : end / piece_bytes * piece_bytes - piece_start head ≡ (end / piece_bytes - head / piece_bytes) * piece_bytes = omega arith in
    ap (ring_bytes new (piece_start head)) size ∙ more ∙ ap (λ (l : List ℕ). l ++ tail) (ap (ring_bytes old (piece_start head)) size_before ∙ before)

-- the tail stands there, whatever stood in front of it
pub tail_put : (end : ℕ) (old new tail : List ℕ) → length tail ≡ end % piece_bytes → IsPut (end / piece_bytes * piece_bytes) tail old new → ring_bytes new (end - end % piece_bytes) (end % piece_bytes) ≡ tail
tail_put end old new tail long put =
    let at : end - end % piece_bytes ≡ end / piece_bytes * piece_bytes = omega arith in
    (λ i. ring_bytes new (at i) (sym long i))
    ∙ ring_bytes_are new tail (end / piece_bytes * piece_bytes) (λ j lt. ap (λ (n : ℕ). get_or new ((end / piece_bytes * piece_bytes + j) % n) 0) put.long ∙ put.written j lt)
