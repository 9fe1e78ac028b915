-- The numbers before this one are those of fields.
use Rattle.std.proofs.Common.{ℕ, ◌<◌, get_or, length}
use Rattle.rss_base.specs.Listings.{IsFieldNumber}
use Rattle.rss_catalog.proofs.checking.are_numbers.Given as goal

abbrev pub invariant-loop-number : goal.invariant-loop-number
invariant-loop-number l = (k : ℕ) (d : ℕ) → k < l.number-index → IsFieldNumber (length l.fields) (get_or l.numbers k d)
