-- What pages end as, once two of them that were lent have ended.
use Rattle.std.specs.Prelude.{ℕ, List, [], slice_index_or, slice_set}
use Rattle.std.specs.Borrow.{follows_both, MutBor, Fml, Array, u8}
use Rattle.rss_frames.specs.declared.pairs.TwoPages.{TwoPages}

abbrev pub page_at : List (List ℕ) → ℕ → List ℕ
page_at pages at = slice_index_or pages at []

-- with one page written to i and then one to j
abbrev pub with_two : List (List ℕ) → ℕ → ℕ → List ℕ → List ℕ → List (List ℕ)
with_two pages i j v w = slice_set (slice_set pages i v) j w

abbrev pub LendsPair : MutBor (List (List ℕ)) → ℕ → ℕ → TwoPages → Fml
LendsPair s i j r = follows_both (Array (Array u8 4096) 0) (Array u8 4096) (Array u8 4096) s.ghost_name r.first.ghost_name r.second.ghost_name (with_two s.now i j)
