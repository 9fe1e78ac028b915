-- What the search for an identifier finds.
use Rattle.std.specs.Prelude.{ℕ, List, Option, MatchOption}
use Rattle.rss_base.specs.DiskRule.{IsTold}
use Rattle.rss_base.specs.Steps.{PagesView}
use Rattle.rss_base.specs.declared.tid.Tid.{Tid}
use Rattle.rss_tuple.specs.TupleSteps.{NoneIs}
use Rattle.rss_tuple.specs.Placing.{IsSpot, IsNew, IsNameable, IsChosen, home_for}

-- an identifier is the one that a new tuple gets
pub record IsPicked (view : PagesView) (segment length : ℕ) (barred : List Tid) (tid : Tid) : Type 0 where
  pub named : IsNameable view.slots barred tid
  pub chosen : IsTold view.disk → IsChosen view segment length barred tid

-- there is none
pub record NonePicked (view : PagesView) (segment : ℕ) (barred : List Tid) : Type 0 where
  pub no_spot : IsTold view.disk → NoneIs (IsSpot view (home_for segment 0 barred))
  pub no_new : NoneIs (IsNew view segment barred)

abbrev pub Picks : PagesView → ℕ → ℕ → List Tid → Option Tid → Type 0
Picks view segment length barred found = MatchOption found (NonePicked view segment barred) (IsPicked view segment length barred)
