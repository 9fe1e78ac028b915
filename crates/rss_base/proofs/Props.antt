-- Facts by cases of which any two proofs are equal.
use Rattle.std.proofs.Common.{ℕ}
use Rattle.std.proofs.Props.{props}
use Rattle.rss_base.specs.PageMap.{IsSegmentOf}
use Rattle.rss_base.specs.declared.key.Space.{Space}
use Rattle.rss_base.specs.declared.key.Space.TheVariants.{Home, Overflow, Image, System}

pub IsSegmentOf-prop : (space : Space) (segment : ℕ) → IsProp (IsSegmentOf space segment)
IsSegmentOf-prop Home segment = hlevel props
IsSegmentOf-prop Overflow segment = hlevel props
IsSegmentOf-prop Image segment = hlevel props
IsSegmentOf-prop System segment = hlevel props
