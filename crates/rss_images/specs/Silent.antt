-- Pages that don't tell what they hold.
use Rattle.std.specs.Prelude.{None}
use Rattle.rss_base.specs.DiskRule.{Disk, IsTold}
use Rattle.rss_base.specs.Steps.{PagesView}

-- a device that tells nothing of its pages
abbrev pub silent : Disk
silent = record { contents = None; moment = 0; images = λ t image. ⊥ }

-- the same pages over such a device
abbrev pub untold : PagesView → PagesView
untold view = record view { disk = silent }

pub never_told : IsTold silent → ⊥
never_told told = let is = told.is in absurd (cc)
