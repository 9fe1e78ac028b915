-- What survives of a list of changes, and the positions in it.
use Rattle.std.specs.Prelude.{◌<◌, List, [], ◌∷◌, filter, ⊤}
use Rattle.std.specs.List.{AllByRecursion}
use Rattle.rss_model.specs.Records.{Placed, Listed}
use Rattle.rss_model.specs.Restart.{stays}

abbrev pub winners : List Placed → List Listed → List Listed
winners ps ls = filter (stays ps) ls

-- positions fall: an older change has a lesser one
abbrev pub Falls : List Listed → Type 0
Falls [] = ⊤
Falls (l ∷ ls) = AllByRecursion (λ k. k.at < l.at) ls × Falls ls
