-- All that a source tells.
use Rattle.std.proofs.Common.{ℕ, List, ◌++◌, Option, ◌∙◌, ap}
use Rattle.rss_base.specs.Streams.{Gives, IsAllOf}

-- what it gave, and all that it then told
pub all_then : {old mid : Option (List ℕ)} (first second : List ℕ) → Gives old first mid → IsAllOf mid second → IsAllOf old (first ++ second)
all_then first second gives all = λ told is.
    let moved = gives.moves told is in
    moved.2 ∙ ap (λ (l : List ℕ). first ++ l) (all moved.0 moved.1)
