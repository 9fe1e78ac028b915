use Rattle.std.proofs.Common.{ℕ, ◌≤◌, [], ◌∷◌, refl, rules, arith}
use Rattle.std.specs.Prelude.{replicate}
use Rattle.rss_base.specs.Names.{IsName}
use Rattle.rss_embed.proofs.define.Goals as goal

-- a name of one letter
a_name : (letter : ℕ) → 97 ≤ letter → letter ≤ 122 → IsName (record { bytes = letter ∷ replicate 15 0 })
a_name letter low high = record { first = letter; rest = []; bytes = refl; letter = (low, high); each = search rules; few = omega arith }

pub ask-requires : goal.ask-requires
ask-requires g c = record { names = a_name 115 (omega arith) (omega arith); granule = tt }
