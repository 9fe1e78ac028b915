use Rattle.std.proofs.Common.{◌∙◌, [], ◌∷◌, ap}
use Rattle.std.specs.Int.{w64}
use Rattle.std.proofs.lemmas.Int.{to_z-of_z}
use Rattle.rss_base.specs.declared.value.Value.TheVariants.{Int}
use Rattle.rss_embed.proofs.insert.Goals as goal

pub returns-in-Tid : goal.returns-in-Tid
returns-in-Tid g c =
    let tuple = c.in_ok-tuple.ensures ∙ ap (λ z. Int z ∷ []) (to_z-of_z w64 c.args.value c.ranges.value) in
    rw tuple at (rw c.in-Tid.is at c.in_ok-other.ensures)
