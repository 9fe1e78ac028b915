use Rattle.std.proofs.Common.{◌≡◌, ◌∷◌, ◌++◌, drop}
use Rattle.std.specs.Prelude.{filter, flat_map, option_copied, option_to_list}
use Rattle.rss_model.specs.Machine.{now}
use Rattle.rss_model.specs.Needs.{key_needs, keys_of_each}
use Rattle.rss_plain.specs.Tests.{is_unique_of}
use Rattle.rss_plain.specs.View.{machine}
use Rattle.rss_plain.proofs.plain.Plain.push_keys.Given as goal

abbrev pub invariant-loop-image : goal.invariant-loop-image
invariant-loop-image l =
    l.needs.items ++ flat_map
    (keys_of_each (now (machine l.self)) (l.values ∷ option_to_list (option_copied l.fn.others)))
    (filter (λ image. is_unique_of l.relation image.1) (drop l.image-index l.images))
    ≡ l.fn.needs.items ++ key_needs (now (machine l.self)) l.relation
    (l.values ∷ option_to_list (option_copied l.fn.others))
