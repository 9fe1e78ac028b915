use Rattle.std.proofs.Common.{◌≡◌, ◌++◌, drop}
use Rattle.rss_base.specs.TupleTypes.{chosen}
use Rattle.rss_model.specs.Images.{numbers_of}
use Rattle.rss_plain.proofs.keys.key_of.Given as goal

abbrev pub invariant-loop-name : goal.invariant-loop-name
invariant-loop-name l =
    l.key ++ chosen (numbers_of l.fields (drop l.name-index l.names)) l.values
    ≡ chosen (numbers_of l.fields l.names) l.values
