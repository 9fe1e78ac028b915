-- What there is to see of a generated script that is read as a source.
use Rattle.std.specs.Prelude.{ℕ, List, ◌++◌, drop, Some}
use Rattle.rss_base.specs.Streams.{Stream}
use Rattle.rss_model.specs.Generator.{generated}
use Rattle.rss_model.specs.Script.{joined}
use Rattle.rss_top.specs.declared.generated.GeneratedScript.{GeneratedScript}

-- the rest of the line that was made last, and the lines behind it
abbrev pub left_of : GeneratedScript → List ℕ
left_of script =
    drop script.given script.line
    ++ joined (drop script.next (generated script.number script.count))

-- it tells them
abbrev pub view_of : GeneratedScript → Stream
view_of script = record { bytes = Some (left_of script); faults = script.faults }
