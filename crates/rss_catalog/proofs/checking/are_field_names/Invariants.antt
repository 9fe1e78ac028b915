use Rattle.std.proofs.Common.{ℕ, ◌<◌, get_or}
use Rattle.rss_base.specs.Names.{IsName}
use Rattle.rss_base.specs.declared.field.FieldDef.{FieldDef}
use Rattle.rss_catalog.proofs.checking.are_field_names.Given as goal

abbrev pub invariant-loop-field : goal.invariant-loop-field
invariant-loop-field l = (k : ℕ) (d : FieldDef) → k < l.field-index → IsName (get_or l.fields k d).name
