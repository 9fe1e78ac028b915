-- A relation with added fields and a late link, as the rows spell them.
use Rattle.std.specs.Prelude.{ℕ, Bool, true, false, [], ◌∷◌, replicate, None}
use Rattle.rss_base.specs.declared.field.FieldDef.{FieldDef}
use Rattle.rss_base.specs.declared.link.LinkEntry.{LinkEntry}
use Rattle.rss_base.specs.declared.name.Name.{Name}
use Rattle.rss_base.specs.declared.relation.RelationEntry.{RelationEntry}
use Rattle.rss_base.specs.declared.value.FieldKind.{FieldKind}
use Rattle.rss_base.specs.declared.value.FieldKind.TheVariants.{Int, Text}

-- the name of this letter
abbrev pub named : ℕ → Name
named letter = record { bytes = letter ∷ replicate 15 0 }

abbrev pub field : ℕ → FieldKind → Bool → FieldDef
field letter kind added = record { name = named letter; kind = kind; added = added }

-- the relation r with a of INT, and with b of INT and c of TEXT 3, which were added
abbrev pub two_added : RelationEntry
two_added = record {
  name = named 114;
  segment = 1;
  fields = field 97 Int false ∷ field 98 Int true ∷ field 99 (Text 3) true ∷ [];
  live = 0;
}

-- the late link l of its tuples, none of which stands in the chain
abbrev pub late_link : LinkEntry
late_link = record { name = named 108; parent = None; child = 1; late = true; first = None; last = None }
