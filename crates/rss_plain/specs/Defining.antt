-- Tests of calls that define, where the machine's lists have them without a name.
use Rattle.std.specs.Prelude.{◌||◌, nat_le, List, length, Option}
use Rattle.std.specs.List.{list_any}
use Rattle.rss_base.specs.TupleTypes.{are_kinds, field_names, kinds, most_width, width}
use Rattle.rss_base.specs.declared.field.FieldDef.{FieldDef}
use Rattle.rss_base.specs.declared.name.Name.{Name}
use Rattle.rss_base.specs.declared.refusal.LimitKind.TheVariants.{Fields as FieldLimit, Roles as RoleLimit, Width as WidthLimit}
use Rattle.rss_base.specs.declared.refusal.Refusal.{Refusal}
use Rattle.rss_base.specs.declared.refusal.Refusal.TheVariants.{Limit, NameTaken, NotEmpty}
use Rattle.rss_model.specs.Defining.{has_image, has_link, has_twice, holds_tuples, is_image, is_in_most_links, is_link, is_relation, is_segment, originals, refused_if, refused_unless}
use Rattle.rss_model.specs.Machine.{State}
use Rattle.rss_model.specs.Meter.{relations_in}

-- the names are taken
abbrev pub if_segment_taken : State → Name → Option Refusal
if_segment_taken state name = refused_if (is_segment state name) NameTaken

abbrev pub if_relation_taken : State → Name → List FieldDef → Option Refusal
if_relation_taken state name fields =
    refused_if (is_relation state name || has_twice (field_names fields)) NameTaken

abbrev pub if_image_taken : State → Name → List Name → Option Refusal
if_image_taken state name fields = refused_if (is_image state name || has_twice fields) NameTaken

abbrev pub if_link_taken : State → Name → List Name → Option Refusal
if_link_taken state name relations = refused_if (is_link state name || has_twice relations) NameTaken

-- they are used
abbrev pub if_segment_used : State → Name → Option Refusal
if_segment_used state name = refused_if (nat_le 1 (length (relations_in state.base name))) NotEmpty

abbrev pub if_relation_used : State → Name → Option Refusal
if_relation_used state name =
    refused_if (holds_tuples state name || has_image state name || has_link state name) NotEmpty

-- how many fields a relation has, and of which kinds, and how wide they are
abbrev pub unless_formed : List FieldDef → Option Refusal
unless_formed fields = refused_unless (are_kinds (kinds (originals fields))) (Limit FieldLimit)

abbrev pub unless_slim : List FieldDef → Option Refusal
unless_slim fields = refused_unless (nat_le (width (kinds (originals fields))) most_width) (Limit WidthLimit)

-- an image has a field
abbrev pub unless_some : List Name → Option Refusal
unless_some fields = refused_unless (nat_le 1 (length fields)) (Limit FieldLimit)

abbrev pub if_in_most : State → List Name → Option Refusal
if_in_most state relations = refused_if (list_any (is_in_most_links state) relations) (Limit RoleLimit)
