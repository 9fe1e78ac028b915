-- The tests of a call: what they say where it is not refused, and which refusal comes of them.
use Rattle.std.proofs.Common.{◌≡◌, ℕ, Bool, true, false, List, [], ◌∷◌, length, drop, sym, ◌∙◌, ap}
use Rattle.std.specs.Prelude.{Option, Some, None, option_map, slice_get, ◌||◌, nat_le, map as list_map}
use Rattle.std.specs.Ordering.{nat_cmp}
use Rattle.std.specs.Cmp.{nat_cmp_total}
use Rattle.std.specs.FinMap as map
use Rattle.std.specs.FinMap.{FinMap, entries as map_entries, put, entries-insert, len-entries, len-empty}
use Rattle.std.proofs.lemmas.Bool.{or_from}
use Rattle.rss_base.specs.Sizes.{segments, relations_most}
use Rattle.rss_base.specs.TupleTypes.{kinds, width, most_width, are_kinds, field_names}
use Rattle.rss_base.specs.declared.name.Name.{Name}
use Rattle.rss_base.specs.declared.field.FieldDef.{FieldDef}
use Rattle.rss_base.specs.declared.call.Call.TheVariants.{MakeSegment, MakeRelation, DropSegment, DropRelation}
use Rattle.rss_base.specs.declared.refusal.Kind.TheVariants.{Segment as SegmentKind, Relation as RelationKind}
use Rattle.rss_base.specs.declared.refusal.LimitKind.TheVariants.{Segments as SegmentLimit, Relations as RelationLimit, Fields as FieldLimit, Width as WidthLimit}
use Rattle.rss_base.specs.declared.refusal.Refusal.{Refusal}
use Rattle.rss_base.specs.declared.refusal.Refusal.TheVariants.{NoSuch, NameTaken, Limit, NotEmpty, TransactionsOpen}
use Rattle.rss_model.specs.Tables.{tuple_count}
use Rattle.rss_model.specs.Meter.{relations_in}
use Rattle.rss_model.specs.Machine.{State}
use Rattle.rss_model.specs.Defining.{originals, refused_unless, refused_if, least_open, if_any_open, is_segment, is_relation, has_twice, has_image, has_link}
use Rattle.rss_model.specs.Steps.{first_of, tests, refusal}
use Rattle.rss_model.proofs.Heap.{nothing}

-- ---- one test

pub goes_on : {first : Option Refusal} (rest : List (Option Refusal)) → first ≡ None → first_of (first ∷ rest) ≡ first_of rest
goes_on rest is = ap (λ (o : Option Refusal). first_of (o ∷ rest)) is

pub refuses_at : {first : Option Refusal} {why : Refusal} (rest : List (Option Refusal)) → first ≡ Some why → first_of (first ∷ rest) ≡ Some why
refuses_at rest is = ap (λ (o : Option Refusal). first_of (o ∷ rest)) is

pub refuses_if : {b : Bool} (why : Refusal) → b ≡ true → refused_if b why ≡ Some why
refuses_if why is = ap (λ (b : Bool). refused_if b why) is

pub passes_if : {b : Bool} (why : Refusal) → b ≡ false → refused_if b why ≡ None
passes_if why is = ap (λ (b : Bool). refused_if b why) is

pub refuses_unless : {b : Bool} (why : Refusal) → b ≡ false → refused_unless b why ≡ Some why
refuses_unless why is = ap (λ (b : Bool). refused_unless b why) is

pub passes_unless : {b : Bool} (why : Refusal) → b ≡ true → refused_unless b why ≡ None
passes_unless why is = ap (λ (b : Bool). refused_unless b why) is

-- ---- which transactions are open

-- the entries of a map with nothing, and with one
no_entries : map_entries (map.empty {X = List ℕ} {R = nat_cmp}) ≡ []
no_entries = nothing _ (sym (len-entries map.empty) ∙ len-empty nat_cmp (List ℕ))

pub none_open : (state : State) → state.marks ≡ map.empty → least_open state ≡ None
none_open state closed = ap (λ (marks : FinMap nat_cmp (List ℕ)). slice_get (map.keys marks) 0) closed ∙ ap (λ (es : List (ℕ × List ℕ)). slice_get (list_map (λ e. e.0) es) 0) no_entries

pub one_open : (state : State) (t : ℕ) (marks : List ℕ) → state.marks ≡ map.insert map.empty t marks → least_open state ≡ Some t
one_open state t marks is =
    ap (λ (all : FinMap nat_cmp (List ℕ)). slice_get (map.keys all) 0) is
    ∙ ap (λ (es : List (ℕ × List ℕ)). slice_get (list_map (λ e. e.0) es) 0) (entries-insert nat_cmp_total map.empty t marks ∙ ap (put nat_cmp t marks) no_entries)

-- ---- definitions that are refused

first_on : {a : Bool} (b c : Bool) → a ≡ true → (a || b || c) ≡ true
first_on b c on = ap (λ (x : Bool). x || b || c) on

-- nothing is open
module _ (state : State) (closed : least_open state ≡ None) where
  none_is_open : if_any_open state ≡ None
  none_is_open = ap (option_map TransactionsOpen) closed

  pub make_segment_taken : (name : Name) → is_segment state name ≡ true → refusal state (MakeSegment name) ≡ Some NameTaken
  make_segment_taken name taken = goes_on _ none_is_open ∙ refuses_at _ (refuses_if NameTaken taken)

  pub make_segment_many : (name : Name) → is_segment state name ≡ false → nat_le segments (map.len state.base.definitions.segments) ≡ true → refusal state (MakeSegment name) ≡ Some (Limit SegmentLimit)
  make_segment_many name fresh many = goes_on _ none_is_open ∙ goes_on _ (passes_if NameTaken fresh) ∙ refuses_at _ (refuses_if (Limit SegmentLimit) many)

  pub make_segment_passes : (name : Name) → is_segment state name ≡ false → nat_le segments (map.len state.base.definitions.segments) ≡ false → refusal state (MakeSegment name) ≡ None
  make_segment_passes name fresh room = goes_on _ none_is_open ∙ goes_on _ (passes_if NameTaken fresh) ∙ goes_on _ (passes_if (Limit SegmentLimit) room)

  pub drop_segment_lacks : (name : Name) → is_segment state name ≡ false → refusal state (DropSegment name) ≡ Some (NoSuch SegmentKind)
  drop_segment_lacks name absent = goes_on _ none_is_open ∙ refuses_at _ (refuses_unless (NoSuch SegmentKind) absent)

  pub drop_segment_full : (name : Name) → is_segment state name ≡ true → nat_le 1 (length (relations_in state.base name)) ≡ true → refusal state (DropSegment name) ≡ Some NotEmpty
  drop_segment_full name there full = goes_on _ none_is_open ∙ goes_on _ (passes_unless (NoSuch SegmentKind) there) ∙ refuses_at _ (refuses_if NotEmpty full)

  pub drop_segment_passes : (name : Name) → is_segment state name ≡ true → nat_le 1 (length (relations_in state.base name)) ≡ false → refusal state (DropSegment name) ≡ None
  drop_segment_passes name there none = goes_on _ none_is_open ∙ goes_on _ (passes_unless (NoSuch SegmentKind) there) ∙ goes_on _ (passes_if NotEmpty none)

  pub drop_relation_lacks : (name : Name) → is_relation state name ≡ false → refusal state (DropRelation name) ≡ Some (NoSuch RelationKind)
  drop_relation_lacks name absent = goes_on _ none_is_open ∙ refuses_at _ (refuses_unless (NoSuch RelationKind) absent)

  pub drop_relation_full : (name : Name) → is_relation state name ≡ true → nat_le 1 (tuple_count state.base.contents name) ≡ true → refusal state (DropRelation name) ≡ Some NotEmpty
  drop_relation_full name there full = goes_on _ none_is_open ∙ goes_on _ (passes_unless (NoSuch RelationKind) there) ∙ refuses_at _ (refuses_if NotEmpty (first_on (has_image state name) (has_link state name) full))

  pub make_relation_lacks : (name segment : Name) (fields : List FieldDef) → is_segment state segment ≡ false → refusal state (MakeRelation name segment fields) ≡ Some (NoSuch SegmentKind)
  make_relation_lacks name segment fields absent = goes_on _ none_is_open ∙ refuses_at _ (refuses_unless (NoSuch SegmentKind) absent)

  -- in a segment that is there
  module _ (name segment : Name) (fields : List FieldDef) (there : is_segment state segment ≡ true) where
    within : first_of (tests state (MakeRelation name segment fields)) ≡ first_of (drop 2 (tests state (MakeRelation name segment fields)))
    within = goes_on _ none_is_open ∙ goes_on _ (passes_unless (NoSuch SegmentKind) there)

    pub make_relation_taken : (is_relation state name || has_twice (field_names fields)) ≡ true → refusal state (MakeRelation name segment fields) ≡ Some NameTaken
    make_relation_taken taken = within ∙ refuses_at _ (refuses_if NameTaken taken)

    -- whose names are new
    module _ (fresh : is_relation state name ≡ false) (once : has_twice (field_names fields) ≡ false) where
      named : first_of (tests state (MakeRelation name segment fields)) ≡ first_of (drop 3 (tests state (MakeRelation name segment fields)))
      named = within ∙ goes_on _ (passes_if NameTaken (or_from (is_relation state name) (has_twice (field_names fields)) fresh once))

      pub make_relation_many : nat_le relations_most (map.len state.base.definitions.relations) ≡ true → refusal state (MakeRelation name segment fields) ≡ Some (Limit RelationLimit)
      make_relation_many many = named ∙ refuses_at _ (refuses_if (Limit RelationLimit) many)

      pub make_relation_passes : nat_le relations_most (map.len state.base.definitions.relations) ≡ false → are_kinds (kinds (originals fields)) ≡ true → nat_le (width (kinds (originals fields))) most_width ≡ true → refusal state (MakeRelation name segment fields) ≡ None
      make_relation_passes room formed narrow = named ∙ goes_on _ (passes_if (Limit RelationLimit) room) ∙ goes_on _ (passes_unless (Limit FieldLimit) formed) ∙ goes_on _ (passes_unless (Limit WidthLimit) narrow)
