-- Small cases, computed.
use Rattle.std.specs.Prelude.{◌≡◌, ℕ, ◌+◌, ◌++◌, refl, pos, Bool, true, false, List, [], ◌∷◌, length, map, replicate, take, drop, Some, None}
use Rattle.std.specs.FinMap as finite
use Rattle.rss_base.specs.declared.name.Name.{Name}
use Rattle.rss_base.specs.declared.tid.Tid.{Tid}
use Rattle.rss_base.specs.declared.value.Value.{Value}
use Rattle.rss_base.specs.declared.value.Value.TheVariants.{Int, Text, Undefined}
use Rattle.rss_base.specs.declared.value.FieldKind.{FieldKind}
use Rattle.rss_base.specs.declared.value.FieldKind.TheVariants.{Int as IntField, Text as TextField}
use Rattle.rss_base.specs.declared.field.FieldDef.{FieldDef}
use Rattle.rss_base.specs.declared.item.Item.{Item}
use Rattle.rss_base.specs.declared.item.Item.TheVariants.{Segment, Relation, Tuple, Key}
use Rattle.rss_base.specs.declared.need.Mode.{Mode}
use Rattle.rss_base.specs.declared.need.Mode.TheVariants.{IS, IX, S, SIX, X}
use Rattle.rss_base.specs.declared.call.Call.TheVariants.{Fetch, Update}
use Rattle.rss_base.specs.declared.spot.Spot.TheVariants.{First, Last, After}
use Rattle.rss_base.specs.Prefixes.{neighbours_in, ends_of, member_block, child_block, parent_block}
use Rattle.rss_base.specs.Listings.{image_spelled, link_spelled}
use Rattle.rss_base.specs.declared.image.ImageEntry.{ImageEntry}
use Rattle.rss_base.specs.declared.link.LinkEntry.{LinkEntry}
use Rattle.rss_base.specs.Nodes.{node_most, node_least, node_spelled}
use Rattle.rss_model.specs.Items.{Values}
use Rattle.rss_model.specs.Tables.{ImageDef, Definitions, Tables, content, fields_in, segment_of}
use Rattle.rss_model.specs.Chains.{with_behind, left_of, next_of, without}
use Rattle.rss_model.specs.Images.{Entry, entry, next_entry, repeated, unique_images, key_in}
use Rattle.rss_model.specs.Changes.{Change, kept_to, cut_off, maker}
use Rattle.rss_model.specs.Locks.{Locks, Claim, claim, disagree, joined, first_bar, with_mode}
use Rattle.rss_model.specs.Meter.{Stamp, Meter, Traffic, room_number, change_size, owed, free_between, log_room, least_position, checkpoint_size, changers, checkpointed}
use Rattle.rss_model.specs.Needs.{need, needs}
use Rattle.rss_model.specs.Refusals.{insertion, replacement}
use Rattle.rss_model.specs.Rules.{with_change, log_needed}
use Rattle.rss_model.specs.Records.{LogEntry, Changed, Restore, End, Abort, Checkpoint, Placed, list_after}
use Rattle.rss_model.specs.Restart.{survives, losers}

-- ---- names, identifiers, values

abbrev named : ℕ → Name
named letter = record { bytes = letter ∷ replicate 15 0 }

abbrev r : Name
r = named 114

abbrev s : Name
s = named 115

abbrev at : ℕ → Tid
at slot = record { page = 0; slot = slot }

abbrev number : ℕ → List Value
number n = Int (pos n) ∷ []

-- ---- the lists of calls

fetch_list : (tables : Tables) → segment_of tables r ≡ Some s
    → needs tables (Fetch 2 r (at 0)) ≡ need (Segment s) IS ∷ need (Relation r) IS ∷ need (Tuple r (at 0)) S ∷ []
fetch_list tables is = rw is refl

abbrev unique : ImageDef
unique = record { relation = r; is_unique = true; fields = s ∷ [] }

-- of each image, by name, the key that was and the key that is to be
update_list : (tables : Tables) → segment_of tables r ≡ Some s
    → content tables.contents (Tuple r (at 0)) ≡ Some (Values (number 7))
    → unique_images tables.definitions r ≡ (named 117, unique) ∷ (named 118, unique) ∷ []
    → needs tables (Update 2 r (at 0) (number 8))
    ≡ need (Segment s) IX ∷ need (Relation r) IX ∷ need (Tuple r (at 0)) X
    ∷ need (Key (named 117) (key_in tables.definitions unique (number 7))) X
    ∷ need (Key (named 117) (key_in tables.definitions unique (number 8))) X
    ∷ need (Key (named 118) (key_in tables.definitions unique (number 7))) X
    ∷ need (Key (named 118) (key_in tables.definitions unique (number 8))) X ∷ []
update_list tables segment there images = rw segment (rw there (rw images refl))

-- ---- modes: which disagree, and the least that is both

abbrev modes : List Mode
modes = IS ∷ IX ∷ S ∷ SIX ∷ X ∷ []

abbrev table : {A : Type 0} → (Mode → Mode → A) → List (List A)
table of = map (λ one. map (of one) modes) modes

matrix : table disagree
    ≡ (false ∷ false ∷ false ∷ false ∷ true ∷ [])
    ∷ (false ∷ false ∷ true ∷ true ∷ true ∷ [])
    ∷ (false ∷ true ∷ false ∷ true ∷ true ∷ [])
    ∷ (false ∷ true ∷ true ∷ true ∷ true ∷ [])
    ∷ (true ∷ true ∷ true ∷ true ∷ true ∷ []) ∷ []
matrix = refl

upper_modes : table joined
    ≡ (IS ∷ IX ∷ S ∷ SIX ∷ X ∷ [])
    ∷ (IX ∷ IX ∷ SIX ∷ SIX ∷ X ∷ [])
    ∷ (S ∷ SIX ∷ S ∷ SIX ∷ X ∷ [])
    ∷ (SIX ∷ SIX ∷ SIX ∷ SIX ∷ X ∷ [])
    ∷ (X ∷ X ∷ X ∷ X ∷ X ∷ []) ∷ []
upper_modes = refl

-- ---- a relation that is locked: an insert and then a fetch of another transaction, and a lock of its segment

abbrev given : ℕ → Item → Mode → Claim × Mode
given t item mode = (claim t item, mode)

abbrev after_lock : List (Claim × Mode)
after_lock = given 1 (Segment s) IS ∷ given 1 (Relation r) S ∷ []

abbrev after_insert : List (Claim × Mode)
after_insert = given 1 (Segment s) IX ∷ given 1 (Relation r) SIX ∷ given 1 (Tuple r (at 0)) X ∷ []

joined_modes : (with_mode (Some IS) IX ≡ IX) × (with_mode (Some S) IX ≡ SIX)
joined_modes = (refl, refl)

insert_is_busy : (locks : Locks) → finite.entries locks ≡ after_lock
    → first_bar locks 2 (need (Segment s) IX ∷ need (Relation r) IX ∷ []) ≡ Some (record { item = Relation r; holder = 1 })
insert_is_busy locks is = rw is refl

insert_goes_on : (locks : Locks) → finite.entries locks ≡ after_lock
    → first_bar locks 1 (need (Segment s) IX ∷ need (Relation r) IX ∷ []) ≡ None
insert_goes_on locks is = rw is refl

fetch_is_busy : (locks : Locks) → finite.entries locks ≡ after_insert
    → first_bar locks 2 (need (Segment s) IS ∷ need (Relation r) IS ∷ need (Tuple r (at 0)) S ∷ [])
    ≡ Some (record { item = Tuple r (at 0); holder = 1 })
fetch_is_busy locks is = rw is refl

segment_is_busy : (locks : Locks) → finite.entries locks ≡ after_insert
    → first_bar locks 2 (need (Segment s) X ∷ []) ≡ Some (record { item = Segment s; holder = 1 })
segment_is_busy locks is = rw is refl

-- ---- the room rule: the tenth insert into a store of 64 slots

abbrev no_traffic : Name → Traffic
no_traffic relation = record { entries = 0; surviving = 0; since = 0 }

abbrev metered : ℕ → ℕ → ℕ → Meter
metered heap surviving since = record {
  heap = heap;
  surviving = surviving;
  since = since;
  traffic = no_traffic;
  stamps = [];
  head = 0;
  end = 0;
  over = 0;
}

tenth_needs : (definitions : Definitions) → finite.values definitions.images ≡ []
    → room_number definitions (metered 1 9 1) ≡ 66
tenth_needs definitions is = rw is refl

sixth_needs : (definitions : Definitions) → finite.values definitions.images ≡ []
    → (room_number definitions (metered 0 0 6) ≡ 68) × (room_number definitions (metered 1 5 1) ≡ 50)
sixth_needs definitions is = (rw is refl, rw is refl)

-- from the last checkpoint on, and behind one
tenth_needs_twice : (definitions : Definitions) → finite.values definitions.images ≡ []
    → (room_number definitions (with_change definitions (insertion 1 r (at 9) (number 9)) (metered 0 0 9)) ≡ 100)
    × (room_number definitions (with_change definitions (insertion 1 r (at 9) (number 9)) (metered 1 9 0)) ≡ 66)
tenth_needs_twice definitions is = (rw is refl, rw is refl)

-- ---- the log rule: a long text after many

abbrev letters : List Value
letters = Text (replicate 200 97) ∷ []

abbrev one_field : FieldKind → List FieldDef
one_field kind = record { name = r; kind = kind; added = false } ∷ []

text_size : (definitions : Definitions) → fields_in definitions r ≡ one_field (TextField 255)
    → change_size definitions (insertion 2 r (at 0) letters) ≡ 215
text_size definitions is = rw is refl

short_size : (definitions : Definitions) → fields_in definitions r ≡ one_field (TextField 255)
    → change_size definitions (insertion 1 r (at 0) (Text (120 ∷ []) ∷ [])) ≡ 16
short_size definitions is = rw is refl

number_size : (definitions : Definitions) → fields_in definitions r ≡ one_field IntField
    → change_size definitions (insertion 1 r (at 0) (number 7)) ≡ 22
number_size definitions is = rw is refl

update_size : (definitions : Definitions) → fields_in definitions r ≡ one_field IntField
    → change_size definitions (replacement 1 r (at 0) (number 7) (number 8)) ≡ 32
update_size definitions is = rw is refl

-- with an added field behind, a value there has a byte more, and what is undefined none
added_size : (definitions : Definitions)
    → fields_in definitions r ≡ record { name = r; kind = IntField; added = false } ∷ record { name = r; kind = IntField; added = true } ∷ []
    → (change_size definitions (insertion 1 r (at 0) (Int (pos 8) ∷ Int (pos 5) ∷ [])) ≡ 31)
    × (change_size definitions (insertion 1 r (at 0) (Int (pos 9) ∷ Undefined ∷ [])) ≡ 22)
added_size definitions is = (rw is refl, rw is refl)

abbrev stamp : ℕ → ℕ → Stamp
stamp by at = record { by = by; at = at }

two_owe : 215 + owed (stamp 2 35442 ∷ stamp 1 6 ∷ []) ≡ 637
two_owe = refl

free_behind : free_between 8 (least_position 35442 (stamp 1 6 ∷ [])) (35442 + checkpoint_size (changers (stamp 1 6 ∷ []))) ≡ 543
free_behind = refl

-- once nothing is open the head goes to the record
free_once_ended : free_between 8 (least_position 35447 []) (35447 + checkpoint_size (changers [])) ≡ 32550
free_once_ended = refl

-- the same in the rule's words: the record fits neither now nor behind a checkpoint, and once the other transaction ended it fits behind one
abbrev logged : List Stamp → ℕ → Meter
logged stamps end = record {
  heap = 1;
  surviving = 0;
  since = 1;
  traffic = no_traffic;
  stamps = stamps;
  head = 4;
  end = end;
  over = 0;
}

long_is_refused : (tables : Tables) (changes : List Change) → fields_in tables.definitions r ≡ one_field (TextField 255)
    → (log_needed tables.definitions (insertion 2 r (at 0) letters) (logged (stamp 1 6 ∷ []) 35442) ≡ 637)
    × (log_room 8 (logged (stamp 1 6 ∷ []) 35442) ≡ 557)
    × (log_room 8 (checkpointed 4096 tables changes (logged (stamp 1 6 ∷ []) 35442)) ≡ 543)
long_is_refused tables changes is = (rw is refl, refl, refl)

long_goes_on : (tables : Tables) (changes : List Change) → fields_in tables.definitions r ≡ one_field (TextField 255)
    → (log_needed tables.definitions (insertion 2 r (at 0) letters) (logged [] 35447) ≡ 619)
    × (log_room 8 (logged [] 35447) ≡ 552)
    × (log_room 8 (checkpointed 4096 tables changes (logged [] 35447)) ≡ 32550)
long_goes_on tables changes is = (rw is refl, refl, refl)

-- ---- save points: a way back, across a checkpoint

abbrev inserted : ℕ → ℕ → Change
inserted t slot = insertion t r (at slot) (number slot)

way_back : (kept_to maker 1 1 (inserted 1 1 ∷ inserted 2 5 ∷ inserted 1 0 ∷ []) ≡ inserted 2 5 ∷ inserted 1 0 ∷ [])
    × (cut_off maker 1 1 (inserted 1 1 ∷ inserted 2 5 ∷ inserted 1 0 ∷ []) ≡ inserted 1 1 ∷ [])
way_back = (refl, refl)

to_begin : kept_to maker 1 0 (inserted 1 1 ∷ inserted 2 5 ∷ inserted 1 0 ∷ []) ≡ inserted 2 5 ∷ []
to_begin = refl

-- ---- chains: first, last, and behind the first

abbrev connected_thrice : List Tid
connected_thrice = with_behind (left_of (After (at 1)) (with_behind (left_of Last (with_behind (left_of First []) (at 1) [])) (at 2) (with_behind (left_of First []) (at 1) []))) (at 3)
    (with_behind (left_of Last (with_behind (left_of First []) (at 1) [])) (at 2) (with_behind (left_of First []) (at 1) []))

in_order : connected_thrice ≡ at 1 ∷ at 3 ∷ at 2 ∷ []
in_order = refl

goes_along : (next_of (at 1) connected_thrice ≡ Some (at 3)) × (next_of (at 2) connected_thrice ≡ None)
    × (without (at 3) connected_thrice ≡ at 1 ∷ at 2 ∷ [])
goes_along = (refl, refl, refl)

stands_between : neighbours_in connected_thrice (at 3) ≡ Some (record { previous = Some (at 1); next = Some (at 2) })
stands_between = refl

-- ---- images: the next pairs of a list, and a key that stands twice

abbrev pairs : List Entry
pairs = entry (number 0) (at 2) ∷ entry (number 5) (at 0) ∷ entry (number 5) (at 1) ∷ entry (number 9) (at 3) ∷ []

along_pairs : (next_entry None None pairs ≡ Some (entry (number 0) (at 2)))
    × (next_entry None (Some (entry (number 5) (at 0))) pairs ≡ Some (entry (number 5) (at 1)))
    × (next_entry (Some (number 6)) None pairs ≡ Some (entry (number 9) (at 3)))
    × (next_entry (Some (number 6)) (Some (entry (number 9) (at 3))) pairs ≡ None)
along_pairs = (refl, refl, refl, refl)

stands_twice : repeated pairs ≡ Some (at 1)
stands_twice = refl

node_sizes : (node_most 120 ≡ 31) × (node_least 120 ≡ 15) × (node_most 8 ≡ 225)
node_sizes = (refl, refl, refl)

-- ---- restart: one transaction ended behind the checkpoint, one never, one aborted

abbrev placed : ℕ → LogEntry → Placed
placed position entry_is = record { at = position; is = entry_is }

abbrev older : List Placed
older = placed 10 (Changed (inserted 2 1)) ∷ placed 20 (Changed (inserted 3 2)) ∷ []

abbrev newer : List Placed
newer = placed 30 (Checkpoint ((2, 10) ∷ (3, 20) ∷ [])) ∷ placed 56 (Changed (inserted 2 3)) ∷ placed 78 (End 2)
    ∷ placed 83 (Changed (inserted 4 4)) ∷ placed 105 (Changed (inserted 5 5)) ∷ placed 127 (End 4) ∷ []

lost : losers newer (list_after [] older) ≡ record { at = 20; change = inserted 3 2 } ∷ []
lost = refl

survivors : (survives 2 10 newer ≡ true) × (survives 3 20 newer ≡ false) × (survives 5 105 (placed 127 (End 4) ∷ []) ≡ false)
survivors = (refl, refl, refl)

-- A log with records of every kind: 2 goes back to a save point and ends, 3 is thrown away and its number used again, 4 ends, 5 never does.
abbrev all_kinds : List Placed
all_kinds = placed 30 (Checkpoint ((2, 10) ∷ (3, 20) ∷ [])) ∷ placed 56 (Changed (inserted 2 3)) ∷ placed 78 (Restore 2 56)
    ∷ placed 91 (Abort 3) ∷ placed 96 (Changed (inserted 2 4)) ∷ placed 118 (End 2) ∷ placed 123 (Changed (inserted 3 5))
    ∷ placed 145 (Changed (inserted 4 6)) ∷ placed 167 (End 3) ∷ placed 172 (End 4) ∷ placed 177 (Changed (inserted 5 7)) ∷ []

-- the change of a transaction at a position survives the records from some place on
abbrev survives_behind : ℕ → ℕ → ℕ → Bool
survives_behind t position place = survives t position (drop place all_kinds)

kept_of_all : survives_behind 2 10 0 ∷ survives_behind 3 20 0 ∷ survives_behind 2 56 2 ∷ survives_behind 2 96 5
    ∷ survives_behind 3 123 7 ∷ survives_behind 4 145 8 ∷ survives_behind 5 177 11 ∷ []
    ≡ true ∷ false ∷ false ∷ true ∷ true ∷ true ∷ false ∷ []
kept_of_all = refl

lost_of_all : losers all_kinds (list_after [] older) ≡ record { at = 20; change = inserted 3 2 } ∷ []
lost_of_all = refl

-- what the checkpoint's lists are, and what is in them at the end
left_open : list_after (list_after [] older) all_kinds ≡ record { at = 177; change = inserted 5 7 } ∷ []
left_open = refl

-- ---- bytes: leaves, and blocks of prefixes

empty_leaf : node_spelled (record { segment = 1; image = 2; width = 8 }) 0 (record { level = 0; next = None; entries = [] })
    ≡ 3 ∷ 1 ∷ 2 ∷ 0 ∷ 0 ∷ 0 ∷ 0 ∷ 0 ∷ 0 ∷ 0 ∷ 0 ∷ 0 ∷ 255 ∷ 255 ∷ 255 ∷ 255 ∷ replicate 16 0
empty_leaf = refl

leaf_of_one : node_spelled (record { segment = 1; image = 2; width = 8 }) 3
    (record { level = 0; next = Some 5; entries = record { key = 128 ∷ replicate 6 0 ++ (7 ∷ []); tid = at 1; child = 0 } ∷ [] })
    ≡ 3 ∷ 1 ∷ 2 ∷ 0 ∷ 0 ∷ 0 ∷ 0 ∷ 3 ∷ 0 ∷ 1 ∷ 0 ∷ 0 ∷ 0 ∷ 0 ∷ 0 ∷ 5 ∷ (replicate 16 0
    ++ (128 ∷ 0 ∷ 0 ∷ 0 ∷ 0 ∷ 0 ∷ 0 ∷ 7 ∷ 0 ∷ 0 ∷ 0 ∷ 0 ∷ 0 ∷ 1 ∷ 0 ∷ 0 ∷ 0 ∷ 0 ∷ []))
leaf_of_one = refl

first_member : member_block (neighbours_in connected_thrice (at 1))
    ≡ 1 ∷ (replicate 6 255 ++ (0 ∷ 0 ∷ 0 ∷ 0 ∷ 0 ∷ 3 ∷ []))
first_member = refl

middle_child : child_block (Some (record { parent = at 0; neighbours = record { previous = Some (at 1); next = Some (at 2) } }))
    ≡ 0 ∷ 0 ∷ 0 ∷ 0 ∷ 0 ∷ 0 ∷ 0 ∷ 0 ∷ 0 ∷ 0 ∷ 0 ∷ 1 ∷ 0 ∷ 0 ∷ 0 ∷ 0 ∷ 0 ∷ 2 ∷ []
middle_child = refl

ends_in_parent : parent_block (ends_of connected_thrice) ≡ 0 ∷ 0 ∷ 0 ∷ 0 ∷ 0 ∷ 1 ∷ 0 ∷ 0 ∷ 0 ∷ 0 ∷ 0 ∷ 2 ∷ []
ends_in_parent = refl

block_sizes : (length (member_block None) ≡ 13) × (length (child_block None) ≡ 18) × (length (parent_block (ends_of [])) ≡ 12)
block_sizes = (refl, refl, refl)

-- ---- bytes: entries of the catalog

abbrev image_listed : ImageEntry
image_listed = record { name = r; relation = 1; is_unique = true; count = 1; fields = 1 ∷ replicate 15 0; levels = 1; root = 0 }

abbrev link_listed : LinkEntry
link_listed = record { name = r; parent = Some 1; child = 2; late = false; first = None; last = None }

entry_sizes : (length (image_spelled (Some image_listed)) ≡ 64) × (length (link_spelled (Some link_listed)) ≡ 64)
entry_sizes = (refl, refl)

link_begins : drop 16 (take 32 (link_spelled (Some link_listed))) ≡ 2 ∷ 1 ∷ 2 ∷ 0 ∷ replicate 12 255
link_begins = refl
