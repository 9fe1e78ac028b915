-- Items: what can be locked, which of them have a content, and their order.
use Rattle.std.specs.Prelude.{ℕ, Bool, false, pos, negsuc, List, [], ◌∷◌, ◌++◌, length, Option, Some, None}
use Rattle.std.specs.Ordering.{nat_cmp, eq_by_cmp}
use Rattle.std.specs.Cmp.Lexicographic.{slice_cmp}
use Rattle.std.specs.declared.cmp.Ordering.{Ordering}
use Rattle.rss_base.specs.declared.name.Name.{Name}
use Rattle.rss_base.specs.declared.tid.Tid.{Tid}
use Rattle.rss_base.specs.declared.value.Value.{Value}
use Rattle.rss_base.specs.declared.value.Value.TheVariants.{Int, Text, Undefined}
use Rattle.rss_base.specs.declared.item.Item.{Item}
use Rattle.rss_base.specs.declared.item.Item.TheVariants.{Segment, Relation, Tuple, Chain, Key}

-- What an item holds: a tuple item the values of its tuple, and a chain its tuples in their order,
-- of which there is at least one.
pub data Content : Type 0 where
  Values : List Value → Content
  Tuples : List Tid → Content

-- No two values, and no two items, have one code. Items are ordered by their codes.
abbrev pub value_code : Value → List ℕ
value_code (Int (pos n)) = 0 ∷ n ∷ []
value_code (Int (negsuc n)) = 1 ∷ n ∷ []
value_code (Text bytes) = 2 ∷ length bytes ∷ bytes
value_code Undefined = 3 ∷ []

abbrev pub values_code : List Value → List ℕ
values_code [] = []
values_code (value ∷ values) = value_code value ++ values_code values

abbrev pub item_code : Item → List ℕ
item_code (Segment name) = 0 ∷ name.bytes
item_code (Relation name) = 1 ∷ name.bytes
item_code (Tuple relation tid) = 2 ∷ tid.page ∷ tid.slot ∷ relation.bytes
item_code (Chain link None) = 3 ∷ link.bytes
item_code (Chain link (Some parent)) = 4 ∷ parent.page ∷ parent.slot ∷ link.bytes
item_code (Key image values) = 5 ∷ length image.bytes ∷ (image.bytes ++ values_code values)

abbrev pub item_cmp : Item → Item → Ordering
item_cmp a b = slice_cmp nat_cmp (item_code a) (item_code b)

abbrev pub name_cmp : Name → Name → Ordering
name_cmp a b = slice_cmp nat_cmp a.bytes b.bytes

abbrev pub is_item : Item → Item → Bool
is_item a b = eq_by_cmp item_cmp a b

abbrev pub is_name : Name → Name → Bool
is_name a b = eq_by_cmp name_cmp a b

-- the item is a tuple of this relation
abbrev pub is_tuple_of : Name → Item → Bool
is_tuple_of relation (Segment name) = false
is_tuple_of relation (Relation name) = false
is_tuple_of relation (Tuple name tid) = is_name relation name
is_tuple_of relation (Chain link parent) = false
is_tuple_of relation (Key image values) = false

-- the item is a chain of this link
abbrev pub is_chain_of : Name → Item → Bool
is_chain_of link (Segment name) = false
is_chain_of link (Relation name) = false
is_chain_of link (Tuple relation tid) = false
is_chain_of link (Chain name parent) = is_name link name
is_chain_of link (Key image values) = false

-- the parent of a chain, where there is one
abbrev pub parent_of : Item → Option Tid
parent_of (Segment name) = None
parent_of (Relation name) = None
parent_of (Tuple relation tid) = None
parent_of (Chain link parent) = parent
parent_of (Key image values) = None
