-- The bodies of tuples: the number of the relation, the blocks of its links, and the bytes of the values.
use Rattle.std.specs.Prelude.{◌≡◌, ℕ, Bool, false, ◌&&◌, ◌==◌, List, [], ◌∷◌, ◌++◌, length, drop, nat_le, Option, Some, None}
use Rattle.rss_base.specs.Prefixes.{prefix_size}
use Rattle.rss_base.specs.TupleTypes.{kinds, chosen, key_width, Spells, SpellsSome}
use Rattle.rss_value.specs.Spelled.{is_spelled}
use Rattle.rss_base.specs.Listings.{Listing, relation_at}
use Rattle.rss_base.specs.declared.relation.RelationEntry.{RelationEntry}
use Rattle.rss_base.specs.declared.value.FieldForm.{FieldForm}
use Rattle.rss_base.specs.declared.value.Value.{Value}
use Rattle.rss_entries.specs.Keyed.{key_with}
use Rattle.rss_entries.specs.Moving.{KeyKinds}

-- These bytes stand in a body behind the number of a relation and the blocks of its links.
pub record HoldsBytes (listing : Listing) (number : ℕ) (body bytes : List ℕ) : Type 0 where
  pub prefix : List ℕ
  pub long : length prefix ≡ prefix_size listing.links number
  pub is : body ≡ number ∷ (prefix ++ bytes)

-- These bytes stand so in the body, and values of these fields have them.
pub record IsSpelledIn (listing : Listing) (number : ℕ) (fields : List FieldForm) (body bytes : List ℕ) : Type 0 where
  pub holds : HoldsBytes listing number body bytes
  pub spelled : SpellsSome fields bytes

-- The key is that of the values which stand in the body.
pub record IsKeyIn (listing : Listing) (number : ℕ) (key : KeyKinds) (body made : List ℕ) : Type 0 where
  pub bytes : List ℕ
  pub stands : IsSpelledIn listing number key.fields body bytes
  pub is : (values : List Value) → Spells key.fields bytes values → made ≡ key_with key values
  pub long : length made ≡ key_width (chosen key.which key.fields)

-- the body is that of a tuple with these values, of the relation of this number and these fields
pub record IsBodyOf (listing : Listing) (number : ℕ) (fields : List FieldForm) (values : List Value) (body : List ℕ) : Type 0 where
  pub bytes : List ℕ
  pub holds : HoldsBytes listing number body bytes
  pub spelled : Spells fields bytes values

-- ---- whether a body may stand in a segment

-- the bytes are those of a tuple of this relation, which is one of the segment
abbrev pub is_values_of : Option RelationEntry → ℕ → List ℕ → Bool
is_values_of None segment bytes = false
is_values_of (Some relation) segment bytes =
    (relation.segment == segment) && is_spelled (kinds relation.fields) bytes

-- what stands behind the blocks; where these don't fit in, no values are spelled
abbrev pub is_body : Listing → ℕ → List ℕ → Bool
is_body listing segment [] = false
is_body listing segment (number ∷ bytes) =
    nat_le (prefix_size listing.links number) (length bytes)
    && is_values_of (relation_at listing number) segment (drop (prefix_size listing.links number) bytes)
