-- The entry of a tuple in one image, as it is moved where the tuple's values change.
use Rattle.std.specs.Prelude.{◌≡◌, ℕ, ◌≤◌, Bool, true, List, [], ◌∷◌, length, Contains, Option, Some, None, IfSome}
use Rattle.rss_base.specs.Steps.{PagesView}
use Rattle.rss_base.specs.TupleTypes.{chosen, key_bytes, Spells}
use Rattle.rss_base.specs.declared.tid.Tid.{Tid}
use Rattle.rss_base.specs.declared.value.Value.{Value}
use Rattle.rss_base.specs.declared.value.FieldForm.{FieldForm}
use Rattle.rss_levels.specs.Entries.{Each}
use Rattle.rss_levels.specs.Spots.{AreMade, with_pair}
use Rattle.rss_levels.specs.Removes.{without_pair}
use Rattle.rss_node.specs.Pairs.{pair_bytes}
use Rattle.rss_image.specs.Images.{ImageTree, AreAllMade, Becomes, pages_of, pairs_most, HasSpare}
use Rattle.rss_image.specs.declared.image.Image.{Image}

-- fields: the kinds of a relation's fields.
-- which: the numbers of those that a key has.
pub record KeyKinds : Type 0 where
  pub fields : List FieldForm
  pub which : List ℕ

-- the pair of a tuple with these values
abbrev pub pair_with : KeyKinds → Tid → List Value → List ℕ
pair_with key tid values =
    pair_bytes (key_bytes (chosen key.which key.fields) (chosen key.which values)) tid

-- the bytes are those of these values, where there are any
abbrev pub AreSpelled : List FieldForm → Option (List ℕ) → Option (List Value) → Type 0
AreSpelled fields None None = Unit {0}
AreSpelled fields None (Some values) = ⊥
AreSpelled fields (Some bytes) None = ⊥
AreSpelled fields (Some bytes) (Some values) = Spells fields bytes values

-- the list without the pair of these values, and with it
abbrev pub less : KeyKinds → Tid → Option (List Value) → List (List ℕ) → List (List ℕ)
less key tid None pairs = pairs
less key tid (Some values) pairs = without_pair (pair_with key tid values) pairs

abbrev pub more : KeyKinds → Tid → Option (List Value) → List (List ℕ) → List (List ℕ)
more key tid None pairs = pairs
more key tid (Some values) pairs = with_pair (pair_with key tid values) pairs

-- with the pair of the new values in place of that of the old ones
abbrev pub moved_pairs : KeyKinds → Tid → (was next : Option (List Value)) → List (List ℕ) → List (List ℕ)
moved_pairs key tid was next pairs = more key tid next (less key tid was pairs)

-- The pair of the old values is in the list, and no other of this tuple.
pub record HoldsEntry (key : KeyKinds) (tid : Tid) (was : Option (List Value)) (pairs : List (List ℕ)) : Type 0 where
  pub there : IfSome was (λ values. Contains pairs (pair_with key tid values))
  pub none : was ≡ None → (values : List Value) → Each (λ p. p ≡ pair_with key tid values → ⊥) pairs
  pub other : (old values : List Value) → was ≡ Some old → (pair_with key tid old ≡ pair_with key tid values → ⊥)
      → Each (λ p. p ≡ pair_with key tid values → ⊥) pairs

-- The image has some pairs, the tuple's among them, and there is room for one more.
pub record MayMove (key : KeyKinds) (tid : Tid) (was : Option (List Value)) (image : Image) (pages : PagesView) : Type 0 where
  pub pairs : List (List ℕ)
  pub tree : ImageTree image pages.held pairs
  pub holds : HoldsEntry key tid was pairs
  pub few : length pairs ≤ pairs_most
  pub room : HasSpare image pages

-- from each list with the tuple's entry the image comes to have the list with the new one
abbrev pub MovesEntry : KeyKinds → Tid → (was next : Option (List Value)) → (before after : Image) → (old new : PagesView) → Type 0
MovesEntry key tid was next before after old new =
    (pairs : List (List ℕ)) (tree : ImageTree before old.held pairs) → HoldsEntry key tid was pairs
    → Becomes before after old new (pages_of tree) (moved_pairs key tid was next pairs)

-- what the bounds and the pairs of such an image pass, and the new pair too, all pass then
abbrev pub MakesEntry : KeyKinds → Tid → (was next : Option (List Value)) → (before after : Image) → (old new : PagesView) → Type 0
MakesEntry key tid was next before after old new =
    (good : List ℕ → Bool) → IfSome next (λ values. good (pair_with key tid values) ≡ true)
    → (pairs : List (List ℕ)) (tree : ImageTree before old.held pairs) → HoldsEntry key tid was pairs
    → AreMade good ((tree.top ∷ []) ∷ tree.lower) → AreAllMade good after new.held
