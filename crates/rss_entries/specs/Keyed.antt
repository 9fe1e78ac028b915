-- The pair of a key in one image, where there is a key.
use Rattle.std.specs.Prelude.{◌≡◌, ◌≢◌, ℕ, Bool, true, List, Contains, Option, Some, None, IfSome, option_map}
use Rattle.rss_base.specs.Steps.{PagesView, PagesStep, no_page}
use Rattle.rss_base.specs.TupleTypes.{kinds, chosen, key_bytes}
use Rattle.rss_base.specs.declared.tid.Tid.{Tid}
use Rattle.rss_base.specs.declared.value.Value.{Value}
use Rattle.rss_levels.specs.Entries.{Each}
use Rattle.rss_levels.specs.Spots.{with_pair}
use Rattle.rss_levels.specs.Removes.{without_pair}
use Rattle.rss_node.specs.Pairs.{pair_bytes}
use Rattle.rss_image.specs.Images.{ImageTree, Becomes, Shrinks, KeepsMade, MayCut, MayPut, pages_of}
use Rattle.rss_image.specs.declared.image.Image.{Image}
use Rattle.rss_entries.specs.Moving.{KeyKinds}
use Rattle.rss_entries.specs.declared.moving.KeyFields.{KeyFields}

abbrev pub kinds_of : KeyFields → KeyKinds
kinds_of key = record { fields = kinds key.fields.now; which = key.which.now }

-- the key of a tuple with these values
abbrev pub key_with : KeyKinds → List Value → List ℕ
key_with key values = key_bytes (chosen key.which key.fields) (chosen key.which values)

-- the values have one key, or there are none before and after
abbrev pub IsOneKey : KeyKinds → (was next : Option (List Value)) → Type 0
IsOneKey key was next = option_map (key_with key) was ≡ option_map (key_with key) next

-- The image is as it was, and no page was asked for.
pub record StaysEntry (before after : Image) (old new : PagesView) : Type 0 where
  pub image : after ≡ before
  pub pages : PagesStep no_page 0 0 old new

abbrev pub HasKey : Option (List ℕ) → Tid → List (List ℕ) → Type 0
HasKey key tid pairs = IfSome key (λ bytes. Contains pairs (pair_bytes bytes tid))

abbrev pub LacksKey : Option (List ℕ) → Tid → List (List ℕ) → Type 0
LacksKey key tid pairs = IfSome key (λ bytes. Each (λ p. p ≢ pair_bytes bytes tid) pairs)

abbrev pub MayCutKey : Option (List ℕ) → Tid → Image → PagesView → Type 0
MayCutKey key tid image pages = IfSome key (λ bytes. MayCut image pages.held (pair_bytes bytes tid))

abbrev pub MayPutKey : Option (List ℕ) → Tid → Image → PagesView → Type 0
MayPutKey key tid image pages = IfSome key (λ bytes. MayPut image pages.held (pair_bytes bytes tid))

-- the list without the key's pair, and with it
abbrev pub without_key : Option (List ℕ) → Tid → List (List ℕ) → List (List ℕ)
without_key None tid pairs = pairs
without_key (Some bytes) tid pairs = without_pair (pair_bytes bytes tid) pairs

abbrev pub with_key : Option (List ℕ) → Tid → List (List ℕ) → List (List ℕ)
with_key None tid pairs = pairs
with_key (Some bytes) tid pairs = with_pair (pair_bytes bytes tid) pairs

-- the key's pair is taken out of the list
abbrev pub CutsKey : Option (List ℕ) → Tid → Image → Image → PagesView → PagesView → Type 0
CutsKey key tid before after old new =
    (pairs : List (List ℕ)) (tree : ImageTree before old.held pairs) → HasKey key tid pairs
    → Shrinks before after old new (pages_of tree) (without_key key tid pairs)

-- the key's pair is put into the list
abbrev pub PutsKey : Option (List ℕ) → Tid → Image → Image → PagesView → PagesView → Type 0
PutsKey key tid before after old new =
    (pairs : List (List ℕ)) (tree : ImageTree before old.held pairs) → LacksKey key tid pairs
    → Becomes before after old new (pages_of tree) (with_key key tid pairs)

-- what the bounds and the pairs of the image pass, and the key's pair too, all pass then
abbrev pub MakesKey : Option (List ℕ) → Tid → Image → Image → PagesView → PagesView → Type 0
MakesKey key tid before after old new =
    (good : List ℕ → Bool) → IfSome key (λ bytes. good (pair_bytes bytes tid) ≡ true)
    → KeepsMade good before after old new
