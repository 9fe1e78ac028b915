-- How links hold the chains of a hash table.
use Rattle.std.specs.Prelude.{◌≡◌, ℕ, ◌+◌, ◌<◌, ◌≤◌, List, [], ◌∷◌, length, slice_index, Option, Some}
use Rattle.rss_frames.specs.Lists.{Has, Apart}
use Rattle.rss_base.specs.declared.key.PageKey.{PageKey}
use Rattle.rss_frames.specs.Table.{key_at, bucket_of}

-- from the cell `at` on the links lead over these cells, up to the end
abbrev pub From : List ℕ → ℕ → ℕ → List ℕ → Type 0
From links end at [] = at ≡ end
From links end at (x ∷ xs) = (at ≡ x) × From links end (slice_index links x) xs

-- the link of the head leads over these frames
pub record IsChain (links : List ℕ) (room head : ℕ) (chain : List ℕ) : Type 0 where
  pub leads : From links room (slice_index links head) chain
  pub within : (i : ℕ) → Has i chain → i < room
  pub apart : Apart chain

-- the frame is on the chain of the head
pub record Reaches (links : List ℕ) (room head frame : ℕ) : Type 0 where
  pub chain : List ℕ
  pub is : IsChain links room head chain
  pub has : Has frame chain
  pub cells : room ≤ length links
  pub head_in : head < length links

-- the link of `at`, a cell of the chain or its head, leads to the frame
pub record IsBefore (links : List ℕ) (room head frame at : ℕ) : Type 0 where
  pub within : at < length links
  pub link : slice_index links at ≡ frame
  pub on : (chain : List ℕ) → IsChain links room head chain → Has frame chain → Has at (head ∷ chain)

-- each frame that has a page is on the chain of the page's bucket, and no other is on a chain
pub record IsTable (keys : List (Option PageKey)) (links : List ℕ) (room mask : ℕ) : Type 0 where
  pub keys_len : length keys ≡ room
  pub links_len : length links ≡ room + mask + 1
  pub chain : ℕ → List ℕ
  pub chains : (b : ℕ) → b ≤ mask → IsChain links room (room + b) (chain b)
  pub sound : (b : ℕ) → b ≤ mask → (i : ℕ) → Has i (chain b) → (key : PageKey) × (key_at keys i ≡ Some key) × (bucket_of mask key ≡ b)
  pub whole : (i : ℕ) (key : PageKey) → key_at keys i ≡ Some key → Has i (chain (bucket_of mask key))
  pub unique : (i j : ℕ) (key : PageKey) → key_at keys i ≡ Some key → key_at keys j ≡ Some key → i ≡ j
