-- Bytes that have each block at its place are the prefix of these blocks.
use Rattle.std.proofs.Common.{◌≡◌, ℕ, suc, ◌+◌, ◌<◌, ◌≤◌, List, [], ◌∷◌, ◌++◌, length, get_or, take, drop, refl, sym, ◌∙◌, ap, arith}
use Rattle.std.specs.Prelude.{flat_map, sum_by}
use Rattle.std.proofs.lemmas.List.{take-append-drop, take-append-le, drop-append-le, drop-drop, length-drop}
use Rattle.std.proofs.lemmas.List.Concat.{flat_map-cons}
use Rattle.std.proofs.lemmas.List.Sums.{sum_by-cons}
use Rattle.rss_link.specs.Blocks.{HasBytes}

-- none where there are so many
no_bytes : (bytes : List ℕ) → length bytes ≡ 0 → bytes ≡ []
no_bytes [] none = refl
no_bytes (b ∷ bytes) none = absurd (omega (arith, none))

module _ {A : Type 0} (blocks : A → List ℕ) (size : A → ℕ) (d : A) where
  -- each has its block behind those of the others before it
  abbrev pub HaveBlocksAt : List A → List ℕ → Type 0
  HaveBlocksAt items prefix = (k : ℕ) → k < length items → take (size (get_or items k d)) (drop (sum_by size (take k items)) prefix) ≡ blocks (get_or items k d)

  pub prefix_is : (items : List A) (prefix : List ℕ) → length prefix ≡ sum_by size items → HaveBlocksAt items prefix → prefix ≡ flat_map blocks items
  prefix_is [] prefix long each = no_bytes prefix long
  prefix_is (a ∷ items) prefix long each =
      let here : take (size a) prefix ≡ blocks a = each 0 (omega arith) in
      let rest_long : length (drop (size a) prefix) ≡ sum_by size items = omega (arith, length-drop (size a) prefix, long, sum_by-cons size a items) in
      let rest : drop (size a) prefix ≡ flat_map blocks items = prefix_is items (drop (size a) prefix) rest_long
      (λ k low.
      let more : sum_by size (a ∷ take k items) ≡ size a + sum_by size (take k items) = sum_by-cons size a (take k items) in
      ap (take (size (get_or items k d))) (drop-drop (sum_by size (take k items)) (size a) prefix ∙ ap (λ (n : ℕ). drop n prefix) (sym more))
      ∙ each (suc k) (omega (arith, low))) in
      sym (take-append-drop (size a) prefix) ∙ (λ i. here i ++ rest i) ∙ sym (flat_map-cons blocks a items)

-- bytes of a body, behind its first byte and before its values
pub within_prefix : (number : ℕ) (prefix values bytes : List ℕ) (before size : ℕ) → HasBytes (number ∷ (prefix ++ values)) (1 + before) bytes → size ≡ length bytes → before + size ≤ length prefix → take size (drop before prefix) ≡ bytes
within_prefix number prefix values bytes before size has long room =
    let next : 1 + before ≡ suc before = omega arith in
    let low : size ≤ length (drop before prefix) = omega (arith, length-drop before prefix, room) in
    sym (take-append-le size (drop before prefix) values low)
    ∙ ap (take size) (sym (drop-append-le before prefix values (omega (arith, room))))
    ∙ ap (λ (n : ℕ). take n (drop before (prefix ++ values))) long
    ∙ ap (λ (n : ℕ). take (length bytes) (drop n (number ∷ (prefix ++ values)))) (sym next)
    ∙ has
