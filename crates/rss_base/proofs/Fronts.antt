-- What stands before a body's values is read in one way.
use Rattle.std.proofs.Common.{◌≡◌, ℕ, ◌+◌, ◌<◌, List, [], ◌∷◌, ◌++◌, length, length-append, refl, sym, ◌∙◌, ap, subst, arith}
use Rattle.std.specs.Prelude.{flat_map, sum_by}
use Rattle.std.proofs.lemmas.List.{append-nil, append_assoc}
use Rattle.std.proofs.lemmas.List.Sums.{sum_by-cons}
use Rattle.rss_base.specs.Fronts.{late_mark, LateBlock, late_block_bytes, late_bytes, marked_number, front_bytes, number_in, AreLateFrom}

-- the fronts of one length, and what stands behind them
pub front_parts : (x y u v : List ℕ) → length x ≡ length y → x ++ u ≡ y ++ v → (x ≡ y) × (u ≡ v)
front_parts [] [] u v same whole = (refl, whole)
front_parts [] (b ∷ y) u v same whole = absurd (omega (arith, same))
front_parts (a ∷ x) [] u v same whole = absurd (omega (arith, same))
front_parts (a ∷ x) (b ∷ y) u v same whole =
    let first : a ≡ b = cc in
    let later : x ++ u ≡ y ++ v = cc in
    let rest = front_parts x y u v (omega (arith, same)) later in
    (λ i. first i ∷ rest.0 i, rest.1)

split : (a b : ℕ) (x y : List ℕ) → a ∷ x ≡ b ∷ y → (a ≡ b) × (x ≡ y)
split a b x y same = (cc, cc)

-- ---- late blocks

-- as many late blocks, and what stands behind them
blocks_once : (sizes : ℕ → ℕ) (least least_too : ℕ) (a b : List LateBlock) (u v : List ℕ) → length a ≡ length b → AreLateFrom least sizes a → AreLateFrom least_too sizes b → flat_map late_block_bytes a ++ u ≡ flat_map late_block_bytes b ++ v → (a ≡ b) × (u ≡ v)
blocks_once sizes least least_too [] [] u v many are are_too whole = (refl, whole)
blocks_once sizes least least_too [] (y ∷ b) u v many are are_too whole = absurd (omega (arith, many))
blocks_once sizes least least_too (x ∷ a) [] u v many are are_too whole = absurd (omega (arith, many))
blocks_once sizes least least_too (x ∷ a) (y ∷ b) u v many are are_too whole =
    let first = split x.link y.link ((x.bytes ++ flat_map late_block_bytes a) ++ u) ((y.bytes ++ flat_map late_block_bytes b) ++ v) whole in
    let long : length x.bytes ≡ length y.bytes = omega (arith, are.1, are_too.1, ap sizes first.0) in
    let behind = front_parts x.bytes y.bytes (flat_map late_block_bytes a ++ u) (flat_map late_block_bytes b ++ v) long
    (sym (append_assoc x.bytes (flat_map late_block_bytes a) u) ∙ first.1 ∙ append_assoc y.bytes (flat_map late_block_bytes b) v) in
    let rest = blocks_once sizes (x.link + 1) (y.link + 1) a b u v (omega (arith, many)) are.2 are_too.2 behind.1 in
    (λ i. record { link = first.0 i; bytes = behind.0 i } ∷ rest.0 i, rest.1)

-- late blocks with their count, and what stands behind them: some blocks each, or none
pub late_once : (sizes : ℕ → ℕ) (least least_too : ℕ) (x y : LateBlock) (a b : List LateBlock) (u v : List ℕ) → AreLateFrom least sizes (x ∷ a) → AreLateFrom least_too sizes (y ∷ b) → late_bytes (x ∷ a) ++ u ≡ late_bytes (y ∷ b) ++ v → (x ∷ a ≡ y ∷ b) × (u ≡ v)
late_once sizes least least_too x y a b u v are are_too whole =
    let counted = split (length (x ∷ a)) (length (y ∷ b)) (flat_map late_block_bytes (x ∷ a) ++ u) (flat_map late_block_bytes (y ∷ b) ++ v) whole in
    blocks_once sizes least least_too (x ∷ a) (y ∷ b) u v counted.0 are are_too counted.1

-- the blocks have so many bytes, by the sizes
pub length-blocks : (sizes : ℕ → ℕ) (least : ℕ) (late : List LateBlock) → AreLateFrom least sizes late → length (flat_map late_block_bytes late) ≡ sum_by (λ block. sizes block.link) late
length-blocks sizes least [] are = refl
length-blocks sizes least (block ∷ late) are =
    omega (arith, are.1, length-append block.bytes (flat_map late_block_bytes late), length-blocks sizes (block.link + 1) late are.2, sum_by-cons (λ (b : LateBlock). sizes b.link) block late)

-- one late block
pub late_alone : (block : LateBlock) → late_bytes (block ∷ []) ≡ 1 ∷ late_block_bytes block
late_alone block = ap (λ (bytes : List ℕ). 1 ∷ block.link ∷ bytes) (append-nil block.bytes)

-- ---- fronts

pub number_marked : (number : ℕ) (late : List LateBlock) → number < late_mark → number_in (marked_number number late) ≡ number
number_marked number [] low = grind arith
number_marked number (block ∷ late) low = grind arith

pub length-front : (number : ℕ) (early : List ℕ) (late : List LateBlock) → length (front_bytes number early late) ≡ 1 + (length early + length (late_bytes late))
length-front number early late = omega (arith, length-append early (late_bytes late))

-- a front, and what stands behind it
pub record Front : Type 0 where
  pub number : ℕ
  pub early : List ℕ
  pub late : List LateBlock
  pub values : List ℕ

-- The bytes are those of this front with what stands behind it: by how many bytes the early blocks of each relation have, and by the size of the late block that it has in each link.
pub record IsReadAs (early_size : ℕ → ℕ) (sizes : ℕ → ℕ → ℕ) (bytes : List ℕ) (front : Front) : Type 0 where
  pub low : front.number < late_mark
  pub long : length front.early ≡ early_size front.number
  pub late_are : AreLateFrom 1 (sizes front.number) front.late
  pub same : bytes ≡ front_bytes front.number front.early front.late ++ front.values

-- late blocks behind a number of a relation that is marked by them
late_read : (sizes : ℕ → ℕ) (number : ℕ) (a b : List LateBlock) (u v : List ℕ) → AreLateFrom 1 sizes a → AreLateFrom 1 sizes b → marked_number number a ≡ marked_number number b → late_bytes a ++ u ≡ late_bytes b ++ v → (a ≡ b) × (u ≡ v)
late_read sizes number [] [] u v are are_too mark whole = (refl, whole)
late_read sizes number [] (y ∷ b) u v are are_too mark whole = absurd (omega (arith, mark))
late_read sizes number (x ∷ a) [] u v are are_too mark whole = absurd (omega (arith, mark))
late_read sizes number (x ∷ a) (y ∷ b) u v are are_too mark whole = late_once sizes 1 1 x y a b u v are are_too whole

-- bytes are those of one front
pub front_once : (early_size : ℕ → ℕ) (sizes : ℕ → ℕ → ℕ) (bytes : List ℕ) (a b : Front) → IsReadAs early_size sizes bytes a → IsReadAs early_size sizes bytes b → a ≡ b
front_once early_size sizes bytes a b one other =
    let first = split (marked_number a.number a.late) (marked_number b.number b.late) ((a.early ++ late_bytes a.late) ++ a.values) ((b.early ++ late_bytes b.late) ++ b.values) (sym one.same ∙ other.same) in
    let numbers : a.number ≡ b.number = sym (number_marked a.number a.late one.low) ∙ ap number_in first.0 ∙ number_marked b.number b.late other.low in
    let early = front_parts a.early b.early (late_bytes a.late ++ a.values) (late_bytes b.late ++ b.values) (one.long ∙ ap early_size numbers ∙ sym other.long)
    (sym (append_assoc a.early (late_bytes a.late) a.values) ∙ first.1 ∙ append_assoc b.early (late_bytes b.late) b.values) in
    let late = late_read (sizes a.number) a.number a.late b.late a.values b.values one.late_are (subst (λ n. AreLateFrom 1 (sizes n) b.late) (sym numbers) other.late_are)
    (first.0 ∙ ap (λ n. marked_number n b.late) (sym numbers)) early.1 in
    λ i. record { number = numbers i; early = early.0 i; late = late.0 i; values = late.1 i }
