-- Numbers in use, as bits in words.
use Rattle.std.specs.Prelude.{◌≡◌, ◌≢◌, ℕ, ◌+◌, ◌-◌, ◌*◌, ◌/◌, ◌%◌, ◌^◌, ◌<◌, ◌≤◌, Bool, true, false, ◌==◌, List, length, slice_index, slice_index_or, map}
use Rattle.rss_base.specs.Sizes.{slots_most}
use Rattle.std.specs.List.{range_with_len}
use Rattle.std.specs.Int.{bit_at}

-- whether the bit of a number is set
abbrev pub is_set : List ℕ → ℕ → Bool
is_set words number = bit_at (slice_index words (number / 64)) (number % 64) == 1

-- which of the numbers below a bound are in use
abbrev pub in_use : ℕ → List ℕ → List Bool
in_use bound words = map (λ number. is_set words number) (range_with_len 0 bound)

-- the number is below the bound, and isn't in use
abbrev pub IsAbsent : List Bool → ℕ → Type 0
IsAbsent used number = slice_index_or used number true ≡ false

-- so many words as hold the bits of the numbers below a bound, and the bits from it on are set
pub record AreBits (bound : ℕ) (words : List ℕ) : Type 0 where
  pub count : length words ≡ (bound + 63) / 64
  pub past : (number : ℕ) → bound ≤ number → number < 64 * length words → is_set words number ≡ true

-- such words, and the bits below the bound are clear
pub record AreClear (bound : ℕ) (words : List ℕ) : Type 0 where
  pub bits : AreBits bound words
  pub clear : (number : ℕ) → number < bound → is_set words number ≡ false

-- the bit of each word tells whether all its bits are set
pub record TellFull (words full : List ℕ) : Type 0 where
  pub tell : (word : ℕ) → word < length words → is_set full word ≡ (slice_index words word == 2 ^ 64 - 1)

-- three levels of bits, of which each upper one tells which words of the one below are full
pub record AreNumbers (bound : ℕ) (numbers full_words full_groups : List ℕ) : Type 0 where
  pub some : 0 < bound
  pub few : bound ≤ slots_most
  pub numbers_hold : AreBits bound numbers
  pub words_hold : AreBits (length numbers) full_words
  pub groups_hold : AreBits (length full_words) full_groups
  pub words_full : TellFull numbers full_words
  pub groups_full : TellFull full_words full_groups

-- the bit of a number has this value afterwards, and all others stay
pub record IsPut (words : List ℕ) (number : ℕ) (value : Bool) (after : List ℕ) : Type 0 where
  pub count : length after ≡ length words
  pub here : is_set after number ≡ value
  pub others : (other : ℕ) → other ≢ number → is_set after other ≡ is_set words other
  pub other_words : (word : ℕ) → word ≢ number / 64 → slice_index after word ≡ slice_index words word

-- the bits of a word are clear below this one and set from it on, or all clear where it is 0
pub record IsSetFrom (bit word : ℕ) : Type 0 where
  pub zero_at_none : bit ≡ 0 → word ≡ 0
  pub below : (other : ℕ) → other < bit → bit_at word other ≡ 0
  pub above : (other : ℕ) → 0 < bit → bit ≤ other → other < 64 → bit_at word other ≡ 1

-- ---- bits that are clear

-- the bit of a number is clear
pub record IsClear (words : List ℕ) (number : ℕ) : Type 0 where
  pub within : number < 64 * length words
  pub clear : is_set words number ≡ false

-- a word isn't full
pub record IsOpen (words : List ℕ) (word : ℕ) : Type 0 where
  pub within : word < length words
  pub lacks : slice_index words word ≢ 2 ^ 64 - 1

-- the bits of a number's word are set from that of the number on
abbrev pub IsSetOn : List ℕ → ℕ → Type 0
IsSetOn words from = (number : ℕ) → from ≤ number → number / 64 ≡ from / 64 → number < 64 * length words
    → is_set words number ≡ true
