-- Names: which bytes they have.
use Rattle.std.specs.Prelude.{◌≡◌, ◌⊎◌, ℕ, ◌-◌, ◌<◌, ◌≤◌, List, [], ◌∷◌, ◌++◌, length, replicate, All, slice_index_or}
use Rattle.rss_base.specs.declared.name.Name.{Name}

abbrev pub IsLetter : ℕ → Type 0
IsLetter b = (97 ≤ b) × (b ≤ 122)

abbrev pub IsDigit : ℕ → Type 0
IsDigit b = (48 ≤ b) × (b ≤ 57)

-- an underscore
abbrev pub underscore : ℕ
underscore = 95

abbrev pub IsNameByte : ℕ → Type 0
IsNameByte b = IsLetter b ⊎ IsDigit b ⊎ (b ≡ underscore)

-- how many bytes a name has
abbrev pub name_bytes : ℕ
name_bytes = 16

-- the bytes of a name, without the zeros behind them
abbrev pub IsNameText : List ℕ → Type 0
IsNameText [] = ⊥
IsNameText (first ∷ rest) = IsLetter first × All IsNameByte rest × (length rest < name_bytes)

-- sixteen bytes: a letter, bytes of a name, and zeros
pub record IsName (name : Name) : Type 0 where
  pub first : ℕ
  pub rest : List ℕ
  pub bytes : name.bytes ≡ first ∷ rest ++ replicate (15 - length rest) 0
  pub letter : IsLetter first
  pub each : All IsNameByte rest
  pub few : length rest ≤ 15

-- no name stands twice
abbrev pub AreApart : List Name → Type 0
AreApart names =
    (j k : ℕ) (d : Name) → j < length names → k < length names
    → slice_index_or names j d ≡ slice_index_or names k d → j ≡ k
