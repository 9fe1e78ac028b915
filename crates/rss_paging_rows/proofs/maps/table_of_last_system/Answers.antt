use Rattle.std.proofs.Common.{◌≡◌, ℕ, inl, inr, List, replicate, sym, ◌∙◌, ap, arith}
use Rattle.std.specs.Prelude.{Option, Some, None}
use Rattle.std.proofs.lemmas.Bool.{cases_lt}
use Rattle.std.proofs.lemmas.List.{get_or-replicate, get_or_past, length-replicate}
use Rattle.std.proofs.lemmas.Option.{none-some}
use Rattle.rss_base.specs.PageMap.{owner_of}
use Rattle.rss_base.specs.declared.key.PageKey.{PageKey}
use Rattle.rss_paging_rows.proofs.maps.table_of_last_system.Goals as goal

abbrev free : ℕ → List (Option PageKey)
free n = replicate n None

none_there : (n slot : ℕ) → owner_of (free n) slot ≡ None
none_there n slot = elim (cases_lt slot n) [
  | inl within ↦ get_or-replicate n slot None None within
  | inr past ↦ get_or_past (free n) slot None (omega (arith, length-replicate {A = Option PageKey} n None))
]

lacks_all : (owners : List (Option PageKey)) (n : ℕ) → owners ≡ free n → (slot : ℕ) (key : PageKey) → owner_of owners slot ≡ Some key → ⊥
lacks_all owners n made slot key owned =
    none-some key (sym (ap (λ (those : List (Option PageKey)). owner_of those slot) made ∙ none_there n slot) ∙ owned)

-- a new table has no page
pub set-requires-clause-alone : goal.set-requires-clause-alone
set-requires-clause-alone c other owned = absurd (lacks_all _ 64 c.in_ok-table.ensures other _ owned)
