-- Maps by their entries.
use Rattle.std.proofs.Common.{◌≡◌, Bool, true, false, List, [], ◌∷◌, length, refl, sym, ◌∙◌, ap, subst}
use Rattle.std.specs.Prelude.{Some, option_map, if◌then◌else◌}
use Rattle.std.specs.List.{find as first}
use Rattle.std.specs.Ordering.{eq_by_cmp}
use Rattle.std.specs.FinMap.{find, is_sorted, get, len, entries, empty, get-from_sorted, entries-from_sorted, len-entries, empty_of_len}
use Rattle.std.specs.declared.cmp.Ordering.{Ordering}
use Rattle.std.proofs.Math.Dec.{T}
use Rattle.rss_plain.specs.Maps.{mapped}

module _ {K X : Type 0} (R : K → K → Ordering) where
  -- the value of a key is that of the first entry that has it
  pub find_first : (q : K) (es : List (K × X)) → find R q es ≡ option_map (λ e. e.1) (first (λ e. eq_by_cmp R q e.0) es)
  find_first q [] = refl
  find_first q (e ∷ es) = by (eq_by_cmp R q e.0) (find_first q es)
    where
      by : (b : Bool) → find R q es ≡ option_map (λ e. e.1) (first (λ e. eq_by_cmp R q e.0) es)
          → (if b then Some e.1 else find R q es)
          ≡ option_map (λ e. e.1) (if b then Some e else first (λ e. eq_by_cmp R q e.0) es)
      by true rest = refl
      by false rest = rest

  pub get_first : (q : K) (es : List (K × X)) → is_sorted R es ≡ true
      → get (mapped R es) q ≡ option_map (λ e. e.1) (first (λ e. eq_by_cmp R q e.0) es)
  get_first q es sorted = get-from_sorted R es q (subst T (sym sorted) tt) ∙ find_first q es

  pub entries_mapped : (es : List (K × X)) → is_sorted R es ≡ true → entries (mapped R es) ≡ es
  entries_mapped es sorted = entries-from_sorted R es (subst T (sym sorted) tt)

  pub len_mapped : (es : List (K × X)) → is_sorted R es ≡ true → len (mapped R es) ≡ length es
  len_mapped es sorted = len-entries (mapped R es) ∙ ap (λ (l : List (K × X)). length l) (entries_mapped es sorted)

  pub none_mapped : (es : List (K × X)) → es ≡ [] → mapped R es ≡ empty
  none_mapped es none = ap (λ (l : List (K × X)). mapped R l) none ∙ empty_of_len (mapped R []) (len_mapped [] refl)
