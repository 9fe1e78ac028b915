-- A test that the bounds and the pairs of rows pass.
use Rattle.std.proofs.Common.{◌≡◌, ℕ, Bool, true, List, [], ◌∷◌, ◌++◌, sym, ◌∙◌, ap, subst}
use Rattle.rss_base.specs.Entries.{Entry}
use Rattle.rss_levels.specs.Entries.{Each}
use Rattle.rss_levels.specs.Rows.{Part, Row, HasHead, Begins, names, items}
use Rattle.rss_levels.specs.Spots.{IsMade}
use Rattle.rss_levels.proofs.Lists.{each_append, each_left, each_right}

module _ (good : List ℕ → Bool) where
  abbrev pub IsGood : Entry → Type 0
  IsGood e = good e.pair ≡ true

  first_good : (low : List ℕ) (es : List Entry) → Begins low es → Each IsGood es → good low ≡ true
  first_good low [] begins all = absurd begins
  first_good low (e ∷ es) begins all = ap good (sym begins) ∙ all.0

  -- nodes that begin at their bounds
  pub made_row : (row : Row) → Each HasHead row → Each IsGood (items row) → Each (IsMade good) row
  made_row [] heads all = tt
  made_row (p ∷ row) heads all =
      let mine = each_left IsGood p.items (items row) all in
      ((first_good p.low p.items heads.0 mine, mine), made_row row heads.1 (each_right IsGood p.items (items row) all))

  -- what stands in place of nodes, by its entries
  pub made_parts : (head : Part) (extra : Row) (entries : List Entry) → good head.low ≡ true → Each HasHead extra → items (head ∷ extra) ≡ entries → Each IsGood entries → Each (IsMade good) (head ∷ extra)
  made_parts head extra entries low heads are all =
      let own : Each IsGood (head.items ++ items extra) = subst (Each IsGood) (sym are) all in
      ((low, each_left IsGood head.items (items extra) own), made_row extra heads (each_right IsGood head.items (items extra) own))

  -- how the row above names them
  pub made_names : (row : Row) → Each (IsMade good) row → Each IsGood (names row)
  made_names [] all = tt
  made_names (p ∷ row) all = (all.0.0, made_names row all.1)

  -- in place of one node there are others
  pub made_between : (before : Row) (here : Part) (after mid : Row) → Each (IsMade good) (before ++ here ∷ after) → Each (IsMade good) mid → Each (IsMade good) (before ++ (mid ++ after))
  made_between before here after mid all new =
      each_append (IsMade good) before (mid ++ after) (each_left (IsMade good) before (here ∷ after) all)
      (each_append (IsMade good) mid after new (each_right (IsMade good) before (here ∷ after) all).1)

  pub made_here : (before : Row) (here : Part) (after : Row) → Each (IsMade good) (before ++ here ∷ after) → IsMade good here
  made_here before here after all = (each_right (IsMade good) before (here ∷ after) all).0
