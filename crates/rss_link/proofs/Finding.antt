-- The tuple behind a child, or the first.
use Rattle.std.proofs.Common.{◌≡◌, true, List, [], ◌∷◌, ◌++◌, Option, Some, None, refl, sym, ◌∙◌, ap, append_assoc}
use Rattle.rss_base.specs.declared.tid.Tid.{Tid}
use Rattle.rss_tuple.specs.Directory.{Bodies}
use Rattle.rss_link.specs.declared.link.Chains.{Chains}
use Rattle.rss_base.specs.Prefixes.{Ends, first_of}
use Rattle.rss_link.specs.Chains.{Linkage, Stands}
use Rattle.rss_link.specs.Links.{SpellChains}
use Rattle.rss_link.specs.Calls.{Follows, IsTheOne}
use Rattle.rss_link.specs.Edits.{IsParted}
use Rattle.rss_link.proofs.Lists.{last_is, same_place, never_some}
use Rattle.rss_link.proofs.Relinked.{none_before}

module _ {link : Chains} {kept : Ends} {bodies : Bodies} {linkage : Linkage} (spells : SpellChains link kept bodies linkage) {parent left : Option Tid} {before after : List Tid} (parted : IsParted link linkage parent left before after) where
  module _ (t : Tid) (is : left ≡ Some t) where
    abbrev stands_left : Stands linkage.lists t
    stands_left = let last = last_is before t (sym parted.behind ∙ is) in record {
      parent = parent;
      before = last.0;
      after = after;
      is = parted.is ∙ ap (λ (l : List Tid). l ++ after) last.1 ∙ append_assoc last.0 (t ∷ []) after;
    }

    pub left_is_child : linkage.children t ≡ true
    left_is_child = spells.chains.children t stands_left

    none_behind : (next : Tid) → Follows linkage.lists t next → after ≡ [] → ⊥
    none_behind next follows empty =
        let other : Stands linkage.lists t = record { parent = follows.parent; before = follows.before; after = next ∷ follows.after; is = follows.is } in
        let once = spells.chains.once t stands_left other in
        let parts = same_place linkage.lists t stands_left other once.0 once.1 in
        never_some next None refl (sym (ap first_of empty) ∙ ap first_of (sym parts.1))

    found_behind : (rest : List Tid) → after ≡ rest → (found : Option Tid) → IsTheOne (λ next. Follows linkage.lists t next) found → found ≡ first_of rest
    found_behind (x ∷ rest) here found one = (one x).1 (record { parent = parent; before = stands_left.before; after = rest; is = stands_left.is ∙ ap (λ (l : List Tid). stands_left.before ++ t ∷ l) here })
    found_behind [] here None one = refl
    found_behind [] here (Some next) one = absurd (none_behind next ((one next).0 refl) here)

    pub finds_behind : (found : Option Tid) → IsTheOne (λ next. Follows linkage.lists t next) found → found ≡ first_of after
    finds_behind found one = found_behind after refl found one

  pub finds_first : left ≡ None → (found : Option Tid) → found ≡ first_of (linkage.lists parent) → found ≡ first_of after
  finds_first none found is = is ∙ ap first_of (parted.is ∙ ap (λ (l : List Tid). l ++ after) (none_before before (sym parted.behind ∙ none)))
