-- What a stop leaves while one root takes the place of the other.
use Rattle.std.proofs.Common.{◌≡◌, ◌≢◌, inl, inr, ℕ, ◌-◌, ◌<◌, List, [], length, set, sym, ◌∙◌, ap, subst, arith, length-set, get_or-set_other, get_or-set_same}
use Rattle.std.proofs.lemmas.Bool.{cases_eq}
use Rattle.rss_base.specs.DiskRule.{Disk, Pages, page, Leaves, LeavesOnly, IsAt, SameOff, TornIn, Passes}
use Rattle.rss_base.specs.Layout.{selected_by, selected, root_of}
use Rattle.rss_base.proofs.Moments.{then, widened}
use Rattle.rss_root.specs.Roots.{Selects, SelectsEither, IsPhase}

-- where a page other than the selector and the selected root is torn, that root stays
beside : {disk : Disk} (valid at : ℕ) (bytes : List ℕ) → Selects disk valid bytes → at ≢ 0 → at ≢ valid → (image : Pages) → TornIn (IsAt at) (Leaves disk) image → root_of image ≡ bytes
beside valid at bytes selects not_selector not_root image torn =
    let number : selected image ≡ valid = ap selected_by (torn.same.others 0 (λ e. not_selector (sym e))) ∙ selects.selected_one torn.before torn.was in
    ap (page image) number ∙ torn.same.others valid (λ e. not_root (sym e)) ∙ selects.there torn.before torn.was

-- where the selector is torn, one of the two roots is selected
gate : (pages : Pages) (valid other : ℕ) (before after : List ℕ) → 0 < valid → valid < 3 → other ≡ 3 - valid → other < length pages → page pages valid ≡ before → (image : Pages) → SameOff (IsAt 0) (set pages other after) image → SelectsEither before after image
gate pages valid other before after low high is room was image torn = elim (cases_eq (selected image) valid) [
  | inl same ↦ inl (ap (page image) same ∙ torn.others valid (omega arith) ∙ get_or-set_other pages other valid after [] (omega arith) ∙ was)
  | inr not ↦
      let now : selected image ≡ other = omega (arith, not) in
      inr (ap (page image) now ∙ torn.others other (omega arith) ∙ get_or-set_same pages other after [] room)
]

-- what may be left while the selector is written
second_phase : (disk : Disk) (pages : Pages) → LeavesOnly disk pages → (image : Pages) → TornIn (IsAt 0) (Leaves disk) image → SameOff (IsAt 0) pages image
second_phase disk pages only image torn = subst (λ (p : Pages). SameOff (IsAt 0) p image) (only torn.before torn.was) torn.same

-- the two steps together
pub in_phases : {old mid new : Disk} (pages : Pages) (other : ℕ) (after : List ℕ) → Passes old mid (TornIn (IsAt other) (Leaves old)) → LeavesOnly mid (set pages other after) → Passes mid new (TornIn (IsAt 0) (Leaves mid)) → Passes old new (IsPhase old pages other after)
in_phases {mid = mid} pages other after first only second = then (widened first (λ image torn. inl torn)) second (λ image torn. inr (second_phase mid (set pages other after) only image torn))

pub either_selected : {old mid new : Disk} (pages : Pages) (valid other : ℕ) (before after : List ℕ) → 0 < valid → valid < 3 → other ≡ 3 - valid → other < length pages → Leaves old pages → Selects old valid before
    → Passes old mid (TornIn (IsAt other) (Leaves old)) → LeavesOnly mid (set pages other after) → Passes mid new (TornIn (IsAt 0) (Leaves mid)) → Passes old new (SelectsEither before after)
either_selected {mid = mid} pages valid other before after low high is room reads selects first only second =
    then
    (widened first (λ image torn. inl (beside valid other before selects (omega arith) (omega arith) image torn)))
    second
    (λ image torn. gate pages valid other before after low high is room (selects.there pages reads) image (second_phase mid (set pages other after) only image torn))

-- after both writes the new root is selected
pub settled : {disk : Disk} (pages : Pages) (other : ℕ) (after selector : List ℕ) → 0 < other → other < length pages → selected_by selector ≡ other → LeavesOnly disk (set (set pages other after) 0 selector) → Selects disk other after
settled pages other after selector low room names only =
    let there : page (set (set pages other after) 0 selector) other ≡ after = get_or-set_other (set pages other after) 0 other selector [] (omega arith) ∙ get_or-set_same pages other after [] room in
    let front : page (set (set pages other after) 0 selector) 0 ≡ selector = get_or-set_same (set pages other after) 0 selector [] (omega (arith, length-set pages other after)) in
    record {
      selected_one = λ image left. ap selected (only image left) ∙ ap selected_by front ∙ names;
      there = λ image left. ap (λ (p : Pages). page p other) (only image left) ∙ there;
    }
