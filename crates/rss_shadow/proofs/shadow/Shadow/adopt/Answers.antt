use Rattle.std.proofs.Common.{◌≡◌, ◌∙◌, ◌*◌, ◌<◌, ◌≤◌, ◌&&◌, ℕ, true, length, sym, subst}
use Rattle.std.specs.Prelude.{is_some, slice_index_or}
use Rattle.rss_base.specs.PageMap.{owner_of, page_count}
use Rattle.rss_shadow.specs.Maps.{Maps}
use Rattle.rss_shadow.proofs.Counts.{Owners}
use Rattle.rss_shadow.proofs.Filled.{IsShadow-adopts}
use Rattle.rss_shadow.proofs.shadow.Shadow.adopt.Goals as goal

pub invariant_of-self : goal.invariant_of-self
invariant_of-self c =
    let owners = c.as_slice-owners.ensures.owners in
    IsShadow-adopts _ _ _ _ _ _ _ _ _ c.self.invariant
    (subst (λ (m : Maps). 2 * page_count m.current ≤ length m.current) (sym c.self.view_is) c.requires)
    (c.copy_from_slice.ensures.items ∙ owners) c.remove_unowned.ensures.count
    (subst (λ (o : Owners). (slot : ℕ) → slot < length o → slice_index_or c.remove_unowned.new.used slot true ≡ (is_some (owner_of o slot) && slice_index_or c.self.inside.used slot true)) owners c.remove_unowned.ensures.left)
