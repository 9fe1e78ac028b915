-- What another link says of bodies in which no other bytes were changed than those of a link's blocks.
use Rattle.std.proofs.Common.{◌≡◌, ◌⊎◌, inl, inr, ℕ, ◌+◌, ◌-◌, ◌≤◌, List, Option, take, drop, refl, sym, ◌∙◌, ap, arith}
use Rattle.std.proofs.lemmas.List.{take-take, drop-drop, drop-take}
use Rattle.rss_base.specs.declared.tid.Tid.{Tid}
use Rattle.rss_tuple.specs.Directory.{Bodies}
use Rattle.rss_link.specs.declared.link.Chains.{Chains}
use Rattle.rss_link.specs.Blocks.{child_size, parent_size}
use Rattle.rss_link.specs.Chains.{Linkage}
use Rattle.rss_link.specs.Links.{AgreeOff, KeepsBody, same, of_child, of_parent, KeepBodies, KeepsBytes, SameBlocks, HasBlock, as_child, as_parent, AreDisjoint}
use Rattle.rss_link.proofs.Lists.{some_one}

-- bytes beside those that were changed
agree_beside : (at size k n : ℕ) (old new : List ℕ) → AgreeOff at size old new → (at + size ≤ k) ⊎ (k + n ≤ at) → take n (drop k new) ≡ take n (drop k old)
agree_beside at size k n old new agree (inl behind) =
    let far : at + size + (k - (at + size)) ≡ k = omega (arith, behind) in
    let from : (l : List ℕ) → drop k l ≡ drop (k - (at + size)) (drop (at + size) l) = λ l. sym (drop-drop (k - (at + size)) (at + size) l ∙ ap (λ (m : ℕ). drop m l) far) in
    ap (take n) (from new ∙ ap (drop (k - (at + size))) agree.back ∙ sym (from old))
agree_beside at size k n old new agree (inr before) =
    let part : (l : List ℕ) → take n (drop k l) ≡ drop k (take (k + n) (take at l)) = λ l. sym (drop-take k n l) ∙ ap (drop k) (sym (take-take (k + n) at l before)) in
    part new ∙ ap (λ (l : List ℕ). drop k (take (k + n) l)) agree.front ∙ sym (part old)

module _ (link other : Chains) (linkage others : Linkage) (disjoint : AreDisjoint link linkage other others) (segment : ℕ) (tid : Tid) (from count : ℕ) (block : HasBlock other others segment tid from count) where
  keeps_block : (old new : Option (List ℕ)) → KeepsBody link linkage segment tid old new → KeepsBytes from count old new
  keeps_block old new (same is) body there = (body, is ∙ there, refl)
  keeps_block old new (of_child {body = x} {now = y} here is_child was now agree) body there =
      let one : x ≡ body = some_one _ _ (sym was ∙ there) in
      (y, now, agree_beside link.child_at (child_size link.unary) from count x y agree (disjoint segment tid _ _ from count (as_child here is_child refl refl) block) ∙ ap (λ (l : List ℕ). take count (drop from l)) one)
  keeps_block old new (of_parent {body = x} {now = y} kind here is_parent was now agree) body there =
      let one : x ≡ body = some_one _ _ (sym was ∙ there) in
      (y, now, agree_beside link.parent_at parent_size from count x y agree (disjoint segment tid _ _ from count (as_parent kind here is_parent refl refl) block) ∙ ap (λ (l : List ℕ). take count (drop from l)) one)

pub same_blocks : (link other : Chains) (old new : Bodies) (linkage others : Linkage) → AreDisjoint link linkage other others → KeepBodies link linkage old new → SameBlocks other others old new
same_blocks link other old new linkage others disjoint keeps = record {
  of_children = λ tid is_child. keeps_block link other linkage others disjoint other.child_segment tid other.child_at (child_size other.unary) (as_child refl is_child refl refl) _ _ (keeps other.child_segment tid);
  of_parents = λ tid kind is_parent. keeps_block link other linkage others disjoint other.parent_segment tid other.parent_at parent_size (as_parent kind refl is_parent refl refl) _ _ (keeps other.parent_segment tid);
}
