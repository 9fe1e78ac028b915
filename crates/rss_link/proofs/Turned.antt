-- What is said of a link once one block was changed.
use Rattle.std.proofs.Common.{◌≡◌, ℕ, ◌+◌, ◌≤◌, Bool, true, false, List, length, Option, Some, None, refl, sym, ◌∙◌, ap, subst, arith}
use Rattle.std.proofs.Math.Bridge.{le_prop}
use Rattle.std.proofs.Math.Logic.{∥∥₁_elim}
use Rattle.rss_base.specs.LogRecords.{place_bytes}
use Rattle.rss_base.specs.declared.tid.Tid.{Tid}
use Rattle.rss_tuple.specs.Directory.{Bodies}
use Rattle.rss_tuple.specs.TupleSteps.{TuplesView}
use Rattle.rss_link.specs.declared.link.Chains.{Chains}
use Rattle.rss_base.specs.Prefixes.{Ends}
use Rattle.rss_link.specs.declared.blocks.Standing.{Standing}
use Rattle.rss_link.specs.declared.blocks.Standing.TheVariants.{Within}
use Rattle.rss_link.specs.declared.blocks.Pointer.{Pointer}
use Rattle.rss_link.specs.declared.blocks.Pointer.TheVariants.{Next, Previous}
use Rattle.rss_link.specs.Blocks.{HasStanding, HasEnds, standing_bytes, child_size, pointer_in, end_in}
use Rattle.rss_link.specs.Chains.{Linkage}
use Rattle.rss_link.specs.Links.{Says, AreApart}
use Rattle.rss_link.specs.Calls.{seen_with}
use Rattle.rss_link.specs.Edits.{bytes_of, PutsBytes, SaysSome, SaysSomeEnds, with_pointer, turn, Restates, Turns}
use Rattle.rss_link.proofs.BlockBytes.{length-standing_bytes}
use Rattle.rss_link.proofs.Edited.{put_whole}
use Rattle.rss_link.proofs.Lists.{some_one, never_some}
use Rattle.rss_link.proofs.Pointers.{long_pointer}
use Rattle.rss_link.proofs.Puts.{now_there, standing_room, ends_room, turned_block, turned_ends, child_says_off, child_ends_off, child_keeps, parent_says_off, parent_ends_off, parent_keeps}

-- bytes at a place that is the same, and that are the same
pub puts_same : (segment : ℕ) (tid : Tid) (at at_now : ℕ) (bytes bytes_now : List ℕ) (old new : Bodies) → at ≡ at_now → bytes ≡ bytes_now
    → PutsBytes (bytes_of segment tid at bytes) old new → PutsBytes (bytes_of segment tid at_now bytes_now) old new
puts_same segment tid at at_now bytes bytes_now old new one two puts = subst (λ (k : ℕ). PutsBytes (bytes_of segment tid k bytes_now) old new) one (subst (λ (b : List ℕ). PutsBytes (bytes_of segment tid at b) old new) two puts)

pub pointer_fits : (unary : Bool) (which : Pointer) → pointer_in unary which + 6 ≤ child_size unary
pointer_fits true Next = omega arith
pointer_fits true Previous = omega arith
pointer_fits false Next = omega arith
pointer_fits false Previous = omega arith

pub end_fits : (which : Pointer) → end_in which + 6 ≤ 12
end_fits Next = omega arith
end_fits Previous = omega arith

module _ (link : Chains) (linkage : Linkage) (apart : AreApart link linkage) (old new : TuplesView) (kept : Ends) where
  pub restated : (child : Tid) (standing : Standing) → linkage.children child ≡ true
      → PutsBytes (bytes_of link.child_segment child link.child_at (standing_bytes link.unary standing)) old.bodies new.bodies
      → Restates link child standing linkage (seen_with kept old) (seen_with kept new)
  restated child standing is_child puts =
      let bytes : List ℕ = standing_bytes link.unary standing in
      let long : length bytes ≡ child_size link.unary = length-standing_bytes link.unary standing in
      let room : link.child_at + length bytes ≤ length puts.reaches.body = puts.reaches.room in
      record {
        here = λ fits. record { body = _; there = now_there puts; block = record { bytes = put_whole puts.reaches.body bytes link.child_at room; fits = fits } };
        keeps = record {
          says = λ t s is off says. child_says_off link linkage apart old.bodies new.bodies child is_child link.child_at bytes puts t s off says;
          ends = λ parent ends is off says. child_ends_off link linkage apart old.bodies new.bodies child is_child link.child_at bytes puts kept parent ends is says;
          bodies = child_keeps link linkage apart old.bodies new.bodies child is_child link.child_at bytes puts (omega arith) (omega (arith, long)) (omega (arith, long, room));
        };
      }

  pub turned_child : (which : Pointer) (parent to : Option Tid) (child : Tid) → linkage.children child ≡ true
      → (puts : PutsBytes (bytes_of link.child_segment child (link.child_at + pointer_in link.unary which) (place_bytes to)) old.bodies new.bodies)
      → ∥ SaysSome link old.bodies child ∥₁
      → Turns link (turn which parent (Some child) to) linkage (seen_with kept old) (seen_with kept new)
  turned_child which parent to child is_child puts some =
      let at : ℕ = link.child_at + pointer_in link.unary which in
      let room_too : link.child_at + child_size link.unary ≤ length puts.reaches.body = ∥∥₁_elim some le_prop (λ (some : SaysSome link old.bodies child).
      subst (λ (b : List ℕ). link.child_at + child_size link.unary ≤ length b) (some_one _ _ (sym some.says.there ∙ puts.reaches.there)) (standing_room link old.bodies child some.standing some.says)) in
      record {
        child = record {
          each = λ other p l r is fits says.
              let it : child ≡ other = some_one child other is in
              let at_child : Says link old.bodies child (Within p l r) = subst (λ (t : Tid). Says link old.bodies t (Within p l r)) (sym it) says in
              let body_is : at_child.body ≡ puts.reaches.body = some_one _ _ (sym at_child.there ∙ puts.reaches.there) in
              subst (λ (t : Tid). Says link new.bodies t (with_pointer which (Within p l r) to)) it (record {
                body = _;
                there = now_there puts;
                block = turned_block link.unary which puts.reaches.body link.child_at p l r to (omega (arith, room_too)) fits (subst (λ (b : List ℕ). HasStanding link.unary b link.child_at (Within p l r)) body_is at_child.block);
              });
        };
        end = record { each = λ ends none fits says. absurd (never_some child (Some child) none refl) };
        keeps = record {
          says = λ t s is off says. child_says_off link linkage apart old.bodies new.bodies child is_child at (place_bytes to) puts t s (λ it. off (ap Some (sym it))) says;
          ends = λ q ends is off says. child_ends_off link linkage apart old.bodies new.bodies child is_child at (place_bytes to) puts kept q ends is says;
          bodies = child_keeps link linkage apart old.bodies new.bodies child is_child at (place_bytes to) puts (omega arith) (omega (arith, pointer_fits link.unary which, long_pointer to)) room_too;
        };
      }

  pub turned_parent : (which : Pointer) (to : Option Tid) (parent : Tid) → link.unary ≡ false → linkage.parents parent ≡ true
      → (puts : PutsBytes (bytes_of link.parent_segment parent (link.parent_at + end_in which) (place_bytes to)) old.bodies new.bodies)
      → ∥ SaysSomeEnds link (seen_with kept old) (Some parent) ∥₁
      → Turns link (turn which (Some parent) None to) linkage (seen_with kept old) (seen_with kept new)
  turned_parent which to parent kind is_parent puts some =
      let at : ℕ = link.parent_at + end_in which in
      let room_too : link.parent_at + 12 ≤ length puts.reaches.body = ∥∥₁_elim some le_prop (λ (some : SaysSomeEnds link (seen_with kept old) (Some parent)).
      subst (λ (b : List ℕ). link.parent_at + 12 ≤ length b) (some_one _ _ (sym some.says.there ∙ puts.reaches.there)) (ends_room link old.bodies parent some.ends some.says)) in
      record {
        child = record { each = λ other p l r is fits says. absurd (never_some other None refl is) };
        end = record {
          each = λ ends none fits says.
              let body_is : says.body ≡ puts.reaches.body = some_one _ _ (sym says.there ∙ puts.reaches.there) in
              record {
                body = _;
                there = now_there puts;
                block = turned_ends which puts.reaches.body link.parent_at ends to (omega (arith, room_too)) fits (subst (λ (b : List ℕ). HasEnds b link.parent_at ends) body_is says.block);
              };
        };
        keeps = record {
          says = λ t s is off says. parent_says_off link linkage apart old.bodies new.bodies kind parent is_parent at (place_bytes to) puts t s is says;
          ends = λ q ends is off says. parent_ends_off link linkage apart old.bodies new.bodies kind parent is_parent at (place_bytes to) puts kept q ends (λ it. off (refl, it)) says;
          bodies = parent_keeps link linkage apart old.bodies new.bodies kind parent is_parent at (place_bytes to) puts (omega arith) (omega (arith, end_fits which, long_pointer to)) room_too;
        };
      }
