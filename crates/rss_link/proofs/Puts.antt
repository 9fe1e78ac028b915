-- What the bodies say of a link once bytes of one body were put.
use Rattle.std.proofs.Common.{◌≡◌, inl, inr, ℕ, ◌+◌, ◌≤◌, ◌<◌, Bool, true, false, eqb, List, [], ◌∷◌, ◌++◌, length, Option, Some, None, refl, sym, ◌∙◌, ap, subst, arith, append_assoc}
use Rattle.std.specs.Prelude.{◌&&◌}
use Rattle.std.proofs.lemmas.Bool.{cases_eq, cond-true, cond-false, eqb-true}
use Rattle.std.proofs.lemmas.List.{length-append}
use Rattle.rss_base.specs.LogRecords.{place_bytes}
use Rattle.rss_base.specs.declared.key.PageKey.{PageKey}
use Rattle.rss_base.specs.declared.tid.Tid.{Tid}
use Rattle.rss_tuple.specs.Directory.{Bodies, with_body, is_same_tid}
use Rattle.rss_tuple.specs.TupleSteps.{pages_for, only_tuple}
use Rattle.rss_tuple.proofs.Checked.{heap_key}
use Rattle.rss_link.specs.declared.link.Chains.{Chains}
use Rattle.rss_base.specs.Prefixes.{Ends, parent_block}
use Rattle.rss_base.specs.Steps.{with_bytes}
use Rattle.rss_link.specs.declared.blocks.Standing.{Standing}
use Rattle.rss_link.specs.declared.blocks.Standing.TheVariants.{Within}
use Rattle.rss_link.specs.declared.blocks.Pointer.{Pointer}
use Rattle.rss_link.specs.declared.blocks.Pointer.TheVariants.{Next, Previous}
use Rattle.rss_link.specs.Blocks.{HasKind, IsPointer, HasBytes, HasStanding, HasEnds, standing_bytes, child_size, pointer_in, end_in}
use Rattle.rss_link.specs.Chains.{Linkage, IsParent}
use Rattle.rss_link.specs.Links.{Says, BodySaysEnds, SaysEnds, AreApart, same, of_child, of_parent, KeepBodies}
use Rattle.rss_link.specs.Calls.{link_pages, link_tuples}
use Rattle.rss_link.specs.Edits.{Bytes, bytes_of, PutsBytes, with_pointer, with_end}
use Rattle.rss_link.proofs.BlockBytes.{length-standing_bytes, length-parent_block, within_body}
use Rattle.rss_link.proofs.Edited.{put_within, put_last, agree_off}
use Rattle.rss_link.proofs.Lists.{tid_cases, is_same_tid-itself, is_same_tid-true, eqb_itself}
use Rattle.rss_link.proofs.Pointers.{long_pointer}

-- ---- one body

both : (a b : Bool) → a ≡ true → b ≡ true → (a && b) ≡ true
both a b one two = rw (one, two) refl

not_both : (a b : Bool) → (a ≡ true → b ≡ true → ⊥) → (a && b) ≡ false
not_both false b never = refl
not_both true false never = refl
not_both true true never = absurd (never refl refl)

pub body_here : (bodies : Bodies) (segment : ℕ) (tid : Tid) (body : Option (List ℕ)) → with_body bodies segment tid body segment tid ≡ body
body_here bodies segment tid body = cond-true (eqb segment segment && is_same_tid tid tid) body (bodies segment tid) (both _ _ (eqb_itself segment) (is_same_tid-itself tid))

pub body_off : (bodies : Bodies) (segment : ℕ) (tid : Tid) (body : Option (List ℕ)) (s : ℕ) (t : Tid) → (s ≡ segment → t ≡ tid → ⊥) → with_body bodies segment tid body s t ≡ bodies s t
body_off bodies segment tid body s t off = cond-false (eqb s segment && is_same_tid t tid) body (bodies s t) (not_both _ _ (λ one two. off (eqb-true s segment one) (is_same_tid-true t tid two)))

module _ {put : Bytes} {old new : Bodies} (puts : PutsBytes put old new) where
  pub now_there : new put.segment put.tid ≡ Some (with_bytes puts.reaches.body put.at put.bytes)
  now_there = ap (λ (b : Bodies). b put.segment put.tid) puts.now ∙ body_here old put.segment put.tid _

  pub now_off : (s : ℕ) (t : Tid) → (s ≡ put.segment → t ≡ put.tid → ⊥) → new s t ≡ old s t
  now_off s t off = ap (λ (b : Bodies). b s t) puts.now ∙ body_off old put.segment put.tid _ s t off

-- ---- what is said where a body is as it was

pub says_where : (link : Chains) (old new : Bodies) (t : Tid) (standing : Standing) → new link.child_segment t ≡ old link.child_segment t → Says link old t standing → Says link new t standing
says_where link old new t standing is says = record { body = says.body; there = is ∙ says.there; block = says.block }

pub ends_where : (link : Chains) (old new : Bodies) (parent : Tid) (ends : Ends) → new link.parent_segment parent ≡ old link.parent_segment parent → BodySaysEnds link old parent ends → BodySaysEnds link new parent ends
ends_where link old new parent ends is says = record { body = says.body; there = is ∙ says.there; block = says.block }

-- ---- the room of blocks

pub standing_room : (link : Chains) (bodies : Bodies) (t : Tid) (standing : Standing) → (says : Says link bodies t standing) → link.child_at + child_size link.unary ≤ length says.body
standing_room link bodies t standing says = within_body says.body link.child_at (child_size link.unary) (standing_bytes link.unary standing) (length-standing_bytes link.unary standing) (some_bytes link.unary) says.block.bytes
  where
    some_bytes : (unary : Bool) → 0 < child_size unary
    some_bytes true = omega arith
    some_bytes false = omega arith

pub ends_room : (link : Chains) (bodies : Bodies) (parent : Tid) (ends : Ends) → (says : BodySaysEnds link bodies parent ends) → link.parent_at + 12 ≤ length says.body
ends_room link bodies parent ends says = within_body says.body link.parent_at 12 (parent_block ends) (length-parent_block ends) (omega arith) says.block.bytes

-- ---- blocks with another pointer

-- a pointer of a child's block is put
pub turned_block : (unary : Bool) (which : Pointer) (body : List ℕ) (at : ℕ) (p l r to : Option Tid) → at ≤ length body → IsPointer to → HasStanding unary body at (Within p l r)
    → HasStanding unary (with_bytes body (at + pointer_in unary which) (place_bytes to)) at (with_pointer which (Within p l r) to)
turned_block true Next body at p l r to low fits has = record {
  bytes = put_last body (1 ∷ place_bytes l) (place_bytes r) (place_bytes to) at (at + 7) low (long_pointer r ∙ sym (long_pointer to)) (omega (arith, long_pointer l)) has.bytes;
  fits = (has.fits.0, has.fits.1, has.fits.2, fits);
}
turned_block true Previous body at p l r to low fits has = record {
  bytes = put_within body (1 ∷ []) (place_bytes l) (place_bytes to) (place_bytes r) at (at + 1) low (long_pointer l ∙ sym (long_pointer to)) refl has.bytes;
  fits = (has.fits.0, has.fits.1, fits, has.fits.3);
}
turned_block false Next body at p l r to low fits has =
    let long : at + 12 ≡ at + length (place_bytes p ++ place_bytes l) = omega (arith, length-append (place_bytes p) (place_bytes l), long_pointer p, long_pointer l) in
    record {
      bytes = subst (λ (b : List ℕ). HasBytes (with_bytes body (at + 12) (place_bytes to)) at b) (append_assoc (place_bytes p) (place_bytes l) (place_bytes to))
          (put_last body (place_bytes p ++ place_bytes l) (place_bytes r) (place_bytes to) at (at + 12) low (long_pointer r ∙ sym (long_pointer to)) long
          (subst (λ (b : List ℕ). HasBytes body at b) (sym (append_assoc (place_bytes p) (place_bytes l) (place_bytes r))) has.bytes));
      fits = (has.fits.0, has.fits.1, has.fits.2, fits);
    }
turned_block false Previous body at p l r to low fits has = record {
  bytes = put_within body (place_bytes p) (place_bytes l) (place_bytes to) (place_bytes r) at (at + 6) low (long_pointer l ∙ sym (long_pointer to)) (omega (arith, long_pointer p)) has.bytes;
  fits = (has.fits.0, has.fits.1, fits, has.fits.3);
}

pub turned_ends : (which : Pointer) (body : List ℕ) (at : ℕ) (ends : Ends) (to : Option Tid) → at ≤ length body → IsPointer to → HasEnds body at ends
    → HasEnds (with_bytes body (at + end_in which) (place_bytes to)) at (with_end which ends to)
turned_ends Next body at ends to low fits has = record {
  bytes = put_within body [] (place_bytes ends.first) (place_bytes to) (place_bytes ends.last) at (at + 0) low (long_pointer ends.first ∙ sym (long_pointer to)) refl has.bytes;
  fits = record { first = fits; last = has.fits.last };
}
turned_ends Previous body at ends to low fits has = record {
  bytes = put_last body (place_bytes ends.first) (place_bytes ends.last) (place_bytes to) at (at + 6) low (long_pointer ends.last ∙ sym (long_pointer to)) (omega (arith, long_pointer ends.first)) has.bytes;
  fits = record { first = has.fits.first; last = fits };
}

-- ---- the link's own pages and tuples

pub child_key : (link : Chains) (tid : Tid) (key : PageKey) → pages_for link.child_segment tid key → link_pages link key
child_key link tid key there = let heap = heap_key link.child_segment tid key there in (inl heap.0, (refl, heap.1))

pub child_tuple : (link : Chains) (tid : Tid) (s : ℕ) (t : Tid) → only_tuple link.child_segment tid s t → link_tuples link s t
child_tuple link tid s t there = inl there.0

pub parent_key : (link : Chains) (tid : Tid) → link.unary ≡ false → (key : PageKey) → pages_for link.parent_segment tid key → link_pages link key
parent_key link tid kind key there = let heap = heap_key link.parent_segment tid key there in (inr (kind, heap.0), (refl, heap.1))

pub parent_tuple : (link : Chains) (tid : Tid) → link.unary ≡ false → (s : ℕ) (t : Tid) → only_tuple link.parent_segment tid s t → link_tuples link s t
parent_tuple link tid kind s t there = inr (kind, there.0)

-- only a binary link has parents
pub kind_some : (unary : Bool) (parent : Tid) → HasKind unary (Some parent) → unary ≡ false
kind_some true parent kind = absurd cc
kind_some false parent kind = refl

pub parent_kind : (unary : Bool) (parents : Tid → Bool) (parent : Option Tid) → IsParent unary parents parent → HasKind unary parent
parent_kind true parents None is = refl
parent_kind true parents (Some parent) is = absurd is
parent_kind false parents None is = absurd is
parent_kind false parents (Some parent) is = refl

pub some_parent : (unary : Bool) (parents : Tid → Bool) (parent : Tid) → IsParent unary parents (Some parent) → (unary ≡ false) × (parents parent ≡ true)
some_parent true parents parent is = absurd is
some_parent false parents parent is = (refl, is)

-- ---- bytes of a child's body were put

module _ (link : Chains) (linkage : Linkage) (apart : AreApart link linkage) (old new : Bodies) where
  module _ (child : Tid) (is_child : linkage.children child ≡ true) (at : ℕ) (bytes : List ℕ) (puts : PutsBytes (bytes_of link.child_segment child at bytes) old new) where
    pub child_says_off : (t : Tid) (standing : Standing) → (t ≡ child → ⊥) → Says link old t standing → Says link new t standing
    child_says_off t standing off says = says_where link old new t standing (now_off puts link.child_segment t (λ same_segment is. off is)) says

    pub child_ends_off : (kept : Ends) (parent : Option Tid) (ends : Ends) → IsParent link.unary linkage.parents parent → SaysEnds link kept old parent ends → SaysEnds link kept new parent ends
    child_ends_off kept None ends is says = says
    child_ends_off kept (Some parent) ends is says =
        ends_where link old new parent ends (now_off puts link.parent_segment parent (λ same_segment same_tid.
        let kind = some_parent link.unary linkage.parents parent is in apart kind.0 (sym same_segment) parent (ap linkage.children same_tid ∙ is_child) kind.1)) says

    pub child_keeps : link.child_at ≤ at → at + length bytes ≤ link.child_at + child_size link.unary → link.child_at + child_size link.unary ≤ length puts.reaches.body → KeepBodies link linkage old new
    child_keeps from until room s t = elim (cases_eq s link.child_segment) [
      | inr differ ↦ same (now_off puts s t (λ is same_tid. differ is))
      | inl here ↦ elim (tid_cases t child) [
        | inr off ↦ same (now_off puts s t (λ is same_tid. off same_tid))
        | inl it ↦ of_child here (ap linkage.children it ∙ is_child)
            ((λ i. old (here i) (it i)) ∙ puts.reaches.there) ((λ i. new (here i) (it i)) ∙ now_there puts)
            (agree_off puts.reaches.body bytes link.child_at (child_size link.unary) at from until room)
      ]
    ]

  -- ---- bytes of a parent's body were put

  module _ (kind : link.unary ≡ false) (parent : Tid) (is_parent : linkage.parents parent ≡ true) (at : ℕ) (bytes : List ℕ) (puts : PutsBytes (bytes_of link.parent_segment parent at bytes) old new) where
    pub parent_says_off : (t : Tid) (standing : Standing) → linkage.children t ≡ true → Says link old t standing → Says link new t standing
    parent_says_off t standing is_child says = says_where link old new t standing (now_off puts link.child_segment t (λ same_segment same_tid. apart kind same_segment t is_child (ap linkage.parents same_tid ∙ is_parent))) says

    pub parent_ends_off : (kept : Ends) (other : Option Tid) (ends : Ends) → (other ≡ Some parent → ⊥) → SaysEnds link kept old other ends → SaysEnds link kept new other ends
    parent_ends_off kept None ends off says = says
    parent_ends_off kept (Some other) ends off says = ends_where link old new other ends (now_off puts link.parent_segment other (λ same_segment same_tid. off (ap Some same_tid))) says

    pub parent_keeps : link.parent_at ≤ at → at + length bytes ≤ link.parent_at + 12 → link.parent_at + 12 ≤ length puts.reaches.body → KeepBodies link linkage old new
    parent_keeps from until room s t = elim (cases_eq s link.parent_segment) [
      | inr differ ↦ same (now_off puts s t (λ is same_tid. differ is))
      | inl here ↦ elim (tid_cases t parent) [
        | inr off ↦ same (now_off puts s t (λ is same_tid. off same_tid))
        | inl it ↦ of_parent kind here (ap linkage.parents it ∙ is_parent)
            ((λ i. old (here i) (it i)) ∙ puts.reaches.there) ((λ i. new (here i) (it i)) ∙ now_there puts)
            (agree_off puts.reaches.body bytes link.parent_at 12 at from until room)
      ]
    ]
