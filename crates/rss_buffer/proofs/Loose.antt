-- Data slots that the shadow map doesn't use, and what is fixed outside them.
use Rattle.std.proofs.Common.{◌≡◌, inl, inr, ⊎_elim, ℕ, ◌+◌, ◌-◌, Bool, true, false, not, cond, List, Option, Some, None, refl, sym, ◌∙◌, ap, subst, arith}
use Rattle.std.specs.Prelude.{is_some}
use Rattle.std.proofs.Math.Path.{fun_ext}
use Rattle.std.proofs.lemmas.Option.{same_Some}
use Rattle.std.proofs.lemmas.Bool.{cases_Bool, le-leb, and_from, cond-true}
use Rattle.rss_base.specs.DiskRule.{Disk, Pages, page, Told, Leaves, SameOff, TornIn, Passes}
use Rattle.rss_base.specs.PageMap.{owner_of}
use Rattle.rss_base.specs.Paged.{Fixed, HasFixed, IsUnfixed, LeavesFixed}
use Rattle.rss_base.specs.declared.key.PageKey.{PageKey}
use Rattle.rss_base.proofs.Moments.{widened, now}
use Rattle.rss_buffer.specs.Slots.{is_loose, fixed_by, told_pages}
use Rattle.rss_buffer.specs.Buffered.{IsLoose, StaysFixed, WritesLoose}

-- ---- which pages are loose

pub IsLoose-slot : (first : ℕ) (shadow : List (Option PageKey)) (slot : ℕ) → owner_of shadow slot ≡ None → IsLoose first shadow (first + slot)
IsLoose-slot first shadow slot none =
    let at : first + slot - first ≡ slot = omega arith in
    and_from _ _ (le-leb first (first + slot) (omega arith)) (ap (λ (s : ℕ). not (is_some (owner_of shadow s))) at ∙ ap (λ (o : Option PageKey). not (is_some o)) none)

-- a page that is fixed isn't loose, and it is the device's
pub fixed_page : (first : ℕ) (shadow : List (Option PageKey)) (pages : Pages) (q : ℕ) (bytes : List ℕ) → (fixed_by first shadow (Some pages)).held_at q ≡ Some bytes → (IsLoose first shadow q → ⊥) × (page pages q ≡ bytes)
fixed_page first shadow pages q bytes is = by (is_loose first shadow q) is
  where
    by : (loose : Bool) → cond loose None (Some (page pages q)) ≡ Some bytes → (loose ≡ true → ⊥) × (page pages q ≡ bytes)
    by true is = absurd (cc)
    by false is = (λ yes. cc, cc)

-- nothing is fixed of a page that is loose
pub loose_unfixed : (first : ℕ) (shadow : List (Option PageKey)) (contents : Option Pages) (q : ℕ) → IsLoose first shadow q → IsUnfixed (fixed_by first shadow contents) q
loose_unfixed first shadow contents q is = cond-true _ _ _ is

-- nor of any other
pub unfixed_loose : (first : ℕ) (shadow : List (Option PageKey)) (contents : Option Pages) (q : ℕ) → IsUnfixed (fixed_by first shadow contents) q → IsLoose first shadow q
unfixed_loose first shadow contents q is = by (is_loose first shadow q) is
  where
    by : (loose : Bool) → cond loose None (Some (page (told_pages contents) q)) ≡ None → loose ≡ true
    by true is = refl
    by false is = absurd (cc)

-- the same slots are loose
pub loose_same : {first first_now : ℕ} {shadow shadow_now : List (Option PageKey)} → first_now ≡ first → shadow_now ≡ shadow → (q : ℕ) → IsLoose first_now shadow_now q → IsLoose first shadow q
loose_same {first = first} {shadow_now = shadow_now} same_first same_shadow q is =
    subst (λ (owners : List (Option PageKey)). IsLoose first owners q) same_shadow (subst (λ (n : ℕ). IsLoose n shadow_now q) same_first is)

module _ (first : ℕ) (shadow : List (Option PageKey)) where
  -- what is fixed stays where only loose pages are written
  pub fixed-same : (before after : Pages) → SameOff (IsLoose first shadow) before after → fixed_by first shadow (Some after) ≡ fixed_by first shadow (Some before)
  fixed-same before after same = λ i. record { size = same.size i; held_at = pages i }
    where
      pages : (fixed_by first shadow (Some after)).held_at ≡ (fixed_by first shadow (Some before)).held_at
      pages = fun_ext (λ q. elim (cases_Bool (is_loose first shadow q)) [
        | inl loose ↦ cond-true _ _ _ loose ∙ sym (cond-true _ _ _ loose)
        | inr fixed ↦ ap (λ (bytes : List ℕ). cond (is_loose first shadow q) None (Some bytes)) (same.others q (λ loose. cc))
      ])

  pub HasFixed-torn : (pages : Pages) (P : Pages → Type 0) → ((image : Pages) → P image → HasFixed (fixed_by first shadow (Some pages)) image) → (image : Pages) → TornIn (IsLoose first shadow) P image → HasFixed (fixed_by first shadow (Some pages)) image
  HasFixed-torn pages P has image torn =
      let before = has torn.before torn.was in
      record {
        size = torn.same.size ∙ before.size;
        pages = λ q bytes is. torn.same.others q (fixed_page first shadow pages q bytes is).0 ∙ before.pages q bytes is;
      }

  -- ---- a call that writes loose pages alone

  -- what was fixed still is, and at each moment of the call
  pub StaysFixed-writes : (old new : Disk) → WritesLoose first shadow old new → Told old (StaysFixed old first shadow) → Told new (StaysFixed new first shadow)
  StaysFixed-writes old new writes stays after is image left =
      let was = writes.told.1 (record { pages = after; is = is }) in
      let kept = writes.kept was.pages was.is in
      let same : kept.after ≡ after = same_Some _ _ (sym kept.told ∙ is) in
      let fixed = fixed-same was.pages kept.after kept.same in
      subst (λ (pages : Pages). HasFixed (fixed_by first shadow (Some pages)) image) same
      (subst (λ (f : Fixed). HasFixed f image) (sym fixed)
      (⊎_elim (λ before. stays was.pages was.is image before) (λ torn. HasFixed-torn was.pages (Leaves old) (stays was.pages was.is) image torn) (now (writes.moments was) image left)))

  pub LeavesFixed-writes : (settled : Type 0) (old new : Disk) → WritesLoose first shadow old new → (settled → Told old (StaysFixed old first shadow)) → LeavesFixed settled settled old new (fixed_by first shadow old.contents) (fixed_by first shadow new.contents)
  LeavesFixed-writes settled old new writes stays = record {
    told = writes.told;
    stays_settled = λ is. is;
    same = λ is told.
        let kept = writes.kept told.pages told.is in
        ap (fixed_by first shadow) kept.told ∙ fixed-same told.pages kept.after kept.same ∙ sym (ap (fixed_by first shadow) told.is);
    moments = λ is told. subst (λ (o : Option Pages). Passes old new (HasFixed (fixed_by first shadow o))) (sym told.is)
        (widened (writes.moments told) (HasFixed-torn told.pages (Leaves old) (stays is told.pages told.is)));
  }
