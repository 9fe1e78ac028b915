-- How much room images need: the sum over the images of a listing, one after another.
use Rattle.std.proofs.Common.{◌≡◌, ℕ, zero, suc, ◌+◌, ◌-◌, ◌<◌, ◌≤◌, false, List, [], ◌∷◌, length, take, get_or, refl, sym, ◌∙◌, ap, arith, inl, inr}
use Rattle.std.specs.Prelude.{Option, Some, None, is_some, option_map, sum_by}
use Rattle.std.proofs.lemmas.Bool.{cases_lt}
use Rattle.std.proofs.lemmas.List.{take_all, get_or_past}
use Rattle.std.proofs.lemmas.List.Sums.{sum_by-cons, sum_by_more}
use Rattle.rss_base.specs.Listings.{Listing, numbered, names_of, image_at}
use Rattle.rss_base.specs.declared.image.ImageEntry.{ImageEntry}
use Rattle.rss_base.specs.declared.refusal.Kind.TheVariants.{Image as ImageKind}
use Rattle.rss_catalog.proofs.Numbered.{numbered_at, numbered_past, numbered_map, unused_none}

-- ---- whether a number is used

pub image_used : (listing : Listing) (number : ℕ) → is_some (numbered (names_of ImageKind listing) number) ≡ is_some (image_at listing number)
image_used listing number = ap is_some (numbered_map (λ (image : ImageEntry). image.name) listing.images number) ∙ same (image_at listing number)
  where
    same : (o : Option ImageEntry) → is_some (option_map (λ (image : ImageEntry). image.name) o) ≡ is_some o
    same None = refl
    same (Some image) = refl

-- ---- the sum over the images

module _ {A : Type 0} (f : Option A → ℕ) (none : f None ≡ 0) where
  -- one place more
  pub sum_more : (items : List (Option A)) (i : ℕ) → sum_by f (take (i + 1) items) ≡ sum_by f (take i items) + f (numbered items (i + 1))
  sum_more items i = elim (cases_lt i (length items)) [
    | inl within ↦ sum_by_more f items i None within ∙ ap (λ (o : Option A). sum_by f (take i items) + f o) (ap (λ (k : ℕ). get_or items k None) (less i) ∙ sym (numbered_at items (i + 1) (omega arith) (omega arith)))
    | inr past ↦
        let all : take (i + 1) items ≡ take i items = take_all (i + 1) items (omega arith) ∙ sym (take_all i items past) in
        let no_more : f (numbered items (i + 1)) ≡ 0 = ap f (numbered_past items (i + 1) (omega arith)) ∙ none in
        ap (sum_by f) all ∙ plus_none (sum_by f (take i items)) (f (numbered items (i + 1))) no_more
  ]
    where
      less : (i : ℕ) → i ≡ i + 1 - 1
      less i = omega arith

      plus_none : (a b : ℕ) → b ≡ 0 → a ≡ a + b
      plus_none a b is = omega arith

  whole : (items : List (Option A)) (i : ℕ) → ((k : ℕ) → i ≤ k → get_or items k None ≡ None) → sum_by f (take i items) ≡ sum_by f items
  whole [] zero behind = refl
  whole [] (suc i) behind = refl
  whole (x ∷ items) zero behind =
      let here : f x ≡ 0 = ap f (behind 0 (omega arith)) ∙ none in
      let rest : 0 ≡ sum_by f items = whole items zero (λ k low. behind (suc k) (omega arith)) in
      both (f x) (sum_by f items) here rest ∙ sym (sum_by-cons f x items)
    where
      both : (a b : ℕ) → a ≡ 0 → 0 ≡ b → 0 ≡ a + b
      both a b one other = omega arith
  whole (x ∷ items) (suc i) behind =
      sum_by-cons f x (take i items) ∙ ap (λ (n : ℕ). f x + n) (whole items i (λ k low. behind (suc k) (omega arith))) ∙ sym (sum_by-cons f x items)

  -- where nothing has a number behind these
  pub sum_whole : (items : List (Option A)) (i : ℕ) → ((number : ℕ) → i < number → numbered items number ≡ None) → sum_by f (take i items) ≡ sum_by f items
  sum_whole items i behind = whole items i (λ k low. elim (cases_lt k (length items)) [
    | inl within ↦ ap (λ (j : ℕ). get_or items j None) (less k) ∙ sym (numbered_at items (k + 1) (omega arith) (omega arith)) ∙ behind (k + 1) (omega arith)
    | inr past ↦ get_or_past items k None past
  ])
    where
      less : (k : ℕ) → k ≡ k + 1 - 1
      less k = omega arith

-- one image more, or none
module _ (f : Option ImageEntry → ℕ) (none : f None ≡ 0) (listing : Listing) (place sum : ℕ) (before : sum ≡ sum_by f (take place listing.images)) where
  pub image_added : {image : ImageEntry} {more now : ℕ} → image_at listing (place + 1) ≡ Some image → more ≡ f (Some image) → now ≡ sum + more → now ≡ sum_by f (take (place + 1) listing.images)
  image_added at more_is now_is = now_is ∙ (λ i. before i + (more_is ∙ ap f (sym at)) i) ∙ sym (sum_more f none listing.images place)

  pub image_passed : {now : ℕ} → is_some (numbered (names_of ImageKind listing) (place + 1)) ≡ false → now ≡ sum → now ≡ sum_by f (take (place + 1) listing.images)
  image_passed free same =
      let at : image_at listing (place + 1) ≡ None = unused_none _ (sym (image_used listing (place + 1)) ∙ free) in
      same ∙ before ∙ plus_none _ _ (ap f at ∙ none) ∙ sym (sum_more f none listing.images place)
    where
      plus_none : (a b : ℕ) → b ≡ 0 → a ≡ a + b
      plus_none a b is = omega arith
