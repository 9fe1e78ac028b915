-- How many pages can be taken, by which pages an image has.
use Rattle.std.proofs.Common.{◌≡◌, ◌≢◌, ◌⊎◌, inl, inr, ⊎_elim, ℕ, ◌+◌, Bool, true, false, List, [], ◌∷◌, length, Option, Some, None, refl, sym, ◌∙◌, ap, subst, arith}
use Rattle.std.specs.Prelude.{is_some}
use Rattle.std.proofs.lemmas.Bool.{cases_Bool, cond-true, cond-false}
use Rattle.rss_base.specs.DiskRule.{IsTold}
use Rattle.rss_base.specs.PageMap.{IsKey, page_count}
use Rattle.rss_base.specs.Paged.{Mapped, is_same, page_key, with_mapped, mapped_pages}
use Rattle.rss_base.specs.Steps.{PagesView, PagesStep, AreCounted, pages_in}
use Rattle.rss_base.specs.declared.key.PageKey.{PageKey}
use Rattle.rss_base.specs.declared.key.Space.TheVariants.{Image as ImageSpace}
use Rattle.rss_base.proofs.Counts.{one_more, mapped_pages-same}
use Rattle.rss_base.proofs.Keys.{is_same-true, is_same-itself, is_same-other}
use Rattle.rss_levels.specs.Entries.{Each, Pairwise, IsIn}
use Rattle.rss_levels.specs.Spots.{IsOwn}
use Rattle.rss_levels.proofs.Lists.{each_weaker}
use Rattle.rss_levels.proofs.Pages.{IsHeld, in_or_not, stack_held}
use Rattle.rss_node.specs.declared.pair.Nodes.{Nodes}
use Rattle.rss_image.specs.Trees.{cells_of, spells, KeepsPages, LosesNoPage}
use Rattle.rss_image.specs.Images.{nodes_of, ImageTree, pages_of}
use Rattle.rss_image.specs.declared.image.Image.{Image}
use Rattle.rss_image.proofs.Putting.{StillCounted}

module _ (segment : ℕ) where
  abbrev key_of : ℕ → PageKey
  key_of n = page_key segment ImageSpace n

  -- the same pages are mapped, but that these are, or aren't
  abbrev with_all : Bool → Mapped → List ℕ → Mapped
  with_all now base [] = base
  with_all now base (n ∷ ns) = with_mapped (with_all now base ns) (key_of n) now

  number_of : (n m : ℕ) → key_of n ≡ key_of m → n ≡ m
  number_of n m is = ap (λ (k : PageKey). k.number) is

  all_at : (now : Bool) (base : Mapped) (ns : List ℕ) (n : ℕ) → IsIn ns n → with_all now base ns (key_of n) ≡ now
  all_at now base [] n is = absurd is
  all_at now base (m ∷ ns) n is = ⊎_elim
      (λ (here : is_same (key_of n) (key_of m) ≡ true). cond-true (is_same (key_of n) (key_of m)) now (with_all now base ns (key_of n)) here)
      (λ (off : is_same (key_of n) (key_of m) ≡ false).
      let more : IsIn ns n = ⊎_elim (λ (same : m ≡ n). let never : true ≡ false = sym (is_same-itself (key_of n)) ∙ ap (λ (k : ℕ). is_same (key_of n) (key_of k)) (sym same) ∙ off in absurd (cc)) (λ (there : IsIn ns n). there) is in
      cond-false (is_same (key_of n) (key_of m)) now (with_all now base ns (key_of n)) off ∙ all_at now base ns n more)
      (cases_Bool (is_same (key_of n) (key_of m)))

  all_off : (now : Bool) (base : Mapped) (ns : List ℕ) (key : PageKey) → ((n : ℕ) → IsIn ns n → key ≡ key_of n → ⊥) → with_all now base ns key ≡ base key
  all_off now base [] key off = refl
  all_off now base (m ∷ ns) key off =
      cond-false (is_same key (key_of m)) now (with_all now base ns key) (is_same-other key (key_of m) (off m (inl refl)))
      ∙ all_off now base ns key (λ n is. off n (inr is))

  -- so many more are mapped
  count_all : (slots : ℕ) (base : Mapped) (ns : List ℕ) → Pairwise (λ a b. a ≢ b) ns → Each (λ n. base (key_of n) ≡ false) ns → Each (λ n. IsKey slots (key_of n)) ns → mapped_pages slots (with_all true base ns) ≡ mapped_pages slots base + length ns
  count_all slots base [] distinct free allowed = omega arith
  count_all slots base (n ∷ ns) distinct free allowed =
      let rest = count_all slots base ns distinct.1 free.1 allowed.1 in
      let key : PageKey = key_of n in
      let before : Mapped = with_all true base ns in
      let off : before key ≡ false = all_off true base ns key (λ m is same. apart ns m distinct.0 is (number_of n m same)) ∙ free.0 in
      let here : with_mapped before key true key ≡ true = cond-true (is_same key key) true (before key) (is_same-itself key) in
      let one = one_more before (with_mapped before key true) slots key allowed.0 off here (λ other far. cond-false (is_same other key) true (before other) (is_same-other other key far)) in
      omega (arith, rest, one)
    where
      apart : (ms : List ℕ) (m : ℕ) → Each (λ k. n ≢ k) ms → IsIn ms m → n ≡ m → ⊥
      apart [] m far is same = is
      apart (k ∷ ms) m far is same = ⊎_elim (λ (at : k ≡ m). far.0 (same ∙ sym at)) (λ (more : IsIn ms m). apart ms m far.1 more same) is

none_is : (c : Option (List ℕ)) → (c ≡ None) ⊎ (is_some c ≡ true)
none_is None = inl refl
none_is (Some bytes) = inr refl

-- In place of some image pages there are others: as many pages as before are spare or the image's.
module _ (of : Nodes) (old new : PagesView) (own now : List ℕ) (told : IsTold old.disk) {asks outs : ℕ} (step : PagesStep (pages_in of.segment ImageSpace) asks outs old new)
    (old_holds : (key : PageKey) → is_some (old.held key) ≡ old.mapped key) (new_holds : (key : PageKey) → is_some (new.held key) ≡ new.mapped key)
    (own_held : Each (IsHeld (cells_of of old.held)) own) (now_held : Each (IsHeld (cells_of of new.held)) now) (own_pages : Each (IsOwn own (cells_of of old.held)) now) (keeps : KeepsPages of own old new) (loses : LosesNoPage of own now old new) where
  abbrev key_at : ℕ → PageKey
  key_at n = page_key of.segment ImageSpace n

  abbrev base : Mapped
  base = with_all of.segment false old.mapped own

  held_mapped : (view : PagesView) → ((key : PageKey) → is_some (view.held key) ≡ view.mapped key) → (ns : List ℕ) → Each (IsHeld (cells_of of view.held)) ns → (n : ℕ) → IsIn ns n → view.mapped (key_at n) ≡ true
  held_mapped view law [] all n is = absurd is
  held_mapped view law (m ∷ ns) all n is = ⊎_elim
      (λ (same : m ≡ n). sym (law (key_at n)) ∙ ap (λ (k : ℕ). is_some (view.held (key_at k))) (sym same) ∙ ap is_some all.0.held)
      (λ (more : IsIn ns n). held_mapped view law ns all.1 n more) is

  none_unmapped : (view : PagesView) → ((key : PageKey) → is_some (view.held key) ≡ view.mapped key) → (key : PageKey) → view.held key ≡ None → view.mapped key ≡ false
  none_unmapped view law key none = sym (law key) ∙ ap is_some none

  base_at : (n : ℕ) → IsIn own n → base (key_at n) ≡ false
  base_at n is = all_at of.segment false old.mapped own n is

  base_off : (n : ℕ) → (IsIn own n → ⊥) → base (key_at n) ≡ old.mapped (key_at n)
  base_off n off = all_off of.segment false old.mapped own (key_at n) (λ m is same. off (subst (IsIn own) (sym (number_of of.segment n m same)) is))

  -- whether a key is one of an image page of the segment
  at_number : (key : PageKey) → (key ≡ key_at key.number) ⊎ ((n : ℕ) → key ≡ key_at n → ⊥)
  at_number key = ⊎_elim
      (λ (here : is_same key (key_at key.number) ≡ true). inl (is_same-true key (key_at key.number) here))
      (λ (off : is_same key (key_at key.number) ≡ false). inr (λ n at.
      let number : key.number ≡ n = ap (λ (k : PageKey). k.number) at in
      let same : key ≡ key_at key.number = at ∙ ap key_at (sym number) in
      let never : true ≡ false = sym (is_same-itself key) ∙ ap (is_same key) same ∙ off in
      absurd (cc)))
      (cases_Bool (is_same key (key_at key.number)))

  old_same : (key : PageKey) → old.mapped key ≡ with_all of.segment true base own key
  old_same key = ⊎_elim
      (λ (here : key ≡ key_at key.number). subst (λ (k : PageKey). old.mapped k ≡ with_all of.segment true base own k) (sym here) (⊎_elim
      (λ (is : IsIn own key.number). held_mapped old old_holds own own_held key.number is ∙ sym (all_at of.segment true base own key.number is))
      (λ (off : IsIn own key.number → ⊥). sym (all_off of.segment true base own (key_at key.number) (λ m is same. off (subst (IsIn own) (sym (number_of of.segment key.number m same)) is)) ∙ base_off key.number off))
      (in_or_not own key.number)))
      (λ (off : (n : ℕ) → key ≡ key_at n → ⊥). sym (all_off of.segment true base own key (λ n is same. off n same) ∙ all_off of.segment false old.mapped own key (λ n is same. off n same)))
      (at_number key)

  new_at : (n : ℕ) → new.mapped (key_at n) ≡ with_all of.segment true base now (key_at n)
  new_at n = ⊎_elim
      (λ (is : IsIn now n). held_mapped new new_holds now now_held n is ∙ sym (all_at of.segment true base now n is))
      (λ (off : IsIn now n → ⊥). other off ∙ sym (all_off of.segment true base now (key_at n) (λ m is same. off (subst (IsIn now) (sym (number_of of.segment n m same)) is))))
      (in_or_not now n)
    where
      other : (IsIn now n → ⊥) → new.mapped (key_at n) ≡ base (key_at n)
      other off = ⊎_elim
          (λ (is : IsIn own n). gone (loses n (inl is)) ∙ sym (base_at n is))
          (λ (far : IsIn own n → ⊥). ⊎_elim
          (λ (none : old.held (key_at n) ≡ None). gone (loses n (inr none)) ∙ sym (base_off n far ∙ none_unmapped old old_holds (key_at n) none))
          (λ (some : is_some (old.held (key_at n)) ≡ true). stays (old.held (key_at n)) refl some far)
          (none_is (old.held (key_at n))))
          (in_or_not own n)
        where
          gone : IsOwn now (cells_of of new.held) n → new.mapped (key_at n) ≡ false
          gone is = ⊎_elim (λ (there : IsIn now n). absurd (off there)) (λ (none : new.held (key_at n) ≡ None). none_unmapped new new_holds (key_at n) none) is

          stays : (c : Option (List ℕ)) → old.held (key_at n) ≡ c → is_some c ≡ true → (IsIn own n → ⊥) → new.mapped (key_at n) ≡ base (key_at n)
          stays None is some far = absurd (cc)
          stays (Some bytes) is some far =
              let there : new.held (key_at n) ≡ Some bytes = keeps.same n bytes far is in
              sym (new_holds (key_at n)) ∙ ap is_some there ∙ ap is_some (sym is) ∙ old_holds (key_at n) ∙ sym (base_off n far)

  new_same : (key : PageKey) → new.mapped key ≡ with_all of.segment true base now key
  new_same key = ⊎_elim
      (λ (here : key ≡ key_at key.number). subst (λ (k : PageKey). new.mapped k ≡ with_all of.segment true base now k) (sym here) (new_at key.number))
      (λ (off : (n : ℕ) → key ≡ key_at n → ⊥).
      step.mapped_off key (λ is. off key.number is)
      ∙ sym (all_off of.segment true base now key (λ n is same. off n same) ∙ all_off of.segment false old.mapped own key (λ n is same. off n same)))
      (at_number key)

  pub still_counted : AreCounted old → AreCounted new → ((key : PageKey) → old.mapped key ≡ true → IsKey old.slots key) → ((key : PageKey) → new.mapped key ≡ true → IsKey new.slots key) → Pairwise (λ a b. a ≢ b) own → Pairwise (λ a b. a ≢ b) now → new.spare + length now ≡ old.spare + length own
  still_counted one two old_allowed new_allowed own_distinct now_distinct =
      let slots = step.passes.slots in
      let was : mapped_pages old.slots old.mapped ≡ mapped_pages old.slots base + length own =
      mapped_pages-same (with_all of.segment true base own) old.mapped old.slots old_same
      ∙ count_all of.segment old.slots base own own_distinct (each_in_of own (λ n is. base_at n is)) (each_in_of own (λ n is. old_allowed (key_at n) (held_mapped old old_holds own own_held n is))) in
      let is : mapped_pages old.slots new.mapped ≡ mapped_pages old.slots base + length now =
      mapped_pages-same (with_all of.segment true base now) new.mapped old.slots new_same
      ∙ count_all of.segment old.slots base now now_distinct (each_weaker (IsOwn own (cells_of of old.held)) (λ n. base (key_at n) ≡ false) now free own_pages) (each_in_of now (λ n is. subst (λ (s : ℕ). IsKey s (key_at n)) slots (new_allowed (key_at n) (held_mapped new new_holds now now_held n is)))) in
      let counted : new.spare + mapped_pages old.slots new.mapped + page_count old.backing.shadow ≡ old.slots = (λ i. new.spare + mapped_pages (sym slots i) new.mapped + page_count ((sym step.passes.backing i).shadow)) ∙ two ∙ slots in
      omega (arith, was, is, counted, one)
    where
      each_in_of : {P : ℕ → Type 0} (ns : List ℕ) → ((n : ℕ) → IsIn ns n → P n) → Each P ns
      each_in_of [] gives = tt
      each_in_of (n ∷ ns) gives = (gives n (inl refl), each_in_of ns (λ m is. gives m (inr is)))

      free : (n : ℕ) → IsOwn own (cells_of of old.held) n → base (key_at n) ≡ false
      free n is = ⊎_elim (λ (there : IsIn own n). base_at n there) (λ (none : old.held (key_at n) ≡ None). ⊎_elim
          (λ (there : IsIn own n). base_at n there)
          (λ (off : IsIn own n → ⊥). base_off n off ∙ none_unmapped old old_holds (key_at n) none)
          (in_or_not own n)) is

-- the same of an image's pages
pub counts : (image : Image) (old new : PagesView) (pairs : List (List ℕ)) (tree : ImageTree image old.held pairs) {asks outs : ℕ} → IsTold old.disk → PagesStep (pages_in image.segment ImageSpace) asks outs old new → ((key : PageKey) → is_some (old.held key) ≡ old.mapped key) → ((key : PageKey) → is_some (new.held key) ≡ new.mapped key)
    → AreCounted old → AreCounted new → ((key : PageKey) → old.mapped key ≡ true → IsKey old.slots key) → ((key : PageKey) → new.mapped key ≡ true → IsKey new.slots key) → StillCounted (nodes_of image) old new (pages_of tree)
counts image old new pairs tree told step old_holds new_holds one two old_allowed new_allowed = λ now distinct held mine keeps loses.
    let own_held = stack_held (spells (nodes_of image)) image.width (cells_of (nodes_of image) old.held) pairs (tree.top ∷ []) tree.lower tree.tree.stack in
    still_counted (nodes_of image) old new (pages_of tree) now told step old_holds new_holds own_held held mine keeps loses one two old_allowed new_allowed tree.tree.distinct distinct
