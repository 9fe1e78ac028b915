-- The entries of frames.
use Rattle.std.proofs.Common.{◌≡◌, ◌≢◌, ℕ, inl, inr, Bool, false, eqb, List, [], ◌∷◌, length, map, get_or, Option, Some, None, IsSome, unwrap_or, option_map, refl, sym, ◌∙◌, ap, subst}
use Rattle.std.proofs.lemmas.Bool.{cases_eq, eq-eqb, ne_eqb}
use Rattle.std.proofs.lemmas.List.{length-map}
use Rattle.rss_base.specs.Paged.{is_same}
use Rattle.rss_frames.specs.Lists.{Has, Apart, without, last_frame}
use Rattle.rss_base.specs.declared.key.PageKey.{PageKey}
use Rattle.rss_base.proofs.Keys.{is_same-itself, is_same-other}
use Rattle.rss_frames.specs.Table.{key_at, IsAbsent}
use Rattle.rss_frames.specs.Recency.{Recency}
use Rattle.rss_frames.specs.State.{State}
use Rattle.rss_frames.specs.Entries.{Held, held_at, no_key, entries, entry, others, eldest, AreDistinct}
use Rattle.rss_frames.specs.Frames.{frame_of, frame_in}
use Rattle.rss_frames.specs.Invariant.{IsFrames}

-- ---- lists of entries by their frames

module _ (key : PageKey) (f : ℕ → Held) (i : ℕ) where
  pub entry_at : (xs : List ℕ) → ((j : ℕ) → Has j xs → is_same (f j).key key ≡ eqb i j) → Has i xs → entry key (map f xs) ≡ Some (f i)
  unfolding entry
  entry_at [] same h = absurd h
  entry_at (x ∷ xs) same h = elim (cases_eq i x) [
    | inl e ↦ rw (same x (inl refl), eq-eqb i x e) (ap Some (ap f (sym e)))
    | inr off ↦ rw (same x (inl refl), ne_eqb i x off) (entry_at xs (λ j g. same j (inr g)) (elim h [ inl e ↦ absurd (off e) | inr g ↦ g ]))
  ]

  pub others_at : (xs : List ℕ) → ((j : ℕ) → Has j xs → is_same (f j).key key ≡ eqb i j) → others key (map f xs) ≡ map f (without i xs)
  unfolding others
  others_at [] same = refl
  others_at (x ∷ xs) same = elim (cases_eq i x) [
    | inl e ↦ rw (same x (inl refl), eq-eqb i x e) (others_at xs (λ j g. same j (inr g)))
    | inr off ↦ rw (same x (inl refl), ne_eqb i x off) (ap (λ es. f x ∷ es) (others_at xs (λ j g. same j (inr g))))
  ]

module _ (key : PageKey) (f : ℕ → Held) where
  pub entry_none : (xs : List ℕ) → ((j : ℕ) → Has j xs → is_same (f j).key key ≡ false) → entry key (map f xs) ≡ None
  unfolding entry
  entry_none [] same = refl
  entry_none (x ∷ xs) same = rw (same x (inl refl)) (entry_none xs (λ j g. same j (inr g)))

  pub others_none : (xs : List ℕ) → ((j : ℕ) → Has j xs → is_same (f j).key key ≡ false) → others key (map f xs) ≡ map f xs
  unfolding others
  others_none [] same = refl
  others_none (x ∷ xs) same = rw (same x (inl refl)) (ap (λ es. f x ∷ es) (others_none xs (λ j g. same j (inr g))))

pub map_same : (f g : ℕ → Held) (xs : List ℕ) → ((j : ℕ) → Has j xs → f j ≡ g j) → map f xs ≡ map g xs
map_same f g [] same = refl
map_same f g (x ∷ xs) same = λ k. same x (inl refl) k ∷ map_same f g xs (λ j h. same j (inr h)) k

pub map_eldest : (f : ℕ → Held) (xs : List ℕ) → eldest (map f xs) ≡ option_map f (last_frame xs)
unfolding eldest
map_eldest f [] = refl
map_eldest f (x ∷ []) = refl
map_eldest f (x ∷ y ∷ ys) = map_eldest f (y ∷ ys)

-- what a frame holds, where its parts are the same
pub held_same : (s t : State) (j : ℕ) → key_at t.keys j ≡ key_at s.keys j → get_or t.pages j [] ≡ get_or s.pages j [] → get_or t.marks j false ≡ get_or s.marks j false → held_at t j ≡ held_at s j
held_same s t j a b c = λ k. record { key = unwrap_or (a k) no_key; bytes = b k; changed = c k }

pub held_is : (s : State) (j : ℕ) (key : PageKey) (bytes : List ℕ) (changed : Bool) → key_at s.keys j ≡ Some key → get_or s.pages j [] ≡ bytes → get_or s.marks j false ≡ changed → held_at s j ≡ record { key = key; bytes = bytes; changed = changed }
held_is s j key bytes changed a b c = λ k. record { key = unwrap_or (a k) no_key; bytes = b k; changed = c k }

-- ---- a page's entry by its frame

module _ (s : State) (r : ℕ) (free : Recency) (k : IsFrames s r free) (key : PageKey) where
  pub found_same : (i : ℕ) → key_at s.keys i ≡ Some key → (j : ℕ) → Has j s.used → is_same (held_at s j).key key ≡ eqb i j
  found_same i at j h =
      let o = k.used_has j h in
      elim (cases_eq i j) [
        | inl e ↦
            let at' : key_at s.keys j ≡ Some key = ap (key_at s.keys) (sym e) ∙ at in
            rw (at', eq-eqb i j e) (is_same-itself key)
        | inr off ↦ rw (o.1, ne_eqb i j off) (is_same-other o.0 key (λ e. off (k.sole i j key at (o.1 ∙ ap Some e))))
      ]

  pub absent_same : IsAbsent s.keys key → (j : ℕ) → Has j s.used → is_same (held_at s j).key key ≡ false
  absent_same none j h = let o = k.used_has j h in rw o.1 (is_same-other o.0 key (λ e. none j (o.1 ∙ ap Some e)))

  pub found_entry : (i : ℕ) → key_at s.keys i ≡ Some key → entry key (entries s) ≡ Some (held_at s i)
  unfolding entries
  found_entry i at = entry_at key (held_at s) i s.used (found_same i at) (k.has_used i key at)

  pub found_others : (i : ℕ) → key_at s.keys i ≡ Some key → others key (entries s) ≡ map (held_at s) (without i s.used)
  unfolding entries
  found_others i at = others_at key (held_at s) i s.used (found_same i at)

  pub absent_entry : IsAbsent s.keys key → entry key (entries s) ≡ None
  unfolding entries
  absent_entry none = entry_none key (held_at s) s.used (absent_same none)

  pub absent_others : IsAbsent s.keys key → others key (entries s) ≡ entries s
  unfolding entries
  absent_others none = others_none key (held_at s) s.used (absent_same none)

  pub absent_from_entry : frame_in s key ≡ None → IsAbsent s.keys key
  absent_from_entry none i at = let never : None ≡ Some (frame_of (held_at s i)) = sym none ∙ ap (option_map frame_of) (found_entry i at) in cc

  pub there_from_entry : IsSome (frame_in s key) → IsAbsent s.keys key → ⊥
  there_from_entry there none = let never = subst (λ (o : Option Held). IsSome (option_map frame_of o)) (absent_entry none) there in cc

pub length_entries : (s : State) → length (entries s) ≡ length s.used
unfolding entries
length_entries s = length-map s.used (held_at s)

distinct_from : (s : State) (r : ℕ) (free : Recency) → IsFrames s r free → (xs : List ℕ) → ((j : ℕ) → Has j xs → Has j s.used) → Apart xs → AreDistinct (map (held_at s) xs)
unfolding AreDistinct
distinct_from s r free k [] in_used a = tt
distinct_from s r free k (x ∷ xs) in_used a =
    let o = k.used_has x (in_used x (inl refl)) in
    let key_is : (held_at s x).key ≡ o.0 = ap (λ (p : Option PageKey). unwrap_or p no_key) o.1 in (
      ap (λ (key : PageKey). entry key (map (held_at s) xs)) key_is ∙ entry_none o.0 (held_at s) xs (λ j h.
          let off : x ≢ j = λ e. a.0 (subst (λ i. Has i xs) (sym e) h) in
          found_same s r free k o.0 x o.1 j (in_used j (inr h)) ∙ ne_eqb x j off),
      distinct_from s r free k xs (λ j h. in_used j (inr h)) a.1,
    )

pub entries_distinct : (s : State) (r : ℕ) (free : Recency) → IsFrames s r free → AreDistinct (entries s)
unfolding entries
entries_distinct s r free k = distinct_from s r free k s.used (λ j h. h) k.apart
