-- What frames are once two pages were marked, or written in their frames.
use Rattle.std.proofs.Common.{◌≡◌, ◌≢◌, ℕ, ◌<◌, inl, inr, true, false, List, [], ◌∷◌, ◌++◌, length, set, take, drop, Option, Some, refl, sym, ◌∙◌, ap, subst, arith}
use Rattle.std.specs.Prelude.{option_map}
use Rattle.std.proofs.lemmas.Bool.{cases_eq, cond-false, false_from_ne_true}
use Rattle.std.proofs.lemmas.List.{length-append, length-drop, length-set, length-take, set_comm, set-get_or, take-append-le, take_all}
use Rattle.rss_base.specs.Paged.{is_same}
use Rattle.rss_base.specs.declared.key.PageKey.{PageKey}
use Rattle.rss_base.proofs.Keys.{is_same-other}
use Rattle.rss_frames.specs.Lists.{Has, without}
use Rattle.rss_frames.specs.Table.{key_at, is_of}
use Rattle.rss_frames.specs.Recency.{Recency}
use Rattle.rss_frames.specs.State.{State}
use Rattle.rss_frames.specs.Entries.{Held, Shows, bytes_of, changed_to, entries, entry, room, written}
use Rattle.rss_frames.specs.Frames.{frame_among, frame_in, frame_of}
use Rattle.rss_frames.specs.Invariant.{IsFrames}
use Rattle.rss_frames.specs.Pairs.{page_at, with_two}
use Rattle.rss_frames.specs.Places.{IsSound, first_with, frame_for, marked, with_page, with_both, with_frames}
use Rattle.rss_frames.proofs.Changes.{front, rewritten}
use Rattle.rss_frames.proofs.Entries.{found_entry}
use Rattle.rss_frames.proofs.Looked.{entry_first}
use Rattle.rss_frames.proofs.Shown.{frames_apart, shown_written}
use Rattle.rss_frames.proofs.Table.{frame_within, is_of-true, is_of-itself}

-- other values for all, or for as many
pub refill_length : {X : Type 0} (n : ℕ) (xs ws : List X) → n ≡ length xs
    → length (take n (ws ++ drop (length ws) xs)) ≡ length xs
refill_length n xs ws e = omega (
  arith,
  e,
  length-take n (ws ++ drop (length ws) xs),
  length-append ws (drop (length ws) xs),
  length-drop (length ws) xs,
)

refilled : {X : Type 0} (n : ℕ) (xs ws : List X) → length ws ≡ n → take n (ws ++ drop (length ws) xs) ≡ ws
refilled n xs ws e = take-append-le n ws (drop (length ws) xs) (omega (arith, e)) ∙ take_all n ws (omega (arith, e))

module _ (keys : List (Option PageKey)) (key : PageKey) (i : ℕ) (at : key_at keys i ≡ Some key)
    (only : (j : ℕ) → key_at keys j ≡ Some key → j ≡ i) where
  first_is : (xs : List ℕ) → Has i xs → first_with keys key xs ≡ i
  unfolding first_with
  first_is [] h = absurd h
  first_is (x ∷ xs) h = elim (cases_eq i x) [
    | inl e ↦ rw (is_of-itself key (key_at keys x) (ap (key_at keys) (sym e) ∙ at)) (sym e)
    | inr off ↦
        let other : is_of key (key_at keys x) ≡ false = false_from_ne_true (is_of key (key_at keys x))
        (λ t. off (sym (only x (is_of-true key (key_at keys x) t)))) in
        rw other (first_is xs (elim h [ inl e ↦ absurd (off e) | inr g ↦ g ]))
  ]

module _ (s : State) (r : ℕ) (free : Recency) (k : IsFrames s r free) where
  -- the frame of a page is the one that has it
  pub frame_is : (key : PageKey) (i : ℕ) → key_at s.keys i ≡ Some key → frame_for key s ≡ i
  frame_is key i at = first_is s.keys key i at (λ j is. k.sole j i key is at) s.used (k.has_used i key at)

  marked_sound : (key : PageKey) (i : ℕ) → key_at s.keys i ≡ Some key → frame_for key s ≡ i → (bytes : List ℕ)
      → IsFrames (with_page key bytes s) r free
  marked_sound key i at is bytes =
      let has : Has (frame_for key s) s.used = subst (λ (j : ℕ). Has j s.used) (sym is) (k.has_used i key at) in
      let t : State = record {
        keys = s.keys;
        used = frame_for key s ∷ without (frame_for key s) s.used;
        pages = s.pages;
        marks = s.marks;
      } in
      rewritten t r free (front s r free k (frame_for key s) has) (set s.pages (frame_for key s) bytes)
      (set s.marks (frame_for key s) true)
      (length-set s.pages (frame_for key s) bytes) (length-set s.marks (frame_for key s) true)

  page_shown : (key : PageKey) (i : ℕ) → key_at s.keys i ≡ Some key → frame_for key s ≡ i → (bytes : List ℕ)
      → Shows (with_page key bytes s) (written key bytes (entries s)) (room s)
  page_shown key i at is bytes = shown_written s r free k key (frame_for key s) (ap (key_at s.keys) is ∙ at) bytes

  marked_shown : (key : PageKey) (i : ℕ) → key_at s.keys i ≡ Some key → frame_for key s ≡ i
      → Shows (marked key s) (written key (page_at s.pages (frame_for key s)) (entries s)) (room s)
  marked_shown key i at is =
      let same : with_page key (page_at s.pages (frame_for key s)) s ≡ marked key s = ap
      (λ (pages : List (List ℕ)). record (marked key s) { pages = pages }) (set-get_or s.pages (frame_for key s) []) in
      subst (λ (t : State). Shows t (written key (page_at s.pages (frame_for key s)) (entries s)) (room s)) same
      (page_shown key i at is (page_at s.pages (frame_for key s)))

  -- another page is there still, as it was
  pub others_kept : (key : PageKey) (i : ℕ) → key_at s.keys i ≡ Some key → frame_for key s ≡ i → (other : PageKey)
      → other ≢ key → frame_in (marked key s) other ≡ frame_in s other
  others_kept key i at is other apart =
      let e : Held = changed_to key (page_at s.pages (frame_for key s)) in
      ap (λ (es : List Held). frame_among es other) (marked_shown key i at is).are
      ∙ ap (option_map frame_of) (entry_first key other e (entries s) refl
      ∙ cond-false (is_same other key) (Some e) (entry other (entries s)) (is_same-other other key apart))

  pub bytes_found : (key : PageKey) (i : ℕ) → key_at s.keys i ≡ Some key
      → bytes_of (entry key (entries s)) ≡ Some (page_at s.pages i)
  bytes_found key i at = ap bytes_of (found_entry s r free k key i at)

module _ (s : State) (r : ℕ) (free : Recency) (k : IsFrames s r free) (first second : PageKey) (i j : ℕ)
    (at_i : key_at s.keys i ≡ Some first) (at_j : key_at s.keys j ≡ Some second)
    (is_i : i ≡ frame_for first (marked second s)) (is_j : j ≡ frame_for second s) where
  pub both_shown : (v w : List ℕ) → Shows (with_both first v second w s)
      (written first v (written second w (entries s))) (room s)
  both_shown v w =
      let t = with_page second w s in
      let one = page_shown s r free k second j at_j (sym is_j) w in
      let two = page_shown t r free (marked_sound s r free k second j at_j (sym is_j) w) first i at_i (sym is_i) v in
      record { are = two.are ∙ ap (λ (es : List Held). written first v es) one.are; room_is = two.room_is }

  pub both_written : first ≢ second → (v w : List ℕ)
      → with_frames (marked first (marked second s)) i j v w ≡ with_both first v second w s
  both_written apart v w =
      let off : i ≢ j = frames_apart s r free k first second i j at_i at_j apart in
      let many : length (with_two s.pages i j v w) ≡ length s.pages = simp length-set refl in
      let whole : take (length s.pages) (with_two s.pages i j v w ++ drop (length (with_two s.pages i j v w)) s.pages) ≡
      set (set s.pages (frame_for second s) w) (frame_for first (marked second s)) v =
      refilled (length s.pages) s.pages (with_two s.pages i j v w) many ∙ set_comm s.pages i j v w off
      ∙ (λ x. set (set s.pages (is_j x) w) (is_i x) v) in
      let m = marked first (marked second s) in
      λ x. record { keys = m.keys; used = m.used; pages = whole x; marks = m.marks }

-- the second page was marked, and then the first
module _ (s s1 s2 : State) (sound : IsSound s) (first second : PageKey) (high low : ℕ)
    (at_low : key_at s.keys low ≡ Some second) (is_low : low ≡ frame_for second s) (now_low : s1 ≡ marked second s)
    (at_high : key_at s1.keys high ≡ Some first) (is_high : high ≡ frame_for first s1) (now_high : s2 ≡ marked first s1)
    (apart : first ≢ second) where
  high_has : key_at s.keys high ≡ Some first
  high_has = ap (λ (t : State). key_at t.keys high) (sym now_low) ∙ at_high

  high_is : high ≡ frame_for first (marked second s)
  high_is = is_high ∙ ap (frame_for first) now_low

  pages_are : s2.pages ≡ s.pages
  pages_are = ap (λ (t : State). t.pages) now_high ∙ ap (λ (t : State). t.pages) now_low

  pub two_apart : high ≢ low
  two_apart = frames_apart s sound.0 sound.1 sound.2 first second high low high_has at_low apart

  pub high_within : high < length s2.pages
  high_within = omega (arith, ap length pages_are, sound.2.pages_len, frame_within s.keys high first high_has)

  pub low_within : low < length s2.pages
  low_within = omega (arith, ap length pages_are, sound.2.pages_len, frame_within s.keys low second at_low)

  pub two_shown : (v w : List ℕ) → Shows (with_both first v second w s) (written first v (written second w (entries s)))
      (room s)
  two_shown = both_shown s sound.0 sound.1 sound.2 first second high low high_has at_low high_is is_low

  pub two_written : (v w : List ℕ) → with_frames s2 high low v w ≡ with_both first v second w s
  two_written v w = ap (λ (t : State). with_frames t high low v w) (now_high ∙ ap (marked first) now_low)
      ∙ both_written s sound.0 sound.1 sound.2 first second high low high_has at_low high_is is_low apart v w

  pub first_bytes : bytes_of (entry first (entries s)) ≡ Some (page_at s2.pages high)
  first_bytes = bytes_found s sound.0 sound.1 sound.2 first high high_has
      ∙ ap (λ (ps : List (List ℕ)). Some (page_at ps high)) (sym pages_are)

  pub second_bytes : bytes_of (entry second (entries s)) ≡ Some (page_at s2.pages low)
  second_bytes = bytes_found s sound.0 sound.1 sound.2 second low at_low
      ∙ ap (λ (ps : List (List ℕ)). Some (page_at ps low)) (sym pages_are)
