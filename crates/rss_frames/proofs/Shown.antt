-- What the entries are after a change of the frames.
use Rattle.std.proofs.Common.{◌≡◌, ◌≢◌, ℕ, ◌<◌, inl, inr, Bool, true, false, List, [], ◌∷◌, ◌++◌, length, map, get_or, set, Option, Some, None, is_some, MatchOption, option_map, refl, sym, ◌∙◌, ap, subst, arith}
use Rattle.std.proofs.lemmas.Bool.{cases_eq, eq-eqb, ne_eqb}
use Rattle.std.proofs.lemmas.List.{get_or-set_same, get_or-set_other, length-set}
use Rattle.std.proofs.lemmas.Option.{same_Some}
use Rattle.rss_base.specs.Paged.{is_same}
use Rattle.rss_frames.specs.Lists.{Has, without, last_frame}
use Rattle.rss_base.specs.declared.key.PageKey.{PageKey}
use Rattle.rss_frames.proofs.Lists.{Has-without}
use Rattle.rss_frames.specs.Table.{key_at, IsAbsent, IsFound}
use Rattle.rss_frames.proofs.Table.{frame_within}
use Rattle.rss_frames.specs.Recency.{Recency}
use Rattle.rss_frames.specs.State.{State}
use Rattle.rss_frames.specs.Entries.{Held, held_at, entries, room, others, fronted, written, changed_to, both_changed, unchanged, settled, Shows, eldest}
use Rattle.rss_frames.specs.Frames.{frame_in, Admits}
use Rattle.rss_frames.specs.Pairs.{with_two}
use Rattle.rss_frames.specs.Invariant.{IsFrames}
use Rattle.rss_frames.proofs.Entries.{others_at, map_same, map_eldest, held_same, held_is, found_same, found_entry, found_others, absent_same, absent_entry, absent_others}

map_settled : (key : PageKey) (f g : ℕ → Held) (xs : List ℕ) → ((j : ℕ) → Has j xs → g j ≡ unchanged key (f j)) → map g xs ≡ map (unchanged key) (map f xs)
map_settled key f g [] same = refl
map_settled key f g (x ∷ xs) same = λ k. same x (inl refl) k ∷ map_settled key f g xs (λ j h. same j (inr h)) k

pub Has-push : (i : ℕ) (xs : List ℕ) → Has i (xs ++ i ∷ [])
Has-push i [] = inl refl
Has-push i (x ∷ xs) = inr (Has-push i xs)

pub Has-more : (i j : ℕ) (xs : List ℕ) → Has j xs → Has j (xs ++ i ∷ [])
Has-more i j [] h = absurd h
Has-more i j (x ∷ xs) h = elim h [ inl e ↦ inl e | inr g ↦ inr (Has-more i j xs g) ]

module _ (s : State) (r : ℕ) (free : Recency) (k : IsFrames s r free) (key : PageKey) where
  abbrev Absent : Type 0
  Absent = IsAbsent s.keys key

  pub some_found : (o : Option ℕ) → MatchOption o Absent (λ frame. IsFound s.keys key frame) → is_some o ≡ is_some (frame_in s key)
  some_found None none = rw (absent_entry s r free k key none) refl
  some_found (Some i) found = rw (found_entry s r free k key i found.at) refl

  pub absent_fronted : Absent → Shows s (fronted key (entries s)) (room s)
  absent_fronted none = record { are = rw (absent_entry s r free k key none, absent_others s r free k key none) refl; room_is = refl }

  pub absent_removed : Absent → Shows s (others key (entries s)) (room s)
  absent_removed none = record { are = rw (absent_others s r free k key none) refl; room_is = refl }

  pub absent_settled : Absent → Shows s (settled key (entries s)) (room s)
  unfolding entries
  absent_settled none = record {
    are = map_settled key (held_at s) (held_at s) s.used (λ j h. rw (absent_same s r free k key none j h) refl);
    room_is = refl;
  }

  module _ (i : ℕ) (at : key_at s.keys i ≡ Some key) where
    within : i < length s.keys
    within = frame_within s.keys i key at

    pub shown_fronted : Shows (record { keys = s.keys; used = i ∷ without i s.used; pages = s.pages; marks = s.marks }) (fronted key (entries s)) (room s)
    unfolding entries
    shown_fronted = record { are = rw (found_entry s r free k key i at, found_others s r free k key i at) refl; room_is = refl }

    pub shown_written : (w : List ℕ) → Shows (record { keys = s.keys; used = i ∷ without i s.used; pages = set s.pages i w; marks = set s.marks i true }) (written key w (entries s)) (room s)
    unfolding entries
    shown_written w =
        let t : State = record { keys = s.keys; used = i ∷ without i s.used; pages = set s.pages i w; marks = set s.marks i true } in
        let here : held_at t i ≡ changed_to key w = held_is t i key w true at (get_or-set_same s.pages i w [] (omega (arith, within, k.pages_len))) (get_or-set_same s.marks i true false (omega (arith, within, k.marks_len))) in
        let kept : map (held_at t) (without i s.used) ≡ map (held_at s) (without i s.used) = map_same (held_at t) (held_at s) (without i s.used) (λ j h.
        let off = (Has-without i j s.used h).1 in
        held_same s t j refl (get_or-set_other s.pages i j w [] off) (get_or-set_other s.marks i j true false off)) in
        record { are = rw (found_others s r free k key i at) (λ x. here x ∷ kept x); room_is = refl }

    pub shown_removed : Shows (record { keys = set s.keys i None; used = without i s.used; pages = s.pages; marks = s.marks }) (others key (entries s)) (room s)
    unfolding entries
    shown_removed =
        let t : State = record { keys = set s.keys i None; used = without i s.used; pages = s.pages; marks = s.marks } in
        record {
          are = rw (found_others s r free k key i at) (map_same (held_at t) (held_at s) (without i s.used) (λ j h.
              held_same s t j (get_or-set_other s.keys i j None None (Has-without i j s.used h).1) refl refl));
          room_is = simp length-set refl;
        }

    pub shown_settled : Shows (record { keys = s.keys; used = s.used; pages = s.pages; marks = set s.marks i false }) (settled key (entries s)) (room s)
    unfolding entries
    shown_settled =
        let t : State = record { keys = s.keys; used = s.used; pages = s.pages; marks = set s.marks i false } in
        record {
          are = map_settled key (held_at s) (held_at t) s.used (λ j h. elim (cases_eq i j) [
            | inl e ↦
                let same : is_same (held_at s j).key key ≡ true = found_same s r free k key i at j h ∙ eq-eqb i j e in
                let now : get_or (set s.marks i false) j false ≡ false = ap (λ (x : ℕ). get_or (set s.marks i false) x false) (sym e) ∙ get_or-set_same s.marks i false false (omega (arith, within, k.marks_len)) in
                rw same (λ x. record { key = (held_at s j).key; bytes = (held_at s j).bytes; changed = now x })
            | inr off ↦
                let same : is_same (held_at s j).key key ≡ false = found_same s r free k key i at j h ∙ ne_eqb i j off in
                rw same (held_same s t j refl refl (get_or-set_other s.marks i j false false (λ e. off (sym e))))
          ]);
          room_is = refl;
        }

-- a page that was given a frame has the bytes that are put there
pub shown_admitted : (s new : State) (r : ℕ) (free : Recency) → IsFrames new r free → (key : PageKey) (i : ℕ) (mark : Bool) → Admits key i mark s new → (page : List ℕ)
    → Shows (record { keys = new.keys; used = new.used; pages = set new.pages i page; marks = new.marks }) (record { key = key; bytes = page; changed = mark } ∷ entries s) (room s)
unfolding entries
shown_admitted s new r free k key i mark admits page =
    let keys : length new.keys ≡ length s.keys = ap (λ (n : State). length n.keys) admits.now ∙ length-set s.keys i (Some key) in
    let pages : length s.pages ≡ length s.keys = sym (ap (λ (n : State). length n.pages) admits.now) ∙ k.pages_len ∙ keys in
    let marks : length s.marks ≡ length s.keys = sym (ap (λ (n : State). length n.marks) admits.now ∙ length-set s.marks i mark) ∙ k.marks_len ∙ keys in
    let within = admits.within in
    let t : State = record { keys = set s.keys i (Some key); used = i ∷ s.used; pages = set s.pages i page; marks = set s.marks i mark } in
    let here = held_is t i key page mark (get_or-set_same s.keys i (Some key) None within) (get_or-set_same s.pages i page [] (omega (arith, within, pages))) (get_or-set_same s.marks i mark false (omega (arith, within, marks))) in
    let kept : map (held_at t) s.used ≡ map (held_at s) s.used = map_same (held_at t) (held_at s) s.used (λ j h.
    let away : j ≢ i = λ e. admits.unused (subst (λ (x : ℕ). Has x s.used) e h) in
    held_same s t j (get_or-set_other s.keys i j (Some key) None away) (get_or-set_other s.pages i j page [] away) (get_or-set_other s.marks i j mark false away)) in
    rw admits.now (record { are = λ x. here x ∷ kept x; room_is = simp length-set refl })

module _ (s : State) (r : ℕ) (free : Recency) (k : IsFrames s r free) where
  -- two pages are used and written
  module _ (first second : PageKey) (i j : ℕ) (at_i : key_at s.keys i ≡ Some first) (at_j : key_at s.keys j ≡ Some second) (apart : first ≢ second) where
    pub frames_apart : i ≢ j
    frames_apart e = apart (same_Some first second (sym at_i ∙ ap (key_at s.keys) e ∙ at_j))

    both_others : others first (others second (entries s)) ≡ map (held_at s) (without i (without j s.used))
    unfolding entries
    both_others = ap (others first) (found_others s r free k second j at_j) ∙ others_at first (held_at s) i (without j s.used) (λ x h. found_same s r free k first i at_i x (Has-without j x s.used h).0)

    -- the mark of the second
    abbrev mark_j : Bool
    mark_j = get_or s.marks j false

    pub shown : (v w : List ℕ) → Shows (record { keys = s.keys; used = i ∷ without i (j ∷ without j s.used); pages = with_two s.pages i j v w; marks = set s.marks i true }) (both_changed first second mark_j v w (entries s)) (room s)
    unfolding entries
    shown v w =
        let wi = frame_within s.keys i first at_i in
        let wj = frame_within s.keys j second at_j in
        let t : State = record { keys = s.keys; used = i ∷ without i (j ∷ without j s.used); pages = with_two s.pages i j v w; marks = set s.marks i true } in
        let lp : length (set s.pages i v) ≡ length s.keys = simp length-set k.pages_len in
        let here_i : held_at t i ≡ changed_to first v = held_is t i first v true at_i
        (get_or-set_other (set s.pages i v) j i w [] frames_apart ∙ get_or-set_same s.pages i v [] (omega (arith, wi, k.pages_len)))
        (get_or-set_same s.marks i true false (omega (arith, wi, k.marks_len))) in
        let here_j : held_at t j ≡ record { key = second; bytes = w; changed = mark_j } = held_is t j second w mark_j at_j
        (get_or-set_same (set s.pages i v) j w [] (omega (arith, wj, lp)))
        (get_or-set_other s.marks i j true false (λ e. frames_apart (sym e))) in
        let rest = without i (without j s.used) in
        let kept : map (held_at t) rest ≡ map (held_at s) rest = map_same (held_at t) (held_at s) rest (λ x h.
        let g = Has-without i x (without j s.used) h in
        let oi = g.1 in
        let oj = (Has-without j x s.used g.0).1 in
        held_same s t x refl
        (get_or-set_other (set s.pages i v) j x w [] oj ∙ get_or-set_other s.pages i x v [] oi)
        (get_or-set_other s.marks i x true false oi)) in
        let order : without i (j ∷ without j s.used) ≡ j ∷ rest = rw (ne_eqb i j frames_apart) refl in
        record { are = rw both_others (ap (λ (l : List ℕ). map (held_at t) (i ∷ l)) order ∙ (λ x. here_i x ∷ here_j x ∷ kept x)); room_is = refl }

pub eldest_is : (s : State) → eldest (entries s) ≡ option_map (held_at s) (last_frame s.used)
unfolding entries
eldest_is s = map_eldest (held_at s) s.used

pub entries_none : (s : State) → s.used ≡ [] → entries s ≡ []
unfolding entries
entries_none s e = ap (map (held_at s)) e
