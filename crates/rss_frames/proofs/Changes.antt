-- How the frames change.
use Rattle.std.proofs.Common.{◌≡◌, ◌≢◌, ℕ, ◌<◌, inl, inr, Bool, List, [], ◌∷◌, ◌++◌, length, set, replicate, Option, Some, None, refl, sym, ◌∙◌, ap, subst, arith}
use Rattle.std.proofs.lemmas.Bool.{cases_eq}
use Rattle.std.proofs.lemmas.List.{get_or-set_same, get_or-set_other, length-set, length-append, length-replicate}
use Rattle.std.proofs.lemmas.Option.{same_Some}
use Rattle.rss_frames.specs.Lists.{Has, Apart, without}
use Rattle.rss_base.specs.declared.key.PageKey.{PageKey}
use Rattle.rss_frames.proofs.Lists.{Has-without, Has-kept, Apart-without, length-without}
use Rattle.rss_frames.specs.Table.{key_at, IsAbsent}
use Rattle.rss_frames.proofs.Table.{frame_within, none_at}
use Rattle.rss_frames.specs.Recency.{Recency}
use Rattle.rss_frames.specs.State.{State}
use Rattle.rss_frames.specs.Invariant.{IsFrames}

module _ (s : State) (r : ℕ) (free : Recency) (k : IsFrames s r free) where
  -- a page is used
  pub front : (i : ℕ) → Has i s.used → IsFrames (record { keys = s.keys; used = i ∷ without i s.used; pages = s.pages; marks = s.marks }) r free
  front i h = record {
    some = k.some;
    room = k.room;
    free_room = k.free_room;
    pages_len = k.pages_len;
    marks_len = k.marks_len;
    used_has = λ j g. elim g [ inl e ↦ k.used_has j (subst (λ x. Has x s.used) (sym e) h) | inr on ↦ k.used_has j (Has-without i j s.used on).0 ];
    has_used = λ j key e. elim (cases_eq j i) [ inl same ↦ inl same | inr off ↦ inr (Has-kept i j s.used (k.has_used j key e) off) ];
    free_none = k.free_none;
    count = omega (arith, k.count, length-without i s.used k.apart h);
    apart = (λ g. (Has-without i i s.used g).1 refl, Apart-without i s.used k.apart);
    sole = k.sole;
  }

  -- other bytes and other marks
  pub rewritten : (pages : List (List ℕ)) (marks : List Bool) → length pages ≡ length s.pages → length marks ≡ length s.marks → IsFrames (record { keys = s.keys; used = s.used; pages = pages; marks = marks }) r free
  rewritten pages marks pl ml = record {
    some = k.some;
    room = k.room;
    free_room = k.free_room;
    pages_len = pl ∙ k.pages_len;
    marks_len = ml ∙ k.marks_len;
    used_has = k.used_has;
    has_used = k.has_used;
    free_none = k.free_none;
    count = k.count;
    apart = k.apart;
    sole = k.sole;
  }

  pub used_off_free : (i : ℕ) → Has i free.frames → Has i s.used → ⊥
  used_off_free i f h = let o = k.used_has i h in let never : None ≡ Some o.0 = sym (k.free_none i f) ∙ o.1 in cc

  -- a page comes into a free frame
  pub admitted : (left : Recency) (i : ℕ) (key : PageKey) (mark : Bool) → free.frames ≡ left.frames ++ i ∷ [] → left.room ≡ free.room → (Has i left.frames → ⊥) → Has i free.frames → ((j : ℕ) → Has j left.frames → Has j free.frames) → IsAbsent s.keys key → i < length s.keys
      → IsFrames (record { keys = set s.keys i (Some key); used = i ∷ s.used; pages = s.pages; marks = set s.marks i mark }) r left
  admitted left i key mark cut same_room gone in_free among absent within =
      let keys' = set s.keys i (Some key) in
      let put : key_at keys' i ≡ Some key = get_or-set_same s.keys i (Some key) None within in
      let kept : (j : ℕ) → j ≢ i → key_at keys' j ≡ key_at s.keys j = λ j off. get_or-set_other s.keys i j (Some key) None off in
      let off_used : Has i s.used → ⊥ = used_off_free i in_free in
      record {
        some = simp length-set k.some;
        room = simp length-set k.room;
        free_room = simp length-set (same_room ∙ k.free_room);
        pages_len = simp length-set k.pages_len;
        marks_len = simp length-set k.marks_len;
        used_has = λ j g. elim g [
          | inl e ↦ (key, ap (key_at keys') e ∙ put)
          | inr on ↦ let o = k.used_has j on in (o.0, kept j (λ e. off_used (subst (λ x. Has x s.used) e on)) ∙ o.1)
        ];
        has_used = λ j key' e. elim (cases_eq j i) [ inl same ↦ inl same | inr off ↦ inr (k.has_used j key' (sym (kept j off) ∙ e)) ];
        free_none = λ j g. kept j (λ e. gone (subst (λ x. Has x left.frames) e g)) ∙ k.free_none j (among j g);
        count = simp length-set (omega (arith, k.count, ap length cut, length-append left.frames (i ∷ [])));
        apart = (off_used, k.apart);
        sole = λ a b key' ea eb. elim (cases_eq a i) [
          | inl sa ↦ elim (cases_eq b i) [
            | inl sb ↦ sa ∙ sym sb
            | inr ob ↦
                let is : key' ≡ key = same_Some key' key (sym ea ∙ ap (key_at keys') sa ∙ put) in
                absurd (absent b (sym (kept b ob) ∙ eb ∙ ap Some is))
          ]
          | inr oa ↦ elim (cases_eq b i) [
            | inl sb ↦
                let is : key' ≡ key = same_Some key' key (sym eb ∙ ap (key_at keys') sb ∙ put) in
                absurd (absent a (sym (kept a oa) ∙ ea ∙ ap Some is))
            | inr ob ↦ k.sole a b key' (sym (kept a oa) ∙ ea) (sym (kept b ob) ∙ eb)
          ]
        ];
      }

  -- a page leaves its frame
  pub removed : (i : ℕ) (key : PageKey) → key_at s.keys i ≡ Some key → IsFrames (record { keys = set s.keys i None; used = without i s.used; pages = s.pages; marks = s.marks }) r (record free { frames = i ∷ free.frames })
  removed i key at =
      let keys' = set s.keys i None in
      let within = frame_within s.keys i key at in
      let put : key_at keys' i ≡ None = get_or-set_same s.keys i None None within in
      let kept : (j : ℕ) → j ≢ i → key_at keys' j ≡ key_at s.keys j = λ j off. get_or-set_other s.keys i j None None off in
      let other : (j : ℕ) (key' : PageKey) → key_at keys' j ≡ Some key' → j ≢ i = λ j key' e same. let never : None ≡ Some key' = sym put ∙ ap (key_at keys') (sym same) ∙ e in cc in
      record {
        some = simp length-set k.some;
        room = simp length-set k.room;
        free_room = simp length-set k.free_room;
        pages_len = simp length-set k.pages_len;
        marks_len = simp length-set k.marks_len;
        used_has = λ j g. let on = Has-without i j s.used g in let o = k.used_has j on.0 in (o.0, kept j on.1 ∙ o.1);
        has_used = λ j key' e. let off = other j key' e in Has-kept i j s.used (k.has_used j key' (sym (kept j off) ∙ e)) off;
        free_none = λ j g. elim g [ inl e ↦ ap (key_at keys') e ∙ put | inr on ↦ kept j (λ e. let never : None ≡ Some key = sym (k.free_none j on) ∙ ap (key_at s.keys) e ∙ at in cc) ∙ k.free_none j on ];
        count = simp length-set (omega (arith, k.count, length-without i s.used k.apart (k.has_used i key at)));
        apart = Apart-without i s.used k.apart;
        sole = λ a b key' ea eb. k.sole a b key' (sym (kept a (other a key' ea)) ∙ ea) (sym (kept b (other b key' eb)) ∙ eb);
      }

key_none : (keys : List (Option PageKey)) (i : ℕ) → ((i : ℕ) (key : PageKey) → key_at keys i ≡ Some key → ⊥) → key_at keys i ≡ None
key_none keys i none = (elim (key_at keys i) as (λ o. key_at keys i ≡ o → o ≡ None) [ None ↦ λ e. refl | Some key ↦ λ e. absurd (none i key e) ]) refl

-- no frame has a page as yet
pub fresh : (keys : List (Option PageKey)) (used free : Recency) (pages : List (List ℕ)) (marks : List Bool) (n : ℕ) → 0 < n → keys ≡ replicate n None → used.frames ≡ [] → used.room ≡ n → free.room ≡ n → length free.frames ≡ n → length pages ≡ n → length marks ≡ n
    → IsFrames (record { keys = keys; used = used.frames; pages = pages; marks = marks }) used.room free
fresh keys used free pages marks n is_some ke clear ur fr fl pl ml =
    let len : length keys ≡ n = ap length ke ∙ length-replicate n None in
    let none : (i : ℕ) (key : PageKey) → key_at keys i ≡ Some key → ⊥ = λ i key e. none_at n i key (ap (λ (ks : List (Option PageKey)). key_at ks i) (sym ke) ∙ e) in
    record {
      some = omega (arith, len, is_some);
      room = ur ∙ sym len;
      free_room = fr ∙ sym len;
      pages_len = pl ∙ sym len;
      marks_len = ml ∙ sym len;
      used_has = λ i h. absurd (subst (λ (l : List ℕ). Has i l) clear h);
      has_used = λ i key e. absurd (none i key e);
      free_none = λ i h. key_none keys i none;
      count = omega (arith, ap length clear, fl, len);
      apart = subst (λ (l : List ℕ). Apart l) (sym clear) tt;
      sole = λ i j key ei ej. absurd (none i key ei);
    }
