-- How a table changes by a page.
use Rattle.std.proofs.Common.{◌≡◌, ◌≢◌, ℕ, ◌+◌, ◌<◌, ◌≤◌, inl, inr, cond, eqb, true, List, [], ◌∷◌, length, get_or, set, replicate, Option, Some, None, sym, ◌∙◌, ap, subst, arith}
use Prim.Native.Nat.{zero, suc}
use Rattle.std.proofs.lemmas.Bool.{false≢true, cases_eq, eq-eqb, ne_eqb}
use Rattle.std.proofs.lemmas.Nat.{and_le_r}
use Rattle.std.proofs.lemmas.List.{get_or-set_same, get_or-set_other, length-set, get_or-replicate, length-replicate}
use Rattle.std.proofs.lemmas.Option.{same_Some}
use Rattle.rss_frames.specs.Lists.{Has, without}
use Rattle.rss_base.specs.declared.key.PageKey.{PageKey}
use Rattle.rss_base.proofs.Keys.{is_same-true, is_same-itself}
use Rattle.rss_frames.proofs.Lists.{without-absent, Has-without, Has-kept}
use Rattle.rss_frames.specs.Table.{key_at, is_of, bucket_of, IsAbsent, IsFound}
use Rattle.rss_frames.specs.Chains.{IsBefore, IsTable}
use Rattle.rss_frames.proofs.Chain.{IsChain-frame, IsChain-without, IsChain-push}

pub bucket_within : (mask : ℕ) (key : PageKey) → bucket_of mask key ≤ mask
unfolding bucket_of
bucket_within mask key = and_le_r _ mask

abbrev Keys : Type 0
Keys = List (Option PageKey)

key_put : (keys : Keys) (frame : ℕ) (o : Option PageKey) → frame < length keys → key_at (set keys frame o) frame ≡ o
key_put keys frame o within = get_or-set_same keys frame o None within

key_kept : (keys : Keys) (frame : ℕ) (o : Option PageKey) (i : ℕ) → i ≢ frame → key_at (set keys frame o) i ≡ key_at keys i
key_kept keys frame o i off = get_or-set_other keys frame i o None off

-- a frame that has a page is one of the table's
pub frame_within : (keys : Keys) (i : ℕ) (key : PageKey) → key_at keys i ≡ Some key → i < length keys
frame_within [] i key e = absurd (cc)
frame_within (k ∷ keys) zero key e = omega arith
frame_within (k ∷ keys) (suc i) key e = omega (arith, frame_within keys i key e)

pub inserted : (keys : Keys) (links : List ℕ) (room mask frame : ℕ) (key : PageKey) → frame < room → key_at keys frame ≡ None → IsAbsent keys key → IsTable keys links room mask
    → let head = room + bucket_of mask key in IsTable (set keys frame (Some key)) (set (set links frame (get_or links head 0)) head frame) room mask
inserted keys links room mask frame key within free absent t =
    let here = bucket_of mask key in
    let low = bucket_within mask key in
    let keys' = set keys frame (Some key) in
    let links' = set (set links frame (get_or links (room + here) 0)) (room + here) frame in
    let off_chain : (b : ℕ) → b ≤ mask → Has frame (t.chain b) → ⊥ = λ b bl h. let k = t.sound b bl frame h in let e : None ≡ Some k.0 = sym free ∙ k.1 in cc in
    let put : key_at keys' frame ≡ Some key = key_put keys frame (Some key) (omega (arith, t.keys_len)) in
    record {
      keys_len = simp length-set t.keys_len;
      links_len = simp length-set t.links_len;
      chain = λ b. cond (eqb b here) (frame ∷ t.chain b) (t.chain b);
      chains = λ b bl. elim (cases_eq b here) [
        | inl e ↦ rw (eq-eqb b here e) (rw e (IsChain-push links room (room + here) (t.chain here) frame (t.chains here low) (omega arith) (omega (arith, t.links_len)) within (off_chain here low)))
        | inr off ↦ rw (ne_eqb b here off) (IsChain-frame links links' room (room + b) (t.chain b)
            (get_or-set_other (set links frame (get_or links (room + here) 0)) (room + here) (room + b) frame 0 (λ e. off (omega (arith, e)))
            ∙ get_or-set_other links frame (room + b) (get_or links (room + here) 0) 0 (λ e. absurd (omega (arith, e))))
            (λ k h. get_or-set_other (set links frame (get_or links (room + here) 0)) (room + here) k frame 0 (λ e. absurd (omega (arith, e, (t.chains b bl).within k h)))
            ∙ get_or-set_other links frame k (get_or links (room + here) 0) 0 (λ e. off_chain b bl (subst (λ j. Has j (t.chain b)) e h)))
            (t.chains b bl))
      ];
      sound = λ b bl i h. elim (cases_eq i frame) [
        | inl e ↦ elim (cases_eq b here) [
          | inl same ↦ (key, ap (key_at keys') e ∙ put, sym same)
          | inr off ↦ absurd (off_chain b bl (subst (λ j. Has j (t.chain b)) e (rw (ne_eqb b here off) at h)))
        ]
        | inr away ↦
            let old : Has i (t.chain b) = elim (cases_eq b here) [
              | inl same ↦ elim (rw (eq-eqb b here same) at h) [ inl e ↦ absurd (away e) | inr g ↦ g ]
              | inr off ↦ rw (ne_eqb b here off) at h
            ] in
            let k = t.sound b bl i old in (k.0, key_kept keys frame (Some key) i away ∙ k.1, k.2)
      ];
      whole = λ i k e. elim (cases_eq i frame) [
        | inl same ↦
            let is : k ≡ key = same_Some k key (sym e ∙ ap (key_at keys') same ∙ put) in
            rw (eq-eqb (bucket_of mask k) here (ap (bucket_of mask) is)) (inl same)
        | inr away ↦
            let old = t.whole i k (sym (key_kept keys frame (Some key) i away) ∙ e) in
            elim (cases_eq (bucket_of mask k) here) [
              | inl same ↦ rw (eq-eqb (bucket_of mask k) here same) (inr old)
              | inr off ↦ rw (ne_eqb (bucket_of mask k) here off) old
            ]
      ];
      unique = λ i j k ei ej. elim (cases_eq i frame) [
        | inl si ↦ elim (cases_eq j frame) [
          | inl sj ↦ si ∙ sym sj
          | inr aj ↦ absurd (absent j (sym (key_kept keys frame (Some key) j aj) ∙ ej ∙ sym ei ∙ ap (key_at keys') si ∙ put))
        ]
        | inr ai ↦ elim (cases_eq j frame) [
          | inl sj ↦ absurd (absent i (sym (key_kept keys frame (Some key) i ai) ∙ ei ∙ sym ej ∙ ap (key_at keys') sj ∙ put))
          | inr aj ↦ t.unique i j k (sym (key_kept keys frame (Some key) i ai) ∙ ei) (sym (key_kept keys frame (Some key) j aj) ∙ ej)
        ]
      ];
    }

pub removed : (keys : Keys) (links : List ℕ) (room mask frame : ℕ) (key : PageKey) (at : ℕ) → key_at keys frame ≡ Some key → IsBefore links room (room + bucket_of mask key) frame at → IsTable keys links room mask
    → IsTable (set keys frame None) (set links at (get_or links frame 0)) room mask
removed keys links room mask frame key at is before t =
    let here = bucket_of mask key in
    let low = bucket_within mask key in
    let keys' = set keys frame None in
    let links' = set links at (get_or links frame 0) in
    let has = t.whole frame key is in
    let on = before.on (t.chain here) (t.chains here low) has in
    let gone : key_at keys' frame ≡ None = key_put keys frame None (frame_within keys frame key is) in
    -- a frame is on the chain of one bucket
    let sole : (i b b' : ℕ) → b ≤ mask → b' ≤ mask → Has i (t.chain b) → Has i (t.chain b') → b ≡ b' = λ i b b' bl bl' h h'.
    let k = t.sound b bl i h in let k' = t.sound b' bl' i h' in
    sym k.2 ∙ ap (bucket_of mask) (same_Some k.0 k'.0 (sym k.1 ∙ k'.1)) ∙ k'.2 in
    record {
      keys_len = simp length-set t.keys_len;
      links_len = simp length-set t.links_len;
      chain = λ b. without frame (t.chain b);
      chains = λ b bl. elim (cases_eq b here) [
        | inl e ↦ rw e (IsChain-without links room (room + here) (t.chain here) frame at (t.chains here low) (omega arith) has on before.link before.within)
        | inr off ↦ rw (without-absent frame (t.chain b) (λ h. off (sole frame b here bl low h has))) (IsChain-frame links links' room (room + b) (t.chain b)
            (get_or-set_other links at (room + b) (get_or links frame 0) 0 (λ e. elim on [
              | inl head ↦ off (omega (arith, e, head))
              | inr g ↦ absurd (omega (arith, e, (t.chains here low).within at g))
            ]))
            (λ k h. get_or-set_other links at k (get_or links frame 0) 0 (λ e. elim on [
              | inl head ↦ absurd (omega (arith, e, head, (t.chains b bl).within k h))
              | inr g ↦ off (sole k b here bl low h (subst (λ j. Has j (t.chain here)) (sym e) g))
            ]))
            (t.chains b bl))
      ];
      sound = λ b bl i h.
          let old = Has-without frame i (t.chain b) h in
          let k = t.sound b bl i old.0 in (k.0, key_kept keys frame None i old.1 ∙ k.1, k.2);
      whole = λ i k e. elim (cases_eq i frame) [
        | inl same ↦ let never : None ≡ Some k = sym gone ∙ ap (key_at keys') (sym same) ∙ e in absurd (cc)
        | inr away ↦ Has-kept frame i (t.chain (bucket_of mask k)) (t.whole i k (sym (key_kept keys frame None i away) ∙ e)) away
      ];
      unique = λ i j k ei ej. elim (cases_eq i frame) [
        | inl si ↦ let never : None ≡ Some k = sym gone ∙ ap (key_at keys') (sym si) ∙ ei in absurd (cc)
        | inr ai ↦ elim (cases_eq j frame) [
          | inl sj ↦ let never : None ≡ Some k = sym gone ∙ ap (key_at keys') (sym sj) ∙ ej in absurd (cc)
          | inr aj ↦ t.unique i j k (sym (key_kept keys frame None i ai) ∙ ei) (sym (key_kept keys frame None j aj) ∙ ej)
        ]
      ];
    }

pub none_at : (room i : ℕ) (key : PageKey) → key_at (replicate room None) i ≡ Some key → ⊥
none_at zero i key e = cc
none_at (suc room) zero key e = cc
none_at (suc room) (suc i) key e = none_at room i key e

pub empty : (keys : Keys) (links : List ℕ) (room mask : ℕ) → keys ≡ replicate room None → links ≡ replicate (room + mask + 1) room → IsTable keys links room mask
empty keys links room mask ek el =
    let none : (i : ℕ) (key : PageKey) → key_at keys i ≡ Some key → ⊥ = λ i key e. none_at room i key (ap (λ (ks : Keys). key_at ks i) (sym ek) ∙ e) in
    record {
      keys_len = ap length ek ∙ length-replicate room None;
      links_len = ap length el ∙ length-replicate (room + mask + 1) room;
      chain = λ b. [];
      chains = λ b bl. record { leads = ap (λ l. get_or l (room + b) 0) el ∙ get_or-replicate (room + mask + 1) (room + b) room 0 (omega arith); within = λ i h. absurd h; apart = tt };
      sound = λ b bl i h. absurd h;
      whole = λ i key e. absurd (none i key e);
      unique = λ i j key ei ej. absurd (none i key ei);
    }

pub is_of-true : (key : PageKey) (o : Option PageKey) → is_of key o ≡ true → o ≡ Some key
is_of-true key None e = absurd (false≢true e)
is_of-true key (Some held) e = ap Some (is_same-true held key e)

pub is_of-itself : (key : PageKey) (o : Option PageKey) → o ≡ Some key → is_of key o ≡ true
is_of-itself key o e = ap (is_of key) e ∙ is_same-itself key

-- the frame that has a page has it alone
pub found : (keys : Keys) (links : List ℕ) (room mask frame : ℕ) (key : PageKey) → IsTable keys links room mask → is_of key (key_at keys frame) ≡ true → IsFound keys key frame
found keys links room mask frame key t e =
    let at = is_of-true key (key_at keys frame) e in
    record { at = at; within = frame_within keys frame key at; only = λ other is. t.unique other frame key is at }
