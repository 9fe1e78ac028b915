-- What is written to a ring and copied from it, in one part or in two.
use Rattle.std.proofs.Common.{◌≡◌, ℕ, zero, suc, ◌+◌, ◌-◌, ◌*◌, ◌/◌, ◌%◌, ◌<◌, ◌≤◌, List, [], ◌∷◌, ◌++◌, length, take, drop, get_or, append-nil, inl, inr, refl, sym, ◌∙◌, ap, drop-cons, length-take-le, length-drop, arith}
use Rattle.std.proofs.lemmas.Bool.{cases_lt}
use Rattle.std.proofs.lemmas.Nat.{mod-mul-add, mod_below, div-add-mod'}
use Rattle.std.proofs.lemmas.List.{length-append, take_at, get_or-take, get_or-drop, get_or-append_right, get_or_append_left, nil_from_length}
use Rattle.std.proofs.lemmas.Slice.{between_to_end}
use Rattle.rss_log.specs.Rings.{ring_bytes, with_part, IsPut}
use Rattle.rss_log.proofs.RingBytes.{length-ring_bytes, ring_bytes-append}

-- ---- places

near : (ring position j : ℕ) → position % ring + j < ring → (position + j) % ring ≡ position % ring + j
near ring position j lt =
    let parts : position + j ≡ position / ring * ring + (position % ring + j) = omega (arith, div-add-mod' position ring) in
    ap (λ (p : ℕ). p % ring) parts ∙ mod-mul-add (position / ring) ring (position % ring + j) lt

past : (ring position j : ℕ) → ring ≤ position % ring + j → position % ring + j < ring + ring → (position + j) % ring ≡ position % ring + j - ring
past ring position j le lt =
    let parts : position + j ≡ (position / ring + 1) * ring + (position % ring + j - ring) = omega (arith, div-add-mod' position ring) in
    ap (λ (p : ℕ). p % ring) parts ∙ mod-mul-add (position / ring + 1) ring (position % ring + j - ring) (omega arith)

-- ---- a part of a list

pub length-with_part : (old : List ℕ) (at : ℕ) (bytes : List ℕ) → at + length bytes ≤ length old → length (with_part old at bytes) ≡ length old
length-with_part old at bytes fits =
    omega (arith, length-append (take at old) (bytes ++ drop (at + length bytes) old), length-append bytes (drop (at + length bytes) old), length-take-le at old (omega arith), length-drop (at + length bytes) old)

within : (old : List ℕ) (at : ℕ) (bytes : List ℕ) (j : ℕ) → at + length bytes ≤ length old → j < length bytes → get_or (with_part old at bytes) (at + j) 0 ≡ get_or bytes j 0
within old at bytes j fits lt =
    get_or-append_right (take at old) (bytes ++ drop (at + length bytes) old) at (at + j) 0 (length-take-le at old (omega arith)) (omega arith)
    ∙ ap (λ (k : ℕ). get_or (bytes ++ drop (at + length bytes) old) k 0) (omega arith)
    ∙ get_or_append_left bytes (drop (at + length bytes) old) 0 j lt

before : (old : List ℕ) (at : ℕ) (bytes : List ℕ) (q : ℕ) → at ≤ length old → q < at → get_or (with_part old at bytes) q 0 ≡ get_or old q 0
before old at bytes q fits lt =
    let long : length (take at old) ≡ at = length-take-le at old fits in
    get_or_append_left (take at old) (bytes ++ drop (at + length bytes) old) 0 q (omega (arith, long)) ∙ get_or-take at old q 0 lt

behind : (old : List ℕ) (at : ℕ) (bytes : List ℕ) (q : ℕ) → at ≤ length old → at + length bytes ≤ q → get_or (with_part old at bytes) q 0 ≡ get_or old q 0
behind old at bytes q fits le =
    get_or-append_right (take at old) (bytes ++ drop (at + length bytes) old) at q 0 (length-take-le at old fits) (omega arith)
    ∙ get_or-append_right bytes (drop (at + length bytes) old) (length bytes) (q - at) 0 refl (omega arith)
    ∙ get_or-drop (at + length bytes) old (q - at - length bytes) 0
    ∙ ap (λ (k : ℕ). get_or old k 0) (omega arith)

-- ---- writes

pub put_once : (position at : ℕ) (bytes old new : List ℕ) → 0 < length old → at ≡ position % length old → length bytes ≤ length old - at → new ≡ with_part old at bytes → IsPut position bytes old new
put_once position at bytes old new some is fits new_is =
    let low : position % length old < length old = mod_below position (length old) some in
    record {
      long = ap length new_is ∙ length-with_part old at bytes (omega arith);
      written = λ j lt.
          let place : (position + j) % length old ≡ at + j = near (length old) position j (omega arith) ∙ ap (λ (k : ℕ). k + j) (sym is) in
          (λ i. get_or (new_is i) (place i) 0) ∙ within old at bytes j (omega arith) lt;
      others = λ q off. ap (λ (l : List ℕ). get_or l q 0) new_is ∙ elim (cases_lt q at) [
        | inl lt ↦ before old at bytes q (omega arith) lt
        | inr le ↦ elim (cases_lt q (at + length bytes)) [
          | inl lt ↦ absurd (off (q - at) (omega arith) (sym (near (length old) position (q - at) (omega arith) ∙ omega arith)))
          | inr past ↦ behind old at bytes q (omega arith) past
        ]
      ];
    }

pub put_twice : (position at room : ℕ) (bytes old mid new : List ℕ) → 0 < length old → at ≡ position % length old → room ≡ length old - at → room < length bytes → length bytes ≤ length old → mid ≡ with_part old at (take room bytes) → new ≡ with_part mid 0 (take (length bytes - room) (drop room bytes)) → IsPut position bytes old new
put_twice position at room bytes old mid new some is room_is more fits mid_is new_was =
    let new_is : new ≡ with_part mid 0 (drop room bytes) = new_was ∙ ap (with_part mid 0) (between_to_end bytes room (length bytes) (omega arith)) in
    let low : position % length old < length old = mod_below position (length old) some in
    let front : length (take room bytes) ≡ room = length-take-le room bytes (omega arith) in
    let back : length (drop room bytes) ≡ length bytes - room = length-drop room bytes in
    let long_mid : length mid ≡ length old = ap length mid_is ∙ length-with_part old at (take room bytes) (omega (arith, front)) in
    record {
      long = ap length new_is ∙ length-with_part mid 0 (drop room bytes) (omega (arith, back, long_mid)) ∙ long_mid;
      written = λ j lt. elim (cases_lt j room) [
        | inl below ↦
            let place : (position + j) % length old ≡ at + j = near (length old) position j (omega arith) ∙ ap (λ (k : ℕ). k + j) (sym is) in
            (λ i. get_or (new_is i) (place i) 0)
            ∙ behind mid 0 (drop room bytes) (at + j) (omega arith) (omega (arith, back))
            ∙ ap (λ (l : List ℕ). get_or l (at + j) 0) mid_is
            ∙ within old at (take room bytes) j (omega (arith, front)) (omega (arith, front))
            ∙ get_or-take room bytes j 0 below
        | inr above ↦
            let place : (position + j) % length old ≡ 0 + (j - room) = past (length old) position j (omega arith) (omega arith) ∙ omega arith in
            (λ i. get_or (new_is i) (place i) 0)
            ∙ within mid 0 (drop room bytes) (j - room) (omega (arith, back, long_mid)) (omega (arith, back))
            ∙ get_or-drop room bytes (j - room) 0
            ∙ ap (λ (k : ℕ). get_or bytes k 0) (omega arith)
      ];
      others = λ q off. ap (λ (l : List ℕ). get_or l q 0) new_is ∙ elim (cases_lt q (length bytes - room)) [
        | inl lt ↦ absurd (off (room + q) (omega arith) (sym (past (length old) position (room + q) (omega arith) (omega arith) ∙ omega arith)))
        | inr le ↦
            behind mid 0 (drop room bytes) q (omega arith) (omega (arith, back)) ∙ ap (λ (l : List ℕ). get_or l q 0) mid_is ∙ elim (cases_lt q at) [
              | inl lt ↦ before old at (take room bytes) q (omega arith) lt
              | inr above ↦ elim (cases_lt q (length old)) [
                | inl inside ↦ absurd (off (q - at) (omega arith) (sym (near (length old) position (q - at) (omega arith) ∙ omega arith)))
                | inr outside ↦ behind old at (take room bytes) q (omega arith) (omega (arith, front))
              ]
            ]
      ];
    }

-- ---- copies

straight : (ring : List ℕ) (position at n : ℕ) → 0 < length ring → at ≡ position % length ring → at + n ≤ length ring → ring_bytes ring position n ≡ take n (drop at ring)
straight ring position at zero some is fits = refl
straight ring position at (suc zero) some is fits =
    let cell : drop at ring ≡ get_or ring at 0 ∷ drop (suc at) ring = drop-cons ring at 0 (omega arith) in
    ap (λ (k : ℕ). get_or ring k 0 ∷ []) (sym is) ∙ ap (take 1) (sym cell)
straight ring position at (suc (suc n)) some is fits =
    let next : (position + 1) % length ring ≡ at + 1 = near (length ring) position 1 (omega arith) ∙ ap (λ (k : ℕ). k + 1) (sym is) in
    let rest : ring_bytes ring (position + 1) (suc n) ≡ take (suc n) (drop (at + 1) ring) = straight ring (position + 1) (at + 1) (suc n) some (sym next) (omega arith) in
    let one : suc at ≡ at + 1 = omega arith in
    let cell : drop at ring ≡ get_or ring at 0 ∷ drop (at + 1) ring = drop-cons ring at 0 (omega arith) ∙ ap (λ (k : ℕ). get_or ring at 0 ∷ drop k ring) one in
    (λ i. get_or ring (sym is i) 0 ∷ rest i) ∙ ap (take (suc (suc n))) (sym cell)

-- a list of which all is overwritten
whole : (old bytes : List ℕ) → length bytes ≡ length old → with_part old 0 bytes ≡ bytes
whole old bytes long =
    let none : drop (0 + length bytes) old ≡ [] = nil_from_length (drop (0 + length bytes) old) (omega (arith, length-drop (0 + length bytes) old)) in
    ap (λ (l : List ℕ). bytes ++ l) none ∙ append-nil bytes

pub copy_once : (ring into new from : List ℕ) (position at : ℕ) → 0 < length ring → at ≡ position % length ring → length into ≤ length ring - at → from ≡ take (at + length into - at) (drop at ring) → new ≡ with_part into 0 from → new ≡ ring_bytes ring position (length into)
copy_once ring into new from position at some is fits from_is new_is =
    let low : position % length ring < length ring = mod_below position (length ring) some in
    let bytes : from ≡ ring_bytes ring position (length into) = from_is ∙ ap (λ (n : ℕ). take n (drop at ring)) (omega arith) ∙ sym (straight ring position at (length into) some is (omega arith)) in
    let long : length from ≡ length into = ap length bytes ∙ length-ring_bytes ring position (length into) in
    new_is ∙ whole into from long ∙ bytes

pub copy_twice : (ring into mid new front back : List ℕ) (position at room : ℕ) → 0 < length ring → at ≡ position % length ring → room ≡ length ring - at → room < length into → length into ≤ length ring
    → front ≡ take room (drop at ring) → back ≡ take (length into - room) ring → mid ≡ with_part into 0 front → new ≡ with_part mid room back → new ≡ ring_bytes ring position (length into)
copy_twice ring into mid new front back position at room some is room_is more fits front_is back_is mid_is new_is =
    let low : position % length ring < length ring = mod_below position (length ring) some in
    let first : front ≡ ring_bytes ring position room = front_is ∙ sym (straight ring position at room some is (omega arith)) in
    let start : 0 ≡ (position + room) % length ring = sym (past (length ring) position room (omega arith) (omega arith) ∙ omega arith) in
    let second : back ≡ ring_bytes ring (position + room) (length into - room) = back_is ∙ sym (straight ring (position + room) 0 (length into - room) some start (omega arith)) in
    let long : length front ≡ room = ap length first ∙ length-ring_bytes ring position room in
    let long_back : length back ≡ length into - room = ap length second ∙ length-ring_bytes ring (position + room) (length into - room) in
    let long_mid : length mid ≡ length into = ap length mid_is ∙ length-with_part into 0 front (omega arith) in
    let ahead : take room mid ≡ front = ap (take room) mid_is ∙ take_at front (drop (0 + length front) into) room long in
    let none : drop (room + length back) mid ≡ [] = nil_from_length (drop (room + length back) mid) (omega (arith, length-drop (room + length back) mid)) in
    let parts : length into ≡ room + (length into - room) = omega arith in
    new_is ∙ (λ i. ahead i ++ (back ++ none i)) ∙ ap (λ (l : List ℕ). front ++ l) (append-nil back) ∙ (λ i. first i ++ second i) ∙ sym (ring_bytes-append ring position room (length into - room)) ∙ ap (ring_bytes ring position) (sym parts)
