-- A field that is read is the field that was written, and what was written is read again.
use Rattle.std.proofs.Common.{◌≡◌, ℕ, zero, suc, ◌+◌, ◌^◌, ◌<◌, ◌≤◌, lit<, Bool, true, false, cond, ltb, eqb, List, [], ◌∷◌, ◌++◌, length, get_or, take, drop, replicate, Option, Some, None, refl, sym, ap, subst, ◌∙◌, append_assoc, arith, inl, inr, ◌⊎◌}
use Rattle.std.specs.Prelude.{IfSome, ◌&&◌, ◌||◌}
use Rattle.std.specs.Int.{Width, w16, w32, w64, byte_len, from_be_bytes, to_be_bytes}
use Rattle.std.specs.List.{AllByRecursion}
use Rattle.std.proofs.lemmas.Bool.{cases_lt, ltb-false, ltb-true, le-ltb, lt-ltb, eqb-true}
use Rattle.std.proofs.lemmas.List.{take_at, drop_at, take-append-drop, length-append, length-take, get_or-drop, get_or-take, get_or_past}
use Rattle.std.proofs.lemmas.Nat.{be_bytes_2, be_bytes_4, be_bytes_8, from_be_bytes-to_be_bytes_2, from_be_bytes-to_be_bytes_4, from_be_bytes-to_be_bytes_8}
use Rattle.rss_base.specs.Sizes.{page_entries}
use Rattle.rss_base.specs.declared.tid.Tid.{Tid}
use Rattle.rss_base.specs.LogRecords.{tid_bytes, place_bytes, sized_bytes, marks_bytes, HasSlot, HasPage, IsShort, DoesMarkFit, marks_most, values_most}
use Rattle.rss_record.specs.Reading.{◌>>=◌, Front, number_at, tid_at, place_at, values_at, mark_at, so_many_at, marks_at}

-- ---- bytes

abbrev pub IsBytes : List ℕ → Type 0
IsBytes bytes = (i : ℕ) → get_or bytes i 0 < 256

IsBytes-drop : (n : ℕ) (bytes : List ℕ) → IsBytes bytes → IsBytes (drop n bytes)
IsBytes-drop n bytes h i = rw get_or-drop (h (n + i))

IsBytes-take : (n : ℕ) (bytes : List ℕ) → IsBytes bytes → IsBytes (take n bytes)
IsBytes-take n bytes h i =
    elim (cases_lt i n) [
      | inl lt ↦ rw (get_or-take n bytes i 0 lt) (h i)
      | inr le ↦ rw (get_or_past (take n bytes) i 0 (omega (arith, length-take n bytes))) (omega arith)
    ]

pub IsBytes-rest : (b : ℕ) (bytes : List ℕ) → IsBytes (b ∷ bytes) → IsBytes bytes
IsBytes-rest b bytes h i = h (suc i)

-- ---- steps that found something

pub bind_some : {A B : Type 0} (r : Option A) (f : A → Option B) (y : B) → (r >>= f) ≡ Some y → (x : A) × (r ≡ Some x) × (f x ≡ Some y)
bind_some (Some x) f y e = (x, refl, e)
bind_some None f y e = absurd cc

abbrev found : {A : Type 0} → A → Option A
found x = Some x

pub some_is : {A : Type 0} (x y : A) → found x ≡ found y → x ≡ y
some_is x y e = cc

-- a test that refuses
pub guard_none : {A : Type 0} (b : Bool) (x y : A) → cond b None (found x) ≡ Some y → (b ≡ false) × (x ≡ y)
guard_none true x y e = absurd cc
guard_none false x y e = (refl, cc)

-- a test that lets pass
pub guard_some : {A : Type 0} (b : Bool) (x y : A) → cond b (found x) None ≡ Some y → (b ≡ true) × (x ≡ y)
guard_some true x y e = (refl, cc)
guard_some false x y e = absurd cc

pub chosen : {A : Type 0} (b : Bool) (x y z : Option A) → cond b x y ≡ z → ((b ≡ true) × (x ≡ z)) ⊎ ((b ≡ false) × (y ≡ z))
chosen true x y z e = inl (refl, e)
chosen false x y z e = inr (refl, e)

pub both_true : (a b : Bool) → (a && b) ≡ true → (a ≡ true) × (b ≡ true)
both_true true b e = (refl, e)
both_true false b e = absurd cc

pub both_false : (a b : Bool) → (a || b) ≡ false → (a ≡ false) × (b ≡ false)
both_false true b e = absurd cc
both_false false b e = (refl, e)

-- what a reader took from the front
pub record Takes (bytes text rest : List ℕ) : Type 0 where
  pub parts : bytes ≡ text ++ rest
  pub rest_fits : IsBytes rest

pub Takes-then : (a x b y c : List ℕ) → Takes a x b → Takes b y c → Takes a (x ++ y) c
Takes-then a x b y c p q = record { parts = p.parts ∙ ap (λ (t : List ℕ). x ++ t) q.parts ∙ sym (append_assoc x y c); rest_fits = q.rest_fits }

-- ---- numbers

pub record IsWide (w : Width) (limit : ℕ) : Type 0 where
  pub len : (n : ℕ) → length (to_be_bytes w n) ≡ byte_len w
  pub back : (bytes : List ℕ) → length bytes ≡ byte_len w → IsBytes bytes → to_be_bytes w (from_be_bytes w bytes) ≡ bytes
  pub again : (n : ℕ) → n < limit → from_be_bytes w (to_be_bytes w n) ≡ n
  pub below : (bytes : List ℕ) → IsBytes bytes → from_be_bytes w bytes < limit

pub wide16 : IsWide w16 (2 ^ 16)
wide16 = record {
  len = λ n. refl;
  back = λ bytes len fits. be_bytes_2 bytes _ len fits refl;
  again = λ n lt. from_be_bytes-to_be_bytes_2 n lt;
  below = λ bytes fits. omega (arith, fits 0, fits 1);
}

pub wide32 : IsWide w32 (2 ^ 32)
wide32 = record {
  len = λ n. refl;
  back = λ bytes len fits. be_bytes_4 bytes _ len fits refl;
  again = λ n lt. from_be_bytes-to_be_bytes_4 n lt;
  below = λ bytes fits. omega (arith, fits 0, fits 1, fits 2, fits 3);
}

pub wide64 : IsWide w64 (2 ^ 64)
wide64 = record {
  len = λ n. refl;
  back = λ bytes len fits. be_bytes_8 bytes _ len fits refl;
  again = λ n lt. from_be_bytes-to_be_bytes_8 n lt;
  below = λ bytes fits. omega (arith, fits 0, fits 1, fits 2, fits 3, fits 4, fits 5, fits 6, fits 7);
}

pub number_takes : (w : Width) (limit : ℕ) (wide : IsWide w limit) (bytes : List ℕ) (f : ℕ × List ℕ) → IsBytes bytes → number_at w bytes ≡ Some f → Takes bytes (to_be_bytes w f.0) f.1 × (f.0 < limit)
number_takes w limit wide bytes f fits e =
    let front : List ℕ = take (byte_len w) bytes in
    let made : ℕ × List ℕ = (from_be_bytes w front, drop (byte_len w) bytes) in
    let g : (ltb (length bytes) (byte_len w) ≡ false) × (made ≡ f) = guard_none (ltb (length bytes) (byte_len w)) made f e in
    let long : byte_len w ≤ length bytes = ltb-false _ _ g.0 in
    let front_fits : IsBytes front = IsBytes-take (byte_len w) bytes fits in
    let is : to_be_bytes w (from_be_bytes w front) ≡ front = wide.back front (omega (arith, length-take (byte_len w) bytes)) front_fits in
    subst (λ (y : ℕ × List ℕ). Takes bytes (to_be_bytes w y.0) y.1 × (y.0 < limit)) g.1
    (record { parts = sym (take-append-drop (byte_len w) bytes) ∙ ap (λ (l : List ℕ). l ++ drop (byte_len w) bytes) (sym is); rest_fits = IsBytes-drop (byte_len w) bytes fits }, wide.below front front_fits)

pub number_again : (w : Width) (limit : ℕ) (wide : IsWide w limit) (n : ℕ) (rest : List ℕ) → n < limit → number_at w (to_be_bytes w n ++ rest) ≡ Some (n, rest)
number_again w limit wide n rest lt =
    let len = wide.len n in
    let long : ltb (length (to_be_bytes w n ++ rest)) (byte_len w) ≡ false = le-ltb _ _ (omega (arith, length-append (to_be_bytes w n) rest)) in
    rw (long, take_at (to_be_bytes w n) rest (byte_len w) len, drop_at (to_be_bytes w n) rest (byte_len w) len, wide.again n lt) refl

-- ---- identifiers

abbrev pub IsTid : Tid → Type 0
IsTid tid = HasSlot tid × HasPage tid

abbrev tid_of : ℕ → ℕ → Tid
tid_of page slot = record { page = page; slot = slot }

pub tid_takes : (bytes : List ℕ) (f : Tid × List ℕ) → IsBytes bytes → tid_at bytes ≡ Some f → Takes bytes (tid_bytes f.0) f.1 × IsTid f.0
unfolding tid_at
tid_takes bytes f fits e =
    let a = bind_some (number_at w32 bytes) (λ page. number_at w16 page.1 >>= λ slot. cond (ltb slot.0 page_entries) (Some (tid_of page.0 slot.0, slot.1)) None) f e in
    let b = bind_some (number_at w16 a.0.1) (λ slot. cond (ltb slot.0 page_entries) (Some (tid_of a.0.0 slot.0, slot.1)) None) f a.2 in
    let made : Tid × List ℕ = (tid_of a.0.0 b.0.0, b.0.1) in
    let g = guard_some (ltb b.0.0 page_entries) made f b.2 in
    let page = number_takes w32 (2 ^ 32) wide32 bytes a.0 fits a.1 in
    let slot = number_takes w16 (2 ^ 16) wide16 a.0.1 b.0 page.0.rest_fits b.1 in
    subst (λ (y : Tid × List ℕ). Takes bytes (tid_bytes y.0) y.1 × IsTid y.0) g.1 (Takes-then bytes (to_be_bytes w32 a.0.0) a.0.1 (to_be_bytes w16 b.0.0) b.0.1 page.0 slot.0, (ltb-true _ _ g.0, page.1))

pub tid_again : (tid : Tid) (rest : List ℕ) → IsTid tid → tid_at (tid_bytes tid ++ rest) ≡ Some (tid, rest)
unfolding tid_at
tid_again tid rest is =
    let low : ltb tid.slot page_entries ≡ true = lt-ltb _ _ is.0 in
    ap tid_at (append_assoc (to_be_bytes w32 tid.page) (to_be_bytes w16 tid.slot) rest)
    ∙ rw (number_again w32 (2 ^ 32) wide32 tid.page (to_be_bytes w16 tid.slot ++ rest) is.1, number_again w16 (2 ^ 16) wide16 tid.slot rest (omega (arith, is.0)), low) refl

abbrev pub IsPlace : Option Tid → Type 0
IsPlace place = IfSome place HasSlot × IfSome place HasPage

abbrev place_of : ℕ → ℕ → List ℕ → Front (Option Tid)
place_of page slot rest = cond (ltb slot page_entries) (Some (Some (tid_of page slot), rest)) (cond (eqb page 4294967295 && eqb slot 65535) (Some (None, rest)) None)

pub place_takes : (bytes : List ℕ) (f : Option Tid × List ℕ) → IsBytes bytes → place_at bytes ≡ Some f → Takes bytes (place_bytes f.0) f.1 × IsPlace f.0
unfolding place_at
place_takes bytes f fits e =
    let a = bind_some (number_at w32 bytes) (λ page. number_at w16 page.1 >>= λ slot. place_of page.0 slot.0 slot.1) f e in
    let b = bind_some (number_at w16 a.0.1) (λ slot. place_of a.0.0 slot.0 slot.1) f a.2 in
    let page = number_takes w32 (2 ^ 32) wide32 bytes a.0 fits a.1 in
    let slot = number_takes w16 (2 ^ 16) wide16 a.0.1 b.0 page.0.rest_fits b.1 in
    let both : Takes bytes (to_be_bytes w32 a.0.0 ++ to_be_bytes w16 b.0.0) b.0.1 = Takes-then bytes (to_be_bytes w32 a.0.0) a.0.1 (to_be_bytes w16 b.0.0) b.0.1 page.0 slot.0 in
    let tid : Option Tid × List ℕ = (Some (tid_of a.0.0 b.0.0), b.0.1) in
    let none : Option Tid × List ℕ = (None, b.0.1) in
    elim (chosen (ltb b.0.0 page_entries) (Some tid) (cond (eqb a.0.0 4294967295 && eqb b.0.0 65535) (Some none) None) (Some f) b.2) [
      | inl some ↦ subst (λ (y : Option Tid × List ℕ). Takes bytes (place_bytes y.0) y.1 × IsPlace y.0) (some_is tid f some.1) (both, (ltb-true _ _ some.0, page.1))
      | inr other ↦
          let g = guard_some (eqb a.0.0 4294967295 && eqb b.0.0 65535) none f other.1 in
          let tests = both_true (eqb a.0.0 4294967295) (eqb b.0.0 65535) g.0 in
          let last : Takes bytes (replicate 6 255) b.0.1 = subst (λ (s : ℕ). Takes bytes (to_be_bytes w32 4294967295 ++ to_be_bytes w16 s) b.0.1) (eqb-true _ _ tests.1) (subst (λ (p : ℕ). Takes bytes (to_be_bytes w32 p ++ to_be_bytes w16 b.0.0) b.0.1) (eqb-true _ _ tests.0) both) in
          subst (λ (y : Option Tid × List ℕ). Takes bytes (place_bytes y.0) y.1 × IsPlace y.0) g.1 (last, (tt, tt))
    ]

pub place_again : (place : Option Tid) (rest : List ℕ) → IsPlace place → place_at (place_bytes place ++ rest) ≡ Some (place, rest)
unfolding place_at
place_again None rest is =
    rw (number_again w32 (2 ^ 32) wide32 4294967295 (to_be_bytes w16 65535 ++ rest) (lit< tt), number_again w16 (2 ^ 16) wide16 65535 rest (lit< tt)) refl
place_again (Some tid) rest is =
    let low : ltb tid.slot page_entries ≡ true = lt-ltb _ _ is.0 in
    ap place_at (append_assoc (to_be_bytes w32 tid.page) (to_be_bytes w16 tid.slot) rest)
    ∙ rw (number_again w32 (2 ^ 32) wide32 tid.page (to_be_bytes w16 tid.slot ++ rest) is.1, number_again w16 (2 ^ 16) wide16 tid.slot rest (omega (arith, is.0)), low) refl

-- ---- values

pub values_takes : (bytes : List ℕ) (f : List ℕ × List ℕ) → IsBytes bytes → values_at bytes ≡ Some f → Takes bytes (sized_bytes f.0) f.1 × IsShort f.0
unfolding values_at
values_takes bytes f fits e =
    let b = bind_some (number_at w16 bytes) (λ n. cond (ltb values_most n.0 || ltb (length n.1) n.0) None (Some (take n.0 n.1, drop n.0 n.1))) f e in
    let n : ℕ × List ℕ = b.0 in
    let size = number_takes w16 (2 ^ 16) wide16 bytes n fits b.1 in
    let made : List ℕ × List ℕ = (take n.0 n.1, drop n.0 n.1) in
    let g = guard_none (ltb values_most n.0 || ltb (length n.1) n.0) made f b.2 in
    let tests = both_false (ltb values_most n.0) (ltb (length n.1) n.0) g.0 in
    let short : n.0 ≤ values_most = ltb-false _ _ tests.0 in
    let long : n.0 ≤ length n.1 = ltb-false _ _ tests.1 in
    let len : length (take n.0 n.1) ≡ n.0 = omega (arith, length-take n.0 n.1) in
    let second : Takes n.1 (take n.0 n.1) (drop n.0 n.1) = record { parts = sym (take-append-drop n.0 n.1); rest_fits = IsBytes-drop n.0 n.1 size.0.rest_fits } in
    let both = Takes-then bytes (to_be_bytes w16 n.0) n.1 (take n.0 n.1) (drop n.0 n.1) size.0 second in
    let whole : Takes bytes (sized_bytes (take n.0 n.1)) (drop n.0 n.1) = subst (λ (k : ℕ). Takes bytes (to_be_bytes w16 k ++ take n.0 n.1) (drop n.0 n.1)) (sym len) both in
    subst (λ (y : List ℕ × List ℕ). Takes bytes (sized_bytes y.0) y.1 × IsShort y.0) g.1 (whole, omega arith)

pub values_again : (values rest : List ℕ) → IsShort values → values_at (sized_bytes values ++ rest) ≡ Some (values, rest)
unfolding values_at
values_again values rest short =
    let within : ltb values_most (length values) ≡ false = le-ltb _ _ short in
    let long : ltb (length (values ++ rest)) (length values) ≡ false = le-ltb _ _ (omega (arith, length-append values rest)) in
    ap values_at (append_assoc (to_be_bytes w16 (length values)) values rest)
    ∙ rw (number_again w16 (2 ^ 16) wide16 (length values) (values ++ rest) (omega arith), within, long, take_at values rest (length values) refl, drop_at values rest (length values) refl) refl

-- ---- the transactions of a checkpoint

mark_takes : (bytes : List ℕ) (f : (ℕ × ℕ) × List ℕ) → IsBytes bytes → mark_at bytes ≡ Some f → Takes bytes (to_be_bytes w32 f.0.0 ++ to_be_bytes w64 f.0.1) f.1 × DoesMarkFit f.0
unfolding mark_at
mark_takes bytes f fits e =
    let a = bind_some (number_at w32 bytes) (λ by. number_at w64 by.1 >>= λ position. Some ((by.0, position.0), position.1)) f e in
    let b = bind_some (number_at w64 a.0.1) (λ position. Some ((a.0.0, position.0), position.1)) f a.2 in
    let made : (ℕ × ℕ) × List ℕ = ((a.0.0, b.0.0), b.0.1) in
    let by = number_takes w32 (2 ^ 32) wide32 bytes a.0 fits a.1 in
    let position = number_takes w64 (2 ^ 64) wide64 a.0.1 b.0 by.0.rest_fits b.1 in
    subst (λ (y : (ℕ × ℕ) × List ℕ). Takes bytes (to_be_bytes w32 y.0.0 ++ to_be_bytes w64 y.0.1) y.1 × DoesMarkFit y.0) (some_is made f b.2)
    (Takes-then bytes (to_be_bytes w32 a.0.0) a.0.1 (to_be_bytes w64 b.0.0) b.0.1 by.0 position.0, (by.1, position.1))

mark_again : (mark : ℕ × ℕ) (rest : List ℕ) → DoesMarkFit mark → mark_at (to_be_bytes w32 mark.0 ++ (to_be_bytes w64 mark.1 ++ rest)) ≡ Some (mark, rest)
unfolding mark_at
mark_again mark rest fits = rw (number_again w32 (2 ^ 32) wide32 mark.0 (to_be_bytes w64 mark.1 ++ rest) fits.0, number_again w64 (2 ^ 64) wide64 mark.1 rest fits.1) refl

so_many_takes : (n : ℕ) (bytes : List ℕ) (f : List (ℕ × ℕ) × List ℕ) → IsBytes bytes → so_many_at n bytes ≡ Some f → Takes bytes (marks_bytes f.0) f.1 × (length f.0 ≡ n) × AllByRecursion DoesMarkFit f.0
unfolding so_many_at
so_many_takes zero bytes f fits e =
    let made : List (ℕ × ℕ) × List ℕ = ([], bytes) in
    subst (λ (y : List (ℕ × ℕ) × List ℕ). Takes bytes (marks_bytes y.0) y.1 × (length y.0 ≡ 0) × AllByRecursion DoesMarkFit y.0) (some_is made f e) (record { parts = refl; rest_fits = fits }, refl, tt)
so_many_takes (suc n) bytes f fits e =
    let a = bind_some (mark_at bytes) (λ mark. so_many_at n mark.1 >>= λ others. Some (mark.0 ∷ others.0, others.1)) f e in
    let b = bind_some (so_many_at n a.0.1) (λ others. Some (a.0.0 ∷ others.0, others.1)) f a.2 in
    let made : List (ℕ × ℕ) × List ℕ = (a.0.0 ∷ b.0.0, b.0.1) in
    let first = mark_takes bytes a.0 fits a.1 in
    let others = so_many_takes n a.0.1 b.0 first.0.rest_fits b.1 in
    let both : Takes bytes ((to_be_bytes w32 a.0.0.0 ++ to_be_bytes w64 a.0.0.1) ++ marks_bytes b.0.0) b.0.1 = Takes-then bytes (to_be_bytes w32 a.0.0.0 ++ to_be_bytes w64 a.0.0.1) a.0.1 (marks_bytes b.0.0) b.0.1 first.0 others.0 in
    let all : Takes bytes (marks_bytes (a.0.0 ∷ b.0.0)) b.0.1 = subst (λ (l : List ℕ). Takes bytes l b.0.1) (append_assoc (to_be_bytes w32 a.0.0.0) (to_be_bytes w64 a.0.0.1) (marks_bytes b.0.0)) both in
    subst (λ (y : List (ℕ × ℕ) × List ℕ). Takes bytes (marks_bytes y.0) y.1 × (length y.0 ≡ suc n) × AllByRecursion DoesMarkFit y.0) (some_is made f b.2) (all, ap suc others.1, (first.1, others.2))

so_many_again : (marks : List (ℕ × ℕ)) (rest : List ℕ) → AllByRecursion DoesMarkFit marks → so_many_at (length marks) (marks_bytes marks ++ rest) ≡ Some (marks, rest)
unfolding so_many_at
so_many_again [] rest fits = refl
so_many_again (mark ∷ marks) rest fits =
    let more : List ℕ = marks_bytes marks ++ rest in
    let grouped : marks_bytes (mark ∷ marks) ++ rest ≡ to_be_bytes w32 mark.0 ++ (to_be_bytes w64 mark.1 ++ more) =
    append_assoc (to_be_bytes w32 mark.0) (to_be_bytes w64 mark.1 ++ marks_bytes marks) rest ∙ ap (λ (l : List ℕ). to_be_bytes w32 mark.0 ++ l) (append_assoc (to_be_bytes w64 mark.1) (marks_bytes marks) rest) in
    ap (so_many_at (suc (length marks))) grouped ∙ rw (mark_again mark more fits.0, so_many_again marks rest fits.1) refl

pub marks_takes : (bytes : List ℕ) (f : List (ℕ × ℕ) × List ℕ) → IsBytes bytes → marks_at bytes ≡ Some f → (bytes ≡ length f.0 ∷ (marks_bytes f.0 ++ f.1)) × (length f.0 ≤ marks_most) × AllByRecursion DoesMarkFit f.0
unfolding marks_at
marks_takes [] f fits e = absurd cc
marks_takes (count ∷ bytes) f fits e = elim (chosen (ltb marks_most count) None (so_many_at count bytes) (Some f) e) [
  | inl none ↦ absurd (no_front none.1)
  | inr some ↦
      let marks = so_many_takes count bytes f (IsBytes-rest count bytes fits) some.1 in
      let few : count ≤ marks_most = ltb-false _ _ some.0 in
      ((λ i. sym marks.1 i ∷ marks.0.parts i), omega (arith, marks.1), marks.2)
]
  where
    no_front : {A : Type 0} {x : A} → None ≡ Some x → ⊥
    no_front e = cc

pub marks_again : (marks : List (ℕ × ℕ)) (rest : List ℕ) → length marks ≤ marks_most → AllByRecursion DoesMarkFit marks → marks_at (length marks ∷ (marks_bytes marks ++ rest)) ≡ Some (marks, rest)
unfolding marks_at
marks_again marks rest few fits = let within : ltb marks_most (length marks) ≡ false = le-ltb _ _ few in rw (within, so_many_again marks rest fits) refl
