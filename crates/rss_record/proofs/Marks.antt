-- The marks of a checkpoint, read and written one after the other.
use Rattle.std.proofs.Common.{◌≡◌, ℕ, suc, ◌-◌, ◌+◌, ◌*◌, ◌≤◌, ◌<◌, List, [], ◌∷◌, ◌++◌, length, take, get_or, Some, None, refl, sym, ap, subst, ◌∙◌, append_assoc, length-take-le, arith}
use Rattle.std.specs.Int.{w32, w64, to_be_bytes}
use Rattle.std.specs.List.{AllByRecursion}
use Rattle.std.proofs.lemmas.List.{append-nil, take_more}
use Rattle.rss_base.specs.LogRecords.{marks_bytes, DoesMarkFit}
use Rattle.rss_record.specs.Writing.{Puts}
use Rattle.rss_record.specs.Reading.{◌>>=◌, Front, mark_at, so_many_at}
use Rattle.rss_record.proofs.Putting.{puts_then}

-- what was read before, and what is still read
abbrev pub with_front : List (ℕ × ℕ) → Front (List (ℕ × ℕ)) → Front (List (ℕ × ℕ))
with_front front read = read >>= λ x. Some (front ++ x.0, x.1)

regroup : (front : List (ℕ × ℕ)) (mark : ℕ × ℕ) (read : Front (List (ℕ × ℕ))) → with_front front (read >>= λ x. Some (mark ∷ x.0, x.1)) ≡ with_front (front ++ mark ∷ []) read
regroup front mark (Some x) = ap (λ (marks : List (ℕ × ℕ)). Some (marks, x.1)) (simp append_assoc)
regroup front mark None = refl

none_before : (read : Front (List (ℕ × ℕ))) → with_front [] read ≡ read
none_before None = refl
none_before (Some x) = refl

pub begins : (count : ℕ) (bytes : List ℕ) (all : Front (List (ℕ × ℕ))) → all ≡ so_many_at count bytes → with_front [] (so_many_at (count - 0) bytes) ≡ all
begins count bytes all is = let none : count - 0 ≡ count = omega arith in rw none (none_before (so_many_at count bytes) ∙ sym is)

pub goes_on : (front : List (ℕ × ℕ)) (count i : ℕ) (bytes : List ℕ) (mark : ℕ × ℕ) (after : List ℕ) (all : Front (List (ℕ × ℕ))) → i < count → mark_at bytes ≡ Some (mark, after)
    → with_front front (so_many_at (count - i) bytes) ≡ all → with_front (front ++ mark ∷ []) (so_many_at (count - (i + 1)) after) ≡ all
unfolding so_many_at
goes_on front count i bytes mark after all lt h so_far =
    let k : count - i ≡ suc (count - (i + 1)) = omega arith in
    let one : with_front front (so_many_at (count - i) bytes) ≡ with_front (front ++ mark ∷ []) (so_many_at (count - (i + 1)) after) = rw (k, h) (regroup front mark (so_many_at (count - (i + 1)) after)) in
    sym one ∙ so_far

pub stops : (front : List (ℕ × ℕ)) (count i : ℕ) (bytes : List ℕ) (all : Front (List (ℕ × ℕ))) → i < count → mark_at bytes ≡ None → with_front front (so_many_at (count - i) bytes) ≡ all → all ≡ None
unfolding so_many_at
stops front count i bytes all lt h so_far =
    let k : count - i ≡ suc (count - (i + 1)) = omega arith in
    let one : with_front front (so_many_at (count - i) bytes) ≡ None = rw (k, h) refl in
    sym so_far ∙ one

pub is_done : (front : List (ℕ × ℕ)) (count i : ℕ) (bytes : List ℕ) (all : Front (List (ℕ × ℕ))) → count ≤ i → with_front front (so_many_at (count - i) bytes) ≡ all → all ≡ Some (front, bytes)
unfolding so_many_at
is_done front count i bytes all le so_far =
    let k : count - i ≡ 0 = omega arith in
    let one : with_front front (so_many_at (count - i) bytes) ≡ Some (front, bytes) = rw k (ap (λ (marks : List (ℕ × ℕ)). Some (marks, bytes)) (append-nil front)) in
    sym so_far ∙ one

-- ---- written one after the other

pub marks_bytes-append : (xs ys : List (ℕ × ℕ)) → marks_bytes (xs ++ ys) ≡ marks_bytes xs ++ marks_bytes ys
marks_bytes-append [] ys = refl
marks_bytes-append (x ∷ xs) ys =
    ap (λ (l : List ℕ). to_be_bytes w32 x.0 ++ (to_be_bytes w64 x.1 ++ l)) (marks_bytes-append xs ys)

pub length-marks_bytes : (marks : List (ℕ × ℕ)) → length (marks_bytes marks) ≡ 12 * length marks
length-marks_bytes [] = omega arith
length-marks_bytes (mark ∷ marks) = omega (arith, length-marks_bytes marks)

pub marks_fit-append : (xs ys : List (ℕ × ℕ)) → AllByRecursion DoesMarkFit xs → AllByRecursion DoesMarkFit ys → AllByRecursion DoesMarkFit (xs ++ ys)
marks_fit-append [] ys front back = back
marks_fit-append (x ∷ xs) ys front back = (front.0, marks_fit-append xs ys front.1 back)

-- one mark more
pub mark_put : {into a b c : List ℕ} (marks : List (ℕ × ℕ)) (i end mid : ℕ) (d : ℕ × ℕ) → i < length marks → length marks ≤ 32 → end ≡ 2 + 12 * i → mid ≡ end + 4 → length into ≡ 4400 → length a ≡ 4400
    → Puts 0 (9 ∷ length marks ∷ marks_bytes (take i marks)) into a → Puts end (to_be_bytes w32 (get_or marks i d).0) a b → Puts mid (to_be_bytes w64 (get_or marks i d).1) b c
    → Puts 0 (9 ∷ length marks ∷ marks_bytes (take (i + 1) marks)) into c
mark_put {into = into} {a = a} {b = b} {c = c} marks i end mid d lt few end_is mid_is long long_too so_far by position =
    let size : length (marks_bytes (take i marks)) ≡ 12 * i = omega (arith, length-marks_bytes (take i marks), length-take-le i marks (omega arith)) in
    let mark : Puts end (to_be_bytes w32 (get_or marks i d).0 ++ to_be_bytes w64 (get_or marks i d).1) a c = puts_then by position mid_is (omega arith) in
    let all : Puts 0 ((9 ∷ length marks ∷ marks_bytes (take i marks)) ++ (to_be_bytes w32 (get_or marks i d).0 ++ to_be_bytes w64 (get_or marks i d).1)) into c = puts_then so_far mark (omega (arith, size)) (omega arith) in
    let more : marks_bytes (take (i + 1) marks) ≡ marks_bytes (take i marks) ++ (to_be_bytes w32 (get_or marks i d).0 ++ to_be_bytes w64 (get_or marks i d).1) =
    ap marks_bytes (take_more marks i d lt) ∙ marks_bytes-append (take i marks) (get_or marks i d ∷ []) in
    subst (λ (l : List ℕ). Puts 0 (9 ∷ length marks ∷ l) into c) (sym more) all

pub mark_fits : (marks : List (ℕ × ℕ)) (i : ℕ) (d : ℕ × ℕ) → i < length marks → AllByRecursion DoesMarkFit (take i marks) → DoesMarkFit (get_or marks i d) → AllByRecursion DoesMarkFit (take (i + 1) marks)
mark_fits marks i d lt front last = subst (AllByRecursion DoesMarkFit) (sym (take_more marks i d lt)) (marks_fit-append (take i marks) (get_or marks i d ∷ []) front (last, tt))
