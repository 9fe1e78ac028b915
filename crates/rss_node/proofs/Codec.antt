-- Entries, one behind the other.
use Rattle.std.proofs.Common.{◌≡◌, ℕ, suc, zero, ◌+◌, ◌-◌, ◌*◌, ◌≤◌, List, [], ◌∷◌, ◌++◌, length, take, drop, refl, sym, ◌∙◌, ap, arith, length-take-le, length-drop}
use Rattle.std.proofs.lemmas.List.{drop_at, take_at, drop-append-le, take-append-le, drop-drop, take-append-drop}
use Rattle.std.specs.Int.{w32, from_be_bytes}
use Rattle.rss_base.specs.Entries.{Entry}
use Rattle.std.specs.Int.{to_be_bytes}
use Rattle.std.proofs.Common.{◌<◌, ◌^◌}
use Rattle.std.proofs.lemmas.List.{append-nil}
use Rattle.std.proofs.lemmas.Nat.{from_be_bytes-to_be_bytes_4}
use Rattle.rss_node.specs.Nodes.{part, entry_from, entries_from, spliced, entry_at}

pub length_entries : (width count : ℕ) (bytes : List ℕ) → length (entries_from width count bytes) ≡ count
length_entries width zero bytes = refl
length_entries width (suc count) bytes = ap (λ (n : ℕ). suc n) (length_entries width count (drop (width + 10) bytes))

pub entries_add : (width a b : ℕ) (bytes : List ℕ) → entries_from width (a + b) bytes ≡ entries_from width a bytes ++ entries_from width b (drop (a * (width + 10)) bytes)
entries_add width zero b bytes =
    let none : zero + b ≡ b = omega arith in let start : zero * (width + 10) ≡ zero = omega arith in rw (none, start) refl
entries_add width (suc a) b bytes =
    let more : suc a + b ≡ suc (a + b) = omega arith in
    let there : drop (a * (width + 10)) (drop (width + 10) bytes) ≡ drop (suc a * (width + 10)) bytes = drop-drop (a * (width + 10)) (width + 10) bytes ∙ ap (λ (n : ℕ). drop n bytes) (omega arith) in
    ap (λ (n : ℕ). entries_from width n bytes) more
    ∙ ap (λ (es : List Entry). entry_from width bytes ∷ es) (entries_add width a b (drop (width + 10) bytes) ∙ ap (λ (l : List ℕ). entries_from width a (drop (width + 10) bytes) ++ entries_from width b l) there)

entry_prefix : (width : ℕ) (xs ys : List ℕ) → width + 10 ≤ length xs → entry_from width (xs ++ ys) ≡ entry_from width xs
entry_prefix width xs ys long =
    let one : take (width + 6) (xs ++ ys) ≡ take (width + 6) xs = take-append-le (width + 6) xs ys (omega arith) in
    let two : part (xs ++ ys) (width + 6) 4 ≡ part xs (width + 6) 4 =
    ap (λ (l : List ℕ). take 4 l) (drop-append-le (width + 6) xs ys (omega arith))
    ∙ take-append-le 4 (drop (width + 6) xs) ys (omega (arith, length-drop (width + 6) xs)) in
    λ i. record { pair = one i; child = from_be_bytes w32 (two i) }

pub entries_prefix : (width count : ℕ) (xs ys : List ℕ) → count * (width + 10) ≤ length xs → entries_from width count (xs ++ ys) ≡ entries_from width count xs
entries_prefix width zero xs ys long = refl
entries_prefix width (suc count) xs ys long =
    let some : width + 10 ≤ length xs = omega arith in
    let rest : entries_from width count (drop (width + 10) (xs ++ ys)) ≡ entries_from width count (drop (width + 10) xs) =
    ap (λ (l : List ℕ). entries_from width count l) (drop-append-le (width + 10) xs ys some)
    ∙ entries_prefix width count (drop (width + 10) xs) ys (omega (arith, length-drop (width + 10) xs)) in
    λ i. entry_prefix width xs ys some i ∷ rest i

-- the first of more entries, and those behind them
pub take_entries : (width at count : ℕ) (bytes : List ℕ) → at ≤ count → take at (entries_from width count bytes) ≡ entries_from width at bytes
take_entries width at count bytes few =
    ap (λ (n : ℕ). take at (entries_from width n bytes)) (omega arith)
    ∙ ap (λ (l : List Entry). take at l) (entries_add width at (count - at) bytes)
    ∙ take_at (entries_from width at bytes) (entries_from width (count - at) (drop (at * (width + 10)) bytes)) at (length_entries width at bytes)

pub drop_entries : (width at count : ℕ) (bytes : List ℕ) → at ≤ count → drop at (entries_from width count bytes) ≡ entries_from width (count - at) (drop (at * (width + 10)) bytes)
drop_entries width at count bytes few =
    ap (λ (n : ℕ). drop at (entries_from width n bytes)) (omega arith)
    ∙ ap (λ (l : List Entry). drop at l) (entries_add width at (count - at) bytes)
    ∙ drop_at (entries_from width at bytes) (entries_from width (count - at) (drop (at * (width + 10)) bytes)) at (length_entries width at bytes)

-- as many as the bytes have
pub entries_whole : (width count : ℕ) (bytes junk : List ℕ) → count * (width + 10) ≤ length bytes → entries_from width count (take (count * (width + 10)) bytes ++ junk) ≡ entries_from width count bytes
entries_whole width count bytes junk long =
    let size : ℕ = count * (width + 10) in
    let cut : length (take size bytes) ≡ size = length-take-le size bytes long in
    entries_prefix width count (take size bytes) junk (omega arith)
    ∙ sym (entries_prefix width count (take size bytes) (drop size bytes) (omega arith))
    ∙ ap (λ (l : List ℕ). entries_from width count l) (take-append-drop size bytes)

pub entries_spliced : (width at removed old count rest : ℕ) (bytes news junk : List ℕ) → at + removed + rest ≡ old → old * (width + 10) ≤ length bytes → length news ≡ count * (width + 10)
    → entries_from width (at + (count + rest)) (take (at * (width + 10)) bytes ++ (news ++ (take (rest * (width + 10)) (drop ((at + removed) * (width + 10)) bytes) ++ junk))) ≡ spliced (entries_from width old bytes) at removed (entries_from width count news)
entries_spliced width at removed old count rest bytes news junk is long many =
    let size : ℕ = width + 10 in
    let behind : List ℕ = drop ((at + removed) * size) bytes in
    let tail : List ℕ = take (rest * size) behind ++ junk in
    let split : at * size + (removed * size + rest * size) ≡ old * size = let e : (at + removed + rest) * size ≡ old * size = ap (λ (n : ℕ). n * size) is in omega (arith, e) in
    let cut : length (take (at * size) bytes) ≡ at * size = length-take-le (at * size) bytes (omega arith) in
    let one : entries_from width at (take (at * size) bytes ++ (news ++ tail)) ≡ take at (entries_from width old bytes) =
    entries_whole width at bytes (news ++ tail) (omega arith) ∙ sym (take_entries width at old bytes (omega arith)) in
    let two : entries_from width count (news ++ tail) ≡ entries_from width count news = entries_prefix width count news tail (omega arith) in
    let three : entries_from width rest tail ≡ drop (at + removed) (entries_from width old bytes) =
    entries_whole width rest behind junk (omega (arith, length-drop ((at + removed) * size) bytes))
    ∙ ap (λ (n : ℕ). entries_from width n behind) (omega arith)
    ∙ sym (drop_entries width (at + removed) old bytes (omega arith)) in
    entries_add width at (count + rest) (take (at * size) bytes ++ (news ++ tail))
    ∙ ap (λ (l : List ℕ). entries_from width at (take (at * size) bytes ++ (news ++ tail)) ++ entries_from width (count + rest) l) (drop_at (take (at * size) bytes) (news ++ tail) (at * size) cut)
    ∙ ap (λ (l : List Entry). entries_from width at (take (at * size) bytes ++ (news ++ tail)) ++ l) (entries_add width count rest (news ++ tail))
    ∙ ap (λ (l : List ℕ). entries_from width at (take (at * size) bytes ++ (news ++ tail)) ++ (entries_from width count (news ++ tail) ++ entries_from width rest l)) (drop_at news tail (count * size) many)
    ∙ (λ i. one i ++ (two i ++ three i))

-- ---- one entry

entry_there : (width count at : ℕ) (bytes : List ℕ) → at < count → entry_at (entries_from width count bytes) at ≡ entry_from width (drop (at * (width + 10)) bytes)
entry_there width zero at bytes low = absurd (omega arith)
entry_there width (suc count) zero bytes low = let none : zero * (width + 10) ≡ zero = omega arith in rw none refl
entry_there width (suc count) (suc at) bytes low =
    entry_there width count at (drop (width + 10) bytes) (omega arith)
    ∙ ap (λ (l : List ℕ). entry_from width l) (drop-drop (at * (width + 10)) (width + 10) bytes ∙ ap (λ (n : ℕ). drop n bytes) (omega arith))

pub read_child : (width count at : ℕ) (page : List ℕ) → at < count → from_be_bytes w32 (part page (32 + at * (width + 10) + (width + 10 - 4)) 4) ≡ (entry_at (entries_from width count (drop 32 page)) at).child
read_child width count at page low =
    let there = entry_there width count at (drop 32 page) low in
    let same : drop (width + 6) (drop (at * (width + 10)) (drop 32 page)) ≡ drop (32 + at * (width + 10) + (width + 10 - 4)) page =
    drop-drop (width + 6) (at * (width + 10)) (drop 32 page)
    ∙ drop-drop (at * (width + 10) + (width + 6)) 32 page
    ∙ ap (λ (n : ℕ). drop n page) (omega arith) in
    ap (λ (l : List ℕ). from_be_bytes w32 (take 4 l)) (sym same) ∙ sym (ap (λ (e : Entry). e.child) there)

pub read_pair : (width count at : ℕ) (page : List ℕ) → at < count → part page (32 + at * (width + 10)) (width + 10 - 4) ≡ (entry_at (entries_from width count (drop 32 page)) at).pair
read_pair width count at page low =
    let there = entry_there width count at (drop 32 page) low in
    let same : drop (at * (width + 10)) (drop 32 page) ≡ drop (32 + at * (width + 10)) page = drop-drop (at * (width + 10)) 32 page in
    ap (λ (n : ℕ). part page (32 + at * (width + 10)) n) (omega arith) ∙ ap (λ (l : List ℕ). take (width + 6) l) (sym same) ∙ sym (ap (λ (e : Entry). e.pair) there)

-- the bytes of one entry
pub entry_spelled : (width child : ℕ) (pair : List ℕ) → length pair ≡ width + 6 → child < 2 ^ 32 → entries_from width 1 (pair ++ to_be_bytes w32 child) ≡ record { pair = pair; child = child } ∷ []
entry_spelled width child pair long low =
    let one : take (width + 6) (pair ++ to_be_bytes w32 child) ≡ pair = take_at pair (to_be_bytes w32 child) (width + 6) long in
    let two : from_be_bytes w32 (part (pair ++ to_be_bytes w32 child) (width + 6) 4) ≡ child =
    ap (λ (l : List ℕ). from_be_bytes w32 (take 4 l)) (drop_at pair (to_be_bytes w32 child) (width + 6) long) ∙ from_be_bytes-to_be_bytes_4 child low in
    λ i. record { pair = one i; child = two i } ∷ []

-- the bytes of some entries of a page
pub entries_part : (width old start count : ℕ) (page : List ℕ) → start + count ≤ old → 32 + old * (width + 10) ≤ length page → entries_from width count (part page (32 + start * (width + 10)) (count * (width + 10))) ≡ take count (drop start (entries_from width old (drop 32 page)))
entries_part width old start count page within long =
    let size : ℕ = width + 10 in
    let rest : ℕ = old - (start + count) in
    let split : start * size + (count * size + rest * size) ≡ old * size = let whole : start + count + rest ≡ old = omega arith in let e : (start + count + rest) * size ≡ old * size = ap (λ (n : ℕ). n * size) whole in omega (arith, e) in
    let behind : List ℕ = drop (start * size) (drop 32 page) in
    let there : drop (32 + start * size) page ≡ behind = sym (drop-drop (start * size) 32 page) in
    ap (λ (l : List ℕ). entries_from width count (take (count * size) l)) there
    ∙ ap (λ (l : List ℕ). entries_from width count l) (sym (append-nil (take (count * size) behind)))
    ∙ entries_whole width count behind [] (omega (arith, length-drop (start * size) (drop 32 page), length-drop 32 page))
    ∙ sym (take_entries width count (old - start) behind (omega arith))
    ∙ ap (λ (l : List Entry). take count l) (sym (drop_entries width start old (drop 32 page) (omega arith)))
