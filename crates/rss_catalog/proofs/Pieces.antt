-- Pieces of one width, one behind another.
use Rattle.std.proofs.Common.{◌≡◌, ℕ, ◌+◌, ◌-◌, ◌*◌, ◌<◌, ◌≤◌, suc, zero, List, [], ◌∷◌, ◌++◌, length, take, drop, get_or, All, refl, sym, ◌∙◌, ap, arith, add-one, mul-zero, mul-suc, length-append}
use Rattle.std.specs.Prelude.{map, flat_map}
use Rattle.std.proofs.lemmas.List.{take_at, drop_at, drop-drop, append_assoc, map_more, map_push, length_push}
use Rattle.std.proofs.lemmas.List.Elements.{All-head, All-tail}
use Rattle.rss_catalog.specs.Reading.{pieces}

pub pieces_none : (width : ℕ) (bytes : List ℕ) → pieces width 0 bytes ≡ []
unfolding pieces
pieces_none width bytes = refl

-- one piece more
pub pieces_more : (width count : ℕ) (bytes : List ℕ) → pieces width (count + 1) bytes ≡ pieces width count bytes ++ take width (drop (width * count) bytes) ∷ []
unfolding pieces
pieces_more width count bytes = ap (λ (n : ℕ). pieces width n bytes) (add-one count)

-- what is made of the pieces, and of one piece more
pub map_piece : {X : Type 0} (f : List ℕ → X) (width count : ℕ) (bytes : List ℕ) → map f (pieces width (count + 1) bytes) ≡ map f (pieces width count bytes) ++ f (take width (drop (width * count) bytes)) ∷ []
map_piece f width count bytes = ap (map f) (pieces_more width count bytes) ∙ map_push f (pieces width count bytes) (take width (drop (width * count) bytes))

-- items of one width, one behind another: so many bytes
pub long_pieces : {X : Type 0} (f : X → List ℕ) (width : ℕ) (xs : List X) → All (λ x. length (f x) ≡ width) xs → length (flat_map f xs) ≡ width * length xs
long_pieces f width [] all = sym (mul-zero width)
long_pieces f width (x ∷ xs) all =
    let here = All-head (λ y. length (f y) ≡ width) x xs all in
    let rest = long_pieces f width xs (All-tail (λ y. length (f y) ≡ width) x xs all) in
    length-append (f x) (flat_map f xs) ∙ omega (arith, here, rest, mul-suc width (length xs))

-- the piece at a place is that of the item there
pub piece_at : {X : Type 0} (f : X → List ℕ) (width : ℕ) (xs : List X) (k : ℕ) (d : X) (rest : List ℕ) → All (λ x. length (f x) ≡ width) xs → k < length xs → take width (drop (width * k) (flat_map f xs ++ rest)) ≡ f (get_or xs k d)
piece_at f width [] k d rest all low = absurd (omega arith)
piece_at f width (x ∷ xs) zero d rest all low =
    let here = All-head (λ y. length (f y) ≡ width) x xs all in
    ap (λ (n : ℕ). take width (drop n (flat_map f (x ∷ xs) ++ rest))) (mul-zero width)
    ∙ ap (take width) (append_assoc (f x) (flat_map f xs) rest)
    ∙ take_at (f x) (flat_map f xs ++ rest) width here
piece_at f width (x ∷ xs) (suc k) d rest all low =
    let here = All-head (λ y. length (f y) ≡ width) x xs all in
    let on : width * suc k ≡ width + width * k = mul-suc width k ∙ omega arith in
    ap (λ (n : ℕ). take width (drop n (flat_map f (x ∷ xs) ++ rest))) on
    ∙ ap (take width) (sym (drop-drop (width * k) width (flat_map f (x ∷ xs) ++ rest)))
    ∙ ap (λ (l : List ℕ). take width (drop (width * k) l)) (ap (drop width) (append_assoc (f x) (flat_map f xs) rest) ∙ drop_at (f x) (flat_map f xs ++ rest) width here)
    ∙ piece_at f width xs k d rest (All-tail (λ y. length (f y) ≡ width) x xs all) (omega arith)

-- the pieces are those of the items
pub pieces_of : {X : Type 0} (f : X → List ℕ) (width : ℕ) (xs : List X) (rest : List ℕ) (count : ℕ) (d : X) → All (λ x. length (f x) ≡ width) xs → count ≤ length xs → pieces width count (flat_map f xs ++ rest) ≡ map f (take count xs)
pieces_of f width xs rest zero d all few = pieces_none width (flat_map f xs ++ rest)
pieces_of f width xs rest (suc k) d all few =
    ap (λ (n : ℕ). pieces width n (flat_map f xs ++ rest)) (sym (add-one k))
    ∙ pieces_more width k (flat_map f xs ++ rest)
    ∙ (λ i. pieces_of f width xs rest k d all (omega arith) i ++ piece_at f width xs k d rest all (omega arith) i ∷ [])
    ∙ sym (map_more f xs k d (omega arith))
    ∙ ap (λ (n : ℕ). map f (take n xs)) (add-one k)

-- a piece that was read at its place
pub piece_is : {X : Type 0} (f : List ℕ → X) (width count at : ℕ) (bytes : List ℕ) (item : X) → at ≡ width * count → item ≡ f (take (at + width - at) (drop at bytes)) → item ≡ f (take width (drop (width * count) bytes))
piece_is f width count at bytes item here is = is ∙ ap (λ (n : ℕ). f (take n (drop at bytes))) (omega arith) ∙ ap (λ (n : ℕ). f (take width (drop n bytes))) here

-- one piece more was read
pub piece_read : {X : Type 0} (f : List ℕ → X) (width count at : ℕ) (bytes : List ℕ) (so_far new : List X) (item : X) → so_far ≡ map f (pieces width count bytes) → new ≡ so_far ++ item ∷ [] → at ≡ width * count → item ≡ f (take (at + width - at) (drop at bytes)) → new ≡ map f (pieces width (count + 1) bytes)
piece_read f width count at bytes so_far new item was now here is =
    let read = piece_is f width count at bytes item here is in
    now ∙ (λ i. was i ++ read i ∷ []) ∙ sym (map_piece f width count bytes)

-- and stands behind others
pub piece_behind : {X : Type 0} (f : List ℕ → X) (width count at : ℕ) (bytes : List ℕ) (front so_far new : List X) (item : X) → so_far ≡ front ++ map f (pieces width count bytes) → new ≡ so_far ++ item ∷ [] → at ≡ width * count → item ≡ f (take (at + width - at) (drop at bytes)) → new ≡ front ++ map f (pieces width (count + 1) bytes)
piece_behind {X = X} f width count at bytes front so_far new item was now here is =
    let mapped = map f (pieces width count bytes) in
    now ∙ ap (λ (l : List X). l ++ item ∷ []) was ∙ append_assoc front mapped (item ∷ []) ∙ ap (λ (l : List X). front ++ l) (piece_read f width count at bytes mapped (mapped ++ item ∷ []) item refl refl here is)

pub length-pieces : (width count : ℕ) (bytes : List ℕ) → length (pieces width count bytes) ≡ count
length-pieces width zero bytes = ap length (pieces_none width bytes)
length-pieces width (suc k) bytes =
    ap (λ (n : ℕ). length (pieces width n bytes)) (sym (add-one k)) ∙ ap length (pieces_more width k bytes) ∙ length_push (pieces width k bytes) (take width (drop (width * k) bytes)) ∙ ap (λ (n : ℕ). n + 1) (length-pieces width k bytes) ∙ add-one k
