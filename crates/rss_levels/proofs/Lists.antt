-- What holds of each element of a list, and of each two.
use Rattle.std.proofs.Common.{List, [], ◌∷◌, ◌++◌, map}
use Rattle.rss_levels.specs.Entries.{Each, Pairwise}

pub each_append : {X : Type 0} (P : X → Type 0) (xs ys : List X) → Each P xs → Each P ys → Each P (xs ++ ys)
each_append P [] ys some more = more
each_append P (x ∷ xs) ys some more = (some.0, each_append P xs ys some.1 more)

pub each_left : {X : Type 0} (P : X → Type 0) (xs ys : List X) → Each P (xs ++ ys) → Each P xs
each_left P [] ys all = tt
each_left P (x ∷ xs) ys all = (all.0, each_left P xs ys all.1)

pub each_right : {X : Type 0} (P : X → Type 0) (xs ys : List X) → Each P (xs ++ ys) → Each P ys
each_right P [] ys all = all
each_right P (x ∷ xs) ys all = each_right P xs ys all.1

pub each_weaker : {X : Type 0} (P Q : X → Type 0) (xs : List X) → ((x : X) → P x → Q x) → Each P xs → Each Q xs
each_weaker P Q [] gives all = tt
each_weaker P Q (x ∷ xs) gives all = (gives x all.0, each_weaker P Q xs gives all.1)

pub each_two : {X : Type 0} (P Q R : X → Type 0) (xs : List X) → ((x : X) → P x → Q x → R x) → Each P xs → Each Q xs → Each R xs
each_two P Q R [] gives one two = tt
each_two P Q R (x ∷ xs) gives one two = (gives x one.0 two.0, each_two P Q R xs gives one.1 two.1)

pub each_map : {X Y : Type 0} (P : Y → Type 0) (f : X → Y) (xs : List X) → Each (λ x. P (f x)) xs → Each P (map f xs)
each_map P f [] all = tt
each_map P f (x ∷ xs) all = (all.0, each_map P f xs all.1)

pub each_unmap : {X Y : Type 0} (P : Y → Type 0) (f : X → Y) (xs : List X) → Each P (map f xs) → Each (λ x. P (f x)) xs
each_unmap P f [] all = tt
each_unmap P f (x ∷ xs) all = (all.0, each_unmap P f xs all.1)

-- ---- each two

pub pairwise_append : {X : Type 0} (R : X → X → Type 0) (xs ys : List X) → Pairwise R xs → Pairwise R ys → Each (λ x. Each (R x) ys) xs → Pairwise R (xs ++ ys)
pairwise_append R [] ys one two cross = two
pairwise_append R (x ∷ xs) ys one two cross = (each_append (R x) xs ys one.0 cross.0, pairwise_append R xs ys one.1 two cross.1)

pub pairwise_left : {X : Type 0} (R : X → X → Type 0) (xs ys : List X) → Pairwise R (xs ++ ys) → Pairwise R xs
pairwise_left R [] ys all = tt
pairwise_left R (x ∷ xs) ys all = (each_left (R x) xs ys all.0, pairwise_left R xs ys all.1)

pub pairwise_right : {X : Type 0} (R : X → X → Type 0) (xs ys : List X) → Pairwise R (xs ++ ys) → Pairwise R ys
pairwise_right R [] ys all = all
pairwise_right R (x ∷ xs) ys all = pairwise_right R xs ys all.1

pub pairwise_cross : {X : Type 0} (R : X → X → Type 0) (xs ys : List X) → Pairwise R (xs ++ ys) → Each (λ x. Each (R x) ys) xs
pairwise_cross R [] ys all = tt
pairwise_cross R (x ∷ xs) ys all = (each_right (R x) xs ys all.0, pairwise_cross R xs ys all.1)

-- what each of the first list has with one behind it
pub pairwise_before : {X : Type 0} (R : X → X → Type 0) (xs : List X) (y : X) (ys : List X) → Pairwise R (xs ++ y ∷ ys) → Each (λ x. R x y) xs
pairwise_before R xs y ys all = each_weaker (λ x. Each (R x) (y ∷ ys)) (λ x. R x y) xs (λ x is. is.0) (pairwise_cross R xs (y ∷ ys) all)

-- one is put between
pub pairwise_put : {X : Type 0} (R : X → X → Type 0) (xs : List X) (y : X) (ys : List X) → Pairwise R (xs ++ ys) → Each (λ x. R x y) xs → Each (R y) ys → Pairwise R (xs ++ y ∷ ys)
pairwise_put R xs y ys all below above =
    pairwise_append R xs (y ∷ ys) (pairwise_left R xs ys all) (above, pairwise_right R xs ys all)
    (each_two (λ x. R x y) (λ x. Each (R x) ys) (λ x. Each (R x) (y ∷ ys)) xs (λ x one two. (one, two)) below (pairwise_cross R xs ys all))

-- one is taken away
pub pairwise_cut : {X : Type 0} (R : X → X → Type 0) (xs : List X) (y : X) (ys : List X) → Pairwise R (xs ++ y ∷ ys) → Pairwise R (xs ++ ys)
pairwise_cut R xs y ys all =
    pairwise_append R xs ys (pairwise_left R xs (y ∷ ys) all) (pairwise_right R xs (y ∷ ys) all).1
    (each_weaker (λ x. Each (R x) (y ∷ ys)) (λ x. Each (R x) ys) xs (λ x is. is.1) (pairwise_cross R xs (y ∷ ys) all))
