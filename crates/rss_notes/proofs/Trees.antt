-- Trees of maxima.
use Rattle.std.proofs.Common.{◌≡◌, ◌≢◌, inl, inr, ℕ, ◌+◌, ◌-◌, ◌*◌, ◌/◌, ◌^◌, ◌<◌, ◌≤◌, max, min, List, length, take, drop, set, get_or, replicate, refl, sym, ◌∙◌, ap, subst, arith, zero-add, length-take, length-drop, length-set, get_or-set_same, get_or-set_other}
use Rattle.std.proofs.lemmas.Bool.{cases_lt, cases_eq}
use Rattle.std.proofs.lemmas.List.{get_or_past, get_or-take, get_or-drop, get_or-replicate, length-replicate, take-set-le, drop-set-lt, drop-set-add, take_min, take_more}
use Rattle.std.proofs.lemmas.List.Recursion.{max_bounds, max_least, max_push}
use native.Mathlib.Nat.{div-one}
use Rattle.rss_notes.specs.Maxima.{greatest, children, IsTree, StartsAt}

-- ---- the greatest of some numbers

pub greatest_more : (numbers : List ℕ) (i : ℕ) → i < length numbers → greatest (take (i + 1) numbers) ≡ max (greatest (take i numbers)) (get_or numbers i 0)
greatest_more numbers i within = ap greatest (take_more numbers i 0 within) ∙ max_push greatest (λ x. x) refl (λ _ _. refl) (take i numbers) (get_or numbers i 0)

-- the part of a list that has at most sixteen elements
pub group_is : (tree : List ℕ) (first end : ℕ) → first ≤ length tree → end ≡ min (length tree) (first + 16) → take (end - first) (drop first tree) ≡ take 16 (drop first tree)
group_is tree first end within is =
    let few : end - first ≡ min 16 (length (drop first tree)) = omega (arith, length-drop first tree) in
    ap (λ (n : ℕ). take n (drop first tree)) few ∙ take_min 16 (drop first tree)

-- ---- the numbers behind the maxima

pub numbers_long : (tree numbers : List ℕ) → 4368 ≤ length tree → drop 4368 tree ≡ numbers → length tree ≡ 4368 + length numbers
numbers_long tree numbers least view = omega (arith, length-drop 4368 tree, ap (λ (l : List ℕ). length l) view)

pub number_at : (tree numbers : List ℕ) (k : ℕ) → drop 4368 tree ≡ numbers → get_or numbers k 0 ≡ get_or tree (4368 + k) 0
number_at tree numbers k view = ap (λ (l : List ℕ). get_or l k 0) (sym view) ∙ get_or-drop 4368 tree k 0

-- ---- a tree of zeros

zero_at : (n i : ℕ) → get_or (replicate {A = ℕ} n 0) i 0 ≡ 0
zero_at n i = let zero : ℕ = 0 in elim (cases_lt i n) [
  | inl within ↦ get_or-replicate n i zero zero within
  | inr past ↦ get_or_past (replicate n 0) i 0 (omega (arith, length-replicate {A = ℕ} n 0))
]

pub zeros : (n : ℕ) → n ≤ 65536 → IsTree (replicate (4368 + n) 0)
zeros n few =
    let long = length-replicate {A = ℕ} (4368 + n) 0 in
    record {
      least = omega arith;
      most = omega arith;
      maxima = λ node within. zero_at (4368 + n) node ∙ sym (none node);
    }
  where
    child : (node i : ℕ) → i < 16 → get_or (children (replicate (4368 + n) 0) node) i 0 ≡ 0
    child node i within = get_or-take 16 (drop (16 * (node + 1)) (replicate (4368 + n) 0)) i 0 within ∙ get_or-drop (16 * (node + 1)) (replicate (4368 + n) 0) i 0 ∙ zero_at (4368 + n) (16 * (node + 1) + i)

    none : (node : ℕ) → greatest (children (replicate (4368 + n) 0) node) ≡ 0
    none node = omega (arith, max_least greatest (λ x. x) refl (λ _ _. refl) (children (replicate (4368 + n) 0) node) 0 0 (λ i within. omega (arith, child node i (omega (arith, length-take {A = ℕ} 16 (drop (16 * (node + 1)) (replicate (4368 + n) 0)))))))

-- ---- a number and the maxima above it

-- the number of a node is at most that of the node above
below : (tree : List ℕ) (node child : ℕ) → IsTree tree → node < 4368 → node + 1 ≡ child / 16 → child < length tree → get_or tree child 0 ≤ get_or tree node 0
below tree node child is within above there =
    let i : ℕ = child - 16 * (node + 1) in
    let few : i < 16 = omega arith in
    let at : get_or (children tree node) i 0 ≡ get_or tree (16 * (node + 1) + i) 0 = get_or-take 16 (drop (16 * (node + 1)) tree) i 0 few ∙ get_or-drop (16 * (node + 1)) tree i 0 in
    let place : 16 * (node + 1) + i ≡ child = omega arith in
    let same : get_or (children tree node) i 0 ≡ get_or tree child 0 = at ∙ ap (λ (n : ℕ). get_or tree n 0) place in
    let bound = max_bounds greatest (λ x. x) refl (λ _ _. refl) (children tree node) i 0 (omega (arith, length-take 16 (drop (16 * (node + 1)) tree), length-drop (16 * (node + 1)) tree)) in
    omega (arith, is.maxima node within)

-- each level has a node for each place
pub level_within : (bits start k n : ℕ) → StartsAt bits start → k < n → n ≤ 65536 → start + k / 2 ^ bits < 4368 + n
level_within bits start k n at within few = elim at [
  | inl p ↦ rw (p.0, p.1) (omega arith)
  | inr (inl p) ↦ rw (p.0, p.1) (omega arith)
  | inr (inr (inl p)) ↦ rw (p.0, p.1) (omega arith)
  | inr (inr (inr p)) ↦ rw (p.0, p.1) (omega arith)
]

-- and that node has at least the number of the place
pub level_bound : (tree : List ℕ) (bits start k : ℕ) → IsTree tree → StartsAt bits start → 4368 + k < length tree → get_or tree (4368 + k) 0 ≤ get_or tree (start + k / 2 ^ bits) 0
level_bound tree bits start k is at within =
    let few = is.most in
    let first : get_or tree (4368 + k) 0 ≤ get_or tree (272 + k / 16) 0 = below tree (272 + k / 16) (4368 + k) is (omega arith) (omega arith) within in
    let second : get_or tree (272 + k / 16) 0 ≤ get_or tree (16 + k / 256) 0 = below tree (16 + k / 256) (272 + k / 16) is (omega arith) (omega arith) (omega arith) in
    let third : get_or tree (16 + k / 256) 0 ≤ get_or tree (k / 4096) 0 = below tree (k / 4096) (16 + k / 256) is (omega arith) (omega arith) (omega arith) in
    elim at [
      | inl p ↦ rw (p.0, p.1) (subst (λ (n : ℕ). get_or tree (4368 + k) 0 ≤ get_or tree (4368 + n) 0) (sym (div-one k)) (omega arith))
      | inr (inl p) ↦ rw (p.0, p.1) first
      | inr (inr (inl p)) ↦ rw (p.0, p.1) (omega arith)
      | inr (inr (inr p)) ↦ rw (p.0, p.1, zero-add) (omega arith)
    ]

-- the lowest level has the numbers themselves
pub level_number : (bits start k : ℕ) → StartsAt bits start → bits ≡ 0 → start + k / 2 ^ bits ≡ 4368 + k
level_number bits start k at low = elim at [
  | inl p ↦ rw (p.0, p.1) (ap (λ (n : ℕ). 4368 + n) (div-one k))
  | inr (inl p) ↦ absurd (omega arith)
  | inr (inr (inl p)) ↦ absurd (omega arith)
  | inr (inr (inr p)) ↦ absurd (omega arith)
]

-- ---- a change

-- each maximum is the greatest of the numbers below it, but the one above this node
pub record IsTreeBut (tree : List ℕ) (node : ℕ) : Type 0 where
  pub least : 4368 ≤ length tree
  pub most : length tree ≤ 4368 + 65536
  pub maxima : (other : ℕ) → other < 4368 → other + 1 ≢ node / 16 → get_or tree other 0 ≡ greatest (children tree other)

-- a node is below no other one than that
children_set : (tree : List ℕ) (node other number : ℕ) → other + 1 ≢ node / 16 → children (set tree node number) other ≡ children tree other
children_set tree node other number apart = elim (cases_lt node (16 * (other + 1))) [
  | inl before ↦ ap (take 16) (drop-set-lt (16 * (other + 1)) tree node number before)
  | inr from ↦
      let i : ℕ = node - 16 * (other + 1) in
      let place : node ≡ 16 * (other + 1) + i = omega arith in
      ap (λ (n : ℕ). children (set tree n number) other) place ∙ ap (take 16) (drop-set-add (16 * (other + 1)) tree i number) ∙ take-set-le 16 (drop (16 * (other + 1)) tree) i number (omega (arith, apart))
]

pub tree_set : (tree : List ℕ) (node number : ℕ) → IsTree tree → 4368 ≤ node → IsTreeBut (set tree node number) node
tree_set tree node number is low =
    let long = length-set tree node number in
    record {
      least = omega (arith, is.least);
      most = omega (arith, is.most);
      maxima = λ other within apart. get_or-set_other tree node other number 0 (omega arith) ∙ is.maxima other within ∙ ap greatest (sym (children_set tree node other number apart));
    }

pub tree_more : (tree : List ℕ) (node above number : ℕ) → IsTreeBut tree node → above + 1 ≡ node / 16 → above < length tree → number ≡ greatest (children tree above) → IsTreeBut (set tree above number) above
tree_more tree node above number is up within spelled =
    let long = length-set tree above number in
    record {
      least = omega (arith, is.least);
      most = omega (arith, is.most);
      maxima = λ other small apart. elim (cases_eq other above) [
        | inl same ↦ subst (λ (n : ℕ). get_or (set tree above number) n 0 ≡ greatest (children (set tree above number) n)) (sym same) (get_or-set_same tree above number 0 within ∙ spelled ∙ ap greatest (sym (children_set tree above above number (omega arith))))
        | inr differ ↦ get_or-set_other tree above other number 0 differ ∙ is.maxima other small (omega (arith, differ)) ∙ ap greatest (sym (children_set tree above other number apart))
      ];
    }

-- ---- what a change leaves of the numbers

pub numbers_set : (tree numbers : List ℕ) (place number : ℕ) → drop 4368 tree ≡ numbers → drop 4368 (set tree (4368 + place) number) ≡ set numbers place number
numbers_set tree numbers place number view = drop-set-add 4368 tree place number ∙ ap (λ (l : List ℕ). set l place number) view

pub numbers_kept : (tree numbers : List ℕ) (node number : ℕ) → node < 4368 → drop 4368 tree ≡ numbers → drop 4368 (set tree node number) ≡ numbers
numbers_kept tree numbers node number above view = drop-set-lt 4368 tree node number above ∙ view
