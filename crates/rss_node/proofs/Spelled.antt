-- A node page by the definition of the base spells a node.
use Rattle.std.proofs.Common.{◌≡◌, ℕ, suc, zero, ◌+◌, ◌-◌, ◌*◌, ◌^◌, ◌<◌, ◌≤◌, List, [], ◌∷◌, ◌++◌, length, take, drop, map, replicate, Option, Some, None, refl, sym, ◌∙◌, ap, subst, arith, length-append, append_assoc}
use Rattle.std.specs.Prelude.{flat_map, All, IfSome, slice_index}
use Rattle.std.specs.Int.{w16, w32, to_be_bytes, from_be_bytes}
use Rattle.std.proofs.lemmas.Nat.{from_be_bytes-to_be_bytes_2, from_be_bytes-to_be_bytes_4}
use Rattle.std.proofs.lemmas.List.{take-append-drop, take_at, drop_at}
use Rattle.std.proofs.lemmas.List.Elements.{All-head, All-tail}
use Rattle.rss_base.specs.LogRecords.{tid_bytes}
use Rattle.rss_base.specs.Nodes.{NodeEntry, Node, NodesOf, IsNodeEntry, node_entry_spelled, next_spelled, node_spelled, IsNodePage as IsBasePage}
use Rattle.rss_base.specs.Entries.{Entry}
use Rattle.rss_node.specs.Nodes.{part, entry_from, entries_from, count_of, IsBytes, AreSpelled, Spells}
use Rattle.rss_node.specs.Pairs.{pair_bytes, entry_of, next_number, view_of}
use Rattle.rss_node.proofs.Headers.{has_room}
use Rattle.rss_node.proofs.Parts.{low_append, low_two, low_four, low_zeros}

-- ---- entries

entry_long : (width : ℕ) (e : NodeEntry) → IsNodeEntry width e → length (node_entry_spelled e) ≡ width + 10
entry_long width e is =
    let ten : length (tid_bytes e.tid ++ to_be_bytes w32 e.child) ≡ 10 = refl in
    omega (arith, length-append e.key (tid_bytes e.tid ++ to_be_bytes w32 e.child), ten, is.key)

entry_read : (width : ℕ) (e : NodeEntry) (tail : List ℕ) → IsNodeEntry width e → entry_from width (node_entry_spelled e ++ tail) ≡ entry_of e
entry_read width e tail is =
    let child : List ℕ = to_be_bytes w32 e.child in
    let pair : List ℕ = pair_bytes e.key e.tid in
    let shape : node_entry_spelled e ++ tail ≡ pair ++ (child ++ tail) =
    append_assoc e.key (tid_bytes e.tid ++ child) tail
    ∙ ap (λ (l : List ℕ). e.key ++ l) (append_assoc (tid_bytes e.tid) child tail)
    ∙ sym (append_assoc e.key (tid_bytes e.tid) (child ++ tail)) in
    let six : length (tid_bytes e.tid) ≡ 6 = refl in
    let long : length pair ≡ width + 6 = omega (arith, length-append e.key (tid_bytes e.tid), six, is.key) in
    let front : take (width + 6) (node_entry_spelled e ++ tail) ≡ pair = ap (λ (l : List ℕ). take (width + 6) l) shape ∙ take_at pair (child ++ tail) (width + 6) long in
    let back : from_be_bytes w32 (part (node_entry_spelled e ++ tail) (width + 6) 4) ≡ e.child =
    ap (λ (l : List ℕ). from_be_bytes w32 (part l (width + 6) 4)) shape
    ∙ ap (λ (l : List ℕ). from_be_bytes w32 (take 4 l)) (drop_at pair (child ++ tail) (width + 6) long)
    ∙ ap (from_be_bytes w32) (take_at child tail 4 refl)
    ∙ from_be_bytes-to_be_bytes_4 e.child is.child in
    λ i. record { pair = front i; child = back i }

entries_read : (width : ℕ) (es : List NodeEntry) (rest : List ℕ) → All (IsNodeEntry width) es → entries_from width (length es) (flat_map node_entry_spelled es ++ rest) ≡ map entry_of es
entries_read width [] rest all = refl
entries_read width (e ∷ es) rest all =
    let is = All-head (IsNodeEntry width) e es all in
    let tail : List ℕ = flat_map node_entry_spelled es ++ rest in
    let behind : drop (width + 10) (node_entry_spelled e ++ tail) ≡ tail = drop_at (node_entry_spelled e) tail (width + 10) (entry_long width e is) in
    ap (λ (l : List ℕ). entries_from width (suc (length es)) l) (append_assoc (node_entry_spelled e) (flat_map node_entry_spelled es) rest)
    ∙ (λ i. entry_read width e tail is i ∷ entries_from width (length es) (behind i))
    ∙ ap (λ (l : List Entry). entry_of e ∷ l) (entries_read width es rest (All-tail (IsNodeEntry width) e es all))

entries_low : (width : ℕ) (es : List NodeEntry) (rest : List ℕ) → All (IsNodeEntry width) es → AreSpelled width (length es) (flat_map node_entry_spelled es ++ rest)
entries_low width [] rest all = tt
entries_low width (e ∷ es) rest all =
    let is = All-head (IsNodeEntry width) e es all in
    let tail : List ℕ = flat_map node_entry_spelled es ++ rest in
    let ten : List ℕ = tid_bytes e.tid ++ to_be_bytes w32 e.child in
    let whole : (e.key ++ ten) ++ tail ≡ e.key ++ (ten ++ tail) = append_assoc e.key ten tail in
    let back : drop width ((e.key ++ ten) ++ tail) ≡ ten ++ tail = ap (λ (l : List ℕ). drop width l) whole ∙ drop_at e.key (ten ++ tail) width is.key in
    let here : part ((e.key ++ ten) ++ tail) width 10 ≡ ten = ap (λ (l : List ℕ). take 10 l) back ∙ take_at ten tail 10 refl in
    let low : IsBytes ten = low_append (tid_bytes e.tid) (to_be_bytes w32 e.child) (low_append (to_be_bytes w32 e.tid.page) (to_be_bytes w16 e.tid.slot) (low_four e.tid.page) (low_two e.tid.slot)) (low_four e.child) in
    let behind : drop (width + 10) ((e.key ++ ten) ++ tail) ≡ tail = drop_at (node_entry_spelled e) tail (width + 10) (entry_long width e is) in
    let all_one : AreSpelled width (suc (length es)) ((e.key ++ ten) ++ tail) = (subst IsBytes (sym here) low, subst (AreSpelled width (length es)) (sym behind) (entries_low width es rest (All-tail (IsNodeEntry width) e es all))) in
    subst (AreSpelled width (suc (length es))) (sym (append_assoc (e.key ++ ten) (flat_map node_entry_spelled es) rest)) all_one

-- ---- the header

-- what stands where in a page
record Reads (of : NodesOf) (number level : ℕ) (next : Option ℕ) (entries : List NodeEntry) (rest page : List ℕ) : Type 0 where
  mark : slice_index page 0 ≡ 3
  segment : slice_index page 1 ≡ of.segment
  image : slice_index page 2 ≡ of.image
  level_is : slice_index page 3 ≡ level
  number_is : part page 4 4 ≡ to_be_bytes w32 number
  count : part page 8 2 ≡ to_be_bytes w16 (length entries)
  gap : part page 10 2 ≡ replicate 2 0
  header : part page 3 13 ≡ level ∷ (to_be_bytes w32 number ++ (to_be_bytes w16 (length entries) ++ 0 ∷ 0 ∷ next_spelled next))
  next_is : part page 12 4 ≡ next_spelled next
  zeros : part page 16 16 ≡ replicate 16 0
  body : drop 32 page ≡ flat_map node_entry_spelled entries ++ rest

reads : (of : NodesOf) (number level : ℕ) (next : Option ℕ) (entries : List NodeEntry) (rest : List ℕ) → Reads of number level next entries rest (node_spelled of number (record { level = level; next = next; entries = entries }) ++ rest)
reads of number level None entries rest = record { mark = refl; segment = refl; image = refl; level_is = refl; number_is = refl; count = refl; gap = refl; header = refl; next_is = refl; zeros = refl; body = refl }
reads of number level (Some next) entries rest = record { mark = refl; segment = refl; image = refl; level_is = refl; number_is = refl; count = refl; gap = refl; header = refl; next_is = refl; zeros = refl; body = refl }

low_next : (next : Option ℕ) → IsBytes (next_spelled next)
low_next None zero = omega arith
low_next None (suc zero) = omega arith
low_next None (suc (suc zero)) = omega arith
low_next None (suc (suc (suc zero))) = omega arith
low_next None (suc (suc (suc (suc i)))) = low_zeros 0 i
low_next (Some next) i = low_four next i

low_header : (level number count : ℕ) (next : Option ℕ) → level < 2 ^ 8 → IsBytes (level ∷ (to_be_bytes w32 number ++ (to_be_bytes w16 count ++ 0 ∷ 0 ∷ next_spelled next)))
low_header level number count next low zero = low
low_header level number count next low (suc i) =
    low_append (to_be_bytes w32 number) (to_be_bytes w16 count ++ 0 ∷ 0 ∷ next_spelled next) (low_four number)
    (low_append (to_be_bytes w16 count) (0 ∷ 0 ∷ next_spelled next) (low_two count) (low_append (0 ∷ 0 ∷ []) (next_spelled next) (low_zeros 2) (low_next next))) i

next_read : (next : Option ℕ) → IfSome next (λ n. n < 2 ^ 32 - 1) → from_be_bytes w32 (next_spelled next) ≡ next_number next
next_read None low = refl
next_read (Some next) low = from_be_bytes-to_be_bytes_4 next (omega (arith, low))

pub spelled_page : (of : NodesOf) (number : ℕ) (page : List ℕ) (node : Node) → 1 ≤ of.width → of.width ≤ 120 → number < 2 ^ 32 → IsBasePage of number page node → Spells page (view_of of number node)
spelled_page of number page node wide narrow low is =
    let spelled : List ℕ = node_spelled of number node in
    let rest : List ℕ = drop (length spelled) page in
    let whole : page ≡ spelled ++ rest = sym (take-append-drop (length spelled) page) ∙ ap (λ (l : List ℕ). l ++ rest) is.spelled in
    let r = subst (Reads of number node.level node.next node.entries rest) (sym whole) (reads of number node.level node.next node.entries rest) in
    let fits : length node.entries * (of.width + 10) ≤ 4064 = has_room of.width (length node.entries) is.few in
    let count : count_of page ≡ length node.entries = ap (from_be_bytes w16) r.count ∙ from_be_bytes-to_be_bytes_2 (length node.entries) (omega (arith, fits)) in
    let number_is : from_be_bytes w32 (part page 4 4) ≡ number = ap (from_be_bytes w32) r.number_is ∙ from_be_bytes-to_be_bytes_4 number low in
    let next_is : from_be_bytes w32 (part page 12 4) ≡ next_number node.next = ap (from_be_bytes w32) r.next_is ∙ next_read node.next is.next in
    let entries : entries_from of.width (count_of page) (drop 32 page) ≡ map entry_of node.entries = (λ i. entries_from of.width (count i) (r.body i)) ∙ entries_read of.width node.entries rest is.each in
    record {
      formed = record { header = subst IsBytes (sym r.header) (low_header node.level number (length node.entries) node.next is.level); entries = subst (AreSpelled of.width (count_of page)) (sym r.body) (subst (λ (n : ℕ). AreSpelled of.width n (flat_map node_entry_spelled node.entries ++ rest)) (sym count) (entries_low of.width node.entries rest is.each)); wide = wide; narrow = narrow; size = is.size; mark = r.mark; gap = r.gap; rest = r.zeros; few = omega (arith, count, is.few) };
      says = λ i. record { width = of.width; segment = r.segment i; image = r.image i; level = r.level_is i; number = number_is i; next = next_is i; entries = entries i };
    }
