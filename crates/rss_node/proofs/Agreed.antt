-- A page that spells a node is a node page by the definition of the base.
use Rattle.std.proofs.Common.{◌≡◌, ◌≢◌, ⊎_elim, ◌-◌, ℕ, suc, zero, ◌+◌, ◌*◌, ◌^◌, ◌<◌, ◌≤◌, List, [], ◌∷◌, ◌++◌, length, take, drop, map, get_or, replicate, Option, Some, None, false, ◌==◌, rules, refl, sym, ◌∙◌, ap, subst, arith, length-take-le, length-drop, append_assoc}
use Rattle.std.specs.Prelude.{flat_map, All}
use Rattle.std.specs.Int.{w16, w32, to_be_bytes, from_be_bytes}
use Rattle.std.proofs.lemmas.Nat.{be_bytes_2, be_bytes_4, from_be_bytes-to_be_bytes_2, from_be_bytes-to_be_bytes_4}
use Rattle.std.proofs.lemmas.List.{take-append-drop, take_at, drop_at, drop-drop, drop-take, take-take, append-nil, drop_all, get_or-take, get_or-drop}
use Rattle.rss_base.specs.Nodes.{node_entry_spelled}
use Rattle.rss_node.specs.Nodes.{part, entry_from, entries_from}
use Rattle.rss_base.specs.Tids.{IsSpelledTid}
use Rattle.rss_node.specs.Pairs.{IsWhole, pair_bytes, pair_from, key_from, tid_from, node_entry, next_from, base_node, nodes_of_node, HasSlot}
use Rattle.rss_node.proofs.Headers.{four, has_room}
use Rattle.rss_node.proofs.Parts.{low_drop, low_take}
use Rattle.rss_node.proofs.Codec.{length_entries}
use Rattle.rss_node.specs.Nodes.{NodeView, node_from, count_of, Spells, IsNodePage, IsBytes, AreSpelled}
use Rattle.rss_base.specs.Nodes.{NodesOf, IsNodeEntry, next_spelled, node_spelled, IsNodePage as IsBasePage}
use Rattle.std.specs.List.{AllByRecursion}
use Rattle.rss_base.specs.LogRecords.{tid_bytes}
use Rattle.rss_base.specs.Trees.{Pair, pair_cmp}
use Rattle.std.specs.Ordering.{nat_cmp}
use Rattle.std.specs.Cmp.Lexicographic.{slice_cmp}
use Rattle.rss_node.proofs.Ordered.{pairs_ordered}
use Rattle.std.specs.Prelude.{IfSome}
use Rattle.std.proofs.lemmas.Bool.{cases_eq, cond-false}
use Rattle.std.proofs.lemmas.List.{length-map}
use Rattle.std.proofs.lemmas.List.Elements.{All-nil, All-cons}

-- some bytes and those behind them
behind : (bytes : List ℕ) (at count : ℕ) → drop at bytes ≡ part bytes at count ++ drop (at + count) bytes
behind bytes at count = sym (take-append-drop count (drop at bytes)) ∙ ap (λ (l : List ℕ). part bytes at count ++ l) (drop-drop count at bytes)

-- a part of the front of bytes
front_part : (bytes : List ℕ) (size at count : ℕ) → at + count ≤ size → part (take size bytes) at count ≡ part bytes at count
front_part bytes size at count within =
    let more : at + (size - at) ≡ size = omega arith in
    ap (λ (n : ℕ). take count (drop at (take n bytes))) (sym more)
    ∙ ap (take count) (drop-take at (size - at) bytes)
    ∙ take-take count (size - at) (drop at bytes) (omega arith)

-- some of the bytes of a part
low_front : (bytes : List ℕ) (at size count : ℕ) → IsBytes (part bytes at size) → count ≤ size → IsBytes (part bytes at count)
low_front bytes at size count low few = subst IsBytes (take-take count size (drop at bytes) few) (low_take count (part bytes at size) low)

low_within : (bytes : List ℕ) (at size from count : ℕ) → IsBytes (part bytes at size) → from + count ≤ size → IsBytes (part bytes (at + from) count)
low_within bytes at size from count low few =
    subst IsBytes (front_part (drop at bytes) size from count few ∙ ap (λ (l : List ℕ). take count l) (drop-drop from at bytes)) (low_take count (drop from (part bytes at size)) (low_drop from (part bytes at size) low))

four_back : (bytes : List ℕ) (at : ℕ) → IsBytes (part bytes at 4) → at + 4 ≤ length bytes → to_be_bytes w32 (from_be_bytes w32 (part bytes at 4)) ≡ part bytes at 4
four_back bytes at low within = be_bytes_4 (part bytes at 4) (from_be_bytes w32 (part bytes at 4)) (length-take-le 4 (drop at bytes) (omega (arith, length-drop at bytes, within))) low refl

two_back : (bytes : List ℕ) (at : ℕ) → IsBytes (part bytes at 2) → at + 2 ≤ length bytes → to_be_bytes w16 (from_be_bytes w16 (part bytes at 2)) ≡ part bytes at 2
two_back bytes at low within = be_bytes_2 (part bytes at 2) (from_be_bytes w16 (part bytes at 2)) (length-take-le 2 (drop at bytes) (omega (arith, length-drop at bytes, within))) low refl

-- the entry at the front of bytes is what stands there
entry_back : (width : ℕ) (bytes : List ℕ) → IsBytes (part bytes width 10) → width + 10 ≤ length bytes → bytes ≡ node_entry_spelled (node_entry width (entry_from width bytes)) ++ drop (width + 10) bytes
entry_back width bytes low within =
    let key : take width (take (width + 6) bytes) ≡ take width bytes = take-take width (width + 6) bytes (omega arith) in
    let page_part : part (take (width + 6) bytes) width 4 ≡ part bytes width 4 = front_part bytes (width + 6) width 4 (omega arith) in
    let slot_part : part (take (width + 6) bytes) (width + 4) 2 ≡ part bytes (width + 4) 2 = front_part bytes (width + 6) (width + 4) 2 (omega arith) in
    let page : to_be_bytes w32 (from_be_bytes w32 (part (take (width + 6) bytes) width 4)) ≡ part bytes width 4 = ap (λ (l : List ℕ). to_be_bytes w32 (from_be_bytes w32 l)) page_part ∙ four_back bytes width (low_front bytes width 10 4 low (omega arith)) (omega arith) in
    let slot : to_be_bytes w16 (from_be_bytes w16 (part (take (width + 6) bytes) (width + 4) 2)) ≡ part bytes (width + 4) 2 = ap (λ (l : List ℕ). to_be_bytes w16 (from_be_bytes w16 l)) slot_part ∙ two_back bytes (width + 4) (low_within bytes width 10 4 2 low (omega arith)) (omega arith) in
    let child : to_be_bytes w32 (from_be_bytes w32 (part bytes (width + 6) 4)) ≡ part bytes (width + 6) 4 = four_back bytes (width + 6) (low_within bytes width 10 6 4 low (omega arith)) (omega arith) in
    let six : width + 4 + 2 ≡ width + 6 = omega arith in
    let ten : width + 6 + 4 ≡ width + 10 = omega arith in
    let rest : List ℕ = drop (width + 10) bytes in
    sym (take-append-drop width bytes)
    ∙ ap (λ (l : List ℕ). take width bytes ++ l) (behind bytes width 4)
    ∙ ap (λ (l : List ℕ). take width bytes ++ (part bytes width 4 ++ l)) (behind bytes (width + 4) 2 ∙ ap (λ (n : ℕ). part bytes (width + 4) 2 ++ drop n bytes) six)
    ∙ ap (λ (l : List ℕ). take width bytes ++ (part bytes width 4 ++ (part bytes (width + 4) 2 ++ l))) (behind bytes (width + 6) 4 ∙ ap (λ (n : ℕ). part bytes (width + 6) 4 ++ drop n bytes) ten)
    ∙ (λ i. sym key i ++ (sym page i ++ (sym slot i ++ (sym child i ++ rest))))
    ∙ joined (take width (take (width + 6) bytes)) (to_be_bytes w32 (from_be_bytes w32 (part (take (width + 6) bytes) width 4))) (to_be_bytes w16 (from_be_bytes w16 (part (take (width + 6) bytes) (width + 4) 2))) (to_be_bytes w32 (from_be_bytes w32 (part bytes (width + 6) 4))) rest
  where
    joined : (a b c d e : List ℕ) → a ++ (b ++ (c ++ (d ++ e))) ≡ (a ++ ((b ++ c) ++ d)) ++ e
    joined a b c d e =
        ap (λ (l : List ℕ). a ++ l) (ap (λ (l : List ℕ). b ++ l) (sym (append_assoc c d e)) ∙ sym (append_assoc b (c ++ d) e) ∙ ap (λ (l : List ℕ). l ++ e) (sym (append_assoc b c d)))
        ∙ sym (append_assoc a ((b ++ c) ++ d) e)

pub entries_back : (width count : ℕ) (bytes : List ℕ) → AreSpelled width count bytes → count * (width + 10) ≤ length bytes → bytes ≡ flat_map node_entry_spelled (map (node_entry width) (entries_from width count bytes)) ++ drop (count * (width + 10)) bytes
entries_back width zero bytes low within = let none : 0 ≡ 0 * (width + 10) = omega arith in ap (λ (n : ℕ). drop n bytes) none
entries_back width (suc count) bytes low within =
    let first : width + 10 ≤ length bytes = omega arith in
    let rest : List ℕ = drop (width + 10) bytes in
    let more = entries_back width count rest low.1 (omega (arith, length-drop (width + 10) bytes)) in
    let all : width + 10 + count * (width + 10) ≡ suc count * (width + 10) = omega arith in
    let spelled : List ℕ = flat_map node_entry_spelled (map (node_entry width) (entries_from width count rest)) in
    entry_back width bytes low.0 first
    ∙ ap (λ (l : List ℕ). node_entry_spelled (node_entry width (entry_from width bytes)) ++ l) (more ∙ ap (λ (l : List ℕ). spelled ++ l) (drop-drop (count * (width + 10)) (width + 10) bytes ∙ ap (λ (n : ℕ). drop n bytes) all))
    ∙ sym (append_assoc (node_entry_spelled (node_entry width (entry_from width bytes))) spelled (drop (suc count * (width + 10)) bytes))

-- ---- the header

-- four bytes make a number below 2 ^ 32, and two one below 2 ^ 16
four_low : (a b c d : ℕ) → a < 256 → b < 256 → c < 256 → d < 256 → a * 16777216 + b * 65536 + c * 256 + d < 2 ^ 32
four_low a b c d x y z w = omega arith

number_low : (bytes : List ℕ) → length bytes ≡ 4 → IsBytes bytes → from_be_bytes w32 bytes < 2 ^ 32
number_low [] long low = absurd (omega (arith, long))
number_low (a ∷ []) long low = absurd (omega (arith, long))
number_low (a ∷ b ∷ []) long low = absurd (omega (arith, long))
number_low (a ∷ b ∷ c ∷ []) long low = absurd (omega (arith, long))
number_low (a ∷ b ∷ c ∷ d ∷ []) long low = four_low a b c d (low 0) (low 1) (low 2) (low 3)
number_low (a ∷ b ∷ c ∷ d ∷ e ∷ rest) long low = absurd (omega (arith, long))

part_number : (page : List ℕ) (at : ℕ) → IsBytes (part page at 4) → at + 4 ≤ length page → from_be_bytes w32 (part page at 4) < 2 ^ 32
part_number page at low within = number_low (part page at 4) (length-take-le 4 (drop at page) (omega (arith, length-drop at page, within))) low

next_back : (next : ℕ) (bytes : List ℕ) → to_be_bytes w32 next ≡ bytes → next_spelled (next_from next) ≡ bytes
next_back next bytes is = ⊎_elim
    (λ (last : next ≡ 4294967295). ap (λ (n : ℕ). next_spelled (next_from n)) last ∙ ap (to_be_bytes w32) (sym last) ∙ is)
    (λ (other : next ≢ 4294967295). ap next_spelled (cond-false (next == 4294967295) None (Some next) (not_same next other)) ∙ is)
    (cases_eq next 4294967295)
  where
    not_same : (n : ℕ) → n ≢ 4294967295 → (n == 4294967295) ≡ false
    not_same n off = search rules

next_low : (next : ℕ) → next < 2 ^ 32 → IfSome (next_from next) (λ n. n < 2 ^ 32 - 1)
next_low next low = ⊎_elim
    (λ (last : next ≡ 4294967295). subst (λ (n : ℕ). IfSome (next_from n) (λ m. m < 2 ^ 32 - 1)) (sym last) tt)
    (λ (other : next ≢ 4294967295). subst (λ (o : Option ℕ). IfSome o (λ m. m < 2 ^ 32 - 1)) (sym (cond-false (next == 4294967295) None (Some next) (search rules))) (omega (arith, low, other)))
    (cases_eq next 4294967295)

-- ---- a page

module _ (width : ℕ) (page : List ℕ) (formed : IsNodePage width page) where
  abbrev said : NodeView
  said = node_from width page

  abbrev whose : NodesOf
  whose = nodes_of_node said

  size : length page ≡ 4096
  size = formed.size

  entries_long : length said.entries ≡ count_of page
  entries_long = length_entries width (count_of page) (drop 32 page)

  count_spelled : to_be_bytes w16 (length (map (node_entry width) said.entries)) ≡ part page 8 2
  count_spelled = ap (to_be_bytes w16) (length-map said.entries (node_entry width) ∙ entries_long) ∙ two_back page 8 (low_within page 3 13 5 2 formed.header (omega arith)) (omega (arith, size))

  -- what stands behind the entries
  abbrev rest : List ℕ
  rest = drop (count_of page * (width + 10)) (drop 32 page)

  page_back : page ≡ node_spelled whose said.number (base_node said) ++ rest
  page_back =
      let count : count_of page * (width + 10) ≤ 4064 = has_room width (count_of page) formed.few in
      let fits : count_of page * (width + 10) ≤ length (drop 32 page) = omega (arith, count, length-drop 32 page, size) in
      let spelled : List ℕ = flat_map node_entry_spelled (map (node_entry width) said.entries) in
      let entries : drop 32 page ≡ spelled ++ rest = entries_back width (count_of page) (drop 32 page) formed.entries fits in
      let number = four_back page 4 (low_within page 3 13 1 4 formed.header (omega arith)) (omega (arith, size)) in
      let next = next_back said.next (part page 12 4) (four_back page 12 (low_within page 3 13 9 4 formed.header (omega arith)) (omega (arith, size))) in
      sym (take-append-drop 4 page)
      ∙ (λ i. four page (omega (arith, size)) i ++ drop 4 page)
      ∙ ap (λ (b : ℕ). b ∷ get_or page 1 0 ∷ get_or page 2 0 ∷ get_or page 3 0 ∷ drop 4 page) formed.mark
      ∙ ap (λ (l : List ℕ). 3 ∷ get_or page 1 0 ∷ get_or page 2 0 ∷ get_or page 3 0 ∷ l)
      (behind page 4 4
      ∙ ap (λ (l : List ℕ). part page 4 4 ++ l) (behind page 8 2
      ∙ ap (λ (l : List ℕ). part page 8 2 ++ l) (behind page 10 2
      ∙ ap (λ (l : List ℕ). part page 10 2 ++ l) (behind page 12 4
      ∙ ap (λ (l : List ℕ). part page 12 4 ++ l) (behind page 16 16
      ∙ ap (λ (l : List ℕ). part page 16 16 ++ l) entries)))))
      ∙ (λ i. 3 ∷ get_or page 1 0 ∷ get_or page 2 0 ∷ get_or page 3 0 ∷ (sym number i ++ (sym count_spelled i ++ (formed.gap i ++ (sym next i ++ (formed.rest i ++ (spelled ++ rest)))))))
      ∙ ap (λ (l : List ℕ). 3 ∷ get_or page 1 0 ∷ get_or page 2 0 ∷ get_or page 3 0 ∷ l) (regroup (to_be_bytes w32 said.number) (to_be_bytes w16 (length (map (node_entry width) said.entries))) (next_spelled (next_from said.next)) (replicate 16 0) spelled rest)
    where
      regroup : (a b c d e f : List ℕ) → a ++ (b ++ (0 ∷ 0 ∷ (c ++ (d ++ (e ++ f))))) ≡ (a ++ (b ++ 0 ∷ 0 ∷ (c ++ (d ++ e)))) ++ f
      regroup a b c d e f =
          ap (λ (l : List ℕ). a ++ (b ++ 0 ∷ 0 ∷ l)) (ap (λ (l : List ℕ). c ++ l) (sym (append_assoc d e f)) ∙ sym (append_assoc c (d ++ e) f))
          ∙ ap (λ (l : List ℕ). a ++ l) (sym (append_assoc b (0 ∷ 0 ∷ (c ++ (d ++ e))) f))
          ∙ sym (append_assoc a (b ++ 0 ∷ 0 ∷ (c ++ (d ++ e))) f)

  entry_at_front : (bytes : List ℕ) → IsBytes (part bytes width 10) → width + 10 ≤ length bytes → HasSlot width (entry_from width bytes) → IsNodeEntry width (node_entry width (entry_from width bytes))
  entry_at_front bytes few within slot = record {
    key = length-take-le width (take (width + 6) bytes) (omega (arith, length-take-le (width + 6) bytes (omega (arith, within))));
    page = subst (λ (l : List ℕ). from_be_bytes w32 l < 2 ^ 32) (sym (front_part bytes (width + 6) width 4 (omega arith))) (part_number bytes width (low_front bytes width 10 4 few (omega arith)) (omega (arith, within)));
    slot = slot;
    child = part_number bytes (width + 6) (low_within bytes width 10 6 4 few (omega arith)) (omega (arith, within));
  }

  each_entry : (count : ℕ) (bytes : List ℕ) → AreSpelled width count bytes → count * (width + 10) ≤ length bytes → AllByRecursion (HasSlot width) (entries_from width count bytes) → All (IsNodeEntry width) (map (node_entry width) (entries_from width count bytes))
  each_entry zero bytes few within slots = All-nil (IsNodeEntry width)
  each_entry (suc count) bytes few within slots =
      let first : width + 10 ≤ length bytes = omega arith in
      All-cons (IsNodeEntry width) (node_entry width (entry_from width bytes)) (map (node_entry width) (entries_from width count (drop (width + 10) bytes))) (entry_at_front bytes few.0 first slots.0)
      (each_entry count (drop (width + 10) bytes) few.1 (omega (arith, length-drop (width + 10) bytes)) slots.1)

  pub is_base_page : AllByRecursion (HasSlot width) said.entries → IsBasePage whose said.number page (base_node said)
  is_base_page slots =
      let spelled : List ℕ = node_spelled whose said.number (base_node said) in
      let count : count_of page * (width + 10) ≤ 4064 = has_room width (count_of page) formed.few in
      record {
        size = formed.size;
        spelled = ap (take (length spelled)) page_back ∙ take_front spelled rest;
        few = omega (arith, length-map said.entries (node_entry width), entries_long, formed.few);
        each = each_entry (count_of page) (drop 32 page) formed.entries (omega (arith, count, length-drop 32 page, size)) slots;
        level = omega (arith, get_or-take 13 (drop 3 page) 0 0 (omega arith), get_or-drop 3 page 0 0, formed.header 0);
        next = next_low said.next (part_number page 12 (low_within page 3 13 9 4 formed.header (omega arith)) (omega (arith, size)));
      }
    where
      take_front : (xs ys : List ℕ) → take (length xs) (xs ++ ys) ≡ xs
      take_front [] ys = refl
      take_front (x ∷ xs) ys = ap (λ (l : List ℕ). x ∷ l) (take_front xs ys)

pub base_page : (page : List ℕ) (node : NodeView) → Spells page node → AllByRecursion (HasSlot node.width) node.entries → IsBasePage (nodes_of_node node) node.number page (base_node node)
base_page page node spells slots =
    subst (λ (n : NodeView). IsBasePage (nodes_of_node n) n.number page (base_node n)) spells.says
    (is_base_page node.width page spells.formed (subst (λ (n : NodeView). AllByRecursion (HasSlot node.width) n.entries) (sym spells.says) slots))

-- ---- pairs

whole_entries : (width count : ℕ) (bytes : List ℕ) → AreSpelled width count bytes → count * (width + 10) ≤ length bytes → AllByRecursion (λ e. IsWhole width e.pair) (entries_from width count bytes)
whole_entries width zero bytes low within = tt
whole_entries width (suc count) bytes low within = (
  record { long = length-take-le (width + 6) bytes (omega (arith, within)); bytes = subst IsBytes (sym (front_part bytes (width + 6) width 6 (omega arith))) (low_front bytes width 10 6 low.0 (omega arith)) },
  whole_entries width count (drop (width + 10) bytes) low.1 (omega (arith, length-drop (width + 10) bytes)),
)

-- the pairs of a node's entries are whole
pub whole_page : (page : List ℕ) (node : NodeView) → Spells page node → AllByRecursion (λ e. IsWhole node.width e.pair) node.entries
whole_page page node spells =
    let formed = spells.formed in
    let count : count_of page * (node.width + 10) ≤ 4064 = has_room node.width (count_of page) formed.few in
    subst (λ (n : NodeView). AllByRecursion (λ e. IsWhole node.width e.pair) n.entries) spells.says
    (whole_entries node.width (count_of page) (drop 32 page) formed.entries (omega (arith, count, length-drop 32 page, formed.size)))

-- a pair is the bytes of its key and of its identifier
pub pair_back : (width : ℕ) (pair : List ℕ) → IsWhole width pair → pair_bytes (key_from width pair) (tid_from width pair) ≡ pair
pair_back width pair whole =
    let page = four_back pair width (low_front pair width 6 4 whole.bytes (omega arith)) (omega (arith, whole.long)) in
    let slot = two_back pair (width + 4) (low_within pair width 6 4 2 whole.bytes (omega arith)) (omega (arith, whole.long)) in
    let none : drop (width + 4 + 2) pair ≡ [] = drop_all (width + 4 + 2) pair (omega (arith, whole.long)) in
    let last : drop (width + 4) pair ≡ part pair (width + 4) 2 = behind pair (width + 4) 2 ∙ ap (λ (l : List ℕ). part pair (width + 4) 2 ++ l) none ∙ append-nil (part pair (width + 4) 2) in
    (λ i. take width pair ++ (page i ++ slot i))
    ∙ ap (λ (l : List ℕ). take width pair ++ (part pair width 4 ++ l)) (sym last)
    ∙ ap (λ (l : List ℕ). take width pair ++ l) (sym (behind pair width 4))
    ∙ take-append-drop width pair

-- the bytes of a key and of an identifier say these
pub pair_said : (width : ℕ) (pair : Pair) → length pair.key ≡ width → IsSpelledTid pair.tid → pair_from width (pair_bytes pair.key pair.tid) ≡ pair
pair_said width pair long spelled =
    let key : List ℕ = pair.key in
    let tid : List ℕ = tid_bytes pair.tid in
    let front : take width (key ++ tid) ≡ key = take_at key tid width long in
    let back : drop width (key ++ tid) ≡ tid = drop_at key tid width long in
    let page : from_be_bytes w32 (take 4 (drop width (key ++ tid))) ≡ pair.tid.page =
    ap (λ (l : List ℕ). from_be_bytes w32 (take 4 l)) back ∙ from_be_bytes-to_be_bytes_4 pair.tid.page spelled.page in
    let slot : from_be_bytes w16 (take 2 (drop (width + 4) (key ++ tid))) ≡ pair.tid.slot =
    ap (λ (l : List ℕ). from_be_bytes w16 (take 2 l)) (sym (drop-drop 4 width (key ++ tid)) ∙ ap (drop 4) back) ∙ from_be_bytes-to_be_bytes_2 pair.tid.slot spelled.slot in
    λ i. record { key = front i; tid = record { page = page i; slot = slot i } }

pub tid_spelled : (width : ℕ) (pair : List ℕ) → IsWhole width pair → IsSpelledTid (tid_from width pair)
tid_spelled width pair whole = record {
  page = part_number pair width (low_front pair width 6 4 whole.bytes (omega arith)) (omega (arith, whole.long));
  slot = short_number (part pair (width + 4) 2) (length-take-le 2 (drop (width + 4) pair) (omega (arith, length-drop (width + 4) pair, whole.long))) (low_within pair width 6 4 2 whole.bytes (omega arith));
}
  where
    two_low : (a b : ℕ) → a < 256 → b < 256 → a * 256 + b < 2 ^ 16
    two_low a b x y = omega arith

    short_number : (bytes : List ℕ) → length bytes ≡ 2 → IsBytes bytes → from_be_bytes w16 bytes < 2 ^ 16
    short_number [] long low = absurd (omega (arith, long))
    short_number (a ∷ []) long low = absurd (omega (arith, long))
    short_number (a ∷ b ∷ []) long low = two_low a b (low 0) (low 1)
    short_number (a ∷ b ∷ c ∷ rest) long low = absurd (omega (arith, long))

-- whole pairs are ordered by their bytes as by their keys, and then by their identifiers
pub whole_cmp : (width : ℕ) (a b : List ℕ) → IsWhole width a → IsWhole width b → slice_cmp nat_cmp a b ≡ pair_cmp (pair_from width a) (pair_from width b)
whole_cmp width a b one two =
    (λ i. slice_cmp nat_cmp (sym (pair_back width a one) i) (sym (pair_back width b two) i))
    ∙ pairs_ordered (pair_from width a) (pair_from width b) (key_long a one ∙ sym (key_long b two)) (tid_spelled width a one) (tid_spelled width b two)
  where
    key_long : (pair : List ℕ) → IsWhole width pair → length (take width pair) ≡ width
    key_long pair whole = length-take-le width pair (omega (arith, whole.long))
