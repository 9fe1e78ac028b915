-- A page of which the entries and their number are changed.
use Rattle.std.proofs.Common.{◌≡◌, inl, inr, ℕ, suc, zero, ◌+◌, ◌-◌, ◌*◌, ◌^◌, ◌<◌, ◌≤◌, List, [], ◌∷◌, ◌++◌, length, take, drop, get_or, refl, sym, ◌∙◌, ap, subst, arith, length-take-le, length-drop, length-append}
use Rattle.std.proofs.lemmas.List.{drop-append-le, drop-take, drop-drop, get_or-take, get_or-drop}
use Rattle.std.proofs.lemmas.Nat.{from_be_bytes-to_be_bytes_2}
use Rattle.std.proofs.Math.Nat.{mul-le-mul_right, div-mul-le_self}
use Rattle.std.specs.Int.{w16, w32, to_be_bytes, from_be_bytes}
use Rattle.rss_base.specs.Entries.{Entry}
use Rattle.rss_base.specs.Nodes.{node_most}
use Rattle.rss_node.specs.Nodes.{NodeView, part, put, entries_from, count_of, node_from, IsNodePage, IsOwnPage, spliced, with_entries}
use Rattle.rss_node.proofs.Codec.{length_entries}
use Rattle.rss_node.proofs.Parts.{before, part_kept, part_put, length-put, behind, low_append, low_take, low_drop, low_put, low_two, low_four}
use Rattle.rss_node.specs.Nodes.{IsBytes, AreSpelled}
use Rattle.std.proofs.lemmas.Nat.{from_be_bytes-to_be_bytes_4}
use Rattle.std.proofs.lemmas.List.{take-take, take-append-drop, get_or_past, length-take}
use Rattle.std.proofs.lemmas.Bool.{cases_lt}
use Rattle.std.proofs.Common.{⊎_elim}
use Rattle.std.proofs.lemmas.Nat.{be_bytes_4}
use Rattle.rss_node.specs.Nodes.{HasForm, Spells, IsNodeOf}
use Rattle.rss_node.specs.Nodes.{with_next, blank_node, header_bytes, AreNodes}
use Rattle.rss_node.specs.declared.pair.Nodes.{Nodes}
use Rattle.rss_node.proofs.Parts.{part_inside}
use Rattle.rss_node.proofs.Codec.{entries_spliced}

byte_part : (page : List ℕ) (i : ℕ) → get_or page i 0 ≡ get_or (part page i 1) 0 0
byte_part page i = ap (λ (n : ℕ). get_or page n 0) (omega arith) ∙ sym (get_or-drop i page 0 0) ∙ sym (get_or-take 1 (drop i page) 0 0 (omega arith))

header_low : (page : List ℕ) → IsBytes page → IsBytes (part page 3 13)
header_low page low = low_take 13 (drop 3 page) (low_drop 3 page low)

entries_low : (width count : ℕ) (bytes : List ℕ) → IsBytes bytes → AreSpelled width count bytes
entries_low width zero bytes low = tt
entries_low width (suc count) bytes low = (low_take 10 (drop width bytes) (low_drop width bytes low), entries_low width count (drop (width + 10) bytes) (low_drop (width + 10) bytes low))

page_low : (width : ℕ) (page : List ℕ) → IsBytes page → AreSpelled width (count_of page) (drop 32 page)
page_low width page low = entries_low width (count_of page) (drop 32 page) (low_drop 32 page low)

-- the parts of the header, but for the number of entries
pub record KeepsHeader (page page_now : List ℕ) : Type 0 where
  pub front : (from count : ℕ) → from + count ≤ 8 → part page_now from count ≡ part page from count
  pub back : (from count : ℕ) → 10 ≤ from → from + count ≤ 32 → part page_now from count ≡ part page from count

byte_kept : (page page_now : List ℕ) → KeepsHeader page page_now → (i : ℕ) → i < 8 → get_or page_now i 0 ≡ get_or page i 0
byte_kept page page_now kept i low = byte_part page_now i ∙ ap (λ (l : List ℕ). get_or l 0 0) (kept.front i 1 (omega arith)) ∙ sym (byte_part page i)

pub says_kept : (width : ℕ) (page page_now : List ℕ) → KeepsHeader page page_now → (entries : List Entry) → entries_from width (count_of page_now) (drop 32 page_now) ≡ entries → node_from width page_now ≡ with_entries (node_from width page) entries
says_kept width page page_now kept entries are =
    let segment = byte_kept page page_now kept 1 (omega arith) in
    let image = byte_kept page page_now kept 2 (omega arith) in
    let level = byte_kept page page_now kept 3 (omega arith) in
    let number : from_be_bytes w32 (part page_now 4 4) ≡ from_be_bytes w32 (part page 4 4) = ap (from_be_bytes w32) (kept.front 4 4 (omega arith)) in
    let next : from_be_bytes w32 (part page_now 12 4) ≡ from_be_bytes w32 (part page 12 4) = ap (from_be_bytes w32) (kept.back 12 4 (omega arith) (omega arith)) in
    λ i. record { width = width; segment = segment i; image = image i; level = level i; number = number i; next = next i; entries = are i }

pub formed_kept : (width : ℕ) (page page_now : List ℕ) → KeepsHeader page page_now → IsNodePage width page → IsBytes page_now → length page_now ≡ 4096 → count_of page_now ≤ node_most width → IsNodePage width page_now
formed_kept width page page_now kept formed bytes size few = record {
  header = header_low page_now bytes;
  entries = page_low width page_now bytes;
  wide = formed.wide;
  narrow = formed.narrow;
  size = size;
  mark = byte_kept page page_now kept 0 (omega arith) ∙ formed.mark;
  gap = kept.back 10 2 (omega arith) (omega arith) ∙ formed.gap;
  rest = kept.back 16 16 (omega arith) (omega arith) ∙ formed.rest;
  few = few;
}

-- so many entries have room
pub has_room : (width count : ℕ) → count ≤ node_most width → count * (width + 10) ≤ 4064
has_room width count few = omega (arith, mul-le-mul_right (width + 10) few, div-mul-le_self 4064 (width + 10))

-- a node has no more entries than that
pub few_entries : {width : ℕ} {page : List ℕ} {node : NodeView} → node_from width page ≡ node → IsOwnPage width page → length node.entries ≤ node_most width
few_entries {width = width} {page = page} is own =
    let long = sym (ap (λ (n : NodeView). length n.entries) is) ∙ length_entries width (count_of page) (drop 32 page) in
    rw long own.formed.few

-- entries lie in the page
pub entries_within : {width : ℕ} {page : List ℕ} {node : NodeView} (start count : ℕ) → node_from width page ≡ node → IsOwnPage width page → start + count ≤ length node.entries → 32 + start * (width + 10) + count * (width + 10) ≤ 4096
entries_within {width = width} start count is own there =
    let fits = has_room width (start + count) (omega (arith, few_entries is own, there)) in omega (arith, fits)

pub entry_within : {width : ℕ} {page : List ℕ} {node : NodeView} (at : ℕ) → node_from width page ≡ node → IsOwnPage width page → at < length node.entries → 32 + at * (width + 10) + (width + 10) ≤ 4096
entry_within at is own there = let fits = entries_within at 1 is own (omega (arith, there)) in omega (arith, fits)

pub grows : (width a b : ℕ) → a ≤ b → a * (width + 10) ≤ b * (width + 10)
grows width a b few = mul-le-mul_right (width + 10) few

-- the bytes that are put and moved: how many, and that they have room
pub moves : (width at removed old count long : ℕ) → at + removed ≤ old → old + count ≤ node_most width + removed → long ≡ count * (width + 10)
    → 32 + at * (width + 10) + (long + (32 + old * (width + 10) - (32 + (at + removed) * (width + 10)))) ≤ 4096
moves width at removed old count long within room many =
    let rest : ℕ = old - (at + removed) in
    let all : at + count + rest ≤ node_most width = omega arith in
    let few = has_room width (at + count + rest) all in
    let split : old * (width + 10) ≡ at * (width + 10) + removed * (width + 10) + rest * (width + 10) = ap (λ (n : ℕ). n * (width + 10)) (let is : old ≡ at + removed + rest = omega arith in is) ∙ omega arith in
    omega (arith, few, split)

-- the number of entries is written into a page whose header is that of another
pub counted : (width now : ℕ) (page moved front : List ℕ) → length page ≡ 4096 → length moved ≡ 4096 → ((from count : ℕ) → from + count ≤ 32 → part moved from count ≡ part page from count) → now < 2 ^ 16 → front ≡ put moved 8 (to_be_bytes w16 now)
    → KeepsHeader page front × (count_of front ≡ now) × (length front ≡ 4096) × (drop 32 front ≡ drop 32 moved)
counted width now page moved front size long same low is =
    let two : length (to_be_bytes w16 now) ≡ 2 = refl in (
      record {
        front = λ from count lt. ap (λ (l : List ℕ). part l from count) is ∙ part_kept moved 8 (to_be_bytes w16 now) from count (omega arith) (inl lt) ∙ same from count (omega arith);
        back = λ from count low lt. ap (λ (l : List ℕ). part l from count) is ∙ part_kept moved 8 (to_be_bytes w16 now) from count (omega arith) (inr low) ∙ same from count lt;
      },
      ap (λ (l : List ℕ). from_be_bytes w16 (part l 8 2)) is ∙ ap (from_be_bytes w16) (part_put moved 8 (to_be_bytes w16 now) (omega arith)) ∙ from_be_bytes-to_be_bytes_2 now low,
      ap length is ∙ length-put moved 8 (to_be_bytes w16 now) (omega arith) ∙ long,
      ap (λ (l : List ℕ). drop 32 l) is ∙ behind moved (take 8 moved ++ to_be_bytes w16 now) 10 32 (omega (arith, length-append (take 8 moved) (to_be_bytes w16 now), length-take-le 8 moved (omega arith))) (omega arith),
    )

pub record IsSpliced (width : ℕ) (page front : List ℕ) (at removed : ℕ) (news : List Entry) : Type 0 where
  pub formed : IsNodePage width front
  pub bytes : IsBytes front
  pub says : node_from width front ≡ with_entries (node_from width page) (spliced (node_from width page).entries at removed news)

pub spliced_page : (width at removed count now old : ℕ) (page bytes moved front : List ℕ) → IsNodePage width page → IsBytes page → old ≡ count_of page → at + removed ≤ old → IsBytes bytes → length bytes ≡ count * (width + 10) → old + count ≤ node_most width + removed
    → now + removed ≡ old + count
    → moved ≡ take (32 + at * (width + 10)) page ++ (bytes ++ (part page (32 + (at + removed) * (width + 10)) (32 + old * (width + 10) - (32 + (at + removed) * (width + 10))) ++ drop (32 + at * (width + 10) + (length bytes + (32 + old * (width + 10) - (32 + (at + removed) * (width + 10))))) page))
    → front ≡ put moved 8 (to_be_bytes w16 now)
    → IsSpliced width page front at removed (entries_from width count bytes)
spliced_page width at removed count now old page bytes moved front formed low_page old_is within low_bytes many room is_now is_moved is_front =
    let size : ℕ = width + 10 in
    let rest : ℕ = old - (at + removed) in
    let body : List ℕ = drop 32 page in
    let a : ℕ = 32 + at * size in
    let f : ℕ = 32 + (at + removed) * size in
    let span : ℕ = 32 + old * size - f in
    let junk : List ℕ = drop (a + (length bytes + span)) page in
    let r : List ℕ = bytes ++ (part page f span ++ junk) in
    let few : old ≤ node_most width = omega (arith, formed.few, old_is) in
    let fits = has_room width old few in
    let whole : at + removed + rest ≡ old = omega arith in
    let split : old * size ≡ at * size + removed * size + rest * size = let e : (at + removed + rest) * size ≡ old * size = ap (λ (n : ℕ). n * size) whole in omega (arith, e) in
    let moves_fit = moves width at removed old count (length bytes) within room many in
    let span_is : span ≡ rest * size = omega (arith, split) in
    let long : length page ≡ 4096 = formed.size in
    let a_low : a ≤ length page = omega (arith, split, fits) in
    let f_low : f + span ≤ length page = omega (arith, split, fits) in
    let part_long : length (part page f span) ≡ span = length-take-le span (drop f page) (omega (arith, length-drop f page)) in
    let moved_long : length moved ≡ 4096 = ap length is_moved ∙ omega (arith, length-append (take a page) r, length-append bytes (part page f span ++ junk), length-append (part page f span) junk, length-take-le a page a_low, length-drop (a + (length bytes + span)) page, part_long, moves_fit) in
    let same : (from count : ℕ) → from + count ≤ 32 → part moved from count ≡ part page from count = λ from count lt. ap (λ (l : List ℕ). part l from count) is_moved ∙ before page r a from count a_low (omega arith) in
    let now_low : now ≤ node_most width = omega (arith, is_now, room) in
    let low : now < 2 ^ 16 = omega (arith, has_room width now now_low) in
    let head = counted width now page moved front long moved_long same low is_front in
    let start : drop 32 moved ≡ take (at * size) body ++ r =
    ap (λ (l : List ℕ). drop 32 l) is_moved
    ∙ drop-append-le 32 (take a page) r (omega (arith, length-take-le a page a_low))
    ∙ ap (λ (l : List ℕ). l ++ r) (drop-take 32 (at * size) page) in
    let tail : part page f span ≡ take (rest * size) (drop ((at + removed) * size) body) =
    ap (λ (n : ℕ). take n (drop f page)) span_is
    ∙ ap (λ (l : List ℕ). take (rest * size) l) (sym (drop-drop ((at + removed) * size) 32 page)) in
    let many_now : now ≡ at + (count + rest) = omega (arith, is_now) in
    let low_moved : IsBytes moved = subst IsBytes (sym is_moved) (low_append (take a page) r (low_take a page low_page) (low_append bytes (part page f span ++ junk) low_bytes (low_append (part page f span) junk (low_take span (drop f page) (low_drop f page low_page)) (low_drop (a + (length bytes + span)) page low_page)))) in
    let low_front : IsBytes front = subst IsBytes (sym is_front) (low_put moved 8 (to_be_bytes w16 now) low_moved (low_two now)) in
    let news : List Entry = entries_from width count bytes in
    let entries : entries_from width (count_of front) (drop 32 front) ≡ spliced (entries_from width (count_of page) body) at removed news =
    ap (λ (n : ℕ). entries_from width n (drop 32 front)) (head.1 ∙ many_now)
    ∙ ap (λ (l : List ℕ). entries_from width (at + (count + rest)) l) (head.3 ∙ start ∙ ap (λ (l : List ℕ). take (at * size) body ++ (bytes ++ (l ++ junk))) tail)
    ∙ entries_spliced width at removed old count rest body bytes junk whole (omega (arith, length-drop 32 page, fits)) many
    ∙ ap (λ (n : ℕ). spliced (entries_from width n body) at removed news) old_is in
    record {
      formed = formed_kept width page front head.0 formed low_front head.2 (omega (arith, head.1, now_low));
      bytes = low_front;
      says = says_kept width page front head.0 (spliced (entries_from width (count_of page) body) at removed news) entries;
    }

-- ---- another next leaf

pub record IsRenexted (width next : ℕ) (page front : List ℕ) : Type 0 where
  pub formed : IsNodePage width front
  pub bytes : IsBytes front
  pub says : node_from width front ≡ with_next (node_from width page) next

pub next_page : (width next : ℕ) (page front : List ℕ) → IsNodePage width page → IsBytes page → next < 2 ^ 32 → front ≡ put page 12 (to_be_bytes w32 next) → IsRenexted width next page front
next_page width next page front formed low_page low is =
    let long : length page ≡ 4096 = formed.size in
    let be : List ℕ = to_be_bytes w32 next in
    let four : length be ≡ 4 = refl in
    let lower : (from count : ℕ) → from + count ≤ 12 → part front from count ≡ part page from count = λ from count lt. ap (λ (l : List ℕ). part l from count) is ∙ part_kept page 12 be from count (omega arith) (inl lt) in
    let upper : (from count : ℕ) → 16 ≤ from → part front from count ≡ part page from count = λ from count lt. ap (λ (l : List ℕ). part l from count) is ∙ part_kept page 12 be from count (omega arith) (inr lt) in
    let byte : (i : ℕ) → i < 8 → get_or front i 0 ≡ get_or page i 0 = λ i lt. byte_part front i ∙ ap (λ (l : List ℕ). get_or l 0 0) (lower i 1 (omega arith)) ∙ sym (byte_part page i) in
    let count : count_of front ≡ count_of page = ap (from_be_bytes w16) (lower 8 2 (omega arith)) in
    let rest : drop 32 front ≡ drop 32 page = ap (λ (l : List ℕ). drop 32 l) is ∙ behind page (take 12 page ++ be) 16 32 (omega (arith, length-append (take 12 page) be, length-take-le 12 page (omega arith))) (omega arith) in
    let number : from_be_bytes w32 (part front 4 4) ≡ from_be_bytes w32 (part page 4 4) = ap (from_be_bytes w32) (lower 4 4 (omega arith)) in
    let next_is : from_be_bytes w32 (part front 12 4) ≡ next = ap (λ (l : List ℕ). from_be_bytes w32 (part l 12 4)) is ∙ ap (from_be_bytes w32) (part_put page 12 be (omega arith)) ∙ from_be_bytes-to_be_bytes_4 next low in
    let entries : entries_from width (count_of front) (drop 32 front) ≡ entries_from width (count_of page) (drop 32 page) = λ i. entries_from width (count i) (rest i) in
    let segment = byte 1 (omega arith) in
    let image = byte 2 (omega arith) in
    let level = byte 3 (omega arith) in
    let low_front : IsBytes front = subst IsBytes (sym is) (low_put page 12 be low_page (low_four next)) in
    record {
      bytes = low_front;
      formed = record {
        header = header_low front low_front;
        entries = page_low width front low_front;
        wide = formed.wide;
        narrow = formed.narrow;
        size = ap length is ∙ length-put page 12 be (omega arith) ∙ long;
        mark = byte 0 (omega arith) ∙ formed.mark;
        gap = lower 10 2 (omega arith) ∙ formed.gap;
        rest = upper 16 16 (omega arith) ∙ formed.rest;
        few = omega (arith, count, formed.few);
      };
      says = λ i. record { width = width; segment = segment i; image = image i; level = level i; number = number i; next = next_is i; entries = entries i };
    }

-- ---- a node without entries

pub record IsBlank (of : Nodes) (level number : ℕ) (page : List ℕ) : Type 0 where
  pub formed : IsNodePage of.width page
  pub bytes : IsBytes page
  pub says : node_from of.width page ≡ blank_node of level number

pub blank_page : (of : Nodes) (level number : ℕ) (page front : List ℕ) → AreNodes of → number < 2 ^ 32 → length page ≡ 4096 → IsBytes page → IsBytes (header_bytes of level number) → front ≡ put page 0 (header_bytes of level number) → IsBlank of level number front
blank_page of level number page front wide low long zeros_low head_low is =
    let head : List ℕ = header_bytes of level number in
    let many : length head ≡ 32 = refl in
    let inside : (from count : ℕ) → from + count ≤ 32 → part front from count ≡ part head from count = λ from count lt. let start : from ≡ 0 + from = omega arith in ap (λ (l : List ℕ). part l from count) is ∙ ap (λ (n : ℕ). part (put page 0 head) n count) start ∙ part_inside page 0 head from count (omega arith) (omega arith) in
    let byte : (i : ℕ) → i < 8 → get_or front i 0 ≡ get_or head i 0 = λ i lt. byte_part front i ∙ ap (λ (l : List ℕ). get_or l 0 0) (inside i 1 (omega arith)) ∙ sym (byte_part head i) in
    let none : part front 8 2 ≡ part head 8 2 = inside 8 2 (omega arith) in
    let count : count_of front ≡ 0 = ap (from_be_bytes w16) none in
    let number_is : from_be_bytes w32 (part front 4 4) ≡ number = ap (from_be_bytes w32) (inside 4 4 (omega arith)) ∙ from_be_bytes-to_be_bytes_4 number low in
    let ones : part front 12 4 ≡ part head 12 4 = inside 12 4 (omega arith) in
    let next_is : from_be_bytes w32 (part front 12 4) ≡ 4294967295 = ap (from_be_bytes w32) ones in
    let entries : entries_from of.width (count_of front) (drop 32 front) ≡ [] = ap (λ (n : ℕ). entries_from of.width n (drop 32 front)) count in
    let segment = byte 1 (omega arith) in
    let image = byte 2 (omega arith) in
    let level_is = byte 3 (omega arith) in
    let low_front : IsBytes front = subst IsBytes (sym is) (low_put page 0 head zeros_low head_low) in
    record {
      bytes = low_front;
      formed = record {
        header = header_low front low_front;
        entries = page_low of.width front low_front;
        wide = wide.wide;
        narrow = wide.narrow;
        size = ap length is ∙ length-put page 0 head (omega arith) ∙ long;
        mark = byte 0 (omega arith);
        gap = inside 10 2 (omega arith);
        rest = inside 16 16 (omega arith);
        few = omega (arith, count);
      };
      says = λ i. record { width = of.width; segment = segment i; image = image i; level = level_is i; number = number_is i; next = next_is i; entries = entries i };
    }

-- ---- a page that is read

pub formed_read : (of : Nodes) (level number : ℕ) (page : List ℕ) → AreNodes of → IsBytes page → length page ≡ 4096 → HasForm of level number page → IsNodePage of.width page
formed_read of level number page wide low size form = record {
  header = header_low page low;
  entries = page_low of.width page low;
  wide = wide.wide;
  narrow = wide.narrow;
  size = size;
  mark = sym (get_or-take 8 page 0 0 (omega arith)) ∙ ap (λ (l : List ℕ). get_or l 0 0) form.front;
  gap = form.gap;
  rest = form.rest;
  few = form.few;
}

pub is_read : (of : Nodes) (level number : ℕ) (page : List ℕ) → number < 2 ^ 32 → HasForm of level number page → IsNodeOf of level number (node_from of.width page)
is_read of level number page low form = record {
  width = refl;
  segment = sym (get_or-take 8 page 1 0 (omega arith)) ∙ ap (λ (l : List ℕ). get_or l 1 0) form.front;
  image = sym (get_or-take 8 page 2 0 (omega arith)) ∙ ap (λ (l : List ℕ). get_or l 2 0) form.front;
  level_is = sym (get_or-take 8 page 3 0 (omega arith)) ∙ ap (λ (l : List ℕ). get_or l 3 0) form.front;
  number_is =
      let cut : drop 4 (take 8 page) ≡ part page 4 4 = drop-take 4 4 page in
      ap (from_be_bytes w32) (sym cut) ∙ ap (λ (l : List ℕ). from_be_bytes w32 (drop 4 l)) form.front ∙ from_be_bytes-to_be_bytes_4 number low;
}

pub four : (page : List ℕ) → 4 ≤ length page → take 4 page ≡ get_or page 0 0 ∷ get_or page 1 0 ∷ get_or page 2 0 ∷ get_or page 3 0 ∷ []
four [] long = absurd (omega arith)
four (a ∷ []) long = absurd (omega arith)
four (a ∷ b ∷ []) long = absurd (omega arith)
four (a ∷ b ∷ c ∷ []) long = absurd (omega arith)
four (a ∷ b ∷ c ∷ d ∷ rest) long = refl

pub part_low : (page : List ℕ) (from count i : ℕ) → ((i : ℕ) → get_or page i 0 < 256) → get_or (part page from count) i 0 < 256
part_low page from count i low = ⊎_elim
    (λ (lt : i < count). omega (arith, get_or-take count (drop from page) i 0 lt, get_or-drop from page i 0, low (from + i)))
    (λ (le : count ≤ i). omega (arith, get_or_past (part page from count) i 0 (omega (arith, length-take count (drop from page)))))
    (cases_lt i count)

ap_few : {a b w v : ℕ} → a ≡ b → w ≡ v → b ≤ node_most w → a ≤ node_most v
ap_few {a = a} {b = b} {w = w} {v = v} one two few = omega (arith, one, ap node_most two, few)

-- ill-formed bytes are no node's
pub not_read : (of : Nodes) (level number : ℕ) (page : List ℕ) → ((i : ℕ) → get_or page i 0 < 256) → (HasForm of level number page → ⊥) → (node : NodeView) → IsNodeOf of level number node → Spells page node → ⊥
not_read of level number page bytes never node is spells =
    let formed = spells.formed in
    let says = spells.says in
    let segment : get_or page 1 0 ≡ of.segment = ap (λ (n : NodeView). n.segment) says ∙ is.segment in
    let image : get_or page 2 0 ≡ of.image = ap (λ (n : NodeView). n.image) says ∙ is.image in
    let level_is : get_or page 3 0 ≡ level = ap (λ (n : NodeView). n.level) says ∙ is.level_is in
    let mark : get_or page 0 0 ≡ 3 = formed.mark in
    let number_is : number ≡ from_be_bytes w32 (part page 4 4) = sym (ap (λ (n : NodeView). n.number) says ∙ is.number_is) in
    let long : length page ≡ 4096 = formed.size in
    let cut : length (part page 4 4) ≡ 4 = length-take-le 4 (drop 4 page) (omega (arith, length-drop 4 page)) in
    let low : (i : ℕ) → get_or (part page 4 4) i 0 < 256 = λ i. part_low page 4 4 i bytes in
    let be : part page 4 4 ≡ to_be_bytes w32 number = sym (be_bytes_4 (part page 4 4) number cut low number_is) in
    let start : take 8 page ≡ take 4 page ++ part page 4 4 =
    sym (take-append-drop 4 (take 8 page)) ∙ (λ i. take-take 4 8 page (omega arith) i ++ drop-take 4 4 page i) in
    never (record {
      few = let same : count_of page ≡ count_of page = refl in ap_few same is.width formed.few;
      front = start ∙ (λ i. four page (omega arith) i ++ be i) ∙ (λ i. mark i ∷ segment i ∷ image i ∷ level_is i ∷ to_be_bytes w32 number);
      gap = formed.gap;
      rest = formed.rest;
    })

-- a page says one thing
pub says_one : (page : List ℕ) (a b : NodeView) → Spells page a → Spells page b → a.width ≡ b.width → a ≡ b
says_one page a b one two same = sym one.says ∙ ap (λ (w : ℕ). node_from w page) same ∙ two.says
