-- How many bytes a link has in the catalog, and what those bytes read as.
use Rattle.std.proofs.Common.{◌≡◌, ℕ, ◌+◌, ◌-◌, false, List, [], ◌∷◌, ◌++◌, length, take, drop, get_or, replicate, Option, Some, None, refl, ◌∙◌, ap, arith, length-append}
use Rattle.std.specs.Prelude.{◌==◌, ◌&&◌, IfSome}
use Rattle.std.specs.Int.{w16, w32, from_be_bytes}
use Rattle.std.proofs.lemmas.Nat.{from_be_bytes-to_be_bytes_2, from_be_bytes-to_be_bytes_4}
use Rattle.std.proofs.lemmas.Bool.{cond-false, and_parts, eqb-true, false_from_ne_true}
use Rattle.std.proofs.lemmas.List.{take_at, drop_at, append_assoc, length-replicate, get_or_append_left, get_or-append-add}
use Rattle.std.proofs.Math.Seq.{drop-append-add}
use Rattle.rss_base.specs.Names.{IsName}
use Rattle.rss_base.specs.LogRecords.{place_bytes}
use Rattle.rss_base.specs.Listings.{Listing, LinkFits, link_spelled, parent_spelled, flag_byte}
use Rattle.rss_base.specs.declared.link.LinkEntry.{LinkEntry}
use Rattle.rss_base.specs.declared.tid.Tid.{Tid}
use Rattle.rss_catalog.specs.Defined.{endless, IsInBytes, IsEnded}
use Rattle.rss_catalog.specs.Reading.{parent_of, tid_of, place_of, link_entry_of, link_of}
use Rattle.rss_catalog.proofs.Spelled.{name_long, name_begins, behind, drop_behind}
use Rattle.rss_catalog.proofs.Imaged.{flag_back}

-- a link as far as it is spelled
pub record IsTied (link : LinkEntry) : Type 0 where
  pub name : IsName link.name
  pub ended : IsEnded link

abbrev pub AreTied : Option LinkEntry → Type 0
AreTied link = (entry : LinkEntry) → link ≡ Some entry → IsTied entry

-- ---- the parts of a link

pub place_long : (place : Option Tid) → length (place_bytes place) ≡ 6
place_long None = refl
place_long (Some tid) = refl

-- no identifier in six bytes has the bytes of none
not_none : (tid : Tid) → IsInBytes tid → ((tid.page == 4294967295) && (tid.slot == 65535)) ≡ false
not_none tid is = false_from_ne_true _ (λ both.
    let parts = and_parts (tid.page == 4294967295) (tid.slot == 65535) both in
    is.some (λ i. record { page = eqb-true tid.page 4294967295 parts.0 i; slot = eqb-true tid.slot 65535 parts.1 i }))

place_back : (place : Option Tid) → IfSome place IsInBytes → place_of (place_bytes place) ≡ place
place_back None is = refl
place_back (Some tid) is =
    let page : from_be_bytes w32 (take 4 (place_bytes (Some tid))) ≡ tid.page = from_be_bytes-to_be_bytes_4 tid.page is.page in
    let slot : from_be_bytes w16 (take 2 (drop 4 (place_bytes (Some tid)))) ≡ tid.slot = from_be_bytes-to_be_bytes_2 tid.slot is.slot in
    (λ i. tid_of (page i) (slot i)) ∙ cond-false ((tid.page == 4294967295) && (tid.slot == 65535)) None (Some tid) (not_none tid is)

parent_long : (parent : Option ℕ) → length (parent_spelled parent) ≡ 2
parent_long None = refl
parent_long (Some number) = refl

parent_back : (parent : Option ℕ) (rest : List ℕ) → parent_of (get_or (parent_spelled parent ++ rest) 0 0) (get_or (parent_spelled parent ++ rest) 1 0) ≡ parent
parent_back None rest = refl
parent_back (Some number) rest = refl

-- what stands behind the parent
past_parent : (parent : Option ℕ) (rest : List ℕ) (k : ℕ) → get_or (parent_spelled parent ++ rest) (2 + k) 0 ≡ get_or rest k 0
past_parent parent rest k = ap (λ (n : ℕ). get_or (parent_spelled parent ++ rest) n 0) (omega (arith, parent_long parent)) ∙ get_or-append-add (parent_spelled parent) rest k 0

drop_parent : (parent : Option ℕ) (rest : List ℕ) (k : ℕ) → drop (2 + k) (parent_spelled parent ++ rest) ≡ drop k rest
drop_parent parent rest k = ap (λ (n : ℕ). drop n (parent_spelled parent ++ rest)) (omega (arith, parent_long parent)) ∙ drop-append-add (parent_spelled parent) rest k

-- ---- a link

-- what is spelled in front of the zeros
abbrev head_of : LinkEntry → List ℕ
head_of link =
    link.name.bytes ++ parent_spelled link.parent ++ link.child ∷ flag_byte link.late ∷ []
    ++ place_bytes link.first ++ place_bytes link.last

head_long : (link : LinkEntry) → length link.name.bytes ≡ 16 → length (head_of link) ≡ 32
head_long link name =
    let two : List ℕ = link.child ∷ flag_byte link.late ∷ [] in
    length-append (link.name.bytes ++ parent_spelled link.parent ++ two ++ place_bytes link.first) (place_bytes link.last)
    ∙ omega (arith, length-append (link.name.bytes ++ parent_spelled link.parent ++ two) (place_bytes link.first), length-append (link.name.bytes ++ parent_spelled link.parent) two, length-append link.name.bytes (parent_spelled link.parent), name, parent_long link.parent, place_long link.first, place_long link.last)

pub link_long : (link : Option LinkEntry) → AreTied link → length (link_spelled link) ≡ 64
link_long None is = refl
link_long (Some entry) is =
    let long = head_long entry (name_long entry.name (is entry refl).name) in
    length-append (head_of entry) (replicate (64 - length (head_of entry)) 0)
    ∙ omega (arith, long, length-replicate {A = ℕ} (64 - length (head_of entry)) 0)

-- parts in a row, from the first on
regroup : (a b c d e f : List ℕ) → ((((a ++ b) ++ c) ++ d) ++ e) ++ f ≡ a ++ (b ++ (c ++ (d ++ (e ++ f))))
regroup a b c d e f = simp append_assoc

-- what stands behind the name
abbrev tail_of : LinkEntry → List ℕ
tail_of entry =
    parent_spelled entry.parent ++ (entry.child ∷ flag_byte entry.late ∷ (place_bytes entry.first ++ (place_bytes entry.last ++ replicate (64 - length (head_of entry)) 0)))

whole_of : (entry : LinkEntry) → link_spelled (Some entry) ≡ entry.name.bytes ++ tail_of entry
whole_of entry = regroup entry.name.bytes (parent_spelled entry.parent) (entry.child ∷ flag_byte entry.late ∷ []) (place_bytes entry.first) (place_bytes entry.last) (replicate (64 - length (head_of entry)) 0)

entry_back : (entry : LinkEntry) → IsTied entry → link_entry_of (link_spelled (Some entry)) ≡ entry
entry_back entry tied =
    let name = entry.name.bytes in
    let long = name_long entry.name tied.name in
    let zeros : List ℕ = replicate (64 - length (head_of entry)) 0 in
    let last : List ℕ = place_bytes entry.last ++ zeros in
    let first : List ℕ = place_bytes entry.first ++ last in
    let rest : List ℕ = entry.child ∷ flag_byte entry.late ∷ first in
    let tail = tail_of entry in
    let parent : parent_of (get_or (name ++ tail) 16 0) (get_or (name ++ tail) 17 0) ≡ entry.parent = (λ i. parent_of (behind name tail 16 0 long refl i) (behind name tail 17 1 long refl i)) ∙ parent_back entry.parent rest in
    let child : get_or (name ++ tail) 18 0 ≡ entry.child = behind name tail 18 2 long refl ∙ past_parent entry.parent rest 0 in
    let late : (get_or (name ++ tail) 19 0 == 1) ≡ entry.late = ap (λ (n : ℕ). n == 1) (behind name tail 19 3 long refl ∙ past_parent entry.parent rest 1) ∙ flag_back entry.late in
    let at_first : drop 20 (name ++ tail) ≡ first = drop_behind name tail 20 4 long refl ∙ drop_parent entry.parent rest 2 in
    let at_last : drop 26 (name ++ tail) ≡ last = drop_behind name tail 26 10 long refl ∙ drop_parent entry.parent rest 8 ∙ drop_at (place_bytes entry.first) last 6 (place_long entry.first) in
    let one : place_of (take 6 (drop 20 (name ++ tail))) ≡ entry.first = ap (λ (l : List ℕ). place_of (take 6 l)) at_first ∙ ap place_of (take_at (place_bytes entry.first) last 6 (place_long entry.first)) ∙ place_back entry.first tied.ended.first in
    let two : place_of (take 6 (drop 26 (name ++ tail))) ≡ entry.last = ap (λ (l : List ℕ). place_of (take 6 l)) at_last ∙ ap place_of (take_at (place_bytes entry.last) zeros 6 (place_long entry.last)) ∙ place_back entry.last tied.ended.last in
    ap link_entry_of (whole_of entry)
    ∙ (λ i. record { name = record { bytes = take_at name tail 16 long i }; parent = parent i; child = child i; late = late i; first = one i; last = two i })

-- a link begins with its name
first_of : (entry : LinkEntry) → IsTied entry → (get_or (link_spelled (Some entry)) 0 0 == 0) ≡ false
first_of entry tied =
    let name = entry.name.bytes in
    let long = name_long entry.name tied.name in
    ap (λ (b : ℕ). b == 0) (ap (λ (l : List ℕ). get_or l 0 0) (whole_of entry) ∙ get_or_append_left name (tail_of entry) 0 0 (omega (arith, long))) ∙ name_begins entry.name tied.name

pub link_back : (link : Option LinkEntry) → AreTied link → link_of (link_spelled link) ≡ link
link_back None is = refl
link_back (Some entry) is =
    let tied = is entry refl in
    let bytes = link_spelled (Some entry) in
    let first : (get_or bytes 0 0 == 0) ≡ false = first_of entry tied in
    cond-false (get_or bytes 0 0 == 0) None (Some (link_entry_of bytes)) first ∙ ap Some (entry_back entry tied)

-- the parts of a link, put one behind another
pub put_link : (link : LinkEntry) (old one two three four five new : List ℕ) (flag : ℕ) → one ≡ old ++ link.name.bytes → two ≡ one ++ parent_spelled link.parent → flag ≡ flag_byte link.late → three ≡ two ++ link.child ∷ flag ∷ [] → four ≡ three ++ place_bytes link.first → five ≡ four ++ place_bytes link.last → new ≡ five ++ replicate 32 0
    → length link.name.bytes ≡ 16 → new ≡ old ++ link_spelled (Some link)
put_link link old one two three four five new flag now_one now_two same now_three now_four now_five now name =
    let zeros : 32 ≡ 64 - length (head_of link) = omega (arith, head_long link name) in
    now ∙ ap (λ (l : List ℕ). l ++ replicate 32 0) (now_five ∙ ap (λ (l : List ℕ). l ++ place_bytes link.last) (now_four ∙ ap (λ (l : List ℕ). l ++ place_bytes link.first) (now_three ∙ ap (λ (l : List ℕ). l ++ link.child ∷ flag ∷ []) now_two)))
    ∙ (λ i. (((((now_one i ++ parent_spelled link.parent) ++ link.child ∷ same i ∷ []) ++ place_bytes link.first) ++ place_bytes link.last) ++ replicate (zeros i) 0)) ∙ simp append_assoc

-- a link that may be listed is one
pub tied_of : (listing : Listing) (link : LinkEntry) → LinkFits listing (endless link) → IsEnded link → IsTied link
tied_of listing link fits ended = record { name = fits.name; ended = ended }
