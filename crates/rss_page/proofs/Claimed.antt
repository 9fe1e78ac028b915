-- Bytes that are marked for bodies, one after the other.
use Rattle.std.proofs.Common.{◌≡◌, ◌⊎◌, inl, inr, ℕ, ◌+◌, ◌*◌, ◌/◌, ◌%◌, ◌^◌, ◌<◌, ◌≤◌, List, length, set, get_or, replicate, sym, ◌∙◌, ap, subst, arith, length-set, get_or-set_same, get_or-set_other}
use Rattle.std.specs.Prelude.{bit_and, bit_or}
use Rattle.std.specs.Int.{bit_at, w64, trailing_zeros}
use Rattle.std.proofs.lemmas.Bool.{cases_lt, cases_eq}
use Rattle.std.proofs.lemmas.Nat.{and_le_r}
use Rattle.std.proofs.lemmas.Nat.Bits.{bit_at_and, bit_at_or, bit_at-lt, bit_at-zero, bit_at-trailing_zeros}
use Rattle.std.proofs.lemmas.List.{length-replicate, get_or-replicate, get_or_past}
use Rattle.rss_page.specs.declared.entry_form.Entry.{Entry}
use Rattle.rss_page.specs.declared.entry_form.Entry.TheVariants.{Here as HereEntry}
use Rattle.rss_page.specs.Slotted.{entry_at, entry_of, IsInBody, IsAllowed, IsEntry, IsSlotted}
use Rattle.rss_page.specs.Marks.{mark_at, AreBits, IsWithin, Claims, IsClaimed}
use Rattle.rss_page.proofs.Contents.{body_within}

-- the bit of a byte of a word
byte_in : (word byte : ℕ) → 64 * word ≤ byte → byte < 64 * word + 64 → (byte / 64 ≡ word) × (byte % 64 < 64) × (64 * word + byte % 64 ≡ byte)
byte_in word byte low high = (omega arith, omega arith, omega arith)

mark_in : (marks : List ℕ) (word byte : ℕ) → 64 * word ≤ byte → byte < 64 * word + 64 → mark_at marks byte ≡ bit_at (get_or marks word 0) (byte % 64)
mark_in marks word byte low high = ap (λ (n : ℕ). bit_at (get_or marks n 0) (byte % 64)) (byte_in word byte low high).0

-- the bytes of a body in front of a limit weren't marked, and now they are
pub record IsClaiming (old : List ℕ) (place end limit : ℕ) (now : List ℕ) : Type 0 where
  pub size : length now ≡ length old
  pub fresh : (byte : ℕ) → place ≤ byte → byte < end → byte < limit → mark_at old byte ≡ 0
  pub marked : (byte : ℕ) → place ≤ byte → byte < end → byte < limit → mark_at now byte ≡ 1
  pub outside : (byte : ℕ) → (byte < place) ⊎ (end ≤ byte) → mark_at now byte ≡ mark_at old byte
  pub past : (byte : ℕ) → limit ≤ byte → mark_at now byte ≡ mark_at old byte

-- a word more, none of whose bits for the body was set
pub claim_more : (old now : List ℕ) (place end word bits : ℕ) → IsClaiming old place end (64 * word) now → word < length now → AreBits word place end bits → bit_and (get_or now word 0) bits ≡ 0
    → IsClaiming old place end (64 * (word + 1)) (set now word (bit_or (get_or now word 0) bits))
claim_more old now place end word bits is within are free = record {
  size = length-set now word both ∙ is.size;
  fresh = λ byte from to front. elim (cases_lt byte (64 * word)) [
    | inl before ↦ is.fresh byte from to before
    | inr here ↦ sym (is.past byte here) ∙ mark_in now word byte here (omega arith) ∙ unset byte from to here (omega arith)
  ];
  marked = λ byte from to front. elim (cases_lt byte (64 * word)) [
    | inl before ↦ elsewhere byte (inl before) ∙ is.marked byte from to before
    | inr here ↦ now_in byte here (omega arith) ∙ omega (arith, bit_at_or old_bits bits (byte % 64), bit_of byte from to here (omega arith), bit_at-lt old_bits (byte % 64))
  ];
  outside = λ byte off. elim (cases_lt byte (64 * word)) [
    | inl before ↦ elsewhere byte (inl before) ∙ is.outside byte off
    | inr here ↦ elim (cases_lt byte (64 * word + 64)) [
      | inl inside ↦
          let place_is = byte_in word byte here inside in
          let none_there = are.outside (byte % 64) place_is.1 (subst (λ (n : ℕ). (n < place) ⊎ (end ≤ n)) (sym place_is.2) off) in
          now_in byte here inside ∙ omega (arith, bit_at_or old_bits bits (byte % 64), none_there) ∙ sym (mark_in now word byte here inside) ∙ is.outside byte off
      | inr behind ↦ elsewhere byte (inr behind) ∙ is.outside byte off
    ]
  ];
  past = λ byte behind. elsewhere byte (inr (omega arith)) ∙ is.past byte (omega arith);
}
  where
    old_bits : ℕ
    old_bits = get_or now word 0

    both : ℕ
    both = bit_or old_bits bits

    bit_of : (byte : ℕ) → place ≤ byte → byte < end → 64 * word ≤ byte → byte < 64 * word + 64 → bit_at bits (byte % 64) ≡ 1
    bit_of byte from to low high =
        let place_is = byte_in word byte low high in
        are.inside (byte % 64) place_is.1 (omega (arith, place_is.2)) (omega (arith, place_is.2))

    unset : (byte : ℕ) → place ≤ byte → byte < end → 64 * word ≤ byte → byte < 64 * word + 64 → bit_at old_bits (byte % 64) ≡ 0
    unset byte from to low high = omega (arith, bit_at_and old_bits bits (byte % 64), ap (λ (n : ℕ). bit_at n (byte % 64)) free, bit_at-zero (byte % 64), bit_of byte from to low high)

    now_in : (byte : ℕ) → 64 * word ≤ byte → byte < 64 * word + 64 → mark_at (set now word both) byte ≡ bit_at both (byte % 64)
    now_in byte low high = mark_in (set now word both) word byte low high ∙ ap (λ (n : ℕ). bit_at n (byte % 64)) (get_or-set_same now word both 0 within)

    elsewhere : (byte : ℕ) → (byte < 64 * word) ⊎ (64 * word + 64 ≤ byte) → mark_at (set now word both) byte ≡ mark_at now byte
    elsewhere byte off = ap (λ (n : ℕ). bit_at n (byte % 64)) (get_or-set_other now word (byte / 64) both 0 (elim off [ inl before ↦ omega arith | inr behind ↦ omega arith ]))

-- a word has a bit for the body that is set already
pub claim_met : (old now : List ℕ) (place count word bits : ℕ) → IsClaiming old place (place + count) (64 * word) now → AreBits word place (place + count) bits → bits < 2 ^ 64 → 0 < bit_and (get_or now word 0) bits → IsClaimed old (HereEntry place count)
claim_met old now place count word bits is are small some =
    let both : ℕ = bit_and (get_or now word 0) bits in
    let found = bit_at-trailing_zeros w64 both some (omega (arith, and_le_r (get_or now word 0) bits)) in
    let bit : ℕ = trailing_zeros w64 both in
    let byte : ℕ = 64 * word + bit in
    let few : bit < 64 = found.0 in
    let place_is = byte_in word byte (omega arith) (omega (arith, few)) in
    let which : byte % 64 ≡ bit = omega (arith, place_is.2) in
    let body : bit_at bits bit ≡ 1 = omega (arith, found.1, bit_at_and (get_or now word 0) bits bit, bit_at-lt bits bit) in
    let taken : bit_at (get_or now word 0) bit ≡ 1 = omega (arith, found.1, bit_at_and (get_or now word 0) bits bit, bit_at-lt (get_or now word 0) bit) in
    record {
      byte = byte;
      inside = elim (cases_lt byte place) as (λ _. IsInBody (HereEntry place count) byte) [
        | inl before ↦ absurd (omega (arith, body, are.outside bit few (inl before)))
        | inr from ↦ elim (cases_lt byte (place + count)) as (λ _. IsInBody (HereEntry place count) byte) [
          | inl within ↦ record { low = from; high = within }
          | inr past ↦ absurd (omega (arith, body, are.outside bit few (inr past)))
        ]
      ];
      marked = sym (is.past byte (omega arith)) ∙ mark_in now word byte (omega arith) (omega (arith, few)) ∙ ap (bit_at (get_or now word 0)) which ∙ taken;
    }

-- ---- the slots of a page

-- a body of the first slots has this byte
pub record IsCovered (page : List ℕ) (count byte : ℕ) : Type 0 where
  pub slot : ℕ
  pub low : slot < count
  pub inside : IsInBody (entry_of page slot) byte

-- The entries of the first slots are spelled as they should be, and no byte belongs to two bodies of them. The bytes of those are marked, and no others.
pub record AreSlotted (page : List ℕ) (count : ℕ) (marks : List ℕ) : Type 0 where
  pub size : length marks ≡ 64
  pub spelled : (slot : ℕ) → slot < count → IsEntry (get_or page 0 0) (entry_at page slot)
  pub apart : (a b byte : ℕ) → a < count → b < count → IsInBody (entry_of page a) byte → IsInBody (entry_of page b) byte → a ≡ b
  pub marked : (byte : ℕ) → mark_at marks byte ≡ 1 → IsCovered page count byte
  pub covered : (slot byte : ℕ) → slot < count → IsInBody (entry_of page slot) byte → mark_at marks byte ≡ 1

-- nothing is marked at first
pub slots_none : (page : List ℕ) → AreSlotted page 0 (replicate {A = ℕ} 64 0)
slots_none page = record {
  size = length-replicate {A = ℕ} 64 0;
  spelled = λ slot low. absurd (omega arith);
  apart = λ a b byte a_low b_low in_a in_b. absurd (omega arith);
  marked = λ byte has. absurd (omega (arith, unmarked byte, has));
  covered = λ slot byte low inside. absurd (omega arith);
}
  where
    unmarked : (byte : ℕ) → mark_at (replicate {A = ℕ} 64 0) byte ≡ 0
    unmarked byte = ap (λ (n : ℕ). bit_at n (byte % 64)) (elim (cases_lt (byte / 64) 64) as (λ _. get_or (replicate {A = ℕ} 64 0) (byte / 64) 0 ≡ 0) [
      | inl within ↦ get_or-replicate 64 (byte / 64) 0 0 within
      | inr past ↦ get_or_past (replicate {A = ℕ} 64 0) (byte / 64) 0 (omega (arith, length-replicate {A = ℕ} 64 0))
    ]) ∙ bit_at-zero (byte % 64)

pub slots_more : (page : List ℕ) (slot : ℕ) (old new : List ℕ) → AreSlotted page slot old → IsEntry (get_or page 0 0) (entry_at page slot) → Claims old (entry_of page slot) new → AreSlotted page (slot + 1) new
slots_more page slot old new is spelled claims = record {
  size = claims.size ∙ is.size;
  spelled = λ other low. elim (cases_eq other slot) [
    | inl same ↦ subst (λ (n : ℕ). IsEntry (get_or page 0 0) (entry_at page n)) (sym same) spelled
    | inr differ ↦ is.spelled other (omega (arith, differ))
  ];
  apart = λ a b byte a_low b_low in_a in_b. elim (cases_eq a slot) [
    | inl a_is ↦ elim (cases_eq b slot) [
      | inl b_is ↦ a_is ∙ sym b_is
      | inr b_not ↦ absurd (twice a b byte a_is (omega (arith, b_not)) in_a in_b)
    ]
    | inr a_not ↦ elim (cases_eq b slot) [
      | inl b_is ↦ absurd (twice b a byte b_is (omega (arith, a_not)) in_b in_a)
      | inr b_not ↦ is.apart a b byte (omega (arith, a_not)) (omega (arith, b_not)) in_a in_b
    ]
  ];
  marked = λ byte has. elim (claims.only byte has) [
    | inl before ↦
        let found : IsCovered page slot byte = is.marked byte before in
        record { slot = found.slot; low = omega (arith, found.low); inside = found.inside }
    | inr inside ↦ record { slot = slot; low = omega arith; inside = inside }
  ];
  covered = λ other byte low inside. elim (cases_eq other slot) [
    | inl same ↦ claims.marked byte (subst (λ (n : ℕ). IsInBody (entry_of page n) byte) same inside)
    | inr differ ↦ claims.kept byte (is.covered other byte (omega (arith, differ)) inside)
  ];
}
  where
    twice : (one other byte : ℕ) → one ≡ slot → other < slot → IsInBody (entry_of page one) byte → IsInBody (entry_of page other) byte → ⊥
    twice one other byte here before in_one in_other = omega (arith, claims.fresh byte (subst (λ (n : ℕ). IsInBody (entry_of page n) byte) here in_one), is.covered other byte before in_other)

pub slots_all : (page : List ℕ) (marks : List ℕ) → length page ≡ 4096 → AreSlotted page 128 marks → IsSlotted page
slots_all page marks size is = record { size = size; spelled = is.spelled; apart = is.apart }

-- the body of an entry that may stand there lies within the page
pub entry_within : (space : ℕ) (entry : Entry) → IsAllowed space entry → IsWithin entry
entry_within space entry allowed = elim (body_within space entry allowed) as (λ _. IsWithin entry) [
  | inl none_there ↦ omega arith
  | inr body ↦ body.high
]

-- a slotted page has no body that takes a marked byte
pub not_claimed : (page : List ℕ) (slot : ℕ) (marks : List ℕ) → slot < 128 → AreSlotted page slot marks → IsClaimed marks (entry_of page slot) → IsSlotted page → ⊥
not_claimed page slot marks low is claimed slotted =
    let found : IsCovered page slot claimed.byte = is.marked claimed.byte claimed.marked in
    omega (arith, found.low, slotted.apart found.slot slot claimed.byte (omega (arith, found.low)) low found.inside claimed.inside)
