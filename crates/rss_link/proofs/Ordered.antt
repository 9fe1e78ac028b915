-- The tuples of a segment, one behind another.
use Rattle.std.proofs.Common.{◌≡◌, ◌⊎◌, inl, inr, ℕ, ◌+◌, ◌-◌, ◌*◌, ◌^◌, ◌<◌, true, false, List, refl, sym, ◌∙◌, ap, subst, arith}
use Rattle.std.specs.Prelude.{Option, Some, None, IfSome, IsSome}
use Rattle.std.proofs.lemmas.Bool.{cases_lt}
use Rattle.rss_base.specs.Paged.{Held, page_key}
use Rattle.rss_base.specs.declared.key.Space.TheVariants.{Home}
use Rattle.rss_base.specs.declared.tid.Tid.{Tid}
use Rattle.rss_tuple.specs.Directory.{Bodies, bodies_of, body_by, overflows}
use Rattle.rss_tuple.specs.Finding.{IsNext}
use Rattle.rss_base.specs.Tids.{IsBelow, IsAfter}
use Rattle.rss_tuple.specs.TupleSteps.{TuplesView, IsLive, IsLeast, NoneIs}
use Rattle.rss_tuple.proofs.Seen.{high_empty}
use Rattle.rss_link.specs.Blocks.{IsNamed}
use Rattle.rss_link.specs.Checking.{begins_with}
use Rattle.rss_link.proofs.Lists.{false_true}

-- ---- how many there may be

-- the numbers of an identifier have 32 and 16 bits
pub record HasWidth (tid : Tid) : Type 0 where
  pub page : tid.page < 2 ^ 32
  pub slot : tid.slot < 2 ^ 16

-- how many identifiers there may be behind one
abbrev pub room_behind : Option Tid → ℕ
room_behind None = 2 ^ 48 + 1
room_behind (Some tid) = 2 ^ 48 - (tid.page * 2 ^ 16 + tid.slot)

pub less_room : (last : Option Tid) (tid : Tid) → IfSome last HasWidth → HasWidth tid → IsAfter last tid → room_behind (Some tid) < room_behind last
less_room None tid was is after = omega arith
less_room (Some last) tid was is (inl page) = omega (arith, page, was.page, was.slot, is.page, is.slot)
less_room (Some last) tid was is (inr same) = omega (arith, same.0, same.1, was.page, was.slot, is.page, is.slot)

-- ---- which were seen

-- it doesn't stand behind the last one
abbrev pub IsSeen : Option Tid → Tid → Type 0
IsSeen last tid = IsAfter last tid → ⊥

below_then : (a b c : Tid) → IsBelow a b → IsBelow b c → IsBelow a c
below_then a b c (inl one) (inl two) = inl (omega (arith, one, two))
below_then a b c (inl one) (inr two) = inl (omega (arith, one, two.0))
below_then a b c (inr one) (inl two) = inl (omega (arith, one.0, two))
below_then a b c (inr one) (inr two) = inr (one.0 ∙ two.0, omega (arith, one.1, two.1))

pub seen_here : (tid : Tid) → IsSeen (Some tid) tid
seen_here tid (inl page) = omega (arith, page)
seen_here tid (inr same) = omega (arith, same.1)

after_more : (last : Option Tid) (tid t : Tid) → IsAfter last tid → IsBelow tid t → IsAfter last t
after_more None tid t after below = tt
after_more (Some last) tid t after below = below_then last tid t after below

pub seen_still : (last : Option Tid) (tid t : Tid) → IsAfter last tid → IsSeen last t → IsSeen (Some tid) t
seen_still last tid t after seen = λ below. seen (after_more last tid t after below)

between : (a b : Tid) → IsBelow a b ⊎ ((a ≡ b) ⊎ IsBelow b a)
between a b = elim (cases_lt a.page b.page) [
  | inl less ↦ inl (inl less)
  | inr page_high ↦ elim (cases_lt b.page a.page) [
    | inl more ↦ inr (inr (inl more))
    | inr page_low ↦
        let page : a.page ≡ b.page = omega (arith, page_high, page_low) in
        elim (cases_lt a.slot b.slot) [
          | inl less ↦ inl (inr (page, less))
          | inr high ↦ elim (cases_lt b.slot a.slot) [
            | inl more ↦ inr (inr (inr (sym page, more)))
            | inr low ↦ let slot : a.slot ≡ b.slot = omega (arith, high, low) in inr (inl (λ i. record { page = page i; slot = slot i }))
          ]
        ]
  ]
]

module _ {view : TuplesView} {segment : ℕ} {last : Option Tid} where
  -- behind the last one, the next one is all that is seen
  pub seen_more : (tid t : Tid) → IsLeast (IsNext view segment last) tid → IsLive view segment t → IsSeen (Some tid) t → (t ≡ tid) ⊎ IsSeen last t
  seen_more tid t first live seen = elim (between t tid) [
    | inl before ↦ inr (λ after. first.least t before (record { behind = after; live = live }))
    | inr (inl same) ↦ inl same
    | inr (inr behind) ↦ absurd (seen behind)
  ]

  pub seen_all : (t : Tid) → NoneIs (IsNext view segment last) → IsLive view segment t → IsSeen last t
  seen_all t none live = λ after. none t (record { behind = after; live = live })

-- ---- those of a relation

pub begins_live : (number : ℕ) (body : Option (List ℕ)) → begins_with number body ≡ true → IsSome body
begins_live number None is = absurd (false_true false refl is)
begins_live number (Some bytes) is = refl

-- a tuple's slot is below those of a page, so its identifier isn't that which stands for none
low_slot : (held : Held) (segment : ℕ) (tid : Tid) → IsSome (bodies_of held segment tid) → tid.slot < 128
low_slot held segment tid live = elim (cases_lt tid.slot 128) [
  | inl low ↦ low
  | inr high ↦
      let none : bodies_of held segment tid ≡ None = ap (body_by (overflows held segment)) (high_empty held (page_key segment Home tid.page) tid.slot high) in
      absurd (false_true false refl (subst IsSome none live))
]

pub live_named : (view : TuplesView) (segment : ℕ) (tid : Tid) → view.bodies ≡ bodies_of view.pages.held → HasWidth tid → IsLive view segment tid → IsNamed tid
live_named view segment tid bodies width live =
    let low = low_slot view.pages.held segment tid (subst (λ (b : Bodies). IsSome (b segment tid)) bodies live) in
    record { page = width.page; slot = width.slot; some = λ is. omega (arith, low, ap (λ (t : Tid). t.slot) is) }
