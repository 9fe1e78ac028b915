-- The walk along the tuples of a segment in search of the next one of a relation.
use Rattle.std.proofs.Common.{◌≡◌, ◌⊎◌, inl, inr, ℕ, ◌+◌, ◌-◌, ◌*◌, ◌^◌, ◌<◌, true, false, List, refl, sym, ◌∙◌, ap, subst, arith}
use Rattle.std.specs.Prelude.{Option, Some, None, is_some, IfSome}
use Rattle.std.proofs.lemmas.Bool.{cases_lt, cases_eq}
use Rattle.rss_base.specs.DiskRule.{IsTold}
use Rattle.rss_base.specs.Paged.{Held}
use Rattle.rss_base.specs.Steps.{PagesView, PagesStep, no_page}
use Rattle.rss_base.specs.declared.tid.Tid.{Tid}
use Rattle.rss_base.proofs.Steps.{rests, then, all_held}
use Rattle.rss_tuple.specs.Finding.{IsNext}
use Rattle.rss_base.specs.Tids.{IsBelow, IsAfter}
use Rattle.rss_tuple.specs.TupleSteps.{IsLeast, NoneIs, tuples_in}
use Rattle.rss_access.specs.Tuples.{body_at, FindsBody, IsNextOf, IsNextBody}

-- ---- the order of identifiers

below_then : (a b c : Tid) → IsBelow a b → IsBelow b c → IsBelow a c
below_then a b c (inl one) (inl two) = inl (omega (arith, one, two))
below_then a b c (inl one) (inr two) = inl (omega (arith, one, two.0))
below_then a b c (inr one) (inl two) = inl (omega (arith, one.0, two))
below_then a b c (inr one) (inr two) = inr (one.0 ∙ two.0, omega (arith, one.1, two.1))

pub below_never : (a : Tid) → IsBelow a a → ⊥
below_never a (inl less) = omega (arith, less)
below_never a (inr less) = omega (arith, less.1)

pub after_then : (after : Option Tid) (a b : Tid) → IsAfter after a → IsBelow a b → IsAfter after b
after_then None a b is below = tt
after_then (Some after) a b is below = below_then after a b is below

-- it is below, the same, or above
pub cases_tid : (a b : Tid) → IsBelow a b ⊎ ((a ≡ b) ⊎ IsBelow b a)
cases_tid a b = elim (cases_eq a.page b.page) [
  | inl page ↦ elim (cases_eq a.slot b.slot) [
    | inl slot ↦ inr (inl (λ i. record { page = page i; slot = slot i }))
    | inr other ↦ elim (cases_lt a.slot b.slot) [
      | inl less ↦ inl (inr (page, less))
      | inr more ↦ inr (inr (inr (sym page, omega (arith, more, other))))
    ]
  ]
  | inr other ↦ elim (cases_lt a.page b.page) [
    | inl less ↦ inl (inl less)
    | inr more ↦ inr (inr (inl (omega (arith, more, other))))
  ]
]

-- how many identifiers there may be behind one
abbrev pub count_behind : Option Tid → ℕ
count_behind None = 2 ^ 48 + 1
count_behind (Some tid) = 2 ^ 48 - (tid.page * 2 ^ 16 + tid.slot)

-- the numbers of an identifier have 32 and 16 bits
pub record IsTid (tid : Tid) : Type 0 where
  pub page : tid.page < 2 ^ 32
  pub slot : tid.slot < 2 ^ 16

pub fewer_behind : (last : Option Tid) (tid : Tid) → IfSome last IsTid → IsTid tid → IsAfter last tid → count_behind (Some tid) < count_behind last
fewer_behind None tid was is after = omega arith
fewer_behind (Some last) tid was is after = elim after [
  | inl page ↦ omega (arith, page, was.page, was.slot, is.page, is.slot)
  | inr same ↦ omega (arith, same.0, same.1, was.page, was.slot, is.page, is.slot)
]

-- ---- the walk

-- The pages were looked at. A tuple of the relation behind `after` stands behind `last`, and what stands behind that stands behind `after`.
pub record Walked (segment number : ℕ) (after : Option Tid) (start now : PagesView) (last : Option Tid) : Type 0 where
  pub most : ℕ
  pub step : PagesStep no_page most most start now
  pub ahead : (tid : Tid) → IsAfter last tid → IsAfter after tid
  pub none : IsTold start.disk → (tid : Tid) → IsNextOf segment number after start tid → IsAfter last tid
  pub within : IfSome last IsTid

pub walked_none : (segment number : ℕ) (after : Option Tid) (start : PagesView) → IfSome after IsTid → Walked segment number after start start after
walked_none segment number after start within = record {
  most = 0;
  step = rests start;
  ahead = λ tid there. there;
  none = λ told tid next. next.behind;
  within = within;
}

module _ (segment number : ℕ) (after : Option Tid) (start now : PagesView) (last : Option Tid) (so : Walked segment number after start now last) where
  bodies_now : IsTold start.disk → (tid : Tid) → body_at now segment tid ≡ body_at start segment tid
  bodies_now told tid = ap (λ (h : Held). body_at (record now { held = h }) segment tid) (all_held so.step told)

  -- a tuple of the relation is one of the segment that stands behind `last`
  next_live : IsTold start.disk → (tid : Tid) → IsNextOf segment number after start tid → IsNext (tuples_in now) segment last tid
  next_live told tid next = record { behind = so.none told tid next; live = subst (λ (o : Option (List ℕ)). is_some o ≡ true) (sym (bodies_now told tid ∙ next.body)) refl }

  pub none_next : IsTold start.disk → NoneIs (IsNext (tuples_in now) segment last) → NoneIs (IsNextOf segment number after start)
  none_next told none = λ tid next. none tid (next_live told tid next)

  module _ (mid : PagesView) {asks outs : ℕ} (on : PagesStep no_page asks outs now mid) (tid : Tid) (bytes : List ℕ) where
    body_same : IsTold start.disk → body_at mid segment tid ≡ body_at start segment tid
    body_same told = ap (λ (h : Held). body_at (record mid { held = h }) segment tid) (all_held on (so.step.passes.leaves.told.0 told)) ∙ bodies_now told tid

    -- the tuple that was found is the least one of the relation
    pub found_next : IsTold start.disk → IsLeast (IsNext (tuples_in now) segment last) tid → FindsBody segment number tid mid true bytes → IsNextBody segment number after start bytes tid
    found_next told first finds =
        let found = finds.some refl in
        let body : body_at start segment tid ≡ Some bytes = sym (body_same told) ∙ found.1 in
        record {
          least = record {
            has = record { rest = finds.rest; behind = so.ahead tid first.has.behind; body = body ∙ ap Some found.0 };
            least = λ other before next. first.least other before (next_live told other next);
          };
          body = body;
        }

    -- it is one of another relation, and those of this one stand behind it
    behind_it : IsTold start.disk → IsLeast (IsNext (tuples_in now) segment last) tid → FindsBody segment number tid mid false bytes → (other : Tid) → IsNextOf segment number after start other → IsBelow tid other
    behind_it told first finds other next = elim (cases_tid other tid) [
      | inl before ↦ absurd (first.least other before (next_live told other next))
      | inr (inl same) ↦ absurd (finds.none refl next.rest (body_same told ∙ ap (body_at start segment) (sym same) ∙ next.body))
      | inr (inr behind) ↦ behind
    ]

    pub walked_more : (new : PagesView) {most : ℕ} → PagesStep no_page most most now new → IsTid tid → IsAfter last tid → (IsTold start.disk → IsLeast (IsNext (tuples_in now) segment last) tid) → (IsTold start.disk → FindsBody segment number tid mid false bytes)
        → Walked segment number after start new (Some tid)
    walked_more new {most = most} step is after_last first finds = record {
      most = so.most + most;
      step = then so.step step;
      ahead = λ other below. so.ahead other (after_then last tid other after_last below);
      none = λ told other next. behind_it told (first told) (finds told) other next;
      within = is;
    }
