-- Ways along holders.
use Rattle.std.proofs.Common.{◌≡◌, ◌≢◌, inl, inr, ℕ, ◌≤◌, Bool, true, false, List, [], ◌∷◌, ◌++◌, length, refl, sym, ◌∙◌, ap, ap₂, subst, arith, length-append}
use Rattle.std.specs.Prelude.{◌||◌, ◌==◌, Option, Some, None, is_some, is_none, cond, find, option_map}
use Rattle.std.proofs.lemmas.Bool.{cases_Bool, or_left, or_right, or_parts, true≢false, false_from_ne_true}
use Rattle.rss_wait.specs.declared.wait.Wait.{Wait}
use Rattle.rss_wait.specs.Waits.{is_in, IsOnce, holder_of, first_or, Follow, IsLoop}
use Rattle.rss_wait.specs.Kept.{waiters}
use Rattle.rss_wait.proofs.Members.{in_both, cases_in, not_in, apart_in, around, few, once_around, or_swap}

abbrev value_or : ℕ → Option ℕ → ℕ
value_or n None = n
value_or n (Some m) = m

pub some_is : {m n : ℕ} → Some m ≡ Some n → m ≡ n
some_is {m} same = ap (value_or m) same

-- ---- following

first_both : (back : ℕ) (xs ys : List ℕ) → first_or back (xs ++ ys) ≡ first_or (first_or back ys) xs
first_both back [] ys = refl
first_both back (x ∷ xs) ys = refl

pub follow_parts : (waits : List Wait) (back : ℕ) (xs ys : List ℕ) → Follow waits (xs ++ ys) back → Follow waits xs (first_or back ys) × Follow waits ys back
follow_parts waits back [] ys all = (tt, all)
follow_parts waits back (x ∷ xs) ys all =
    let rest = follow_parts waits back xs ys all.1 in
    ((all.0 ∙ ap (λ (u : ℕ). Some u) (first_both back xs ys), rest.0), rest.1)

pub follow_both : (waits : List Wait) (back : ℕ) (xs ys : List ℕ) → Follow waits xs (first_or back ys) → Follow waits ys back → Follow waits (xs ++ ys) back
follow_both waits back [] ys one two = two
follow_both waits back (x ∷ xs) ys one two =
    (one.0 ∙ ap (λ (u : ℕ). Some u) (sym (first_both back xs ys)), follow_both waits back xs ys one.1 two)

-- a way that hasn't come back is the front of each way back
record GoesOn (ps cs : List ℕ) (at : ℕ) : Type 0 where
  rest : List ℕ
  is : cs ≡ ps ++ at ∷ rest

goes_on : (waits : List Wait) (t at : ℕ) (ps cs : List ℕ) → Follow waits ps at → Follow waits cs t → first_or at ps ≡ first_or t cs → is_in ps t ≡ false → at ≢ t → GoesOn ps cs at
goes_on waits t at [] [] one two same away differ = absurd (differ same)
goes_on waits t at [] (c ∷ cs) one two same away differ = record { rest = cs; is = ap (λ (u : ℕ). u ∷ cs) (sym same) }
goes_on waits t at (p ∷ ps) [] one two same away differ = absurd ((apart_in t p ps away).0 same)
goes_on waits t at (p ∷ ps) (c ∷ cs) one two same away differ =
    let next : first_or at ps ≡ first_or t cs = some_is (sym one.0 ∙ ap (holder_of waits) same ∙ two.0) in
    let more = goes_on waits t at ps cs one.1 two.1 next (apart_in t p ps away).1 differ in
    record { rest = more.rest; is = ap₂ (λ (u : ℕ) (l : List ℕ). u ∷ l) (sym same) more.is }

-- two ways to one place that begin at the same place, and come there at their ends first, are one
one_way : (waits : List Wait) (t : ℕ) (ps cs : List ℕ) → Follow waits ps t → Follow waits cs t → first_or t ps ≡ first_or t cs → is_in ps t ≡ false → is_in cs t ≡ false → ps ≡ cs
one_way waits t [] [] one two same away off = refl
one_way waits t [] (c ∷ cs) one two same away off = absurd ((apart_in t c cs off).0 (sym same))
one_way waits t (p ∷ ps) [] one two same away off = absurd ((apart_in t p ps away).0 same)
one_way waits t (p ∷ ps) (c ∷ cs) one two same away off =
    let next : first_or t ps ≡ first_or t cs = some_is (sym one.0 ∙ ap (holder_of waits) same ∙ two.0) in
    ap₂ (λ (u : ℕ) (l : List ℕ). u ∷ l) same (one_way waits t ps cs one.1 two.1 next (apart_in t p ps away).1 (apart_in t c cs off).1)

-- so none is on it twice
not_twice : (waits : List Wait) (t x : ℕ) (ps : List ℕ) → Follow waits (x ∷ ps) t → is_in ps t ≡ false → is_in ps x ≡ true → ⊥
not_twice waits t x ps all away there =
    let split = around x ps there in
    let back = (follow_parts waits t split.before (x ∷ split.after) (subst (λ (l : List ℕ). Follow waits l t) split.is all.1)).1 in
    let off : is_in (split.before ++ x ∷ split.after) t ≡ false = ap (λ (l : List ℕ). is_in l t) (sym split.is) ∙ away in
    let parts = or_parts (is_in split.before t) (is_in (x ∷ split.after) t) (sym (in_both t split.before (x ∷ split.after)) ∙ off) in
    let same : ps ≡ split.after = one_way waits t ps split.after all.1 back.1 (some_is (sym all.0 ∙ back.0)) away (apart_in t x split.after parts.1).1 in
    let long : length ps ≡ length (split.before ++ x ∷ split.after) = ap (λ (l : List ℕ). length l) split.is in
    let short : length ps ≡ length split.after = ap (λ (l : List ℕ). length l) same in
    omega (arith, long, short, length-append split.before (x ∷ split.after))

pub once_on : (waits : List Wait) (t x : ℕ) (ps : List ℕ) → Follow waits (x ∷ ps) t → is_in ps t ≡ false → IsOnce (x ∷ ps)
once_on waits t x [] all away = (refl, tt)
once_on waits t x (p ∷ ps) all away =
    (false_from_ne_true (is_in (p ∷ ps) x) (not_twice waits t x (p ∷ ps) all away), once_on waits t p ps all.1 (apart_in t p ps away).1)

-- ---- loops

loop_follows : (waits : List Wait) (t : ℕ) (cycle : List ℕ) (loop : IsLoop waits t cycle) → Follow waits (t ∷ loop.rest) t
loop_follows waits t cycle loop = subst (λ (l : List ℕ). Follow waits l t) loop.is loop.each

loop_away : (waits : List Wait) (t : ℕ) (cycle : List ℕ) (loop : IsLoop waits t cycle) → is_in loop.rest t ≡ false
loop_away waits t cycle loop = (subst IsOnce loop.is loop.once).0

-- there is one from each transaction at most
pub one_loop : (waits : List Wait) (t : ℕ) (a b : List ℕ) → IsLoop waits t a → IsLoop waits t b → a ≡ b
one_loop waits t a b one two =
    let way = loop_follows waits t a one in
    let other = loop_follows waits t b two in
    one.is ∙ ap (λ (l : List ℕ). t ∷ l) (one_way waits t one.rest two.rest way.1 other.1 (some_is (sym way.0 ∙ other.0)) (loop_away waits t a one) (loop_away waits t b two)) ∙ sym two.is

-- one from each of its members, with the same members
pub record Turned (waits : List Wait) (t : ℕ) (cycle : List ℕ) : Type 0 where
  pub turned : List ℕ
  pub loop : IsLoop waits t turned
  pub same : (u : ℕ) → is_in turned u ≡ is_in cycle u

pub turn : (waits : List Wait) (f t : ℕ) (cycle : List ℕ) → IsLoop waits f cycle → is_in cycle t ≡ true → Turned waits t cycle
turn waits f t cycle loop there =
    let split = around t cycle there in
    let before = split.before in
    let after = split.after in
    let parts = follow_parts waits f before (t ∷ after) (subst (λ (l : List ℕ). Follow waits l f) split.is loop.each) in
    let begins : f ≡ first_or t before = ap (first_or f) (sym loop.is ∙ split.is) ∙ first_both f before (t ∷ after) in
    let way : Follow waits ((t ∷ after) ++ before) t = follow_both waits t (t ∷ after) before (subst (λ (u : ℕ). Follow waits (t ∷ after) u) begins parts.1) parts.0 in
    let apart = once_around t before after (subst IsOnce split.is loop.once) in
    let away : is_in (after ++ before) t ≡ false = in_both t after before ∙ ap₂ (λ (a b : Bool). a || b) apart.1 apart.0 in
    record {
      turned = t ∷ (after ++ before);
      loop = record { rest = after ++ before; is = refl; each = way; once = once_on waits t t (after ++ before) way away };
      same = λ u. in_both u (t ∷ after) before ∙ or_swap (is_in (t ∷ after) u) (is_in before u) ∙ sym (in_both u before (t ∷ after)) ∙ ap (λ (l : List ℕ). is_in l u) (sym split.is);
    }

-- ---- who waits

pub length-waiters : (waits : List Wait) → length (waiters waits) ≡ length waits
length-waiters [] = refl
length-waiters (wait ∷ waits) = omega (arith, length-waiters waits)

pub waits_in : (waits : List Wait) (t u : ℕ) → holder_of waits t ≡ Some u → is_in (waiters waits) t ≡ true
waits_in [] t u is = absurd (true≢false (ap is_none is))
waits_in (wait ∷ waits) t u is = elim (cases_Bool (wait.by == t)) [
  | inl same ↦ or_left (wait.by == t) (is_in (waiters waits) t) same
  | inr differ ↦ or_right (wait.by == t) (is_in (waiters waits) t) (waits_in waits t u (ap (λ (b : Bool). option_map (λ (w : Wait). w.holder) (cond b (Some wait) (find (λ w. w.by == t) waits))) (sym differ) ∙ is))
]

members_wait : (waits : List Wait) (back : ℕ) (ts : List ℕ) → Follow waits ts back → (t : ℕ) → is_in ts t ≡ true → is_in (waiters waits) t ≡ true
members_wait waits back [] all t there = absurd (true≢false (sym there))
members_wait waits back (u ∷ us) all t there = elim (cases_in t u us there) [
  | inl same ↦ ap (is_in (waiters waits)) (sym same) ∙ waits_in waits u (first_or back us) all.0
  | inr rest ↦ members_wait waits back us all.1 t rest
]

-- a loop is no longer than the list of those that wait
pub loop_short : (waits : List Wait) (t : ℕ) (cycle : List ℕ) → IsLoop waits t cycle → length cycle ≤ length waits
loop_short waits t cycle loop =
    omega (arith, length-waiters waits, few cycle (waiters waits) loop.once (members_wait waits t cycle loop.each))

-- ---- the walk

-- whoever follows holders from t on comes by way of these to `at`, and not to t before
pub record IsWalk (waits : List Wait) (t : ℕ) (path : List ℕ) (at : ℕ) : Type 0 where
  pub tail : List ℕ
  pub is : path ≡ t ∷ tail
  pub each : Follow waits path at
  pub away : is_in tail t ≡ false
  pub short : length path ≤ length waits

pub walk_begins : (waits : List Wait) (t at : ℕ) → holder_of waits t ≡ Some at → IsWalk waits t (t ∷ []) at
walk_begins waits t at is = record { tail = []; is = refl; each = (is, tt); away = refl; short = some waits (waits_in waits t at is) }
  where
    some : (ws : List Wait) → is_in (waiters ws) t ≡ true → 1 ≤ length ws
    some [] there = absurd (true≢false (sym there))
    some (w ∷ ws) there = omega arith

pub walk_more : (waits : List Wait) (t at next : ℕ) (path : List ℕ) → IsWalk waits t path at → at ≢ t → length path ≢ length waits → holder_of waits at ≡ Some next → IsWalk waits t (path ++ at ∷ []) next
walk_more waits t at next path walk differ room is = record {
  tail = walk.tail ++ at ∷ [];
  is = ap (λ (l : List ℕ). l ++ at ∷ []) walk.is;
  each = follow_both waits next path (at ∷ []) walk.each (is, tt);
  away = in_both t walk.tail (at ∷ []) ∙ ap₂ (λ (a b : Bool). a || b) walk.away (not_in t at [] differ refl);
  short = omega (arith, walk.short, room, length-append path (at ∷ []));
}

pub walk_ends : (waits : List Wait) (t : ℕ) (path : List ℕ) → IsWalk waits t path t → IsLoop waits t path
walk_ends waits t path walk = record {
  rest = walk.tail;
  is = walk.is;
  each = walk.each;
  once = subst IsOnce (sym walk.is) (once_on waits t t walk.tail (subst (λ (l : List ℕ). Follow waits l t) walk.is walk.each) walk.away);
}

-- a loop from t goes on behind it
walk_goes_on : (waits : List Wait) (t at : ℕ) (path cycle : List ℕ) → IsWalk waits t path at → at ≢ t → IsLoop waits t cycle → GoesOn path cycle at
walk_goes_on waits t at path cycle walk differ loop =
    let way = loop_follows waits t cycle loop in
    let here : Follow waits (t ∷ walk.tail) at = subst (λ (l : List ℕ). Follow waits l at) walk.is walk.each in
    let more = goes_on waits t at walk.tail loop.rest here.1 way.1 (some_is (sym here.0 ∙ way.0)) walk.away differ in
    record { rest = more.rest; is = loop.is ∙ ap (λ (l : List ℕ). t ∷ l) more.is ∙ ap (λ (l : List ℕ). l ++ at ∷ more.rest) (sym walk.is) }

pub walk_stops : (waits : List Wait) (t at : ℕ) (path cycle : List ℕ) → IsWalk waits t path at → at ≢ t → holder_of waits at ≡ None → IsLoop waits t cycle → ⊥
walk_stops waits t at path cycle walk differ none loop =
    let on = walk_goes_on waits t at path cycle walk differ loop in
    let way = (follow_parts waits t path (at ∷ on.rest) (subst (λ (l : List ℕ). Follow waits l t) on.is loop.each)).1 in
    true≢false (ap is_some (sym way.0 ∙ none))

pub walk_too_long : (waits : List Wait) (t at : ℕ) (path cycle : List ℕ) → IsWalk waits t path at → at ≢ t → length path ≡ length waits → IsLoop waits t cycle → ⊥
walk_too_long waits t at path cycle walk differ long loop =
    let on = walk_goes_on waits t at path cycle walk differ loop in
    let longer : length cycle ≡ length (path ++ at ∷ on.rest) = ap (λ (l : List ℕ). length l) on.is in
    omega (arith, long, longer, loop_short waits t cycle loop, length-append path (at ∷ on.rest))
