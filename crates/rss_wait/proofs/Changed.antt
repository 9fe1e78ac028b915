-- What a call makes of the queue in a place.
use Rattle.std.proofs.Common.{◌≡◌, ◌≢◌, ℕ, zero, suc, ◌<◌, true, false, List, [], ◌∷◌, ◌++◌, length, drop, get_or, refl, sym, ◌∙◌, ap, subst, arith}
use Rattle.std.specs.Prelude.{◌==◌, Option, Some, None, slice_get, slice_set, remove}
use Rattle.std.proofs.lemmas.Bool.{true≢false, eqb-true, ne_eqb}
use Rattle.rss_wait.specs.declared.held.Held.{Held}
use Rattle.rss_wait.specs.Held.{first_of, popped, AreBefore}
use Rattle.rss_wait.specs.Queues.{in_order, lines_of, held_in, owner_of, AreQueues}
use Rattle.rss_wait.proofs.Loops.{some_is}
use Rattle.rss_wait.proofs.Lines.{all_each, each_order, each_so, none_found}
use Rattle.rss_wait.proofs.Queues.{At, at_place, others, lines_both, first_at, out_at, more_left, none_left, pushed_at, more_at, pushed_last, one_more, put_at, remove_at, no_owner, not_owned}

pub defaults : (queues : List (List Held)) (place : ℕ) (d e : List Held) → place < length queues → get_or queues place d ≡ get_or queues place e
defaults [] place d e low = absurd (omega (arith, low))
defaults (queue ∷ queues) zero d e low = refl
defaults (queue ∷ queues) (suc place) d e low = defaults queues place d e (omega (arith, low))

pub got_put : (queues : List (List Held)) (place : ℕ) (new d : List Held) → place < length queues → get_or (slice_set queues place new) place d ≡ new
got_put [] place new d low = absurd (omega (arith, low))
got_put (queue ∷ queues) zero new d low = refl
got_put (queue ∷ queues) (suc place) new d low = got_put queues place new d (omega (arith, low))

-- an owner without a queue has no line
pub none_held : (queues : List (List Held)) (t : ℕ) → AreQueues queues → ((k : ℕ) → k < length queues → owner_of (get_or queues k []) ≢ Some t) → first_of (held_in queues) t ≡ None
none_held queues t are none =
    none_found (λ line. line.owner == t) (held_in queues) (each_order (λ (x : Held). (x.owner == t) ≡ false) (lines_of queues)
    (each_so (λ (x : Held). x.owner ≢ t) (λ (x : Held). (x.owner == t) ≡ false) (λ x differ. ne_eqb x.owner t differ) (lines_of queues) (not_owned t queues are.each (no_owner t queues none))))

-- a queue of one line
pub last_pushed : (queues : List (List Held)) (line : Held) → AreQueues queues → ((k : ℕ) → k < length queues → owner_of (get_or queues k []) ≢ Some line.owner) → AreBefore line.number (held_in queues) → AreQueues (queues ++ (line ∷ []) ∷ []) × (held_in (queues ++ (line ∷ []) ∷ []) ≡ held_in queues ++ line ∷ [])
last_pushed queues line are none before =
    let below = all_each (λ (x : Held). x.number < line.number) (held_in queues) before in
    (one_more queues line are (no_owner line.owner queues none) below, pushed_last queues line below)

-- the queue of an owner, as it was got
record Got (queues : List (List Held)) (place t : ℕ) (got : List Held) : Type 0 where
  at : At queues place
  is : got ≡ at.first ∷ at.rest
  own : at.first.owner ≡ t

got_at : (queues : List (List Held)) (place t : ℕ) (got : List Held) → AreQueues queues → place < length queues → owner_of (get_or queues place []) ≡ Some t → got ≡ get_or queues place got → Got queues place t got
got_at queues place t got are low here is =
    let at = at_place queues place are.each low in
    record { at = at; is = is ∙ defaults queues place got [] low ∙ at.here; own = some_is (sym (ap owner_of at.here) ∙ here) }

module _ (queues : List (List Held)) (place t : ℕ) (got : List Held) (are : AreQueues queues) (low : place < length queues) (here : owner_of (get_or queues place []) ≡ Some t) (is : got ≡ get_or queues place got) where
  pub first_got : slice_get got 0 ≡ first_of (held_in queues) t
  first_got =
      let mine = got_at queues place t got are low here is in
      ap (λ (q : List Held). slice_get q 0) mine.is ∙ sym (first_at are mine.at) ∙ ap (first_of (held_in queues)) mine.own

  put_is : (new : List Held) (at : At queues place) → slice_set queues place new ≡ at.before ++ new ∷ at.after
  put_is new at = ap (λ (l : List (List Held)). slice_set l place new) at.is ∙ put_at at.before (at.first ∷ at.rest) new at.after place at.long

  popped_is : {line : Option Held} (at : At queues place) → got ≡ at.first ∷ at.rest → line ≡ slice_get got 0 → in_order (others at) ≡ popped line (held_in queues)
  popped_is {line} at mine first = out_at are at ∙ ap (λ (o : Option Held). popped o (held_in queues)) (sym (first ∙ ap (λ (q : List Held). slice_get q 0) mine))

  -- its first line is taken out, and others are left
  pub rest_left : (line : Option Held) (new : List Held) → line ≡ slice_get got 0 → new ≡ drop 1 got → (length new == 0) ≡ false → AreQueues (slice_set queues place new) × (held_in (slice_set queues place new) ≡ popped line (held_in queues))
  rest_left line new first rest some =
      let mine = got_at queues place t got are low here is in
      let at = mine.at in
      let new_is : new ≡ at.rest = rest ∙ ap (drop 1) mine.is in
      let put : slice_set queues place new ≡ at.before ++ at.rest ∷ at.after = put_is new at ∙ ap (λ (q : List Held). at.before ++ q ∷ at.after) new_is in
      let left = more at.rest (ap (λ (q : List Held). length q == 0) (sym new_is) ∙ some) in
      (subst AreQueues (sym put) (more_left are at left.0 left.1 left.2), ap held_in put ∙ ap in_order (lines_both at.before (at.rest ∷ at.after)) ∙ popped_is at mine.is first)
    where
      more : (q : List Held) → (length q == 0) ≡ false → (x : Held) × (xs : List Held) × (q ≡ x ∷ xs)
      more [] filled = absurd (true≢false filled)
      more (x ∷ xs) filled = (x, xs, refl)

  -- its last line is taken out, and then the queue
  pub none_rest : (line : Option Held) (new : List Held) → line ≡ slice_get got 0 → new ≡ drop 1 got → (length new == 0) ≡ true → AreQueues (remove (slice_set queues place new) place) × (held_in (remove (slice_set queues place new) place) ≡ popped line (held_in queues))
  none_rest line new first rest none =
      let mine = got_at queues place t got are low here is in
      let at = mine.at in
      let new_is : new ≡ at.rest = rest ∙ ap (drop 1) mine.is in
      let left : at.rest ≡ [] = nil at.rest (ap (λ (q : List Held). length q == 0) (sym new_is) ∙ none) in
      let put : remove (slice_set queues place new) place ≡ at.before ++ at.after = ap (λ (l : List (List Held)). remove l place) (put_is new at) ∙ remove_at at.before new at.after place at.long in
      let lines : lines_of (at.before ++ at.after) ≡ others at = lines_both at.before at.after ∙ ap (λ (q : List Held). lines_of at.before ++ (q ++ lines_of at.after)) (sym left) in
      (subst AreQueues (sym put) (none_left are at left), ap held_in put ∙ ap in_order lines ∙ popped_is at mine.is first)
    where
      nil : (q : List Held) → (length q == 0) ≡ true → q ≡ []
      nil [] empty = refl
      nil (x ∷ xs) empty = absurd (omega (arith, eqb-true (length (x ∷ xs)) 0 empty))

  -- one more line
  pub line_pushed : (line : Held) (new : List Held) → line.owner ≡ t → AreBefore line.number (held_in queues) → new ≡ got ++ line ∷ [] → AreQueues (slice_set queues place new) × (held_in (slice_set queues place new) ≡ held_in queues ++ line ∷ [])
  line_pushed line new own before pushed =
      let mine = got_at queues place t got are low here is in
      let at = mine.at in
      let below = all_each (λ (x : Held). x.number < line.number) (held_in queues) before in
      let put : slice_set queues place new ≡ at.before ++ ((at.first ∷ at.rest) ++ line ∷ []) ∷ at.after =
      put_is new at ∙ ap (λ (q : List Held). at.before ++ q ∷ at.after) (pushed ∙ ap (λ (q : List Held). q ++ line ∷ []) mine.is) in
      (subst AreQueues (sym put) (more_at are at line (own ∙ sym mine.own) below), ap held_in put ∙ pushed_at are at line below)
