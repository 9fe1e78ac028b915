-- Bodies of which some bytes were changed.
use Rattle.std.proofs.Common.{◌≡◌, List, [], ◌++◌, Some, ℕ, ◌+◌, ◌-◌, ◌≤◌, length, take, drop, refl, sym, ◌∙◌, ap, subst, arith, append_assoc}
use Rattle.std.proofs.lemmas.List.{length-append, length-take, length-drop, take_at, drop_at, take-append-le, take-take, drop-drop, take-append-drop, append-nil}
use Rattle.std.proofs.Math.Seq.{drop-append-add}
use Rattle.rss_base.specs.DiskRule.{IsTold}
use Rattle.rss_base.specs.Steps.{no_page, with_bytes}
use Rattle.rss_base.specs.declared.tid.Tid.{Tid}
use Rattle.rss_tuple.specs.Calls.{IsNoLonger}
use Rattle.rss_tuple.specs.Directory.{Bodies, with_body}
use Rattle.rss_tuple.specs.Placing.{TakesOnly}
use Rattle.rss_tuple.specs.TupleSteps.{TuplesView, no_tuple}
use Rattle.rss_link.specs.Blocks.{HasBytes}
use Rattle.rss_link.specs.Links.{AgreeOff}
use Rattle.rss_link.specs.Edits.{bytes_of, PutsBytes}
use Rattle.rss_link.proofs.TupleSteps.{TuplesStep, told_then, same_bodies, takes_after}

rest_back : (a b : ℕ) → a ≤ b → a + (b - a) ≡ b
rest_back a b le = omega (arith, le)

pub length-with_bytes : (body : List ℕ) (at : ℕ) (bytes : List ℕ) → at + length bytes ≤ length body → length (with_bytes body at bytes) ≡ length body
length-with_bytes body at bytes room = omega (arith, room, length-append (take at body) (bytes ++ drop (at + length bytes) body), length-append bytes (drop (at + length bytes) body), length-take at body, length-drop (at + length bytes) body)

-- bytes that are put into the body that was read
module _ {cost : ℕ} {old mid : TuplesView} (step : TuplesStep no_page no_tuple cost old mid) (new : TuplesView) (segment : ℕ) (tid : Tid) (at : ℕ) (bytes body edited : List ℕ)
    (is : edited ≡ with_bytes body at bytes) (room : at + length bytes ≤ length body) (read : IsTold old.pages.disk → old.bodies segment tid ≡ Some body) where
  pub puts_after : (IsTold mid.pages.disk → new.bodies ≡ with_body mid.bodies segment tid (Some edited)) → IsTold old.pages.disk → PutsBytes (bytes_of segment tid at bytes) old.bodies new.bodies
  puts_after put told = record {
    reaches = record { body = body; there = read told; room = room };
    now = put (told_then step told) ∙ (λ i. with_body (same_bodies step told i) segment tid (Some (is i)));
  }

  pub takes_for : (IsTold mid.pages.disk → IsNoLonger mid segment tid (length edited) → TakesOnly no_page mid.pages new.pages) → IsTold old.pages.disk → TakesOnly no_page old.pages new.pages
  takes_for takes told = takes_after new.pages step (takes (told_then step told) (record {
    bytes = body;
    body = ap (λ (b : Bodies). b segment tid) (same_bodies step told) ∙ read told;
    most = omega (arith, ap length is, length-with_bytes body at bytes room);
  }))

-- ---- bytes among others

append_three : (f x p q : List ℕ) → f ++ (x ++ (p ++ q)) ≡ (f ++ x) ++ (p ++ q)
append_three f x p q = sym (append_assoc f x (p ++ q))

-- bytes in the middle, overwritten by as many
overwritten : (f x p p' q : List ℕ) (k : ℕ) → length p ≡ length p' → k ≡ length f + length x → with_bytes (f ++ (x ++ (p ++ q))) k p' ≡ f ++ (x ++ (p' ++ q))
overwritten f x p p' q k long at =
    let here : k ≡ length (f ++ x) = omega (arith, at, length-append f x) in
    let front : take k (f ++ (x ++ (p ++ q))) ≡ f ++ x = ap (take k) (append_three f x p q) ∙ take_at (f ++ x) (p ++ q) k (sym here) in
    let far : k + length p' ≡ length ((f ++ x) ++ p) = omega (arith, here, long, length-append (f ++ x) p) in
    let back : drop (k + length p') (f ++ (x ++ (p ++ q))) ≡ q = ap (drop (k + length p')) (append_three f x p q ∙ sym (append_assoc (f ++ x) p q)) ∙ drop_at ((f ++ x) ++ p) q (k + length p') (sym far) in
    (λ i. front i ++ (p' ++ back i)) ∙ append_assoc f x (p' ++ q)

-- bytes stand where they were put
pub bytes_there : (f b r : List ℕ) (at : ℕ) → at ≡ length f → HasBytes (f ++ (b ++ r)) at b
bytes_there f b r at is = ap (take (length b)) (drop_at f (b ++ r) at (sym is)) ∙ take_at b r (length b) refl

pub has_parts : (body b : List ℕ) (at : ℕ) → HasBytes body at b → body ≡ take at body ++ (b ++ drop (length b) (drop at body))
has_parts body b at has = sym (take-append-drop at body) ∙ ap (λ (l : List ℕ). take at body ++ l) (sym (take-append-drop (length b) (drop at body)) ∙ ap (λ (l : List ℕ). l ++ drop (length b) (drop at body)) has)

pub length-front : (body : List ℕ) (at : ℕ) → at ≤ length body → at ≡ length (take at body)
length-front body at low = omega (arith, low, length-take at body)

-- a whole block is put
pub put_whole : (body bytes : List ℕ) (at : ℕ) → at + length bytes ≤ length body → HasBytes (with_bytes body at bytes) at bytes
put_whole body bytes at room = bytes_there (take at body) bytes (drop (at + length bytes) body) at (length-front body at (omega (arith, room)))

-- a pointer within a block is put
pub put_within : (body x p p' y : List ℕ) (at k : ℕ) → at ≤ length body → length p ≡ length p' → k ≡ at + length x → HasBytes body at (x ++ (p ++ y)) → HasBytes (with_bytes body k p') at (x ++ (p' ++ y))
put_within body x p p' y at k low long is has =
    let r : List ℕ = drop (length (x ++ (p ++ y))) (drop at body) in
    let f : List ℕ = take at body in
    let front : at ≡ length f = length-front body at low in
    let parts : body ≡ f ++ (x ++ (p ++ (y ++ r))) = has_parts body (x ++ (p ++ y)) at has ∙ ap (λ (l : List ℕ). f ++ l) (append_assoc x (p ++ y) r ∙ ap (λ (l : List ℕ). x ++ l) (append_assoc p y r)) in
    let whole : with_bytes body k p' ≡ f ++ ((x ++ (p' ++ y)) ++ r) = ap (λ (l : List ℕ). with_bytes l k p') parts ∙ overwritten f x p p' (y ++ r) k long (omega (arith, is, front)) ∙ ap (λ (l : List ℕ). f ++ l) (ap (λ (l : List ℕ). x ++ l) (sym (append_assoc p' y r)) ∙ sym (append_assoc x (p' ++ y) r)) in
    subst (λ (l : List ℕ). HasBytes l at (x ++ (p' ++ y))) (sym whole) (bytes_there f (x ++ (p' ++ y)) r at front)

-- the last pointer of a block is put
pub put_last : (body x p p' : List ℕ) (at k : ℕ) → at ≤ length body → length p ≡ length p' → k ≡ at + length x → HasBytes body at (x ++ p) → HasBytes (with_bytes body k p') at (x ++ p')
put_last body x p p' at k low long is has =
    subst (λ (l : List ℕ). HasBytes (with_bytes body k p') at (x ++ l)) (append-nil p')
    (put_within body x p p' [] at k low long is (subst (λ (l : List ℕ). HasBytes body at (x ++ l)) (sym (append-nil p)) has))

-- no other bytes are changed
pub agree_off : (body bytes : List ℕ) (at size k : ℕ) → at ≤ k → k + length bytes ≤ at + size → at + size ≤ length body → AgreeOff at size body (with_bytes body k bytes)
agree_off body bytes at size k from until room =
    let long : k ≡ length (take k body) = length-front body k (omega (arith, until, room)) in
    let rest : List ℕ = bytes ++ drop (k + length bytes) body in
    let far : at + size ≡ length (take k body ++ bytes) + (at + size - (k + length bytes)) = omega (arith, long, until, length-append (take k body) bytes) in
    record {
      same_length = length-with_bytes body k bytes (omega (arith, until, room));
      front = take-append-le at (take k body) rest (omega (arith, long, from)) ∙ take-take at k body from;
      back = ap (drop (at + size)) (sym (append_assoc (take k body) bytes (drop (k + length bytes) body))) ∙ ap (λ (n : ℕ). drop n ((take k body ++ bytes) ++ drop (k + length bytes) body)) far
          ∙ drop-append-add (take k body ++ bytes) (drop (k + length bytes) body) (at + size - (k + length bytes))
          ∙ drop-drop (at + size - (k + length bytes)) (k + length bytes) body ∙ ap (λ (n : ℕ). drop n body) (rest_back (k + length bytes) (at + size) until);
    }
