use Rattle.std.proofs.Common.{◌≡◌, ◌<◌, ℕ, Bool, List, [], ◌∷◌, ◌++◌, length, get_or, true, false, sym, ◌∙◌, ap, subst, arith, length-set}
use Rattle.std.specs.Prelude.{◌==◌, slice_set}
use Rattle.std.specs.List.{refill}
use Rattle.rss_wait.specs.declared.wait.Wait.{Wait}
use Rattle.rss_wait.specs.Waits.{WaitsView, is_in, waiting_for}
use Rattle.rss_wait.specs.Kept.{AreWaiting, waiters}
use Rattle.rss_wait.proofs.Keeping.{wait_kept, room_waits, put_there, put_last, none_waits, refilled}
use Rattle.rss_wait.proofs.waits.Waits.put.Goals as goal

is_there : (c : goal.After-self-1) → refill (length c.self.inside.waits.items) c.self.inside.waits.items (slice_set c.deref_mut.result.now c.in-Some.place c.args.wait) ≡ waiting_for c.args.wait.by c.args.wait.holder c.self.inside.waits.items
is_there c =
    let waits = c.self.inside.waits.items in
    let wait : Wait = record { by = c.args.wait.by; holder = c.args.wait.holder; again = false } in
    let new : c.args.wait ≡ wait = ap (λ (b : Bool). record { by = c.args.wait.by; holder = c.args.wait.holder; again = b }) c.requires.new in
    let same : c.deref.result.now ≡ waits = c.deref.ensures.0 in
    ap (λ (l : List Wait). refill (length waits) waits (slice_set l c.in-Some.place c.args.wait)) c.deref_mut.ensures.value
    ∙ refilled waits (slice_set waits c.in-Some.place c.args.wait) (length-set waits c.in-Some.place c.args.wait)
    ∙ ap (slice_set waits c.in-Some.place) new
    ∙ put_there waits c.args.wait.by c.args.wait.holder c.in-Some.place wait
    (subst (λ (l : List Wait). c.in-Some.place < length l) same c.in-Some.ensures.within)
    (ap (λ (l : List Wait). (get_or l c.in-Some.place wait).by == c.args.wait.by) (sym same) ∙ c.in-Some.ensures.here wait)
    (λ k less. ap (λ (l : List Wait). (get_or l k wait).by == c.args.wait.by) (sym same) ∙ c.in-Some.ensures.first k wait less)

is_last : (c : goal.After-push) → c.push.new.self.items ≡ waiting_for c.args.wait.by c.args.wait.holder c.self.inside.waits.items
is_last c =
    let waits = c.self.inside.waits.items in
    let wait : Wait = record { by = c.args.wait.by; holder = c.args.wait.holder; again = false } in
    let new : c.args.wait ≡ wait = ap (λ (b : Bool). record { by = c.args.wait.by; holder = c.args.wait.holder; again = b }) c.requires.new in
    c.push.ensures.items ∙ ap (λ (w : Wait). waits ++ w ∷ []) new
    ∙ put_last waits c.args.wait.by c.args.wait.holder
    (none_waits waits c.args.wait.by wait (subst (λ (l : List Wait). (k : ℕ) → k < length l → ((get_or l k wait).by == c.args.wait.by) ≡ false) c.deref.ensures.0 (λ k low. c.in-None.ensures.none k wait low)))

pub invariant_of-self : goal.invariant_of-self
invariant_of-self c =
    let there : is_in c.self.inside.opened.items c.args.wait.by ≡ true = ap (λ (v : WaitsView). is_in v.opened c.args.wait.by) c.self.view_is ∙ c.requires.open in
    subst (AreWaiting c.self.inside.opened.items) (sym (is_there c)) (wait_kept c.self.inside.opened.items c.self.inside.waits.items c.args.wait.by c.args.wait.holder there c.self.invariant)

pub push-requires : goal.push-requires
push-requires c =
    let there : is_in c.self.inside.opened.items c.args.wait.by ≡ true = ap (λ (v : WaitsView). is_in v.opened c.args.wait.by) c.self.view_is ∙ c.requires.open in
    let away : is_in (waiters c.self.inside.waits.items) c.args.wait.by ≡ false =
    none_waits c.self.inside.waits.items c.args.wait.by c.args.wait (subst (λ (l : List Wait). (k : ℕ) → k < length l → ((get_or l k c.args.wait).by == c.args.wait.by) ≡ false) c.deref.ensures.0 (λ k low. c.in-None.ensures.none k c.args.wait low)) in
    (omega arith, room_waits c.self.inside.opened.items c.self.inside.waits.items c.args.wait.by c.self.invariant there away)

pub invariant_of-self-in-None : goal.invariant_of-self-in-None
invariant_of-self-in-None c =
    let there : is_in c.self.inside.opened.items c.args.wait.by ≡ true = ap (λ (v : WaitsView). is_in v.opened c.args.wait.by) c.self.view_is ∙ c.requires.open in
    subst (AreWaiting c.self.inside.opened.items) (sym (is_last c)) (wait_kept c.self.inside.opened.items c.self.inside.waits.items c.args.wait.by c.args.wait.holder there c.self.invariant)

pub returns-in-Some : goal.returns-in-Some
returns-in-Some c =
    ap (λ (l : List Wait). record { opened = c.self.inside.opened.items; waits = l }) (is_there c)
    ∙ ap (λ (v : WaitsView). record { opened = v.opened; waits = waiting_for c.args.wait.by c.args.wait.holder v.waits }) c.self.view_is

pub returns-in-None : goal.returns-in-None
returns-in-None c =
    ap (λ (l : List Wait). record { opened = c.self.inside.opened.items; waits = l }) (is_last c)
    ∙ ap (λ (v : WaitsView). record { opened = v.opened; waits = waiting_for c.args.wait.by c.args.wait.holder v.waits }) c.self.view_is
