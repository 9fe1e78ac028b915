use Rattle.std.proofs.Common.{◌≡◌, ◌≢◌, ℕ, ◌<◌, List, [], length, get_or, sym, ◌∙◌, ap, subst}
use Rattle.std.specs.Prelude.{Some, option_copied}
use Rattle.rss_wait.specs.declared.held.Held.{Held}
use Rattle.rss_wait.specs.Held.{first_of}
use Rattle.rss_wait.specs.Queues.{owner_of}
use Rattle.rss_wait.proofs.Changed.{first_got, none_held}
use Rattle.rss_wait.proofs.held_lines.HeldLines.first.Goals as goal

pub returns-in_err-place : goal.returns-in_err-place
returns-in_err-place c =
    ap option_copied c.from_residual.ensures
    ∙ sym (none_held c.self.inside.queues.items c.args.owner c.self.invariant (subst (λ (l : List (List Held)). (k : ℕ) → k < length l → owner_of (get_or l k []) ≢ Some c.args.owner) c.deref.ensures.value c.in_err-place.ensures.none))
    ∙ ap (λ (l : List Held). first_of l c.args.owner) c.self.view_is

pub returns : goal.returns
returns c =
    let queues = c.self.inside.queues.items in
    let low : c.in_ok-place.place < length queues = subst (λ (l : List (List Held)). c.in_ok-place.place < length l) c.deref.ensures.value c.in_ok-place.ensures.within in
    let here : owner_of (get_or queues c.in_ok-place.place []) ≡ Some c.args.owner = ap (λ (l : List (List Held)). owner_of (get_or l c.in_ok-place.place [])) (sym c.deref.ensures.value) ∙ c.in_ok-place.ensures.here in
    c.first.ensures ∙ first_got queues c.in_ok-place.place c.args.owner c.index.result.now c.self.invariant low here c.index.ensures ∙ ap (λ (l : List Held). first_of l c.args.owner) c.self.view_is
