use Rattle.std.proofs.Common.{sym, ◌∙◌, ap, List, ◌++◌, ℕ}
use Rattle.std.proofs.lemmas.List.{append_cancel_left}
use Rattle.rss_access.proofs.Fronts.{no_prefix, has_prefix, same_bytes, other_bytes}
use Rattle.rss_access.proofs.edit.gone_front.Goals as goal
use Rattle.rss_access.proofs.edit.gone_front.Goals.{in_default-via-in-Some+else-eq, in_default-via-in_default}

pub returns-in-Some-clause-some : goal.returns-in-Some-clause-some
returns-in-Some-clause-some c = (
  c.blank_front-front.ensures,
  has_prefix c.args.body.now c.as_slice.result.now c.strip_prefix.result c.strip_prefix.ensures.cases c.in-Some.rest c.in-Some.is
      ∙ (λ i. c.as_slice.ensures.bytes i ++ same_bytes c.in-Some.rest.now c.args.values.now (sym c.if-eq.ensures) i),
)

pub returns-in_default-clause-none : goal.returns-in_default-clause-none
returns-in_default-clause-none c = λ none whole. elim c.in_default.branch [
  | in_default-via-in-Some+else-eq w ↦ other_bytes w.in-Some.rest.now c.args.values.now (sym w.if-eq.ensures) (append_cancel_left c.as_slice.result.now w.in-Some.rest.now c.args.values.now
      (sym (has_prefix c.args.body.now c.as_slice.result.now c.strip_prefix.result c.strip_prefix.ensures.cases w.in-Some.rest w.in-Some.is) ∙ whole ∙ ap (λ (front : List ℕ). front ++ c.args.values.now) (sym (c.as_slice.ensures.bytes ∙ c.blank_front-front.ensures))))
  | in_default-via-in_default w ↦ no_prefix c.args.body.now c.as_slice.result.now c.strip_prefix.result c.strip_prefix.ensures.cases w.in_default.is c.args.values.now
      (whole ∙ ap (λ (front : List ℕ). front ++ c.args.values.now) (sym (c.as_slice.ensures.bytes ∙ c.blank_front-front.ensures)))
]
