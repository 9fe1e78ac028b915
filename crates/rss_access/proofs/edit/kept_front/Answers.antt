use Rattle.std.proofs.Common.{sym, ◌∙◌, ap, subst, ℕ, List, ◌++◌}
use Rattle.std.proofs.lemmas.Bool.{true≢false}
use Rattle.std.proofs.lemmas.List.{append_cancel_right}
use Rattle.rss_access.specs.Alterations.{BeginsWith}
use Rattle.rss_access.proofs.Fronts.{no_suffix, has_suffix}
use Rattle.rss_access.proofs.edit.kept_front.Goals as goal
use Rattle.rss_access.proofs.edit.kept_front.Goals.{in_default-via-in-Some+else-begins_with, in_default-via-in_default}

pub returns-in_default-clause-none : goal.returns-in_default-clause-none
returns-in_default-clause-none c = λ none front begins same. elim c.in_default.branch [
  | in_default-via-in-Some+else-begins_with w ↦
      let whole = has_suffix c.args.body.now c.args.values.now c.strip_suffix.result c.strip_suffix.ensures.cases w.in-Some.kept w.in-Some.is in
      let one = append_cancel_right front w.in-Some.kept.now c.args.values.now (sym same ∙ whole) in
      true≢false (sym (w.begins_with.ensures.no (subst (BeginsWith c.args.catalog.now.listing c.args.number) one begins)) ∙ w.if-begins_with.false)
  | in_default-via-in_default w ↦ no_suffix c.args.body.now c.args.values.now c.strip_suffix.result c.strip_suffix.ensures.cases w.in_default.is front same
]

pub returns-in-Some-clause-some : goal.returns-in-Some-clause-some
returns-in-Some-clause-some c =
    let same = c.extend_from_slice.ensures ∙ ap (λ (b : List ℕ). b ++ c.in-Some.kept.now) c.new-front.ensures in (
      subst (BeginsWith c.args.catalog.now.listing c.args.number) (sym same) (c.begins_with.ensures.yes c.if-begins_with.true),
      has_suffix c.args.body.now c.args.values.now c.strip_suffix.result c.strip_suffix.ensures.cases c.in-Some.kept c.in-Some.is ∙ ap (λ (b : List ℕ). b ++ c.args.values.now) (sym same),
    )
