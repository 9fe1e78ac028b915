use Rattle.std.proofs.Common.{◌≡◌, ◌∙◌, ap, sym, rules, arith}
use Rattle.std.proofs.lemmas.Option.{same_Some}
use Rattle.rss_base.specs.declared.relation.RelationEntry.{RelationEntry}
use Rattle.rss_session.proofs.Admitted.{used_up, some_left}
use Rattle.rss_session.proofs.session.Session.test_limit.Goals as goal

pub returns-then-saturating_add-from : goal.returns-then-saturating_add-from
returns-then-saturating_add-from g c = λ entry at. (
  λ told state shows.
      let same : c.relation.result.now ≡ entry = same_Some _ _ (sym c.relation.ensures.is ∙ at) in
      used_up shows c.args.number entry at c.relation_sums-deleted.result c.relation_sums-deleted.ensures (omega (arith, c.if-saturating_add-from.true, c.saturating_add.ensures, c.from.ensures, c.from-live.ensures, ap (λ (r : RelationEntry). r.live) same)),
  search rules,
)

pub returns : goal.returns
returns g c = λ entry at told state shows.
    let same : c.relation.result.now ≡ entry = same_Some _ _ (sym c.relation.ensures.is ∙ at) in
    some_left shows c.args.number entry at c.relation_sums-deleted.result c.relation_sums-deleted.ensures (omega (arith, c.if-saturating_add-from.false, c.saturating_add.ensures, c.from.ensures, c.from-live.ensures, ap (λ (r : RelationEntry). r.live) same))
