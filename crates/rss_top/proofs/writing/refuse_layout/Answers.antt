use Rattle.std.proofs.Common.{List, ℕ, ◌++◌, ◌∙◌, ap, subst}
use Rattle.rss_model.specs.ReplyText.{not_a_store_line}
use Rattle.rss_top.specs.Says.{Says}
use Rattle.rss_top.specs.declared.status.Status.TheVariants.{NotAStore}
use Rattle.rss_top.proofs.writing.refuse_layout.Goals as goal

pub returns : goal.returns
returns g c =
    subst (λ (l : List ℕ). Says (NotAStore c.args.place) l c.end_with.result (g.K.Sink.view c.args.sink.now) (g.K.Sink.view c.end_with.new.sink))
    (c.as_slice.ensures.value ∙ c.in-Ok.ensures.ok ∙ ap (λ (l : List ℕ). l ++ not_a_store_line c.args.place) c.new-line.ensures.items) c.end_with.ensures
