use Rattle.std.proofs.Common.{◌≡◌, ◌+◌, Bool, List, ◌∙◌, ap}
use Rattle.std.specs.Prelude.{count_by, nat_le}
use Rattle.rss_base.specs.declared.item.Item.{Item}
use Rattle.rss_base.specs.declared.refusal.LimitKind.TheVariants.{Tuples}
use Rattle.rss_base.specs.declared.refusal.Refusal.TheVariants.{Limit}
use Rattle.rss_model.specs.Items.{Content, is_tuple_of}
use Rattle.rss_model.specs.Tables.{tuple_count}
use Rattle.rss_model.specs.Fits.{tuple_limit}
use Rattle.rss_model.specs.Machine.{now}
use Rattle.rss_model.specs.Defining.{refused_if}
use Rattle.rss_plain.specs.View.{machine}
use Rattle.rss_plain.proofs.Free.{counted}
use Rattle.rss_plain.proofs.plain.Plain.if_used_up.Goals as goal

pub returns : goal.returns
returns c =
    let contents = (now (machine c.args.self.now)).contents in
    let relation = c.args.relation.now in
    let live : c.count_in-live.result ≡ tuple_count contents relation =
    c.count_in-live.ensures
    ∙ ap (λ (l : List (Item × Content)). count_by (λ (one : Item × Content). is_tuple_of relation one.0) l)
    c.entries.ensures ∙ counted contents relation in
    c.refused_if.ensures
    ∙ ap (λ (b : Bool). refused_if b (Limit Tuples))
    (c.is_used_up.ensures ∙ (λ i. nat_le tuple_limit (live i + c.deleted-deleted.ensures i)))
