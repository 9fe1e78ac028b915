use Rattle.std.proofs.Common.{◌+◌, drop, sym, ◌∙◌, ap, arith}
use Rattle.std.specs.Prelude.{Option, find, option_and_then}
use Rattle.std.proofs.lemmas.List.{at_drop_all}
use Rattle.rss_base.specs.declared.item.Item.{Item}
use Rattle.rss_model.specs.Items.{Content}
use Rattle.rss_model.specs.Defining.{fields_now}
use Rattle.rss_model.specs.Images.{has_key, tid_of}
use Rattle.rss_plain.specs.View.{machine}
use Rattle.rss_plain.proofs.Lists.{head_of}
use Rattle.rss_plain.proofs.Uniques.{find_past, find_here}
use Rattle.rss_plain.proofs.plain.Plain.owner_among.Goals as goal

pub loop-one-preserved : goal.loop-one-preserved
loop-one-preserved c =
    let held = c.args.held.now in
    let i = c.loop-one.one-index in
    let test = has_key c.args.image.now.relation
    (fields_now (machine c.args.self.now) c.args.image.now.relation) c.args.image.now.fields c.args.key.now
    c.args.but in
    sym (find_past test (drop i held) c.one-item.result (drop (i + 1) held)
    (head_of held i c.one-item.result c.loop-one-test.true c.one-item.is)
    (sym c.in_ok-has.ensures ∙ c.if-has.false))
    ∙ c.loop-one.invariant

pub returns-then-has : goal.returns-then-has
returns-then-has c =
    let held = c.args.held.now in
    let i = c.loop-one.one-index in
    let test = has_key c.args.image.now.relation
    (fields_now (machine c.args.self.now) c.args.image.now.relation) c.args.image.now.fields c.args.key.now
    c.args.but in
    c.tid.ensures ∙ ap (λ (o : Option (Item × Content)). option_and_then (λ (one : Item × Content). tid_of one.0) o)
    (sym (find_here test (drop i held) c.one-item.result (drop (i + 1) held)
    (head_of held i c.one-item.result c.loop-one-test.true c.one-item.is)
    (sym c.in_ok-has.ensures ∙ c.if-has.true))
    ∙ c.loop-one.invariant)

pub returns : goal.returns
returns c =
    let held = c.args.held.now in
    let test = has_key c.args.image.now.relation
    (fields_now (machine c.args.self.now) c.args.image.now.relation) c.args.image.now.fields c.args.key.now
    c.args.but in
    ap (λ (o : Option (Item × Content)). option_and_then (λ (one : Item × Content). tid_of one.0) o)
    (sym (at_drop_all (find test) held c.loop-one.one-index (omega arith)) ∙ c.loop-one.invariant)
