use Rattle.std.proofs.Common.{sym}
use Rattle.rss_plain.specs.View.{machine}
use Rattle.rss_plain.proofs.DefinitionTests.{judged_make_image}
use Rattle.rss_plain.proofs.plain.Plain.judge_make_image.Goals as goal

pub returns : goal.returns
returns c =
    rw (
      c.or-7.ensures,
      c.or-6.ensures,
      c.or-5.ensures,
      c.or-4.ensures,
      c.or-3.ensures,
      c.or-2.ensures,
      c.or.ensures,
      c.if_any_open.ensures,
      c.unless_relation.ensures,
      c.unless_fields.ensures,
      c.if_image_taken.ensures,
      c.if_images_used_up.ensures,
      c.unless_some.ensures,
      c.in_ok-wide.ensures,
      c.in_ok-repeated.ensures,
    )
    (sym (judged_make_image (machine c.args.self.now) c.args.name.now c.args.relation.now c.args.is_unique
    c.args.fields.now))
