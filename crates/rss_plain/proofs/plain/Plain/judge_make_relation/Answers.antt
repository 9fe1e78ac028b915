use Rattle.std.proofs.Common.{sym}
use Rattle.rss_plain.specs.View.{machine}
use Rattle.rss_plain.proofs.DefinitionTests.{judged_make_relation}
use Rattle.rss_plain.proofs.plain.Plain.judge_make_relation.Goals as goal

pub returns : goal.returns
returns c =
    rw (
      c.or-5.ensures,
      c.or-4.ensures,
      c.or-3.ensures,
      c.or-2.ensures,
      c.or.ensures,
      c.if_any_open.ensures,
      c.unless_segment.ensures,
      c.if_relation_taken.ensures,
      c.if_relations_used_up.ensures,
      c.unless_formed.ensures,
      c.unless_slim.ensures,
      c.as_slice.ensures,
      c.as_slice-2.ensures,
    )
    (sym (judged_make_relation (machine c.args.self.now) c.args.name.now c.args.segment.now c.args.fields.now))
