use Rattle.std.proofs.Common.{refl}
use Rattle.rss_node.proofs.Headers.{formed_read, is_read, not_read}
use Rattle.rss_node.proofs.node.LentNode.read.Goals as goal

pub invariant_of-result : goal.invariant_of-result
invariant_of-result c = record { formed = formed_read c.args.of c.args.level c.args.number c.args.page.now c.requires c.fits-page c.told-page (c.if-has_form.ensures.0 refl); bytes = c.fits-page }

pub returns-then-has_form : goal.returns-then-has_form
returns-then-has_form c = record {
  spelled = record { formed = formed_read c.args.of c.args.level c.args.number c.args.page.now c.requires c.fits-page c.told-page (c.if-has_form.ensures.0 refl); says = refl };
  is = is_read c.args.of c.args.level c.args.number c.args.page.now c.ranges.number.fits (c.if-has_form.ensures.0 refl);
  none = tt;
}

pub returns-else-has_form : goal.returns-else-has_form
returns-else-has_form c = record {
  spelled = tt;
  is = tt;
  none = not_read c.args.of c.args.level c.args.number c.args.page.now c.fits-page (λ form. let never = c.if-has_form.ensures.1 form in absurd (cc));
}
