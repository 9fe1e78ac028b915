-- How calls of `Pages` follow one another.
use Rattle.std.proofs.Common.{refl, ◌∙◌, subst}
use Rattle.rss_base.specs.DiskRule.{Disk}
use Rattle.rss_base.specs.Paged.{Fixed, HasFixed, LeavesFixed}
use Rattle.rss_base.proofs.Moments.{then, started}

-- one call after another
pub leaves_then : {settled settled_mid settled_now : Type 0} {old mid new : Disk} {before between after : Fixed} → LeavesFixed settled settled_mid old mid before between → LeavesFixed settled_mid settled_now mid new between after → LeavesFixed settled settled_now old new before after
leaves_then one two = record {
  told = (λ is. two.told.0 (one.told.0 is), λ is. one.told.1 (two.told.1 is));
  stays_settled = λ is. two.stays_settled (one.stays_settled is);
  same = λ is told. two.same (one.stays_settled is) (one.told.0 told) ∙ one.same is told;
  moments = λ is told. then (one.moments is told) (two.moments (one.stays_settled is) (one.told.0 told)) (λ image has. subst (λ (f : Fixed). HasFixed f image) (one.same is told) has);
}

-- nothing is done
pub leaves_rests : (settled : Type 0) (disk : Disk) (fixed : Fixed) → LeavesFixed settled settled disk disk fixed fixed
leaves_rests settled disk fixed = record {
  told = (λ is. is, λ is. is);
  stays_settled = λ is. is;
  same = λ is told. refl;
  moments = λ is told. started disk (HasFixed fixed);
}
