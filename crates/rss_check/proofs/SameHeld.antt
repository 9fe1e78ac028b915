-- Pages that were only looked at hold what they held.
use Rattle.std.proofs.Common.{ℕ, subst}
use Rattle.std.specs.Prelude.{Result}
use Rattle.rss_base.specs.DiskRule.{IsTold}
use Rattle.rss_base.specs.Paged.{Held}
use Rattle.rss_base.specs.Steps.{PagesView, Keys}
use Rattle.rss_base.specs.Looking.{ChecksPages}
use Rattle.rss_base.specs.declared.fault.PageFault.{PageFault}

-- what holds of the pages held of them before
pub held_back : {T : Type 0} {noted : Keys} {asks : ℕ} {old new : PagesView} {result : Result T PageFault}
    → ChecksPages noted asks old new result
    → IsTold old.disk → (P : Held → ℕ → Type 0) → P new.held new.slots → P old.held old.slots
held_back {old = old} {new = new} did told P is =
    subst (λ (h : Held). P h old.slots) (did.looks.held told) (subst (P new.held) did.looks.step.passes.slots is)
