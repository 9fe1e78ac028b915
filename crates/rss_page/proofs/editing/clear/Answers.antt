use Rattle.std.proofs.Common.{List, ℕ, replicate, refl, sym, subst}
use Rattle.rss_page.specs.Content.{Empty}
use Rattle.rss_page.specs.Slotted.{Becomes, EndBy}
use Rattle.rss_page.proofs.Cleared.{cleared, cleared_zeros, empty_ends}
use Rattle.rss_page.proofs.editing.clear.Goals as goal

pub returns-clause-becomes : goal.returns-clause-becomes
returns-clause-becomes c = subst (λ (l : List ℕ). Becomes c.args.page.now l (replicate 128 Empty)) (sym c.put_bytes.ensures) (cleared c.args.page.now (replicate 1024 0) c.requires refl)

pub returns-clause-ends : goal.returns-clause-ends
returns-clause-ends c = subst (λ (l : List ℕ). EndBy l 1040) (sym c.put_bytes.ensures) (empty_ends _ (cleared_zeros c.args.page.now (replicate 1024 0) c.requires.size refl))
