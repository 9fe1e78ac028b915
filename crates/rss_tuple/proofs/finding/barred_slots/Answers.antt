use Rattle.std.proofs.Common.{◌≡◌, inl, inr, ℕ, Bool, true, false, refl, sym, ◌∙◌, replicate, arith}
use Rattle.std.proofs.lemmas.Bool.{cases_lt}
use Rattle.std.proofs.lemmas.List.{get_or_past, get_or-replicate}
use Rattle.std.proofs.Common.{get_or}
use Rattle.rss_tuple.proofs.finding.barred_slots.Goals as goal

no_marks : (slot : ℕ) → get_or (replicate {A = Bool} 128 false) slot false ≡ false
no_marks slot = elim (cases_lt slot 128) [
  | inl low ↦ get_or-replicate 128 slot false false low
  | inr high ↦ get_or_past (replicate {A = Bool} 128 false) slot false high
]

pub loop-tid-init : goal.loop-tid-init
loop-tid-init c = record {
  long = refl;
  barred = λ slot is. let never : false ≡ true = sym (no_marks slot) ∙ is in absurd (cc);
  marked = λ k slot low. absurd (omega arith);
}
