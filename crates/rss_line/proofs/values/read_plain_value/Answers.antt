use Rattle.std.proofs.Common.{sym, subst, Some, w64, ℤ}
use Rattle.std.proofs.lemmas.Int.{to_z-of_z}
use Rattle.rss_base.specs.declared.value.Value.TheVariants.{Int}
use Rattle.rss_line.specs.Reads.{IsPlainValue, ReadsAs}
use Rattle.rss_line.proofs.ValueTexts.{reads_int}
use Rattle.rss_line.proofs.values.read_plain_value.Goals as goal

pub returns-in-Some : goal.returns-in-Some
returns-in-Some c = subst (λ (z : ℤ). ReadsAs (IsPlainValue c.args.word.now) (Some (Int z))) (sym (to_z-of_z w64 c.in-Some.number c.in-Some.ensures.some.proper))
    (reads_int c.args.word.now c.in-Some.number c.in-Some.ensures)
