-- The line of a refusal for a tuple that isn't there is short, whatever name it has.
use Rattle.std.proofs.Common.{◌≡◌, ◌^◌, ◌<◌, ◌≤◌, ◌++◌, length, arith, length-append}
use Rattle.std.specs.Prelude.{Err, codes}
use Rattle.rss_base.specs.declared.name.Name.{Name}
use Rattle.rss_base.specs.declared.tid.Tid.{Tid}
use Rattle.rss_base.specs.declared.refusal.Refusal.TheVariants.{NoTuple}
use Rattle.rss_model.specs.Spellings.{name_text, tid_text}
use Rattle.rss_model.specs.ReplyText.{answer_line}
use Rattle.rss_session.proofs.Lines.{name_short, tid_short}

pub no_tuple_short : (relation : Name) (tid : Tid) → length relation.bytes ≡ 16 → tid.page < 2 ^ 32 → tid.slot < 2 ^ 32 → length (answer_line (Err (NoTuple relation tid))) ≤ 8192
no_tuple_short relation tid long page slot =
    omega (arith, name_short relation long, tid_short tid page slot, length-append (name_text relation ++ codes " " ++ tid_text tid) (codes "\n"), length-append (name_text relation ++ codes " ") (tid_text tid), length-append (name_text relation) (codes " "))
