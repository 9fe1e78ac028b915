-- The lines of refusals that tell of a link are short, whatever name it has.
use Rattle.std.proofs.Common.{◌≡◌, ◌≤◌, length, arith, length-append}
use Rattle.std.specs.Prelude.{Err, codes}
use Rattle.rss_base.specs.declared.name.Name.{Name}
use Rattle.rss_base.specs.declared.refusal.Refusal.TheVariants.{Connected, NotConnected}
use Rattle.rss_model.specs.ReplyText.{answer_line}
use Rattle.rss_model.specs.Spellings.{name_text}
use Rattle.rss_session.proofs.Lines.{name_short}

pub connected_short : (link : Name) → length link.bytes ≡ 16 → length (answer_line (Err (Connected link))) ≤ 8192
connected_short link long = omega (arith, name_short link long, length-append (name_text link) (codes "\n"))

pub not_connected_short : (link : Name) → length link.bytes ≡ 16 → length (answer_line (Err (NotConnected link))) ≤ 8192
not_connected_short link long = omega (arith, name_short link long, length-append (name_text link) (codes "\n"))
