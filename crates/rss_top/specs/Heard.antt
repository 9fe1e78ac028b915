-- What a line got, as the turn and the reply that it made.
use Rattle.std.specs.Prelude.{Err}
use Rattle.rss_base.specs.declared.refusal.Refusal.TheVariants.{Words}
use Rattle.rss_model.specs.ReplyText.{answer_line}
use Rattle.rss_model.specs.Plays.{Made, nothing, only_text, one_turn}
use Rattle.rss_top.specs.declared.heard.Heard.{Heard}
use Rattle.rss_top.specs.declared.heard.Heard.TheVariants.{Blank, NoCall, Called}

abbrev pub made_of : Heard → Made
made_of Blank = nothing
made_of NoCall = only_text (answer_line (Err Words))
made_of (Called call answer) = one_turn call answer
