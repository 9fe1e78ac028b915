use Rattle.std.proofs.Common.{◌≡◌, ℕ, List, [], ◌∷◌, ◌++◌, refl, Ok, Err}
use Rattle.rss_model.specs.Steps.{Answer}
use Rattle.rss_model.specs.ReplyText.{answer_line, reply_text, refusal_text}
use Rattle.rss_top.specs.Tellings.{echoed}
use Rattle.rss_top.proofs.telling.append_echo.Goals as goal

echoed_text : (line text : List ℕ) → echoed line (text ++ 10 ∷ []) ≡ line ++ 10 ∷ (text ++ 10 ∷ [])
echoed_text line [] = refl
echoed_text line (b ∷ text) = refl

-- an answer's line is no empty one
echoed_answer : (line : List ℕ) (answer : Answer) → echoed line (answer_line answer) ≡ line ++ 10 ∷ answer_line answer
echoed_answer line (Ok reply) = echoed_text line (reply_text reply)
echoed_answer line (Err why) = echoed_text line (refusal_text why)

pub returns-in-Called : goal.returns-in-Called
returns-in-Called c = rw (c.in-Called.is, echoed_answer) c.append_told-in-Called.ensures
