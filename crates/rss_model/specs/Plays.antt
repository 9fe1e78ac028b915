-- The play of a script: the replies that its lines may get, one after another.
use Rattle.std.specs.Prelude.{ℕ, List, [], ◌∷◌, ◌++◌, Option, Some, None, Ok, Err}
use Rattle.rss_base.specs.declared.name.Name.{Name}
use Rattle.rss_base.specs.declared.call.Call.{Call}
use Rattle.rss_base.specs.declared.answer.Reply.TheVariants.{Tid, Number}
use Rattle.rss_base.specs.declared.refusal.Refusal.TheVariants.{Words}
use Rattle.rss_model.specs.Machine.{State}
use Rattle.rss_model.specs.Steps.{Answer, Step}
use Rattle.rss_model.specs.Runs.{Turn}
use Rattle.rss_model.specs.ReplyText.{answer_line}
use Rattle.rss_model.specs.Variables.{Meaning, Identifier, Number as Counted, Variable, with_meaning}
use Rattle.rss_model.specs.Forms.{Spells, IsBlank, IsWords}

-- what an answer has for a variable: an identifier or a number
abbrev pub meaning_in : Answer → Option Meaning
meaning_in (Ok (Tid tid)) = Some (Identifier tid)
meaning_in (Ok (Number n)) = Some (Counted n)
meaning_in answer = None

-- the variables, where one may stand for something from now on
abbrev pub set : List Variable → Name → Option Meaning → List Variable
set names name None = names
set names name (Some meaning) = with_meaning names name meaning

-- The variables behind an answer to a line that has a variable, or none. Where the answer has nothing
-- for it, the variable keeps what it had.
abbrev pub bound : List Variable → Option Name → Answer → List Variable
bound names None answer = names
bound names (Some name) answer = set names name (meaning_in answer)

-- Where a script stands: the machine's state, and what its variables stand for.
pub record Scene : Type 0 where
  pub state : State
  pub names : List Variable

-- no variable stands for anything
abbrev pub plain : State → Scene
plain state = record { state = state; names = [] }

-- what lines make: the turns of the machine, and the text that they get
pub record Made : Type 0 where
  pub turns : List Turn
  pub text : List ℕ

abbrev pub nothing : Made
nothing = record { turns = []; text = [] }

abbrev pub only_text : List ℕ → Made
only_text text = record { turns = []; text = text }

abbrev pub one_turn : Call → Answer → Made
one_turn call answer = record {
  turns = record { call = call; answer = answer } ∷ [];
  text = answer_line answer;
}

abbrev pub both_made : Made → Made → Made
both_made first second = record {
  turns = first.turns ++ second.turns;
  text = first.text ++ second.text;
}

-- From old, a line may make this, and lead to new.
pub data LineStep (old : Scene) : List ℕ → Made → Scene → Type 0 where
  blank : {line : List ℕ} → IsBlank line → LineStep old line nothing old
  words : {line : List ℕ} → IsWords old.names line
      → LineStep old line (only_text (answer_line (Err Words))) old
  call : {line : List ℕ} {variable : Option Name} {call : Call} {answer : Answer} {new : State}
      → Spells old.names line variable call → Step old.state call answer new
      → LineStep old line (one_turn call answer)
      (record { state = new; names = bound old.names variable answer })

-- From first, these lines may make this, and lead to a scene.
pub data Play (first : Scene) : List (List ℕ) → Made → Scene → Type 0 where
  none : Play first [] nothing first
  more : {lines : List (List ℕ)} {made : Made} {scene : Scene}
      {line : List ℕ} {said : Made} {new : Scene}
      → Play first lines made scene → LineStep scene line said new
      → Play first (lines ++ line ∷ []) (both_made made said) new
