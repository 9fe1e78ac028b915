-- What tellings have, and their manner.
use Rattle.std.proofs.Common.{◌≡◌, ℕ, List, [], ◌∷◌, ◌++◌, refl, sym, ◌∙◌, ap, subst}
use Rattle.std.proofs.lemmas.List.{append-nil}
use Rattle.rss_model.specs.Machine.{State}
use Rattle.rss_model.specs.Runs.{Turn, Run}
use Rattle.rss_model.specs.Runs.Run.{stays, turns}
use Rattle.rss_model.specs.Plays.{Scene, Made, nothing, both_made, LineStep, Play}
use Rattle.rss_model.specs.Plays.LineStep.{blank, words, call}
use Rattle.rss_model.specs.Plays.Play.{none as no_play, more as line_more}
use Rattle.rss_top.specs.Manners.{Stand, Input, Line, Again, Over, lines_in, IsSound}
use Rattle.rss_top.specs.Tellings.{Telling, IsTelling, Kept, ToldInput, ToldPlays, told_by, plainly, talking}
use Rattle.rss_top.specs.Tellings.Echoes.{none as no_echo, more as one_echo}

-- ---- a play is a run of the machine

line_runs : {first : State} {old new : Scene} (made : Made) {said : Made} {line : List ℕ}
    → Run first made.turns old.state → LineStep old line said new
    → Run first (both_made made said).turns new.state
line_runs {first = first} {old = old} made run (blank is) =
    subst (λ (l : List Turn). Run first l old.state) (sym (append-nil made.turns)) run
line_runs {first = first} {old = old} made run (words is) =
    subst (λ (l : List Turn). Run first l old.state) (sym (append-nil made.turns)) run
line_runs made run (call spells step) = turns _ run step

play_is_run : {first last : Scene} {lines : List (List ℕ)} {made : Made}
    → Play first lines made last → Run first.state made.turns last.state
play_is_run no_play = stays
play_is_run (line_more {made = made} play step) = line_runs made (play_is_run play) step

-- ---- the manner of a telling

pub lines-append : (inputs others : List Input)
    → lines_in (inputs ++ others) ≡ lines_in inputs ++ lines_in others
lines-append [] others = refl
lines-append (Line line ∷ inputs) others =
    ap (λ (l : List (List ℕ)). line ∷ l) (lines-append inputs others)
lines-append (Again ∷ inputs) others = lines-append inputs others
lines-append (Over ∷ inputs) others = lines-append inputs others

told_more : (telling : Telling) → IsTelling telling
    → (first from next : Stand (Kept telling.Memory)) (inputs : List Input) (input : Input)
    (made said : Made)
    → ToldPlays telling first (lines_in inputs) made from → ToldInput telling from input said next
    → ToldPlays telling first (lines_in (inputs ++ input ∷ [])) (both_made made said) next
told_more telling is first from next inputs (Line line) made said plays move =
    subst (λ (l : List (List ℕ)). ToldPlays telling first l (both_made made said) next)
    (sym (lines-append inputs (Line line ∷ []))) (record {
      said = both_made plays.said move.said;
      play = line_more plays.play move.step;
      turns = ap (λ (l : List Turn). l ++ said.turns) plays.turns
          ∙ ap (λ (l : List Turn). plays.said.turns ++ l) move.turns;
      text = subst
          (λ (l : List ℕ).
          telling.Tells (lines_in inputs ++ line ∷ []) (plays.said.text ++ move.said.text)
          (made.text ++ l))
          (sym move.text)
          (is.more (lines_in inputs) plays.said.text made.text from.memory.memory line move.said
          plays.text);
    })
told_more telling is first from next inputs Again made said plays move = absurd move
told_more telling is first from next inputs Over made said plays move = absurd move

pub told_sound : (telling : Telling) → IsTelling telling → IsSound (told_by telling)
told_sound telling is = record {
  lines = λ line. tt;
  none = λ first. record { said = nothing; play = no_play; turns = refl; text = is.none };
  more = λ first from next inputs input made said plays move.
      told_more telling is first from next inputs input made said plays move;
  run = λ first last inputs made plays.
      subst (λ (l : List Turn). Run first.state l last.state) (sym plays.turns)
      (play_is_run plays.play);
}

-- ---- the tellings

pub plainly_tells : IsTelling plainly
plainly_tells = record {
  none = refl;
  more = λ lines replies text memory line said is. ap (λ (l : List ℕ). l ++ said.text) is;
}

pub talking_tells : IsTelling talking
talking_tells = record {
  none = no_echo;
  more = λ lines replies text memory line said echoes. one_echo line said.text echoes;
}
