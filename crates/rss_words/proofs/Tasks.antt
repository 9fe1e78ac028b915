-- A word that is no task's.
use Rattle.std.proofs.Common.{◌≡◌, ℕ, List}
use Rattle.std.specs.Prelude.{codes}
use Rattle.rss_words.specs.Words.{task_name, IsTask}
use Rattle.rss_words.specs.declared.task.Task.{Task}
use Rattle.rss_words.specs.declared.task.Task.TheVariants.{Run, Talk}

pub no_task : {word : List ℕ} → (word ≡ codes "run" → ⊥) → (word ≡ codes "talk" → ⊥) → IsTask word → ⊥
no_task {word = word} run talk is = names is.task is.spelled
  where
    names : (task : Task) → word ≡ task_name task → ⊥
    names Run spelled = run spelled
    names Talk spelled = talk spelled
