-- Pages that a file takes one behind the other, all at once.
use Rattle.std.proofs.Common.{subst, Option, None, Some, ◌≡◌, refl, sym, ap, ◌∙◌, ℕ, zero, suc, ◌+◌, ◌*◌, ◌<◌, ◌≤◌, length, take, get_or, List, [], ◌∷◌, flat_map, arith}
use Rattle.std.specs.Prelude.{Result, Ok, Err, IfSome, OnOk}
use Rattle.std.proofs.lemmas.List.{length-append}
use Rattle.std.proofs.lemmas.List.Concat.{get_or-flat_map}
use Rattle.rss_base.specs.Sizes.{page_bytes}
use Rattle.rss_base.specs.DiskRule.{Pages, page}
use Rattle.rss_device.specs.Files.{Holds, HoldsPages}

-- each is as long as a page
abbrev pub AreWhole : Pages → Type 0
AreWhole run = (k : ℕ) → k < length run → length (page run k) ≡ page_bytes

behind : (bytes : List ℕ) (run : Pages) → AreWhole (bytes ∷ run) → AreWhole run
behind bytes run whole k few = whole (suc k) (omega arith)

-- so long are the first k of them
front_length : (run : Pages) (k : ℕ) → AreWhole run → k ≤ length run → length (flat_map (λ x. x) (take k run)) ≡ k * page_bytes
front_length run zero whole few = refl
front_length [] (suc k) whole few = absurd (omega arith)
front_length (bytes ∷ run) (suc k) whole few =
    omega (arith, length-append bytes (flat_map (λ x. x) (take k run)), whole zero (omega arith), front_length run k (behind bytes run whole) (omega arith))

all_length : (run : Pages) → AreWhole run → length (flat_map (λ x. x) run) ≡ length run * page_bytes
all_length [] whole = refl
all_length (bytes ∷ run) whole = omega (arith, length-append bytes (flat_map (λ x. x) run), whole zero (omega arith), all_length run (behind bytes run whole))

-- where their bytes stand, each of them stands at its place
holds_run : (at : ℕ) (run : Pages) (held : List ℕ) → AreWhole run → Holds (at * page_bytes) (flat_map (λ x. x) run) held → HoldsPages at run held
holds_run at run held whole holds k few =
    let long : length (page run k) ≡ page_bytes = whole k few in
    let front : length (flat_map (λ x. x) (take k run)) ≡ k * page_bytes = front_length run k whole (omega arith) in
    let all : length (flat_map (λ x. x) run) ≡ length run * page_bytes = all_length run whole in
    record {
      within = λ j lt.
          let place : (at + k) * page_bytes + j ≡ at * page_bytes + (k * page_bytes + j) = omega arith in
          rw place (holds.within (k * page_bytes + j) (omega arith));
      each = λ j lt.
          let place : (at + k) * page_bytes + j ≡ at * page_bytes + (k * page_bytes + j) = omega arith in
          let piece = get_or-flat_map (λ x. x) run k j [] 0 few lt in
          ap (λ n. get_or held n 0) place
          ∙ holds.each (k * page_bytes + j) (omega arith)
          ∙ ap (λ n. get_or (flat_map (λ x. x) run) (n + j) 0) (sym front)
          ∙ piece;
    }

-- and so does a write of the bytes, in one, by its result
pub run_written : {E : Type 0} (at place : ℕ) (run : Pages) (flat : List ℕ) (held : Option (List ℕ)) (result : Result (Unit {0}) E)
    → AreWhole run → place ≡ at * page_bytes → flat ≡ flat_map (λ x. x) run
    → OnOk result (IfSome held (Holds place flat)) → OnOk result (IfSome held (HoldsPages at run))
run_written at place run flat held (Err e) whole there same written = tt
run_written at place run flat None (Ok value) whole there same written = tt
run_written at place run flat (Some bytes) (Ok value) whole there same written =
    holds_run at run bytes whole (subst (λ p. Holds p (flat_map (λ x. x) run) bytes) there (subst (λ f. Holds place f bytes) same written))
