use Rattle.std.proofs.Common.{sym, Bool, false, ◌≡◌, ℕ, ◌-◌, ◌<◌, ◌≤◌, ◌++◌, ◌∙◌, length, ap, arith, length-append}
use Rattle.std.specs.Prelude.{Some, slice_get, codes, ◌==◌, if◌then◌else◌}
use Rattle.std.proofs.lemmas.Bool.Decides.{nat_tests}
use Rattle.rss_model.specs.Generator.{next_state, next_pay_state, drawn, update_line, update_lines, fetch_lines, end_lines}
use Rattle.rss_line.proofs.Parts.{made, get_front, get_past}
use Rattle.rss_line.proofs.Generated.{update_at, fetch_at, end_at}
use Rattle.rss_line.proofs.generating.line_behind.Goals as goal

-- the lines behind the updates
behind_updates : (count i x k : ℕ) → length (update_lines i x) ≤ k
    → slice_get (update_lines i x ++ (fetch_lines i ++ end_lines count i)) k ≡ slice_get (fetch_lines i ++ end_lines count i) (k - length (update_lines i x))
behind_updates count i x k past = get_past (update_lines i x) (fetch_lines i ++ end_lines count i) k past

pub returns-then-line-updates : goal.returns-then-line-updates
returns-then-line-updates c = λ count state is within.
    let i = c.args.employee in
    let low : c.args.line < length (update_lines i state) = omega (arith, c.count_updates-updates.ensures state) in
    let pay : drawn 1000 (next_pay_state state) ≡ c.drawn.result = sym (c.drawn.ensures ∙ ap (drawn 1000) (c.next_state.ensures ∙ ap next_state is)) in
    made c.update_line.result
    (get_front (update_lines i state) (fetch_lines i ++ end_lines count i) c.args.line low
    ∙ (update_at i state c.args.line low ∙ ap (λ (n : ℕ). Some (update_line i n)) pay))
    c.update_line.ensures

pub returns-then-line-fetches : goal.returns-then-line-fetches
returns-then-line-fetches c = λ count state is within.
    let i = c.args.employee in
    let updates = c.count_updates-updates.ensures state in
    let past : length (update_lines i state) ≤ c.args.line = omega (arith, updates) in
    let low : c.args.line - length (update_lines i state) < length (fetch_lines i) = omega (arith, updates, c.count_fetches-fetches.ensures) in
    made c.text.result
    (behind_updates count i state c.args.line past
    ∙ (get_front (fetch_lines i) (end_lines count i) (c.args.line - length (update_lines i state)) low
    ∙ fetch_at i (c.args.line - length (update_lines i state)) low))
    c.text.ensures

-- the lines behind the fetch
behind_fetches : (count i x k : ℕ) → length (update_lines i x) ≤ k → length (fetch_lines i) ≤ k - length (update_lines i x)
    → k < length (update_lines i x ++ (fetch_lines i ++ end_lines count i))
    → slice_get (update_lines i x ++ (fetch_lines i ++ end_lines count i)) k
    ≡ Some (if k - length (update_lines i x) - length (fetch_lines i) == 0 then codes "end 2" else codes "end 1")
behind_fetches count i x k past then_past within =
    let rest : ℕ = k - length (update_lines i x) in
    let low : rest - length (fetch_lines i) < length (end_lines count i) =
    omega (arith, within, length-append (update_lines i x) (fetch_lines i ++ end_lines count i), length-append (fetch_lines i) (end_lines count i)) in
    behind_updates count i x k past
    ∙ (get_past (fetch_lines i) (end_lines count i) rest then_past ∙ end_at count i (rest - length (fetch_lines i)) low)

pub returns-then-line-fetches-2 : goal.returns-then-line-fetches-2
returns-then-line-fetches-2 c = λ count state is within.
    let i = c.args.employee in
    let updates = c.count_updates-updates.ensures state in
    let past : length (update_lines i state) ≤ c.args.line = omega (arith, updates) in
    let then_past : length (fetch_lines i) ≤ c.args.line - length (update_lines i state) = omega (arith, updates, c.count_fetches-fetches.ensures) in
    let none : c.args.line - length (update_lines i state) - length (fetch_lines i) ≡ 0 = omega (arith, updates, c.count_fetches-fetches.ensures) in
    made c.text-then-line-fetches-2.result
    (behind_fetches count i state c.args.line past then_past within ∙ ap (λ (n : ℕ). Some (if n == 0 then codes "end 2" else codes "end 1")) none)
    c.text-then-line-fetches-2.ensures

pub returns-else-line-fetches-2 : goal.returns-else-line-fetches-2
returns-else-line-fetches-2 c = λ count state is within.
    let i = c.args.employee in
    let updates = c.count_updates-updates.ensures state in
    let past : length (update_lines i state) ≤ c.args.line = omega (arith, updates) in
    let then_past : length (fetch_lines i) ≤ c.args.line - length (update_lines i state) = omega (arith, updates, c.count_fetches-fetches.ensures) in
    let some : (c.args.line - length (update_lines i state) - length (fetch_lines i) == 0) ≡ false = grind (arith, nat_tests, updates, c.count_fetches-fetches.ensures) in
    made c.text-else-line-fetches-2.result
    (behind_fetches count i state c.args.line past then_past within ∙ ap (λ (b : Bool). Some (if b then codes "end 2" else codes "end 1")) some)
    c.text-else-line-fetches-2.ensures
