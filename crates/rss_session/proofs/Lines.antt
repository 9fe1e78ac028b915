-- The lines of refusals are short that name a transaction, what the log has room for, or a tuple with a key.
use Rattle.std.proofs.Common.{◌≡◌, ℕ, ◌^◌, ◌<◌, ◌≤◌, ◌++◌, length, arith, length-append, length-take}
use Rattle.std.specs.Prelude.{Err, codes, decimal, not, ◌==◌}
use Rattle.std.specs.List.{prefix_len}
use Rattle.std.proofs.lemmas.Fmt.{length-decimal-le}
use Rattle.rss_base.specs.declared.name.Name.{Name}
use Rattle.rss_base.specs.declared.refusal.Refusal.TheVariants.{TransactionsOpen, LogFull, Duplicate}
use Rattle.rss_base.specs.declared.tid.Tid.{Tid}
use Rattle.rss_model.specs.ReplyText.{answer_line}
use Rattle.rss_model.specs.Spellings.{name_text, tid_text}

pub open_line : (t : ℕ) → t < 2 ^ 32 → length (answer_line (Err (TransactionsOpen t))) ≤ 8192
open_line t small =
    let short = length-decimal-le 10 t (omega arith) (omega (arith, small)) (omega (arith, small)) in
    omega (arith, short, length-append (codes "refused 17 transactions open " ++ decimal t) (codes "\n"), length-append (codes "refused 17 transactions open ") (decimal t))

pub log_full_line : (free needed : ℕ) → free < 2 ^ 64 → needed < 2 ^ 64 → length (answer_line (Err (LogFull free needed))) ≤ 8192
log_full_line free needed few small =
    let first = length-decimal-le 20 free (omega arith) (omega (arith, few)) (omega (arith, few)) in
    let second = length-decimal-le 20 needed (omega arith) (omega (arith, small)) (omega (arith, small)) in
    omega (arith, first, second, length-append (decimal free ++ codes " " ++ decimal needed) (codes "\n"), length-append (decimal free ++ codes " ") (decimal needed), length-append (decimal free) (codes " "))

-- ---- names and identifiers

pub name_short : (name : Name) → length name.bytes ≡ 16 → length (name_text name) ≤ 16
name_short name long = omega (arith, long, length-take (prefix_len (λ (b : ℕ). not (b == 0)) name.bytes) name.bytes)

pub tid_short : (tid : Tid) → tid.page < 2 ^ 32 → tid.slot < 2 ^ 32 → length (tid_text tid) ≤ 21
tid_short tid page slot =
    let first = length-decimal-le 10 tid.page (omega arith) (omega (arith, page)) (omega (arith, page)) in
    let second = length-decimal-le 10 tid.slot (omega arith) (omega (arith, slot)) (omega (arith, slot)) in
    omega (arith, first, second, length-append (decimal tid.page ++ codes ".") (decimal tid.slot), length-append (decimal tid.page) (codes "."))

pub duplicate_line : (image : Name) (tid : Tid) → length image.bytes ≡ 16 → tid.page < 2 ^ 32 → tid.slot < 2 ^ 32 → length (answer_line (Err (Duplicate image tid))) ≤ 8192
duplicate_line image tid long page slot =
    omega (arith, name_short image long, tid_short tid page slot, length-append (name_text image ++ codes " " ++ tid_text tid) (codes "\n"), length-append (name_text image ++ codes " ") (tid_text tid), length-append (name_text image) (codes " "))
