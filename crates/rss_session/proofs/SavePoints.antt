-- How many save points the open transactions have behind a step of one of them.
use Rattle.std.proofs.Common.{◌≡◌, ℕ, ◌+◌, ◌≤◌, [], ◌∷◌, length, sym, ap, subst, arith}
use Rattle.std.proofs.lemmas.List.{length-append, length-take}
use Rattle.std.specs.Ordering.{nat_cmp}
use Rattle.std.specs.Prelude.{Option}
use Rattle.std.specs.FinMap.{FinMap, get, insert, remove}
use Rattle.rss_model.proofs.LogLists.{by_same}
use Rattle.rss_trans.specs.Transactions.{Transaction, with_save, cut_at}
use Rattle.rss_trans.proofs.Told.{done}
use Rattle.rss_session.proofs.Sums.{here, elsewhere, gone_here, gone_elsewhere}

abbrev pub Opened : Type 0
Opened = FinMap nat_cmp Transaction

abbrev saves_of : Option Transaction → ℕ
saves_of o = length (done o).saves

abbrev pub saves_in : Opened → ℕ → ℕ
saves_in opened t = length (done (get opened t)).saves

-- nothing was done to them
pub same_saves : {new : Opened} (old : Opened) → new ≡ old → (u : ℕ) → saves_in new u ≤ saves_in old u
same_saves old same u = omega (arith, ap (λ (m : Opened). saves_in m u) same)

-- one of them took a step, by which it has so many more at most
pub put_saves : {new : Opened} (old : Opened) (t more : ℕ) (x : Transaction) → new ≡ insert old t x → length x.saves ≤ saves_in old t + more → (u : ℕ) → saves_in new u ≤ saves_in old u + more
put_saves {new = new} old t more x put few u = by_same u t
    (λ is. subst (λ (k : ℕ). saves_in new k ≤ saves_in old k + more) (sym is)
    (omega (arith, few, ap (λ (m : Opened). saves_in m t) put, ap saves_of (here old t x))))
    (λ off. omega (arith, ap (λ (m : Opened). saves_in m u) put, ap saves_of (elsewhere old t x u off)))

-- or none more
pub keeps_saves : {new : Opened} (old : Opened) (t : ℕ) (x : Transaction) → new ≡ insert old t x → length x.saves ≤ saves_in old t → (u : ℕ) → saves_in new u ≤ saves_in old u
keeps_saves {new = new} old t x put few u = omega (arith, put_saves {new = new} old t 0 x put (omega (arith, few)) u)

-- one of them is gone
pub gone_saves : {new : Opened} (old : Opened) (t : ℕ) → new ≡ remove old t → (u : ℕ) → saves_in new u ≤ saves_in old u
gone_saves {new = new} old t gone u = by_same u t
    (λ is. subst (λ (k : ℕ). saves_in new k ≤ saves_in old k) (sym is)
    (omega (arith, ap (λ (m : Opened). saves_in m t) gone, ap saves_of (gone_here old t))))
    (λ off. omega (arith, ap (λ (m : Opened). saves_in m u) gone, ap saves_of (gone_elsewhere old t u off)))

-- a save point is set, or the later ones are cut off
pub one_more : (x : Transaction) → length (with_save x).saves ≤ length x.saves + 1
one_more x = omega (arith, length-append x.saves (length x.changes ∷ []))

pub cut_saves : {new : Opened} (old : Opened) (t save : ℕ) → new ≡ insert old t (cut_at save (done (get old t))) → (u : ℕ) → saves_in new u ≤ saves_in old u
cut_saves old t save put = keeps_saves old t (cut_at save (done (get old t))) put (omega (arith, length-take save (done (get old t)).saves))
