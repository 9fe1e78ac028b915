-- Which transactions are still open behind a step of one of them, and that the same is defined.
use Rattle.std.proofs.Common.{◌≡◌, ℕ, true, sym, ◌∙◌, ap, subst}
use Rattle.std.specs.Prelude.{is_some}
use Rattle.std.specs.FinMap.{contains_key, insert, remove}
use Rattle.rss_model.proofs.LogLists.{by_same}
use Rattle.rss_trans.specs.Transactions.{Transaction}
use Rattle.rss_base.specs.Listings.{Listing}
use Rattle.rss_model.specs.Meanings.{SameDefinitions}
use Rattle.rss_store.proofs.Definitions.{same_again}
use Rattle.rss_session.proofs.Sums.{here, elsewhere, gone_elsewhere}
use Rattle.rss_session.proofs.SavePoints.{Opened}

-- nothing was done to them
pub same_stay : {new : Opened} (old : Opened) → new ≡ old → (u : ℕ) → contains_key old u ≡ true → contains_key new u ≡ true
same_stay old same u is = ap (λ (m : Opened). contains_key m u) same ∙ is

-- and what is listed is as it was
pub same_listed : {one other : Listing} → other ≡ one → SameDefinitions one other
same_listed {one = one} same = subst (SameDefinitions one) (sym same) (same_again one)

-- one of them took a step, or is new
pub put_stay : {new : Opened} (old : Opened) (t : ℕ) (x : Transaction) → new ≡ insert old t x → (u : ℕ) → contains_key old u ≡ true → contains_key new u ≡ true
put_stay {new = new} old t x put u is = by_same u t
    (λ same. ap (contains_key new) same ∙ ap (λ (m : Opened). contains_key m t) put ∙ ap is_some (here old t x))
    (λ off. ap (λ (m : Opened). contains_key m u) put ∙ ap is_some (elsewhere old t x u off) ∙ is)

-- one of them is gone
pub others_stay : {new : Opened} (old : Opened) (t : ℕ) → new ≡ remove old t → (u : ℕ) → (u ≡ t → ⊥) → contains_key old u ≡ true → contains_key new u ≡ true
others_stay old t gone u off is = ap (λ (m : Opened). contains_key m u) gone ∙ ap is_some (gone_elsewhere old t u off) ∙ is
