-- Locks that are claimed and taken.
use Rattle.std.proofs.Common.{◌≡◌, ℕ, ◌<◌, ◌≤◌, true, List, length, get_or, sym, ◌∙◌, ap, subst, inl, inr, arith, Contains}
use Rattle.std.specs.Prelude.{Some, Err, slice_get}
use Rattle.std.specs.Cmp.{Equal-is}
use Rattle.std.specs.FinMap as finite
use Rattle.std.specs.FinMap.{len, len-entries, contains_key-keys, nat_cmp-IsAntisymmetric}
use Rattle.std.specs.Ordering.{nat_cmp}
use Rattle.std.proofs.lemmas.Bool.{cases_eq}
use Rattle.std.proofs.lemmas.List.{length-map}
use Rattle.std.proofs.lemmas.Map.Views.{Contains-from_any}
use Rattle.std.proofs.lemmas.Option.{same_Some, slice_get-get_or, slice_get_within}
use Rattle.rss_base.specs.declared.need.Need.{Need}
use Rattle.rss_base.specs.declared.refusal.Refusal.{Refusal}
use Rattle.rss_base.specs.declared.refusal.Refusal.TheVariants.{Busy}
use Rattle.rss_lock.specs.Locks.{AreFew, IsFirstBar, LocksView}
use Rattle.rss_model.specs.Locks.{Locks, first_bar, granted, held}
use Rattle.rss_model.specs.ReplyText.{IsShort}
use Rattle.rss_model.proofs.Locking.{held_others}
use Rattle.rss_trans.specs.Transactions.{OpenView, is_open}
use Rattle.rss_rsi.specs.Locking.{IsSayable, AreSayable, IsBusy}
use Rattle.rss_rsi.specs.Views.{RssParts, IsReady}

-- the need that is found barred, and taken out of the list
module _ {locks : Locks} {t place holder : ℕ} (needs read : List Need) (taken : Need) (same : read ≡ needs) (first : IsFirstBar locks t read place holder) (is : taken ≡ get_or needs place taken) where
  there : slice_get needs place ≡ Some first.need
  there = ap (λ (l : List Need). slice_get l place) (sym same) ∙ first.there

  within : place < length needs
  within = slice_get_within needs place first.need there

  pub found_sayable : AreSayable needs → IsSayable taken.item
  found_sayable all = subst (λ (n : Need). IsSayable n.item) (sym is) (all place taken within)

  pub found_busy : (why : Refusal) → why ≡ Busy taken.item holder → IsShort (Err (Busy taken.item holder)) → IsBusy locks t needs why
  found_busy why why_is short =
      let its : taken ≡ first.need = is ∙ same_Some _ _ (sym (slice_get-get_or needs place taken within) ∙ there) in
      record {
        bar = record { item = first.need.item; holder = holder };
        first = ap (first_bar locks t) (sym same) ∙ first.first;
        is = why_is ∙ ap (λ (n : Need). Busy n.item holder) its;
        short = subst (λ (w : Refusal). IsShort (Err w)) (sym why_is) short;
      }

-- another call may be made where the locks are those that there were
pub ready_locks : {parts : RssParts} {calls : ℕ} (locks : LocksView) → locks.locks ≡ parts.locks.locks → IsReady parts calls → IsReady (record parts { locks = locks }) calls
ready_locks locks same ready = record {
  session = ready.session;
  paced = ready.paced;
  saves = ready.saves;
  scans = ready.scans;
  holders = λ t item mode has. ready.holders t item mode (ap (λ (l : Locks). held l t item) (sym same) ∙ has);
}

-- and where an open transaction was granted some
pub ready_granted : {parts : RssParts} {calls : ℕ} (t : ℕ) (needs : List Need) (locks : LocksView) → is_open parts.session.opened t ≡ true → locks.locks ≡ granted t needs parts.locks.locks → IsReady parts calls → IsReady (record parts { locks = locks }) calls
ready_granted {parts = parts} t needs locks opened same ready = record {
  session = ready.session;
  paced = ready.paced;
  saves = ready.saves;
  scans = ready.scans;
  holders = λ u item mode has. elim (cases_eq u t) [
    | inl here ↦ ap (is_open parts.session.opened) here ∙ opened
    | inr off ↦ ready.holders u item mode (sym (held_others t needs parts.locks.locks u item off) ∙ ap (λ (l : Locks). held l u item) (sym same) ∙ has)
  ];
}

-- ---- who may hold locks

listed_open : (opened : OpenView) (t : ℕ) → is_open opened t ≡ true → Contains (finite.keys opened.transactions) t
listed_open opened t is = Contains-from_any (λ (x y : ℕ) same. nat_cmp-IsAntisymmetric x y ((Equal-is (nat_cmp x y)).0 same)) t (finite.keys opened.transactions) (sym (contains_key-keys opened.transactions t) ∙ is)

-- an open transaction and those that hold something are among the few that are open
pub few_hold : {parts : RssParts} {calls : ℕ} (t count : ℕ) → is_open parts.session.opened t ≡ true → count ≡ len parts.session.opened.transactions → count ≤ 32 → IsReady parts calls → AreFew parts.locks.locks t
few_hold {parts = parts} t count opened is most ready = record {
  among = finite.keys parts.session.opened.transactions;
  few = omega (arith, is, most, len-entries parts.session.opened.transactions, length-map (finite.entries parts.session.opened.transactions) (λ e. e.0));
  own = listed_open parts.session.opened t opened;
  holders = λ u item mode has. listed_open parts.session.opened u (ready.holders u item mode has);
}
