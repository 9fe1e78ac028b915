-- Sums over the open transactions, when one of them has done something more.
use Rattle.std.proofs.Common.{◌≡◌, ◌≢◌, ℕ, ◌+◌, Bool, true, cond, List, [], ◌∷◌, map, refl, sym, ◌∙◌, ap, arith}
use Rattle.std.specs.Prelude.{Option, Some, None, is_some, sum_by}
use Rattle.std.specs.Ordering.{nat_cmp}
use Rattle.std.specs.Cmp.{nat_cmp_total}
use Rattle.std.specs.FinMap as finite
use Rattle.std.specs.FinMap.{FinMap, nat_cmp-IsAntisymmetric, get-entries, get-insert, get-remove, entries-insert, put as put_entry, same_map}
use Rattle.std.specs.FinMap.Entries.{find}
use Rattle.std.specs.declared.cmp.Ordering.{Ordering}
use Rattle.std.specs.declared.cmp.Ordering.TheVariants.{Less, Equal, Greater}
use Rattle.std.proofs.lemmas.List.Sums.{sum_by-cons}
use Rattle.rss_model.proofs.Contents.{tied, not_tied}
use Rattle.rss_model.proofs.LogLists.{by_same}
use Rattle.rss_trans.proofs.Told.{done}
use Rattle.rss_trans.specs.Transactions.{Transaction, nothing, OpenView, is_open, transaction_in}

abbrev Entries : Type 0
Entries = List (ℕ × Transaction)

-- ---- one of the transactions

pub here : (m : FinMap nat_cmp Transaction) (t : ℕ) (x : Transaction) → finite.get (finite.insert m t x) t ≡ Some x
here m t x = get-insert nat_cmp_total m t x t ∙ ap (λ (b : Bool). cond b (Some x) (finite.get m t)) (tied nat_cmp_total nat_cmp-IsAntisymmetric t)

pub elsewhere : (m : FinMap nat_cmp Transaction) (t : ℕ) (x : Transaction) (q : ℕ) → q ≢ t → finite.get (finite.insert m t x) q ≡ finite.get m q
elsewhere m t x q off = get-insert nat_cmp_total m t x q ∙ ap (λ (b : Bool). cond b (Some x) (finite.get m q)) (not_tied nat_cmp_total nat_cmp-IsAntisymmetric q t off)

pub gone_here : (m : FinMap nat_cmp Transaction) (t : ℕ) → finite.get (finite.remove m t) t ≡ None
gone_here m t = get-remove nat_cmp_total m t t ∙ ap (λ (b : Bool). cond b None (finite.get m t)) (tied nat_cmp_total nat_cmp-IsAntisymmetric t)

pub gone_elsewhere : (m : FinMap nat_cmp Transaction) (t q : ℕ) → q ≢ t → finite.get (finite.remove m t) q ≡ finite.get m q
gone_elsewhere m t q off = get-remove nat_cmp_total m t q ∙ ap (λ (b : Bool). cond b None (finite.get m q)) (not_tied nat_cmp_total nat_cmp-IsAntisymmetric q t off)

-- what is put where another is takes its place
put_back : (m : FinMap nat_cmp Transaction) (t : ℕ) (x : Transaction) → finite.insert (finite.remove m t) t x ≡ finite.insert m t x
put_back m t x = same_map nat_cmp_total nat_cmp-IsAntisymmetric _ _ (λ q. by_same q t
    (λ is. ap (finite.get (finite.insert (finite.remove m t) t x)) is ∙ here (finite.remove m t) t x ∙ sym (ap (finite.get (finite.insert m t x)) is ∙ here m t x))
    (λ off. elsewhere (finite.remove m t) t x q off ∙ gone_elsewhere m t q off ∙ sym (elsewhere m t x q off)))

put_same : (m : FinMap nat_cmp Transaction) (t : ℕ) (y : Transaction) → finite.get m t ≡ Some y → finite.insert m t y ≡ m
put_same m t y is = same_map nat_cmp_total nat_cmp-IsAntisymmetric _ _ (λ q. by_same q t
    (λ e. ap (finite.get (finite.insert m t y)) e ∙ here m t y ∙ sym (ap (finite.get m) e ∙ is))
    (λ off. elsewhere m t y q off))

-- ---- sums

module _ (f : Transaction → ℕ) where
  abbrev total : Entries → ℕ
  total es = sum_by f (map (λ (e : ℕ × Transaction). e.1) es)

  put_sum : (t : ℕ) (x : Transaction) (es : Entries) → find nat_cmp t es ≡ None → total (put_entry nat_cmp t x es) ≡ f x + total es
  put_sum t x [] none = omega (arith, sum_by-cons f x [])
  put_sum t x (e ∷ es) none = by (nat_cmp t e.0) refl (put_sum t x es)
    where
      by : (o : Ordering) → nat_cmp t e.0 ≡ o → (find nat_cmp t es ≡ None → total (put_entry nat_cmp t x es) ≡ f x + total es) → total (put_entry nat_cmp t x (e ∷ es)) ≡ f x + total (e ∷ es)
      by Less is rest = rw is (omega (arith, sum_by-cons f x (map (λ (e : ℕ × Transaction). e.1) (e ∷ es))))
      by Equal is rest = absurd (clash (rw is at none))
        where
          clash : Some e.1 ≡ None → ⊥
          clash g = cc (g)
      by Greater is rest = rw is (let more = rest (rw is at none) in omega (arith, more, sum_by-cons f e.1 (map (λ (e : ℕ × Transaction). e.1) es), sum_by-cons f e.1 (map (λ (e : ℕ × Transaction). e.1) (put_entry nat_cmp t x es))))

  -- another comes
  pub added_sum : (m : FinMap nat_cmp Transaction) (t : ℕ) (x : Transaction) → finite.get m t ≡ None → sum_by f (finite.values (finite.insert m t x)) ≡ f x + sum_by f (finite.values m)
  added_sum m t x none = ap total (entries-insert nat_cmp_total m t x) ∙ put_sum t x (finite.entries m) (sym (get-entries m t) ∙ none)

  -- one of them goes
  pub gone_sum : (m : FinMap nat_cmp Transaction) (t : ℕ) (y : Transaction) → finite.get m t ≡ Some y → sum_by f (finite.values m) ≡ f y + sum_by f (finite.values (finite.remove m t))
  gone_sum m t y is =
      ap (λ (n : FinMap nat_cmp Transaction). sum_by f (finite.values n)) (sym (put_back m t y ∙ put_same m t y is))
      ∙ added_sum (finite.remove m t) t y (gone_here m t)

  -- one of them becomes another
  pub changed_sum : (m : FinMap nat_cmp Transaction) (t : ℕ) (x y : Transaction) → finite.get m t ≡ Some y → sum_by f (finite.values (finite.insert m t x)) + f y ≡ sum_by f (finite.values m) + f x
  changed_sum m t x y is =
      let now = ap (λ (n : FinMap nat_cmp Transaction). sum_by f (finite.values n)) (sym (put_back m t x)) ∙ added_sum (finite.remove m t) t x (gone_here m t) in
      omega (arith, now, gone_sum m t y is)

  -- whether it was there or not, where nothing counts for one that has done nothing
  pub insert_sum : f nothing ≡ 0 → (m : FinMap nat_cmp Transaction) (t : ℕ) (x : Transaction) → sum_by f (finite.values (finite.insert m t x)) + f (done (finite.get m t)) ≡ f x + sum_by f (finite.values m)
  insert_sum none m t x = by (finite.get m t) refl
    where
      by : (o : Option Transaction) → finite.get m t ≡ o → sum_by f (finite.values (finite.insert m t x)) + f (done (finite.get m t)) ≡ f x + sum_by f (finite.values m)
      by None at = let more = added_sum m t x at in let was : f (done (finite.get m t)) ≡ 0 = ap (λ (o : Option Transaction). f (done o)) at ∙ none in omega (arith, more, was)
      by (Some y) at = let more = changed_sum m t x y at in let was : f (done (finite.get m t)) ≡ f y = ap (λ (o : Option Transaction). f (done o)) at in omega (arith, more, was)

-- the transaction that is open
pub get_open : (view : OpenView) (t : ℕ) → is_open view t ≡ true → finite.get view.transactions t ≡ Some (transaction_in view t)
get_open view t is = by (finite.get view.transactions t) refl is
  where
    by : (o : Option Transaction) → finite.get view.transactions t ≡ o → is_some o ≡ true → o ≡ Some (transaction_in view t)
    by None at is = absurd (cc (is))
    by (Some x) at is = let e : transaction_in view t ≡ x = ap done at in ap Some (sym e)
