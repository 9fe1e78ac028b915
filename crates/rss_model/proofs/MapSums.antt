-- Sums over maps by names, where an entry comes or goes.
use Rattle.std.proofs.Common.{◌≡◌, ◌≢◌, ⊎_elim, ℕ, ◌+◌, ◌≤◌, true, false, List, [], ◌∷◌, refl, sym, ◌∙◌, ap, subst, arith}
use Rattle.std.specs.Prelude.{Option, Some, None, sum_by, map as list_map}
use Rattle.std.specs.Ordering.{eq_by_cmp}
use Rattle.std.specs.FinMap as finite
use Rattle.std.specs.FinMap.{FinMap, get-entries, entries-insert, put as put_entry, same_map}
use Rattle.std.specs.FinMap.Entries.{find}
use Rattle.std.specs.declared.cmp.Ordering.{Ordering}
use Rattle.std.specs.declared.cmp.Ordering.TheVariants.{Less, Equal, Greater}
use Rattle.std.proofs.lemmas.List.Sums.{sum_by-cons}
use Rattle.rss_base.specs.declared.name.Name.{Name}
use Rattle.rss_model.specs.Items.{name_cmp}
use Rattle.rss_model.proofs.Codes.{name_total, name_apart}
use Rattle.rss_model.proofs.Contents.{tied}
use Rattle.rss_model.proofs.LogLists.{false_true}
use Rattle.rss_model.proofs.Named.{cases_name, made_here, made_other, gone_here, gone_other}

module _ {V B : Type 0} (f : B → ℕ) (pick : Name × V → B) where
  abbrev total : List (Name × V) → ℕ
  total es = sum_by f (list_map pick es)

  put_sum : (k : Name) (v : V) (es : List (Name × V)) → find name_cmp k es ≡ None → total (put_entry name_cmp k v es) ≡ f (pick (k, v)) + total es
  put_sum k v [] none = omega (arith, sum_by-cons f (pick (k, v)) [])
  put_sum k v (e ∷ es) none = by (name_cmp k e.0) refl (put_sum k v es)
    where
      by : (o : Ordering) → name_cmp k e.0 ≡ o → (find name_cmp k es ≡ None → total (put_entry name_cmp k v es) ≡ f (pick (k, v)) + total es) → total (put_entry name_cmp k v (e ∷ es)) ≡ f (pick (k, v)) + total (e ∷ es)
      by Less is rest = rw is (omega (arith, sum_by-cons f (pick (k, v)) (list_map pick (e ∷ es))))
      by Equal is rest = absurd (clash (rw is at none))
        where
          clash : Some e.1 ≡ None → ⊥
          clash g = cc (g)
      by Greater is rest = rw is (let more = rest (rw is at none) in omega (arith, more, sum_by-cons f (pick e) (list_map pick es), sum_by-cons f (pick e) (list_map pick (put_entry name_cmp k v es))))

  pub insert_sum : (m : FinMap name_cmp V) (k : Name) (v : V) → finite.get m k ≡ None → total (finite.entries (finite.insert m k v)) ≡ f (pick (k, v)) + total (finite.entries m)
  insert_sum m k v none = ap total (entries-insert name_total m k v) ∙ put_sum k v (finite.entries m) (sym (get-entries m k) ∙ none)

  off_of : (q k : Name) → eq_by_cmp name_cmp q k ≡ false → q ≢ k
  off_of q k e g = false_true (subst (λ (n : Name). eq_by_cmp name_cmp q n ≡ true) g (tied name_total name_apart q)) e

  -- what goes takes its own away
  pub removed_sum : (m : FinMap name_cmp V) (k : Name) (v : V) → finite.get m k ≡ Some v → total (finite.entries m) ≡ f (pick (k, v)) + total (finite.entries (finite.remove m k))
  removed_sum m k v is =
      let back : finite.insert (finite.remove m k) k v ≡ m = same_map name_total name_apart (finite.insert (finite.remove m k) k v) m (λ q. ⊎_elim
      (λ e. ap (finite.get (finite.insert (finite.remove m k) k v)) e ∙ made_here (finite.remove m k) k v ∙ sym (ap (finite.get m) e ∙ is))
      (λ e. made_other (finite.remove m k) k v q (off_of q k e) ∙ gone_other m k q (off_of q k e)) (cases_name q k)) in
      ap (λ (n : FinMap name_cmp V). total (finite.entries n)) (sym back) ∙ insert_sum (finite.remove m k) k v (gone_here m k)

  pub remove_sum : (m : FinMap name_cmp V) (k : Name) → total (finite.entries (finite.remove m k)) ≤ total (finite.entries m)
  remove_sum m k = by (finite.get m k) refl
    where
      by : (o : Option V) → finite.get m k ≡ o → total (finite.entries (finite.remove m k)) ≤ total (finite.entries m)
      by None is =
          let same : finite.remove m k ≡ m = same_map name_total name_apart (finite.remove m k) m (λ q. ⊎_elim (λ e. ap (finite.get (finite.remove m k)) e ∙ gone_here m k ∙ sym (ap (finite.get m) e ∙ is)) (λ e. gone_other m k q (off_of q k e)) (cases_name q k)) in
          omega (arith, ap (λ (n : FinMap name_cmp V). total (finite.entries n)) same)
      by (Some v) is = omega (arith, removed_sum m k v is)
