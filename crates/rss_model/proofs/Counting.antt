-- How many tuples a mixture of changes leaves.
use Rattle.std.proofs.Common.{◌≡◌, inl, inr, ℕ, ◌+◌, ◌≤◌, Bool, true, List, [], ◌∷◌, refl, ap, arith}
use Rattle.std.specs.Prelude.{Option, Some, None, is_some, is_none, ◌&&◌, count_by}
use Rattle.std.proofs.lemmas.List.Sums.{sum_by-cons}
use Rattle.rss_base.specs.declared.name.Name.{Name}
use Rattle.rss_base.specs.declared.item.Item.{Item}
use Rattle.rss_model.specs.Items.{Content}
use Rattle.rss_model.specs.Tables.{Contents, content, put, is_tuple_of, tuple_count}
use Rattle.rss_model.specs.Changes.{Change, is_delete_of, after, Chained}
use Rattle.rss_model.specs.Kept.{up_to}
use Rattle.rss_model.proofs.Counts.{one_if, counts_same, counts_put}
use Rattle.rss_model.proofs.LogLists.{by_test}
use Rattle.rss_model.proofs.Mixing.{many, Lone, agree, up_skip, up_take}

less_by : (was next : Option Content) (before now : ℕ) → now + one_if (is_some was) ≡ before + one_if (is_some next) → before ≤ now + one_if (true && is_some was && is_none next)
less_by None None before now is = omega (arith, is)
less_by None (Some held) before now is = omega (arith, is)
less_by (Some was) None before now is = omega (arith, is)
less_by (Some was) (Some held) before now is = omega (arith, is)

module _ (relation : Name) where
  -- a change takes away what it deletes
  pub one_less : (contents : Contents) (c : Change) → c.old ≡ content contents c.item → tuple_count contents relation ≤ tuple_count (put contents c.item c.new) relation + one_if (is_delete_of relation c)
  one_less contents c was = by_test (is_tuple_of relation c.item)
      (λ on. let counts = counts_put contents c.item c.new relation on in
      let held = ap (λ (o : Option Content). one_if (is_some o)) was in
      let less = less_by c.old c.new (tuple_count contents relation) (tuple_count (put contents c.item c.new) relation) (omega (arith, counts, held)) in
      let is = ap (λ (b : Bool). one_if (b && is_some c.old && is_none c.new)) on in
      omega (arith, less, is))
      (λ off. omega (arith, counts_same contents c.item c.new relation off))

  -- what is put counts alike where it meets the same
  pub alike_put : (a b : Contents) (i : Item) (x : Option Content) → content a i ≡ content b i → tuple_count (put a i x) relation + tuple_count b relation ≡ tuple_count (put b i x) relation + tuple_count a relation
  alike_put a b i x same = by_test (is_tuple_of relation i)
      (λ on. omega (arith, counts_put a i x relation on, counts_put b i x relation on, ap (λ (o : Option Content). one_if (is_some o)) same))
      (λ off. omega (arith, counts_same a i x relation off, counts_same b i x relation off))

  abbrev pub used_in : Contents → List Change → ℕ
  used_in base cs = tuple_count (after base cs) relation + count_by (is_delete_of relation) cs

  pub mixed_uses : (base : Contents) (counts : ℕ → ℕ) (cs : List Change) → Lone cs → Chained base cs → used_in base (up_to counts cs) ≤ used_in base cs
  mixed_uses base counts [] lone chained = omega arith
  mixed_uses base counts (c ∷ cs) lone chained =
      let rest = mixed_uses base counts cs (λ a b is also. lone a b (inr is) (inr also)) chained.1 in
      let more = sum_by-cons (λ (d : Change). one_if (is_delete_of relation d)) c cs in
      by_test (many counts c.by cs)
      (λ e. let same = ap (used_in base) (up_skip counts c cs e) in
      omega (arith, same, rest, more, one_less (after base cs) c chained.0))
      (λ e. let same = ap (used_in base) (up_take counts c cs e) in
      let also = sum_by-cons (λ (d : Change). one_if (is_delete_of relation d)) c (up_to counts cs) in
      let here : content (after base (up_to counts cs)) c.item ≡ content (after base cs) c.item =
      agree base c.by counts (λ o. o) c.item cs e chained.1 (λ d is at off. absurd (off (lone d c (inr is) (inl refl) at))) in
      omega (arith, same, rest, more, also, alike_put (after base (up_to counts cs)) (after base cs) c.item c.new here))
