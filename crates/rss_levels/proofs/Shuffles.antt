-- The same numbers, in another order.
use Rattle.std.proofs.Common.{◌≢◌, ⊎_elim, ℕ, List, [], ◌∷◌, ◌++◌}
use Rattle.rss_levels.specs.Entries.{Each, IsIn}
use Rattle.rss_levels.specs.Nested.{AreSameNumbers}
use Rattle.rss_levels.proofs.Lists.{each_append, each_left, each_right, each_weaker, pairwise_append, pairwise_left, pairwise_right, pairwise_cross}
use Rattle.rss_levels.proofs.Nesting.{each_among, turned}
use Rattle.rss_levels.proofs.Pages.{in_left, in_right, in_append}

pub same_refl : (a : List ℕ) → AreSameNumbers a a
same_refl a = record { into = λ n is. is; back = λ n is. is; distinct = λ all. all }

pub same_trans : (a b c : List ℕ) → AreSameNumbers a b → AreSameNumbers b c → AreSameNumbers a c
same_trans a b c one two = record { into = λ n is. two.into n (one.into n is); back = λ n is. one.back n (two.back n is); distinct = λ all. one.distinct (two.distinct all) }

pub same_append : (a b c d : List ℕ) → AreSameNumbers a b → AreSameNumbers c d → AreSameNumbers (a ++ c) (b ++ d)
same_append a b c d one two = record {
  into = λ n is. ⊎_elim (λ (left : IsIn a n). in_left b d n (one.into n left)) (λ (right : IsIn c n). in_right b d n (two.into n right)) (in_append a c n is);
  back = λ n is. ⊎_elim (λ (left : IsIn b n). in_left a c n (one.back n left)) (λ (right : IsIn d n). in_right a c n (two.back n right)) (in_append b d n is);
  distinct = λ all. pairwise_append (λ x y. x ≢ y) a c (one.distinct (pairwise_left (λ x y. x ≢ y) b d all)) (two.distinct (pairwise_right (λ x y. x ≢ y) b d all))
      (each_among (λ x. Each (λ y. x ≢ y) c) a b one.into (each_weaker (λ x. Each (λ y. x ≢ y) d) (λ x. Each (λ y. x ≢ y) c) b (λ x far. each_among (λ y. x ≢ y) c d two.into far) (pairwise_cross (λ x y. x ≢ y) b d all)));
}

pub same_swap : (a b c d : List ℕ) → AreSameNumbers ((a ++ b) ++ (c ++ d)) ((a ++ c) ++ (b ++ d))
same_swap a b c d = record {
  into = λ n is. swap a b c d n is;
  back = λ n is. swap a c b d n is;
  distinct = λ all.
      let ac = pairwise_left (λ x y. x ≢ y) (a ++ c) (b ++ d) all in
      let bd = pairwise_right (λ x y. x ≢ y) (a ++ c) (b ++ d) all in
      let cross = pairwise_cross (λ x y. x ≢ y) (a ++ c) (b ++ d) all in
      let a_bd = each_left (λ x. Each (λ y. x ≢ y) (b ++ d)) a c cross in
      let c_bd = each_right (λ x. Each (λ y. x ≢ y) (b ++ d)) a c cross in
      let a_b = each_weaker (λ x. Each (λ y. x ≢ y) (b ++ d)) (λ x. Each (λ y. x ≢ y) b) a (λ x far. each_left (λ y. x ≢ y) b d far) a_bd in
      let a_d = each_weaker (λ x. Each (λ y. x ≢ y) (b ++ d)) (λ x. Each (λ y. x ≢ y) d) a (λ x far. each_right (λ y. x ≢ y) b d far) a_bd in
      let c_b = each_weaker (λ x. Each (λ y. x ≢ y) (b ++ d)) (λ x. Each (λ y. x ≢ y) b) c (λ x far. each_left (λ y. x ≢ y) b d far) c_bd in
      let c_d = each_weaker (λ x. Each (λ y. x ≢ y) (b ++ d)) (λ x. Each (λ y. x ≢ y) d) c (λ x far. each_right (λ y. x ≢ y) b d far) c_bd in
      let a_c = pairwise_cross (λ x y. x ≢ y) a c ac in
      let b_d = pairwise_cross (λ x y. x ≢ y) b d bd in
      pairwise_append (λ x y. x ≢ y) (a ++ b) (c ++ d)
      (pairwise_append (λ x y. x ≢ y) a b (pairwise_left (λ x y. x ≢ y) a c ac) (pairwise_left (λ x y. x ≢ y) b d bd) a_b)
      (pairwise_append (λ x y. x ≢ y) c d (pairwise_right (λ x y. x ≢ y) a c ac) (pairwise_right (λ x y. x ≢ y) b d bd) c_d)
      (each_append (λ x. Each (λ y. x ≢ y) (c ++ d)) a b (joined a c d a_c a_d) (joined b c d (turned c b c_b) b_d));
}
  where
    swap : (a b c d : List ℕ) (n : ℕ) → IsIn ((a ++ b) ++ (c ++ d)) n → IsIn ((a ++ c) ++ (b ++ d)) n
    swap a b c d n is = ⊎_elim
        (λ (ab : IsIn (a ++ b) n). ⊎_elim (λ (in_a : IsIn a n). in_left (a ++ c) (b ++ d) n (in_left a c n in_a)) (λ (in_b : IsIn b n). in_right (a ++ c) (b ++ d) n (in_left b d n in_b)) (in_append a b n ab))
        (λ (cd : IsIn (c ++ d) n). ⊎_elim (λ (in_c : IsIn c n). in_left (a ++ c) (b ++ d) n (in_right a c n in_c)) (λ (in_d : IsIn d n). in_right (a ++ c) (b ++ d) n (in_right b d n in_d)) (in_append c d n cd))
        (in_append (a ++ b) (c ++ d) n is)

    joined : (xs ys zs : List ℕ) → Each (λ x. Each (λ y. x ≢ y) ys) xs → Each (λ x. Each (λ y. x ≢ y) zs) xs → Each (λ x. Each (λ y. x ≢ y) (ys ++ zs)) xs
    joined [] ys zs one two = tt
    joined (x ∷ xs) ys zs one two = (each_append (λ y. x ≢ y) ys zs one.0 two.0, joined xs ys zs one.1 two.1)
