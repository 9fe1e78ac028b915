-- The test by which a set tells pages apart.
use Rattle.std.proofs.Common.{◌≡◌, inl, inr, Bool, true, sym, ◌∙◌, ap, subst, rules}
use Rattle.std.specs.Cmp.{IsEquivalence}
use Rattle.std.proofs.lemmas.Bool.{cases_Bool}
use Rattle.rss_base.specs.declared.key.PageKey.{PageKey}
use Rattle.rss_base.specs.contracts.key.PageKeyPartialEq.TheImpl as block

abbrev pub keys_same : PageKey → PageKey → Bool
keys_same = block.ghosts.eq

pub keys_exact : (a b : PageKey) → keys_same a b ≡ true → a ≡ b
keys_exact a b is = search rules

itself : (a : PageKey) → keys_same a a ≡ true
itself a = search rules

one_key : (a b : PageKey) → a ≡ b → keys_same a b ≡ true
one_key a b is = subst (λ (k : PageKey). keys_same a k ≡ true) is (itself a)

pub keys_laws : IsEquivalence keys_same
keys_laws = record {
  refl = itself;
  symm = λ a b. elim (cases_Bool (keys_same a b)) [
    | inl same ↦ same ∙ sym (one_key b a (sym (keys_exact a b same)))
    | inr other ↦ elim (cases_Bool (keys_same b a)) [
      | inl same ↦ one_key a b (sym (keys_exact b a same)) ∙ sym same
      | inr turned ↦ other ∙ sym turned
    ]
  ];
  congr = λ a b c same. ap (λ (k : PageKey). keys_same k c) (keys_exact a b same);
}
