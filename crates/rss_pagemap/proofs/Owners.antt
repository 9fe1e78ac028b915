-- The owners of slots, one of them set.
use Rattle.std.proofs.Common.{◌≡◌, ◌≢◌, ◌⊎◌, inl, inr, ℕ, ◌<◌, List, length, set, Option, Some, None, IfSome, sym, ◌∙◌, subst, arith, length-set, get_or-set_other, get_or-set_same}
use Rattle.std.proofs.lemmas.Bool.{cases_lt, cases_eq}
use Rattle.std.proofs.lemmas.List.{get_or_past}
use Rattle.std.proofs.lemmas.Option.{MatchOption-at_some, none-some}
use Rattle.rss_base.specs.PageMap.{IsKey, IsTable, owner_of}
use Rattle.rss_base.specs.declared.key.PageKey.{PageKey}

-- only a slot has an owner
pub owned_within : (owners : List (Option PageKey)) (s : ℕ) (key : PageKey) → owner_of owners s ≡ Some key → s < length owners
owned_within owners s key is = elim (cases_lt s (length owners)) [
  | inl within ↦ within
  | inr past ↦ absurd (none-some key (sym (get_or_past owners s None past) ∙ is))
]

-- a slot's owner, after one slot was set
set_cases : (owners : List (Option PageKey)) (slot : ℕ) (owner : Option PageKey) (s : ℕ) (key : PageKey) → slot < length owners → owner_of (set owners slot owner) s ≡ Some key → ((s ≡ slot) × (owner ≡ Some key)) ⊎ ((s ≢ slot) × (owner_of owners s ≡ Some key))
set_cases owners slot owner s key within is = elim (cases_eq s slot) [
  | inl same ↦ inl (same, sym (get_or-set_same owners slot owner None within) ∙ subst (λ (n : ℕ). owner_of (set owners slot owner) n ≡ Some key) same is)
  | inr other ↦ inr (other, sym (get_or-set_other owners slot s owner None other) ∙ is)
]

pub table_set : (owners : List (Option PageKey)) (slot : ℕ) (owner : Option PageKey) → IsTable owners → slot < length owners → IfSome owner (IsKey (length owners)) → IfSome owner (λ key. (other : ℕ) → owner_of owners other ≡ Some key → other ≡ slot) → IsTable (set owners slot owner)
table_set owners slot owner table within allowed alone =
    let long = length-set owners slot owner in
    record {
      least = omega (arith, long, table.least);
      most = omega (arith, long, table.most);
      allowed = λ s key is. subst (λ (n : ℕ). IsKey n key) (sym long) (elim (set_cases owners slot owner s key within is) [
        | inl here ↦ MatchOption-at_some _ _ key here.1 allowed
        | inr there ↦ table.allowed s key there.1
      ]);
      distinct = λ s t key one two. elim (set_cases owners slot owner s key within one) [
        | inl s_here ↦ elim (set_cases owners slot owner t key within two) [
          | inl t_here ↦ s_here.0 ∙ sym t_here.0
          | inr t_there ↦ absurd (t_there.0 (MatchOption-at_some _ _ key s_here.1 alone t t_there.1))
        ]
        | inr s_there ↦ elim (set_cases owners slot owner t key within two) [
          | inl t_here ↦ absurd (s_there.0 (MatchOption-at_some _ _ key t_here.1 alone s s_there.1))
          | inr t_there ↦ table.distinct s t key s_there.1 t_there.1
        ]
      ];
    }
