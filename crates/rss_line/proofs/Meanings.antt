-- What a table of variables tells.
use Rattle.std.proofs.Common.{◌≡◌, ◌∙◌, inl, inr, ℕ, Bool, true, false, cond, List, [], ◌∷◌, Option, Some, None, option_map, refl, ap}
use Rattle.std.specs.Prelude.{nat_eq}
use Rattle.std.specs.Map.{lookup}
use Rattle.std.specs.Cmp.Lexicographic.{pointwise}
use Rattle.indexmap.specs.IndexMap.{insert_entry}
use Rattle.rss_base.specs.declared.name.Name.{Name}
use Rattle.rss_base.specs.declared.tid.Tid.{Tid}
use Rattle.rss_model.specs.Variables.{Meaning, Identifier, Number, Variable, meaning_of, with_meaning}
use Rattle.rss_model.specs.Script.{IsVariable, IsTidIn, IsNumberIn}
use Rattle.rss_line.specs.Reads.{ReadsAs}
use Rattle.rss_line.proofs.Functions.{one_variable, tid_no_variable, number_no_variable}
use Rattle.rss_line.specs.declared.names.Meaning.{Meaning as Kept}
use Rattle.rss_line.specs.Named.{meant, variables}

abbrev pub same_name : Name → Name → Bool
same_name a b = pointwise nat_eq a.bytes b.bytes

found : (b : Bool) (kept : Kept) (rest : Option Kept) → cond b (Some (meant kept)) (option_map meant rest) ≡ option_map meant (cond b (Some kept) rest)
found true kept rest = refl
found false kept rest = refl

pub means_found : (entries : List (Name × Kept)) (name : Name) → meaning_of (variables entries) name ≡ option_map meant (lookup (same_name name) entries)
means_found [] name = refl
means_found (e ∷ es) name =
    ap (λ (rest : Option Meaning). cond (same_name name e.0) (Some (meant e.1)) rest) (means_found es name)
    ∙ found (same_name name e.0) e.1 (lookup (same_name name) es)

put : (b : Bool) (e : Name × Kept) (es more : List (Name × Kept)) (kept : Kept)
    → variables (cond b ((e.0, kept) ∷ es) (e ∷ more)) ≡ cond b (record { name = e.0; meaning = meant kept } ∷ variables es) (record { name = e.0; meaning = meant e.1 } ∷ variables more)
put true e es more kept = refl
put false e es more kept = refl

pub means_put : (entries : List (Name × Kept)) (name : Name) (kept : Kept) → variables (insert_entry same_name entries name kept) ≡ with_meaning (variables entries) name (meant kept)
means_put [] name kept = refl
means_put (e ∷ es) name kept =
    put (same_name name e.0) e es (insert_entry same_name es name kept) kept
    ∙ ap (λ (rest : List Variable). cond (same_name name e.0) (record { name = e.0; meaning = meant kept } ∷ variables es) (record { name = e.0; meaning = meant e.1 } ∷ rest)) (means_put es name kept)

-- ---- what is read of a meaning

pub tid_is : (m : Option Meaning) (tid : Tid) → m ≡ Some (Identifier tid) → ReadsAs (λ (x : Tid). m ≡ Some (Identifier x)) (Some tid)
tid_is m tid is = record { some = is; all = λ x has. cc (is, has) }

pub tid_none : (m : Option Meaning) → ((x : Tid) → m ≡ Some (Identifier x) → ⊥) → ReadsAs (λ (x : Tid). m ≡ Some (Identifier x)) None
tid_none m none = record { some = tt; all = λ x has. absurd (none x has) }

pub number_is : (m : Option Meaning) (n : ℕ) → m ≡ Some (Number n) → ReadsAs (λ (x : ℕ). m ≡ Some (Number x)) (Some n)
number_is m n is = record { some = is; all = λ x has. cc (is, has) }

pub number_none : (m : Option Meaning) → ((x : ℕ) → m ≡ Some (Number x) → ⊥) → ReadsAs (λ (x : ℕ). m ≡ Some (Number x)) None
number_none m none = record { some = tt; all = λ x has. absurd (none x has) }

pub unset : {m : Option Meaning} {x : Meaning} → m ≡ None → m ≡ Some x → ⊥
unset none some = cc

pub no_tid : {m : Option Meaning} {n : ℕ} {x : Tid} → m ≡ Some (Number n) → m ≡ Some (Identifier x) → ⊥
no_tid number is = cc

pub no_number : {m : Option Meaning} {x : Tid} {n : ℕ} → m ≡ Some (Identifier x) → m ≡ Some (Number n) → ⊥
no_number tid is = cc

-- ---- a variable in place of a word

module _ (names : List Variable) (word : List ℕ) (variable : Name) (is : IsVariable word variable) where
  pub tid_by : (result : Option Tid) → ReadsAs (λ (x : Tid). meaning_of names variable ≡ Some (Identifier x)) result → ReadsAs (IsTidIn names word) result
  tid_by (Some tid) reads = record { some = inr (record { name = variable; is_variable = is; means = reads.some }); all = λ x has. all x has }
    where
      all : (x : Tid) → IsTidIn names word x → Some tid ≡ Some x
      all x (inl spelled) = absurd (tid_no_variable word x variable spelled is)
      all x (inr set) = reads.all x (ap (meaning_of names) (one_variable word variable set.name is set.is_variable) ∙ set.means)
  tid_by None reads = record { some = tt; all = λ x has. all x has }
    where
      all : (x : Tid) → IsTidIn names word x → None ≡ Some x
      all x (inl spelled) = absurd (tid_no_variable word x variable spelled is)
      all x (inr set) = reads.all x (ap (meaning_of names) (one_variable word variable set.name is set.is_variable) ∙ set.means)

  pub number_by : (result : Option ℕ) → ReadsAs (λ (x : ℕ). meaning_of names variable ≡ Some (Number x)) result → ReadsAs (IsNumberIn names word) result
  number_by (Some n) reads = record { some = inr (record { name = variable; is_variable = is; means = reads.some }); all = λ x has. all x has }
    where
      all : (x : ℕ) → IsNumberIn names word x → Some n ≡ Some x
      all x (inl spelled) = absurd (number_no_variable word x variable spelled is)
      all x (inr set) = reads.all x (ap (meaning_of names) (one_variable word variable set.name is set.is_variable) ∙ set.means)
  number_by None reads = record { some = tt; all = λ x has. all x has }
    where
      all : (x : ℕ) → IsNumberIn names word x → None ≡ Some x
      all x (inl spelled) = absurd (number_no_variable word x variable spelled is)
      all x (inr set) = reads.all x (ap (meaning_of names) (one_variable word variable set.name is set.is_variable) ∙ set.means)
