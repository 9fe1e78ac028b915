-- The name and the kind of a field.
use Rattle.std.proofs.Common.{◌≡◌, ◌∙◌, ℕ, List, Option, Some, None, arith, append_assoc}
use Rattle.std.specs.Prelude.{MatchOption, codes}
use Rattle.std.specs.Borrow.{Bor}
use Rattle.std.proofs.lemmas.Str.Pattern.{IsSplitOnceResult, split_after}
use Rattle.std.proofs.lemmas.Option.{MatchOption-at_none, MatchOption-at_some}
use Rattle.rss_base.specs.declared.field.FieldDef.{FieldDef}
use Rattle.rss_model.specs.Spellings.{name_text, field_kind_text}
use Rattle.rss_model.specs.Script.{IsNameWord, IsField}
use Rattle.rss_line.specs.Reads.{IsKind}
use Rattle.rss_line.proofs.Plain.{no_colon}

-- a field is cut at its colon, into its name and its kind
module _ (word : List ℕ) (r : Option (Bor (List ℕ) × Bor (List ℕ))) (field : FieldDef) (cut : IsSplitOnceResult 58 word r) (is : IsField word field) where
  parts : MatchOption r ⊥ (λ x. (x.0.now ≡ name_text field.name) × (x.1.now ≡ field_kind_text field.kind))
  parts = split_after 58 word (name_text field.name) (field_kind_text field.kind) r cut (omega arith)
      (is.spelled ∙ append_assoc (name_text field.name) (codes ":") (field_kind_text field.kind)) (no_colon is.is_name)

  pub field_cut : r ≡ None → ⊥
  field_cut none = MatchOption-at_none ⊥ (λ x. (x.0.now ≡ name_text field.name) × (x.1.now ≡ field_kind_text field.kind)) none parts

  pub field_parts : (x : Bor (List ℕ) × Bor (List ℕ)) → r ≡ Some x → IsNameWord x.0.now field.name × IsKind x.1.now field.kind
  field_parts x some =
      let two = MatchOption-at_some ⊥ (λ x. (x.0.now ≡ name_text field.name) × (x.1.now ≡ field_kind_text field.kind)) x some parts in
      (record { spelled = two.0; is_name = is.is_name }, record { spelled = two.1; allowed = is.kind })

pub same_field : (x y : FieldDef) → x.name ≡ y.name → x.kind ≡ y.kind → x.added ≡ y.added → x ≡ y
same_field x y name kind added = λ i. record { name = name i; kind = kind i; added = added i }
