-- The bytes of tuples that have a value more.
use Rattle.std.proofs.Common.{◌≡◌, ℕ, ◌≤◌, Bool, ◌&&◌, cond, List, [], ◌∷◌, ◌++◌, length, refl, ap, ◌∙◌, arith}
use Rattle.std.specs.List.{list_all}
use Rattle.rss_base.specs.declared.value.Value.{Value}
use Rattle.rss_base.specs.declared.value.Value.TheVariants.{Undefined}
use Rattle.rss_base.specs.declared.value.FieldForm.{FieldForm}
use Rattle.rss_base.specs.TupleTypes.{is_undefined, marked_bytes, tuple_bytes}

undefined_longer : (values : List Value) → list_all is_undefined (values ++ Undefined ∷ []) ≡ list_all is_undefined values
undefined_longer [] = refl
undefined_longer (value ∷ values) = ap (λ (b : Bool). is_undefined value && b) (undefined_longer values)

-- one more value that is undefined gives the same bytes
pub tuple_longer : (forms : List FieldForm) (values : List Value) (form : FieldForm) → length values ≤ length forms → tuple_bytes (forms ++ form ∷ []) (values ++ Undefined ∷ []) ≡ tuple_bytes forms values
tuple_longer [] [] form few = refl
tuple_longer [] (value ∷ values) form few = absurd (omega arith)
tuple_longer (first ∷ forms) [] form few = refl
tuple_longer (first ∷ forms) (value ∷ values) form few =
    ap (λ (b : Bool). cond b [] (marked_bytes first.added value ++ tuple_bytes (forms ++ form ∷ []) (values ++ Undefined ∷ []))) (undefined_longer (value ∷ values))
    ∙ ap (λ (bytes : List ℕ). cond (list_all is_undefined (value ∷ values)) [] (marked_bytes first.added value ++ bytes)) (tuple_longer forms values form (omega arith))
