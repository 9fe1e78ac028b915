-- Identifiers in bytes, and places that may have none: bytes spell one of them at most.
use Rattle.std.proofs.Common.{◌≡◌, ℕ, List, ◌++◌, length, refl, sym, ◌∙◌, ap}
use Rattle.std.specs.Prelude.{Option, Some, None, IfSome}
use Rattle.std.proofs.lemmas.Option.{same_Some}
use Rattle.rss_base.specs.LogRecords.{tid_bytes, place_bytes}
use Rattle.rss_base.specs.Listings.{IsSpelled}
use Rattle.rss_base.specs.declared.tid.Tid.{Tid}
use Rattle.rss_record.specs.Reading.{tid_at, place_at}
use Rattle.rss_record.proofs.FieldBytes.{IsPlace, tid_again, place_again}

pub length-place_bytes : (place : Option Tid) → length (place_bytes place) ≡ 6
length-place_bytes None = refl
length-place_bytes (Some tid) = refl

-- of two identifiers, with what follows them
pub tid_parts : (a b : Tid) (u v : List ℕ) → IsSpelled a → IsSpelled b → tid_bytes a ++ u ≡ tid_bytes b ++ v → (a ≡ b) × (u ≡ v)
tid_parts a b u v one other same =
    let both = same_Some _ _ (sym (tid_again a u (one.1, one.0)) ∙ ap tid_at same ∙ tid_again b v (other.1, other.0)) in
    (ap (λ (p : Tid × List ℕ). p.0) both, ap (λ (p : Tid × List ℕ). p.1) both)

is_place : (place : Option Tid) → IfSome place IsSpelled → IsPlace place
is_place None is = (tt, tt)
is_place (Some tid) is = (is.1, is.0)

-- and of two places
pub place_parts : (a b : Option Tid) (u v : List ℕ) → IfSome a IsSpelled → IfSome b IsSpelled → place_bytes a ++ u ≡ place_bytes b ++ v → (a ≡ b) × (u ≡ v)
place_parts a b u v one other same =
    let both = same_Some _ _ (sym (place_again a u (is_place a one)) ∙ ap place_at same ∙ place_again b v (is_place b other)) in
    (ap (λ (p : Option Tid × List ℕ). p.0) both, ap (λ (p : Option Tid × List ℕ). p.1) both)
