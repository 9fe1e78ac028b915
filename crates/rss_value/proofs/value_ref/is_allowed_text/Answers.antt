use Rattle.std.proofs.Common.{◌≡◌, ◌∙◌, sym, ap, true, Bool, List, ℕ, ◌&&◌, Result, Ok, Err, is_ok, eq-eqb}
use Rattle.std.proofs.lemmas.Str.{utf8_valid_len-IsUtf8}
use Rattle.std.specs.List.{list_all}
use Rattle.std.specs.Str.{IsUtf8}
use Rattle.std.specs.Result.{MatchResult}
use Rattle.rss_base.specs.TupleTypes.{is_allowed_byte, is_allowed_text}
use Rattle.rss_value.proofs.value_ref.is_allowed_text.Goals as goal

-- what is said of an `Ok`
of_ok : {T E U : Type 0} (P : T → Type 0) (Q : E → Type 0) (r : Result T E) → is_ok r ≡ true → MatchResult r (λ t. P t × U) Q → U
of_ok P Q (Ok t) is h = h.1
of_ok P Q (Err e) is h = cc

text : (bytes : List ℕ) (r : Bool) → r ≡ list_all is_allowed_byte bytes → IsUtf8 bytes → r ≡ is_allowed_text bytes
text bytes r plain utf8 = plain ∙ sym (ap (λ (b : Bool). b && list_all is_allowed_byte bytes) (eq-eqb _ _ (utf8_valid_len-IsUtf8 bytes utf8)))

pub returns-then-is_ok : goal.returns-then-is_ok
returns-then-is_ok c = text _ _ c.has_no_control.ensures (of_ok _ _ _ (sym c.is_ok.ensures.value ∙ c.if-is_ok.true) c.from_utf8.ensures.cases)
