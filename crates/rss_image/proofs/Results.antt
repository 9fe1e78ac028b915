-- Results.
use Rattle.std.proofs.Common.{◌≡◌, subst}
use Rattle.std.specs.Prelude.{Option, Some, None, Result, Ok, Err, IfOk, IfSome, OnOk}

pub on_ok : {T E : Type 0} {P Q : T → Type 0} (r : Result T E) → ((x : T) → P x → Q x) → IfOk r P → IfOk r Q
on_ok (Ok x) gives is = gives x is
on_ok (Err e) gives is = tt

pub on_some : {T : Type 0} (P : T → Type 0) (o : Option T) (x : T) → o ≡ Some x → IfSome o P → P x
on_some {T = T} P o x is all = subst (λ (p : Option T). IfSome p P) is all

pub in_some : {T : Type 0} {P Q : T → Type 0} (o : Option T) → ((x : T) → P x → Q x) → IfSome o P → IfSome o Q
in_some (Some x) gives is = gives x is
in_some None gives is = tt

pub on_both : {T E : Type 0} {P Q R : Type 0} (r : Result T E) → (P → Q → R) → OnOk r P → OnOk r Q → OnOk r R
on_both (Ok x) gives one two = gives one two
on_both (Err e) gives one two = tt
