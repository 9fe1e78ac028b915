-- What pages hold after one of them was written twice.
use Rattle.std.proofs.Common.{◌≡◌, ℕ, Bool, true, false, cond, List, Option, refl}
use Rattle.std.proofs.Math.Path.{fun_ext}
use Rattle.rss_base.specs.Paged.{Held, is_same, with_page}
use Rattle.rss_base.specs.declared.key.PageKey.{PageKey}

pub with_page-twice : (held : Held) (key : PageKey) (first second : Option (List ℕ)) → with_page (with_page held key first) key second ≡ with_page held key second
with_page-twice held key first second = fun_ext (λ other. by (is_same other key) (held other))
  where
    by : (same : Bool) (was : Option (List ℕ)) → cond same second (cond same first was) ≡ cond same second was
    by true was = refl
    by false was = refl
