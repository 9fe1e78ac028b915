-- The tuples of a chain, one by one.
use Rattle.std.proofs.Common.{◌≡◌, inl, inr, Bool, true, List, [], ◌∷◌, length, sym, ◌∙◌, ap, refl, arith}
use Rattle.std.specs.Prelude.{Option, Some, None, ◌||◌, ◌≤◌}
use Rattle.rss_base.specs.declared.tid.Tid.{Tid}
use Rattle.rss_base.specs.Prefixes.{is_tid}
use Rattle.rss_model.specs.Items.{Content, Tuples}
use Rattle.rss_model.specs.Chains.{tuples_in, chain_content, stands_in}
use Rattle.rss_model.proofs.LogLists.{by_test}
use Rattle.rss_model.proofs.Mixing.{In}
use Rattle.rss_model.proofs.Standing.{tid_same}

pub in_of : (tids : List Tid) (x : Tid) → stands_in x tids ≡ true → In x tids
in_of [] x is = absurd (cc (is))
in_of (tid ∷ tids) x is = by_test (is_tid x tid)
    (λ e. inl (sym (tid_same x tid e)))
    (λ e. inr (in_of tids x (ap (λ (b : Bool). b || stands_in x tids) (sym e) ∙ is)))

pub some_content : (tids : List Tid) → 1 ≤ length tids → chain_content tids ≡ Some (Tuples tids)
some_content [] some = absurd (omega (arith, some))
some_content (tid ∷ tids) some = refl

pub some_held : (held : Option Content) (x : Tid) → stands_in x (tuples_in held) ≡ true → (it : Content) × (held ≡ Some it)
some_held None x is = absurd (cc (is))
some_held (Some it) x is = (it, refl)
