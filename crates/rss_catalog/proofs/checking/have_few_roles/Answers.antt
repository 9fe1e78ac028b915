-- It is enough to count the roles of relations that are there.
use Rattle.std.proofs.Common.{ℕ, ◌+◌, ◌≤◌, sym, subst, refl, inl, inr, arith}
use Rattle.std.specs.Prelude.{count_by}
use Rattle.std.proofs.lemmas.Bool.{cases_eq}
use Rattle.rss_base.specs.Listings.{has_role}
use Rattle.rss_catalog.proofs.Roles.{few_all}
use Rattle.rss_catalog.proofs.checking.have_few_roles.Goals as goal

pub loop-place-preserved : goal.loop-place-preserved
loop-place-preserved c = λ k less. elim (cases_eq k c.loop-place.place) [
  | inl here ↦ subst (λ (n : ℕ). count_by (has_role (n + 1)) c.args.links.now ≤ 16) (sym here) (omega (arith, c.roles_in.ensures, c.if-roles_in-gt-ROLES_MOST.false))
  | inr off ↦ c.loop-place.invariant k (omega (arith, less, off))
]

pub returns : goal.returns
returns c = (λ it. few_all c.args.relations.now c.args.links.now c.loop-place.place c.requires.fit c.loop-place-test.false c.loop-place.invariant, λ few. refl)
