use Rattle.std.specs.FinMap.{slice_cmp-IsAntisymmetric, nat_cmp-IsAntisymmetric}
use Rattle.std.proofs.Common.{◌≡◌, List, ℕ, Some, sym, ◌∙◌, subst}
use Rattle.std.specs.Ordering.{nat_cmp}
use Rattle.std.specs.Cmp.Lexicographic.{slice_cmp}
use Rattle.std.specs.declared.cmp.Ordering.TheVariants.{Equal}
use Rattle.std.proofs.lemmas.Cmp.{nat_list_cmp_total, tied_itself}
use Rattle.rss_image.proofs.Others.{key_of_found}
use Rattle.rss_image.proofs.image.having.Goals as goal

pub returns-in-Equal-clause-some : goal.returns-in-Equal-clause-some
returns-in-Equal-clause-some c =
    let same : c.in-Some.has ≡ c.args.key.now = slice_cmp-IsAntisymmetric nat_cmp-IsAntisymmetric c.in-Some.has c.args.key.now (sym c.in-Equal.ensures.bytes) in
    c.in-Some.is ∙ (λ i. Some (same i, c.in-Some.tid))

pub returns-in_default : goal.returns-in_default
returns-in_default c = record {
  some = tt;
  none = λ is tid found.
      let same : c.in-Some.has ≡ c.args.key.now = key_of_found c.in-Some.has c.args.key.now c.in-Some.tid tid (sym c.in-Some.is ∙ found) in
      c.in_default.not-Equal (c.compare_keys.ensures.bytes ∙ subst (λ (k : List ℕ). slice_cmp nat_cmp c.in-Some.has k ≡ Equal) same (tied_itself nat_list_cmp_total c.in-Some.has));
}
