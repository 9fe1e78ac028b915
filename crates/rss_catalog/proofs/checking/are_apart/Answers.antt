use Rattle.std.proofs.Common.{◌≡◌, ◌∙◌, ℕ, false, [], take, length, Some, None, sym, subst, arith}
use Rattle.std.proofs.lemmas.List.{length-set, length-map, take_all, get_or-map}
use Rattle.rss_base.specs.declared.field.FieldDef.{FieldDef}
use Rattle.rss_base.specs.declared.value.FieldKind.TheVariants.{Int}
use Rattle.rss_catalog.specs.Checking.{AreOnce}
use Rattle.rss_catalog.proofs.Tested.{put_more, named_fields, apart_of_once, once_of_apart}
use Rattle.rss_catalog.proofs.checking.are_apart.Goals as goal

pub loop-place-preserved : goal.loop-place-preserved
loop-place-preserved c =
    let fields = c.args.fields.now in
    let some : FieldDef = record { name = record { bytes = [] }; kind = Int; added = false } in
    record {
      long = length-set c.loop-place.names _ _ ∙ c.loop-place.invariant.long;
      same = put_more c.loop-place.names (named_fields fields) c.loop-place.place _ None (omega (arith, c.loop-place.invariant.long, c.loop-place-test.true, c.requires)) (omega (arith, length-map fields (λ (field : FieldDef). Some field.name), c.loop-place-test.true)) c.loop-place.invariant.same
          (sym (get_or-map (λ (field : FieldDef). Some field.name) fields c.loop-place.place some None c.loop-place-test.true));
    }

pub returns : goal.returns
returns c =
    let fields = c.args.fields.now in
    let names = c.loop-place.names in
    let count : c.loop-place.place ≡ length fields = omega arith in
    let all : take (length fields) names ≡ named_fields fields = subst (λ (n : ℕ). take n names ≡ take n (named_fields fields)) count c.loop-place.invariant.same ∙ take_all (length fields) (named_fields fields) (omega (arith, length-map fields (λ (field : FieldDef). Some field.name))) in
    (λ it. apart_of_once fields (subst AreOnce all (c.are_once.ensures.0 it)), λ apart. c.are_once.ensures.1 (subst AreOnce (sym all) (once_of_apart fields apart)))
