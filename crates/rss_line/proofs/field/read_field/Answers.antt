use Rattle.std.proofs.Common.{◌≡◌, ◌∙◌, List, ℕ, ◌++◌, refl, sym, subst, ap, ap₂, arith, Some, codes}
use Rattle.rss_model.specs.Script.{IsNameWord}
use Rattle.rss_line.proofs.Combining.{some_same, none_some}
use Rattle.rss_line.proofs.Tids.{cut_at}
use Rattle.rss_line.proofs.Fields.{field_cut, field_parts, same_field}
use Rattle.rss_line.proofs.field.read_field.Goals as goal

pub returns-in_err-name : goal.returns-in_err-name
returns-in_err-name c = rw c.from_residual.ensures (record {
  some = tt;
  all = λ field is. absurd (field_cut c.args.word.now c.split_once.result field c.split_once.ensures.cases is c.in_err-name.was);
})

pub returns-in_err-name-2 : goal.returns-in_err-name-2
returns-in_err-name-2 c = rw c.from_residual-in_err-name-2.ensures (record {
  some = tt;
  all = λ field is.
      let parts = field_parts c.args.word.now c.split_once.result field c.split_once.ensures.cases is _ c.in_ok-name.was in
      absurd (none_some (c.in_err-name-2.ensures.all field.name (subst (λ (w : List ℕ). IsNameWord w field.name) (sym c.as_bytes.ensures.value) parts.0)));
})

pub returns-in_err-kind : goal.returns-in_err-kind
returns-in_err-kind c = rw c.from_residual-in_err-kind.ensures (record {
  some = tt;
  all = λ field is.
      let parts = field_parts c.args.word.now c.split_once.result field c.split_once.ensures.cases is _ c.in_ok-name.was in
      absurd (none_some (c.in_err-kind.ensures.all field.kind parts.1));
})

pub returns : goal.returns
returns c =
    let name = c.in_ok-name-2.ensures.some in
    let kind = c.in_ok-kind.ensures.some in
    let cut : c.args.word.now ≡ c.in_ok-name.name.now ++ codes ":" ++ c.in_ok-name.kind.now =
    cut_at 58 (omega arith) c.args.word.now c.split_once.result _ c.split_once.ensures.cases c.in_ok-name.was in
    record {
      some = record { spelled = cut ∙ ap₂ (λ n k. n ++ codes ":" ++ k) (sym c.as_bytes.ensures.value ∙ name.spelled) kind.spelled; is_name = name.is_name; kind = kind.allowed; original = refl };
      all = λ field is.
          let parts = field_parts c.args.word.now c.split_once.result field c.split_once.ensures.cases is _ c.in_ok-name.was in
          ap Some (same_field _ field (some_same (c.in_ok-name-2.ensures.all field.name (subst (λ (w : List ℕ). IsNameWord w field.name) (sym c.as_bytes.ensures.value) parts.0))) (some_same (c.in_ok-kind.ensures.all field.kind parts.1)) (sym is.original));
    }
