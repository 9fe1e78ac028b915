use Rattle.std.proofs.Common.{◌∙◌, List, ap, sym, arith}
use Rattle.std.specs.Prelude.{is_some}
use Rattle.rss_base.specs.TupleTypes.{kinds, misfit}
use Rattle.rss_base.specs.declared.field.FieldDef.{FieldDef}
use Rattle.rss_model.proofs.Lengths.{bad_tuple_line}
use Rattle.rss_model.specs.Steps.{admission, value_admission}
use Rattle.rss_access.proofs.Numbered.{entry_at}
use Rattle.rss_session.specs.Parts.{view}
use Rattle.rss_session.proofs.Admitted.{fields_here, value_admits, value_misfit}
use Rattle.rss_session.proofs.First.{fails_first, first_stops}
use Rattle.rss_session.proofs.session.Session.admit_tuple.Goals as goal

pub returns-in_err-number-clause-tests : goal.returns-in_err-number-clause-tests
returns-in_err-number-clause-tests g c =
    let t = c.args.transaction in
    let relation = c.args.relation.now in
    fails_first (view g.S.Pages.view c.args.self.now) (λ state. admission state t relation) (λ state. value_admission state t relation c.args.tuple.now) c.from_residual.result c.from_residual.ensures.1 (λ state. first_stops _ _ _) c.in_err-number.ensures.tests

pub relation-requires : goal.relation-requires
relation-requires g c = ap is_some (entry_at c.args.self.now.store.catalog.listing c.args.relation.now c.in_ok-number.number c.in_ok-number.ensures.known).at

pub returns-in-Ok-clause-tests : goal.returns-in-Ok-clause-tests
returns-in-Ok-clause-tests g c = λ told state shows.
    let entry = c.relation.result.now in
    let are = fields_here shows c.args.transaction c.args.relation.now c.in_ok-number.number c.in_ok-number.ensures.known entry c.relation.ensures.is in
    value_admits shows c.args.transaction c.args.relation.now (kinds entry.fields) are (c.in_ok-number.ensures.tests told state shows) c.args.tuple.now
    (ap (λ (f : List FieldDef). misfit (kinds f) c.args.tuple.now) (sym c.as_slice.ensures) ∙ c.in-Ok.ensures.ok)

pub returns-in-Err-clause-tests : goal.returns-in-Err-clause-tests
returns-in-Err-clause-tests g c = (
  λ told state shows.
      let entry = c.relation.result.now in
      let are = fields_here shows c.args.transaction c.args.relation.now c.in_ok-number.number c.in_ok-number.ensures.known entry c.relation.ensures.is in
      value_misfit shows c.args.transaction c.args.relation.now (kinds entry.fields) are (c.in_ok-number.ensures.tests told state shows) c.args.tuple.now c.in-Err.field
      (ap (λ (f : List FieldDef). misfit (kinds f) c.args.tuple.now) (sym c.as_slice.ensures) ∙ c.in-Err.ensures.first),
  bad_tuple_line c.in-Err.field (omega arith),
)
