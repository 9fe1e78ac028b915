-- What is said by the fields that are lent is said by those of the relation.
use Rattle.std.proofs.Common.{sym, ◌∙◌, refl, subst}
use Rattle.std.specs.Prelude.{Ok, Err}
use Rattle.std.proofs.lemmas.Option.{same_Some}
use Rattle.rss_base.specs.TupleTypes.{kinds}
use Rattle.rss_base.specs.declared.answer.CallError.TheVariants.{Damaged, NoMemory}
use Rattle.rss_base.specs.declared.place.Place.TheVariants.{Tuple as TuplePlace}
use Rattle.rss_base.specs.declared.relation.RelationEntry.{RelationEntry}
use Rattle.rss_rsi.specs.Bodies.{ComesOf}
use Rattle.rss_rsi.proofs.Bodied.{read_of, of_some, of_none}
use Rattle.rss_rsi.proofs.looking.tuple_in.Goals as goal

pub returns-in_default : goal.returns-in_default
returns-in_default c = λ relation at.
    let place = TuplePlace c.args.segment c.args.tid in
    subst (λ (r : RelationEntry). ComesOf c.args.catalog.now.listing c.args.number (kinds r.fields) place c.args.body.now (Err (Damaged place))) (same_Some _ _ (sym c.relation.ensures.is ∙ at))
    (refl, of_none ((rw c.as_slice-fields.ensures at c.spelled_in.ensures.none) c.in_default.is))

pub made_into-requires : goal.made_into-requires
made_into-requires c = c.in-Some.ensures.some.spelled

pub returns-in-Ok : goal.returns-in-Ok
returns-in-Ok c = λ relation at.
    let place = TuplePlace c.args.segment c.args.tid in
    subst (λ (r : RelationEntry). ComesOf c.args.catalog.now.listing c.args.number (kinds r.fields) place c.args.body.now (Ok c.made_into.new.into)) (same_Some _ _ (sym c.relation.ensures.is ∙ at))
    (rw c.as_slice-fields.ensures at (read_of c.in-Some.ensures.some c.in-Ok.ensures.is c.in-Ok.ensures.only))

pub returns-in-Err : goal.returns-in-Err
returns-in-Err c = λ relation at.
    let place = TuplePlace c.args.segment c.args.tid in
    subst (λ (r : RelationEntry). ComesOf c.args.catalog.now.listing c.args.number (kinds r.fields) place c.args.body.now (Err NoMemory)) (same_Some _ _ (sym c.relation.ensures.is ∙ at))
    (rw c.as_slice-fields.ensures at (of_some c.in-Some.ensures.some))
