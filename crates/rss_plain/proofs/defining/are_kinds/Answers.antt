use Rattle.std.proofs.Common.{arith, rules, tests}
use Rattle.std.proofs.lemmas.Iterator.{YieldsList-from_slice}
use Rattle.std.proofs.lemmas.Iterator.Search.{all_from_yields_List}
use Rattle.rss_base.specs.TupleTypes.{is_kind}
use Rattle.rss_base.specs.declared.field.FieldDef.{FieldDef}
use Rattle.rss_plain.proofs.Originals.{kinds_formed}
use Rattle.rss_plain.proofs.defining.are_kinds.Goals as goal

pub returns-in-1-to-16 : goal.returns-in-1-to-16
returns-in-1-to-16 c = kinds_formed c.args.fields.now _ (omega arith) (omega arith)
    (all_from_yields_List (λ (field : FieldDef). is_kind field.kind) _ _ _ c.all.ensures.ran
    (YieldsList-from_slice c.args.fields.now cc) (λ x b q k. search (rules, tests)))
