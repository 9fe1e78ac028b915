use Rattle.std.proofs.Common.{◌≡◌, true, false, ℕ, refl, sym, ◌∙◌, ap, subst, arith}
use Rattle.std.specs.Prelude.{option_copied}
use Rattle.std.proofs.Math.Logic.{∥∥₁_elim, ∥∥₁_map}
use Rattle.std.proofs.Math.Bridge.{le_prop}
use Rattle.std.proofs.lemmas.Result.{on_ok_weaker}
use Rattle.rss_base.specs.TupleTypes.{kinds}
use Rattle.rss_base.specs.Steps.{PagesCall, pages_in}
use Rattle.rss_base.specs.declared.key.Space.TheVariants.{Image as ImageSpace}
use Rattle.rss_base.proofs.Steps.{rests, then_call, widens}
use Rattle.rss_node.specs.declared.pair.Nodes.{Nodes}
use Rattle.rss_entries.specs.Keyed.{kinds_of}
use Rattle.rss_image.proofs.Kept.{one_made}
use Rattle.rss_entries.proofs.Entries.{has_values, moves_none, may_cut, may_put, still_spare, moves_both, makes_both}
use Rattle.rss_entries.proofs.moving.move_entry.Goals as goal

pub returns-then-are_same-clause-moves : goal.returns-then-are_same-clause-moves
returns-then-are_same-clause-moves g c = λ told was next was_is next_is.
    moves_none (kinds_of c.args.key) c.args.tid was next c.key_of-old_key.result c.key_of-new_key.result (c.key_of-old_key.ensures.key was was_is) (c.key_of-new_key.ensures.key next next_is)
    c.args.image.now (g.P.Pages.view c.args.pages.now) (c.are_same.ensures.0 c.if-are_same.true)

pub returns-then-are_same-clause-made : goal.returns-then-are_same-clause-made
returns-then-are_same-clause-made g c = λ told was next was_is next_is good fine pairs tree holds made. one_made c.args.image.now (g.P.Pages.view c.args.pages.now).held good pairs tree made

pub cut-requires-clause-may : goal.cut-requires-clause-may
cut-requires-clause-may g c = λ told.
    let was = has_values (kinds c.args.key.fields.now) (option_copied c.args.was) c.requires.was in
    let next = has_values (kinds c.args.key.fields.now) (option_copied c.args.next) c.requires.next in
    ∥∥₁_map (c.requires.may told was.values next.values was.are next.are)
    (may_cut (kinds_of c.args.key) c.args.tid was.values next.values c.key_of-old_key.result c.key_of-new_key.result (c.key_of-old_key.ensures.key was.values was.are) (c.key_of-new_key.ensures.key next.values next.are)
    c.args.image.now (g.P.Pages.view c.args.pages.now))

pub put-requires-clause-may : goal.put-requires-clause-may
put-requires-clause-may g c = λ told_then.
    let told = c.in_ok-cut.ensures.did.step.passes.leaves.told.1 told_then in
    let was = has_values (kinds c.args.key.fields.now) (option_copied c.args.was) c.requires.was in
    let next = has_values (kinds c.args.key.fields.now) (option_copied c.args.next) c.requires.next in
    ∥∥₁_map (c.requires.may told was.values next.values was.are next.are) (λ may.
    may_put (kinds_of c.args.key) c.args.tid was.values next.values c.key_of-old_key.result c.key_of-new_key.result (c.key_of-old_key.ensures.key was.values was.are) (c.key_of-new_key.ensures.key next.values next.are)
    c.args.image.now c.cut.new.image (g.P.Pages.view c.args.pages.now) (g.P.Pages.view c.cut.new.pages) (c.in_ok-cut.ensures.cuts told)
    may (λ same. let never : false ≡ true = sym c.if-are_same.false ∙ c.are_same.ensures.1 same in absurd (cc)))

pub put-requires-clause-room : goal.put-requires-clause-room
put-requires-clause-room g c = λ told_then pairs tree.
    let told = c.in_ok-cut.ensures.did.step.passes.leaves.told.1 told_then in
    let was = has_values (kinds c.args.key.fields.now) (option_copied c.args.was) c.requires.was in
    let next = has_values (kinds c.args.key.fields.now) (option_copied c.args.next) c.requires.next in
    ∥∥₁_elim (c.requires.may told was.values next.values was.are next.are) le_prop (λ may.
    still_spare (kinds_of c.args.key) c.args.tid was.values next.values c.key_of-old_key.result c.key_of-new_key.result (c.key_of-old_key.ensures.key was.values was.are) (c.key_of-new_key.ensures.key next.values next.are)
    c.args.image.now c.cut.new.image (g.P.Pages.view c.args.pages.now) (g.P.Pages.view c.cut.new.pages) (c.in_ok-cut.ensures.cuts told)
    may c.in_ok-cut.ensures.of c.requires.of.narrow pairs tree)

pub returns-clause-moves : goal.returns-clause-moves
returns-clause-moves g c = on_ok_weaker c.put.result (λ puts told was next was_is next_is.
    let told_then = c.in_ok-cut.ensures.did.step.passes.leaves.told.0 told in
    moves_both (kinds_of c.args.key) c.args.tid was next c.key_of-old_key.result c.key_of-new_key.result (c.key_of-old_key.ensures.key was was_is) (c.key_of-new_key.ensures.key next next_is)
    c.args.image.now c.cut.new.image (g.P.Pages.view c.args.pages.now) (g.P.Pages.view c.cut.new.pages) (c.in_ok-cut.ensures.cuts told)
    c.put.new.image (g.P.Pages.view c.put.new.pages) c.in_ok-cut.ensures.of (λ same. let never : false ≡ true = sym c.if-are_same.false ∙ c.are_same.ensures.1 same in absurd (cc)) (puts told_then)) c.put.ensures.puts

pub returns-clause-made : goal.returns-clause-made
returns-clause-made g c = on_ok_weaker c.put.result (λ makes told was next was_is next_is.
    let told_then = c.in_ok-cut.ensures.did.step.passes.leaves.told.0 told in
    makes_both (kinds_of c.args.key) c.args.tid was next c.key_of-old_key.result c.key_of-new_key.result (c.key_of-old_key.ensures.key was was_is) (c.key_of-new_key.ensures.key next next_is)
    c.args.image.now c.cut.new.image (g.P.Pages.view c.args.pages.now) (g.P.Pages.view c.cut.new.pages) (c.in_ok-cut.ensures.cuts told)
    c.put.new.image (g.P.Pages.view c.put.new.pages) (c.in_ok-cut.ensures.made told) (makes told_then)) c.put.ensures.made

pub returns-clause-did : goal.returns-clause-did
returns-clause-did g c =
    let segment : c.cut.new.image.segment ≡ c.args.image.now.segment = ap (λ (of : Nodes). of.segment) c.in_ok-cut.ensures.of in
    let put : PagesCall (pages_in c.args.image.now.segment ImageSpace) 255 1022 (g.P.Pages.view c.cut.new.pages) (g.P.Pages.view c.put.new.pages) c.put.result =
    widens (λ key there. subst (λ (n : ℕ). pages_in n ImageSpace key) segment there) (omega arith) (omega arith) c.put.ensures.did in
    widens (λ key there. there) (omega arith) (omega arith) (then_call c.in_ok-cut.ensures.did.step put)

pub returns-then-are_same-clause-stays : goal.returns-then-are_same-clause-stays
returns-then-are_same-clause-stays g c = λ was next was_is next_is same. record { image = refl; pages = rests (g.P.Pages.view c.args.pages.now) }

pub returns-in_err-cut-clause-stays : goal.returns-in_err-cut-clause-stays
returns-in_err-cut-clause-stays g c = λ was next was_is next_is same.
    let one : c.key_of-old_key.result ≡ c.key_of-new_key.result = c.key_of-old_key.ensures.key was was_is ∙ (same ∙ sym (c.key_of-new_key.ensures.key next next_is)) in
    let never : false ≡ true = sym c.if-are_same.false ∙ c.are_same.ensures.1 one in absurd (cc)

pub returns-clause-stays : goal.returns-clause-stays
returns-clause-stays g c = λ was next was_is next_is same.
    let one : c.key_of-old_key.result ≡ c.key_of-new_key.result = c.key_of-old_key.ensures.key was was_is ∙ (same ∙ sym (c.key_of-new_key.ensures.key next next_is)) in
    let never : false ≡ true = sym c.if-are_same.false ∙ c.are_same.ensures.1 one in absurd (cc)
