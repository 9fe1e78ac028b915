use Rattle.std.proofs.Common.{ℕ, List, sym, ◌∙◌, ap}
use Rattle.std.specs.Prelude.{◌&&◌, Some, option_map, option_copied}
use Rattle.std.specs.Map.{lookup}
use Rattle.rss_base.specs.declared.name.Name.{Name}
use Rattle.rss_base.specs.declared.tid.Tid.{Tid}
use Rattle.rss_draft.specs.Views.{Entries, bytes_of, same_name, same_tid}
use Rattle.rss_draft.proofs.Says.{looked_up}
use Rattle.rss_draft.proofs.draft.Draft.tuple.Goals as goal

pub returns-in_err-values : goal.returns-in_err-values
returns-in_err-values c =
    ap (option_map option_copied) c.from_residual.ensures
    ∙ ap (option_map bytes_of) c.in_err-values.ensures.value
    ∙ sym (looked_up bytes_of (λ (key : Name × Tid). same_name c.args.relation key.0 && same_tid c.args.tid key.1) c.self.inside.tuples.entries)
    ∙ ap (λ (v : Entries). lookup (λ (key : Name × Tid). same_name c.args.relation key.0 && same_tid c.args.tid key.1) v.tuples) c.self.view_is

pub returns-in-Some : goal.returns-in-Some
returns-in-Some c =
    ap (λ (bytes : List ℕ). Some (Some bytes)) c.as_slice.ensures.value
    ∙ ap (λ values. Some (bytes_of values)) (sym c.in-Some.is)
    ∙ ap (option_map bytes_of) c.in_ok-values.ensures.value
    ∙ sym (looked_up bytes_of (λ (key : Name × Tid). same_name c.args.relation key.0 && same_tid c.args.tid key.1) c.self.inside.tuples.entries)
    ∙ ap (λ (v : Entries). lookup (λ (key : Name × Tid). same_name c.args.relation key.0 && same_tid c.args.tid key.1) v.tuples) c.self.view_is

pub returns-in-None : goal.returns-in-None
returns-in-None c =
    ap (λ values. Some (bytes_of values)) (sym c.in-None.is)
    ∙ ap (option_map bytes_of) c.in_ok-values.ensures.value
    ∙ sym (looked_up bytes_of (λ (key : Name × Tid). same_name c.args.relation key.0 && same_tid c.args.tid key.1) c.self.inside.tuples.entries)
    ∙ ap (λ (v : Entries). lookup (λ (key : Name × Tid). same_name c.args.relation key.0 && same_tid c.args.tid key.1) v.tuples) c.self.view_is
