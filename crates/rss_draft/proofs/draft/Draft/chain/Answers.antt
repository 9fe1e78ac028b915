use Rattle.std.proofs.Common.{List, sym, ◌∙◌, ap}
use Rattle.std.specs.Prelude.{◌&&◌, Option, Some, option_map, option_copied}
use Rattle.std.specs.Map.{lookup}
use Rattle.rss_base.specs.declared.name.Name.{Name}
use Rattle.rss_base.specs.declared.tid.Tid.{Tid}
use Rattle.rss_draft.specs.Views.{Entries, same_name, same_parent}
use Rattle.rss_draft.proofs.Says.{looked_up}
use Rattle.rss_draft.proofs.draft.Draft.chain.Goals as goal

pub returns-in_err-get : goal.returns-in_err-get
returns-in_err-get c =
    ap option_copied c.from_residual.ensures
    ∙ ap (option_map (λ tids. tids.items)) c.in_err-get.ensures.value
    ∙ sym (looked_up (λ tids. tids.items) (λ (key : Name × Option Tid). same_name c.args.link key.0 && same_parent c.args.parent key.1) c.self.inside.chains.entries)
    ∙ ap (λ (v : Entries). lookup (λ (key : Name × Option Tid). same_name c.args.link key.0 && same_parent c.args.parent key.1) v.chains) c.self.view_is

pub returns : goal.returns
returns c =
    ap (λ (tids : List Tid). Some tids) c.as_slice.ensures.value
    ∙ ap (option_map (λ tids. tids.items)) c.in_ok-get.ensures.value
    ∙ sym (looked_up (λ tids. tids.items) (λ (key : Name × Option Tid). same_name c.args.link key.0 && same_parent c.args.parent key.1) c.self.inside.chains.entries)
    ∙ ap (λ (v : Entries). lookup (λ (key : Name × Option Tid). same_name c.args.link key.0 && same_parent c.args.parent key.1) v.chains) c.self.view_is
