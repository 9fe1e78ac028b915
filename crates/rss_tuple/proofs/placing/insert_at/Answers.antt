use Rattle.std.proofs.Common.{rules, ◌≡◌, ◌∙◌, inl, sym, ap, arith, length}
use Rattle.rss_base.specs.DiskRule.{IsTold}
use Rattle.rss_base.specs.Paged.{page_key}
use Rattle.rss_base.specs.declared.key.PageKey.{PageKey}
use Rattle.rss_base.specs.declared.key.Space.TheVariants.{Home}
use Rattle.rss_base.proofs.Steps.{widens, all_mapped}
use Rattle.rss_page.specs.Content.{Empty, Forward}
use Rattle.rss_tuple.proofs.Seen.{on_ok, on_ok_then, formed_after}
use Rattle.rss_tuple.proofs.Sets.{none_held, is_read, ill_formed}
use Rattle.rss_tuple.proofs.Placed.{puts_home, read_key}
use Rattle.rss_tuple.proofs.Changes.{entry_free, free_after, fits_unmapped, spare_after}
use Rattle.rss_tuple.proofs.Taken.{takes_home}
use Rattle.rss_tuple.proofs.Moved.{moves_fails, moves_puts, moves_after}
use Rattle.rss_tuple.proofs.placing.insert_at.Goals as goal

-- ---- where the home page isn't mapped

pub take_here-requires-clause-may : goal.take_here-requires-clause-may
take_here-requires-clause-may g c = record {
  heap = search rules;
  low = search rules;
  formed = λ told. (c.requires.heaps told).formed;
}

pub returns-then-not-has : goal.returns-then-not-has
returns-then-not-has g c =
    let old = g.P.Pages.view c.args.pages.now in
    let key = page_key c.args.segment Home c.args.tid.page in
    let none = λ (told : IsTold old.disk). none_held (old.held key) (g.met.P.Pages.holds c.args.pages.now told key ∙ search rules) in
    moves_puts
    (λ told p s is. let never : Empty ≡ Forward p s = sym (entry_free old c.args.segment c.args.tid (length c.args.body.now) c.requires told) ∙ is in absurd (cc))
    (on_ok_then c.take_here.result (λ sets told.
    puts_home c.args.segment c.args.tid c.args.body.now c.home-key.result _ _ c.home-key.ensures (fits_unmapped old.held key c.args.tid.slot (length c.args.body.now) (none told) c.requires.may.length.most) (sets told) c.take_here.ensures.did.step told)
    c.take_here.ensures.sets)
    (on_ok c.take_here.result (takes_home c.home-key.ensures (λ told. ap (λ (k : PageKey). old.held k) c.home-key.ensures ∙ none told) c.take_here.ensures.did.step))
    (widens (λ key is. inl (is ∙ c.home-key.ensures)) (omega arith) (omega arith) c.take_here.ensures.did)

-- ---- where it is

pub load_there-requires : goal.load_there-requires
load_there-requires g c = record {
  heap = search rules;
  mapped = λ told. search rules;
  formed = λ told. (c.requires.heaps told).formed;
}

pub returns-in_err-load_there : goal.returns-in_err-load_there
returns-in_err-load_there g c = moves_fails _ c.from_residual.ensures.1 (λ key none. absurd none) (omega arith) (omega arith) c.in_err-load_there.ensures.did

pub returns-in_err-found : goal.returns-in_err-found
returns-in_err-found g c = moves_fails _ c.from_residual-in_err-found.ensures.1 (λ key none. absurd none) (omega arith) (omega arith) (ill_formed _ _ _ c.in_ok-load_there.ensures.did.step (inl (ap (λ (k : PageKey). k.space) c.home-key.ensures)) (λ told. (c.requires.heaps told).formed) c.loaded.ensures c.in_err-found.ensures.ill c.in_err-found.ensures.damaged)

pub place-requires-clause-home : goal.place-requires-clause-home
place-requires-clause-home g c = record {
  read = read_key c.home-key.ensures (is_read (g.P.Pages.view c.load_there.new.pages) _ _ c.in_ok-load_there.ensures.mapped c.in_ok-found.ensures.formed c.loaded.ensures);
  low = c.requires.slot;
}

pub place-requires-clause-formed : goal.place-requires-clause-formed
place-requires-clause-formed g c = formed_after c.in_ok-load_there.ensures.did.step (λ told. (c.requires.heaps told).formed)

pub place-requires-clause-away : goal.place-requires-clause-away
place-requires-clause-away g c = λ told full.
    let step = c.in_ok-load_there.ensures.did.step in
    record {
      never = λ page slot fits. let never : Empty ≡ Forward page slot = sym (free_after step c.requires told) ∙ fits.leads in absurd (cc);
      room = omega (arith, c.requires.room, spare_after step (all_mapped step) (g.met.P.Pages.are_counted c.args.pages.now) (g.met.P.Pages.are_counted c.load_there.new.pages));
    }

pub returns : goal.returns
returns g c =
    let step = c.in_ok-load_there.ensures.did.step in
    moves_after step (moves_puts
    (λ told p s is. let never : Empty ≡ Forward p s = sym (free_after step c.requires told) ∙ is in absurd (cc))
    c.place.ensures.puts c.place.ensures.takes c.place.ensures.did) (omega (arith, step.passes.slots))
