-- Who bars whom, by the modes of the places and by what the table tells.
use Rattle.std.proofs.Common.{◌≡◌, ℕ, ◌<◌, true, List, length, refl, sym, ◌∙◌, ap, arith}
use Rattle.std.specs.Prelude.{Option, Some, None, is_some, IsSome}
use Rattle.rss_base.specs.declared.item.Item.{Item}
use Rattle.rss_base.specs.declared.need.Mode.{Mode}
use Rattle.rss_base.specs.declared.need.Mode.TheVariants.{IS, IX, S, SIX, X}
use Rattle.rss_base.specs.declared.need.Need.{Need}
use Rattle.rss_model.specs.Locks.{disagree}
use Rattle.rss_lock.specs.declared.places.Grants.{Grants}
use Rattle.rss_lock.specs.Table.{Modes, Bars, Holds, IsLeast, IsLeastOf, Table, held_in, grants_on, mode_of, current_modes, Disagrees, DisagreesIn, IsTable}
use Rattle.rss_lock.proofs.Holding.{held_at, held_place, current_at}
use Rattle.rss_lock.proofs.Least.{least_kept}

-- the places of an item tell who holds it
module _ (t : Table) (is : IsTable t) (item : Item) (grants : Grants) (there : grants_on t.entries item ≡ Some grants) (mode : Mode) (besides : Option ℕ) where
  abbrev modes : List (Option Mode)
  modes = current_modes t.holders grants.as_of grants.modes

  pub to_place : (u : ℕ) → Disagrees (mode_of t) item mode besides u → DisagreesIn t.holders modes mode besides 32 u
  to_place u d =
      let at = held_place u t.holders grants.as_of grants.modes d.held (ap (held_in u t.holders) (sym there) ∙ d.holds) in
      record {
        place = at.0;
        within = let long : length t.holders ≡ 32 = is.places in let below : at.0 < length t.holders = at.1 in omega arith;
        there = record { of = at.2; another = d.another; held = d.held; holds = current_at t.holders grants.as_of grants.modes at.0 ∙ at.3; disagrees = d.disagrees };
      }

  pub from_place : (u : ℕ) → DisagreesIn t.holders modes mode besides 32 u → Disagrees (mode_of t) item mode besides u
  from_place u d = record {
    another = d.there.another;
    held = d.there.held;
    holds = ap (held_in u t.holders) there ∙ held_at u t.holders grants.as_of grants.modes d.place is.alone d.there.of ∙ sym (current_at t.holders grants.as_of grants.modes d.place) ∙ d.there.holds;
    disagrees = d.there.disagrees;
  }

  pub least_told : (least : Option ℕ) → IsLeastOf (DisagreesIn t.holders modes mode besides 32) least → IsLeastOf (Disagrees (mode_of t) item mode besides) least
  least_told least found = least_kept (DisagreesIn t.holders modes mode besides 32) (Disagrees (mode_of t) item mode besides) least from_place to_place found

-- and of an item that nobody asked for no one does
pub none_told : (t : Table) (item : Item) (mode : Mode) (besides : Option ℕ) → grants_on t.entries item ≡ None → (u : ℕ) → Disagrees (mode_of t) item mode besides u → ⊥
none_told t item mode besides none u d = let e : None ≡ Some d.held = ap (held_in u t.holders) (sym none) ∙ d.holds in cc

-- ---- a transaction and what it needs

pub bars_if : (mode : Modes) (t u : ℕ) (need : Need) → Disagrees mode need.item need.mode (Some t) u → Bars mode t need u
bars_if mode t u need d = record { another = λ same. d.another (ap Some same); held = d.held; holds = d.holds; disagrees = d.disagrees }

pub disagrees_if : (mode : Modes) (t u : ℕ) (need : Need) → Bars mode t need u → Disagrees mode need.item need.mode (Some t) u
disagrees_if mode t u need b = record { another = λ same. b.another (cc); held = b.held; holds = b.holds; disagrees = b.disagrees }

pub least_bars : (mode : Modes) (t u : ℕ) (need : Need) → IsLeast (Disagrees mode need.item need.mode (Some t)) u → IsLeast (Bars mode t need) u
least_bars mode t u need is = record { here = bars_if mode t u need is.here; least = λ v b. is.least v (disagrees_if mode t v need b) }

-- ---- anyone

all_disagree : (mode : Mode) → disagree mode X ≡ true
all_disagree IS = refl
all_disagree IX = refl
all_disagree S = refl
all_disagree SIX = refl
all_disagree X = refl

holds_if : (mode : Modes) (item : Item) (u : ℕ) → Disagrees mode item X None u → Holds mode item u
holds_if mode item u d = ap is_some d.holds

pub some_held : (mode : Modes) (item : Item) (u : ℕ) (o : Option Mode) → mode u item ≡ o → IsSome o → Disagrees mode item X None u
some_held mode item u (Some held) e some = record { another = λ same. cc; held = held; holds = e; disagrees = all_disagree held }
some_held mode item u None e some = absurd (cc)

pub least_holder : (mode : Modes) (item : Item) (least : Option ℕ) → IsLeastOf (Disagrees mode item X None) least → IsLeastOf (Holds mode item) least
least_holder mode item least found = least_kept (Disagrees mode item X None) (Holds mode item) least (holds_if mode item) (λ u h. some_held mode item u (mode u item) refl h) found
