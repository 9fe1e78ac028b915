-- What all tests passed fits.
use Rattle.std.proofs.Common.{subst}
use Rattle.rss_catalog.specs.Checking.{AreOnce}
use Rattle.rss_catalog.proofs.checking.are_links.Goals as goal

pub have_few_roles-requires-clause-fit : goal.have_few_roles-requires-clause-fit
have_few_roles-requires-clause-fit c = c.may_all_link.ensures.0 c.if-not-may_all_link.false

pub returns : goal.returns
returns c = (
  λ yes. record {
    once = subst AreOnce c.names_of.ensures (c.are_once.ensures.0 c.if-not-are_once.false);
    each = c.may_all_link.ensures.0 c.if-not-may_all_link.false;
    few_roles = c.have_few_roles.ensures.0 yes;
  },
  λ fits. c.have_few_roles.ensures.1 fits.few_roles,
)
