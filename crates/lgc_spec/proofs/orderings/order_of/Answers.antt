use Rattle.lgc_spec.proofs.OrderPlaces.{links_are_values}
use Rattle.lgc_spec.proofs.orderings.order_of.Goals as goal

pub of_links-requires : goal.of_links-requires
of_links-requires c =
    rw (c.deref.ensures.value, c.in_ok-links.ensures) (links_are_values c.args.text.now c.args.names.now c.args.chains.now)
