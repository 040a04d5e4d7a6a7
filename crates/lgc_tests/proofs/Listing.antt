-- Entries that are added, each of an atom.
use Rattle.std.proofs.lemmas.List.Elements.{All-nil, All-push}
use Rattle.lgc_meaning.proofs.Places.{is_atom-Atom}

pub ruleset listing_rules = (is_atom-Atom, All-nil, All-push)
