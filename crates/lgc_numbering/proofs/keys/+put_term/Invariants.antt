-- How the loop appends the keys of the terms.
use Rattle.std.proofs.Common.{◌≡◌, ◌∷◌, ◌++◌, length, take}
use Rattle.std.specs.List.{flat_map}
use Rattle.lgc_numbering.specs.Keys.{term_key}
use Rattle.lgc_numbering.proofs.keys.+put_term.Given as goal

abbrev pub invariant-put_terms-loop-term : goal.invariant-put_terms-loop-term
invariant-put_terms-loop-term l = l.key ≡ l.fn.key ++ length l.terms ∷ flat_map term_key (take l.term-index l.terms)
