-- The equations so far have no quantifier.
use Rattle.std.proofs.Common.{◌≡◌, not, drop}
use Rattle.std.specs.List.{list_all, flat_map}
use Rattle.lgc_syntax.specs.Sizes.{has_quantifier}
use Rattle.lgc_meaning.specs.Queries.{sides}
use Rattle.lgc_check.proofs.refutation.have_no_quantifiers.Given as goal

abbrev pub invariant-loop-pair : goal.invariant-loop-pair
invariant-loop-pair l = list_all (λ f. not (has_quantifier f)) (flat_map sides l.pairs) ≡ list_all (λ f. not (has_quantifier f)) (flat_map sides (drop l.pair-index l.pairs))
