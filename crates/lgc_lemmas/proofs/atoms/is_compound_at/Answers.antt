-- The formula at the place is a compound where its node is one.
use Rattle.std.proofs.Common.{ℕ, ◌<◌, List, length, sym, subst, ◌∙◌}
use Rattle.lgc_lemmas.proofs.Refuting.{compound_there, compound_back}
use Rattle.lgc_lemmas.proofs.atoms.is_compound_at.Goals as goal

pub returns : goal.returns
returns g c = (
  (λ yes. compound_there c.args.nodes.now c.args.goal.now c.pairs-pairs.result.now c.args.at c.index-pairs-at.result c.pairs-pairs.ensures.pairs (subst (λ (xs : List (ℕ × List ℕ)). c.args.at < length xs) (sym c.pairs-pairs.ensures.pairs) c.requires.place) (sym c.is_compound.ensures ∙ yes)),
  (λ is. c.is_compound.ensures ∙ compound_back c.args.nodes.now c.args.goal.now c.pairs-pairs.result.now c.args.at c.index-pairs-at.result c.pairs-pairs.ensures.pairs is),
)
