-- What the lemmas of steps are.
use Rattle.std.proofs.Common.{List, [], ◌∷◌, ◌++◌, length, sym, subst, append_assoc}
use Rattle.std.specs.Prelude.{All}
use Rattle.std.proofs.lemmas.List.{append-nil}
use Rattle.std.proofs.lemmas.List.Elements.{All-push}
use Rattle.lgc_values.specs.Logic.{Logic}
use Rattle.lgc_clauses.specs.Rules.{OperatorRule}
use Rattle.lgc_numbering.specs.declared.node.Node.{Node}
use Rattle.lgc_packed.specs.Packed.{IsPacked}
use Rattle.lgc_lemmas.specs.Plain.{PlainLemma}
use Rattle.lgc_lemmas.specs.Nodes.{HasNumbersBelow}
use Rattle.lgc_lemmas.specs.Steps.{AreSteps}

-- the lemmas of steps are packed sequents of numbered formulas
pub all_formed : (logic : Logic) (nodes : List Node) (rules : List OperatorRule) (before lemmas : List PlainLemma) → All (λ l. IsPacked logic.size l.sequent × HasNumbersBelow (length nodes) l.sequent) before → AreSteps logic nodes rules before lemmas
    → All (λ l. IsPacked logic.size l.sequent × HasNumbersBelow (length nodes) l.sequent) (before ++ lemmas)
all_formed logic nodes rules before [] all steps = subst (All (λ (l : PlainLemma). IsPacked logic.size l.sequent × HasNumbersBelow (length nodes) l.sequent)) (sym (append-nil before)) all
all_formed logic nodes rules before (first ∷ lemmas) all steps =
    subst (All (λ (l : PlainLemma). IsPacked logic.size l.sequent × HasNumbersBelow (length nodes) l.sequent)) (append_assoc before (first ∷ []) lemmas)
    (all_formed logic nodes rules (before ++ first ∷ []) lemmas (All-push (λ (l : PlainLemma). IsPacked logic.size l.sequent × HasNumbersBelow (length nodes) l.sequent) before first all (steps.0.packed, steps.0.numbers)) steps.1)
