-- The formulas of the goals can be translated.
use Rattle.std.proofs.Common.{◌≡◌, ◌∙◌, ℕ, List, sym, ap, subst, arith}
use Rattle.std.specs.Prelude.{All}
use Rattle.lgc_sequents.specs.Signed.{SignedFormula}
use Rattle.lgc_goals.specs.Goals.{goals_of}
use Rattle.lgc_clause_text.specs.Put.{IsTranslatable}
use Rattle.lgc_clause_text.proofs.AskedLaws.{goals_translatable}
use Rattle.lgc_clause_text.proofs.text.put_query.Goals as goal

pub put_goals-requires : goal.put_goals-requires
put_goals-requires g c =
    let logic = c.args.m.now in
    let query = c.args.query.now in
    let same : c.items.result.now ≡ goals_of logic.size query = c.items.ensures ∙ c.in_ok-goals.ensures.goals ∙ ap (λ (n : ℕ). goals_of n query) (sym c.operators-operators.ensures.size) in
    let all = subst (All (λ (goal : List SignedFormula). All (λ item. IsTranslatable logic item.formula) goal)) (sym same) (goals_translatable logic query c.requires.asked) in
    (omega arith, (omega arith, (omega arith, (all, c.requires.right))))
