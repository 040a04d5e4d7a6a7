-- The clause against the row is true at each other row, and false there however it shrinks.
use Rattle.std.proofs.Common.{◌≡◌, ℕ, List, ◌<◌, false, true, length, get_or, arith, sym, ◌∙◌, subst, ap}
use Rattle.std.proofs.lemmas.Bool.{both_ways}
use Rattle.std.proofs.lemmas.List.{with_items_is}
use Rattle.lgc_clauses.specs.Rules.{clause_holds}
use Rattle.lgc_derivation.proofs.Within.{within_length}
use Rattle.lgc_op_rules.specs.Operators.{clause_against}
use Rattle.lgc_op_rules.proofs.Starts.{against_holds, smaller_fails, length-clause_against}
use Rattle.lgc_op_rules.proofs.table.OperatorTablePrimeClauses.prime_clause.Goals as goal

pub shrink-requires : goal.shrink-requires
shrink-requires g c = (
  omega arith,
  λ row lt inside.
      let table = c.args.self.now in
      let start : c.deref_mut.result.now ≡ clause_against g.row.N c.args.self.now.arity c.args.row = c.deref_mut.ensures.value ∙ c.in_ok-sets.ensures in
      let some : 0 < g.row.N = let low = table.size.low in omega arith in
      let rows = table.rows in
      let within = c.requires.within in
      subst (λ (sets : List (List ℕ)). clause_holds g.row.N sets row ≡ true) (sym start)
      (against_holds g.row.N table.arity c.args.row row some (omega arith) (omega arith) (λ (e : c.args.row ≡ row).
      both_ways (get_or table.inside.items c.args.row false) c.requires.outside (ap (λ (r : ℕ). get_or c.args.self.now.inside.items r false) e ∙ inside))),
)

pub returns-clause-form : goal.returns-clause-form
returns-clause-form g c =
    let start : c.deref_mut.result.now ≡ clause_against g.row.N c.args.self.now.arity c.args.row = c.deref_mut.ensures.value ∙ c.in_ok-sets.ensures in
    let whole = c.of_vec.ensures ∙ with_items_is c.in_ok-sets.sets c.shrink.new.sets (within_length c.shrink.new.sets c.deref_mut.result.now c.shrink.ensures.within ∙ c.deref_mut.ensures.len) in
    ap length whole ∙ within_length c.shrink.new.sets c.deref_mut.result.now c.shrink.ensures.within ∙ ap length start ∙ length-clause_against g.row.N c.args.self.now.arity c.args.row

pub returns-clause-fails : goal.returns-clause-fails
returns-clause-fails g c =
    let start : c.deref_mut.result.now ≡ clause_against g.row.N c.args.self.now.arity c.args.row = c.deref_mut.ensures.value ∙ c.in_ok-sets.ensures in
    let whole = c.of_vec.ensures ∙ with_items_is c.in_ok-sets.sets c.shrink.new.sets (within_length c.shrink.new.sets c.deref_mut.result.now c.shrink.ensures.within ∙ c.deref_mut.ensures.len) in
    subst (λ (sets : List (List ℕ)). clause_holds g.row.N sets c.args.row ≡ false) (sym whole)
    (smaller_fails g.row.N c.args.self.now.arity c.args.row c.deref_mut.result.now c.shrink.new.sets start c.shrink.ensures.within)
