-- The clause against the row's set is true at each other row, and false there however it shrinks. It stays so when its
-- `all` sets are put in order.
use Rattle.std.proofs.Common.{◌≡◌, ℕ, List, ◌<◌, ◌≤◌, ◌-◌, ◌^◌, false, true, length, get_or, arith, sym, ◌∙◌, subst, ap}
use Rattle.std.proofs.lemmas.Bool.{both_ways}
use Rattle.std.proofs.lemmas.List.{with_items_is}
use Rattle.lgc_values.specs.Values.{set_of_row}
use Rattle.lgc_clauses.specs.Rules.{holds_over}
use Rattle.lgc_derivation.proofs.Within.{within_length}
use Rattle.lgc_quant_rules.specs.Quantifiers.{clause_against}
use Rattle.lgc_quant_rules.specs.SetOrder.{IsOrderedClauseOf}
use Rattle.lgc_quant_rules.proofs.Starts.{against_holds, smaller_fails}
use Rattle.lgc_quant_rules.proofs.Rows.{row_values_below, same_row}
use Rattle.lgc_quant_rules.proofs.Primes.{prime_ordered, ordered_fails}
use Rattle.lgc_quant_rules.proofs.table.QuantifierTablePrimeClauses.prime_clause.Goals as goal

pub shrink-requires : goal.shrink-requires
shrink-requires g c = (
  omega arith,
  λ row lt inside.
      let start : c.deref_mut.result.now ≡ clause_against g.row.N (set_of_row g.row.N c.args.row) = c.deref_mut.ensures.value ∙ c.in_ok-sets.ensures ∙ ap (clause_against g.row.N) c.of_row.ensures.set in
      let rows = c.args.self.now.rows in
      let within = c.requires.within in
      subst (λ (sets : List (List ℕ)). holds_over sets (set_of_row g.row.N row) ≡ true) (sym start)
      (against_holds g.row.N (set_of_row g.row.N c.args.row) (set_of_row g.row.N row) (row_values_below g.row.N c.args.row) (row_values_below g.row.N row) (λ forth back.
      let same : c.args.row ≡ row = same_row g.row.N c.args.row row (omega arith) (omega arith) forth back in
      both_ways (get_or c.args.self.now.inside.items c.args.row false) c.requires.outside (ap (λ (r : ℕ). get_or c.args.self.now.inside.items r false) same ∙ inside))),
)

pub returns-clause-prime : goal.returns-clause-prime
returns-clause-prime g c =
    let start : c.deref_mut.result.now ≡ clause_against g.row.N (set_of_row g.row.N c.args.row) = c.deref_mut.ensures.value ∙ c.in_ok-sets.ensures ∙ ap (clause_against g.row.N) c.of_row.ensures.set in
    let count : length c.shrink.new.sets ≡ length c.deref_mut.result.now = within_length c.shrink.new.sets c.deref_mut.result.now c.shrink.ensures.within in
    let shrunk : c.deref.result.now ≡ c.shrink.new.sets = c.deref.ensures.value ∙ with_items_is c.in_ok-sets.sets c.shrink.new.sets (count ∙ c.deref_mut.ensures.len) in
    let order : IsOrderedClauseOf c.shrink.new.sets c.in_ok-in_order.field-0.items = subst (λ (sets : List (List ℕ)). IsOrderedClauseOf sets c.in_ok-in_order.field-0.items) shrunk c.in_ok-in_order.ensures in
    let some : 0 < length c.shrink.new.sets = let head = ap length start in omega arith in
    let short : length c.args.self.now.inside.items ≤ 2 ^ g.row.N - 1 = let rows = c.args.self.now.rows in omega arith in
    rw c.of_vec.ensures (prime_ordered g.row.N (length c.args.self.now.inside.items) (λ row. get_or c.args.self.now.inside.items row false) short c.shrink.new.sets c.in_ok-in_order.field-0.items some order c.shrink.ensures.prime)

pub returns-clause-fails : goal.returns-clause-fails
returns-clause-fails g c =
    let start : c.deref_mut.result.now ≡ clause_against g.row.N (set_of_row g.row.N c.args.row) = c.deref_mut.ensures.value ∙ c.in_ok-sets.ensures ∙ ap (clause_against g.row.N) c.of_row.ensures.set in
    let count : length c.shrink.new.sets ≡ length c.deref_mut.result.now = within_length c.shrink.new.sets c.deref_mut.result.now c.shrink.ensures.within in
    let shrunk : c.deref.result.now ≡ c.shrink.new.sets = c.deref.ensures.value ∙ with_items_is c.in_ok-sets.sets c.shrink.new.sets (count ∙ c.deref_mut.ensures.len) in
    let order : IsOrderedClauseOf c.shrink.new.sets c.in_ok-in_order.field-0.items = subst (λ (sets : List (List ℕ)). IsOrderedClauseOf sets c.in_ok-in_order.field-0.items) shrunk c.in_ok-in_order.ensures in
    let some : 0 < length c.shrink.new.sets = let head = ap length start in omega arith in
    rw c.of_vec.ensures (ordered_fails c.shrink.new.sets c.in_ok-in_order.field-0.items (set_of_row g.row.N c.args.row) order some (smaller_fails g.row.N (set_of_row g.row.N c.args.row) c.deref_mut.result.now c.shrink.new.sets start c.shrink.ensures.within))
