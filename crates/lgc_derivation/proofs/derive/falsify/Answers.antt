-- What a clause more leaves: prime clauses, and false at each row where they were.
use Rattle.std.proofs.Common.{◌∙◌}
use Rattle.lgc_derivation.specs.Derived.{IsPrime}
use Rattle.lgc_derivation.proofs.Inserting.{All-inserted, all_hold_inserted, stays_false}
use Rattle.lgc_derivation.proofs.derive.falsify.Goals as goal

pub returns-clause-prime : goal.returns-clause-prime
returns-clause-prime g c =
    let table = g.T.Table.plain c.args.table.now in
    let added = c.in_ok-add_clause.ensures.added in
    record {
      form = All-inserted (g.T.PrimeClauses.form c.args.table.now) c.args.clauses.now.items c.in_ok-clause.clause c.add_clause.new.clauses.items added c.requires.prime.form c.in_ok-clause.ensures.form;
      prime = All-inserted (IsPrime table) c.args.clauses.now.items c.in_ok-clause.clause c.add_clause.new.clauses.items added c.requires.prime.prime c.in_ok-clause.ensures.prime;
      rising = c.in_ok-add_clause.ensures.rising;
    }

pub returns-clause-kept : goal.returns-clause-kept
returns-clause-kept g c = λ other falls.
    all_hold_inserted (g.T.Table.plain c.args.table.now) c.args.clauses.now.items c.in_ok-clause.clause c.add_clause.new.clauses.items other c.in_ok-add_clause.ensures.added
    ∙ stays_false ((g.T.Table.plain c.args.table.now).holds c.in_ok-clause.clause other) _ falls
