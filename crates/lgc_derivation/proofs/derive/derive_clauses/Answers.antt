-- The clauses that are left are exact as all were, and irredundant by the central lemma.
use Rattle.std.proofs.Common.{get_or}
use Rattle.std.specs.Prelude.{All}
use Rattle.std.proofs.lemmas.List.Elements.{All-contains}
use Rattle.lgc_derivation.specs.Derived.{IsPrime}
use Rattle.lgc_derivation.proofs.Irredundance.{exact_from, exact_along, irredundant_from}
use Rattle.lgc_derivation.proofs.derive.derive_clauses.Goals as goal

pub returns : goal.returns
returns g c =
    let table = g.T.Table.plain c.args.table.now in
    let old = c.in_ok-clauses.clauses.items in
    let new = c.take_out_covered.new.clauses.items in
    let form : All (g.T.PrimeClauses.form c.args.table.now) c.take_out_covered.new.clauses.items = λ k d lt. All-contains (g.T.PrimeClauses.form c.args.table.now) old (get_or new k d) c.in_ok-clauses.ensures.prime.form (c.take_out_covered.ensures.kept k d lt) in
    let prime : All (IsPrime table) c.take_out_covered.new.clauses.items = λ k d lt. All-contains (IsPrime table) old (get_or new k d) c.in_ok-clauses.ensures.prime.prime (c.take_out_covered.ensures.kept k d lt) in
    record {
      form = form;
      exact = exact_along table old new c.take_out_covered.ensures.same (exact_from table old c.in_ok-clauses.ensures.prime.prime c.in_ok-clauses.ensures.falsified);
      irredundant = irredundant_from table new prime c.take_out_covered.ensures.needed;
      rising = c.take_out_covered.ensures.rising;
    }
