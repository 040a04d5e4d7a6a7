-- The valuation of a query's atoms lists them, each once.
use Rattle.std.proofs.Common.{ℕ}
use Rattle.lgc_values.specs.Logic.{Logic}
use Rattle.lgc_syntax.specs.declared.formula.Formula.{Formula}
use Rattle.lgc_syntax.specs.Values.{value}
use Rattle.lgc_meaning.specs.declared.query.Query.{Query}
use Rattle.lgc_meaning.specs.Queries.{formulas_of}
use Rattle.lgc_meaning.proofs.AtomLaws.{entries_are_of_atoms, entries_differ}
use Rattle.lgc_report.specs.Valid.{ListsAtoms}
use Rattle.lgc_prove.specs.Work.{atoms_with_values}

pub lists_atoms : (logic : Logic) (v : Formula → ℕ) (query : Query) → ListsAtoms query (atoms_with_values logic v query)
lists_atoms logic v query = record {
  each = entries_are_of_atoms (value logic v) (formulas_of query);
  once = entries_differ (value logic v) (formulas_of query);
}
