-- What is listed are atoms, and no two are the same.
use Rattle.std.proofs.Common.{◌≡◌, ◌≢◌, true, List, sym, subst, ◌∙◌, ap}
use Rattle.std.specs.List.{All, AllPairs, flat_map, fold}
use Rattle.lgc_syntax.specs.declared.formula.Formula.{Formula}
use Rattle.lgc_meaning.specs.Valuations.{is_atom, atom_places, with_atom, each_once}
use Rattle.lgc_meaning.specs.Queries.{formulas_of}
use Rattle.lgc_meaning.proofs.Places.{atoms_are_atoms, atoms_differ}
use Rattle.lgc_meaning.proofs.atoms.atoms_of.Goals as goal

found : (c : goal.In_ok-add_of_query) → c.add_of_query.new.atoms ≡ each_once (flat_map atom_places (formulas_of c.args.q.now))
found c = c.in_ok-add_of_query.ensures ∙ ap (λ (before : List Formula). fold with_atom before (flat_map atom_places (formulas_of c.args.q.now))) c.new-atoms.ensures

pub returns-clause-atoms : goal.returns-clause-atoms
returns-clause-atoms c = subst (All (λ atom. is_atom atom ≡ true)) (sym (found c)) (atoms_are_atoms (formulas_of c.args.q.now))

pub returns-clause-distinct : goal.returns-clause-distinct
returns-clause-distinct c = subst (AllPairs (λ a b. a ≢ b)) (sym (found c)) (atoms_differ (formulas_of c.args.q.now))
