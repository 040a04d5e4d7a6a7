-- The walk appends subformulas alone.
use Rattle.std.proofs.Common.{rules}
use Rattle.lgc_syntax.specs.declared.formula.Formula.{the_lemmas}
use Rattle.lgc_syntax.specs.Subformulas.{IsSubformula}
use Rattle.lgc_syntax.proofs.SubformulaLaws.{arguments_propositional, quantified}
use Rattle.lgc_numbering.proofs.GrowthLaws.{grown_by_itself, grown_by_arguments, grown_by_compound, grown_by_item, numbers_item}
use Rattle.lgc_numbering.proofs.number.+number_in.Goals as goal

pub number_in-numbers_in-requires : goal.number_in-numbers_in-requires
number_in-numbers_in-requires t c =
    (search (rules, the_lemmas), arguments_propositional c.args.f.now c.in-Op.op c.in-Op.args c.items.result.now c.in-Op.is c.items.ensures c.requires)

pub number_in-returns-in_err-numbers-in-Op-clause-grown : goal.number_in-returns-in_err-numbers-in-Op-clause-grown
number_in-returns-in_err-numbers-in-Op-clause-grown t c =
    grown_by_arguments c.args.f.now c.in-Op.op c.in-Op.args c.items.result.now c.args.formulas.now c.numbers_in.new.formulas c.in-Op.is c.items.ensures c.in_err-numbers-in-Op.ensures.grown

pub number_in-returns-in-Atom-clause-grown : goal.number_in-returns-in-Atom-clause-grown
number_in-returns-in-Atom-clause-grown t c = grown_by_itself c.args.f.now c.args.formulas.now c.number_of_atom.new.self c.number_of_atom.ensures.grown

pub number_in-returns-in_ok-numbers-in-Op-clause-grown : goal.number_in-returns-in_ok-numbers-in-Op-clause-grown
number_in-returns-in_ok-numbers-in-Op-clause-grown t c =
    grown_by_compound c.args.f.now c.in-Op.op c.in-Op.args c.items.result.now c.args.formulas.now c.numbers_in.new.formulas c.number_of_compound.new.self c.in_ok-numbers-in-Op.numbers c.in-Op.is c.items.ensures c.in_ok-numbers-in-Op.ensures.grown
    c.in_ok-numbers-in-Op.ensures.numbers c.number_of_compound.ensures.grown

pub number_in-unreachable-requires : goal.number_in-unreachable-requires
number_in-unreachable-requires t c = quantified c.args.f.now c.in-Quant.field-0 c.in-Quant.field-1 c.in-Quant.is c.requires

pub numbers_in-returns-in_err-number_in-clause-grown : goal.numbers_in-returns-in_err-number_in-clause-grown
numbers_in-returns-in_err-number_in-clause-grown t c =
    grown_by_item c.args.formulas.now c.loop-f.formulas c.number_in.new.formulas c.args.fs.now c.loop-f.f-index c.f-item.result c.loop-f-test.true c.f-item.is c.loop-f.invariant.grown c.number_in.ensures.grown

pub numbers_in-returns-in_err-push-clause-grown : goal.numbers_in-returns-in_err-push-clause-grown
numbers_in-returns-in_err-push-clause-grown t c =
    grown_by_item c.args.formulas.now c.loop-f.formulas c.number_in.new.formulas c.args.fs.now c.loop-f.f-index c.f-item.result c.loop-f-test.true c.f-item.is c.loop-f.invariant.grown c.number_in.ensures.grown

pub numbers_in-loop-f-preserved : goal.numbers_in-loop-f-preserved
numbers_in-loop-f-preserved t c = record {
  numbers = numbers_item (λ g. IsSubformula g c.f-item.result) c.loop-f.formulas c.number_in.new.formulas c.args.fs.now c.loop-f.numbers c.push.new.self c.loop-f.f-index c.f-item.result c.in_ok-number_in.field-0 c.loop-f-test.true c.f-item.is
      c.number_in.ensures.grown c.loop-f.invariant.numbers c.in_ok-number_in.ensures.number c.in_ok-push.ensures.ok;
  grown = grown_by_item c.args.formulas.now c.loop-f.formulas c.number_in.new.formulas c.args.fs.now c.loop-f.f-index c.f-item.result c.loop-f-test.true c.f-item.is c.loop-f.invariant.grown c.number_in.ensures.grown;
}
