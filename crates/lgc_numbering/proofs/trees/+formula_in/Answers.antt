-- The arguments of a compound stand before it.
use Rattle.std.proofs.Common.{◌≡◌, Some, slice_get, rules, sym, ap, ◌∙◌, arith}
use Rattle.std.proofs.lemmas.Result.{IfOk-weaker}
use Rattle.lgc_numbering.specs.Numbering.{formulas_of}
use Rattle.lgc_numbering.proofs.NumberingLaws.{atom_at, arguments_below, compound_at}
use Rattle.lgc_numbering.proofs.trees.+formula_in.Goals as goal

pub formula_in-formulas_in-requires : goal.formula_in-formulas_in-requires
formula_in-formulas_in-requires t c =
    let nodes = c.args.nodes.now in (
      search rules,
      (
        c.requires.nodes,
        (
          omega (arith, c.requires.within),
          arguments_below (formulas_of nodes) nodes c.args.k c.index-nodes-k.result c.in-Compound.op c.in-Compound.args c.items.result.now c.requires.nodes c.requires.within c.index-nodes-k.is c.in-Compound.is c.items.ensures,
        ),
      ),
    )

pub formula_in-returns-in-Atom : goal.formula_in-returns-in-Atom
formula_in-returns-in-Atom t c =
    let nodes = c.args.nodes.now in
    IfOk-weaker c.copy_formula.result (λ copy. copy ≡ c.in-Atom.atom) (λ f. slice_get (formulas_of nodes) c.args.k ≡ Some f)
    (λ f same. atom_at (formulas_of nodes) nodes c.args.k c.index-nodes-k.result c.in-Atom.atom c.requires.nodes c.requires.within c.index-nodes-k.is c.in-Atom.is ∙ ap (λ g. Some g) (sym same)) c.copy_formula.ensures

pub formula_in-returns-in_ok-formulas_in-in-Compound : goal.formula_in-returns-in_ok-formulas_in-in-Compound
formula_in-returns-in_ok-formulas_in-in-Compound t c =
    let nodes = c.args.nodes.now in
    compound_at (formulas_of nodes) nodes c.args.k c.index-nodes-k.result c.in-Compound.op c.in-Compound.args c.items.result.now c.in_ok-formulas_in-in-Compound.field-0 c.requires.nodes c.requires.within c.index-nodes-k.is c.in-Compound.is c.items.ensures
    c.in_ok-formulas_in-in-Compound.ensures
