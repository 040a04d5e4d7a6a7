-- The goal's line is unfolded with the goal's own items.
use Rattle.std.proofs.Common.{◌≤◌, ℕ, List, length, sym, subst, arith}
use Rattle.lgc_sequents.specs.Signed.{SignedFormula}
use Rattle.lgc_sequents.specs.Sequents.{IsSequent}
use Rattle.lgc_sequents.specs.Lines.{PlainLine}
use Rattle.lgc_derivations.specs.Derivations.{Tree}
use Rattle.lgc_proofs.specs.declared.found.Found.{Found}
use Rattle.lgc_proofs.specs.Found.{AreAppended, IsFound}
use Rattle.lgc_trees.specs.Unfolded.{AreInOrder, IsUnfolded}
use Rattle.lgc_trees.proofs.Roots.{lines_in_order, derivation_of_goal}
use Rattle.lgc_trees.proofs.searching.search.Goals as goal

pub unfold-requires : goal.unfold-requires
unfold-requires g c =
    let logic = c.args.m.now in
    let items : List SignedFormula = c.args.goal.now in
    let book = c.prove.new.book in
    let lines : List PlainLine = c.prove.new.self in
    let position = c.in-Line.position in
    let S : ℕ → Type 0 = λ n. IsSequent n items in
    let sequent = subst S (sym c.operators-operators.ensures.size) c.items-items.ensures.sequent in
    let A : List PlainLine → Type 0 = λ old. AreAppended logic book items old lines in
    let appended = subst A c.new-proofs.ensures c.prove.ensures.appended in
    let Q : Found → Type 0 = IsFound logic lines items in
    let proved = subst Q c.in-Line.is c.in_ok-position.ensures.found in
    let W : List PlainLine → Type 0 = λ all. position ≤ length all in
    let order = subst AreInOrder (sym c.lines.ensures.lines) (lines_in_order logic book c.prove.ensures.right items sequent lines appended) in
    (omega arith, (omega arith, (order, (proved.line.stands.0, subst W (sym c.lines.ensures.lines) proved.line.stands.1))))

pub returns-in-Line-clause-outcome : goal.returns-in-Line-clause-outcome
returns-in-Line-clause-outcome g c =
    let logic = c.args.m.now in
    let items : List SignedFormula = c.args.goal.now in
    let book = c.prove.new.book in
    let lines : List PlainLine = c.prove.new.self in
    let position = c.in-Line.position in
    let d : Tree = c.in_ok-derivation-in-Line.derivation in
    let S : ℕ → Type 0 = λ n. IsSequent n items in
    let sequent = subst S (sym c.operators-operators.ensures.size) c.items-items.ensures.sequent in
    let A : List PlainLine → Type 0 = λ old. AreAppended logic book items old lines in
    let appended = subst A c.new-proofs.ensures c.prove.ensures.appended in
    let Q : Found → Type 0 = IsFound logic lines items in
    let proved = subst Q c.in-Line.is c.in_ok-position.ensures.found in
    let OfItems : List SignedFormula → Type 0 = λ conclusion. IsUnfolded g.row.N c.lines.result.now position conclusion d in
    let OfLines : List PlainLine → Type 0 = λ all. IsUnfolded g.row.N all position items d in
    let OfSize : ℕ → Type 0 = λ n. IsUnfolded n lines position items d in
    let unfolded = subst OfSize (sym c.operators-operators.ensures.size) (subst OfLines c.lines.ensures.lines (subst OfItems c.in_ok-conclusion-in-Line.ensures c.in_ok-derivation-in-Line.ensures)) in
    derivation_of_goal logic book c.prove.ensures.right items sequent lines appended position proved d unfolded
