-- The clauses by a book that covers the formula are as they should be.
use Rattle.std.proofs.Common.{◌≡◌, true, List, ℕ, sym, subst}
use Rattle.std.specs.Prelude.{All, AllPairs}
use Rattle.std.proofs.lemmas.Result.{IfOk-weaker}
use Rattle.lgc_clauses.specs.Rules.{OperatorRule}
use Rattle.lgc_translate.specs.Covering.{covers}
use Rattle.lgc_translate.specs.SignedClauses.{AreLeastClauses, IsClauseOver, AreApart, IsClauseSet}
use Rattle.lgc_translate.specs.Words.{AreReduced}
use Rattle.lgc_translate.proofs.SignedLaws.{clauses_least, clauses_formed, clauses_apart, clauses_true}
use Rattle.lgc_translate.proofs.translation.to_clauses.Goals as goal

pub returns-clause-clauses : goal.returns-clause-clauses
returns-clause-clauses g c =
    let n = g.row.N in
    let f = c.args.f.now in
    IfOk-weaker c.clauses_by.result (AreReduced n c.rules.result.now f c.args.sign) (AreLeastClauses n c.cover.new.book f c.args.sign)
    (λ clauses are. clauses_least n c.cover.new.book f c.args.sign clauses (subst (λ (rules : List OperatorRule). AreReduced n rules f c.args.sign clauses) c.rules.ensures.rules are)) c.clauses_by.ensures

pub returns-clause-formed : goal.returns-clause-formed
returns-clause-formed g c =
    let n = g.row.N in
    let f = c.args.f.now in
    IfOk-weaker c.clauses_by.result (AreReduced n c.rules.result.now f c.args.sign) (All (IsClauseOver n f)) (λ clauses are. clauses_formed n c.rules.result.now f c.args.sign clauses are) c.clauses_by.ensures

pub returns-clause-apart : goal.returns-clause-apart
returns-clause-apart g c =
    let n = g.row.N in
    let f = c.args.f.now in
    IfOk-weaker c.clauses_by.result (AreReduced n c.rules.result.now f c.args.sign) (AllPairs AreApart) (λ clauses are. clauses_apart n c.rules.result.now f c.args.sign clauses are) c.clauses_by.ensures

pub returns-clause-truth : goal.returns-clause-truth
returns-clause-truth g c =
    let f = c.args.f.now in
    let sign = c.args.sign in
    let book = c.cover.new.book in
    let sized = c.operators-operators.ensures.size in
    IfOk-weaker c.clauses_by.result (AreReduced g.row.N c.rules.result.now f sign) (IsClauseSet c.args.m.now f sign)
    (λ clauses are. clauses_true c.args.m.now book f sign clauses
    (subst (λ (n : ℕ). AreReduced n book f sign clauses) (sym sized) (subst (λ (rules : List OperatorRule). AreReduced g.row.N rules f sign clauses) c.rules.ensures.rules are))
    c.operators-operators.ensures.logic c.cover.ensures.right c.requires.fits c.requires.propositional
    (subst (λ (n : ℕ). covers n book f sign ≡ true) (sym sized) c.in_ok-cover.ensures.covered)) c.clauses_by.ensures
