-- The line of an item has its clauses by the book.
use Rattle.std.proofs.Common.{◌≡◌, ◌∙◌, ◌<◌, ◌^◌, ◌∷◌, [], ℕ, List, sym, subst, arith, true}
use Rattle.std.specs.Prelude.{All}
use Rattle.std.proofs.lemmas.Result.{on_ok_weaker}
use Rattle.lgc_syntax.specs.Sizes.{depth}
use Rattle.lgc_syntax.specs.declared.formula.Formula.{Formula}
use Rattle.lgc_sequents.specs.Signed.{SignedFormula}
use Rattle.lgc_goals.specs.Goals.{complement}
use Rattle.lgc_translate.specs.Covering.{covers}
use Rattle.lgc_translate.specs.SignedClauses.{AreLeastClauses, IsClauseOver}
use Rattle.lgc_clause_text.specs.Items.{GoalItem}
use Rattle.lgc_clause_text.specs.ClausesText.{AreClausesOf}
use Rattle.lgc_clause_text.specs.Put.{ArePut}
use Rattle.lgc_clause_text.proofs.PutLaws.{one_put}
use Rattle.lgc_clause_text.proofs.AskedLaws.{clauses_shallow}
use Rattle.lgc_clause_text.proofs.text.put_item.Goals as goal

pub put_line-requires : goal.put_line-requires
put_line-requires g c =
    let f = c.item.inside.formula in
    let shallow : depth f < 2 ^ 32 = subst (λ (x : SignedFormula). depth x.formula < 2 ^ 32) (sym c.item.view_is) c.requires.translatable.shallow in
    let all = subst (All (λ (clause : List SignedFormula). All (λ item. depth item.formula < 2 ^ 32) clause)) (sym c.items.ensures) (clauses_shallow g.row.N f c.in_ok-clauses.clauses shallow c.in_ok-clauses.ensures.formed) in
    (omega arith, (omega arith, (omega arith, (shallow, all))))

pub returns-clause-put : goal.returns-clause-put
returns-clause-put g c =
    let logic = c.args.m.now in
    let book = c.to_clauses.new.book in
    let f = c.item.inside.formula in
    let sign = c.complement-sign.result in
    let size = c.operators-operators.ensures.size in
    let made = c.in_ok-clauses.clauses in
    let of = c.in_ok-clauses.ensures in
    let place : Formula → List ℕ → GoalItem = λ h s. record { query = c.args.place.query; goal = c.args.place.goal; item = c.args.place.item; formula = h; sign = s } in
    let sign_is : sign ≡ complement logic.size c.args.item.now.sign = c.complement-sign.ensures ∙ (λ i. complement (sym size i) (c.item.view_is i).sign) in
    let same : place f sign ≡ place c.args.item.now.formula (complement logic.size c.args.item.now.sign) = λ i. place (c.item.view_is i).formula (sign_is i) in
    let are : AreClausesOf logic book (place f sign) made = record {
      covered = subst (λ (n : ℕ). covers n book f sign ≡ true) (sym size) of.covered;
      least = subst (λ (n : ℕ). AreLeastClauses n book f sign made) (sym size) of.clauses;
      truth = of.truth;
      formed = subst (λ (n : ℕ). All (IsClauseOver n f) made) (sym size) of.formed;
      apart = of.apart;
    } in
    on_ok_weaker c.put_line.result
    (λ put. subst (λ (x : GoalItem). ArePut logic book (x ∷ []) c.args.into.now.items c.put_line.new.into.items) same
    (one_put logic book (place f sign) c.items.result.now c.args.into.now.items c.put_line.new.into.items (subst (AreClausesOf logic book (place f sign)) (sym c.items.ensures) are) put))
    c.put_line.ensures
