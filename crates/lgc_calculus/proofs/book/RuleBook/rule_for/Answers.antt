-- The rule that is found, or the one that is appended.
use Rattle.std.proofs.Common.{◌≡◌, ◌≢◌, ℕ, ◌+◌, ◌<◌, length, get_or, Ok, refl, ap, sym, subst, ◌∙◌, arith}
use Rattle.lgc_clauses.specs.Rules.{operator, OperatorRule, of_operator}
use Rattle.lgc_sequents.specs.Sequents.{IsSign}
use Rattle.lgc_calculus.specs.Calculus.{head_of, IsRightRule}
use Rattle.lgc_calculus.specs.RuleBook.{IsRightBook}
use Rattle.lgc_calculus.specs.RuleKeys.{IsMasked}
use Rattle.lgc_calculus.proofs.BookLaws.{IsMasked-members_of, IsSign-members_of, number_found, none_found, no_number, number_pushed, same_number, IsRightBook-push, length-keys, number_fits}
use Rattle.lgc_calculus.proofs.book.RuleBook.rule_for.Goals as goal

pub returns-in-Some-clause-number : goal.returns-in-Some-clause-number
returns-in-Some-clause-number g c =
    let masked : IsMasked g.row.N c.args.sign = IsMasked-members_of g.row.N c.mask.result c.args.sign c.mask.ensures.mask c.mask.ensures.members c.mask.ensures.below in
    number_found g.row.N c.self.inside.rules c.args.self.now c.self.inside.keys.keys c.args.op c.mask.result c.args.sign c.in-Some.place c.self.invariant c.self.view_is masked c.mask.ensures.mask c.in-Some.ensures.index

pub returns-in-Some-clause-known : goal.returns-in-Some-clause-known
returns-in-Some-clause-known g c = λ number is.
    (ap Ok (same_number c.args.self.now c.args.op c.args.sign (c.in-Some.place + 1) number c.requires.right.distinct (returns-in-Some-clause-number g c) is), refl)

pub overflow_add-result : goal.overflow_add-result
overflow_add-result g c =
    let long = length-keys g.row.N c.self.inside.rules c.self.inside.keys.keys c.self.invariant in
    let within = c.in-Some.ensures.within in
    omega (arith, number_fits c.args.m.now g.row.N c.self.inside.rules c.args.self.now c.self.inside.keys.keys c.in-Some.place c.operators-operators.ensures.logic c.requires.right c.self.invariant c.self.view_is c.mask.ensures.size (omega arith))

pub overflow_cast-result : goal.overflow_cast-result
overflow_cast-result g c = let next = overflow_add-result g c in omega arith

pub returns-in_err-rule-clause-known : goal.returns-in_err-rule-clause-known
returns-in_err-rule-clause-known g c = λ number is. absurd
    (no_number g.row.N c.self.inside.rules c.args.self.now c.self.inside.keys.keys c.args.op c.mask.result c.args.sign c.get_index_of.result c.self.invariant c.self.view_is c.mask.ensures.mask c.get_index_of.ensures.found c.in_default.is number is)

pub returns-in_err-push-clause-known : goal.returns-in_err-push-clause-known
returns-in_err-push-clause-known g c = λ number is. absurd
    (no_number g.row.N c.self.inside.rules c.args.self.now c.self.inside.keys.keys c.args.op c.mask.result c.args.sign c.get_index_of.result c.self.invariant c.self.view_is c.mask.ensures.mask c.get_index_of.ensures.found c.in_default.is number is)

pub returns-then-is_err-clause-known : goal.returns-then-is_err-clause-known
returns-then-is_err-clause-known g c = λ number is. absurd
    (no_number g.row.N c.self.inside.rules c.args.self.now c.self.inside.keys.keys c.args.op c.mask.result c.args.sign c.get_index_of.result c.self.invariant c.self.view_is c.mask.ensures.mask c.get_index_of.ensures.found c.in_default.is number is)

pub overflow_add-result-2 : goal.overflow_add-result-2
overflow_add-result-2 g c =
    omega (arith, number_fits c.args.m.now g.row.N c.self.inside.rules c.args.self.now c.self.inside.keys.keys c.len-count.result c.operators-operators.ensures.logic c.requires.right c.self.invariant c.self.view_is c.mask.ensures.size (omega (arith, c.len-count.ensures)))

pub overflow_cast-result-2 : goal.overflow_cast-result-2
overflow_cast-result-2 g c = let next = overflow_add-result-2 g c in omega arith

pub returns-clause-number : goal.returns-clause-number
returns-clause-number g c =
    number_pushed c.self.inside.rules c.push.new.self c.in_ok-rule.rule c.args.op c.args.sign c.len-count.result c.in_ok-push.ensures.ok c.len-count.ensures c.in_ok-rule.ensures.operator c.in_ok-rule.ensures.sign

pub returns-clause-known : goal.returns-clause-known
returns-clause-known g c = λ number is. absurd
    (no_number g.row.N c.self.inside.rules c.args.self.now c.self.inside.keys.keys c.args.op c.mask.result c.args.sign c.get_index_of.result c.self.invariant c.self.view_is c.mask.ensures.mask c.get_index_of.ensures.found c.in_default.is number is)

pub returns-clause-right : goal.returns-clause-right
returns-clause-right g c =
    let made = c.in_ok-rule.ensures in
    let rule : OperatorRule = c.in_ok-rule.rule in
    let book : IsRightBook c.args.m.now c.self.inside.rules = subst (IsRightBook c.args.m.now) (sym c.self.view_is) c.requires.right in
    let right : IsRightRule c.args.m.now (of_operator rule) = record { fits = made.fits; exact = made.exact; irredundant = made.irredundant; rising = made.rising; sets = λ i d lt. tt } in
    let own : IsSign g.row.N c.args.sign = IsSign-members_of g.row.N c.mask.result c.args.sign c.mask.ensures.members c.requires.nonempty in
    let sign : IsSign c.args.m.now.size rule.sign = subst (IsSign c.args.m.now.size) (sym made.sign) (subst (λ (n : ℕ). IsSign n c.args.sign) (sym c.operators-operators.ensures.size) own) in
    let heads : head_of (of_operator rule) ≡ (operator c.args.op, c.args.sign) = ap (λ o. (operator o, rule.sign)) made.operator ∙ ap (λ s. (operator c.args.op, s)) made.sign in
    let new : (k : ℕ) (d : OperatorRule) → k < length c.self.inside.rules → head_of (of_operator (get_or c.self.inside.rules k d)) ≢ head_of (of_operator rule) = λ k d lt e.
    none_found g.row.N c.self.inside.rules c.self.inside.keys.keys c.args.op c.mask.result c.args.sign c.get_index_of.result c.self.invariant c.mask.ensures.mask c.get_index_of.ensures.found c.in_default.is k d lt (e ∙ heads) in
    subst (IsRightBook c.args.m.now) (sym c.in_ok-push.ensures.ok) (IsRightBook-push c.args.m.now c.self.inside.rules rule book right sign new)
