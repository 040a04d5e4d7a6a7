-- The rule that is found, or that there is none.
use Rattle.std.proofs.Common.{◌≡◌, ℕ, ◌+◌, ◌-◌, Some, get_or, slice_get, sym, ap, ◌∙◌, arith}
use Rattle.std.proofs.lemmas.Option.{get_or_from_slice_get, slice_get_within}
use Rattle.lgc_clauses.specs.Rules.{OperatorRule}
use Rattle.lgc_calculus.specs.RuleKeys.{IsMasked}
use Rattle.lgc_calculus.proofs.BookLaws.{IsMasked-members_of, number_found, no_number}
use Rattle.lgc_calculus.proofs.book.RuleBook.made_rule.Goals as goal

pub returns-in-Some : goal.returns-in-Some
returns-in-Some g c =
    let masked : IsMasked g.row.N c.args.sign = IsMasked-members_of g.row.N c.mask-mask.result c.args.sign c.mask-mask.ensures.mask c.mask-mask.ensures.members c.mask-mask.ensures.below in
    let place = c.in-Some.place in
    let rule : OperatorRule = c.get.result.now in
    let number = number_found g.row.N c.self.inside.rules c.args.self.now c.self.inside.keys.keys c.args.op c.mask-mask.result c.args.sign place c.self.invariant c.self.view_is masked c.mask-mask.ensures.mask c.in-Some.ensures.index in
    let at : slice_get c.args.self.now place ≡ Some rule = ap (λ rules. slice_get rules place) (sym c.self.view_is) ∙ c.get.ensures in
    let before : place + 1 - 1 ≡ place = omega arith in
    let same : number.rule ≡ rule = sym (get_or_from_slice_get c.args.self.now (place + 1 - 1) number.rule rule number.place) ∙ ap (λ k. get_or c.args.self.now k rule) before ∙ get_or_from_slice_get c.args.self.now place rule rule at in
    record {
      is = (place, slice_get_within c.args.self.now place rule at, get_or_from_slice_get c.args.self.now place rule rule at);
      operator = ap (λ (r : OperatorRule). r.op) (sym same) ∙ number.operator;
      signed = ap (λ (r : OperatorRule). r.sign) (sym same) ∙ number.signed;
    }

pub returns : goal.returns
returns g c = λ number is. no_number g.row.N c.self.inside.rules c.args.self.now c.self.inside.keys.keys c.args.op c.mask-mask.result c.args.sign c.get_index_of.result c.self.invariant c.self.view_is c.mask-mask.ensures.mask c.get_index_of.ensures.found c.in_default.is number is
