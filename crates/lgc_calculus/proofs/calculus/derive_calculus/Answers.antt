-- The rules of the operators and then those of the quantifiers.
use Rattle.std.proofs.Common.{◌≡◌, ◌++◌, map, ◌∙◌}
use Rattle.std.proofs.lemmas.List.{map-append}
use Rattle.lgc_clauses.specs.Kinds.{plain_rule}
use Rattle.lgc_calculus.proofs.RuleLists.{calculus_of, all_fit}
use Rattle.lgc_calculus.proofs.calculus.derive_calculus.Goals as goal

pub returns-clause-calculus : goal.returns-clause-calculus
returns-clause-calculus g c =
    let joined : c.of_vec.result ≡ c.in_ok-rules.rules.items ++ c.in_ok-others.others.items = c.of_vec.ensures ∙ c.in_ok-append.ensures.items in
    rw (joined, map-append (plain_rule {size = g.row.N}) c.in_ok-rules.rules.items c.in_ok-others.others.items)
    (calculus_of c.args.m.now (map (plain_rule {size = g.row.N}) c.in_ok-rules.rules.items) (map (plain_rule {size = g.row.N}) c.in_ok-others.others.items) c.in_ok-rules.ensures c.in_ok-others.ensures)

pub returns-clause-fits : goal.returns-clause-fits
returns-clause-fits g c = all_fit c.args.m.now g.row.N c.of_vec.result (returns-clause-calculus g c).right
