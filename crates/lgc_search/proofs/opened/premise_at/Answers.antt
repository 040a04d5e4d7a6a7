-- What a premise has and weighs.
use Rattle.std.proofs.Common.{◌≡◌, ◌+◌, ◌*◌, ◌<◌, ℕ, List, length, ◌∙◌, ap}
use Rattle.std.specs.List.{zip}
use Rattle.std.proofs.lemmas.Result.{IfOk-weaker}
use Rattle.lgc_packed.specs.Packed.{added_all, weight_of, total}
use Rattle.lgc_lemmas.specs.Nodes.{HasNumbersBelow}
use Rattle.lgc_search.specs.Search.{weight}
use Rattle.lgc_search.proofs.Opening.{premise_numbers, premise_falls}
use Rattle.lgc_search.proofs.opened.premise_at.Goals as goal

pub returns-clause-numbers : goal.returns-clause-numbers
returns-clause-numbers g c =
    let opened = c.args.opened.now in
    let sets = c.items.result.now in
    IfOk-weaker c.with_clause.result (λ (premise : List (ℕ × List ℕ)). premise ≡ added_all g.row.N (zip c.items-2.result.now sets) opened.rest) (HasNumbersBelow (length c.args.nodes.now))
    (λ premise made. premise_numbers (length c.args.nodes.now) g.row.N opened.arguments sets opened.rest premise c.requires.arguments c.requires.numbers (made ∙ ap (λ (arguments : List ℕ). added_all g.row.N (zip arguments sets) opened.rest) c.items-2.ensures))
    c.with_clause.ensures

pub returns-clause-falls : goal.returns-clause-falls
returns-clause-falls g c =
    let opened = c.args.opened.now in
    let sets = c.items.result.now in
    IfOk-weaker c.with_clause.result (λ (premise : List (ℕ × List ℕ)). premise ≡ added_all g.row.N (zip c.items-2.result.now sets) opened.rest) (λ premise. 2 * weight_of weight premise < 2 * (weight_of weight opened.rest + total weight opened.arguments) + 1)
    (λ premise made. premise_falls g.row.N opened.arguments sets opened.rest premise (made ∙ ap (λ (arguments : List ℕ). added_all g.row.N (zip arguments sets) opened.rest) c.items-2.ensures))
    c.with_clause.ensures
