use Rattle.std.proofs.Common.{◌≡◌, ℕ, ◌<◌, Bool, ◌==◌, ◌||◌, not, List, [], filter, length, get_or, sym, ap, ◌∙◌}
use Rattle.std.specs.List.{list_all, list_any, remove}
use Rattle.std.proofs.lemmas.List.{get_or_read}
use Rattle.lgc_values.specs.Values.{has}
use Rattle.lgc_clauses.specs.Irredundance.{sets_without}
use Rattle.lgc_clauses.proofs.Changes.{any_without}
use Rattle.lgc_clauses.proofs.clause.lies_in_some_without.Goals as goal

-- what the test of the changed set tells
tested : (sets : List (List ℕ)) (j v : ℕ) (values old less : List ℕ) (lies known : Bool) → j < length sets → old ≡ get_or sets j old → less ≡ filter (λ w. not (w == v)) old → lies ≡ list_all (has less) values → lies ≡ known
    → (known || list_any (λ set. list_all (has set) values) (remove sets j)) ≡ list_any (λ set. list_all (has set) values) (sets_without sets j v)
tested sets j v values old less lies known lt read is tests e =
    let changed = tests ∙ ap (λ s. list_all (has s) values) (is ∙ ap (filter (λ w. not (w == v))) (get_or_read sets j old lt read [])) in
    ap (λ b. b || list_any (λ set. list_all (has set) values) (remove sets j)) (sym e ∙ changed) ∙ sym (any_without sets j v values lt)

pub returns-then-is_subset : goal.returns-then-is_subset
returns-then-is_subset g c =
    c.if-is_subset.true
    ∙ tested c.args.others.now c.args.j c.args.v c.args.set c.index-others-j.result c.without.result c.is_subset.result _ c.requires.part c.index-others-j.is c.without.ensures c.is_subset.ensures c.if-is_subset.true

pub returns-else-is_subset : goal.returns-else-is_subset
returns-else-is_subset g c =
    c.lies_in_another.ensures
    ∙ tested c.args.others.now c.args.j c.args.v c.args.set c.index-others-j.result c.without.result c.is_subset.result _ c.requires.part c.index-others-j.is c.without.ensures c.is_subset.ensures c.if-is_subset.false
