-- The row is one of the rule at the position.
use Rattle.std.proofs.Common.{◌≡◌, ◌++◌, ◌-◌, ◌<◌, OnOk, Some, map, length, sym, ap, subst, ◌∙◌, arith, rules}
use Rattle.std.proofs.lemmas.List.{length-map}
use Rattle.lgc_clauses.specs.Kinds.{plain_rule}
use Rattle.lgc_clauses.specs.Rules.{rows_of, Fits}
use Rattle.lgc_clauses.specs.declared.rule.Numbered.{Numbered}
use Rattle.lgc_sequents.specs.Lines.{at_position}
use Rattle.lgc_sequents.proofs.StepLaws.{at_position_within}
use Rattle.lgc_report.specs.Reports.{PlainNumbered, plain_numbered}
use Rattle.lgc_check.specs.VerdictText.{row_at}
use Rattle.lgc_check.proofs.RowLaws.{numbered_there}
use Rattle.lgc_check.proofs.text.put_row_at.Goals as goal

pub put_row-requires : goal.put_row-requires
put_row-requires g c =
    let all = c.args.rules.now in
    let numbered = c.index-rules-position.result in
    let row = c.requires.row in
    let same : row.numbered ≡ plain_numbered numbered = numbered_there all c.args.position numbered row.numbered c.index-rules-position.is row.stands in
    let within = at_position_within (map (plain_numbered {size = g.row.N}) all) c.args.position row.numbered row.stands in
    let inside : c.args.position - 1 < length all = omega (arith, within.0, within.1, length-map all (plain_numbered {size = g.row.N})) in
    let fits : Fits c.args.m.now (plain_rule numbered.rule) =
    subst (λ (x : Numbered g.row.N). Fits c.args.m.now (plain_rule x.rule)) (sym c.index-rules-position.is) (c.requires.fits (c.args.position - 1) numbered inside)
    in
    (search rules, (search rules, (fits, subst (λ (x : PlainNumbered). c.args.row < rows_of c.args.m.now x.rule.head) same row.within)))

pub returns : goal.returns
returns g c =
    let numbered = c.index-rules-position.result in
    let row = c.requires.row in
    let same : row.numbered ≡ plain_numbered numbered = numbered_there c.args.rules.now c.args.position numbered row.numbered c.index-rules-position.is row.stands in
    let there : at_position (map plain_numbered c.args.rules.now) c.args.position ≡ Some (plain_numbered numbered) = row.stands ∙ ap (λ x. Some x) same in
    subst (λ found. OnOk c.put_row.result (c.put_row.new.into.items ≡ c.args.into.now.items ++ row_at c.args.m.now found c.args.row)) (sym there) c.put_row.ensures
