-- The formulas below are those of the cases, and their text stands behind the line of the node.
use Rattle.std.proofs.Common.{◌∙◌, rules}
use Rattle.std.proofs.lemmas.Result.{on_ok_weaker}
use Rattle.lgc_tableau_text.proofs.TableauLaws.{case_put, closed_put, split_put, shallow_by, shallow_on, shallow_cases, shallow_case, shallow_added}
use Rattle.lgc_tableau_text.proofs.text.+put_node.Goals as goal

pub put_node-put_closed-requires : goal.put_node-put_closed-requires
put_node-put_closed-requires g t c = (search rules, shallow_by c.args.t.now c.in-Closed.by c.in-Closed.is c.requires)

pub put_node-put_split-requires : goal.put_node-put_split-requires
put_node-put_split-requires g t c = (search rules, (search rules, shallow_on c.args.t.now c.in-Split.on c.in-Split.cases c.in-Split.is c.requires))

pub put_node-cases_of-requires : goal.put_node-cases_of-requires
put_node-cases_of-requires g t c = search (rules, shallow_cases c.args.t.now c.in-Split.on c.in-Split.cases c.in-Split.is c.requires)

pub put_node-returns-in-Closed : goal.put_node-returns-in-Closed
put_node-returns-in-Closed g t c =
    on_ok_weaker c.put_closed.result
    (closed_put c.args.m.now c.args.t.now c.in-Closed.by c.args.blanks.now c.args.into.now.items c.extend_from_slice.new.self.items c.put_closed.new.into.items c.in-Closed.is c.in_ok-extend_from_slice.ensures.items) c.put_closed.ensures

pub put_node-returns-in_ok-put_split-in-Split : goal.put_node-returns-in_ok-put_split-in-Split
put_node-returns-in_ok-put_split-in-Split g t c =
    on_ok_weaker c.put_cases.result
    (split_put c.args.m.now c.args.t.now c.in-Split.on c.in-Split.cases c.cases_of.result.now c.args.blanks.now c.args.into.now.items c.extend_from_slice.new.self.items c.put_split.new.into.items c.put_cases.new.into.items c.in-Split.is c.cases_of.ensures.items c.in_ok-extend_from_slice.ensures.items c.in_ok-put_split-in-Split.ensures)
    c.put_cases.ensures

pub put_cases-put_case-requires : goal.put_cases-put_case-requires
put_cases-put_case-requires g t c =
    let case = c.index-cases-j.result in
    (search rules, (search rules, shallow_added case c.items.result.now c.items.ensures (shallow_case c.args.cases.now c.loop-j.j case c.loop-j-test.true c.index-cases-j.is c.requires)))

pub put_cases-below_of-requires : goal.put_cases-below_of-requires
put_cases-below_of-requires g t c = (search rules, shallow_case c.args.cases.now c.loop-j.j c.index-cases-j.result c.loop-j-test.true c.index-cases-j.is c.requires)

pub put_cases-loop-j-preserved : goal.put_cases-loop-j-preserved
put_cases-loop-j-preserved g t c =
    case_put c.args.m.now c.args.blanks.now c.deref.result.now c.args.cases.now c.loop-j.j c.index-cases-j.result c.items.result.now c.below_of.result.now c.args.into.now.items c.loop-j.into.items c.put_case.new.into.items c.put_node.new.into.items
    c.loop-j-test.true c.index-cases-j.is c.items.ensures c.below_of.ensures.below (c.deref.ensures.value ∙ c.in_ok-below.ensures) c.loop-j.invariant c.in_ok-put_case.ensures c.in_ok-put_node.ensures
