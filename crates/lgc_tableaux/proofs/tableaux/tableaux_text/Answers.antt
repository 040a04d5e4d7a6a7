-- One query more is put, and all of them.
use Rattle.std.proofs.Common.{◌≡◌, ◌&&◌, sym, subst, ◌∙◌, arith}
use Rattle.lgc_queries.specs.Asked.{IsAsked}
use Rattle.lgc_tableaux.proofs.TableauxLaws.{one_query_more, all_queries}
use Rattle.lgc_tableaux.proofs.DecidedLaws.{is_text}
use Rattle.lgc_tableaux.proofs.tableaux.tableaux_text.Goals as goal
use Rattle.lgc_tableaux.proofs.tableaux.tableaux_text.Goals.{then-all_closed, else-all_closed}

pub put_query-requires : goal.put_query-requires
put_query-requires g c =
    let at = c.loop-i in
    let asked = subst (IsAsked c.args.m.now) (sym c.index-queries-i.is) (c.requires at.i c.index-queries-i.result c.loop-i-test.true) in
    (omega arith, (omega arith, (asked, at.invariant.right)))

pub loop-i-preserved : goal.loop-i-preserved
loop-i-preserved g c =
    let at = c.loop-i in
    let new = c.put_query.new.book in
    let closed = c.in_ok-closed.closed in
    let both : c.if-all_closed.all_closed ≡ (at.all_closed && closed) = elim c.if-all_closed.branch [
      | then-all_closed w ↦ rw w.if-all_closed.true w.all_closed-is
      | else-all_closed w ↦ rw w.if-all_closed.false (w.all_closed-is ∙ w.if-all_closed.false)
    ] in
    record {
      put = one_query_more g.row.N c.args.m.now at.book new c.args.queries.now at.i c.index-queries-i.result at.all_closed closed c.if-all_closed.all_closed at.text.items c.put_query.new.into.items c.loop-i-test.true c.index-queries-i.is c.in_ok-closed.ensures.rules at.invariant.put c.in_ok-closed.ensures.put both;
      right = c.in_ok-closed.ensures.right;
    }

pub returns : goal.returns
returns g c =
    let logic = c.args.m.now in
    let at = c.loop-i in
    is_text g.row.N logic c.operators-operators.ensures.logic c.operators-operators.ensures.size at.book c.args.queries.now at.all_closed at.text.items at.invariant.right
    (all_queries g.row.N logic at.book c.args.queries.now at.i at.all_closed at.text.items (omega arith) at.invariant.put)
