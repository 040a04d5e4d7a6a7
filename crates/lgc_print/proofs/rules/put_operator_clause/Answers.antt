use Rattle.std.proofs.Common.{◌≡◌, ◌+◌, [], ◌∷◌, ◌++◌, take, arith}
use Rattle.std.specs.Prelude.{codes}
use Rattle.std.proofs.lemmas.Grind.{common_steps}
use Rattle.std.proofs.lemmas.Bool.{both_ways}
use Rattle.lgc_print.specs.Text.{joined, literals_from, literal_text}
use Rattle.lgc_print.proofs.TextLaws.{between, set_kept, set_passed, between_more, joined_more}
use Rattle.lgc_print.proofs.rules.put_operator_clause.Goals as goal
use Rattle.lgc_print.proofs.rules.put_operator_clause.Goals.{then-not-is_empty+in_ok-extend_from_slice+in_ok-put_literal, else-not-is_empty}

pub loop-j-preserved : goal.loop-j-preserved
loop-j-preserved g c =
    elim c.if-not-is_empty.branch [
      | then-not-is_empty+in_ok-extend_from_slice+in_ok-put_literal w ↦
          let step : literals_from c.args.names.now 1 (take (c.loop-j.j + 1) c.args.sets.now) ≡ literals_from c.args.names.now 1 (take c.loop-j.j c.args.sets.now) ++ literal_text c.args.names.now (c.loop-j.j + 1) c.index-sets-j.result ∷ []
          = set_kept c.args.names.now c.args.sets.now c.index-sets-j.result c.loop-j.j c.loop-j-test.true c.index-sets-j.is (λ e. both_ways c.is_empty.result w.if-not-is_empty.true (c.is_empty.ensures.1 e)) in
          let join : joined (codes ", ") (literals_from c.args.names.now 1 (take c.loop-j.j c.args.sets.now) ++ literal_text c.args.names.now (c.loop-j.j + 1) c.index-sets-j.result ∷ []) ≡ joined (codes ", ") (literals_from c.args.names.now 1 (take c.loop-j.j c.args.sets.now)) ++ (between (codes ", ") (literals_from c.args.names.now 1 (take c.loop-j.j c.args.sets.now)) ++ literal_text c.args.names.now (c.loop-j.j + 1) c.index-sets-j.result)
          = joined_more (codes ", ") (literals_from c.args.names.now 1 (take c.loop-j.j c.args.sets.now)) (literal_text c.args.names.now (c.loop-j.j + 1) c.index-sets-j.result) in
          record { so_far = rw (step, join) (grind (arith, common_steps)); next = rw (step, between_more) (grind (arith, common_steps)) }
      | else-not-is_empty w ↦
          let step : literals_from c.args.names.now 1 (take (c.loop-j.j + 1) c.args.sets.now) ≡ literals_from c.args.names.now 1 (take c.loop-j.j c.args.sets.now)
          = set_passed c.args.names.now c.args.sets.now c.index-sets-j.result c.loop-j.j c.loop-j-test.true c.index-sets-j.is (c.is_empty.ensures.0 w.if-not-is_empty.false) in
          record { so_far = rw step (grind (arith, common_steps)); next = rw step (grind (arith, common_steps)) }
    ]
