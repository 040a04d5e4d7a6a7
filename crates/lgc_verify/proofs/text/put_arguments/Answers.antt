use Rattle.std.proofs.Common.{◌≡◌, ℕ, List, [], ◌∷◌, ◌++◌, take, arith}
use Rattle.std.specs.Prelude.{◌+◌, map, slice_index_or}
use Rattle.std.proofs.lemmas.Grind.{common_steps}
use Rattle.lgc_values.specs.Logic.{arguments_at}
use Rattle.lgc_print.specs.Text.{value_text}
use Rattle.lgc_print.proofs.TextLaws.{joined_more, between_more}
use Rattle.lgc_verify.proofs.Lines.{arguments_more}
use Rattle.lgc_verify.proofs.text.put_arguments.Goals as goal

pub loop-j-preserved : goal.loop-j-preserved
loop-j-preserved g c =
    let f = λ (v : ℕ). value_text (slice_index_or c.args.m.now.names v []) in
    let arguments : List ℕ = arguments_at g.row.N c.args.arity c.args.row in
    let more : map f (take (c.loop-j.j + 1) arguments) ≡ map f (take c.loop-j.j arguments) ++ f c.argument_at-argument.result ∷ []
    = arguments_more f arguments c.loop-j.j c.argument_at-argument.result c.argument_at-argument.ensures.argument in
    record {
      so_far = rw (more, joined_more) (grind (arith, common_steps));
      next = rw (more, between_more) (grind (arith, common_steps));
    }
