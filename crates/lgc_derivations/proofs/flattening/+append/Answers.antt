-- The lines of a derivation stand behind those of its premises.
use Rattle.std.proofs.Common.{◌+◌, take, List, [], refl, sym, ap, subst, length}
use Rattle.lgc_sequents.specs.Lines.{PlainLine}
use Rattle.lgc_sequents.specs.declared.line.Cited.{Cited}
use Rattle.lgc_sequents.specs.declared.line.Reason.TheVariants.{Axiom, ByRule}
use Rattle.lgc_derivations.specs.Derivations.{Tree}
use Rattle.lgc_derivations.specs.Flattened.{AreFlattened}
use Rattle.lgc_derivations.proofs.FlattenLaws.{axiom_flattened, step_flattened, none_flattened, more_flattened, kept_here, kept_on}
use Rattle.lgc_derivations.proofs.flattening.+append.Goals as goal

pub append-returns-in_ok-push-in-Axiom-clause-flattened : goal.append-returns-in_ok-push-in-Axiom-clause-flattened
append-returns-in_ok-push-in-Axiom-clause-flattened g t c =
    let number = length c.items.result.now + 1 in
    let line : PlainLine = record { number = number; sequent = c.in_ok-sequent-in-Axiom.sequent; reason = Axiom } in
    axiom_flattened g.row.N c.args.d.now c.args.lines.now c.push.new.self line c.in-Axiom.conclusion number c.in-Axiom.is c.in_ok-push-in-Axiom.ensures.ok (ap (λ lines. length lines + 1) c.items.ensures) refl c.in_ok-sequent-in-Axiom.ensures refl

pub append-returns-in_ok-push-in-Step-clause-flattened : goal.append-returns-in_ok-push-in-Step-clause-flattened
append-returns-in_ok-push-in-Step-clause-flattened g t c =
    let before = c.append_all.new.lines in
    let cited = c.in_ok-premises-in-Step.premises in
    let number = length c.items-in-Step-2.result.now + 1 in
    let line : PlainLine = record { number = number; sequent = c.in_ok-sequent-in-Step.sequent; reason = ByRule c.in-Step.rule c.in_ok-principal-in-Step.principal cited } in
    let Flattened : List Tree → Type 0 = λ ds. AreFlattened g.row.N ds c.args.lines.now before cited in
    step_flattened g.row.N c.args.d.now c.args.lines.now before c.push-in-Step.new.self line c.in-Step.conclusion c.in-Step.rule c.in-Step.principal c.in-Step.premises cited number c.in-Step.is
    (subst Flattened c.items-in-Step.ensures c.in_ok-premises-in-Step.ensures.flattened) c.in_ok-push-in-Step.ensures.ok (ap (λ lines. length lines + 1) c.items-in-Step-2.ensures) refl c.in_ok-sequent-in-Step.ensures
    (ap (λ f. ByRule c.in-Step.rule f cited) c.in_ok-principal-in-Step.ensures)

pub append_all-loop-d-init : goal.append_all-loop-d-init
append_all-loop-d-init g t c =
    let Flattened : List Cited → Type 0 = AreFlattened g.row.N [] c.args.lines.now c.args.lines.now in
    record { flattened = subst Flattened (sym c.new-cited.ensures) (none_flattened g.row.N c.args.lines.now); kept = kept_here c.args.lines.now }

pub append_all-loop-d-preserved : goal.append_all-loop-d-preserved
append_all-loop-d-preserved g t c =
    let item : Cited = record { line = c.in_ok-line.line; terms = c.new.result } in
    let at = c.loop-d.d-index in
    let Flattened : List Cited → Type 0 = AreFlattened g.row.N (take (at + 1) c.args.derivations.now) c.args.lines.now c.append.new.lines in
    record {
      flattened = subst Flattened (sym c.in_ok-push.ensures.ok)
          (more_flattened g.row.N c.args.derivations.now at c.d-item.result c.args.lines.now c.loop-d.lines c.append.new.lines c.loop-d.cited item c.loop-d-test.true c.d-item.is c.loop-d.invariant.flattened c.in_ok-line.ensures.flattened c.new.ensures);
      kept = kept_on c.args.lines.now c.loop-d.lines c.append.new.lines c.loop-d.invariant.kept c.append.ensures.kept;
    }
