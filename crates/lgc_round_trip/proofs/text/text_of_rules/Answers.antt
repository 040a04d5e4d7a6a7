use Rattle.std.proofs.Common.{sym, subst}
use Rattle.std.proofs.Common.{Result, Ok, Err}
use Rattle.std.specs.Prelude.{IfOk}
use Rattle.lgc_round_trip.specs.RoundTrip.{IsTextOf}
use Rattle.lgc_round_trip.proofs.RulePhrases.{read_back, file_back}
use Rattle.lgc_round_trip.proofs.text.text_of_rules.Goals as goal

if_ok : {X E : Type 0} (P Q : X → Type 0) → ((x : X) → P x → Q x) → (r : Result X E) → IfOk r P → IfOk r Q
if_ok P Q gives (Ok x) h = gives x h
if_ok P Q gives (Err e) h = tt

pub returns-clause-read : goal.returns-clause-read
returns-clause-read g c =
    let logic = c.names-names.ensures.logic in
    let text = read_back g.row.N c.args.m.now c.args.rules.now logic c.names-names.ensures.size c.requires.fits c.requires.sets c.requires.few in
    if_ok _ _ (λ bytes e. subst (λ t. IsTextOf g.row.N c.args.m.now t c.args.rules.now) (sym e) text) c.calculus_text.result c.calculus_text.ensures

pub returns-clause-file : goal.returns-clause-file
returns-clause-file g c =
    let logic = c.names-names.ensures.logic in
    let text = read_back g.row.N c.args.m.now c.args.rules.now logic c.names-names.ensures.size c.requires.fits c.requires.sets c.requires.few in
    if_ok _ _ (λ bytes e short. file_back g.row.N c.args.m.now bytes.items c.args.rules.now (subst (λ t. IsTextOf g.row.N c.args.m.now t c.args.rules.now) (sym e) text) short) c.calculus_text.result c.calculus_text.ensures
