use Rattle.std.proofs.Common.{length, ap}
use Rattle.lgc_tokens.specs.Spelled.{spelled_all, place_of}
use Rattle.lgc_tokens.proofs.Stops.{left_over}
use Rattle.lgc_inputs.specs.Told.{told_of}
use Rattle.lgc_rules.specs.RuleReading.{rules_at}
use Rattle.lgc_rules.proofs.file.rules_of.Goals as goal

pub returns-in-Ok : goal.returns-in-Ok
returns-in-Ok g c = rw (c.fault_at.ensures, c.place.ensures) (ap (told_of place_of (length c.args.bytes.now)) (left_over (rules_at g.row.N c.args.m.now) _ _ c.args.bytes.now _ c.in-Ok.len_at_least c.in-Ok.ensures.gives))
