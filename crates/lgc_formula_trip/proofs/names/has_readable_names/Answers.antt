-- The names in what is read are readable.
use Rattle.std.proofs.Common.{◌∙◌}
use Rattle.lgc_formula_trip.proofs.ReadFormulas.{read_is_writable}
use Rattle.lgc_formula_trip.proofs.names.has_readable_names.Goals as goal

pub returns-clause-read : goal.returns-clause-read
returns-clause-read g c = λ bytes text. let w = read_is_writable c.args.m.now bytes c.args.f.now text in c.is_readable.ensures ∙ w.named
