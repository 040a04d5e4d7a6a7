use Rattle.lgc_inputs.proofs.Places.{told_left}
use Rattle.lgc_formulas.specs.Named.{named_all}
use Rattle.lgc_formulas.specs.Setting.{setting_of}
use Rattle.lgc_formulas.specs.FormulaTexts.{named_place}
use Rattle.lgc_formulas.proofs.NamedTokens.{length-named, named_drop}
use Rattle.lgc_queries.specs.QueryReading.{query_here_at}
use Rattle.lgc_queries.proofs.QueryPlaces.{query_splits}
use Rattle.lgc_queries.proofs.place.query_behind.Goals as goal

pub returns-in-Ok-clause-exact : goal.returns-in-Ok-clause-exact
returns-in-Ok-clause-exact g c = told_left named_place (named_all c.args.c.now.m.now c.args.c.now.bytes.now) (length-named c.args.c.now.m.now c.args.c.now.bytes.now) (named_drop c.args.c.now.m.now c.args.c.now.bytes.now) (query_here_at (setting_of c.args.c.now) c.args.many) (query_splits (setting_of c.args.c.now) c.args.many) _ c.args.tokens.now c.in-Ok.rest.now _ c.in-Ok.ensures.gives
