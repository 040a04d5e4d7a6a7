use Rattle.std.proofs.Common.{length, arith}
use Rattle.lgc_inputs.proofs.Places.{told_moved, same_back, fault_moved}
use Rattle.lgc_formulas.specs.Named.{named_all}
use Rattle.lgc_formulas.specs.Setting.{setting_of}
use Rattle.lgc_formulas.specs.FormulaTexts.{named_place}
use Rattle.lgc_formulas.proofs.NamedTokens.{length-named, named_drop}
use Rattle.lgc_queries.specs.QueryReading.{query_here_at}
use Rattle.lgc_queries.proofs.QueryPlaces.{query_splits}
use Rattle.lgc_queries.proofs.place.query_from.Goals as goal

pub returns-in-Ok-clause-exact : goal.returns-in-Ok-clause-exact
returns-in-Ok-clause-exact g c = told_moved named_place (named_all c.args.c.now.m.now c.args.c.now.bytes.now) (length-named c.args.c.now.m.now c.args.c.now.bytes.now) (named_drop c.args.c.now.m.now c.args.c.now.bytes.now) (query_here_at (setting_of c.args.c.now) c.args.many) (query_splits (setting_of c.args.c.now) c.args.many) (length c.args.c.now.bytes.now) c.args.tokens.now _ c.args.at c.requires.at c.split_at.ensures.back _ c.in-Ok.left (omega (arith, c.in-Ok.ensures.within)) c.in-Ok.ensures.exact

pub returns-in-Err-clause-exact : goal.returns-in-Err-clause-exact
returns-in-Err-clause-exact g c = fault_moved c.in-Err.fault _ _ (same_back named_place (named_all c.args.c.now.m.now c.args.c.now.bytes.now) (length-named c.args.c.now.m.now c.args.c.now.bytes.now) (named_drop c.args.c.now.m.now c.args.c.now.bytes.now) (query_here_at (setting_of c.args.c.now) c.args.many) (query_splits (setting_of c.args.c.now) c.args.many) (length c.args.c.now.bytes.now) c.args.tokens.now _ c.args.at c.requires.at c.split_at.ensures.back) c.in-Err.ensures.exact
