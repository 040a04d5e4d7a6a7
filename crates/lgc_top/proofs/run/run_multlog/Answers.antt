-- How a run ends says all that is promised of it.
use Rattle.lgc_top.proofs.Promises.{kept}
use Rattle.lgc_top.proofs.run.run_multlog.Goals as goal

pub returns : goal.returns
returns g c = kept _ _ c.run_words.ensures
