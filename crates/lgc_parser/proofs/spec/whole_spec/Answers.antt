use Rattle.lgc_tokens.specs.Spelled.{spelled_all}
use Rattle.lgc_parser.specs.SpecReading.{spec_at}
use Rattle.lgc_tokens.proofs.Stops.{left_over}
use Rattle.lgc_parser.proofs.spec.whole_spec.Goals as goal

pub returns-in-Ok : goal.returns-in-Ok
returns-in-Ok c =
    let bytes = c.args.bytes.now in
    (spelled_all bytes c.in-Ok.rest.now, left_over spec_at _ _ bytes c.in-Ok.rest.now c.in-Ok.len_at_least c.in-Ok.ensures.gives, c.place.ensures)
