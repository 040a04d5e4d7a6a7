-- What is written is read back.
use Rattle.std.proofs.Common.{◌≡◌, ℕ, List, ◌++◌, sym, ap, subst, ◌∙◌}
use Rattle.lgc_queries.specs.QueryText.{query_text}
use Rattle.lgc_query_trip.specs.QueryReadBack.{IsReadAsQuery, IsReadAsFile}
use Rattle.lgc_query_trip.proofs.WholeQueries.{query_read_back, file_read_back}
use Rattle.lgc_query_trip.proofs.text.text_of_query.Goals as goal

pub returns-clause-read_back : goal.returns-clause-read_back
returns-clause-read_back g c =
    let text : List ℕ = query_text c.args.m.now c.args.q.now in
    let is : c.write_query.new.into.items ≡ text = ◌∙◌ {A = List ℕ} c.in_ok-write_query.ensures.put (ap (λ old. old ++ text) c.new-text.ensures.items) in
    subst (λ bytes. IsReadAsQuery c.args.m.now bytes c.args.q.now) (sym is) (query_read_back c.args.m.now c.args.q.now c.names-names.ensures.logic c.requires)

pub returns-clause-file : goal.returns-clause-file
returns-clause-file g c =
    let text : List ℕ = query_text c.args.m.now c.args.q.now in
    let is : c.write_query.new.into.items ≡ text = ◌∙◌ {A = List ℕ} c.in_ok-write_query.ensures.put (ap (λ old. old ++ text) c.new-text.ensures.items) in
    subst (λ bytes. IsReadAsFile c.args.m.now bytes c.args.q.now) (sym is) (file_read_back c.args.m.now c.args.q.now c.names-names.ensures.logic c.requires)
