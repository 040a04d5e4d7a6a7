use Rattle.std.proofs.Common.{◌≡◌, ◌<◌, ◌^◌, length, arith, ◌∙◌}
use Rattle.std.proofs.lemmas.List.{take_at}
use Rattle.lgc_spec.proofs.MappingEnds.{mapping_misses, mapping_tells}
use Rattle.lgc_spec.proofs.mapping.mapping_given.Goals as goal

pub pow-count-requires : goal.pow-count-requires
pow-count-requires c = rw c.from.ensures (omega (arith, c.requires.short))

pub overflow_cast-index : goal.overflow_cast-index
overflow_cast-index c =
    let size : length c.put_rows.new.table ≡ c.in_ok-table.table.len = c.put_rows.auto.table ∙ c.deref_mut.ensures.len in
    let same : c.deref.result.now ≡ c.put_rows.new.table = c.deref.ensures.value ∙ take_at c.put_rows.new.table _ c.in_ok-table.table.len size in
    let within : c.in-Some.index < length c.put_rows.new.table = (rw same at c.in-Some.ensures).0 in
    let whole : length c.put_rows.new.table ≡ length c.args.names.now ^ c.args.arity = c.in_ok-put_rows.ensures.rows.size in
    omega (arith, c.requires.short)

pub returns-in-Some : goal.returns-in-Some
returns-in-Some c =
    let size : length c.put_rows.new.table ≡ c.in_ok-table.table.len = c.put_rows.auto.table ∙ c.deref_mut.ensures.len in
    let same : c.deref.result.now ≡ c.put_rows.new.table = c.deref.ensures.value ∙ take_at c.put_rows.new.table _ c.in_ok-table.table.len size in
    let first = rw same at c.in-Some.ensures in
    rw (c.keeping.ensures, c.in_ok-arguments.ensures)
    (mapping_misses c.args.bytes.now c.args.names.now c.args.arity c.args.rows.now c.args.close c.put_rows.new.table c.in-Some.index (omega arith) c.requires.few c.in_ok-put_rows.ensures.fault c.in_ok-put_rows.ensures.rows first.0 first.1 first.2)

pub returns : goal.returns
returns c =
    let size : length c.put_rows.new.table ≡ c.in_ok-table.table.len = c.put_rows.auto.table ∙ c.deref_mut.ensures.len in
    let same : c.deref.result.now ≡ c.put_rows.new.table = c.deref.ensures.value ∙ take_at c.put_rows.new.table _ c.in_ok-table.table.len size in
    let table : c.of_vec.result ≡ c.put_rows.new.table = c.of_vec.ensures ∙ take_at c.put_rows.new.table _ c.in_ok-table.table.len size in
    rw table
    (mapping_tells c.args.bytes.now c.args.names.now c.args.arity c.args.rows.now c.args.close c.put_rows.new.table (omega arith) c.requires.few c.in_ok-put_rows.ensures.fault c.in_ok-put_rows.ensures.rows (rw same at c.in_default.ensures))
