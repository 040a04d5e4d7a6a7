use Rattle.std.proofs.Common.{sym, ◌∙◌}
use Rattle.std.proofs.lemmas.Result.{err_from_is_err_and}
use Rattle.lgc_formulas.specs.Setting.{setting_of}
use Rattle.lgc_report_reader.proofs.EntryAtoms.{atom_read, atom_listed, atom_fails, atom_is}
use Rattle.lgc_report_reader.proofs.entry.unlisted_atom.Goals as goal

pub returns-in_err-read-clause-gives : goal.returns-in_err-read-clause-gives
returns-in_err-read-clause-gives g c =
    let p = err_from_is_err_and c.from_residual.result c.from_residual.ensures.1 in
    rw (p.1, p.2) (atom_fails g.row.N (setting_of c.args.c.now) c.args.c.now.bytes.now c.args.entries.now c.args.tokens.now _ c.requires.name c.in_err-read.ensures.gives)

pub returns-then-is_listed-clause-gives : goal.returns-then-is_listed-clause-gives
returns-then-is_listed-clause-gives g c = atom_listed g.row.N (setting_of c.args.c.now) c.args.c.now.bytes.now c.args.entries.now c.args.tokens.now _ _ c.requires.name c.in_ok-read.ensures.gives (sym c.is_listed.ensures ∙ c.if-is_listed.true)

pub returns-clause-gives : goal.returns-clause-gives
returns-clause-gives g c = atom_read g.row.N (setting_of c.args.c.now) c.args.c.now.bytes.now c.args.entries.now c.args.tokens.now _ _ c.requires.name c.in_ok-read.ensures.gives (sym c.is_listed.ensures ∙ c.if-is_listed.false)

pub returns-clause-atom : goal.returns-clause-atom
returns-clause-atom g c = atom_is g.row.N (setting_of c.args.c.now) c.args.c.now.bytes.now c.args.entries.now c.args.tokens.now _ _ c.requires.name c.in_ok-read.ensures.gives
