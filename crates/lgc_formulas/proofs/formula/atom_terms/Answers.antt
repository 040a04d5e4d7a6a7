use Rattle.std.proofs.Common.{sym}
use Rattle.lgc_formulas.specs.Scopes.{names_of}
use Rattle.lgc_formulas.specs.FormulaReading.{atom_terms_at}
use Rattle.lgc_formulas.proofs.NamedTokens.{seen_gives}
use Rattle.lgc_formulas.proofs.TermReads.{term_reads, terms_read}
use Rattle.lgc_formulas.proofs.formula.atom_terms.Goals as goal

pub returns-clause-gives : goal.returns-clause-gives
unfolding atom_terms_at
returns-clause-gives g c = rw (sym c.is_numbered.ensures) (seen_gives c.args.c.now.m.now c.args.c.now.bytes.now (terms_read (term_reads c.is_numbered.result (names_of c.args.scope.now) c.args.deep) c.args.many) c.args.tokens.now _ _ _ c.terms_in.ensures.gives)
