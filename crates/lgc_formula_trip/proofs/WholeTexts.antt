-- The text of a formula or of a term, with nothing around it, has tokens from which the grammar derives the same.
use Rattle.std.proofs.Common.{ℕ, ◌-◌, ◌≤◌, false, List, [], ◌++◌, length, refl, ap, subst, ◌∙◌, append-nil, arith}
use Rattle.std.specs.Prelude.{map}
use Rattle.lgc_grammar.specs.Grammar.{Grammar}
use Rattle.lgc_lexer.specs.declared.token.Token.{Token}
use Rattle.lgc_values.specs.Logic.{Logic, IsLogic}
use Rattle.lgc_syntax.specs.declared.formula.Term.{Term}
use Rattle.lgc_syntax.specs.declared.formula.Formula.{Formula}
use Rattle.lgc_syntax.specs.Sizes.{term_nodes, nodes}
use Rattle.lgc_tokens.specs.Spelled.{spelled_all}
use Rattle.lgc_inputs.specs.Texts.{IsTextOf}
use Rattle.lgc_print.specs.FormulaText.{term_text, formula_text}
use Rattle.lgc_formulas.specs.declared.formula.TheConstants.{MOST_DEPTH, MOST_NODES}
use Rattle.lgc_formulas.specs.Named.{named_all}
use Rattle.lgc_formulas.specs.Setting.{Setting, numbered}
use Rattle.lgc_formulas.specs.TermGrammar.{OneTerm}
use Rattle.lgc_formulas.specs.FormulaGrammar.{as_whole, OneFormula, WholeFormula}
use Rattle.lgc_formulas.specs.FormulaTexts.{text_setting, TextFormula, LoneTerm}
use Rattle.lgc_round_trip.proofs.Lexing.{Lexes, words_in, lex_end, lexes_whole}
use Rattle.lgc_formulas.specs.Writable.{IsWritableTerm, IsWritable}
use Rattle.lgc_formula_trip.specs.ReadBack.{IsReadAsFormula, IsReadAsTerm}
use Rattle.lgc_formula_trip.proofs.Cuts.{Lexeme, lexeme_of, EndsWord}
use Rattle.lgc_formula_trip.proofs.Written.{Are, Written, written_mapped}
use Rattle.lgc_formula_trip.proofs.Tokens.{SpelledAs, NamedAs, spelled_are, named_are}
use Rattle.lgc_formula_trip.proofs.WritableLaws.{closed_fits}
use Rattle.lgc_formula_trip.proofs.TermTexts.{TermWritten, term_written}
use Rattle.lgc_formula_trip.proofs.FormulaTexts.{MayStand, FormulaWritten, formula_written}

-- Where so many nodes are left, and quantifiers may stand if there are some.
pub one_formula_written : (s : Setting) (many : ℕ) (f : Formula) → IsLogic s.logic → IsWritable s.logic (numbered s) many f → MayStand s f → Written (NamedAs s.logic) EndsWord (OneFormula s many) (as_whole f (many - nodes f)) (formula_text s.logic f)
unfolding FormulaWritten
one_formula_written s many f is w may = formula_written s is f 0 w.fits w.named may MOST_DEPTH (many - nodes f) many (omega (arith, w.shallow)) w.shallow (omega (arith, w.small))

pub one_term_written : (many : ℕ) (t : Term) → IsWritableTerm false many t → Written SpelledAs EndsWord (OneTerm many) (t, many - term_nodes t) (term_text t 0)
unfolding TermWritten
one_term_written many t w = term_written false 0 (omega arith) t (closed_fits 0 t w.closed) w.named MOST_DEPTH (many - term_nodes t) many w.shallow (omega (arith, w.small))

-- a text with nothing around it, where `see` says what a grammar sees of tokens
pub whole_text : {S A : Type 0} (R : S → Lexeme → Type 0) (see : List ℕ → List Token → List S) → ((bytes : List ℕ) (ts : List Token) → Are R (see bytes ts) (map lexeme_of (words_in bytes ts))) → (L : Grammar S A) (a : A) (text : List ℕ) → Written R EndsWord L a text → (limit : ℕ) → length text ≤ limit → IsTextOf (see text) L limit text a
whole_text R see are L a text w limit short =
    let begins = w.cut.cuts [] [] tt lex_end in
    let lexes : Lexes text begins.words = subst (λ t. Lexes t begins.words) (append-nil text) (subst (λ ws. Lexes (text ++ []) ws) (append-nil begins.words) begins.lexes) in
    let (tokens, cut, seen) = lexes_whole text begins.words lexes in
    record {
      short = short;
      tokens = tokens;
      lexed = cut;
      derived = w.derives (see text tokens) (subst (λ ls. Are R (see text tokens) ls) (ap (map lexeme_of) seen ∙ begins.seen) (are text tokens));
    }

pub formula_read_back : (logic : Logic) (f : Formula) → IsLogic logic → IsWritable logic false MOST_NODES f → IsReadAsFormula logic (formula_text logic f) f
formula_read_back logic f is w =
    let s : Setting = text_setting logic in
    let one = one_formula_written s MOST_NODES f is w (λ some. refl) in
    whole_text (NamedAs logic) (named_all logic) (named_are logic) (TextFormula logic) f (formula_text logic f)
    (written_mapped (NamedAs logic) EndsWord (λ x. x.formula) (WholeFormula s MOST_NODES) (as_whole f (MOST_NODES - nodes f)) f (formula_text logic f) refl
    (record { lexemes = one.lexemes; cut = one.cut; derives = λ ts are. (refl, one.derives ts are) }))

pub term_read_back : (t : Term) → IsWritableTerm false MOST_NODES t → IsReadAsTerm (term_text t 0) t
term_read_back t w =
    whole_text SpelledAs spelled_all spelled_are LoneTerm t (term_text t 0)
    (written_mapped SpelledAs EndsWord (λ x. x.0) (OneTerm MOST_NODES) (t, MOST_NODES - term_nodes t) t (term_text t 0) refl (one_term_written MOST_NODES t w))
