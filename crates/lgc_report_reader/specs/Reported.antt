-- Tokens as the grammar of reports sees them.
use Rattle.std.specs.Prelude.{codes, ℕ, ◌&&◌, ◌||◌, not, Bool, false, List, [], ◌∷◌, Option, Some, None, Result, Ok, Err}
use Rattle.std.specs.List.{list_any}
use Rattle.std.specs.Str.{bytes_eq}
use Rattle.lgc_grammar.specs.Grammar.{Why, fault_if}
use Rattle.lgc_grammar.specs.Reading.{next_is}
use Rattle.lgc_lexer.specs.declared.token.Token.{Token}
use Rattle.lgc_syntax.specs.declared.fault.TheConstants.{UNEXPECTED}
use Rattle.lgc_syntax.specs.declared.formula.Formula.{Formula}
use Rattle.lgc_syntax.specs.Equality.{same_formula}
use Rattle.lgc_tokens.specs.declared.class.Class.{Class}
use Rattle.lgc_tokens.specs.declared.class.Class.TheVariants.{Number, Caret, OpenRound}
use Rattle.lgc_tokens.specs.Numbers.{number_of}
use Rattle.lgc_tokens.specs.Spelled.{Spelled, spelled_all, place_of}
use Rattle.lgc_tokens.specs.Classes as tokens
use Rattle.lgc_formulas.specs.declared.context.Context.{Context}
use Rattle.lgc_formulas.specs.declared.formula.Read.{Read}
use Rattle.lgc_formulas.specs.declared.formula.TheConstants.{MOST_NODES}
use Rattle.lgc_formulas.specs.Named as formulas
use Rattle.lgc_formulas.specs.Named.{Named, named, named_all}
use Rattle.lgc_formulas.specs.Setting.{Setting, setting_of, numbered}
use Rattle.lgc_formulas.specs.FormulaReading.{one_formula_at}

-- ---- tokens

-- A token as the logic knows it, whether the one behind it is a Symbol ^ or a (, and the longest formula that begins with it, if one does.
-- What is behind a token counts at two places, and there the grammar asks the token for it. A claim that begins with the keyword of a query
-- is one on a sequent where such a sign is behind the keyword, which is then the name of a predicate or of an operator. And an atom that
-- was listed before has its fault at its first token.
pub record Reported : Type 0 where
  pub named : Named
  pub names_formula : Bool
  pub formula_here : Option Formula

-- a sign that may stand behind the first name of a formula in a sequent
abbrev pub follows_name : Spelled → Bool
follows_name t = tokens.is Caret t || tokens.is OpenRound t

-- the formula that was read, where one was
abbrev pub formula_read : Result (Read × List Named) (List Named × Why) → Option Formula
formula_read (Ok x) = Some x.0.formula
formula_read (Err e) = None

-- the longest formula with which the tokens begin
abbrev pub formula_first : Setting → List Named → Option Formula
formula_first s ts = formula_read (one_formula_at s MOST_NODES ts)

-- a token before others, read against a setting
abbrev pub reported : Setting → List ℕ → Token → List Token → Reported
reported s bytes t rest = record {
  named = named s.logic bytes t rest;
  names_formula = next_is follows_name (spelled_all bytes rest);
  formula_here = formula_first s (named_all s.logic bytes (t ∷ rest));
}

abbrev pub reported_all : Setting → List ℕ → List Token → List Reported
reported_all s bytes [] = []
reported_all s bytes (t ∷ rest) = reported s bytes t rest ∷ reported_all s bytes rest

-- tokens as the code sees them
abbrev pub reports : {n : ℕ} → Context n → List Token → List Reported
reports c ts = reported_all (setting_of c) c.bytes.now ts

-- the token without what the logic knows of it
abbrev pub spelled_of : Reported → Spelled
spelled_of t = t.named.spelled

-- the offset of the token
abbrev pub reported_place : Reported → ℕ
reported_place t = place_of (spelled_of t)

-- the number that a token writes
abbrev pub number : Reported → ℕ
number t = number_of t.named.spelled.text

-- ---- tests of tokens

abbrev pub is : Class → Reported → Bool
is c t = tokens.same c (tokens.class_of t.named.spelled)

-- the number of a rule or of a claim
abbrev pub is_number : Reported → Bool
is_number t = tokens.is_number t.named.spelled

-- the number of a line
abbrev pub is_position : Reported → Bool
is_position t = tokens.is_long_number t.named.spelled

-- the number of this version of reports
abbrev pub is_version : Reported → Bool
is_version t = is Number t && bytes_eq t.named.spelled.text (codes "1")

-- what a formula begins with
abbrev pub starts_formula : Setting → Reported → Bool
starts_formula s t = formulas.starts_formula (numbered s) t.named

-- the name of a predicate
abbrev pub is_predicate : Reported → Bool
is_predicate t = formulas.is_predicate t.named

-- what a claim on a query begins with
abbrev pub starts_query : Reported → Bool
starts_query t = tokens.starts_query t.named.spelled && not t.names_formula

-- what a claim on a sequent begins with
abbrev pub starts_sequent : Setting → Reported → Bool
starts_sequent s t = starts_formula s t && not (starts_query t)

-- ---- entries of valuations

-- the formula stands in one of the entries
abbrev pub is_listed : List (Formula × ℕ) → Formula → Bool
is_listed entries f = list_any (λ entry. same_formula f entry.0) entries

-- a formula that begins here stands in one of the entries
abbrev pub lists_here : List (Formula × ℕ) → Option Formula → Bool
lists_here entries None = false
lists_here entries (Some f) = is_listed entries f

-- An atom that was listed before has no place there.
abbrev pub entry_fault : List (Formula × ℕ) → Reported → Option ℕ
entry_fault entries t = fault_if (lists_here entries t.formula_here) UNEXPECTED
