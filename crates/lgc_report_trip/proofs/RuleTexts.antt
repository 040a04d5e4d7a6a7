-- Rules are printed, with any number.
use Rattle.std.proofs.Common.{◌≡◌, ℕ, false, List, [], ◌∷◌, ◌++◌, length, append-nil, arith}
use Rattle.std.specs.Prelude.{codes}
use Rattle.lgc_grammar.specs.Grammar.{Grammar, One, Nothing, Then, Either}
use Rattle.lgc_values.specs.Logic.{Logic, IsLogic}
use Rattle.lgc_syntax.specs.declared.fault.TheConstants.{MISNUMBERED}
use Rattle.lgc_clauses.specs.Rules.{PlainRule}
use Rattle.lgc_clauses.specs.Kinds.{plain_rule}
use Rattle.lgc_clauses.specs.declared.rule.Rule.{Rule}
use Rattle.lgc_clauses.specs.declared.rule.Numbered.{Numbered}
use Rattle.lgc_tokens.specs.declared.number.TheConstants.{MOST_NUMBER}
use Rattle.lgc_tokens.specs.declared.class.Class.TheVariants.{Colon}
use Rattle.lgc_tokens.specs.Spelled.{Spelled}
use Rattle.lgc_tokens.specs.Classes.{is as is_of, is_number}
use Rattle.lgc_print.specs.Text.{rule_text}
use Rattle.lgc_grammar.specs.Seen.{Seen}
use Rattle.lgc_formulas.specs.Setting.{Setting}
use Rattle.lgc_rules.specs.RuleGrammar.{NumberFrom, OfOperator, OfQuantifier, OneRule}
use Rattle.lgc_formulas.specs.FormulaTexts.{text_setting}
use Rattle.lgc_report.specs.Reports.{FitsRule, plain_numbered}
use Rattle.lgc_report_reader.specs.Reported.{spelled_of}
use Rattle.lgc_round_trip.specs.RoundTrip.{HasSets}
use Rattle.lgc_round_trip.proofs.Lexing.{Word}
use Rattle.lgc_round_trip.proofs.Pieces.{plain, sign}
use Rattle.lgc_round_trip.proofs.Deriving.{Derives, derive_then, derive_skip, derive_nothing, derive_words}
use Rattle.lgc_round_trip.proofs.Printing.{numeral}
use Rattle.lgc_round_trip.proofs.Texts.{head_words, body_words, rule_words, rule_prints_as}
use Rattle.lgc_round_trip.proofs.Classes.{is_rule, is_colon, numeral_passes}
use Rattle.lgc_round_trip.proofs.ClausePhrases.{number_derives}
use Rattle.lgc_round_trip.proofs.RulePhrases.{of_symbol_derives, printable}
use Rattle.lgc_report_trip.specs.WellFormed.{IsNumber, IsWellFormedRule}
use Rattle.lgc_report_trip.proofs.Printed.{EndsSign, Printed, printed_words}

module _ (n : ℕ) (logic : Logic) (is_logic : IsLogic logic) (size : length logic.names ≡ n) where
  abbrev s : Setting
  s = text_setting logic

  abbrev OfSymbol : Grammar Spelled (Rule n)
  OfSymbol = Either (OfOperator n logic) (OfQuantifier n logic)

  abbrev numbered : ℕ → Rule n → Numbered n
  numbered k rule = record { number = k; rule = rule }

  -- the words of a rule are one, whatever its number is
  rule_derives : (x : Numbered n) → IsNumber x.number → FitsRule logic (plain_rule x.rule) → HasSets n (plain_rule x.rule) → Derives (OneRule n logic 0 MOST_NUMBER) x (rule_words logic x.number (plain_rule x.rule))
  rule_derives x small fits sets =
      let k : ℕ = x.number in
      let words : List Word = head_words logic (plain_rule x.rule).head ++ body_words logic.names (plain_rule x.rule) in
      derive_skip _ _ x (plain (codes "rule") false) (numeral k false ∷ sign 58 ∷ words) is_rule
      (derive_then (NumberFrom 0 MOST_NUMBER MISNUMBERED is_number) (λ m. Then (One (is_of Colon)) (λ _. Then OfSymbol (λ y. Nothing (numbered m y)))) k x (numeral k false ∷ []) (sign 58 ∷ words) (number_derives 0 MOST_NUMBER MISNUMBERED k false is_number small (omega arith) (omega (arith, small)) (numeral_passes k false small))
      (derive_skip _ _ x (sign 58) words is_colon
      (derive_words _ x (words ++ []) words (append-nil words)
      (derive_then OfSymbol (λ y. Nothing (numbered k y)) x.rule x words [] (of_symbol_derives n logic is_logic size x.rule fits.fits sets) (derive_nothing x)))))

  pub rule_printed : (x : Numbered n) → FitsRule logic (plain_rule x.rule) → IsWellFormedRule n (plain_numbered x) → Printed s EndsSign (Seen spelled_of (OneRule n logic 0 MOST_NUMBER)) x (rule_text logic x.number (plain_rule x.rule))
  rule_printed x fits formed =
      let rule : PlainRule = plain_rule x.rule in
      let sets : HasSets n rule = record { some = fits.signed; sign = formed.sign; clauses = formed.clauses } in
      printed_words s (OneRule n logic 0 MOST_NUMBER) x (rule_text logic x.number rule) (rule_words logic x.number rule)
      (rule_prints_as logic x.number rule is_logic.plain (printable n logic is_logic size x.number rule formed.number fits.fits sets))
      (rule_derives x formed.number fits sets)
