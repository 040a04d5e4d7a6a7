-- The words and signs of reports, with the blanks around them: how each is cut, and which test its token passes.
use Rattle.std.proofs.Common.{◌≡◌, ℕ, true, List, [], ◌∷◌, ◌++◌, refl, ap}
use Rattle.std.specs.Prelude.{codes}
use Rattle.std.specs.Str.{bytes_eq}
use Rattle.lgc_lexer.specs.declared.token.Kind.TheVariants.{Lower, Symbol, Digits}
use Rattle.lgc_lexer.specs.Forms.{is_symbol}
use Rattle.lgc_lexer.specs.Tokens.{piece_of}
use Rattle.lgc_tokens.specs.declared.class.Class.TheVariants.{ReportWord, RuleWord, LineWord, ClaimWord, OnWord, ResolveWord, AxiomWord, PendingWord, EndWord, ByWord, FromWord, AtWord, ProvedWord, UnfinishedWord, RefutedWord, HoldsWord, Caret, OpenSquare, CloseSquare, OpenBrace, CloseBrace, Comma, Dot, Colon, Number}
use Rattle.lgc_tokens.specs.Numbers.{number_in}
use Rattle.lgc_tokens.specs.Classes.{same, class_of_word, class_of_punct}
use Rattle.lgc_print.specs.Text.{is_lower_word}
use Rattle.lgc_round_trip.proofs.Lexing.{begins_with, IsTaken, lex_token}
use Rattle.lgc_round_trip.proofs.Pieces.{FailsFirst, open_square_taken, close_square_taken}
use Rattle.lgc_formula_trip.proofs.Cuts.{Lexeme, lexeme, sign, Anything, EndsWord, Cut, cut_word, cut_sign, cut_comma}
use Rattle.lgc_formula_trip.proofs.Tokens.{by_class, cut_lower, is_comma}
use Rattle.lgc_query_trip.proofs.Signs.{cut_before_blank, cut_behind_blank, cut_spaced_comma, cut_spaced_colon, cut_ending_dot, cut_open_brace, cut_close_brace, is_open_brace, is_close_brace, is_colon, is_dot}
use Rattle.lgc_report_reader.specs.Reported.{spelled_of, is, is_version}
use Rattle.lgc_report_trip.proofs.Printed.{IsSign}

-- ---- words

abbrev word_lexeme : List ℕ → Lexeme
word_lexeme word = lexeme Lower word

cut_keyword : (word : List ℕ) → is_lower_word word ≡ true → Cut Anything (word ++ 32 ∷ []) (word_lexeme word ∷ [])
cut_keyword word lower = cut_before_blank EndsWord word (word_lexeme word ∷ []) (λ rest. refl) (cut_lower word lower)

-- with a blank behind them

pub report_word : IsSign Anything (is ReportWord) (codes "report ")
unfolding class_of_word
report_word = record { lexeme = word_lexeme (codes "report"); cut = cut_keyword (codes "report") refl; passes = λ t r. by_class (same ReportWord) (word_lexeme (codes "report")) (λ flag. refl) (spelled_of t) r }

pub rule_word : IsSign Anything (is RuleWord) (codes "rule ")
unfolding class_of_word
rule_word = record { lexeme = word_lexeme (codes "rule"); cut = cut_keyword (codes "rule") refl; passes = λ t r. by_class (same RuleWord) (word_lexeme (codes "rule")) (λ flag. refl) (spelled_of t) r }

pub line_word : IsSign Anything (is LineWord) (codes "line ")
unfolding class_of_word
line_word = record { lexeme = word_lexeme (codes "line"); cut = cut_keyword (codes "line") refl; passes = λ t r. by_class (same LineWord) (word_lexeme (codes "line")) (λ flag. refl) (spelled_of t) r }

pub claim_word : IsSign Anything (is ClaimWord) (codes "claim ")
unfolding class_of_word
claim_word = record { lexeme = word_lexeme (codes "claim"); cut = cut_keyword (codes "claim") refl; passes = λ t r. by_class (same ClaimWord) (word_lexeme (codes "claim")) (λ flag. refl) (spelled_of t) r }

pub on_word : IsSign Anything (is OnWord) (codes "on ")
unfolding class_of_word
on_word = record { lexeme = word_lexeme (codes "on"); cut = cut_keyword (codes "on") refl; passes = λ t r. by_class (same OnWord) (word_lexeme (codes "on")) (λ flag. refl) (spelled_of t) r }

pub resolve_word : IsSign Anything (is ResolveWord) (codes "resolve ")
unfolding class_of_word
resolve_word = record { lexeme = word_lexeme (codes "resolve"); cut = cut_keyword (codes "resolve") refl; passes = λ t r. by_class (same ResolveWord) (word_lexeme (codes "resolve")) (λ flag. refl) (spelled_of t) r }

pub by_word : IsSign Anything (is ByWord) (codes "by ")
unfolding class_of_word
by_word = record { lexeme = word_lexeme (codes "by"); cut = cut_keyword (codes "by") refl; passes = λ t r. by_class (same ByWord) (word_lexeme (codes "by")) (λ flag. refl) (spelled_of t) r }

pub at_word : IsSign Anything (is AtWord) (codes "at ")
unfolding class_of_word
at_word = record { lexeme = word_lexeme (codes "at"); cut = cut_keyword (codes "at") refl; passes = λ t r. by_class (same AtWord) (word_lexeme (codes "at")) (λ flag. refl) (spelled_of t) r }

-- with a blank before and behind them

pub spaced_by : IsSign Anything (is ByWord) (codes " by ")
unfolding class_of_word
spaced_by = record { lexeme = word_lexeme (codes "by"); cut = cut_behind_blank Anything (codes "by ") (word_lexeme (codes "by") ∷ []) (cut_keyword (codes "by") refl); passes = λ t r. by_class (same ByWord) (word_lexeme (codes "by")) (λ flag. refl) (spelled_of t) r }

pub spaced_on : IsSign Anything (is OnWord) (codes " on ")
unfolding class_of_word
spaced_on = record { lexeme = word_lexeme (codes "on"); cut = cut_behind_blank Anything (codes "on ") (word_lexeme (codes "on") ∷ []) (cut_keyword (codes "on") refl); passes = λ t r. by_class (same OnWord) (word_lexeme (codes "on")) (λ flag. refl) (spelled_of t) r }

pub spaced_from : IsSign Anything (is FromWord) (codes " from ")
unfolding class_of_word
spaced_from = record { lexeme = word_lexeme (codes "from"); cut = cut_behind_blank Anything (codes "from ") (word_lexeme (codes "from") ∷ []) (cut_keyword (codes "from") refl); passes = λ t r. by_class (same FromWord) (word_lexeme (codes "from")) (λ flag. refl) (spelled_of t) r }

pub spaced_proved : IsSign Anything (is ProvedWord) (codes " proved ")
unfolding class_of_word
spaced_proved = record { lexeme = word_lexeme (codes "proved"); cut = cut_behind_blank Anything (codes "proved ") (word_lexeme (codes "proved") ∷ []) (cut_keyword (codes "proved") refl); passes = λ t r. by_class (same ProvedWord) (word_lexeme (codes "proved")) (λ flag. refl) (spelled_of t) r }

pub spaced_unfinished : IsSign Anything (is UnfinishedWord) (codes " unfinished ")
unfolding class_of_word
spaced_unfinished = record { lexeme = word_lexeme (codes "unfinished"); cut = cut_behind_blank Anything (codes "unfinished ") (word_lexeme (codes "unfinished") ∷ []) (cut_keyword (codes "unfinished") refl); passes = λ t r. by_class (same UnfinishedWord) (word_lexeme (codes "unfinished")) (λ flag. refl) (spelled_of t) r }

pub spaced_refuted : IsSign Anything (is RefutedWord) (codes " refuted ")
unfolding class_of_word
spaced_refuted = record { lexeme = word_lexeme (codes "refuted"); cut = cut_behind_blank Anything (codes "refuted ") (word_lexeme (codes "refuted") ∷ []) (cut_keyword (codes "refuted") refl); passes = λ t r. by_class (same RefutedWord) (word_lexeme (codes "refuted")) (λ flag. refl) (spelled_of t) r }

pub spaced_holds : IsSign Anything (is HoldsWord) (codes " holds ")
unfolding class_of_word
spaced_holds = record { lexeme = word_lexeme (codes "holds"); cut = cut_behind_blank Anything (codes "holds ") (word_lexeme (codes "holds") ∷ []) (cut_keyword (codes "holds") refl); passes = λ t r. by_class (same HoldsWord) (word_lexeme (codes "holds")) (λ flag. refl) (spelled_of t) r }

-- with no blank

pub axiom_word : IsSign EndsWord (is AxiomWord) (codes "axiom")
unfolding class_of_word
axiom_word = record { lexeme = word_lexeme (codes "axiom"); cut = cut_lower (codes "axiom") refl; passes = λ t r. by_class (same AxiomWord) (word_lexeme (codes "axiom")) (λ flag. refl) (spelled_of t) r }

pub pending_word : IsSign EndsWord (is PendingWord) (codes "pending")
unfolding class_of_word
pending_word = record { lexeme = word_lexeme (codes "pending"); cut = cut_lower (codes "pending") refl; passes = λ t r. by_class (same PendingWord) (word_lexeme (codes "pending")) (λ flag. refl) (spelled_of t) r }

pub end_word : IsSign EndsWord (is EndWord) (codes "end")
unfolding class_of_word
end_word = record { lexeme = word_lexeme (codes "end"); cut = cut_lower (codes "end") refl; passes = λ t r. by_class (same EndWord) (word_lexeme (codes "end")) (λ flag. refl) (spelled_of t) r }

-- ---- signs

pub comma : IsSign Anything (is Comma) (codes ",")
comma = record { lexeme = sign 44; cut = cut_comma; passes = λ t r. is_comma (spelled_of t) r }

pub spaced_comma : IsSign Anything (is Comma) (codes ", ")
spaced_comma = record { lexeme = sign 44; cut = cut_spaced_comma; passes = λ t r. is_comma (spelled_of t) r }

pub spaced_colon : IsSign Anything (is Colon) (codes ": ")
spaced_colon = record { lexeme = sign 58; cut = cut_spaced_colon; passes = λ t r. is_colon (spelled_of t) r }

pub ending_dot : IsSign Anything (is Dot) (codes ".\n")
ending_dot = record { lexeme = sign 46; cut = cut_ending_dot; passes = λ t r. is_dot (spelled_of t) r }

pub open_brace : IsSign Anything (is OpenBrace) (codes "{")
open_brace = record { lexeme = sign 123; cut = cut_open_brace; passes = λ t r. is_open_brace (spelled_of t) r }

pub close_brace : IsSign Anything (is CloseBrace) (codes "}")
close_brace = record { lexeme = sign 125; cut = cut_close_brace; passes = λ t r. is_close_brace (spelled_of t) r }

pub open_square : IsSign Anything (is OpenSquare) (codes "[")
unfolding class_of_punct
open_square = record { lexeme = sign 91; cut = cut_sign 91 open_square_taken; passes = λ t r. by_class (same OpenSquare) (sign 91) (λ flag. refl) (spelled_of t) r }

pub close_square : IsSign Anything (is CloseSquare) (codes "]")
unfolding class_of_punct
close_square = record { lexeme = sign 93; cut = cut_sign 93 close_square_taken; passes = λ t r. by_class (same CloseSquare) (sign 93) (λ flag. refl) (spelled_of t) r }

-- ---- the caret, where no symbol goes on

caret_taken : (rest : List ℕ) → FailsFirst is_symbol rest → IsTaken 94 rest Symbol 0
unfolding piece_of
caret_taken [] next = record { gives = λ at after. refl }
caret_taken (c ∷ rest) next = record { gives = λ at after. rw next refl }

pub caret : IsSign (FailsFirst is_symbol) (is Caret) (codes "^")
caret = record {
  lexeme = lexeme Symbol (codes "^");
  cut = record {
    cuts = λ rest more f l. record {
      words = record { kind = Symbol; text = codes "^"; before_caret = begins_with more } ∷ [];
      seen = refl;
      lexes = lex_token Symbol 94 [] (codes "^") rest more (begins_with more) (caret_taken rest f) (record { opening = []; closing = []; split = refl; left = refl; right = refl }) refl l;
    };
  };
  passes = λ t r. by_class (same Caret) (lexeme Symbol (codes "^")) (λ flag. refl) (spelled_of t) r;
}

-- ---- the number of the version

pub version : IsSign EndsWord is_version (codes "1")
unfolding number_in
version = record {
  lexeme = lexeme Digits (codes "1");
  cut = cut_word (codes "1") (λ e. absurd cc) refl;
  passes = λ t r.
      let number : is Number t ≡ true = by_class (same Number) (lexeme Digits (codes "1")) (λ flag. refl) (spelled_of t) r in
      let text : bytes_eq (spelled_of t).text (codes "1") ≡ true = ap (λ (x : List ℕ). bytes_eq x (codes "1")) r.1 in
      rw (number, text) refl;
}
