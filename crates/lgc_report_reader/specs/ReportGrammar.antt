-- The grammar of reports for a logic of n truth values, line by line. It says which trees the phrases have that keep every rule, and which
-- rule the last token breaks where one is broken.
--
-- A report is read against a setting, as formulas and queries are: it has the logic, and the formulas that numbers stand for where formulas
-- have numbers. Each formula, each query and each term has at most 1,000 nodes. Where a formula is bare, the name of an operator with
-- arguments alone, it is barred by each token that may follow it at its place.
--
-- The numbers before rules, lines and claims, and the positions that are cited, are read as they are written: whether they are right is
-- for whoever checks the report.
use Rattle.std.specs.Prelude.{ℕ, ◌||◌, Bool, List, [], ◌∷◌, ◌++◌, None}
use Rattle.lgc_grammar.specs.Grammar.{Grammar, One, Barred, Nothing, Mapped, ◌>>=◌, ◌>>◌, Either, Optional, Growing}
use Rattle.lgc_grammar.specs.Seen.{Seen}
use Rattle.lgc_syntax.specs.declared.fault.TheConstants.{WRONG_ARITY, TOO_MANY_GOALS}
use Rattle.lgc_syntax.specs.declared.formula.Term.{Term}
use Rattle.lgc_syntax.specs.declared.formula.Formula.{Formula}
use Rattle.lgc_clauses.specs.declared.rule.Numbered.{Numbered}
use Rattle.lgc_meaning.specs.declared.query.Query.{Query}
use Rattle.lgc_sequents.specs.Signed.{SignedFormula}
use Rattle.lgc_sequents.specs.Sequents.{added}
use Rattle.lgc_sequents.specs.Lines.{PlainLine}
use Rattle.lgc_sequents.specs.declared.line.Cited.{Cited}
use Rattle.lgc_sequents.specs.declared.line.Reason.{Reason}
use Rattle.lgc_sequents.specs.declared.line.Reason.TheVariants.{Axiom, Pending, ByRule, Resolve}
use Rattle.lgc_tokens.specs.declared.number.TheConstants.{MOST_NUMBER}
use Rattle.lgc_tokens.specs.declared.class.Class.{Class}
use Rattle.lgc_tokens.specs.declared.class.Class.TheVariants.{RuleWord, AtWord, ReportWord, LineWord, ByWord, AxiomWord, PendingWord, OnWord, FromWord, ResolveWord, ClaimWord, ProvedWord, RefutedWord, UnfinishedWord, HoldsWord, EndWord, Caret, OpenBrace, CloseBrace, OpenSquare, CloseSquare, Comma, Dot, Colon}
use Rattle.lgc_formulas.specs.declared.formula.Read.{Read}
use Rattle.lgc_formulas.specs.declared.formula.TheConstants.{MOST_NODES}
use Rattle.lgc_formulas.specs.Setting.{Setting}
use Rattle.lgc_formulas.specs.FormulaGrammar.{OneFormula}
use Rattle.lgc_formulas.specs.FormulaTexts.{LoneTerm}
use Rattle.lgc_queries.specs.declared.read.QueryRead.{QueryRead}
use Rattle.lgc_queries.specs.Goals.{has_too_many_goals}
use Rattle.lgc_queries.specs.QueryGrammar.{OneQuery}
use Rattle.lgc_rules.specs.RuleGrammar.{Value, Set, OneRule}
use Rattle.lgc_report.specs.declared.report.Evidence.{Evidence}
use Rattle.lgc_report.specs.declared.report.Evidence.TheVariants.{Proved, Refuted, Unfinished}
use Rattle.lgc_report.specs.declared.report.Claim.{Claim}
use Rattle.lgc_report.specs.declared.report.Claim.TheVariants.{Answer, Holds}
use Rattle.lgc_report.specs.declared.report.Report.{Report}
use Rattle.lgc_report_reader.specs.Reported.{Reported, spelled_of, number, is, is_number, is_position, is_version, is_predicate, starts_query, starts_sequent, entry_fault}
use Rattle.lgc_report_reader.specs.Starting.{Starting}

-- ---- trees of reports

abbrev pub cited_line : ℕ → List Term → Cited
cited_line position terms = record { line = position; terms = terms }

abbrev pub line_of : ℕ → List SignedFormula → Reason → PlainLine
line_of number sequent reason = record { number = number; sequent = sequent; reason = reason }

abbrev pub answer_of : (n : ℕ) → ℕ → Query → Evidence → Claim n
answer_of n number query evidence = Answer number query evidence

abbrev pub holds_of : (n : ℕ) → ℕ → List SignedFormula → ℕ → Claim n
holds_of n number sequent line = Holds number sequent line

abbrev pub report_of : (n : ℕ) → List (Numbered n) → List PlainLine → List (Claim n) → Report n
report_of n rules lines claims = record { rules = rules; lines = lines; claims = claims }

-- ---- single tokens

-- the number of a rule or of a claim
abbrev pub NumberHere : Grammar Reported ℕ
NumberHere = Mapped number (One is_number)

-- the number of a line, where it stands or where it is cited
abbrev pub Position : Grammar Reported ℕ
Position = Mapped number (One is_position)

-- what follows a formula behind a rule
abbrev pub ends_principal : Reported → Bool
ends_principal t = is FromWord t || is Dot t

-- what follows a query
abbrev pub ends_query : Reported → Bool
ends_query t = is ProvedWord t || (is UnfinishedWord t || is RefutedWord t)

-- ---- terms and cited lines

-- a term, which may stand nowhere inside of a quantifier
abbrev pub TermHere : Grammar Reported Term
TermHere = Seen spelled_of LoneTerm

-- "," term, behind these
abbrev pub NextTerm : List Term → Grammar Reported (List Term)
NextTerm terms = do
  One (is Comma)
  Mapped (λ term. terms ++ term ∷ []) TermHere

-- "[" term { "," term } "]"
abbrev pub TermsHere : Grammar Reported (List Term)
TermsHere = do
  One (is OpenSquare)
  first ← Mapped (λ term. term ∷ []) TermHere
  terms ← Growing NextTerm first
  One (is CloseSquare)
  Nothing terms

-- cited = number [ "[" term { "," term } "]" ]
abbrev pub CitedLine : Grammar Reported Cited
CitedLine = do
  position ← Position
  Mapped (cited_line position) (Optional [] TermsHere)

-- "," cited, behind these
abbrev pub NextCited : List Cited → Grammar Reported (List Cited)
NextCited before = do
  One (is Comma)
  Mapped (λ cited. before ++ cited ∷ []) CitedLine

-- "from" cited { "," cited }
abbrev pub Premises : Grammar Reported (List Cited)
Premises = do
  One (is FromWord)
  first ← Mapped (λ cited. cited ∷ []) CitedLine
  Growing NextCited first

-- "," number, behind these
abbrev pub NextPosition : List ℕ → Grammar Reported (List ℕ)
NextPosition before = do
  One (is Comma)
  Mapped (λ position. before ++ position ∷ []) Position

-- number { "," number }
abbrev pub Positions : Grammar Reported (List ℕ)
Positions = do
  first ← Mapped (λ position. position ∷ []) Position
  Growing NextPosition first

module _ (n : ℕ) (s : Setting) where
  -- ---- sequents

  -- a formula, which may be bare
  abbrev pub FormulaHere : Grammar Reported Read
  FormulaHere = Seen (λ t. t.named) (OneFormula s MOST_NODES)

  -- a set of truth values
  abbrev pub SetHere : Grammar Reported (List ℕ)
  SetHere = Seen spelled_of (Set n s.logic)

  -- Symbol "^" set, behind a formula, which with this sign is joined to the items
  abbrev pub SignBehind : List SignedFormula → Read → Grammar Reported (List SignedFormula)
  SignBehind items x = Barred x.is_bare (is Caret) WRONG_ARITY (do
    One (is Caret)
    Mapped (added n items x.formula) SetHere)

  -- item = formula Symbol "^" set
  abbrev pub Item : List SignedFormula → Grammar Reported (List SignedFormula)
  Item items = do
    x ← FormulaHere
    SignBehind items x

  -- "," item
  abbrev pub NextItem : List SignedFormula → Grammar Reported (List SignedFormula)
  NextItem items = do
    One (is Comma)
    Item items

  -- sequent = item { "," item }
  abbrev pub Items : Grammar Reported (List SignedFormula)
  Items = do
    first ← Item []
    Growing NextItem first

  -- ---- lines, from the reason on with the point behind it

  -- "axiom" ".", or "pending" "."
  abbrev pub WordReason : Class → Reason → Grammar Reported Reason
  WordReason word reason = do
    One (is word)
    One (is Dot)
    Nothing reason

  -- [ "from" cited { "," cited } ] ".", behind the principal formula of a rule
  abbrev pub BehindPrincipal : ℕ → Read → Grammar Reported Reason
  BehindPrincipal rule x = Barred x.is_bare ends_principal WRONG_ARITY (do
    premises ← Optional [] Premises
    One (is Dot)
    Nothing (ByRule rule x.formula premises))

  -- "rule" number "on" formula [ "from" cited { "," cited } ] "."
  abbrev pub RuleReason : Grammar Reported Reason
  RuleReason = do
    One (is RuleWord)
    rule ← NumberHere
    One (is OnWord)
    x ← FormulaHere
    BehindPrincipal rule x

  -- "from" number "," number ".", behind the formula that is resolved
  abbrev pub BehindResolved : Read → Grammar Reported Reason
  BehindResolved x = Barred x.is_bare (is FromWord) WRONG_ARITY (do
    One (is FromWord)
    left ← Position
    One (is Comma)
    right ← Position
    One (is Dot)
    Nothing (Resolve x.formula left right))

  -- "resolve" "on" formula "from" number "," number "."
  abbrev pub ResolveReason : Grammar Reported Reason
  ResolveReason = do
    One (is ResolveWord)
    One (is OnWord)
    x ← FormulaHere
    BehindResolved x

  -- reason = "axiom" | "pending"
  --        | "rule" number "on" formula [ "from" cited { "," cited } ]
  --        | "resolve" "on" formula "from" number "," number
  abbrev pub ReasonHere : Grammar Reported Reason
  ReasonHere = Either (WordReason AxiomWord Axiom) (Either (WordReason PendingWord Pending) (Either RuleReason ResolveReason))

  -- line = "line" number ":" sequent "by" reason "."
  abbrev pub LineHere : Grammar Reported PlainLine
  LineHere = do
    One (is LineWord)
    position ← Position
    One (is Colon)
    items ← Items
    One (is ByWord)
    Mapped (line_of position items) ReasonHere

  -- ---- claims

  -- an atom that none of these entries has
  abbrev pub EntryAtom : List (Formula × ℕ) → Grammar Reported Read
  EntryAtom entries = Starting is_predicate (entry_fault entries) FormulaHere

  -- entry = atom ":" value, behind these
  abbrev pub Entry : List (Formula × ℕ) → Grammar Reported (List (Formula × ℕ))
  Entry entries = do
    atom ← EntryAtom entries
    One (is Colon)
    Mapped (λ value. entries ++ (atom.formula, value) ∷ []) (Seen spelled_of (Value s.logic))

  -- "," entry
  abbrev pub NextEntry : List (Formula × ℕ) → Grammar Reported (List (Formula × ℕ))
  NextEntry entries = do
    One (is Comma)
    Entry entries

  -- entry { "," entry }
  abbrev pub Entries : Grammar Reported (List (Formula × ℕ))
  Entries = do
    first ← Entry []
    Growing NextEntry first

  -- "proved" or "unfinished", and "by" number { "," number } "."
  abbrev pub ByPositions : Class → (List ℕ → Evidence) → Grammar Reported Evidence
  ByPositions word evidence = do
    One (is word)
    One (is ByWord)
    positions ← Positions
    One (is Dot)
    Nothing (evidence positions)

  -- "refuted" "at" "{" [ entry { "," entry } ] "}" "."
  abbrev pub AtValuation : Grammar Reported Evidence
  AtValuation = do
    One (is RefutedWord)
    One (is AtWord)
    One (is OpenBrace)
    entries ← Optional [] Entries
    One (is CloseBrace)
    One (is Dot)
    Nothing (Refuted entries)

  abbrev pub EvidenceHere : Grammar Reported Evidence
  EvidenceHere = Either (ByPositions ProvedWord Proved) (Either (ByPositions UnfinishedWord Unfinished) AtValuation)

  -- Evidence behind a query. Where the query's last formula is bare, what may follow it breaks the rule of the number of arguments, and
  -- else, where the query has too many goals, that of their number.
  abbrev pub BehindQuery : ℕ → QueryRead → Grammar Reported (Claim n)
  BehindQuery number x =
      Barred x.is_bare ends_query WRONG_ARITY (Barred (has_too_many_goals s.logic.size x.query) ends_query TOO_MANY_GOALS
      (Mapped (answer_of n number x.query) EvidenceHere))

  -- a query and its evidence
  abbrev pub AnswerHere : ℕ → Grammar Reported (Claim n)
  AnswerHere number = do
    x ← Starting starts_query (λ _. None) (Seen (λ t. t.named) (OneQuery s MOST_NODES))
    BehindQuery number x

  -- sequent "holds" "by" number "."
  abbrev pub HoldsHere : ℕ → Grammar Reported (Claim n)
  HoldsHere number = do
    items ← Starting (starts_sequent s) (λ _. None) Items
    One (is HoldsWord)
    One (is ByWord)
    position ← Position
    One (is Dot)
    Nothing (holds_of n number items position)

  -- claim = "claim" number ":" query "proved" "by" number { "," number } "."
  --       | "claim" number ":" query "unfinished" "by" number { "," number } "."
  --       | "claim" number ":" query "refuted" "at" "{" [ entry { "," entry } ] "}" "."
  --       | "claim" number ":" sequent "holds" "by" number "."
  abbrev pub ClaimHere : Grammar Reported (Claim n)
  ClaimHere = do
    One (is ClaimWord)
    number ← NumberHere
    One (is Colon)
    Either (AnswerHere number) (HoldsHere number)

  -- ---- reports

  -- a rule with any number, behind these
  abbrev pub NextRule : List (Numbered n) → Grammar Reported (List (Numbered n))
  NextRule rules = Mapped (λ rule. rules ++ rule ∷ []) (Seen spelled_of (OneRule n s.logic 0 MOST_NUMBER))

  abbrev pub NextLine : List PlainLine → Grammar Reported (List PlainLine)
  NextLine lines = Mapped (λ line. lines ++ line ∷ []) LineHere

  abbrev pub NextClaim : List (Claim n) → Grammar Reported (List (Claim n))
  NextClaim claims = Mapped (λ claim. claims ++ claim ∷ []) ClaimHere

  -- report = "report" "1" "." { rule } { line } { claim } "end" "."
  abbrev pub ReportHere : Grammar Reported (Report n)
  ReportHere = do
    One (is ReportWord)
    One is_version
    One (is Dot)
    rules ← Growing NextRule []
    lines ← Growing NextLine []
    claims ← Growing NextClaim []
    One (is EndWord)
    One (is Dot)
    Nothing (report_of n rules lines claims)
