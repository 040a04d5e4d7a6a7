-- What it means that the text of a query is read back as the same.
use Rattle.std.specs.Prelude.{◌≤◌, ℕ, List, [], ◌∷◌, ◌++◌, length, codes}
use Rattle.lgc_values.specs.Logic.{Logic}
use Rattle.lgc_meaning.specs.declared.query.Query.{Query}
use Rattle.lgc_meaning.specs.Queries.{IsPropositional}
use Rattle.lgc_inputs.specs.Texts.{IsTextOf}
use Rattle.lgc_formulas.specs.declared.formula.TheConstants.{MOST_NODES}
use Rattle.lgc_formulas.specs.Named.{named_all}
use Rattle.lgc_formulas.specs.FormulaTexts.{text_setting}
use Rattle.lgc_goals.specs.declared.TheConstants.{MOST_GOALS}
use Rattle.lgc_queries.specs.declared.TheConstants.{LONGEST_FILE}
use Rattle.lgc_goals.specs.Goals.{goal_count}
use Rattle.lgc_queries.specs.QueryGrammar.{OneQuery}
use Rattle.lgc_queries.specs.QueryPlace.{whole_query}
use Rattle.lgc_queries.specs.QueryFile.{IsFileOf}

-- The grammar of queries derives this one from the bytes, whatever limit they keep, and its last formula isn't bare.
abbrev pub IsReadAsQuery : Logic → List ℕ → Query → Type 0
IsReadAsQuery logic bytes query = (limit : ℕ) → length bytes ≤ limit → IsTextOf (named_all logic bytes) (OneQuery (text_setting logic) MOST_NODES) limit bytes (whole_query query)

-- the text with a full stop and a line feed behind it
abbrev pub file_text : List ℕ → List ℕ
file_text text = text ++ codes ".\n"

-- Where the query may stand in a file, and the file isn't too long, the bytes are the text of a file with this query alone.
abbrev pub IsReadAsFile : Logic → List ℕ → Query → Type 0
IsReadAsFile logic bytes query = IsPropositional query → goal_count logic.size query ≤ MOST_GOALS → length (file_text bytes) ≤ LONGEST_FILE → IsFileOf logic (file_text bytes) (query ∷ [])
