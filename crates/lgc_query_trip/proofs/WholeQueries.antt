-- The text of a query, with nothing around it or as a query file, has tokens from which the grammar derives the same.
use Rattle.std.proofs.Common.{◌≡◌, ℕ, ◌≤◌, Bool, false, List, [], ◌∷◌, ◌++◌, refl, sym, subst, append-nil}
use Rattle.std.specs.Prelude.{codes}
use Rattle.std.proofs.lemmas.Bool.{le-ltb}
use Rattle.lgc_grammar.specs.Grammar.{Grammar, Barred, Nothing}
use Rattle.lgc_values.specs.Logic.{Logic, IsLogic}
use Rattle.lgc_syntax.specs.declared.fault.TheConstants.{WRONG_ARITY, TOO_MANY_GOALS}
use Rattle.lgc_meaning.specs.declared.query.Query.{Query}
use Rattle.lgc_meaning.specs.Queries.{IsPropositional}
use Rattle.lgc_tokens.specs.declared.class.Class.TheVariants.{Dot}
use Rattle.lgc_formulas.specs.declared.formula.TheConstants.{MOST_NODES}
use Rattle.lgc_formulas.specs.Named.{Named, named_all, is as is_of}
use Rattle.lgc_formulas.specs.Setting.{Setting}
use Rattle.lgc_formulas.specs.FormulaTexts.{text_setting}
use Rattle.lgc_queries.specs.declared.TheConstants.{LONGEST_FILE}
use Rattle.lgc_goals.specs.declared.TheConstants.{MOST_GOALS}
use Rattle.lgc_queries.specs.declared.read.QueryRead.{QueryRead}
use Rattle.lgc_goals.specs.Goals.{goal_count}
use Rattle.lgc_queries.specs.Goals.{has_too_many_goals}
use Rattle.lgc_queries.specs.QueryGrammar.{OneQuery, QueryBefore, QueryEnd, NextQuery, Queries, file_setting}
use Rattle.lgc_queries.specs.QueryPlace.{whole_query}
use Rattle.lgc_queries.specs.QueryText.{query_text}
use Rattle.lgc_formula_trip.proofs.Cuts.{sign, Anything, EndsWord}
use Rattle.lgc_formula_trip.proofs.Written.{Written, written_then, written_behind, written_nothing, written_ended, written_grown, written_weaker, written_text}
use Rattle.lgc_formula_trip.proofs.Tokens.{NamedAs, named_are}
use Rattle.lgc_formula_trip.proofs.WholeTexts.{whole_text}
use Rattle.lgc_queries.specs.WritableQueries.{IsWritableQuery}
use Rattle.lgc_query_trip.specs.QueryReadBack.{IsReadAsQuery, IsReadAsFile, file_text}
use Rattle.lgc_query_trip.proofs.Signs.{cut_ending_dot, is_dot}
use Rattle.lgc_query_trip.proofs.QueryTexts.{one_query_written}

-- A query with few goals, and behind it a text of M that begins where no word goes on.
pub query_before_written : {A : Type 0} (s : Setting) (many : ℕ) (follows : Named → Bool) (M : Query → Grammar Named A) (a : A) (query : Query) (behind : List ℕ) → IsLogic s.logic → IsWritableQuery s many query → goal_count s.logic.size query ≤ MOST_GOALS → ((rest : List ℕ) → EndsWord (behind ++ rest)) → Written (NamedAs s.logic) Anything (M query) a behind → Written (NamedAs s.logic) Anything (QueryBefore s many follows M) a (query_text s.logic query ++ behind)
query_before_written s many follows M a query behind is w few ends next =
    let Behind : QueryRead → Grammar Named _ = λ x. Barred x.is_bare follows WRONG_ARITY (Barred (has_too_many_goals s.logic.size x.query) follows TOO_MANY_GOALS (M x.query)) in
    let enough : has_too_many_goals s.logic.size query ≡ false = le-ltb MOST_GOALS (goal_count s.logic.size query) few in
    written_then (NamedAs s.logic) EndsWord Anything (OneQuery s many) Behind (whole_query query) a (query_text s.logic query) behind (λ rest f. ends rest) (one_query_written s many query is w)
    (subst (λ (b : Bool). Written (NamedAs s.logic) Anything (Barred b follows TOO_MANY_GOALS (M query)) a behind) (sym enough) next)

pub query_read_back : (logic : Logic) (query : Query) → IsLogic logic → IsWritableQuery (text_setting logic) MOST_NODES query → IsReadAsQuery logic (query_text logic query) query
query_read_back logic query is w =
    whole_text (NamedAs logic) (named_all logic) (named_are logic) (OneQuery (text_setting logic) MOST_NODES) (whole_query query) (query_text logic query) (one_query_written (text_setting logic) MOST_NODES query is w)

-- a query without quantifiers can be read where these may not stand
without_quantifiers : (logic : Logic) (query : Query) → IsWritableQuery (text_setting logic) MOST_NODES query → IsPropositional query → IsWritableQuery (file_setting logic) MOST_NODES query
without_quantifiers logic query w none = record {
  query_for = record { fits = w.query_for.fits; concludes = w.query_for.concludes; shallow = w.query_for.shallow; small = w.query_for.small; propositional = λ e. none };
  named = w.named;
}

pub file_read_back : (logic : Logic) (query : Query) → IsLogic logic → IsWritableQuery (text_setting logic) MOST_NODES query → IsReadAsFile logic (query_text logic query) query
file_read_back logic query is w none few short =
    let text : List ℕ = file_text (query_text logic query) in
    let one : Written (NamedAs logic) Anything (NextQuery logic []) (query ∷ []) text =
    query_before_written (file_setting logic) MOST_NODES (is_of Dot) (QueryEnd []) (query ∷ []) query (codes ".\n") is (without_quantifiers logic query w none) few (λ rest. refl)
    (written_behind (NamedAs logic) Anything (is_of Dot) (Nothing (query ∷ [])) (query ∷ []) (sign 46) (codes ".\n") [] cut_ending_dot (λ t r. is_dot t.spelled r.0) (written_nothing (NamedAs logic) Anything (query ∷ []) (query ∷ []) refl)) in
    whole_text (NamedAs logic) (named_all logic) (named_are logic) (Queries logic) (query ∷ []) text
    (written_weaker (NamedAs logic) Anything EndsWord (Queries logic) (query ∷ []) text (λ rest f. tt)
    (written_text (NamedAs logic) Anything (Queries logic) (query ∷ []) (text ++ []) text (append-nil text)
    (written_grown (NamedAs logic) Anything Anything (NextQuery logic) [] (query ∷ []) (query ∷ []) text [] (λ rest f. tt) one (written_ended (NamedAs logic) Anything (NextQuery logic) (query ∷ []) (query ∷ []) refl)))) LONGEST_FILE short
