-- What is read of queries can be written: the names in the formulas of the grammar of queries have the forms by which they are read.
use Rattle.std.proofs.Common.{◌≡◌, ℕ, Bool, true, false, List, [], ◌∷◌, ◌++◌, All, Ok, inl, inr, sym, subst}
use Rattle.std.specs.List.{AllByRecursion, flat_map}
use Rattle.std.proofs.lemmas.Grind.{flat_map-append}
use Rattle.std.proofs.lemmas.List.Elements.{All-nil, All-cons, All-push, All-append, All-weaker}
use Rattle.lgc_grammar.specs.Grammar.{Grammar, One, Mapped, Then, Barred, Optional, Growing, ended, grown}
use Rattle.lgc_values.specs.Logic.{Logic, IsLogic}
use Rattle.lgc_syntax.specs.declared.fault.TheConstants.{WRONG_ARITY, TOO_MANY_GOALS}
use Rattle.lgc_syntax.specs.declared.formula.Formula.{Formula}
use Rattle.lgc_meaning.specs.declared.query.Query.{Query}
use Rattle.lgc_meaning.specs.Queries.{sides, formulas_of}
use Rattle.lgc_tokens.specs.declared.class.Class.TheVariants.{Comma, Dot}
use Rattle.lgc_formulas.specs.declared.formula.Formulas.{Formulas}
use Rattle.lgc_formulas.specs.declared.formula.Read.{Read}
use Rattle.lgc_formulas.specs.declared.formula.TheConstants.{MOST_DEPTH, MOST_NODES}
use Rattle.lgc_formulas.specs.Named.{Named, named_all, is}
use Rattle.lgc_formulas.specs.Setting.{Setting, numbered}
use Rattle.lgc_formulas.specs.FormulaGrammar.{with_formula, OneFormula, CommaFormula, FormulaList}
use Rattle.lgc_formulas.specs.FormulaTexts.{text_setting}
use Rattle.lgc_formulas.proofs.FormulasKept.{named_known}
use Rattle.lgc_queries.specs.declared.read.EquationRead.{EquationRead}
use Rattle.lgc_queries.specs.declared.read.Equations.{Equations}
use Rattle.lgc_queries.specs.declared.read.QueryRead.{QueryRead}
use Rattle.lgc_queries.specs.Goals.{has_too_many_goals}
use Rattle.lgc_queries.specs.QueryGrammar.{no_formulas, no_equations, Premises, EquationPhrase, CommaEquation, EquationList, EquationPremises, EntailQuery, MixedQuery, EquationQuery, QuasiQuery, OneQuery, file_setting, QueryEnd, NextQuery}
use Rattle.lgc_queries.specs.QueryFile.{IsFileOf}
use Rattle.lgc_queries.proofs.QueriesKept.{queries_kept}
use Rattle.lgc_formulas.specs.Writable.{has_readable_names}
use Rattle.lgc_formula_trip.proofs.WordTokens.{IsFormedIn, tokens_formed, named_formed, each_front, each_behind}
use Rattle.lgc_formula_trip.proofs.ReadFormulas.{LetsReadable, formula_readable}
use Rattle.lgc_queries.specs.WritableQueries.{IsWritableQuery, AreWritable}

-- a phrase with a tree was not barred
unbarred : {T A : Type 0} (bad : Bool) (first : T → Bool) (n : ℕ) (L : Grammar T A) (a : A) (ts : List T) → Barred bad first n L (Ok a) ts → L (Ok a) ts
unbarred true first n L a ts h = absurd h
unbarred false first n L a ts h = h

-- ---- tokens

module _ (logic : Logic) where
  abbrev Formed : List Named → Type 0
  Formed ts = AllByRecursion (IsFormedIn logic) ts

  formed_parts : (ts v w : List Named) → ts ≡ v ++ w → Formed ts → Formed v × Formed w
  formed_parts ts v w split formed = let all = subst Formed split formed in (each_front (IsFormedIn logic) v w all, each_behind (IsFormedIn logic) v w all)

  -- what each step keeps holds of the last tree
  growing_keeps : {A : Type 0} (L : A → Grammar Named A) (Q : A → Type 0) → ((a b : A) (v : List Named) → Formed v → Q a → L a (Ok b) v → Q b) → (a c : A) (ts : List Named) → Formed ts → Q a → Growing L a (Ok c) ts → Q c
  growing_keeps L Q step a c ts formed h (ended _) = h
  growing_keeps L Q step a c ts formed h (grown _ b _ v w f g) = growing_keeps L Q step b c w (each_behind (IsFormedIn logic) v w formed) (step a b v (each_front (IsFormedIn logic) v w formed) h f) g

-- ---- formulas and equations

module _ (s : Setting) (lets : LetsReadable s) where
  abbrev IsReadable : Formula → Type 0
  IsReadable f = has_readable_names s.logic (numbered s) f ≡ true

  abbrev AreReadable : List Formula → Type 0
  AreReadable fs = All IsReadable fs

  one_readable : (many : ℕ) (x : Read) (ts : List Named) → Formed s.logic ts → OneFormula s many (Ok x) ts → IsReadable x.formula
  one_readable many x ts formed h = formula_readable s lets MOST_DEPTH [] many x ts formed h

  next_formula_readable : (a b : Formulas) (ts : List Named) → Formed s.logic ts → AreReadable a.list → CommaFormula (OneFormula s) a (Ok b) ts → AreReadable b.list
  next_formula_readable a b ts formed before h =
      let (comma, v, w, o, (x, tree, f), split) = unbarred a.is_bare (is Comma) WRONG_ARITY (Then (One (is Comma)) (λ _. Mapped (with_formula a.list) (OneFormula s a.nodes_left))) b ts h in
      subst (λ (c : Formulas). AreReadable c.list) (sym tree) (All-push IsReadable a.list x.formula before (one_readable a.nodes_left x w (formed_parts s.logic ts v w split formed).1 f))

  formulas_readable : (many : ℕ) (fs : Formulas) (ts : List Named) → Formed s.logic ts → FormulaList (OneFormula s) many (Ok fs) ts → AreReadable fs.list
  formulas_readable many fs ts formed (first, v, w, (x, tree, f), g, split) =
      let (front, behind) = formed_parts s.logic ts v w split formed in
      let one = All-cons IsReadable x.formula [] (one_readable many x v front f) (All-nil IsReadable) in
      growing_keeps s.logic (CommaFormula (OneFormula s)) (λ (c : Formulas). AreReadable c.list) next_formula_readable first fs w behind (subst (λ (c : Formulas). AreReadable c.list) (sym tree) one) g

  premises_readable : (many : ℕ) (fs : Formulas) (ts : List Named) → Formed s.logic ts → Premises s many (Ok fs) ts → AreReadable fs.list
  premises_readable many fs ts formed (premises, v, w, f, (t, v1, w1, sign, (tree, none), s1), split) = subst (λ (c : Formulas). AreReadable c.list) (sym tree) (by f)
    where
      by : Optional (no_formulas many) (FormulaList (OneFormula s) many) (Ok premises) v → AreReadable premises.list
      by (inl h) = formulas_readable many premises v (formed_parts s.logic ts v w split formed).0 h
      by (inr (empty, nothing)) = subst (λ (c : Formulas). AreReadable c.list) (sym empty) (All-nil IsReadable)

  equation_readable : (many : ℕ) (x : EquationRead) (ts : List Named) → Formed s.logic ts → EquationPhrase s many (Ok x) ts → AreReadable (sides x.pair)
  equation_readable many x ts formed (left, v, w, f, (t, v1, w1, sign, (right, tree, g), s1), split) =
      let (front, behind) = formed_parts s.logic ts v w split formed in
      let last = one_readable left.nodes_left right w1 (formed_parts s.logic w v1 w1 s1 behind).1 g in
      let both = All-cons IsReadable left.formula (right.formula ∷ []) (one_readable many left v front f) (All-cons IsReadable right.formula [] last (All-nil IsReadable)) in
      subst (λ (c : EquationRead). AreReadable (sides c.pair)) (sym tree) both

  abbrev EquationsReadable : Equations → Type 0
  EquationsReadable xs = AreReadable (flat_map sides xs.list)

  next_equation_readable : (a b : Equations) (ts : List Named) → Formed s.logic ts → EquationsReadable a → CommaEquation s a (Ok b) ts → EquationsReadable b
  next_equation_readable a b ts formed before (t, v, w, sign, (x, tree, f), split) =
      let more : flat_map sides (a.list ++ x.pair ∷ []) ≡ flat_map sides a.list ++ sides x.pair = flat_map-append sides a.list (x.pair ∷ []) in
      let both = All-append IsReadable (flat_map sides a.list) (sides x.pair) before (equation_readable a.nodes_left x w (formed_parts s.logic ts v w split formed).1 f) in
      subst EquationsReadable (sym tree) (subst AreReadable (sym more) both)

  equations_readable : (many : ℕ) (xs : Equations) (ts : List Named) → Formed s.logic ts → EquationList s many (Ok xs) ts → EquationsReadable xs
  equations_readable many xs ts formed (first, v, w, (x, tree, f), g, split) =
      let (front, behind) = formed_parts s.logic ts v w split formed in
      growing_keeps s.logic (CommaEquation s) EquationsReadable next_equation_readable first xs w behind (subst EquationsReadable (sym tree) (equation_readable many x v front f)) g

  equation_premises_readable : (many : ℕ) (xs : Equations) (ts : List Named) → Formed s.logic ts → EquationPremises s many (Ok xs) ts → EquationsReadable xs
  equation_premises_readable many xs ts formed (premises, v, w, f, (t, v1, w1, sign, (tree, none), s1), split) = subst EquationsReadable (sym tree) (by f)
    where
      by : Optional (no_equations many) (EquationList s many) (Ok premises) v → EquationsReadable premises
      by (inl h) = equations_readable many premises v (formed_parts s.logic ts v w split formed).0 h
      by (inr (empty, nothing)) = subst EquationsReadable (sym empty) (All-nil IsReadable)

  -- ---- queries

  abbrev IsReadableQuery : QueryRead → Type 0
  IsReadableQuery x = AreReadable (formulas_of x.query)

  entail_readable : (many : ℕ) (x : QueryRead) (ts : List Named) → Formed s.logic ts → EntailQuery s many (Ok x) ts → IsReadableQuery x
  entail_readable many x ts formed (t, v, w, o, (premises, v1, w1, f, (right, tree, g), s1), split) =
      let (front, behind) = formed_parts s.logic w v1 w1 s1 (formed_parts s.logic ts v w split formed).1 in
      subst IsReadableQuery (sym tree) (All-push IsReadable premises.list right.formula (premises_readable many premises v1 front f) (one_readable premises.nodes_left right w1 behind g))

  mixed_readable : (many : ℕ) (x : QueryRead) (ts : List Named) → Formed s.logic ts → MixedQuery s many (Ok x) ts → IsReadableQuery x
  mixed_readable many x ts formed (t, v, w, o, (given, v1, w1, set, (c, v2, w2, o2, (wanted, v3, w3, other, (d, v4, w4, o4, (premises, v5, w5, f, (conclusions, tree, g), s5), s4), s3), s2), s1), split) =
      let behind_given = (formed_parts s.logic w v1 w1 s1 (formed_parts s.logic ts v w split formed).1).1 in
      let behind_wanted = (formed_parts s.logic w2 v3 w3 s3 (formed_parts s.logic w1 v2 w2 s2 behind_given).1).1 in
      let (front, behind) = formed_parts s.logic w4 v5 w5 s5 (formed_parts s.logic w3 v4 w4 s4 behind_wanted).1 in
      subst IsReadableQuery (sym tree) (All-append IsReadable premises.list conclusions.list (premises_readable many premises v5 front f) (formulas_readable premises.nodes_left conclusions w5 behind g))

  equation_query_readable : (many : ℕ) (x : QueryRead) (ts : List Named) → Formed s.logic ts → EquationQuery s many (Ok x) ts → IsReadableQuery x
  equation_query_readable many x ts formed (t, v, w, o, (pair, tree, f), split) = subst IsReadableQuery (sym tree) (equation_readable many pair w (formed_parts s.logic ts v w split formed).1 f)

  quasi_readable : (many : ℕ) (x : QueryRead) (ts : List Named) → Formed s.logic ts → QuasiQuery s many (Ok x) ts → IsReadableQuery x
  quasi_readable many x ts formed (t, v, w, o, (premises, v1, w1, f, (right, tree, g), s1), split) =
      let (front, behind) = formed_parts s.logic w v1 w1 s1 (formed_parts s.logic ts v w split formed).1 in
      subst IsReadableQuery (sym tree) (All-append IsReadable (flat_map sides premises.list) (sides right.pair) (equation_premises_readable many premises v1 front f) (equation_readable premises.nodes_left right w1 behind g))

  -- the names in a query of the grammar, whatever stands behind it
  pub query_readable : (many : ℕ) (x : QueryRead) (ts : List Named) → AllByRecursion (IsFormedIn s.logic) ts → OneQuery s many (Ok x) ts → All (λ f. has_readable_names s.logic (numbered s) f ≡ true) (formulas_of x.query)
  query_readable many x ts formed (inl h) = entail_readable many x ts formed h
  query_readable many x ts formed (inr (inl h)) = mixed_readable many x ts formed h
  query_readable many x ts formed (inr (inr (inl h))) = equation_query_readable many x ts formed h
  query_readable many x ts formed (inr (inr (inr h))) = quasi_readable many x ts formed h

-- ---- query files

module _ (logic : Logic) where
  -- formulas have no numbers
  no_lets : LetsReadable (file_setting logic)
  no_lets number f known = absurd cc

  abbrev HasNames : Query → Type 0
  HasNames query = AreReadable (file_setting logic) no_lets (formulas_of query)

  next_query_readable : (a b : List Query) (ts : List Named) → Formed logic ts → All HasNames a → NextQuery logic a (Ok b) ts → All HasNames b
  next_query_readable a b ts formed before (x, v, w, h, ends, split) =
      let counted = unbarred x.is_bare (is Dot) WRONG_ARITY (Barred (has_too_many_goals logic.size x.query) (is Dot) TOO_MANY_GOALS (QueryEnd a x.query)) b w ends in
      let (t, v1, w1, dot, (list, none), s1) = unbarred (has_too_many_goals logic.size x.query) (is Dot) TOO_MANY_GOALS (QueryEnd a x.query) b w counted in
      subst (All HasNames) (sym list) (All-push HasNames a x.query before (query_readable (file_setting logic) no_lets MOST_NODES x v (formed_parts logic ts v w split formed).0 h))

  -- each query of a file can be written, even where no quantifier may stand
  pub file_queries_writable : (bytes : List ℕ) (queries : List Query) → IsLogic logic → IsFileOf logic bytes queries → All (IsWritableQuery (file_setting logic) MOST_NODES) queries
  file_queries_writable bytes queries is_logic file =
      let ts : List Named = named_all logic bytes file.tokens in
      let formed = named_formed logic bytes file.tokens (tokens_formed bytes file.tokens file.lexed) in
      let kept = queries_kept logic is_logic queries ts (named_known logic bytes file.tokens) file.derived in
      let names = growing_keeps logic (NextQuery logic) (All HasNames) next_query_readable [] queries ts formed (All-nil HasNames) file.derived in
      λ i d lt. record { query_for = (kept i d lt).query_for; named = names i d lt }

  -- what can be written where no quantifier may stand can be where quantifiers may
  anywhere : (query : Query) → IsWritableQuery (file_setting logic) MOST_NODES query → IsWritableQuery (text_setting logic) MOST_NODES query
  anywhere query w = record {
    query_for = record { fits = w.query_for.fits; concludes = w.query_for.concludes; shallow = w.query_for.shallow; small = w.query_for.small; propositional = λ barred. absurd cc };
    named = w.named;
  }

  -- the queries of a query file can be written
  pub read_queries_writable : (bytes : List ℕ) (queries : List Query) → IsLogic logic → IsFileOf logic bytes queries → AreWritable logic queries
  read_queries_writable bytes queries is_logic file = All-weaker (IsWritableQuery (file_setting logic) MOST_NODES) (IsWritableQuery (text_setting logic) MOST_NODES) anywhere queries (file_queries_writable bytes queries is_logic file)
