-- The queries of the grammar are queries for the logic, and they keep the limits.
use Rattle.std.proofs.Common.{◌≡◌, ◌≤◌, ◌<◌, ◌+◌, ◌*◌, ◌^◌, ℕ, zero, suc, Bool, true, false, cond, List, [], ◌∷◌, ◌++◌, map, All, Ok, inl, inr, refl, sym, ap, subst, arith}
use Rattle.std.specs.Prelude.{◌≢◌, ◌||◌, ◌==◌, filter}
use Rattle.std.specs.List.{range_with_len, flat_map, sum_by}
use Rattle.std.proofs.lemmas.Bool.{ltb-false}
use Rattle.std.proofs.lemmas.Grind.{common_steps, flat_map-append}
use Rattle.std.proofs.lemmas.List.Elements.{All-nil, All-cons, All-push, All-append, All-weaker}
use Rattle.std.proofs.lemmas.List.Sums.{sum_by-append}
use Rattle.lgc_grammar.specs.Grammar.{Grammar, One, Mapped, Then, Barred, Optional, Growing, ended, grown}
use Rattle.lgc_values.specs.Values.{values_where, has, mask_of}
use Rattle.lgc_values.specs.Logic.{Logic, IsLogic}
use Rattle.lgc_syntax.specs.declared.fault.TheConstants.{WRONG_ARITY, TOO_MANY_GOALS}
use Rattle.lgc_syntax.specs.declared.formula.Formula.{Formula}
use Rattle.lgc_syntax.specs.Fits.{Fits}
use Rattle.lgc_syntax.specs.Sizes.{nodes, depth, has_quantifier}
use Rattle.lgc_meaning.specs.declared.query.Query.{Query}
use Rattle.lgc_meaning.specs.declared.query.Query.TheVariants.{Equation}
use Rattle.lgc_meaning.specs.Queries.{sides, formulas_of, HasSetsBelow}
use Rattle.lgc_tokens.specs.Spelled.{Spelled}
use Rattle.lgc_tokens.specs.declared.class.Class.{Class}
use Rattle.lgc_tokens.specs.declared.class.Class.TheVariants.{Turnstile, Equals, Comma, Dot}
use Rattle.lgc_formulas.specs.declared.formula.Formulas.{Formulas}
use Rattle.lgc_formulas.specs.declared.formula.Read.{Read}
use Rattle.lgc_formulas.specs.declared.formula.TheConstants.{MOST_DEPTH, MOST_NODES}
use Rattle.lgc_formulas.specs.Named.{Named, is}
use Rattle.lgc_formulas.specs.Setting.{Setting}
use Rattle.lgc_formulas.specs.Limits.{LetsFit, IsFormulaFor}
use Rattle.lgc_formulas.specs.FormulaGrammar.{with_formula, OneFormula, CommaFormula, FormulaList}
use Rattle.lgc_formulas.proofs.TermsKept.{sum_push}
use Rattle.lgc_formulas.proofs.FormulasKept.{AreKnown, known_front, known_behind, FormulaKept, formula_kept}
use Rattle.lgc_queries.specs.declared.read.EquationRead.{EquationRead}
use Rattle.lgc_queries.specs.declared.read.Equations.{Equations}
use Rattle.lgc_queries.specs.declared.read.QueryRead.{QueryRead}
use Rattle.lgc_goals.specs.declared.TheConstants.{MOST_GOALS}
use Rattle.lgc_goals.specs.Goals.{goal_count}
use Rattle.lgc_queries.specs.Goals.{has_too_many_goals}
use Rattle.lgc_queries.specs.QueryGrammar.{no_formulas, no_equations, entailment, mixed_entailment, quasi_equation, AddedValue, NextValue, SomeValues, ValueSet, SignBehind, Premises, EquationPhrase, CommaEquation, EquationList, EquationPremises, EntailQuery, MixedQuery, EquationQuery, QuasiQuery, OneQuery, file_setting, QueryEnd, NextQuery, Queries}
use Rattle.lgc_queries.specs.Limits.{HasConclusion, IsQueryFor, IsFileQuery}

-- ---- sets of truth values

mask_within : (test : ℕ → Bool) (a n : ℕ) → mask_of (filter test (range_with_len a n)) + 2 ^ a ≤ 2 ^ (a + n)
mask_within test a zero = let same : 2 ^ (a + 0) ≡ 2 ^ a = ap (λ k. 2 ^ k) (omega arith) in omega arith
mask_within test a (suc n) =
    let next : 2 ^ (a + 1) ≡ 2 ^ a * 2 = grind (arith, common_steps) in
    let rest : mask_of (filter test (range_with_len (a + 1) n)) + 2 ^ (a + 1) ≤ 2 ^ (a + 1 + n) = mask_within test (a + 1) n in
    let all : 2 ^ (a + 1 + n) ≡ 2 ^ (a + suc n) = ap (λ k. 2 ^ k) (omega arith) in
    by (test a) (filter test (range_with_len (a + 1) n)) (omega arith)
  where
    by : (b : Bool) (rest : List ℕ) → mask_of rest + 2 ^ a + 2 ^ a ≤ 2 ^ (a + suc n) → mask_of (cond b (a ∷ rest) rest) + 2 ^ a ≤ 2 ^ (a + suc n)
    by true rest h = omega arith
    by false rest h = omega arith

-- the mask of a set of values below n
mask_below : (n : ℕ) (test : ℕ → Bool) → mask_of (values_where n test) < 2 ^ n
mask_below n test =
    let within : mask_of (filter test (range_with_len 0 n)) + 2 ^ 0 ≤ 2 ^ (0 + n) = mask_within test 0 n in
    let same : 2 ^ (0 + n) ≡ 2 ^ n = ap (λ k. 2 ^ k) (omega arith) in
    omega arith

-- ---- repetitions and bars

-- what each step keeps holds of the last tree, where the tokens of each step have a property of all
pub growing_keeps : {T A : Type 0} (K : List T → Type 0) (front : (v w : List T) → K (v ++ w) → K v) (behind : (v w : List T) → K (v ++ w) → K w) (L : A → Grammar T A) (Q : A → Type 0) → ((a b : A) (v : List T) → K v → Q a → L a (Ok b) v → Q b) → (a c : A) (ts : List T) → K ts → Q a → Growing L a (Ok c) ts → Q c
growing_keeps K front behind L Q step a c ts known h (ended _) = h
growing_keeps K front behind L Q step a c ts known h (grown _ b _ v w f g) = growing_keeps K front behind L Q step b c w (behind v w known) (step a b v (front v w known) h f) g

-- behind a phrase that is bad there is none
pub unbarred : {T A : Type 0} (bad : Bool) (first : T → Bool) (n : ℕ) (L : Grammar T A) (a : A) (ts : List T) → Barred bad first n L (Ok a) ts → (bad ≡ false) × L (Ok a) ts
unbarred true first n L a ts h = absurd h
unbarred false first n L a ts h = (refl, h)

-- ---- sets

module _ (logic : Logic) where
  abbrev IsBelow : List ℕ → Type 0
  IsBelow set = mask_of set < 2 ^ logic.size

  added_below : (set new : List ℕ) (ts : List Spelled) → AddedValue logic set (Ok new) ts → IsBelow new
  added_below set new ts (value, is, f) = subst IsBelow (sym is) (mask_below logic.size (λ w. has set w || (w == value)))

  empty_below : IsBelow []
  empty_below = let some : mask_of (values_where logic.size (λ _. true)) < 2 ^ logic.size = mask_below logic.size (λ _. true) in omega arith

  some_below : (set : List ℕ) (ts : List Spelled) → SomeValues logic (Ok set) ts → IsBelow set
  some_below set ts (first, v, w, f, g, split) =
      growing_keeps (λ (u : List Spelled). Unit {0}) (λ u x known. tt) (λ u x known. tt) (NextValue logic) IsBelow
      (λ a b u known h k. let (comma, v1, w1, o, value, s1) = k in added_below a b w1 value) first set w tt (added_below [] first v f) g

  set_below : (set : List ℕ) (ts : List Spelled) → ValueSet logic (Ok set) ts → IsBelow set
  set_below set ts (t, v, w, o, (inside, v1, w1, f, (u, v2, w2, c, (is, none), s2), s1), s) = subst IsBelow (sym is) (by f)
    where
      by : Optional [] (SomeValues logic) (Ok inside) v1 → IsBelow inside
      by (inl h) = some_below inside v1 h
      by (inr (e, none)) = subst IsBelow (sym e) empty_below

-- ---- formulas and equations

module _ (s : Setting) (lets : LetsFit s) where
  -- Formulas that were read where `many` nodes were left, of which so many are left behind them; the last of them may be bare.
  record Kept (many : ℕ) (bare : Bool) (fs : List Formula) (left : ℕ) : Type 0 where
    good : bare ≡ false → All (IsFormulaFor s) fs
    counted : sum_by nodes fs + left ≡ many

  joined : (many mid left : ℕ) (bare after : Bool) (fs gs : List Formula) → bare ≡ false → Kept many bare fs mid → Kept mid after gs left → Kept many after (fs ++ gs) left
  joined many mid left bare after fs gs whole k l = record {
    good = λ e. All-append (IsFormulaFor s) fs gs (k.good whole) (l.good e);
    counted = omega (arith, sum_by-append nodes fs gs, k.counted, l.counted);
  }

  none_kept : (many : ℕ) → Kept many false [] many
  none_kept many = record { good = λ e. All-nil (IsFormulaFor s); counted = omega arith }

  one_kept : (many : ℕ) (x : Read) (ts : List Named) → AreKnown s.logic ts → OneFormula s many (Ok x) ts → Kept many x.is_bare (x.formula ∷ []) x.nodes_left
  one_kept many x ts known h =
      let k : FormulaKept s 0 MOST_DEPTH many x = formula_kept s MOST_DEPTH [] many x ts known h in
      record {
        good = λ e. All-cons (IsFormulaFor s) x.formula [] (record { fits = k.fits lets e; shallow = k.shallow; propositional = k.plain }) (All-nil (IsFormulaFor s));
        counted = omega (arith, sum_push nodes [] x.formula, k.counted);
      }

  known_in : (ts v w : List Named) → ts ≡ v ++ w → AreKnown s.logic ts → AreKnown s.logic v × AreKnown s.logic w
  known_in ts v w split known = let all = subst (AreKnown s.logic) split known in (known_front s.logic v w all, known_behind s.logic v w all)

  -- behind a phrase and a sign its last formula isn't bare
  sign_whole : (bare : Bool) (c : Class) (t : Named) (ts : List Named) → SignBehind bare c (Ok t) ts → bare ≡ false
  sign_whole bare c t ts h = (unbarred bare (is c) WRONG_ARITY (One (is c)) t ts h).0

  abbrev RowKept : ℕ → Formulas → Type 0
  RowKept many fs = Kept many fs.is_bare fs.list fs.nodes_left

  next_formula_kept : (many : ℕ) (a b : Formulas) (ts : List Named) → AreKnown s.logic ts → RowKept many a → CommaFormula (OneFormula s) a (Ok b) ts → RowKept many b
  next_formula_kept many a b ts known k h =
      let (whole, (comma, v, w, o, (x, is, f), split)) = unbarred a.is_bare (is Comma) WRONG_ARITY (Then (One (is Comma)) (λ _. Mapped (with_formula a.list) (OneFormula s a.nodes_left))) b ts h in
      subst (RowKept many) (sym is) (joined many a.nodes_left x.nodes_left a.is_bare x.is_bare a.list (x.formula ∷ []) whole k (one_kept a.nodes_left x w (known_in ts v w split known).1 f))

  formula_list_kept : (many : ℕ) (fs : Formulas) (ts : List Named) → AreKnown s.logic ts → FormulaList (OneFormula s) many (Ok fs) ts → RowKept many fs
  formula_list_kept many fs ts known (first, v, w, (x, is, f), g, split) =
      let (front, behind) = known_in ts v w split known in
      growing_keeps (AreKnown s.logic) (known_front s.logic) (known_behind s.logic) (CommaFormula (OneFormula s)) (RowKept many) (next_formula_kept many) first fs w behind (subst (RowKept many) (sym is) (one_kept many x v front f)) g

  premises_kept : (many : ℕ) (fs : Formulas) (ts : List Named) → AreKnown s.logic ts → Premises s many (Ok fs) ts → (fs.is_bare ≡ false) × RowKept many fs
  premises_kept many fs ts known (premises, v, w, f, (t, v1, w1, sign, (same, none), s1), split) =
      subst (λ (p : Formulas). (p.is_bare ≡ false) × RowKept many p) (sym same) (sign_whole premises.is_bare Turnstile t v1 sign, by f)
    where
      by : Optional (no_formulas many) (FormulaList (OneFormula s) many) (Ok premises) v → RowKept many premises
      by (inl h) = formula_list_kept many premises v (known_in ts v w split known).0 h
      by (inr (is, none)) = subst (RowKept many) (sym is) (none_kept many)

  -- ---- equations

  abbrev SidesKept : ℕ → EquationRead → Type 0
  SidesKept many x = Kept many x.is_bare (sides x.pair) x.nodes_left

  equation_kept : (many : ℕ) (x : EquationRead) (ts : List Named) → AreKnown s.logic ts → EquationPhrase s many (Ok x) ts → SidesKept many x
  equation_kept many x ts known (left, v, w, f, (t, v1, w1, sign, (right, is, g), s1), split) =
      let (front, behind) = known_in ts v w split known in
      subst (SidesKept many) (sym is) (joined many left.nodes_left right.nodes_left left.is_bare right.is_bare (left.formula ∷ []) (right.formula ∷ []) (sign_whole left.is_bare Equals t v1 sign) (one_kept many left v front f) (one_kept left.nodes_left right w1 (known_in w v1 w1 s1 behind).1 g))

  abbrev EquationsKept : ℕ → Equations → Type 0
  EquationsKept many xs = Kept many xs.is_bare (flat_map sides xs.list) xs.nodes_left

  next_equation_kept : (many : ℕ) (a b : Equations) (ts : List Named) → AreKnown s.logic ts → EquationsKept many a → CommaEquation s a (Ok b) ts → EquationsKept many b
  next_equation_kept many a b ts known k (t, v, w, sign, (x, is, f), split) =
      let more : flat_map sides (a.list ++ x.pair ∷ []) ≡ flat_map sides a.list ++ sides x.pair = flat_map-append sides a.list (x.pair ∷ []) in
      let both = joined many a.nodes_left x.nodes_left a.is_bare x.is_bare (flat_map sides a.list) (sides x.pair) (sign_whole a.is_bare Comma t v sign) k (equation_kept a.nodes_left x w (known_in ts v w split known).1 f) in
      subst (EquationsKept many) (sym is) (subst (λ (fs : List Formula). Kept many x.is_bare fs x.nodes_left) (sym more) both)

  equation_list_kept : (many : ℕ) (xs : Equations) (ts : List Named) → AreKnown s.logic ts → EquationList s many (Ok xs) ts → EquationsKept many xs
  equation_list_kept many xs ts known (first, v, w, (x, is, f), g, split) =
      let (front, behind) = known_in ts v w split known in
      growing_keeps (AreKnown s.logic) (known_front s.logic) (known_behind s.logic) (CommaEquation s) (EquationsKept many) (next_equation_kept many) first xs w behind (subst (EquationsKept many) (sym is) (equation_kept many x v front f)) g

  equation_premises_kept : (many : ℕ) (xs : Equations) (ts : List Named) → AreKnown s.logic ts → EquationPremises s many (Ok xs) ts → (xs.is_bare ≡ false) × EquationsKept many xs
  equation_premises_kept many xs ts known (premises, v, w, f, (t, v1, w1, sign, (same, none), s1), split) =
      subst (λ (p : Equations). (p.is_bare ≡ false) × EquationsKept many p) (sym same) (sign_whole premises.is_bare Turnstile t v1 sign, by f)
    where
      by : Optional (no_equations many) (EquationList s many) (Ok premises) v → EquationsKept many premises
      by (inl h) = equation_list_kept many premises v (known_in ts v w split known).0 h
      by (inr (is, none)) = subst (EquationsKept many) (sym is) (none_kept many)

  -- ---- queries

  -- what holds of the formulas of a query
  finished : (many left : ℕ) (query : Query) → Kept many false (formulas_of query) left → HasSetsBelow s.logic.size query → HasConclusion query → IsQueryFor s many query
  finished many left query k sets concludes =
      let all : All (IsFormulaFor s) (formulas_of query) = k.good refl in
      record {
        fits = record { formulas = All-weaker (IsFormulaFor s) (Fits s.logic) (λ f good. good.fits) (formulas_of query) all; sets = sets };
        concludes = concludes;
        shallow = All-weaker (IsFormulaFor s) (λ f. depth f ≤ MOST_DEPTH) (λ f good. good.shallow) (formulas_of query) all;
        small = omega (arith, k.counted);
        propositional = λ never. All-weaker (IsFormulaFor s) (λ f. has_quantifier f ≡ false) (λ f good. good.propositional never) (formulas_of query) all;
      }

  -- a list to which a formula is added has one
  pushed : (fs : List Formula) (f : Formula) → fs ++ f ∷ [] ≢ []
  pushed [] f e = cc
  pushed (g ∷ fs) f e = cc

  formula_list_some : (many : ℕ) (fs : Formulas) (ts : List Named) → FormulaList (OneFormula s) many (Ok fs) ts → fs.list ≢ []
  formula_list_some many fs ts (first, v, w, (x, tree, f), g, split) =
      growing_keeps (λ (u : List Named). Unit {0}) (λ u y known. tt) (λ u y known. tt) (CommaFormula (OneFormula s)) (λ (a : Formulas). a.list ≢ []) step first fs w tt (subst (λ (a : Formulas). a.list ≢ []) (sym tree) (pushed [] x.formula)) g
    where
      step : (a b : Formulas) (u : List Named) → Unit {0} → a.list ≢ [] → CommaFormula (OneFormula s) a (Ok b) u → b.list ≢ []
      step a b u known some h =
          let (whole, (comma, v1, w1, o, (y, same, i), s1)) = unbarred a.is_bare (is Comma) WRONG_ARITY (Then (One (is Comma)) (λ _. Mapped (with_formula a.list) (OneFormula s a.nodes_left))) b u h in
          subst (λ (c : Formulas). c.list ≢ []) (sym same) (pushed a.list y.formula)

  abbrev QueryKept : ℕ → QueryRead → Type 0
  QueryKept many x = x.is_bare ≡ false → IsQueryFor s many x.query

  whole : (many : ℕ) (bare : Bool) (fs : List Formula) (left : ℕ) → bare ≡ false → Kept many bare fs left → Kept many false fs left
  whole many bare fs left e k = subst (λ (b : Bool). Kept many b fs left) e k

  designated_below : IsLogic s.logic → IsBelow s.logic s.logic.designated
  designated_below logic = subst (IsBelow s.logic) (sym logic.designated) (mask_below s.logic.size (has s.logic.designated))

  entail_kept : IsLogic s.logic → (many : ℕ) (x : QueryRead) (ts : List Named) → AreKnown s.logic ts → EntailQuery s many (Ok x) ts → QueryKept many x
  entail_kept logic many x ts known (t, v, w, o, (premises, v1, w1, f, (right, is, g), s1), split) =
      let (front, behind) = known_in w v1 w1 s1 (known_in ts v w split known).1 in
      let (closed, k) = premises_kept many premises v1 front f in
      let query : Query = (entailment s.logic premises.list right).query in
      let all = joined many premises.nodes_left right.nodes_left premises.is_bare right.is_bare premises.list (right.formula ∷ []) closed k (one_kept premises.nodes_left right w1 behind g) in
      subst (QueryKept many) (sym is) (λ e. finished many right.nodes_left query (whole many right.is_bare (formulas_of query) right.nodes_left e all) (designated_below logic, designated_below logic) (pushed [] right.formula))

  mixed_kept : (many : ℕ) (x : QueryRead) (ts : List Named) → AreKnown s.logic ts → MixedQuery s many (Ok x) ts → QueryKept many x
  mixed_kept many x ts known (t, v, w, o, (given, v1, w1, set, (c, v2, w2, o2, (wanted, v3, w3, other, (d, v4, w4, o4, (premises, v5, w5, f, (conclusions, is, g), s5), s4), s3), s2), s1), split) =
      let inside : AreKnown s.logic w4 = (known_in w3 v4 w4 s4 (known_in w2 v3 w3 s3 (known_in w1 v2 w2 s2 (known_in w v1 w1 s1 (known_in ts v w split known).1).1).1).1).1 in
      let (front, behind) = known_in w4 v5 w5 s5 inside in
      let (closed, k) = premises_kept many premises v5 front f in
      let query : Query = (mixed_entailment given wanted premises.list conclusions).query in
      let all = joined many premises.nodes_left conclusions.nodes_left premises.is_bare conclusions.is_bare premises.list conclusions.list closed k (formula_list_kept premises.nodes_left conclusions w5 behind g) in
      let below : HasSetsBelow s.logic.size query = (set_below s.logic given (map (λ (n : Named). n.spelled) v1) set, set_below s.logic wanted (map (λ (n : Named). n.spelled) v3) other) in
      subst (QueryKept many) (sym is) (λ e. finished many conclusions.nodes_left query (whole many conclusions.is_bare (formulas_of query) conclusions.nodes_left e all) below (formula_list_some premises.nodes_left conclusions w5 g))

  equation_query_kept : (many : ℕ) (x : QueryRead) (ts : List Named) → AreKnown s.logic ts → EquationQuery s many (Ok x) ts → QueryKept many x
  equation_query_kept many x ts known (t, v, w, o, (pair, is, f), split) =
      let k = equation_kept many pair w (known_in ts v w split known).1 f in
      subst (QueryKept many) (sym is) (λ e. finished many pair.nodes_left (Equation pair.pair) (whole many pair.is_bare (sides pair.pair) pair.nodes_left e k) tt tt)

  quasi_kept : (many : ℕ) (x : QueryRead) (ts : List Named) → AreKnown s.logic ts → QuasiQuery s many (Ok x) ts → QueryKept many x
  quasi_kept many x ts known (t, v, w, o, (premises, v1, w1, f, (right, is, g), s1), split) =
      let (front, behind) = known_in w v1 w1 s1 (known_in ts v w split known).1 in
      let (closed, k) = equation_premises_kept many premises v1 front f in
      let query : Query = (quasi_equation premises.list right).query in
      let all = joined many premises.nodes_left right.nodes_left premises.is_bare right.is_bare (flat_map sides premises.list) (sides right.pair) closed k (equation_kept premises.nodes_left right w1 behind g) in
      subst (QueryKept many) (sym is) (λ e. finished many right.nodes_left query (whole many right.is_bare (formulas_of query) right.nodes_left e all) tt tt)

  -- a query of the grammar that isn't bare
  pub query_kept : IsLogic s.logic → (many : ℕ) (x : QueryRead) (ts : List Named) → AreKnown s.logic ts → OneQuery s many (Ok x) ts → QueryKept many x
  query_kept logic many x ts known (inl h) = entail_kept logic many x ts known h
  query_kept logic many x ts known (inr (inl h)) = mixed_kept many x ts known h
  query_kept logic many x ts known (inr (inr (inl h))) = equation_query_kept many x ts known h
  query_kept logic many x ts known (inr (inr (inr h))) = quasi_kept many x ts known h

-- ---- query files

module _ (logic : Logic) (is_logic : IsLogic logic) where
  next_query_kept : (a b : List Query) (ts : List Named) → AreKnown logic ts → All (IsFileQuery logic) a → NextQuery logic a (Ok b) ts → All (IsFileQuery logic) b
  next_query_kept a b ts known all (x, v, w, h, ends, split) =
      let (bare, counted) = unbarred x.is_bare (is Dot) WRONG_ARITY (Barred (has_too_many_goals logic.size x.query) (is Dot) TOO_MANY_GOALS (QueryEnd a x.query)) b w ends in
      let (few, (t, v1, w1, o, (same, none), s1)) = unbarred (has_too_many_goals logic.size x.query) (is Dot) TOO_MANY_GOALS (QueryEnd a x.query) b w counted in
      let kept = query_kept (file_setting logic) tt is_logic MOST_NODES x v (known_in (file_setting logic) tt ts v w split known).0 h bare in
      let query : IsFileQuery logic x.query = record { query_for = kept; goals = ltb-false MOST_GOALS (goal_count logic.size x.query) few } in
      subst (All (IsFileQuery logic)) (sym same) (All-push (IsFileQuery logic) a x.query all query)

  pub queries_kept : (queries : List Query) (ts : List Named) → AreKnown logic ts → Queries logic (Ok queries) ts → All (IsFileQuery logic) queries
  queries_kept queries ts known h = growing_keeps (AreKnown logic) (known_front logic) (known_behind logic) (NextQuery logic) (All (IsFileQuery logic)) next_query_kept [] queries ts known (All-nil (IsFileQuery logic)) h
