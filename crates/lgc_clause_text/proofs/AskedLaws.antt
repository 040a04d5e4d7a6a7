-- The formulas of goals of queries that are asked can be translated, and their atoms are no deeper.
use Rattle.std.proofs.Common.{ℕ, ◌<◌, ◌≤◌, ◌^◌, max, List, [], ◌∷◌, map, get_or, sym, subst, arith}
use Rattle.std.specs.Prelude.{All}
use Rattle.std.specs.List.{Contains, AllByRecursion, flat_map}
use Rattle.std.proofs.lemmas.List.Elements.{All-nil, All-cons, All-append, All-weaker}
use Rattle.std.proofs.lemmas.Option.{slice_get-get_or}
use Rattle.lgc_values.specs.Logic.{Logic}
use Rattle.lgc_syntax.specs.declared.formula.Formula.{Formula, Atom, Op, Quant}
use Rattle.lgc_syntax.specs.Sizes.{greatest, depth}
use Rattle.lgc_syntax.proofs.Induction.{formula_induction}
use Rattle.lgc_syntax.proofs.SizeLaws.{depth-Op, depth-Quant}
use Rattle.lgc_sequents.specs.Signed.{SignedFormula}
use Rattle.lgc_meaning.specs.declared.query.Query.{Query}
use Rattle.lgc_meaning.specs.Valuations.{atom_places}
use Rattle.lgc_meaning.proofs.Places.{All-each_once, atom_places-Atom, atom_places-Op, atom_places-Quant}
use Rattle.lgc_goals.specs.Goals.{goals_of}
use Rattle.lgc_goals.proofs.GoalFormulas.{all_of_goal_at}
use Rattle.lgc_queries.specs.Asked.{IsAsked}
use Rattle.lgc_clause_sets.proofs.AmongLaws.{among_all, among_from_contains}
use Rattle.lgc_translate.specs.SignedClauses.{atoms_in, IsClauseOver}
use Rattle.lgc_clause_text.specs.Put.{IsTranslatable}

-- ---- goals of a query that is asked

pub goals_translatable : (logic : Logic) (query : Query) → IsAsked logic query → All (λ goal. All (λ item. IsTranslatable logic item.formula) goal) (goals_of logic.size query)
goals_translatable logic query asked i d lt =
    all_of_goal_at (IsTranslatable logic) logic.size query i (get_or (goals_of logic.size query) i d) (slice_get-get_or (goals_of logic.size query) i d lt)
    (λ k f within. record {
      fits = asked.writable.query_for.fits.formulas k f within;
      propositional = asked.propositional k f within;
      shallow = omega (arith, asked.writable.query_for.shallow k f within);
    })

-- ---- atoms are no deeper than their formula

deep_part : (depths : List ℕ) (i : ℕ) → AllByRecursion (λ k. k ≤ greatest depths) depths
deep_part [] i = tt
deep_part (k ∷ depths) i = (omega arith, weaker depths (deep_part depths i)) where
  weaker : (others : List ℕ) → AllByRecursion (λ j. j ≤ greatest depths) others → AllByRecursion (λ j. j ≤ max k (greatest depths)) others
  weaker [] each = tt
  weaker (j ∷ others) each = (omega (arith, each.0), weaker others each.1)

abbrev IsDeepest : Formula → Type 0
IsDeepest f = All (λ atom. depth atom ≤ depth f) (atom_places f)

atoms_of_arguments : (bound : ℕ) (args : List Formula) → AllByRecursion IsDeepest args → AllByRecursion (λ k. k ≤ bound) (map depth args) → All (λ atom. depth atom ≤ bound) (flat_map atom_places args)
atoms_of_arguments bound [] each below = All-nil (λ atom. depth atom ≤ bound)
atoms_of_arguments bound (arg ∷ args) each below =
    All-append (λ atom. depth atom ≤ bound) (atom_places arg) (flat_map atom_places args)
    (All-weaker (λ atom. depth atom ≤ depth arg) (λ atom. depth atom ≤ bound) (λ atom le. omega (arith, le, below.0)) (atom_places arg) each.0)
    (atoms_of_arguments bound args each.1 below.1)

atoms_shallow : (f : Formula) → IsDeepest f
atoms_shallow = formula_induction IsDeepest
    (λ p args. subst (All (λ atom. depth atom ≤ depth (Atom p args))) (sym (atom_places-Atom p args)) (All-cons (λ atom. depth atom ≤ depth (Atom p args)) (Atom p args) [] (omega arith) (All-nil (λ atom. depth atom ≤ depth (Atom p args)))))
    (λ op args each. subst (All (λ atom. depth atom ≤ depth (Op op args))) (sym (atom_places-Op op args))
    (All-weaker (λ atom. depth atom ≤ greatest (map depth args)) (λ atom. depth atom ≤ depth (Op op args)) (λ atom le. omega (arith, le, depth-Op op args)) (flat_map atom_places args)
    (atoms_of_arguments (greatest (map depth args)) args each (deep_part (map depth args) 0))))
    (λ q body all. subst (All (λ atom. depth atom ≤ depth (Quant q body))) (sym (atom_places-Quant q body)) (All-weaker (λ atom. depth atom ≤ depth body) (λ atom. depth atom ≤ depth (Quant q body)) (λ atom le. omega (arith, le, depth-Quant q body)) (atom_places body) all))

-- so the atoms of clauses can be written where the formula can
pub clauses_shallow : (n : ℕ) (f : Formula) (clauses : List (List SignedFormula)) → depth f < 2 ^ 32 → All (IsClauseOver n f) clauses → All (λ clause. All (λ item. depth item.formula < 2 ^ 32) clause) clauses
clauses_shallow n f clauses shallow formed =
    let atoms : All (λ atom. depth atom ≤ depth f) (atoms_in f) = All-each_once (λ atom. depth atom ≤ depth f) [] (atom_places f) (All-nil (λ atom. depth atom ≤ depth f)) (atoms_shallow f) in
    All-weaker (IsClauseOver n f) (λ clause. All (λ item. depth item.formula < 2 ^ 32) clause)
    (λ clause over. All-weaker (λ item. Contains (atoms_in f) item.formula) (λ item. depth item.formula < 2 ^ 32)
    (λ item there. let le = among_all (λ atom. depth atom ≤ depth f) (atoms_in f) item.formula atoms (among_from_contains (atoms_in f) item.formula there) in omega (arith, le, shallow)) clause over.atoms) clauses formed
