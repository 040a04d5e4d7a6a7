-- The formula of an entry: it is an atom, and its first token says which.
use Rattle.std.proofs.Common.{◌≡◌, ◌≢◌, ℕ, zero, suc, Bool, true, false, List, [], ◌∷◌, ◌++◌, map, All, Option, Some, None, Result, Ok, Err, refl, sym, ap, subst, ◌∙◌, inl, inr}
use Rattle.std.proofs.lemmas.Bool.Decides.{not_from_Decides}
use Rattle.std.proofs.lemmas.List.Elements.{All-nil, All-cons}
use Rattle.lgc_grammar.specs.Grammar.{Why, Breaks}
use Rattle.lgc_grammar.specs.Reading.{next_is}
use Rattle.lgc_grammar.specs.Seen.{seen_read}
use Rattle.lgc_grammar.proofs.Readers.{begins, or_left, or_right, ok_tree}
use Rattle.lgc_lexer.specs.declared.token.Token.{Token}
use Rattle.lgc_syntax.specs.declared.fault.TheConstants.{UNEXPECTED}
use Rattle.lgc_syntax.specs.declared.formula.Formula.{Formula}
use Rattle.lgc_syntax.specs.Equality.{same_formula}
use Rattle.lgc_syntax.proofs.EqualityLaws.{same_formula-Decides}
use Rattle.lgc_meaning.specs.Valuations.{is_atom}
use Rattle.lgc_meaning.proofs.Places.{is_atom-Atom}
use Rattle.lgc_tokens.specs.declared.stop.Stop.{Stop}
use Rattle.lgc_tokens.specs.Gives.{FailsAs}
use Rattle.lgc_tokens.proofs.Stops.{fails_through_as}
use Rattle.lgc_formulas.specs.declared.formula.Read.{Read}
use Rattle.lgc_formulas.specs.declared.formula.TheConstants.{MOST_DEPTH, MOST_NODES}
use Rattle.lgc_formulas.specs.Named.{Named, text_of, is_hash, is_quantifier, is_predicate, starts_operator}
use Rattle.lgc_formulas.specs.Named as formulas
use Rattle.lgc_formulas.specs.Setting.{Setting, numbered}
use Rattle.lgc_formulas.specs.FormulaGrammar.{FormulaPhrase}
use Rattle.lgc_formulas.specs.FormulaReading.{one_formula_at}
use Rattle.lgc_formulas.proofs.TermReads.{or_is}
use Rattle.lgc_formulas.proofs.FormulaReads.{off_hash, off_operator, off_quantifier}
use Rattle.lgc_report_reader.specs.Reported.{Reported, formula_read, reported, reported_all, starts_formula, is_listed, lists_here}
use Rattle.lgc_report_reader.specs.Starting.{MayStart}
use Rattle.lgc_report_reader.specs.ReportGrammar.{FormulaHere}
use Rattle.lgc_report_reader.specs.ReportReading.{formula_here_at, entry_atom_at}
use Rattle.lgc_report_reader.proofs.ReportedTokens.{named_reported}
use Rattle.lgc_report_reader.proofs.ReportReads.{formula_here_reads}

-- ---- a formula that begins with the name of a predicate

-- the first token of a part is that of all
head_is : (t head : Named) (ts v w : List Named) → t ∷ ts ≡ v ++ w → v ≡ head ∷ [] → head ≡ t
head_is t head ts v w split one = let both : t ∷ ts ≡ head ∷ w = split ∙ ap (λ (u : List Named). u ++ w) one in cc

apart : (test : Named → Bool) (t head : Named) → head ≡ t → test t ≡ false → test head ≡ true → ⊥
apart test t head same off on = let there = subst (λ (u : Named). test u ≡ true) same on in cc

phrase_is_atom : (s : Setting) (deep : ℕ) (names : List (List ℕ)) (many : ℕ) (x : Read) (t : Named) (ts : List Named) → is_predicate t ≡ true → FormulaPhrase s deep names many (Ok x) (t ∷ ts) → (is_atom x.formula ≡ true) × (x.is_bare ≡ false)
phrase_is_atom s zero names many x t ts name h = absurd h
phrase_is_atom s (suc deep) names many x t ts name (inl (head, v, w, (passes, none, one), behind, split)) =
    absurd (apart starts_operator t head (head_is t head ts v w split one) (off_operator (numbered s) t (or_is (is_quantifier t) _ (or_is (is_hash (numbered s) t) _ name))) passes)
phrase_is_atom s (suc deep) names many x t ts name (inr (inl (head, v, w, (passes, none, one), behind, split))) =
    absurd (apart is_quantifier t head (head_is t head ts v w split one) (off_quantifier (numbered s) t (or_is (is_hash (numbered s) t) _ name)) passes)
phrase_is_atom s (suc deep) names many x t ts name (inr (inr (inl (head, v, w, (passes, none, one), behind, split)))) =
    absurd (apart (is_hash (numbered s)) t head (head_is t head ts v w split one) (off_hash (numbered s) t name) passes)
phrase_is_atom s (suc deep) names many x t ts name (inr (inr (inr (head, v, w, f, (terms, v1, w1, g, (tree, empty), s1), split)))) =
    subst (λ (y : Read). (is_atom y.formula ≡ true) × (y.is_bare ≡ false)) (sym tree) (is_atom-Atom (text_of head) terms.0, refl)

pub read_is_atom : (n : ℕ) (s : Setting) (t : Reported) (ts rest : List Reported) (x : Read) → formulas.is_predicate t.named ≡ true → formula_here_at s (t ∷ ts) ≡ Ok (x, rest) → is_atom x.formula ≡ true
read_is_atom n s t ts rest x name e =
    let reads = formula_here_reads n s in
    let k = reads.took (t ∷ ts) x rest e in
    by k.front k.split k.phrase (begins reads k.front (reads.is_plain x k.front k.phrase))
  where
    by : (front : List Reported) → t ∷ ts ≡ front ++ rest → FormulaHere n s (Ok x) front → next_is (starts_formula s) front ≡ true → is_atom x.formula ≡ true
    by [] split h some = absurd cc
    by (u ∷ front) split h some =
        let same : t ≡ u = cc in
        (phrase_is_atom s MOST_DEPTH [] MOST_NODES x u.named (map (λ (v : Reported). v.named) front) (subst (λ (v : Reported). is_predicate v.named ≡ true) same name) h).0

-- what an entry begins with is an atom
pub atom_whole : (n : ℕ) (s : Setting) (fault : Reported → Option ℕ) (x : Read) (ts : List Reported) → MayStart (λ (t : Reported). formulas.is_predicate t.named) fault ts → FormulaHere n s (Ok x) ts → x.is_bare ≡ false
atom_whole n s fault x [] begin h = absurd begin
atom_whole n s fault x (t ∷ ts) (name, unbroken) h = (phrase_is_atom s MOST_DEPTH [] MOST_NODES x t.named (map (λ (v : Reported). v.named) ts) name h).1

-- ---- the formula that a token says

seen_tells : (ts : List Reported) (r : Result (Read × List Named) (List Named × Why)) (x : Read) (rest : List Reported) → seen_read ts r ≡ Ok (x, rest) → formula_read r ≡ Some x.formula
seen_tells ts (Ok y) x rest e = let same : y.0 ≡ x = ok_tree e in rw same refl
seen_tells ts (Err d) x rest e = absurd cc

-- where a formula is read, the token says it
pub token_tells : (s : Setting) (bytes : List ℕ) (t : Token) (ts : List Token) (x : Read) (rest : List Reported) → formula_here_at s (reported_all s bytes (t ∷ ts)) ≡ Ok (x, rest) → (reported s bytes t ts).formula_here ≡ Some x.formula
unfolding formula_here_at
token_tells s bytes t ts x rest e =
    ap (λ (u : List Named). formula_read (one_formula_at s MOST_NODES u)) (sym (named_reported s bytes (t ∷ ts))) ∙ seen_tells (reported_all s bytes (t ∷ ts)) (one_formula_at s MOST_NODES (map (λ (v : Reported). v.named) (reported_all s bytes (t ∷ ts)))) x rest e

-- where none is, it says none
seen_fails : (ts : List Reported) (r : Result (Read × List Named) (List Named × Why)) (d : List Reported × Why) → seen_read ts r ≡ Err d → formula_read r ≡ None
seen_fails ts (Ok y) d e = absurd cc
seen_fails ts (Err c) d e = refl

pub token_silent : (s : Setting) (bytes : List ℕ) (t : Token) (ts : List Token) (d : List Reported × Why) → formula_here_at s (reported_all s bytes (t ∷ ts)) ≡ Err d → (reported s bytes t ts).formula_here ≡ None
unfolding formula_here_at
token_silent s bytes t ts d e =
    ap (λ (u : List Named). formula_read (one_formula_at s MOST_NODES u)) (sym (named_reported s bytes (t ∷ ts))) ∙ seen_fails (reported_all s bytes (t ∷ ts)) (one_formula_at s MOST_NODES (map (λ (v : Reported). v.named) (reported_all s bytes (t ∷ ts)))) d e

-- ---- listed atoms

-- an atom that isn't listed is none of those that are
pub unlisted : (entries : List (Formula × ℕ)) (f : Formula) → is_listed entries f ≡ false → All (λ entry. entry.0 ≢ f) entries
unlisted [] f h = All-nil (λ (entry : Formula × ℕ). entry.0 ≢ f)
unlisted (e ∷ entries) f h =
    let differs = not_from_Decides (same_formula f e.0) (same_formula-Decides f e.0) (or_left (same_formula f e.0) (is_listed entries f) h) in
    All-cons (λ (entry : Formula × ℕ). entry.0 ≢ f) e entries (λ same. differs (sym same)) (unlisted entries f (or_right (same_formula f e.0) (is_listed entries f) h))

-- ---- what is read of an entry's atom, where the name of a predicate is next

module _ (n : ℕ) (s : Setting) (bytes : List ℕ) (entries : List (Formula × ℕ)) where
  abbrev reports : List Token → List Reported
  reports ts = reported_all s bytes ts

  abbrev IsNamed : List Token → Type 0
  IsNamed ts = next_is (λ (t : Reported). formulas.is_predicate t.named) (reports ts) ≡ true

  pub atom_read : (ts : List Token) (x : Read) (rest : List Reported) → IsNamed ts → formula_here_at s (reports ts) ≡ Ok (x, rest) → is_listed entries x.formula ≡ false → entry_atom_at n s entries (reports ts) ≡ Ok (x, rest)
  unfolding entry_atom_at
  atom_read [] x rest name e new = absurd cc
  atom_read (t ∷ ts) x rest name e new =
      let told : lists_here entries (reported s bytes t ts).formula_here ≡ false = ap (lists_here entries) (token_tells s bytes t ts x rest e) ∙ new in
      rw (name, told) e

  pub atom_listed : (ts : List Token) (x : Read) (rest : List Reported) → IsNamed ts → formula_here_at s (reports ts) ≡ Ok (x, rest) → is_listed entries x.formula ≡ true → entry_atom_at n s entries (reports ts) ≡ Err (reports ts, Breaks UNEXPECTED)
  unfolding entry_atom_at
  atom_listed [] x rest name e old = absurd cc
  atom_listed (t ∷ ts) x rest name e old =
      let told : lists_here entries (reported s bytes t ts).formula_here ≡ true = ap (lists_here entries) (token_tells s bytes t ts x rest e) ∙ old in
      rw (name, told) refl

  atom_stops : (ts : List Token) (d : List Reported × Why) → IsNamed ts → formula_here_at s (reports ts) ≡ Err d → entry_atom_at n s entries (reports ts) ≡ Err d
  unfolding entry_atom_at
  atom_stops [] d name e = absurd cc
  atom_stops (t ∷ ts) d name e =
      let told : lists_here entries (reported s bytes t ts).formula_here ≡ false = ap (lists_here entries) (token_silent s bytes t ts d e) in
      rw (name, told) e

  pub atom_fails : (ts : List Token) (e : Stop) → IsNamed ts → FailsAs reports e (formula_here_at s (reports ts)) → FailsAs reports e (entry_atom_at n s entries (reports ts))
  atom_fails ts e name h = fails_through_as reports e (formula_here_at s (reports ts)) (entry_atom_at n s entries (reports ts)) (λ d f. atom_stops ts d name f) h

  pub atom_is : (ts : List Token) (x : Read) (rest : List Reported) → IsNamed ts → formula_here_at s (reports ts) ≡ Ok (x, rest) → is_atom x.formula ≡ true
  atom_is [] x rest name e = absurd cc
  atom_is (t ∷ ts) x rest name e = read_is_atom n s (reported s bytes t ts) (reports ts) rest x name e
