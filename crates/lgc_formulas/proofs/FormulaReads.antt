-- The readers of formulas read their grammar.
use Rattle.std.proofs.Common.{◌≡◌, ℕ, zero, suc, ◌-◌, Bool, true, false, List, [], ◌∷◌, ◌++◌, Option, Result, Ok, Err, refl, sym, inl, inr, ◌⊎◌, append-nil}
use Rattle.std.specs.Prelude.{◌||◌}
use Rattle.lgc_grammar.specs.Grammar.{Grammar, Language, Allowed, Nothing, Then, Either, PlainOne, PlainNothing, PlainThen, PlainEither, PlainOptional, IsFront}
use Rattle.lgc_grammar.specs.Reading.{Reader, next_is, allowed_at, nothing_at, then_at, either_at}
use Rattle.lgc_grammar.specs.Seen.{Seen, PlainSeen}
use Rattle.lgc_grammar.proofs.Readers.{Reads, Must, May, never, same_reads, must_start, goes_with}
use Rattle.lgc_grammar.proofs.SameReaders.{same_reader, never_first}
use Rattle.lgc_grammar.proofs.Basic.{map_reads, nothing_reads}
use Rattle.lgc_grammar.proofs.AllowedTokens.{allowed_reads}
use Rattle.lgc_grammar.proofs.Sequences.{then_reads, then_reads_if}
use Rattle.lgc_grammar.proofs.Choices.{either_reads, optional_reads}
use Rattle.lgc_grammar.proofs.RefusedTokens.{IsFirst, refused_reads, barred_reads}
use Rattle.lgc_grammar.proofs.SeenTokens.{seen_reads}
use Rattle.lgc_values.specs.Logic.{operator_at}
use Rattle.lgc_syntax.specs.declared.fault.TheConstants.{WRONG_ARITY}
use Rattle.lgc_syntax.specs.declared.formula.Formula.{Atom, Op, Quant}
use Rattle.lgc_tokens.specs.declared.class.Class.TheVariants.{Upper, Hash, OpenRound, CloseRound, Comma}
use Rattle.lgc_tokens.specs.Classes.{same}
use Rattle.lgc_formulas.specs.declared.role.Role.TheVariants.{Neither}
use Rattle.lgc_formulas.specs.declared.formula.Read.{Read}
use Rattle.lgc_formulas.specs.Named.{Named, text_of, operator_of, quantifier_of, quantifiers, predicates, begins_operator, is, is_number, is_quantifier, is_predicate, is_hash, starts_operator, starts_formula}
use Rattle.lgc_formulas.specs.Setting.{Setting, numbered}
use Rattle.lgc_formulas.specs.Faults.{formula_fault, depth_fault, let_of, number_fault}
use Rattle.lgc_formulas.specs.TermGrammar.{Terms, TermPhrase}
use Rattle.lgc_formulas.specs.PlainTerms.{PlainTerms, no_terms}
use Rattle.lgc_formulas.specs.declared.formula.Formulas.{Formulas}
use Rattle.lgc_formulas.specs.FormulaGrammar.{as_whole, as_bare, with_formula, numbered_formula, ends_argument, MoreOperands, Operands, BehindOperator, OperatorFormula, CloseQuantifier, QuantifierFormula, AtomFormula, FormulaPhrase, OneFormula}
use Rattle.lgc_formulas.specs.PlainFormulas.{PlainFormula, PlainOperands, PlainMoreOperands, operator, quantified, hash, atom, no_operands, some_operands, closed, another}
use Rattle.lgc_formulas.specs.FormulaReading.{more_operands_at, operands_at, behind_operator_at, operator_formula_at, close_quantifier_at, quantifier_formula_at, numbered_formula_at, atom_terms_at, atom_formula_at, formula_at, one_formula_at}
use Rattle.lgc_formulas.proofs.Tables.{off, off_class, with_role, token, token_is, operator_token, operator_is, quantifier_token, quantifier_is, predicate_token, predicate_is, number_token, number_is, one, allowed}
use Rattle.lgc_formulas.proofs.TermReads.{or_is, is_or, term_reads, terms_read}

swapped : {A B : Type 0} → A ⊎ B → B ⊎ A
swapped (inl a) = inr a
swapped (inr b) = inl b

-- ---- operands

module _ (numbered : Bool) where
  abbrev P : Language Named
  P = PlainFormula numbered

  abbrev More : Language Named
  More = PlainMoreOperands numbered

  abbrev CommaMore : Language Named
  CommaMore = PlainThen (PlainOne (is Comma)) (PlainThen P More)

  to_more : (ts : List Named) → PlainEither CommaMore (PlainOne (is CloseRound)) ts → More ts
  to_more ts (inl (v, w, (t, (passes, e)), (x, y, f, g, s), split)) = rw (split, e, s) (another t x y passes f g)
  to_more ts (inr (t, (passes, e))) = rw e (closed t passes)

  from_more : (ts : List Named) → More ts → PlainEither CommaMore (PlainOne (is CloseRound)) ts
  from_more ts (closed t passes) = inr (t, (passes, refl))
  from_more ts (another t v w passes f g) = inl (t ∷ [], v ++ w, (t, (passes, refl)), (v, w, f, g, refl), refl)

  -- the name of an operator alone, and a bracket that closes
  pub a_formula : P (operator_token ∷ [])
  a_formula = operator operator_token [] operator_is no_operands

  pub closing : List Named
  closing = operator_token ∷ (token CloseRound ∷ [])

  pub a_closing : PlainThen P More closing
  unfolding closing
  a_closing = (operator_token ∷ [], token CloseRound ∷ [], a_formula, closed (token CloseRound) (token_is CloseRound), refl)

  comma_first : IsFirst CommaMore (is Comma)
  comma_first = record {
    each = λ ts h. let (v, w, (t, (passes, e)), rest, split) = h in rw (split, e) passes;
    each_token = λ t passes. (closing, (t ∷ [], closing, (t, (passes, refl)), a_closing, refl));
  }

  close_first : IsFirst (PlainOne (is CloseRound)) (is CloseRound)
  close_first = record { each = λ ts h. let (t, (passes, e)) = h in rw e passes; each_token = λ t passes. ([], (t, (passes, refl))) }

  each_end : (t : Named) → ends_argument t ≡ true → IsFront More (t ∷ [])
  each_end t h = by (is Comma t) refl h
    where
      by : (b : Bool) → is Comma t ≡ b → (b || is CloseRound t) ≡ true → IsFront More (t ∷ [])
      by true e k = let (v, g) = comma_first.each_token t e in (v, to_more (t ∷ v) (inl g))
      by false e k = ([], closed t k)

  flipped : (t : Named) → ends_argument t ≡ false → (is CloseRound t || is Comma t) ≡ false
  flipped t h = by (is Comma t) (is CloseRound t) h
    where
      by : (b c : Bool) → (b || c) ≡ false → (c || b) ≡ false
      by true c e = absurd cc
      by false true e = absurd cc
      by false false e = refl

  abbrev pub InBrackets : Language Named
  InBrackets = PlainThen (PlainOne (is OpenRound)) (PlainThen P More)

  pub open_first : IsFirst InBrackets (is OpenRound)
  open_first = record {
    each = λ ts h. let (v, w, (t, (passes, e)), rest, split) = h in rw (split, e) passes;
    each_token = λ t passes. (closing, (t ∷ [], closing, (t, (passes, refl)), a_closing, refl));
  }

  pub to_operands : (ts : List Named) → PlainOptional InBrackets ts → PlainOperands numbered ts
  to_operands ts (inr e) = rw e no_operands
  to_operands ts (inl (x, y, (o, (passes, e)), (v, w, f, g, s), split)) = rw (split, e, s) (some_operands o v w passes f g)

  pub from_operands : (ts : List Named) → PlainOperands numbered ts → PlainOptional InBrackets ts
  from_operands ts no_operands = inr refl
  from_operands ts (some_operands o v w passes f g) = inl (o ∷ [], v ++ w, (o, (passes, refl)), (v, w, f, g, refl), refl)

  -- an example of what begins with a token of the class
  pub begun : {Q : Language Named} {first : Named → Bool} → IsFirst Q first → (t : Named) → first t ≡ true → (v : List Named) × Q v
  begun is_first t passes = let (v, h) = is_first.each_token t passes in ((t ∷ []) ++ v, h)

  module _ {p : ℕ → Reader Named Read} {L : ℕ → Grammar Named Read} (reads : (many : ℕ) → Reads (p many) (L many) P (Must (starts_formula numbered)) (is OpenRound)) where
    more_operands_read : (k : ℕ) (before : Formulas) → Reads (more_operands_at p k before) (MoreOperands L k before) More (Must ends_argument) never
    unfolding more_operands_at
    more_operands_read zero before =
        barred_reads before.is_bare WRONG_ARITY (same_reads
        (either_reads
        (refused_reads (before.list, before.nodes_left) (is Comma) (λ _. WRONG_ARITY) never comma_first (begun comma_first (token Comma) (token_is Comma)))
        (map_reads (λ _. (before.list, before.nodes_left)) (one CloseRound))
        (off_class (same CloseRound) (λ c. same Comma c) refl))
        (λ r ts h. h) (λ r ts h. h) to_more from_more) each_end
    more_operands_read (suc k) before =
        barred_reads before.is_bare WRONG_ARITY (same_reads (must_start
        (either_reads
        (refused_reads (before.list, before.nodes_left) (is CloseRound) (λ _. WRONG_ARITY) never close_first (begun close_first (token CloseRound) (token_is CloseRound)))
        (then_reads (one Comma) (λ _.
        then_reads_if (reads before.nodes_left) (λ x.
        more_operands_read k (with_formula before.list x))
        (off_class (λ c. same Comma c || same CloseRound c) (same OpenRound) refl)))
        (off_class (same Comma) (same CloseRound) refl))
        ends_argument flipped)
        (λ r ts h. h) (λ r ts h. h) (λ ts h. to_more ts (swapped h)) (λ ts h. swapped (from_more ts h))) each_end

    pub operands_read : (k many : ℕ) → Reads (operands_at p k many) (Operands L k many) InBrackets (Must (is OpenRound)) never
    unfolding operands_at
    operands_read k many =
        then_reads (one OpenRound) (λ _.
        then_reads_if (reads many) (λ x.
        more_operands_read k (with_formula [] x))
        (off_class (λ c. same Comma c || same CloseRound c) (same OpenRound) refl))

    behind_operator_reads : (arity op many : ℕ) → Reads (behind_operator_at p arity op many) (BehindOperator L arity op many) (PlainOperands numbered) (May (is OpenRound)) (is OpenRound)
    unfolding behind_operator_at
    behind_operator_reads zero op many =
        same_reads (goes_with
        (optional_reads (as_whole (Op op []) many) (refused_reads (as_whole (Op op []) many) (is OpenRound) (λ _. WRONG_ARITY) never open_first (begun open_first (token OpenRound) (token_is OpenRound))))
        (is OpenRound) (λ t h. rw h refl)) (λ r ts h. h) (λ r ts h. h) to_operands from_operands
    behind_operator_reads (suc k) op many =
        same_reads (goes_with
        (optional_reads (as_bare op many) (map_reads (λ x. as_whole (Op op x.0) x.1) (operands_read k many)))
        (is OpenRound) (λ t h. rw h refl)) (λ r ts h. h) (λ r ts h. h) to_operands from_operands

    operator_formula_reads : (s : Setting) (fault : Named → Option ℕ) (many : ℕ) → Reads (operator_formula_at p s fault many) (OperatorFormula L s fault many) (PlainThen (PlainOne starts_operator) (PlainOperands numbered)) (Must starts_operator) (is OpenRound)
    unfolding operator_formula_at
    operator_formula_reads s fault many =
        then_reads (allowed_reads starts_operator fault operator_token operator_is) (λ head.
        behind_operator_reads (operator_at s.logic (operator_of head.role)).arity (operator_of head.role) many)

  -- ---- quantifiers

  close_quantifier_reads : (quant : ℕ) (body : Read) → Reads (close_quantifier_at quant body) (CloseQuantifier quant body) (PlainThen (PlainOne (is CloseRound)) PlainNothing) (Must (is CloseRound)) never
  unfolding close_quantifier_at
  close_quantifier_reads quant body =
      barred_reads body.is_bare WRONG_ARITY
      (then_reads (one CloseRound) (λ _. nothing_reads (as_whole (Quant quant body.formula) body.nodes_left) never))
      (λ t h. ([], (t ∷ [], [], (t, (h, refl)), refl, refl)))

  abbrev pub PlainQuantified : Language Named
  PlainQuantified = PlainThen (PlainOne is_quantifier) (PlainThen (PlainOne (is OpenRound)) (PlainThen (PlainOne (is Upper)) (PlainThen (PlainOne (is Comma)) (PlainThen P (PlainThen (PlainOne (is CloseRound)) PlainNothing)))))

  pub quantified_words : (q o x c : Named) (v : List Named) (z : Named) → is_quantifier q ≡ true → is OpenRound o ≡ true → is Upper x ≡ true → is Comma c ≡ true → P v → is CloseRound z ≡ true → PlainQuantified (q ∷ (o ∷ (x ∷ (c ∷ (v ++ z ∷ [])))))
  quantified_words q o x c v z q_is o_is x_is c_is f z_is =
      (q ∷ [], o ∷ (x ∷ (c ∷ (v ++ z ∷ []))), (q, (q_is, refl)), (o ∷ [], x ∷ (c ∷ (v ++ z ∷ [])), (o, (o_is, refl)), (x ∷ [], c ∷ (v ++ z ∷ []), (x, (x_is, refl)), (c ∷ [], v ++ z ∷ [], (c, (c_is, refl)), (v, z ∷ [], f, (z ∷ [], [], (z, (z_is, refl)), refl, refl), refl), refl), refl), refl), refl)

  pub quantifier_formula_reads : {p : List (List ℕ) → ℕ → Reader Named Read} {L : List (List ℕ) → ℕ → Grammar Named Read} (reads : (names : List (List ℕ)) (many : ℕ) → Reads (p names many) (L names many) P (Must (starts_formula numbered)) (is OpenRound)) (fault : Named → Option ℕ) (names : List (List ℕ)) (many : ℕ) → Reads (quantifier_formula_at p fault names many) (QuantifierFormula L fault names many) PlainQuantified (Must is_quantifier) never
  unfolding quantifier_formula_at
  quantifier_formula_reads reads fault names many =
      then_reads (allowed_reads is_quantifier fault quantifier_token quantifier_is) (λ head.
      then_reads (one OpenRound) (λ _.
      then_reads (one Upper) (λ name.
      then_reads (one Comma) (λ _.
      then_reads_if (reads (text_of name ∷ names) many) (λ body.
      close_quantifier_reads (quantifier_of head.role) body)
      (off_class (same CloseRound) (same OpenRound) refl)))))

-- ---- atoms

abbrev pub PlainAtomTerms : Language Named
PlainAtomTerms = PlainSeen (λ (t : Named). t.spelled) PlainTerms

module _ (limited : Bool) (names : List (List ℕ)) (deep : ℕ) where
  atom_terms_read : (many : ℕ) → Reads (atom_terms_at limited names deep many) (Seen (λ t. t.spelled) (Terms (TermPhrase limited names deep) many)) PlainAtomTerms (May (is OpenRound)) (is OpenRound)
  unfolding atom_terms_at
  atom_terms_read many = seen_reads (λ t. t.spelled) (with_role Neither) (λ t. refl) (terms_read (term_reads limited names deep) many)

  pub atom_formula_reads : (fault : Named → Option ℕ) (many : ℕ) → Reads (atom_formula_at limited names deep fault many) (AtomFormula limited names deep fault many) (PlainThen (PlainOne is_predicate) (PlainThen PlainAtomTerms PlainNothing)) (Must is_predicate) (is OpenRound)
  unfolding atom_formula_at
  atom_formula_reads fault many =
      then_reads (allowed_reads is_predicate fault predicate_token predicate_is) (λ head.
      then_reads_if (atom_terms_read many) (λ terms.
      nothing_reads (as_whole (Atom (text_of head) terms.0) terms.1) (is OpenRound))
      ((λ t h. absurd cc), (λ t h. h)))

-- ---- a # and a number, before what else a formula may be

pub off_hash : (b : Bool) (t : Named) → is_predicate t ≡ true → is_hash b t ≡ false
off_hash true = off predicates (λ _ c. same Hash c) (λ op. refl) (λ quant. refl) refl
off_hash false = λ t h. refl

-- Where formulas have no numbers no token is such a #.
module _ (s : Setting) (fault : Named → Option ℕ) (many : ℕ) {q : Reader Named Read} {M : Grammar Named Read} {Q : Language Named} (reads : Reads q M Q (Must is_predicate) (is OpenRound)) where
  abbrev hash_at : Bool → Reader Named Read
  hash_at b = then_at (allowed_at (is_hash b) fault) (λ _. then_at (allowed_at is_number (number_fault s)) (λ number. nothing_at (numbered_formula (let_of s number) many)))

  abbrev HashFormula : Bool → Grammar Named Read
  HashFormula b = Then (Allowed (is_hash b) fault) (λ _. Then (Allowed is_number (number_fault s)) (λ number. Nothing (numbered_formula (let_of s number) many)))

  abbrev PlainHash : Bool → Language Named
  PlainHash b = PlainThen (PlainOne (is_hash b)) (PlainThen (PlainOne is_number) PlainNothing)

  no_hash : (r : Result Read ℕ) (ts : List Named) → HashFormula false r ts → ⊥
  no_hash (Ok x) ts (t, v, w, (passes, f, e), g, split) = absurd cc
  no_hash (Err n) ts (inl (t, passes, f, e)) = absurd cc
  no_hash (Err n) ts (inr (t, v, w, (passes, f, e), g, split)) = absurd cc

  no_plain_hash : (ts : List Named) → PlainHash false ts → ⊥
  no_plain_hash ts (v, w, (t, (passes, e)), g, split) = absurd cc

  second : {A B : Type 0} → (A → ⊥) → A ⊎ B → B
  second never_so (inl a) = absurd (never_so a)
  second never_so (inr b) = b

  hash_reads : (b : Bool) → Reads (either_at (is_hash b) (hash_at b) q) (Either (HashFormula b) M) (PlainEither (PlainHash b) Q) (Must (λ t. is_hash b t || is_predicate t)) (is OpenRound)
  hash_reads true =
      goes_with (either_reads
      (then_reads (allowed Hash fault) (λ _.
      then_reads (allowed_reads is_number (number_fault s) number_token number_is) (λ number.
      nothing_reads (numbered_formula (let_of s number) many) never)))
      reads (off_hash true)) (is OpenRound) (λ t h. h)
  hash_reads false =
      same_reader (never_first (hash_at false) q)
      (same_reads reads (λ r ts h. inr h) (λ r ts h. second (no_hash r ts) h) (λ ts h. inr h) (λ ts h. second (no_plain_hash ts) h))

-- ---- formulas

pub off_operator : (b : Bool) (t : Named) → (is_quantifier t || (is_hash b t || is_predicate t)) ≡ true → starts_operator t ≡ false
off_operator true = off (λ r c. quantifiers r c || (same Hash c || predicates r c)) begins_operator (λ op. refl) (λ quant. refl) refl
off_operator false = off (λ r c. quantifiers r c || predicates r c) begins_operator (λ op. refl) (λ quant. refl) refl

pub off_quantifier : (b : Bool) (t : Named) → (is_hash b t || is_predicate t) ≡ true → is_quantifier t ≡ false
off_quantifier true = off (λ r c. same Hash c || predicates r c) quantifiers (λ op. refl) (λ quant. refl) refl
off_quantifier false = off predicates quantifiers (λ op. refl) (λ quant. refl) refl

module _ (numbered : Bool) where
  pub formula_first : IsFirst (PlainFormula numbered) (starts_formula numbered)
  formula_first = record { each = each; each_token = each_token }
    where
      each : (ts : List Named) → PlainFormula numbered ts → next_is (starts_formula numbered) ts ≡ true
      each ts (operator t v passes f) = is_or _ _ passes
      each ts (quantified q o x c v z passes _ _ _ f _) = or_is (starts_operator q) _ (is_or _ _ passes)
      each ts (hash h n passes _) = or_is (starts_operator h) _ (or_is (is_quantifier h) _ (is_or _ _ passes))
      each ts (atom t v passes f) = or_is (starts_operator t) _ (or_is (is_quantifier t) _ (or_is (is_hash numbered t) _ passes))

      each_token : (t : Named) → starts_formula numbered t ≡ true → IsFront (PlainFormula numbered) (t ∷ [])
      each_token t h = by (starts_operator t) refl h
        where
          by : (b : Bool) → starts_operator t ≡ b → (b || (is_quantifier t || (is_hash numbered t || is_predicate t))) ≡ true → IsFront (PlainFormula numbered) (t ∷ [])
          by true e k = ([], operator t [] e no_operands)
          by false e k = at (is_quantifier t) refl k
            where
              at : (b : Bool) → is_quantifier t ≡ b → (b || (is_hash numbered t || is_predicate t)) ≡ true → IsFront (PlainFormula numbered) (t ∷ [])
              at true d j = (
                token OpenRound ∷ (token Upper ∷ (token Comma ∷ ((operator_token ∷ []) ++ token CloseRound ∷ []))),
                quantified t (token OpenRound) (token Upper) (token Comma) (operator_token ∷ []) (token CloseRound) d (token_is OpenRound) (token_is Upper) (token_is Comma) (a_formula numbered) (token_is CloseRound),
              )
              at false d j = ends (is_hash numbered t) refl j
                where
                  ends : (b : Bool) → is_hash numbered t ≡ b → (b || is_predicate t) ≡ true → IsFront (PlainFormula numbered) (t ∷ [])
                  ends true c i = (number_token ∷ [], hash t number_token c number_is)
                  ends false c i = ([], atom t [] i no_terms)

  -- the plain language by the words of EBNF
  abbrev FormulaWords : Language Named
  FormulaWords =
      PlainEither (PlainThen (PlainOne starts_operator) (PlainOperands numbered))
      (PlainEither (PlainQuantified numbered)
      (PlainEither (PlainThen (PlainOne (is_hash numbered)) (PlainThen (PlainOne is_number) PlainNothing))
      (PlainThen (PlainOne is_predicate) (PlainThen PlainAtomTerms PlainNothing))))

  to_formula : (ts : List Named) → FormulaWords ts → PlainFormula numbered ts
  to_formula ts (inl (v, w, (t, (passes, e)), f, split)) = rw (split, e) (operator t w passes f)
  to_formula ts (inr (inl (v1, w1, (q, (q_is, e1)), (v2, w2, (o, (o_is, e2)), (v3, w3, (x, (x_is, e3)), (v4, w4, (c, (c_is, e4)), (v, w5, f, (v6, w6, (z, (z_is, e6)), n, s6), s5), s4), s3), s2), s1))) =
      rw (s1, e1, s2, e2, s3, e3, s4, e4, s5, s6, e6, n) (quantified q o x c v z q_is o_is x_is c_is f z_is)
  to_formula ts (inr (inr (inl (v, w, (h, (passes, e)), (x, y, (n, (number, d)), empty, split), s1)))) = rw (s1, e, split, d, empty) (hash h n passes number)
  to_formula ts (inr (inr (inr (v, w, (t, (passes, e)), (x, y, f, n, split), s1)))) = rw (s1, e, split, n, append-nil x) (atom t x passes f)

  from_formula : (ts : List Named) → PlainFormula numbered ts → FormulaWords ts
  from_formula ts (operator t v passes f) = inl (t ∷ [], v, (t, (passes, refl)), f, refl)
  from_formula ts (quantified q o x c v z q_is o_is x_is c_is f z_is) =
      inr (inl (quantified_words numbered q o x c v z q_is o_is x_is c_is f z_is))
  from_formula ts (hash h n passes number) = inr (inr (inl (h ∷ [], n ∷ [], (h, (passes, refl)), (n ∷ [], [], (n, (number, refl)), refl, refl), refl)))
  from_formula ts (atom t v passes f) = inr (inr (inr (t ∷ [], v, (t, (passes, refl)), (v, [], f, refl, sym (append-nil v)), refl)))

pub formula_reads : (s : Setting) (deep : ℕ) (names : List (List ℕ)) (many : ℕ) → Reads (formula_at s deep names many) (FormulaPhrase s deep names many) (PlainFormula (numbered s)) (Must (starts_formula (numbered s))) (is OpenRound)
unfolding formula_at numbered_formula_at
formula_reads s zero names many = refused_reads (as_whole (Op 0 []) 0) (starts_formula (numbered s)) (depth_fault (formula_fault s 0 many)) (is OpenRound) (formula_first (numbered s)) (operator_token ∷ [], a_formula (numbered s))
formula_reads s (suc deep) names many =
    let fault = formula_fault s (suc deep) many in
    same_reads
    (goes_with (either_reads (operator_formula_reads (numbered s) (formula_reads s deep names) s fault (many - 1))
    (goes_with (either_reads (quantifier_formula_reads (numbered s) (formula_reads s deep) fault names (many - 1))
    (hash_reads s fault many (atom_formula_reads (numbered s) names deep fault (many - 1)) (numbered s))
    (off_quantifier (numbered s))) (is OpenRound) (λ t h. h))
    (off_operator (numbered s))) (is OpenRound) (λ t h. rw h refl))
    (λ r ts h. h) (λ r ts h. h) (to_formula (numbered s)) (from_formula (numbered s))

pub one_formula_reads : (s : Setting) (many : ℕ) → Reads (one_formula_at s many) (OneFormula s many) (PlainFormula (numbered s)) (Must (starts_formula (numbered s))) (is OpenRound)
unfolding one_formula_at
one_formula_reads s many = formula_reads s 100 [] many
