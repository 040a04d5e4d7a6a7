-- The words of printed clauses are a phrase of the grammar, and the clauses are its tree.
use Rattle.std.proofs.Common.{◌≡◌, ◌≢◌, ℕ, ◌+◌, ◌-◌, ◌^◌, ◌<◌, ◌≤◌, Bool, true, List, [], ◌∷◌, ◌++◌, length, replicate, refl, sym, ap, subst, ◌∙◌, append_assoc, append-nil, arith, length-append}
use Rattle.std.specs.Prelude.{map}
use Rattle.std.specs.List.{AllByRecursion, flat_map}
use Rattle.std.proofs.lemmas.List.{replicate_more}
use Rattle.std.proofs.lemmas.Grind.{flat_map-append}
use Rattle.lgc_print.specs.Text.{joined}
use Rattle.lgc_grammar.specs.Grammar.{One, Grammar, Nothing, Then, Mapped, Either, Optional, Growing}
use Rattle.lgc_values.specs.Logic.{Logic, IsLogic}
use Rattle.lgc_syntax.specs.declared.fault.TheConstants.{BAD_ARGUMENT}
use Rattle.lgc_tokens.specs.declared.class.Class.{Class}
use Rattle.lgc_tokens.specs.declared.class.Class.TheVariants.{AllWord, Caret, SomeWord}
use Rattle.lgc_tokens.specs.Spelled.{Spelled}
use Rattle.lgc_tokens.specs.Classes.{is as is_of, is_number, is_argument}
use Rattle.lgc_rules.specs.Names.{number, is_outside, padded}
use Rattle.lgc_rules.specs.RuleGrammar.{NumberFrom, Set, Literal, NextLiteral, Literals, EmptyClause, Clause, NextAll, LastSome, MoreSets, AllSets, SomeAlone, NoSets, QuantifierClause, NextClause, Clauses}
use Rattle.lgc_round_trip.specs.RoundTrip.{IsSet}
use Rattle.lgc_round_trip.proofs.Lexing.{Word, word_of}
use Rattle.lgc_round_trip.proofs.Pieces.{sign, caret}
use Rattle.lgc_round_trip.proofs.Deriving.{Derives, derive_then, derive_skip, derive_nothing, derive_mapped, derive_one, derive_allowed, derive_left, derive_other, derive_ended, derive_grown, derive_words, derive_tree}
use Rattle.lgc_round_trip.proofs.Printing.{numeral}
use Rattle.lgc_round_trip.proofs.Texts.{set_words, literal_words, literal_words_from, literals_words, operator_clause_words, all_words, some_words, quantifier_clause_words, zero_word}
use Rattle.lgc_round_trip.proofs.Classes.{is_caret, is_comma, is_semicolon, is_all, is_some, is_no_literal, argument_passes, zero_passes, numeral_passes, numeral_says, numeral_within}
use Rattle.lgc_round_trip.proofs.SetPhrases.{set_derives}

-- ---- sets that aren't written

padded_more : (k : ℕ) (sets : List (List ℕ)) → length sets ≤ k → padded k sets ++ [] ∷ [] ≡ padded (k + 1) sets
padded_more k sets le =
    let one : k + 1 - length sets ≡ k - length sets + 1 = omega arith in
    append_assoc sets (replicate (k - length sets) []) ([] ∷ []) ∙ ap (λ r. sets ++ r) (replicate_more (k - length sets) [] ∙ ap (λ m. replicate m []) (sym one))

padded_same : (k : ℕ) (sets : List (List ℕ)) → k ≡ length sets → padded k sets ≡ sets
padded_same k sets e =
    let none : k - length sets ≡ 0 = omega arith in
    ap (λ m. sets ++ replicate m []) none ∙ append-nil sets

-- a number from one bound to another
pub number_derives : (least most fault n : ℕ) (flag : Bool) (test : Spelled → Bool) → n < 2 ^ 32 → least ≤ n → n ≤ most → ((t : Spelled) → word_of t ≡ numeral n flag → test t ≡ true) → Derives (NumberFrom least most fault test) n (numeral n flag ∷ [])
number_derives least most fault n flag test small low high passes =
    derive_allowed number test (is_outside least most) fault n (numeral n flag) (λ t e. (sym (numeral_says n flag small t e), passes t e, numeral_within n least most flag small low high t e))

module _ (n : ℕ) (logic : Logic) (is : IsLogic logic) (size : length logic.names ≡ n) (arity : ℕ) (narrow : arity < 2 ^ 32) where
  abbrev words_from : ℕ → List (List ℕ) → List (List Word)
  words_from k sets = literal_words_from logic.names k sets

  abbrev AreSets : List (List ℕ) → Type 0
  AreSets sets = AllByRecursion (IsSet n) sets

  literal_derives : (test : Spelled → Bool) (done front : List (List ℕ)) (k : ℕ) (set : List ℕ) → front ≡ padded (length front) done → length done ≤ length front → k ≡ length front + 1 → k ≤ arity → ((t : Spelled) → word_of t ≡ numeral k true → test t ≡ true) → set ≢ [] → IsSet n set → Derives (Literal n logic arity test done) (front ++ set ∷ []) (literal_words logic.names k set)
  literal_derives test done front k set so_far few at most passes some set-is =
      let before : k - 1 ≡ length front = omega arith in
      let tree : padded (k - 1) done ++ set ∷ [] ≡ front ++ set ∷ [] = ap (λ m. padded m done ++ set ∷ []) before ∙ ap (λ f. f ++ set ∷ []) (sym so_far) in
      derive_tree (Literal n logic arity test done) (padded (k - 1) done ++ set ∷ []) (front ++ set ∷ []) (literal_words logic.names k set) tree
      (derive_then (NumberFrom (length done + 1) arity BAD_ARGUMENT test) (λ argument. Then (One (is_of Caret)) (λ _. Then (Set n logic) (λ x. Nothing (padded (argument - 1) done ++ x ∷ [])))) k (padded (k - 1) done ++ set ∷ []) (numeral k true ∷ []) (caret ∷ set_words logic.names set) (number_derives (length done + 1) arity BAD_ARGUMENT k true test (omega arith) (omega arith) most passes)
      (derive_skip _ _ (padded (k - 1) done ++ set ∷ []) caret (set_words logic.names set) is_caret
      (derive_tail_of set (padded (k - 1) done ++ set ∷ []) (set_derives n logic is size set some set-is))))
    where
      derive_tail_of : (s : List ℕ) (tree : List (List ℕ)) → Derives (Set n logic) s (set_words logic.names s) → Derives (Then (Set n logic) (λ x. Nothing (padded (k - 1) done ++ x ∷ []))) (padded (k - 1) done ++ s ∷ []) (set_words logic.names s)
      derive_tail_of s tree d = subst (λ w. Derives (Then (Set n logic) (λ x. Nothing (padded (k - 1) done ++ x ∷ []))) (padded (k - 1) done ++ s ∷ []) w) (append-nil (set_words logic.names s)) (derive_then (Set n logic) (λ x. Nothing (padded (k - 1) done ++ x ∷ [])) s (padded (k - 1) done ++ s ∷ []) (set_words logic.names s) [] d (derive_nothing (padded (k - 1) done ++ s ∷ [])))

  abbrev tail_words : List (List Word) → List Word
  tail_words ls = flat_map (λ l. (sign 44 ∷ []) ++ l) ls

  -- literals behind those that gave the sets `done`, up to the last set of a clause
  record Goes (done sets : List (List ℕ)) (words : List Word) : Type 0 where
    last : List (List ℕ)
    derived : Derives (Growing (NextLiteral n logic arity) done) last words
    is_all : padded arity last ≡ sets

  more_literals : (done front rest : List (List ℕ)) (k : ℕ) → front ≡ padded (length front) done → length done ≤ length front → k ≡ length front + 1 → length front + length rest ≡ arity → AreSets rest → Goes done (front ++ rest) (tail_words (words_from k rest))
  more_literals done front [] k so_far few at count sets =
      let all : length front ≡ arity = omega arith in
      record { last = done; derived = derive_ended (NextLiteral n logic arity) done; is_all = ap (λ m. padded m done) (sym all) ∙ sym so_far ∙ sym (append-nil front) }
  more_literals done front ([] ∷ rest) k so_far few at count sets =
      let one : length (front ++ [] ∷ []) ≡ length front + 1 = length-append front ([] ∷ []) in
      let further : front ++ [] ∷ [] ≡ padded (length (front ++ [] ∷ [])) done = ap (λ f. f ++ [] ∷ []) so_far ∙ padded_more (length front) done few ∙ ap (λ m. padded m done) (sym one) in
      subst (λ s. Goes done s (tail_words (words_from (k + 1) rest))) (append_assoc front ([] ∷ []) rest)
      (more_literals done (front ++ [] ∷ []) rest (k + 1) further (omega arith) (omega arith) (omega arith) sets.1)
  more_literals done front ((v ∷ set) ∷ rest) k so_far few at count sets =
      let one : length (front ++ (v ∷ set) ∷ []) ≡ length front + 1 = length-append front ((v ∷ set) ∷ []) in
      let others = more_literals (front ++ (v ∷ set) ∷ []) (front ++ (v ∷ set) ∷ []) rest (k + 1) (sym (padded_same (length (front ++ (v ∷ set) ∷ [])) (front ++ (v ∷ set) ∷ []) refl)) (omega arith) (omega arith) (omega arith) sets.1 in
      record {
        last = others.last;
        derived =
            derive_grown (NextLiteral n logic arity) done (front ++ (v ∷ set) ∷ []) others.last (sign 44 ∷ literal_words logic.names k (v ∷ set)) (tail_words (words_from (k + 1) rest))
            (derive_skip _ (Literal n logic arity is_number done) (front ++ (v ∷ set) ∷ []) (sign 44) (literal_words logic.names k (v ∷ set)) is_comma
            (literal_derives is_number done front k (v ∷ set) so_far few at (omega arith) (numeral_passes k true (omega arith)) (λ e. absurd cc) sets.0))
            others.derived;
        is_all = others.is_all ∙ append_assoc front ((v ∷ set) ∷ []) rest;
      }

  -- a clause whose first sets are empty
  clause_from : (front rest : List (List ℕ)) (k : ℕ) → front ≡ padded (length front) [] → k ≡ length front + 1 → length front + length rest ≡ arity → AreSets rest → Derives (Clause n logic arity) (front ++ rest) (literals_words (words_from k rest))
  clause_from front [] k so_far at count sets =
      let all : length front ≡ arity = omega arith in
      derive_left (EmptyClause arity) (Literals n logic arity) (front ++ []) (zero_word ∷ [])
      (derive_tree (EmptyClause arity) (padded arity []) (front ++ []) (zero_word ∷ []) (ap (λ m. padded m []) (sym all) ∙ sym so_far ∙ sym (append-nil front))
      (derive_one (λ _. padded arity []) _ (padded arity []) zero_word (λ t e. (refl, is_no_literal t e))))
  clause_from front ([] ∷ rest) k so_far at count sets =
      let one : length (front ++ [] ∷ []) ≡ length front + 1 = length-append front ([] ∷ []) in
      let further : front ++ [] ∷ [] ≡ padded (length (front ++ [] ∷ [])) [] = ap (λ f. f ++ [] ∷ []) so_far ∙ padded_more (length front) [] (omega arith) ∙ ap (λ m. padded m []) (sym one) in
      derive_tree (Clause n logic arity) ((front ++ [] ∷ []) ++ rest) (front ++ [] ∷ rest) (literals_words (words_from (k + 1) rest)) (append_assoc front ([] ∷ []) rest)
      (clause_from (front ++ [] ∷ []) rest (k + 1) further (omega arith) (omega arith) sets.1)
  clause_from front ((v ∷ set) ∷ rest) k so_far at count sets =
      let one : length (front ++ (v ∷ set) ∷ []) ≡ length front + 1 = length-append front ((v ∷ set) ∷ []) in
      let others = more_literals (front ++ (v ∷ set) ∷ []) (front ++ (v ∷ set) ∷ []) rest (k + 1) (sym (padded_same (length (front ++ (v ∷ set) ∷ [])) (front ++ (v ∷ set) ∷ []) refl)) (omega arith) (omega arith) (omega arith) sets.1 in
      derive_other (EmptyClause arity) (Literals n logic arity) (front ++ (v ∷ set) ∷ rest) (literals_words (words_from k ((v ∷ set) ∷ rest)))
      (derive_tree (Literals n logic arity) (padded arity others.last) (front ++ (v ∷ set) ∷ rest) _ (others.is_all ∙ append_assoc front ((v ∷ set) ∷ []) rest)
      (derive_mapped (padded arity) (Then (Literal n logic arity is_argument []) (λ sets. Growing (NextLiteral n logic arity) sets)) others.last _
      (derive_then (Literal n logic arity is_argument []) (λ sets. Growing (NextLiteral n logic arity) sets) (front ++ (v ∷ set) ∷ []) others.last (literal_words logic.names k (v ∷ set)) (tail_words (words_from (k + 1) rest))
      (literal_derives is_argument [] front k (v ∷ set) so_far (omega arith) at (omega arith) (argument_passes k (omega arith)) (λ e. absurd cc) sets.0)
      others.derived)))

  pub clause_derives : (sets : List (List ℕ)) → length sets ≡ arity → AreSets sets → Derives (Clause n logic arity) sets (operator_clause_words logic.names sets)
  clause_derives sets count are = clause_from [] sets 1 refl refl (omega arith) are

-- ---- clauses of a quantifier

abbrev behind_commas : List (List Word) → List Word
behind_commas ws = flat_map (λ w. (sign 44 ∷ []) ++ w) ws

module _ (n : ℕ) (logic : Logic) (is : IsLogic logic) (size : length logic.names ≡ n) where
  -- a set behind this word
  abbrev set_behind : Class → Grammar Spelled (List ℕ)
  set_behind word = Then (One (is_of word)) (λ _. Set n logic)

  next_all_derives : (done : List (List ℕ)) (set : List ℕ) → set ≢ [] → IsSet n set → Derives (NextAll n logic done) (done ++ set ∷ []) (sign 44 ∷ all_words logic.names set)
  next_all_derives done set some set-is =
      derive_skip _ _ (done ++ set ∷ []) (sign 44) (all_words logic.names set) is_comma
      (derive_mapped (λ x. done ++ x ∷ []) (set_behind AllWord) set (all_words logic.names set)
      (derive_skip _ _ set _ (set_words logic.names set) is_all (set_derives n logic is size set some set-is)))

  more_all : (done rest : List (List ℕ)) → AllByRecursion (λ set. set ≢ []) rest → AllByRecursion (IsSet n) rest → Derives (Growing (NextAll n logic) done) (done ++ rest) (behind_commas (map (all_words logic.names) rest))
  more_all done [] some are = derive_tree (Growing (NextAll n logic) done) done (done ++ []) [] (sym (append-nil done)) (derive_ended (NextAll n logic) done)
  more_all done (set ∷ rest) some are =
      derive_grown (NextAll n logic) done (done ++ set ∷ []) (done ++ set ∷ rest) (sign 44 ∷ all_words logic.names set) (behind_commas (map (all_words logic.names) rest))
      (next_all_derives done set some.0 are.0)
      (derive_tree (Growing (NextAll n logic) (done ++ set ∷ [])) ((done ++ set ∷ []) ++ rest) (done ++ set ∷ rest) _ (append_assoc done (set ∷ []) rest)
      (more_all (done ++ set ∷ []) rest some.1 are.1))

  last_derives : (some : List ℕ) (all : List (List ℕ)) → IsSet n some → Derives (Optional ([] ∷ all) (LastSome n logic all)) (some ∷ all) (behind_commas (some_words logic.names some))
  last_derives [] all set-is = derive_other (LastSome n logic all) (Nothing ([] ∷ all)) ([] ∷ all) [] (derive_nothing ([] ∷ all))
  last_derives (v ∷ set) all set-is =
      derive_left (LastSome n logic all) (Nothing ([] ∷ all)) ((v ∷ set) ∷ all) (behind_commas (some_words logic.names (v ∷ set)))
      (derive_words (LastSome n logic all) ((v ∷ set) ∷ all) _ _ (sym (append-nil _))
      (derive_skip _ _ ((v ∷ set) ∷ all) (sign 44) _ is_comma
      (derive_mapped (λ x. x ∷ all) (set_behind SomeWord) (v ∷ set) _
      (derive_skip _ _ (v ∷ set) _ (set_words logic.names (v ∷ set)) is_some (set_derives n logic is size (v ∷ set) (λ e. absurd cc) set-is)))))

  more_sets : (done rest : List (List ℕ)) (some : List ℕ) → AllByRecursion (λ set. set ≢ []) rest → AllByRecursion (IsSet n) rest → IsSet n some → Derives (MoreSets n logic done) (some ∷ (done ++ rest)) (behind_commas (map (all_words logic.names) rest ++ some_words logic.names some))
  more_sets done rest some members are some-is =
      derive_words (MoreSets n logic done) (some ∷ (done ++ rest)) _ _ (sym (flat_map-append (λ w. (sign 44 ∷ []) ++ w) (map (all_words logic.names) rest) (some_words logic.names some)))
      (derive_then (Growing (NextAll n logic) done) (λ all. Optional ([] ∷ all) (LastSome n logic all)) (done ++ rest) (some ∷ (done ++ rest)) _ _ (more_all done rest members are) (last_derives some (done ++ rest) some-is))

  pub quantifier_clause_derives : (some : List ℕ) (all : List (List ℕ)) → AllByRecursion (λ set. set ≢ []) all → AllByRecursion (IsSet n) (some ∷ all) → Derives (QuantifierClause n logic) (some ∷ all) (quantifier_clause_words logic.names (some ∷ all))
  quantifier_clause_derives [] [] members are =
      derive_left NoSets (Either (AllSets n logic) (SomeAlone n logic)) ([] ∷ []) (zero_word ∷ [])
      (derive_one (λ _. [] ∷ []) _ ([] ∷ []) zero_word (λ t e. (refl, zero_passes t e)))
  quantifier_clause_derives (v ∷ set) [] members are =
      derive_other NoSets (Either (AllSets n logic) (SomeAlone n logic)) ((v ∷ set) ∷ []) _
      (derive_other (AllSets n logic) (SomeAlone n logic) ((v ∷ set) ∷ []) _
      (derive_words (SomeAlone n logic) ((v ∷ set) ∷ []) _ _ (sym (append-nil _))
      (derive_mapped (λ x. x ∷ []) (set_behind SomeWord) (v ∷ set) _
      (derive_skip _ _ (v ∷ set) _ (set_words logic.names (v ∷ set)) is_some (set_derives n logic is size (v ∷ set) (λ e. absurd cc) are.0)))))
  quantifier_clause_derives some (set ∷ all) members are =
      derive_other NoSets (Either (AllSets n logic) (SomeAlone n logic)) (some ∷ set ∷ all) _
      (derive_left (AllSets n logic) (SomeAlone n logic) (some ∷ set ∷ all) _
      (derive_then (set_behind AllWord) (λ x. MoreSets n logic (x ∷ [])) set (some ∷ set ∷ all) (all_words logic.names set) (behind_commas (map (all_words logic.names) all ++ some_words logic.names some))
      (derive_skip _ _ set _ (set_words logic.names set) is_all (set_derives n logic is size set members.0 (are.1).0))
      (more_sets (set ∷ []) all some members.1 (are.1).1 are.0)))

-- ---- lists of clauses

module _ (L : Grammar Spelled (List (List ℕ))) (words : List (List ℕ) → List Word) (Q : List (List ℕ) → Type 0) (each : (sets : List (List ℕ)) → Q sets → Derives L sets (words sets)) where
  abbrev clause_tail : List (List (List ℕ)) → List Word
  clause_tail clauses = flat_map (λ w. (sign 59 ∷ []) ++ w) (map words clauses)

  more_clauses : (done rest : List (List (List ℕ))) → AllByRecursion Q rest → Derives (Growing (NextClause L) done) (done ++ rest) (clause_tail rest)
  more_clauses done [] are = derive_tree (Growing (NextClause L) done) done (done ++ []) [] (sym (append-nil done)) (derive_ended (NextClause L) done)
  more_clauses done (sets ∷ rest) are =
      derive_grown (NextClause L) done (done ++ sets ∷ []) (done ++ sets ∷ rest) (sign 59 ∷ words sets) (clause_tail rest)
      (derive_skip _ (Mapped (λ clause. done ++ clause ∷ []) L) (done ++ sets ∷ []) (sign 59) (words sets) is_semicolon
      (derive_mapped (λ clause. done ++ clause ∷ []) L sets (words sets) (each sets are.0)))
      (derive_tree (Growing (NextClause L) (done ++ sets ∷ [])) ((done ++ sets ∷ []) ++ rest) (done ++ sets ∷ rest) (clause_tail rest) (append_assoc done (sets ∷ []) rest)
      (more_clauses (done ++ sets ∷ []) rest are.1))

  pub clauses_derive : (clauses : List (List (List ℕ))) → AllByRecursion Q clauses → Derives (Clauses L) clauses (joined (sign 59 ∷ []) (map words clauses))
  clauses_derive [] are = derive_other _ (Nothing []) [] [] (derive_nothing [])
  clauses_derive (sets ∷ clauses) are =
      derive_left _ _ (sets ∷ clauses) (joined (sign 59 ∷ []) (map words (sets ∷ clauses)))
      (derive_then L (λ clause. Growing (NextClause L) (clause ∷ [])) sets (sets ∷ clauses) (words sets) (clause_tail clauses)
      (each sets are.0)
      (more_clauses (sets ∷ []) clauses are.1))
