-- From the reader to the grammar, for any parser of all of the tokens.
use Rattle.std.proofs.Common.{◌≡◌, ℕ, Bool, List, Result, Ok, Err, IfOk, refl, sym, subst, ◌∙◌}
use Rattle.lgc_grammar.specs.Grammar.{Grammar, Why, Breaks, AnswersAll}
use Rattle.lgc_grammar.specs.Reading.{Reader, whole}
use Rattle.lgc_grammar.proofs.Readers.{ReadsAll, Start, whole_answers_all}
use Rattle.lgc_parser.specs.declared.fault.SyntaxFault.{SyntaxFault}
use Rattle.lgc_parser.specs.declared.fault.SyntaxFault.TheVariants as fault
use Rattle.lgc_tokens.specs.Spelled.{Spelled}
use Rattle.lgc_parser.specs.Gives.{Says, IsTree}

module _ {X A : Type 0} (end : ℕ) (view : X → A) (read : Result A (List Spelled × Why)) where
  -- whoever says what reading gives says what holds of it
  pub says_too : (P : Result A (List Spelled × Why) → Type 0) (result : Result X SyntaxFault) → P read → Says (λ r. read ≡ r) end view result → Says P end view result
  says_too P (Ok x) h e = rw e at h
  says_too P (Err fault.Memory) h e = tt
  says_too P (Err (fault.Unexpected offset)) h (rest, is, at_rest) = (rest, rw is at h, at_rest)

  pub is_tree : (result : Result X SyntaxFault) (a : A) → read ≡ Ok a → Says (λ r. read ≡ r) end view result → IsTree view result a
  is_tree (Ok x) a e h = let same = sym h ∙ e in cc
  is_tree (Err fault.Memory) a e h = tt
  is_tree (Err (fault.Unexpected offset)) a e (rest, is, at_rest) = let same = sym is ∙ e in absurd cc

-- a reader of a grammar without rules never tells that one is broken
pub unbroken : {A : Type 0} {p : Reader Spelled A} {L : Grammar Spelled A} {start : Start Spelled} {go : Spelled → Bool} → ReadsAll p L start go → (ts rest : List Spelled) (n : ℕ) → p ts ≡ Err (rest, Breaks n) → ⊥
unbroken {A} {p} {L} reads ts rest n e =
    let stops : whole p ts ≡ Err (rest, Breaks n) = rw e refl in
    let answer = subst (AnswersAll L ts) stops (whole_answers_all reads ts) in
    absurd (let none = answer.0 in cc)

-- what holds of each tree of the grammar holds of the tree that is answered
pub tree_has : {X A : Type 0} (end : ℕ) (view : X → A) (L : Grammar Spelled A) (ts : List Spelled) (R : A → Type 0) (result : Result X SyntaxFault) → ((a : A) → L (Ok a) ts → R a) → Says (AnswersAll L ts) end view result → IfOk result (λ x. R (view x))
tree_has end view L ts R (Ok x) has h = has (view x) h
tree_has end view L ts R (Err e) has h = tt
