-- Laws of lines on rules.
use Rattle.std.proofs.Common.{◌≡◌, ℕ, zero, suc, get_or, ◌+◌, ◌<◌, Bool, true, false, List, [], ◌∷◌, ◌++◌, length, take, All, refl, sym, ap, subst, ◌∙◌, append_assoc, arith}
use Rattle.std.specs.Prelude.{◌↔◌, ◌≤◌, ◌&&◌, IsTrue, map, slice_get, Some}
use Rattle.std.proofs.lemmas.List.{take_more, take_all, map-append}
use Rattle.std.proofs.lemmas.Option.{slice_get_within, get_or_from_slice_get}
use Rattle.std.proofs.lemmas.Grind.{common_steps}
use Rattle.std.proofs.lemmas.List.Elements.{All-push, All-pop}
use Rattle.lgc_values.specs.Logic.{Logic, arguments_at}
use Rattle.lgc_clauses.specs.Rules.{PlainRule}
use Rattle.lgc_clauses.specs.declared.irredundance.Droppable.TheVariants.{Clause, Value}
use Rattle.lgc_verify.specs.declared.verdict.Verdict.{Verdict}
use Rattle.lgc_verify.specs.declared.verdict.Verdict.TheVariants.{Differs, Superfluous, Right}
use Rattle.lgc_verify.specs.Verdicts.{IsVerdict, IsRight, is_right, line_text, IsLine, AreLines, IsText}

-- one line more
pub lines_more : (logic : Logic) (number : ℕ) (rules : List PlainRule) (rule : PlainRule) (text line : List ℕ) → AreLines logic number rules text → IsLine logic (number + length rules) rule line → AreLines logic number (rules ++ rule ∷ []) (text ++ line)
lines_more logic number [] rule text line none is =
    let here : IsLine logic number rule line = subst (λ n. IsLine logic n rule line) (omega arith) is in
    (line, [], here, refl, grind (arith, common_steps))
lines_more logic number (first ∷ rules) rule text line (head, rest, one, others, split) is =
    let here : IsLine logic (number + 1 + length rules) rule line = subst (λ n. IsLine logic n rule line) (omega arith) is in
    (head, rest ++ line, one, lines_more logic (number + 1) rules rule rest line others here, ap (λ t. t ++ line) split ∙ append_assoc head rest line)

-- a rule is right exactly where the verdict says so
pub right_verdict : (logic : Logic) (rule : PlainRule) (verdict : Verdict) → IsVerdict logic rule verdict → IsTrue (is_right verdict) ↔ IsRight logic rule
right_verdict logic rule Right (exact, irredundant) = ((λ _. record { exact = exact; irredundant = irredundant }), (λ _. refl))
right_verdict logic rule (Differs row) first = ((λ no. absurd cc), (λ right. absurd (first.differs (right.exact row first.within))))
right_verdict logic rule (Superfluous (Clause i)) (exact, (low, first)) = ((λ no. absurd cc), (λ right. absurd (right.irredundant.clauses _ first.holds)))
right_verdict logic rule (Superfluous (Value i part v)) (exact, (none, low, j, is, first)) = ((λ no. absurd cc), (λ right. absurd (right.irredundant.values _ _ _ first.value.value.holds)))

-- ---- walks

pub mapped_more : {X Y : Type 0} (f : X → Y) (xs : List X) (i : ℕ) (x : X) → i < length xs → x ≡ get_or xs i x → map f (take (i + 1) xs) ≡ map f (take i xs) ++ f x ∷ []
mapped_more f xs i x lt is =
    ap (map f) (take_more xs i x lt ∙ ap (λ y. take i xs ++ y ∷ []) (sym is)) ∙ map-append f (take i xs) (x ∷ [])

pub arguments_more : {Y : Type 0} (f : ℕ → Y) (arguments : List ℕ) (j a : ℕ) → slice_get arguments j ≡ Some a → map f (take (j + 1) arguments) ≡ map f (take j arguments) ++ f a ∷ []
arguments_more f arguments j a at = mapped_more f arguments j a (slice_get_within arguments j a at) (sym (get_or_from_slice_get arguments j a a at))

length-arguments_at : (size k row : ℕ) → length (arguments_at size k row) ≡ k
length-arguments_at size zero row = refl
length-arguments_at size (suc k) row = ap suc (length-arguments_at size k row)

pub all_arguments : {Y : Type 0} (f : ℕ → Y) (size k row j : ℕ) → k ≤ j → map f (take j (arguments_at size k row)) ≡ map f (arguments_at size k row)
all_arguments f size k row j all = ap (map f) (take_all j (arguments_at size k row) (let count = length-arguments_at size k row in omega arith))

module _ (logic : Logic) (rules : List PlainRule) (rule : PlainRule) (verdict : Verdict) (judged : IsVerdict logic rule verdict) where
  pub text_more : (i : ℕ) (text new : List ℕ) → length rules ≡ i → IsText logic rules text → new ≡ text ++ line_text logic (i + 1) rule verdict → IsText logic (rules ++ rule ∷ []) new
  text_more i text new count before is =
      let number : i + 1 ≡ 1 + length rules = omega arith in
      subst (IsText logic (rules ++ rule ∷ [])) (sym is)
      (lines_more logic 1 rules rule text (line_text logic (i + 1) rule verdict) before (record { verdict = verdict; judged = judged; told = ap (λ n. line_text logic n rule verdict) number }))

  before_all : All (IsRight logic) (rules ++ rule ∷ []) → All (IsRight logic) rules
  before_all all = let (before, last) = All-pop (IsRight logic) (rules ++ rule ∷ []) rules (Some rule) refl all in before

  last_right : All (IsRight logic) (rules ++ rule ∷ []) → IsRight logic rule
  last_right all = let (before, last) = All-pop (IsRight logic) (rules ++ rule ∷ []) rules (Some rule) refl all in last

  pub right_more : (before now : Bool) → now ≡ (before && is_right verdict) → IsTrue before ↔ All (IsRight logic) rules → IsTrue now ↔ All (IsRight logic) (rules ++ rule ∷ [])
  right_more false now is (from, to) = ((λ yes. let no : false ≡ true = sym is ∙ yes in absurd cc), (λ all. let no : false ≡ true = to (before_all all) in absurd cc))
  right_more true now is (from, to) =
      let (whole, back) = right_verdict logic rule verdict judged in
      ((λ yes. All-push (IsRight logic) rules rule (from refl) (whole (sym is ∙ yes))), (λ all. is ∙ back (last_right all)))
