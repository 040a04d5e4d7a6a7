-- From the readers to the grammar: whole files, and single rules among tokens.
use Rattle.std.proofs.Common.{◌≡◌, ℕ, ◌+◌, ◌<◌, ◌≤◌, List, ◌∷◌, ◌++◌, length, drop, All, Result, Ok, Err, IfOk, sym, ap, subst, inl, inr, arith, length-append, length-drop, []}
use Rattle.std.specs.Prelude.{◌^◌}
use Rattle.std.proofs.lemmas.List.Elements.{All-nil, All-push}
use Rattle.lgc_grammar.specs.Reading.{whole}
use Rattle.lgc_grammar.proofs.Readers.{whole_answers}
use Rattle.lgc_grammar.proofs.Exact.{whole_exact}
use Rattle.lgc_grammar.proofs.BrokenRules.{Only}
use Rattle.lgc_lexer.specs.declared.token.Token.{Token}
use Rattle.lgc_lexer.specs.Tokens.{tokens_of}
use Rattle.lgc_values.specs.Logic.{Logic}
use Rattle.lgc_clauses.specs.declared.rule.Rule.{Rule}
use Rattle.lgc_clauses.specs.declared.rule.Numbered.{Numbered}
use Rattle.lgc_syntax.specs.declared.fault.InputFault.{InputFault}
use Rattle.lgc_tokens.specs.declared.number.TheConstants.{MOST_NUMBER}
use Rattle.lgc_rules.specs.declared.file.TheConstants.{LONGEST_FILE}
use Rattle.lgc_tokens.specs.Spelled.{Spelled, spelled_all, place_of}
use Rattle.lgc_tokens.proofs.Places.{length-spelled, spelled_drop, few_tokens}
use Rattle.lgc_inputs.specs.Told.{Holds, IfFault, IsTree, Tells}
use Rattle.lgc_inputs.specs.Places.{with_rest}
use Rattle.lgc_inputs.proofs.Texts.{text_once, text_answer, text_is, text_of, text_faults}
use Rattle.lgc_inputs.proofs.Places.{begins_read, place_answer, place_once, place_complete, place_faults, settled_never, told_begins}
use Rattle.lgc_rules.specs.RuleGrammar.{NextRule, Rules}
use Rattle.lgc_rules.specs.PlainGrammar.{PlainRule, PlainRules}
use Rattle.lgc_rules.specs.RuleReading.{rule_at, rules_at}
use Rattle.lgc_rules.specs.RuleFile.{IsRuleFor, FileGives, IsFileOf, IsRuleFault, IsFileFault}
use Rattle.lgc_rules.specs.RulePlace.{AnyNumbered, RuleGives}
use Rattle.lgc_rules.specs.FileReading.{file_read, rule_read}
use Rattle.lgc_rules.proofs.RuleReads.{rule_reads, rules_read}
use Rattle.lgc_rules.proofs.Fitting.{growing_keeps, rule_fits}
use Rattle.lgc_rules.proofs.RuleFaults.{rule_only, rules_only}

-- ---- whole files

module _ (n : ℕ) (logic : Logic) (bytes : List ℕ) where
  -- what the bytes give is what reading them tells, so it is one
  pub file_once : (told : Result (List (Rule n)) InputFault) → FileGives n logic bytes told → file_read n logic bytes ≡ told
  file_once = text_once place_of (spelled_all bytes) (Rules n logic) PlainRules (whole (rules_at n logic)) (whole_answers (rules_read n logic)) (whole_exact (rules_read n logic)) LONGEST_FILE bytes

  pub file_answer : (result : Result (List (Rule n)) InputFault) → Tells (λ rules. rules) result (file_read n logic bytes) → Holds (FileGives n logic bytes) result
  file_answer = text_answer place_of (spelled_all bytes) (Rules n logic) PlainRules (whole (rules_at n logic)) (whole_answers (rules_read n logic)) (whole_exact (rules_read n logic)) LONGEST_FILE bytes

  pub file_is : (rules : List (Rule n)) (result : Result (List (Rule n)) InputFault) → IsFileOf n logic bytes rules → Tells (λ rules. rules) result (file_read n logic bytes) → IsTree (λ rules. rules) result rules
  file_is = text_is place_of (spelled_all bytes) (Rules n logic) PlainRules (whole (rules_at n logic)) (whole_answers (rules_read n logic)) (whole_exact (rules_read n logic)) LONGEST_FILE bytes

  file_of : (rules : List (Rule n)) → FileGives n logic bytes (Ok rules) → IsFileOf n logic bytes rules
  file_of = text_of place_of (spelled_all bytes) (Rules n logic) PlainRules (whole (rules_at n logic)) (whole_answers (rules_read n logic)) (whole_exact (rules_read n logic)) LONGEST_FILE bytes

  -- the rules of the grammar have numbers of faults of a file
  file_only : Only IsFileFault (Rules n logic)
  file_only = record { only = λ number ts h. let k : Only IsRuleFault (Rules n logic) = rules_only n logic in wider number (k.only number ts h) }
    where
      wider : (number : ℕ) → IsRuleFault number → IsFileFault number
      wider number (inl (low, high)) = inl (omega arith, high)
      wider number (inr h) = inr h

  pub file_faults : (result : Result (List (Rule n)) InputFault) → Holds (FileGives n logic bytes) result → IfFault result IsFileFault
  file_faults = text_faults place_of (spelled_all bytes) (Rules n logic) PlainRules (whole (rules_at n logic)) (whole_answers (rules_read n logic)) (whole_exact (rules_read n logic)) LONGEST_FILE bytes IsFileFault file_only (λ long. inl (omega arith, omega arith)) (inl (omega arith, omega arith)) (inl (omega arith, omega arith)) (inl (omega arith, omega arith))

  -- each rule of the grammar is one for the logic
  rules_fit : length logic.names ≡ n → (ts : List Spelled) (rules : List (Rule n)) → length ts ≤ LONGEST_FILE → Rules n logic (Ok rules) ts → All (IsRuleFor n logic) rules
  rules_fit named ts rules few h = growing_keeps (NextRule n logic) (All (IsRuleFor n logic)) LONGEST_FILE step [] rules ts few (All-nil (IsRuleFor n logic)) h
    where
      step : (a b : List (Rule n)) (v : List Spelled) → length v ≤ LONGEST_FILE → All (IsRuleFor n logic) a → NextRule n logic a (Ok b) v → All (IsRuleFor n logic) b
      step a b v short all (next, is, f) =
          subst (All (IsRuleFor n logic)) (sym is) (All-push (IsRuleFor n logic) a next.rule all (rule_fits n logic named (length a + 1) (length a + 1) next v (omega arith) f))

  pub file_fits : length logic.names ≡ n → (result : Result (List (Rule n)) InputFault) → Tells (λ rules. rules) result (file_read n logic bytes) → IfOk result (λ rules. All (IsRuleFor n logic) rules)
  file_fits named (Ok rules) told =
      let h = file_of rules (file_answer (Ok rules) told) in
      rules_fit named (spelled_all bytes h.tokens) rules (omega (arith, h.short, length-spelled bytes h.tokens, few_tokens bytes h.tokens h.lexed)) h.derived
  file_fits named (Err e) told = tt

-- ---- single rules

module _ (n : ℕ) (logic : Logic) (end : ℕ) where
  -- what the tokens give is what reading them tells, so it is one
  pub rule_once : (ts : List Spelled) (at : ℕ) (told : Result (Numbered n × ℕ) InputFault) → RuleGives n logic end ts at told → rule_read n logic end (drop at ts) ≡ with_rest ts told
  rule_once = place_once place_of (rule_reads n logic 0 MOST_NUMBER) (settled_never (rule_reads n logic 0 MOST_NUMBER)) end

  pub rule_faults : (ts : List Spelled) (at : ℕ) (result : Result (Numbered n × ℕ) InputFault) → Holds (RuleGives n logic end ts at) result → IfFault result IsRuleFault
  rule_faults ts at = place_faults place_of (rule_reads n logic 0 MOST_NUMBER) (settled_never (rule_reads n logic 0 MOST_NUMBER)) end ts at IsRuleFault (rule_only n logic 0 MOST_NUMBER) (inl (omega arith, omega arith))

  pub rule_answer : (ts : List Spelled) (at : ℕ) (result : Result (Numbered n × ℕ) InputFault) → Tells (λ x. (x.0, drop x.1 ts)) result (rule_read n logic end (drop at ts)) → Holds (RuleGives n logic end ts at) result
  rule_answer = place_answer place_of (rule_reads n logic 0 MOST_NUMBER) (settled_never (rule_reads n logic 0 MOST_NUMBER)) end

  pub rule_is : (ts : List Spelled) (at : ℕ) (result : Result (Numbered n × ℕ) InputFault) (rule : Numbered n) (front rest : List Spelled) → drop at ts ≡ front ++ rest → AnyNumbered n logic (Ok rule) front → Tells (λ x. (x.0, drop x.1 ts)) result (rule_read n logic end (drop at ts)) → IsTree {A = Numbered n × List Spelled} (λ x. (x.0, drop x.1 ts)) result (rule, rest)
  rule_is ts at result rule front rest = place_complete place_of (rule_reads n logic 0 MOST_NUMBER) end ts at rule front rest result

  pub rule_for : length logic.names ≡ n → (bytes : List ℕ) (tokens : List Token) (at : ℕ) (result : Result (Numbered n × ℕ) InputFault) → length bytes < 2 ^ 32 → tokens_of bytes ≡ Ok tokens → Tells (λ x. (x.0, drop x.1 (spelled_all bytes tokens))) result (rule_read n logic end (drop at (spelled_all bytes tokens))) → IfOk result (λ x. IsRuleFor n logic x.0.rule)
  rule_for named bytes tokens at (Ok x) short lexed told =
      let (front, split, h, ends) = told_begins place_of (rule_reads n logic 0 MOST_NUMBER) (settled_never (rule_reads n logic 0 MOST_NUMBER)) end (drop at (spelled_all bytes tokens)) x.0 (drop x.1 (spelled_all bytes tokens)) told in
      let all : length (drop at (spelled_all bytes tokens)) ≤ length tokens = omega (arith, length-drop at (spelled_all bytes tokens), length-spelled bytes tokens) in
      let inside : length front < 2 ^ 32 = omega (arith, ap length split, length-append front (drop x.1 (spelled_all bytes tokens)), few_tokens bytes tokens lexed) in
      rule_fits n logic named 0 MOST_NUMBER x.0 front inside h
  rule_for named bytes tokens at (Err e) short lexed told = tt
