-- Rules of each kind, seen as plain rules.
use Rattle.std.specs.Prelude.{ℕ}
use Rattle.lgc_clauses.specs.Rules.{PlainRule, of_operator, of_quantifier}
use Rattle.lgc_clauses.specs.declared.rule.Rule.{Rule}
use Rattle.lgc_clauses.specs.declared.rule.Rule.TheVariants.{Operator, Quantifier}

-- the rule, without the number of truth values in its type
abbrev pub plain_rule : {size : ℕ} → Rule size → PlainRule
plain_rule (Operator rule) = of_operator rule
plain_rule (Quantifier rule) = of_quantifier rule
