-- What it means that the text of rules is read back as these rules.
use Rattle.std.specs.Prelude.{◌≡◌, ◌≢◌, ℕ, List, [], All, Ok}
use Rattle.lgc_lexer.specs.declared.token.Token.{Token}
use Rattle.lgc_lexer.specs.Tokens.{tokens_of}
use Rattle.lgc_values.specs.Values.{has, values_where}
use Rattle.lgc_values.specs.Logic.{Logic}
use Rattle.lgc_clauses.specs.Rules.{PlainRule}
use Rattle.lgc_clauses.specs.declared.rule.Rule.{Rule}
use Rattle.lgc_tokens.specs.Spelled.{spelled_all}
use Rattle.lgc_rules.specs.RuleGrammar.{Rules}

-- a set of values below n, as the rising list of its members
abbrev pub IsSet : ℕ → List ℕ → Type 0
IsSet n set = set ≡ values_where n (has set)

-- the sign has members, and its sets and those of its clauses are sets of values below n
pub record HasSets (n : ℕ) (rule : PlainRule) : Type 0 where
  pub some : rule.sign ≢ []
  pub sign : IsSet n rule.sign
  pub clauses : All (λ sets. All (IsSet n) sets) rule.clauses

-- the bytes have tokens, and from them the grammar of rule files derives these rules
pub record IsTextOf (n : ℕ) (logic : Logic) (bytes : List ℕ) (rules : List (Rule n)) : Type 0 where
  pub tokens : List Token
  pub lexed : tokens_of bytes ≡ Ok tokens
  pub derived : Rules n logic (Ok rules) (spelled_all bytes tokens)
