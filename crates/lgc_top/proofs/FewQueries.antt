-- A query file has no more queries than bytes.
use Rattle.std.proofs.Common.{◌≡◌, ◌<◌, ◌≤◌, ◌+◌, ◌^◌, ℕ, suc, Bool, true, false, List, [], ◌∷◌, length, Ok, refl, ap, arith, length-append}
use Rattle.lgc_values.specs.Logic.{Logic}
use Rattle.lgc_lexer.specs.declared.token.Token.{Token}
use Rattle.lgc_tokens.proofs.Places.{few_tokens}
use Rattle.lgc_grammar.specs.Grammar.{Grammar, Barred, Growing, ended, grown}
use Rattle.lgc_syntax.specs.declared.fault.TheConstants.{WRONG_ARITY, TOO_MANY_GOALS}
use Rattle.lgc_meaning.specs.declared.query.Query.{Query}
use Rattle.lgc_formulas.specs.Named.{Named, named_all, is}
use Rattle.lgc_tokens.specs.declared.class.Class.TheVariants.{Dot}
use Rattle.lgc_queries.specs.Goals.{has_too_many_goals}
use Rattle.lgc_queries.specs.QueryGrammar.{QueryEnd, NextQuery}
use Rattle.lgc_queries.specs.QueryFile.{IsFileOf}

unbarred : {T A : Type 0} (bad : Bool) (first : T → Bool) (n : ℕ) (L : Grammar T A) (a : A) (ts : List T) → Barred bad first n L (Ok a) ts → L (Ok a) ts
unbarred true first n L a ts h = absurd h
unbarred false first n L a ts h = h

length-named_all : (logic : Logic) (bytes : List ℕ) (ts : List Token) → length (named_all logic bytes ts) ≡ length ts
length-named_all logic bytes [] = refl
length-named_all logic bytes (t ∷ ts) = ap suc (length-named_all logic bytes ts)

module _ (logic : Logic) where
  -- a query has a token at least
  one_more : (a b : List Query) (ts : List Named) → NextQuery logic a (Ok b) ts → length b ≤ length a + length ts
  one_more a b ts (x, v, w, h, ends, split) =
      let counted = unbarred x.is_bare (is Dot) WRONG_ARITY (Barred (has_too_many_goals logic.size x.query) (is Dot) TOO_MANY_GOALS (QueryEnd a x.query)) b w ends in
      let (t, v1, w1, dot, (list, none), s1) = unbarred (has_too_many_goals logic.size x.query) (is Dot) TOO_MANY_GOALS (QueryEnd a x.query) b w counted in
      omega (arith, ap length list, length-append a (x.query ∷ []), ap length split, length-append v w, ap length s1, length-append v1 w1, ap length dot.1)

  all_more : (a b : List Query) (ts : List Named) → Growing (NextQuery logic) a (Ok b) ts → length b ≤ length a + length ts
  all_more a b ts (ended _) = omega arith
  all_more a b ts (grown _ c _ v w f g) = omega (arith, one_more a c v f, all_more c b w g, length-append v w)

  pub few_queries : (bytes : List ℕ) (queries : List Query) → IsFileOf logic bytes queries → length queries < 2 ^ 32
  few_queries bytes queries file =
      omega (arith, all_more [] queries (named_all logic bytes file.tokens) file.derived, length-named_all logic bytes file.tokens, few_tokens bytes file.tokens file.lexed, file.short)
