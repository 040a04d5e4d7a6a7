-- What the query that begins at a place among tokens gives is what reading it tells, and the one thing that it gives.
use Rattle.std.proofs.Common.{◌≡◌, ℕ, Bool, true, false, List, [], ◌∷◌, ◌++◌, drop, Result, Ok, Err, IfOk, refl, sym, ap, subst, inl, inr, ◌⊎◌, arith}
use Rattle.lgc_grammar.specs.Grammar.{Why, Unexpected, Breaks, StopsAt}
use Rattle.lgc_grammar.specs.Among.{EndsBefore, TakesTo, AnswersAmong}
use Rattle.lgc_grammar.proofs.Readers.{either_way}
use Rattle.lgc_grammar.proofs.AmongOthers.{among_answers, among_exact}
use Rattle.lgc_values.specs.Logic.{IsLogic}
use Rattle.lgc_syntax.specs.declared.fault.InputFault.{InputFault}
use Rattle.lgc_syntax.specs.declared.fault.InputFault.TheVariants as fault
use Rattle.lgc_syntax.specs.declared.fault.TheConstants.{UNEXPECTED, WRONG_ARITY}
use Rattle.lgc_meaning.specs.declared.query.Query.{Query}
use Rattle.lgc_inputs.specs.Faults.{fault_of}
use Rattle.lgc_inputs.specs.Told.{Holds, IfFault, IsTree, Tells}
use Rattle.lgc_inputs.specs.Places.{viewed}
use Rattle.lgc_inputs.proofs.Places.{Splits, account_answer, account_once, account_is}
use Rattle.lgc_formulas.specs.Named.{Named}
use Rattle.lgc_formulas.specs.Setting.{Setting, numbered}
use Rattle.lgc_formulas.specs.Limits.{LetsFit}
use Rattle.lgc_formulas.specs.FormulaPlaces.{why_bare}
use Rattle.lgc_formulas.specs.FormulaTexts.{named_place}
use Rattle.lgc_formulas.proofs.FormulasKept.{AreKnown, known_front}
use Rattle.lgc_queries.specs.declared.read.QueryRead.{QueryRead}
use Rattle.lgc_queries.specs.QueryGrammar.{OneQuery}
use Rattle.lgc_queries.specs.PlainQueries.{PlainQuery}
use Rattle.lgc_queries.specs.QueryReading.{one_query_at, query_here_at}
use Rattle.lgc_queries.specs.QueryPlace.{whole_query, QueryGives, with_tokens, QueryTold, IsPlaceFault}
use Rattle.lgc_queries.specs.Limits.{IsQueryFor}
use Rattle.lgc_queries.specs.FileReading.{query_read}
use Rattle.lgc_queries.proofs.QueryReads.{one_query_among}
use Rattle.lgc_queries.proofs.QueryFaults.{place_only}
use Rattle.lgc_queries.proofs.QueriesKept.{query_kept}

module _ (s : Setting) (many : ℕ) where
  -- ---- queries that may be bare

  query_answers : (ts : List Named) (r : Result (QueryRead × List Named) (List Named × Why)) → one_query_at s many ts ≡ r → AnswersAmong (OneQuery s many) (PlainQuery (numbered s)) ts r
  query_answers ts r e = let among = one_query_among s many in subst (AnswersAmong (OneQuery s many) (PlainQuery (numbered s)) ts) e (among_answers among.reads among.settles ts)

  query_exact : (ts : List Named) (answer : Result (QueryRead × List Named) (List Named × Why)) → AnswersAmong (OneQuery s many) (PlainQuery (numbered s)) ts answer → one_query_at s many ts ≡ answer
  query_exact = let among = one_query_among s many in among_exact among.reads among.settles

  -- ---- behind a query that isn't bare, and behind one that is

  here_whole : (ts rest : List Named) (x : QueryRead) → one_query_at s many ts ≡ Ok (x, rest) → x.is_bare ≡ false → query_here_at s many ts ≡ Ok (x.query, rest)
  unfolding query_here_at
  here_whole ts rest x e whole = rw (e, whole) refl

  here_bare : (ts rest : List Named) (x : QueryRead) → one_query_at s many ts ≡ Ok (x, rest) → x.is_bare ≡ true → query_here_at s many ts ≡ Err (rest, why_bare rest)
  unfolding query_here_at
  here_bare ts [] x e bare = rw (e, bare) refl
  here_bare ts (t ∷ rest) x e bare = rw (e, bare) refl

  here_stops : (ts : List Named) (d : List Named × Why) → one_query_at s many ts ≡ Err d → query_here_at s many ts ≡ Err d
  unfolding query_here_at
  here_stops ts d e = rw e refl

  -- ---- what reading answers

  is_whole : (x : QueryRead) → x.is_bare ≡ false → x ≡ whole_query x.query
  is_whole x e = ap (λ (b : Bool). record x { is_bare = b }) e

  query_gives : (ts : List Named) → QueryGives s many ts (query_here_at s many ts)
  query_gives ts = by (one_query_at s many ts) refl
    where
      by : (r : Result (QueryRead × List Named) (List Named × Why)) → one_query_at s many ts ≡ r → QueryGives s many ts (query_here_at s many ts)
      by (Err d) e = rw (here_stops ts d e) (inl (query_answers ts (Err d) e))
      by (Ok (x, rest)) e = at (either_way x.is_bare)
        where
          at : (x.is_bare ≡ true) ⊎ (x.is_bare ≡ false) → QueryGives s many ts (query_here_at s many ts)
          at (inl bare) = rw (here_bare ts rest x e bare) (inr (x, bare, query_answers ts (Ok (x, rest)) e, refl))
          at (inr whole) = rw (here_whole ts rest x e whole) (subst (TakesTo (OneQuery s many) (PlainQuery (numbered s)) ts rest) (is_whole x whole) (query_answers ts (Ok (x, rest)) e))

  -- no other answer is right
  query_once : (ts : List Named) (answer : Result (Query × List Named) (List Named × Why)) → QueryGives s many ts answer → query_here_at s many ts ≡ answer
  query_once ts (Ok (query, rest)) h = here_whole ts rest (whole_query query) (query_exact ts (Ok (whole_query query, rest)) h) refl
  query_once ts (Err d) (inl h) = here_stops ts d (query_exact ts (Err d) h)
  query_once ts (Err (rest, why)) (inr (x, bare, h, is)) = rw is (here_bare ts rest x (query_exact ts (Ok (x, rest)) h) bare)

  -- what is left behind a query are the last tokens
  pub query_splits : Splits (query_here_at s many)
  query_splits ts rest query e = let h = subst (QueryGives s many ts) e (query_gives ts) in (h.front, h.split)

  -- ---- what is told

  module _ (end : ℕ) (ts : List Named) (at : ℕ) where
    pub place_answer : (result : Result (Query × ℕ) InputFault) → Tells (with_tokens ts) result (query_read s many end (drop at ts)) → Holds (QueryTold s many end ts at) result
    place_answer = account_answer named_place (QueryGives s many) (query_here_at s many) query_gives query_once end (with_tokens ts) (drop at ts)

    -- what the tokens give is what reading them tells, so it is one
    pub place_once : (told : Result (Query × ℕ) InputFault) → QueryTold s many end ts at told → query_read s many end (drop at ts) ≡ viewed (with_tokens ts) told
    place_once = account_once named_place (QueryGives s many) (query_here_at s many) query_gives query_once end (with_tokens ts) (drop at ts)

    -- a query that stands there is read, where it doesn't go on with the token behind it
    pub place_complete : (query : Query) (front rest : List Named) (result : Result (Query × ℕ) InputFault) → drop at ts ≡ front ++ rest → OneQuery s many (Ok (whole_query query)) front → EndsBefore (PlainQuery (numbered s)) front rest → Tells (with_tokens ts) result (query_read s many end (drop at ts)) → IsTree (with_tokens ts) result (query, rest)
    place_complete query front rest result split phrase ends told =
        let read : query_here_at s many (drop at ts) ≡ Ok (query, rest) = query_once (drop at ts) (Ok (query, rest)) (record { front = front; split = split; phrase = phrase; longest = ends }) in
        account_is named_place (QueryGives s many) (query_here_at s many) query_gives query_once end (with_tokens ts) (drop at ts) query rest result read told

    -- ---- the numbers of faults

    stop_number : (rest : List Named) (why : Why) → QueryGives s many (drop at ts) (Err (rest, why)) → (number place : ℕ) → fault.Fault number place ≡ fault_of named_place end (rest, why) → IsPlaceFault s number
    stop_number rest Unexpected h number place is = let same : number ≡ UNEXPECTED = cc in inl (omega arith, omega arith)
    stop_number rest (Breaks n) (inl (stop, unfinished)) number place is = let same : number ≡ n = cc in subst (IsPlaceFault s) (sym same) (by rest stop)
      where
        by : (rest : List Named) → StopsAt (OneQuery s many) (PlainQuery (numbered s)) (drop at ts) rest (Breaks n) → IsPlaceFault s n
        by [] stop = absurd stop.reason.1
        by (t ∷ rest) stop = let numbers = place_only s many in numbers.only n (stop.front ++ t ∷ []) stop.reason.1
    stop_number [] (Breaks n) (inr (x, bare, h, why)) number place is = absurd cc
    stop_number (t ∷ rest) (Breaks n) (inr (x, bare, h, why)) number place is = let same : number ≡ WRONG_ARITY = cc in inl (omega arith, omega arith)

    pub place_faults : (result : Result (Query × ℕ) InputFault) → Holds (QueryTold s many end ts at) result → IfFault result (IsPlaceFault s)
    place_faults (Ok x) h = tt
    place_faults (Err fault.Memory) h = tt
    place_faults (Err (fault.Fault number place)) ((rest, why), h, is) = stop_number rest why h number place is

    -- ---- it is a query for the logic

    pub place_fits : LetsFit s → IsLogic s.logic → AreKnown s.logic (drop at ts) → (result : Result (Query × ℕ) InputFault) → Tells (with_tokens ts) result (query_read s many end (drop at ts)) → IfOk result (λ x. IsQueryFor s many x.0)
    place_fits lets logic known (Ok x) told =
        let h = place_answer (Ok x) told in
        query_kept s lets logic many (whole_query x.0) h.front (known_front s.logic h.front (drop x.1 ts) (subst (AreKnown s.logic) h.split known)) h.phrase refl
    place_fits lets logic known (Err f) told = tt
