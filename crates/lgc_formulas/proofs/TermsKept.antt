-- The terms of the grammar fit the quantifiers around them and keep the limits, and their nodes are counted.
use Rattle.std.proofs.Common.{◌≡◌, ◌≤◌, ◌<◌, ◌+◌, ◌-◌, ℕ, zero, suc, Bool, true, false, List, [], ◌∷◌, ◌++◌, length, map, Option, Some, None, Ok, inl, inr, refl, ◌∙◌, arith}
use Rattle.std.specs.Prelude.{◌||◌, ◌==◌}
use Rattle.std.specs.Str.{bytes_eq}
use Rattle.std.specs.List.{AllByRecursion, list_all, sum_by}
use Rattle.std.proofs.lemmas.Bool.{lt-ltb}
use Rattle.std.proofs.lemmas.List.Sums.{sum_by-append}
use Rattle.std.proofs.lemmas.List.Quantifiers.{position-Some}
use Rattle.std.proofs.lemmas.Iterator.Adapters.{position_from-zero}
use Rattle.lgc_grammar.specs.Grammar.{Grammar, Growing, ended, grown}
use Rattle.lgc_syntax.specs.declared.fault.TheConstants.{RESERVED_NAME, TOO_DEEP, TOO_LARGE}
use Rattle.lgc_syntax.specs.declared.formula.Term.{Term, Apply}
use Rattle.lgc_syntax.specs.Fits.{term_fits}
use Rattle.lgc_syntax.specs.Sizes.{greatest, term_nodes, term_depth}
use Rattle.lgc_syntax.proofs.FitsLaws.{term_fits-Bound, term_fits-Free, term_fits-Apply}
use Rattle.lgc_syntax.proofs.SizeLaws.{term_nodes-Bound, term_nodes-Free, term_nodes-Apply, term_depth-Bound, term_depth-Free, term_depth-Apply}
use Rattle.lgc_tokens.specs.Spelled.{Spelled}
use Rattle.lgc_formulas.specs.Scopes.{bound_in}
use Rattle.lgc_formulas.specs.Faults.{first_broken}
use Rattle.lgc_formulas.specs.TermGrammar.{Counted, with_term, variable_by, variable, CommaTerm, Terms, TermPhrase}

-- ---- lists

pub all_push : {X : Type 0} (P : X → Type 0) (xs : List X) (x : X) → AllByRecursion P xs → P x → AllByRecursion P (xs ++ x ∷ [])
all_push P [] x each last = (last, tt)
all_push P (y ∷ xs) x (h, each) last = (h, all_push P xs x each last)

pub all_pass : {X : Type 0} (p : X → Bool) (xs : List X) → AllByRecursion (λ x. p x ≡ true) xs → list_all p xs ≡ true
all_pass p [] each = refl
all_pass p (x ∷ xs) (h, each) = rw h (all_pass p xs each)

pub greatest_at_most : {X : Type 0} (f : X → ℕ) (xs : List X) (most : ℕ) → AllByRecursion (λ x. f x ≤ most) xs → greatest (map f xs) ≤ most
greatest_at_most f [] most each = omega arith
greatest_at_most f (x ∷ xs) most (h, each) = let below = greatest_at_most f xs most each in grind (arith, h, below)

pub sum_push : {X : Type 0} (f : X → ℕ) (xs : List X) (x : X) → sum_by f (xs ++ x ∷ []) ≡ sum_by f xs + f x
sum_push f xs x = omega (arith, sum_by-append f xs (x ∷ []))

-- ---- terms

-- A term that was read with these limits, where so many quantifiers stand around it.
pub record TermKept (around deep many : ℕ) (x : Counted Term) : Type 0 where
  pub fits : term_fits x.0 around ≡ true
  pub shallow : term_depth x.0 ≤ deep
  pub counted : term_nodes x.0 + x.1 ≡ many

-- Terms in a row that were.
pub record TermsKept (around deep many : ℕ) (xs : Counted (List Term)) : Type 0 where
  pub fit : AllByRecursion (λ t. term_fits t around ≡ true) xs.0
  pub shallow : AllByRecursion (λ t. term_depth t ≤ deep) xs.0
  pub counted : sum_by term_nodes xs.0 + xs.1 ≡ many

push : (around deep many : ℕ) (xs : Counted (List Term)) (x : Counted Term) → TermsKept around deep many xs → TermKept around deep xs.1 x → TermsKept around deep many (with_term xs x)
push around deep many xs x before k = record {
  fit = all_push (λ t. term_fits t around ≡ true) xs.0 x.0 before.fit k.fits;
  shallow = all_push (λ t. term_depth t ≤ deep) xs.0 x.0 before.shallow k.shallow;
  counted = omega (arith, sum_push term_nodes xs.0 x.0, before.counted, k.counted);
}

module _ (L : ℕ → Grammar Spelled (Counted Term)) (around deep : ℕ) (each : (many : ℕ) (x : Counted Term) (ts : List Spelled) → L many (Ok x) ts → TermKept around deep many x) where
  more_kept : (many : ℕ) (a c : Counted (List Term)) (ts : List Spelled) → TermsKept around deep many a → Growing (CommaTerm L) a (Ok c) ts → TermsKept around deep many c
  more_kept many a c ts k (ended _) = k
  more_kept many a c ts k (grown _ b _ v w (comma, v1, w1, p1, (x, is, h), s1) g) = more_kept many b c w (rw is (push around deep many a x k (each a.1 x w1 h))) g

  pub terms_kept : (many : ℕ) (xs : Counted (List Term)) (ts : List Spelled) → Terms L many (Ok xs) ts → TermsKept around deep many xs
  terms_kept many xs ts (inr (e, n)) = rw e (record { fit = tt; shallow = tt; counted = omega arith })
  terms_kept many xs ts (inl (o, v1, w1, p1, (a, v2, w2, (x, is, h), (c, v3, w3, grow, (z, v4, w4, p4, (e, n), s4), s3), s2), s1)) =
      let first : TermsKept around deep many a = rw is (push around deep many ([], many) x (record { fit = tt; shallow = tt; counted = omega arith }) (each many x v2 h)) in
      rw e (more_kept many a c v3 first grow)

-- a token that breaks no rule leaves room for a node
has_room : (a b : Bool) (many : ℕ) (d : Bool) → first_broken ((a, RESERVED_NAME) ∷ ((b, TOO_DEEP) ∷ ((many == 0 || d, TOO_LARGE) ∷ []))) ≡ None → 1 ≤ many
has_room true b many d e = absurd cc
has_room false true many d e = absurd cc
has_room false false zero d e = absurd cc
has_room false false (suc many) d e = omega arith

bound_below : (names : List (List ℕ)) (text : List ℕ) (i : ℕ) → bound_in names text ≡ Some i → i < length names
bound_below names text i e = (position-Some (λ name. bytes_eq name text) names i [] (position_from-zero (λ name. bytes_eq name text) names ∙ e)).0

variable_kept : (names : List (List ℕ)) (deep many : ℕ) (text : List ℕ) → 1 ≤ many → TermKept (length names) (suc deep) many (variable names text, many - 1)
variable_kept names deep many text room = by (bound_in names text) refl
  where
    by : (b : Option ℕ) → bound_in names text ≡ b → TermKept (length names) (suc deep) many (variable_by b text, many - 1)
    by (Some i) e = record { fits = term_fits-Bound i (length names) ∙ lt-ltb i (length names) (bound_below names text i e); shallow = omega (arith, term_depth-Bound i); counted = omega (arith, term_nodes-Bound i) }
    by None e = record { fits = term_fits-Free text (length names); shallow = omega (arith, term_depth-Free text); counted = omega (arith, term_nodes-Free text) }

application_kept : (around deep many : ℕ) (f : List ℕ) (xs : Counted (List Term)) → 1 ≤ many → TermsKept around deep (many - 1) xs → TermKept around (suc deep) many (Apply f xs.0, xs.1)
application_kept around deep many f xs room k = record {
  fits = term_fits-Apply f xs.0 around ∙ all_pass (λ t. term_fits t around) xs.0 k.fit;
  shallow = omega (arith, term_depth-Apply f xs.0, greatest_at_most term_depth xs.0 deep k.shallow);
  counted = omega (arith, term_nodes-Apply f xs.0, k.counted);
}

pub term_kept : (limited : Bool) (names : List (List ℕ)) (deep many : ℕ) (x : Counted Term) (ts : List Spelled) → TermPhrase limited names deep many (Ok x) ts → TermKept (length names) deep many x
term_kept limited names zero many x ts h = absurd h
term_kept limited names (suc deep) many x ts (inl (head, is, (passes, none, one))) = rw is (variable_kept names deep many head.text (has_room _ _ many _ none))
term_kept limited names (suc deep) many x ts (inr (head, v, w, (passes, none, one), (xs, v2, w2, h, (e, n), s2), s1)) =
    let k = terms_kept (TermPhrase limited names deep) (length names) deep (term_kept limited names deep) (many - 1) xs v2 h in
    rw e (application_kept (length names) deep many head.text xs (has_room _ _ many _ none) k)
