-- A key that was there is that of a line with these items, and a new one is appended with the line.
use Rattle.std.proofs.Common.{◌≡◌, ◌+◌, ◌∷◌, ◌++◌, [], length, map, nat_eq, refl, sym, ap, subst, ◌∙◌}
use Rattle.std.specs.List.{Any, list_any}
use Rattle.std.specs.Cmp.Lexicographic.{pointwise}
use Rattle.lgc_syntax.specs.Subformulas.{IsSubformula}
use Rattle.lgc_proofs.specs.Proofs.{IsLineFor}
use Rattle.lgc_proofs.specs.Store.{AreKept}
use Rattle.lgc_proofs.proofs.StoreLaws.{kept_grown, kept_count, inserted, taken_back, line_found, kept_more, line_last}
use Rattle.lgc_proofs.proofs.proofs.Proofs.line_for.Goals as goal

pub invariant_of-self : goal.invariant_of-self
invariant_of-self g c =
    let kept = c.self.inside in
    kept_grown (λ key. key.items) (λ f. Any (λ item. IsSubformula f item.formula) c.args.sequent) g.row.N kept.formulas c.pack.new.formulas kept.lines kept.keys.keys kept.keys.keys c.pack.ensures.grown refl c.self.invariant

pub invariant_of-self-in_err-key : goal.invariant_of-self-in_err-key
invariant_of-self-in_err-key g c =
    let kept = c.self.inside in
    kept_grown (λ key. key.items) (λ f. Any (λ item. IsSubformula f item.formula) c.args.sequent) g.row.N kept.formulas c.pack.new.formulas kept.lines kept.keys.keys kept.keys.keys c.pack.ensures.grown refl c.self.invariant

pub invariant_of-self-in_err-place : goal.invariant_of-self-in_err-place
invariant_of-self-in_err-place g c =
    let kept = c.self.inside in
    kept_grown (λ key. key.items) (λ f. Any (λ item. IsSubformula f item.formula) c.args.sequent) g.row.N kept.formulas c.pack.new.formulas kept.lines kept.keys.keys c.insert_full.new.self.keys c.pack.ensures.grown c.in_err-place.ensures.err c.self.invariant

pub invariant_of-self-then-not-is_new : goal.invariant_of-self-then-not-is_new
invariant_of-self-then-not-is_new g c =
    let kept = c.self.inside in
    let there = list_any (λ w. pointwise nat_eq c.in_ok-key.key.items w.items) kept.keys.keys in
    let same = (inserted there c.in_ok-place.is_new kept.keys.keys c.insert_full.new.self.keys c.in_ok-key.key c.in_ok-place.ensures.keys c.in_ok-place.ensures.added).0 c.if-not-is_new.true in
    kept_grown (λ key. key.items) (λ f. Any (λ item. IsSubformula f item.formula) c.args.sequent) g.row.N kept.formulas c.pack.new.formulas kept.lines kept.keys.keys c.insert_full.new.self.keys c.pack.ensures.grown same c.self.invariant

pub returns-then-not-is_new-clause-line : goal.returns-then-not-is_new-clause-line
returns-then-not-is_new-clause-line g c =
    let kept = c.self.inside in
    let stored = c.in_ok-place.ensures.stored in
    let are = kept_grown (λ key. key.items) (λ f. Any (λ item. IsSubformula f item.formula) c.args.sequent) g.row.N kept.formulas c.pack.new.formulas kept.lines kept.keys.keys kept.keys.keys c.pack.ensures.grown refl c.self.invariant in
    subst (λ old. IsLineFor old kept.lines c.args.sequent c.args.reason (c.in_ok-place.place + 1)) c.self.view_is
    (line_found (λ key. key.items) g.row.N c.pack.new.formulas kept.lines kept.keys.keys c.insert_full.new.self.keys c.in_ok-key.key c.in_ok-packed.packed c.args.sequent c.args.reason c.in_ok-place.is_new are c.in_ok-key.ensures.packed
    c.in_ok-packed.ensures.packed c.in_ok-key.ensures.key c.in_ok-place.ensures.keys c.in_ok-place.ensures.added c.in_ok-place.place stored.0 c.if-not-is_new.true stored.1 stored.2)

pub invariant_of-self-in-Err : goal.invariant_of-self-in-Err
invariant_of-self-in-Err g c =
    let kept = c.self.inside in
    let there = list_any (λ w. pointwise nat_eq c.in_ok-key.key.items w.items) kept.keys.keys in
    let more = (inserted there c.in_ok-place.is_new kept.keys.keys c.insert_full.new.self.keys c.in_ok-key.key c.in_ok-place.ensures.keys c.in_ok-place.ensures.added).1 c.if-not-is_new.false in
    let back = taken_back kept.keys.keys c.insert_full.new.self.keys c.truncate.new.self.keys c.in_ok-key.key c.len-count.result more.0 c.len-count.ensures.len c.truncate.ensures.keys in
    subst (λ ls. AreKept g.row.N c.pack.new.formulas ls (map (λ key. key.items) c.truncate.new.self.keys)) (sym c.in-Err.ensures.err)
    (kept_grown (λ key. key.items) (λ f. Any (λ item. IsSubformula f item.formula) c.args.sequent) g.row.N kept.formulas c.pack.new.formulas kept.lines kept.keys.keys c.truncate.new.self.keys c.pack.ensures.grown back c.self.invariant)

pub invariant_of-self-in_default : goal.invariant_of-self-in_default
invariant_of-self-in_default g c =
    let kept = c.self.inside in
    let are = kept_grown (λ key. key.items) (λ f. Any (λ item. IsSubformula f item.formula) c.args.sequent) g.row.N kept.formulas c.pack.new.formulas kept.lines kept.keys.keys kept.keys.keys c.pack.ensures.grown refl c.self.invariant in
    let next : c.len-count.result + 1 ≡ length kept.lines + 1 = ap (λ k. k + 1) (c.len-count.ensures.len ∙ kept_count (λ key. key.items) g.row.N kept.formulas kept.lines kept.keys.keys c.self.invariant) in
    kept_more (λ key. key.items) g.row.N c.pack.new.formulas kept.lines kept.keys.keys c.insert_full.new.self.keys c.in_ok-key.key c.in_ok-packed.packed c.args.sequent c.args.reason c.in_ok-place.is_new are c.in_ok-key.ensures.packed
    c.in_ok-packed.ensures.packed c.in_ok-key.ensures.key c.in_ok-place.ensures.keys c.in_ok-place.ensures.added c.if-not-is_new.false c.in_ok-packed.ensures.numbering c.push.new.self
    (c.in_default.ensures.ok ∙ ap (λ k. kept.lines ++ record { number = k; sequent = c.args.sequent; reason = c.args.reason } ∷ []) next)

pub returns-clause-line : goal.returns-clause-line
returns-clause-line g c =
    let kept = c.self.inside in
    let next : c.len-count.result + 1 ≡ length kept.lines + 1 = ap (λ k. k + 1) (c.len-count.ensures.len ∙ kept_count (λ key. key.items) g.row.N kept.formulas kept.lines kept.keys.keys c.self.invariant) in
    subst (λ old. IsLineFor old c.push.new.self c.args.sequent c.args.reason (c.len-count.result + 1)) c.self.view_is
    (subst (IsLineFor kept.lines c.push.new.self c.args.sequent c.args.reason) (sym next)
    (line_last kept.lines c.push.new.self c.args.sequent c.args.reason (c.in_default.ensures.ok ∙ ap (λ k. kept.lines ++ record { number = k; sequent = c.args.sequent; reason = c.args.reason } ∷ []) next)))
