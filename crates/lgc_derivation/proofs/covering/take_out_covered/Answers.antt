-- A needed clause is passed, a covered one is taken out.
use Rattle.std.proofs.Common.{◌≡◌, ℕ, ◌<◌, List, length, ap, ◌∙◌, below_more, arith, refl, subst, true, map}
use Rattle.std.specs.Prelude.{Contains}
use Rattle.std.proofs.lemmas.List.Elements.{All-contains_itself}
use Rattle.std.proofs.lemmas.List.Quantifiers.{all_pairs_remove}
use Rattle.lgc_values.specs.Values.{mask_of}
use Rattle.lgc_clauses.specs.Rules.{is_before}
use Rattle.lgc_derivation.specs.Derived.{NeedsAt, IsCovered}
use Rattle.lgc_derivation.proofs.Removing.{All-remove, covered_same, needed_remove}
use Rattle.lgc_derivation.proofs.covering.take_out_covered.Goals as goal

pub loop-i-init : goal.loop-i-init
loop-i-init g c = record {
  within = omega arith;
  kept = All-contains_itself c.args.clauses.now.items;
  same = λ row lt. refl;
  needed = λ k lt. absurd (omega arith);
  rising = c.requires;
}

pub loop-i-preserved-in-Some : goal.loop-i-preserved-in-Some
loop-i-preserved-in-Some g c =
    let table = g.T.Table.plain c.args.table.now in
    let needs : NeedsAt table c.loop-i.clauses.items c.loop-i.i c.in-Some._row =
    subst (λ (clauses : List (List (List ℕ))). NeedsAt table clauses c.loop-i.i c.in-Some._row) c.deref.ensures.value c.in-Some.ensures in
    record {
      within = omega arith;
      kept = c.loop-i.invariant.kept;
      same = c.loop-i.invariant.same;
      needed = below_more (λ k. (row : ℕ) × NeedsAt table c.loop-i.clauses.items k row) c.loop-i.i c.loop-i.invariant.needed (c.in-Some._row, needs);
      rising = c.loop-i.invariant.rising;
    }

pub loop-i-preserved : goal.loop-i-preserved
loop-i-preserved g c =
    let table = g.T.Table.plain c.args.table.now in
    let covered : IsCovered table c.loop-i.clauses.items c.loop-i.i =
    subst (λ (clauses : List (List (List ℕ))). IsCovered table clauses c.loop-i.i) c.deref.ensures.value c.in-None.ensures in
    let lt : c.loop-i.i < length c.loop-i.clauses.items = omega arith in
    rw c.remove.ensures.items (record {
      within = omega (arith, ap length c.remove.ensures.items);
      kept = All-remove (Contains c.args.clauses.now.items) c.loop-i.clauses.items c.loop-i.i c.loop-i.invariant.kept;
      same = λ row within. covered_same table c.loop-i.clauses.items c.loop-i.i row lt covered within ∙ c.loop-i.invariant.same row within;
      needed = λ k below.
          let before : (row : ℕ) × NeedsAt table c.loop-i.clauses.items k row = c.loop-i.invariant.needed k below in
          (before.0, needed_remove table c.loop-i.clauses.items k c.loop-i.i before.0 below lt before.1);
      rising = all_pairs_remove (λ a b. is_before (map mask_of a) (map mask_of b) ≡ true) c.loop-i.clauses.items c.loop-i.i lt c.loop-i.invariant.rising;
    })
