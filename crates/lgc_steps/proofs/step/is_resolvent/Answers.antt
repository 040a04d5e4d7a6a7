-- The values that both lines give.
use Rattle.std.proofs.Common.{◌≡◌, ◌&&◌, true, List, ℕ, sym, ap, ◌∙◌}
use Rattle.std.specs.List.{list_all}
use Rattle.lgc_values.specs.Values.{has, values_where}
use Rattle.lgc_sequents.specs.Sequents.{sign_in, is_included}
use Rattle.lgc_sequents.specs.Steps.{without, common}
use Rattle.lgc_steps.proofs.Covering.{meet_is_common}
use Rattle.lgc_steps.proofs.step.is_resolvent.Goals as goal

pub returns : goal.returns
returns g c =
    let f = c.args.f.now in
    let a = sign_in c.args.left.now f in
    let b = sign_in c.args.right.now f in
    let own = sign_in c.args.conclusion.now f in
    let shared : c.is_subset.result ≡ list_all (has own) (common a b) =
    c.is_subset.ensures
    ∙ ap (λ (s : List ℕ). list_all (has s) c.meet.result) c.sign_of.ensures
    ∙ ap (list_all (has own)) (c.meet.ensures ∙ (λ i. values_where g.row.N (λ w. has (c.sign_among-on_left.ensures i) w && has (c.sign_among.ensures i) w)))
    ∙ meet_is_common g.row.N (has own) a b (λ v member. c.bound-below.ensures.below v (ap (λ (s : List ℕ). has s v) c.sign_among-on_left.ensures ∙ member)) in
    let left : is_included (without f c.args.left.now) c.args.conclusion.now ≡ true = sym c.are_kept.ensures ∙ c.if-not-are_kept.false in
    let right : is_included (without f c.args.right.now) c.args.conclusion.now ≡ true = sym c.are_kept-2.ensures ∙ c.if-not-are_kept-2.false in
    shared ∙ sym (ap (λ x. x && (is_included (without f c.args.right.now) c.args.conclusion.now && list_all (has own) (common a b))) left ∙ ap (λ x. x && list_all (has own) (common a b)) right)
