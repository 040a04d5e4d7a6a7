-- Lists of formulas that grow by subformulas.
use Rattle.std.proofs.Common.{ℕ, zero, suc, ◌≡◌, ◌+◌, ◌<◌, ◌≤◌, true, false, List, [], ◌∷◌, ◌++◌, Some, length, map, take, get_or, slice_get, refl, sym, ap, subst, ◌∙◌, arith}
use Rattle.std.specs.List.{All, Any, Contains}
use Rattle.std.proofs.lemmas.List.{append_assoc, append-nil, length-append, length-map, map-append, get_or-map, take_more}
use Rattle.std.proofs.lemmas.List.Elements.{All-nil, All-push, All-append, All-weaker}
use Rattle.std.proofs.lemmas.Option.{slice_get_within}
use Rattle.lgc_syntax.specs.declared.formula.Formula.{Formula, Op}
use Rattle.lgc_syntax.proofs.SubformulaLaws.{subformula_of_some}
use Rattle.lgc_numbering.specs.declared.node.Node.{Node}
use Rattle.lgc_numbering.specs.declared.node.Node.TheVariants as node
use Rattle.lgc_numbering.specs.Numbering.{formula_at, AreNodesOf}
use Rattle.lgc_numbering.specs.Store.{AreNumbersOf}
use Rattle.lgc_syntax.specs.Subformulas.{IsSubformula, itself, of_argument}
use Rattle.lgc_numbering.specs.Growth.{IsGrownBy}
use Rattle.lgc_numbering.proofs.Lists.{slice_get-left, map-alike}
use Rattle.lgc_numbering.proofs.NumberingLaws.{formula_at-is, formula_at-left, formula_at-node}

-- the argument of a compound is one of its subformulas, by their numbers
pub argument_is_subformula : (formulas : List Formula) (nodes : List Node) (k op : ℕ) (args : List ℕ) → AreNodesOf formulas nodes → slice_get nodes k ≡ Some (node.Compound op args) → All (λ a. IsSubformula (formula_at formulas a) (formula_at formulas k)) args
argument_is_subformula formulas nodes k op args are at = λ i d lt.
    let arg = formula_at formulas (get_or args i d) in
    let there : Contains (map (formula_at formulas) args) arg = (i, subst (λ n. i < n) (sym (length-map args (formula_at formulas))) lt, get_or-map (formula_at formulas) args i d arg lt) in
    subst (IsSubformula arg) (sym (formula_at-node formulas nodes k (node.Compound op args) are at)) (of_argument op (map (formula_at formulas) args) arg there itself)

module _ (P : Formula → Type 0) where
  pub grown_none : (fs : List Formula) → IsGrownBy P fs fs
  grown_none fs = record { added = []; is = sym (append-nil fs); each = All-nil P }

  pub grown_one : (fs : List Formula) (f : Formula) → P f → IsGrownBy P fs (fs ++ f ∷ [])
  grown_one fs f is = record { added = f ∷ []; is = refl; each = All-push P [] f (All-nil P) is }

  pub grown_grown : (fs gs hs : List Formula) → IsGrownBy P fs gs → IsGrownBy P gs hs → IsGrownBy P fs hs
  grown_grown fs gs hs more further = record {
    added = more.added ++ further.added;
    is = further.is ∙ ap (λ xs. xs ++ further.added) more.is ∙ append_assoc fs more.added further.added;
    each = All-append P more.added further.added more.each further.each;
  }

  pub grown_as : (Q : Formula → Type 0) → ((f : Formula) → P f → Q f) → (fs gs : List Formula) → IsGrownBy P fs gs → IsGrownBy Q fs gs
  grown_as Q follows fs gs more = record { added = more.added; is = more.is; each = All-weaker P Q follows more.added more.each }

-- ---- what stays

pub grown_at : (P : Formula → Type 0) (fs gs : List Formula) (k : ℕ) (f : Formula) → IsGrownBy P fs gs → slice_get fs k ≡ Some f → slice_get gs k ≡ Some f
grown_at P fs gs k f more at = subst (λ xs. slice_get xs k ≡ Some f) (sym more.is) (slice_get-left fs more.added k f at)

pub grown_long : (P : Formula → Type 0) (fs gs : List Formula) → IsGrownBy P fs gs → length fs ≤ length gs
grown_long P fs gs more = let long = ap length more.is ∙ length-append fs more.added in omega (arith, long)

pub numbers_grown : (P : Formula → Type 0) (fs gs hs : List Formula) (numbers : List ℕ) → IsGrownBy P fs gs → AreNumbersOf fs hs numbers → AreNumbersOf gs hs numbers
numbers_grown P fs gs hs numbers more are = record {
  within = λ i d lt. let below = are.within i d lt in let long = grown_long P fs gs more in omega (arith, below, long);
  same = map-alike (formula_at gs) (formula_at fs) numbers (λ i d lt. ap (λ xs. formula_at xs (get_or numbers i d)) more.is ∙ formula_at-left fs more.added (get_or numbers i d) (are.within i d lt)) ∙ are.same;
}

pub numbers_more : (fs gs : List Formula) (numbers : List ℕ) (f : Formula) (k : ℕ) → AreNumbersOf fs gs numbers → slice_get fs k ≡ Some f → AreNumbersOf fs (gs ++ f ∷ []) (numbers ++ k ∷ [])
numbers_more fs gs numbers f k are at = record {
  within = All-push (λ a. a < length fs) numbers k are.within (slice_get_within fs k f at);
  same = map-append (formula_at fs) numbers (k ∷ []) ∙ (λ i. are.same i ++ formula_at-is fs k f at i ∷ []);
}

-- ---- the walk over a formula

pub grown_by_itself : (f : Formula) (fs gs : List Formula) → IsGrownBy (λ g. g ≡ f) fs gs → IsGrownBy (λ g. IsSubformula g f) fs gs
grown_by_itself f fs gs = grown_as (λ g. g ≡ f) (λ g. IsSubformula g f) (λ g same. subst (λ h. IsSubformula h f) (sym same) itself) fs gs

pub grown_by_arguments : (f : Formula) (op : ℕ) (args items fs gs : List Formula) → f ≡ Op op args → items ≡ args → IsGrownBy (λ g. Any (IsSubformula g) items) fs gs → IsGrownBy (λ g. IsSubformula g f) fs gs
grown_by_arguments f op args items fs gs is same =
    grown_as (λ g. Any (IsSubformula g) items) (λ g. IsSubformula g f) (λ g some. subst (IsSubformula g) (sym is) (subformula_of_some op args g (subst (Any (IsSubformula g)) same some))) fs gs

pub grown_by_compound : (f : Formula) (op : ℕ) (args items fs gs hs : List Formula) (numbers : List ℕ) → f ≡ Op op args → items ≡ args → IsGrownBy (λ g. Any (IsSubformula g) items) fs gs → AreNumbersOf gs items numbers
    → IsGrownBy (λ g. g ≡ Op op (map (formula_at gs) numbers)) gs hs → IsGrownBy (λ g. IsSubformula g f) fs hs
grown_by_compound f op args items fs gs hs numbers is same more are further =
    grown_grown (λ g. IsSubformula g f) fs gs hs (grown_by_arguments f op args items fs gs is same more)
    (grown_by_itself f gs hs (subst (λ h. IsGrownBy (λ g. g ≡ h) gs hs) (ap (Op op) (are.same ∙ same) ∙ sym is) further))

pub grown_by_item : (fs gs hs items : List Formula) (i : ℕ) (f : Formula) → i < length items → f ≡ get_or items i f → IsGrownBy (λ g. Any (IsSubformula g) items) fs gs → IsGrownBy (λ g. IsSubformula g f) gs hs → IsGrownBy (λ g. Any (IsSubformula g) items) fs hs
grown_by_item fs gs hs items i f lt read more further =
    grown_grown (λ g. Any (IsSubformula g) items) fs gs hs more (grown_as (λ g. IsSubformula g f) (λ g. Any (IsSubformula g) items) (λ g is. (i, f, lt, sym read, is)) gs hs further)

pub numbers_item : (P : Formula → Type 0) (fs gs items : List Formula) (numbers after : List ℕ) (i : ℕ) (f : Formula) (k : ℕ) → i < length items → f ≡ get_or items i f → IsGrownBy P fs gs → AreNumbersOf fs (take i items) numbers → slice_get gs k ≡ Some f
    → after ≡ numbers ++ k ∷ [] → AreNumbersOf gs (take (i + 1) items) after
numbers_item P fs gs items numbers after i f k lt read more are at pushed =
    subst (AreNumbersOf gs (take (i + 1) items)) (sym pushed)
    (subst (λ xs. AreNumbersOf gs xs (numbers ++ k ∷ [])) (sym (take_more items i f lt ∙ ap (λ x. take i items ++ x ∷ []) (sym read))) (numbers_more gs (take i items) numbers f k (numbers_grown P fs gs (take i items) numbers more are) at))
