-- What the definition of a specification gives is a logic, where the names that it declares are plain.
use Rattle.std.proofs.Common.{◌≡◌, ℕ, ◌<◌, List, length, All, IfOk, Result, Ok, Err, refl, arith}
use Rattle.std.specs.List.{filter_map}
use Rattle.std.proofs.lemmas.List.Elements.{All-map}
use Rattle.lgc_values.specs.Values.{mask_of}
use Rattle.lgc_values.specs.Logic.{IsLogic, IsPlainName}
use Rattle.lgc_parser.specs.declared.tree.Statement.{Statement}
use Rattle.lgc_parser.specs.TreeWords.{StatementDeclares}
use Rattle.lgc_spec.specs.declared.spec.Spec.{Spec}
use Rattle.lgc_spec.specs.declared.fault.SpecFault.{SpecFault}
use Rattle.lgc_spec.specs.Faults.{Answers}
use Rattle.lgc_spec.specs.Logics.{logic_of}
use Rattle.lgc_spec.specs.Words.{text_of, SaysPlainName}
use Rattle.lgc_spec.specs.Statements.{first_some, name_in}
use Rattle.lgc_spec.specs.Orderings.{OrderingsGive}
use Rattle.lgc_spec.specs.Operators.{OperatorsGive, operator_in}
use Rattle.lgc_spec.specs.Quantifiers.{QuantifiersGive, quantifier_in}
use Rattle.lgc_spec.specs.Specification.{values_given, logic_name, StatementsGive}
use Rattle.lgc_spec.proofs.FoundWords.{declared_values, declared_operators, declared_quantifiers}
use Rattle.lgc_spec.proofs.OperatorShapes.{follows_ok, then_ok, operators_rows}
use Rattle.lgc_spec.proofs.LogicShapes.{values_are, members_kept, operators_are, symbols_apart, operators_few}
use Rattle.lgc_spec.proofs.QuantifierShapes.{quantifiers_are, quantifiers_few, all_apart}

pub is_logic : (bytes : List ℕ) (statements : List Statement) (told : Spec) → All (StatementDeclares (SaysPlainName bytes) (SaysPlainName bytes)) statements → StatementsGive bytes statements (Ok told) → IsLogic (logic_of told)
is_logic bytes statements told plain h =
    let (values, v, h1) = follows_ok (values_given bytes statements) _ told h in
    let (orderings, o, h2) = then_ok (OrderingsGive bytes values.0 statements) _ told h1 in
    let (operators, all, h3) = then_ok (OperatorsGive bytes values.0 orderings statements) _ told h2 in
    let (quantifiers, others, h4) = then_ok (QuantifiersGive bytes values.0 orderings operators statements) _ told h3 in
    let it : Spec = record { name = logic_name bytes (first_some name_in statements); values = values.0; designated = mask_of values.1; operators = operators; quantifiers = quantifiers } in
    let same : told ≡ it = same_spec told it h4 in
    let law = values_are bytes statements values.0 values.1 v in
    let some : 0 < length values.0 = omega (arith, law.0.some) in
    let written = filter_map operator_in statements in
    let tables = operators_rows bytes values.0 some orderings statements operators all in
    let listed = filter_map quantifier_in statements in
    let fewer = operators_few bytes values.0 orderings some written operators all in
    let few = quantifiers_few bytes values.0 some orderings operators tables listed quantifiers others in
    rw same (record {
      sized = record { low = law.0.some; high = law.0.few };
      named = refl;
      plain = rw law.1.3 (All-map IsPlainName (text_of bytes) law.1.1 (declared_values (SaysPlainName bytes) (SaysPlainName bytes) statements law.1.0 law.1.1 plain law.1.2));
      distinct = law.0.distinct;
      designated = members_kept (length values.0) (mask_of values.1);
      operators = operators_are bytes values.0 orderings some written operators all (declared_operators (SaysPlainName bytes) (SaysPlainName bytes) statements plain);
      quantifiers = quantifiers_are bytes values.0 some orderings operators tables listed quantifiers others (declared_quantifiers (SaysPlainName bytes) (SaysPlainName bytes) statements plain);
      few = omega (arith, few, fewer);
      distinct_symbols = all_apart bytes values.0 some orderings operators tables listed quantifiers others (symbols_apart bytes values.0 orderings some written operators all);
    }) where
      same_spec : (a b : Spec) → ◌≡◌ {A = Result Spec SpecFault} (Ok a) (Ok b) → a ≡ b
      same_spec a b e = cc

pub logic_told : (bytes : List ℕ) (statements : List Statement) (result : Result Spec SpecFault) → All (StatementDeclares (SaysPlainName bytes) (SaysPlainName bytes)) statements → Answers (StatementsGive bytes statements) result → IfOk result (λ spec. IsLogic (logic_of spec))
logic_told bytes statements (Ok told) plain h = is_logic bytes statements told plain h
logic_told bytes statements (Err fault) plain h = tt
