-- The logic of a specification.
use Rattle.std.specs.Prelude.{length}
use Rattle.lgc_values.specs.Values.{members_of}
use Rattle.lgc_values.specs.Logic.{Logic}
use Rattle.lgc_spec.specs.declared.spec.Spec.{Spec}

abbrev pub logic_of : Spec → Logic
logic_of spec = record {
  size = length spec.values;
  names = spec.values;
  designated = members_of (length spec.values) spec.designated;
  operators = spec.operators;
  quantifiers = spec.quantifiers;
}
