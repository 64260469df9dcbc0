use Rattle.std.proofs.Common.{◌≡◌, [], drop, length, IsTrue}
use Rattle.std.specs.List.{list_all}
use Rattle.trace_reader.specs.Members.{field_test}
use Rattle.trace_reader.specs.Looks.{fields_of}
use Rattle.trace_reader.proofs.fields.all_elements.Given as goal

abbrev pub invariant-loop-element : goal.invariant-loop-element
invariant-loop-element l = record {
  reads : fields_of l.cyclic l.fields (drop l.element-index l.elements) ≡ fields_of l.cyclic [] l.elements;
  within : IsTrue (list_all (field_test l.cyclic) l.fields);
  length : length l.fields ≡ l.element-index;
}
