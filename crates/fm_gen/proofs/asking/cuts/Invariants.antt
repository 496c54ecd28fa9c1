use Rattle.std.proofs.Common.{◌≡◌, ◌++◌, drop}
use Rattle.fm_tree.specs.PortReading.{fields_of}
use Rattle.fm_gen.specs.Statements.{cuts_code}
use Rattle.fm_gen.proofs.asking.cuts.Given as goal

abbrev pub invariant-fields : goal.invariant-fields
invariant-fields l = record {
  place : l.item ≡ l.field-index;
  code : l.out ++ cuts_code l.item (fields_of (drop l.field-index l.fields)) ≡ l.fn.out ++ cuts_code 0 (fields_of l.fields);
}
