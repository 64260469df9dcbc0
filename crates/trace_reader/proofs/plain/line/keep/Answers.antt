use Rattle.std.proofs.Common.{◌≡◌, ◌-◌, ◌∷◌, length, take, drop, Some, IfSome, subst, sym, ap, arith}
use Rattle.std.proofs.lemmas.Grind.{common_steps}
use Rattle.serde_json.specs.Data.{array, put}
use Rattle.trace_reader.specs.declared.names.MemberName.TheVariants as member
use Rattle.trace_reader.specs.Looks.{IsNamed, Tells}
use Rattle.trace_reader.specs.Plain.{AreElements}
use Rattle.trace_reader.proofs.Tables.{Tells-other}
use Rattle.trace_reader.proofs.PlainLemmas.{fields_key, value_of_array}
use Rattle.trace_reader.proofs.plain.line.keep.Goals as goal

pub returns-in-Some-2 : goal.returns-in-Some-2
returns-in-Some-2 c =
    let text = c.args.text.now in
    let listed = take (length text - 1) (drop 1 text) in
    let is : text ≡ 91 ∷ listed = grind (arith, common_steps) in
    let is_fields : c.args.name ≡ Some member.Fields = grind arith in
    let elements = subst (λ read. IfSome read (λ found. AreElements listed found.0.items found.1.now)) c.in-Some-2.is c.in_ok-elements-in-Some-Fields.ensures in (
      array elements.items,
      value_of_array text listed c.in-Some-2.rest.now c.in-Some-2.elements.items is elements,
      λ key ms named tells. subst (λ k. Tells c.keep_fields.new.self (put k (array elements.items) ms)) (sym (fields_key c.args.name is_fields key named)) (c.keep_fields.ensures ms (array elements.items) tells (ap (λ rs. Some (Some rs)) (sym elements.are))),
    )

pub returns-in-Some-passed : goal.returns-in-Some-passed
returns-in-Some-passed c =
    let found = c.in-Some-passed.ensures in
    (found.0, found.1, (λ key ms named tells. Tells-other found.0 ms c.args.kept.now key (subst (IsNamed key) c.in-None.is named) tells))
