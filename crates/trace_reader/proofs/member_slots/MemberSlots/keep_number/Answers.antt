use Rattle.std.proofs.Common.{◌<◌, length, ap, ◌∙◌, arith}
use Rattle.std.proofs.Math.ListN.{set}
use Rattle.trace_reader.specs.Looks.{place, number_of_look}
use Rattle.trace_reader.proofs.Tables.{Tells-number}
use Rattle.trace_reader.proofs.member_slots.MemberSlots.keep_number.Goals as goal

pub returns : goal.returns
returns c ms d tells seen =
    let inside : place c.args.name < length c.args.self.now.numbers = omega (arith, c.place.ensures.value, c.place.ensures.within) in
    let put_there = ap (λ p. record c.args.self.now { numbers = set c.args.self.now.numbers p c.number_of.result }) c.place.ensures.value in
    Tells-number d ms c.args.self.now _ c.args.name c.number_of.result tells inside (c.number_of.ensures ∙ ap number_of_look seen) put_there
