use Rattle.std.proofs.Common.{◌≡◌, ap, ◌∙◌, slice_set}
use Rattle.leak_report.specs.HolderPass.{with_holders, leak_names}
use Rattle.leak_report.proofs.HolderLemmas.{slot_holding, other_slot, not_found, found, names-with_holders}
use Rattle.leak_report.proofs.holders.push_holder.Goals as goal

pub returns-in_default : goal.returns-in_default
returns-in_default c = record {
  value = other_slot c.args.holder c.args.slot c.args.leaks.now.items c.in_default.not-Strong;
  same = c.requires.same;
}

pub returns-in_default-binary_search-clause-value : goal.returns-in_default-binary_search-clause-value
returns-in_default-binary_search-clause-value c =
    not_found c.args.holder c.in-Strong.object c.in_default-binary_search.field-0 c.args.slot c.args.names.now c.args.leaks.now.items
    c.in-Strong.is c.requires.same c.requires.rising c.in_default-binary_search.ensures.position

changed : (c : goal.In_ok-push) → slice_set c.args.leaks.now.items c.in-Ok.place (record { object = c.index_mut-leak.result.now.object; holders = c.push.new.self }) ≡ with_holders (slot_holding c.args.holder c.args.slot) c.args.leaks.now.items
changed c =
    found c.args.holder c.in-Strong.object c.in-Ok.place c.args.slot c.args.names.now c.args.leaks.now.items c.index_mut-leak.result.now c.push.new.self
    c.in-Strong.is c.requires.same c.requires.rising c.in-Ok.ensures.position c.index_mut-leak.ensures.value c.in_ok-push.ensures.ok

pub returns-clause-value : goal.returns-clause-value
returns-clause-value c = changed c

pub returns-clause-same : goal.returns-clause-same
returns-clause-same c = ap leak_names (changed c) ∙ names-with_holders (slot_holding c.args.holder c.args.slot) c.args.leaks.now.items ∙ c.requires.same
