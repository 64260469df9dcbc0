use Rattle.std.specs.Ordering.{nat_cmp}
use Rattle.std.specs.BTreeSet.{contains}
use Rattle.std.proofs.Common.{ℕ, Bool}
use Rattle.heap_difference.proofs.ScopeLemmas.{with_handle, label_alike, under_alike}
use Rattle.heap_difference.proofs.FoundLemmas.{once_sound}
use Rattle.heap_difference.proofs.scopes.stands_alike.Goals as goal

pub returns : goal.returns
returns c =
    let k : ℕ → Bool = λ g. contains nat_cmp c.args.set.now g in
    let once = once_sound c.args.old.now c.show_sound.ensures.sound in
    let once_too = once_sound c.args.new.now c.show_sound-2.ensures.sound in (
      λ yes.
          let a = c.is_alike.ensures.0 yes in
          record { held = a.held; scopes = with_handle k c.args.handle c.args.old.now c.args.new.now once once_too c.requires a.label a.first },
      λ s. c.is_alike.ensures.1 (record {
        held = s.held;
        label = label_alike k c.args.handle c.args.old.now c.args.new.now once once_too s.scopes;
        first = under_alike k c.args.handle c.args.old.now c.args.new.now once once_too s.scopes;
      }),
    )
