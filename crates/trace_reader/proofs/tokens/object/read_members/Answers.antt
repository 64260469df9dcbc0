use Rattle.std.proofs.Common.{◌≡◌, ◌-◌, ◌<◌, length, Some, None, refl, ◌∙◌, arith}
use Rattle.json.specs.Json.{value, read_key}
use Rattle.json.proofs.Grammar.{read_key-shorter}
use Rattle.serde_json.specs.Data.{Members, put}
use Rattle.trace_reader.specs.Looks.{first_value}
use Rattle.trace_reader.proofs.Turns.{member_refused, key_refused, member_read, members_over}
use Rattle.trace_reader.proofs.tokens.object.read_members.Goals as goal

pub members-init : goal.members-init
members-init c = (length c.args.reader.now, omega arith, (λ old. old), (λ old. refl), (λ old tells. tells))

pub returns-in_err-keep-in-Ok-Some-clause-err : goal.returns-in_err-keep-in-Ok-Some-clause-err
returns-in_err-keep-in-Ok-Some-clause-err c refused = λ (old : Members).
    let l = c.members in
    let s = c.next_key.new.self in
    let k = c.in-Ok-Some.key.now in
    let named : read_key l.reader ≡ Some (Some k, s) = grind arith in
    let none : first_value c.args.depth s ≡ None = c.keep.ensures.err (grind arith) in
    l.invariant.3 old ∙ member_refused (value c.args.depth) (l.invariant.2 old) l.invariant.0 k l.reader s named none

pub members-preserved : goal.members-preserved
members-preserved c =
    let l = c.members in
    let s = c.next_key.new.self in
    let k = c.in-Ok-Some.key.now in
    let named : read_key l.reader ≡ Some (Some k, s) = grind arith in
    let read = c.in_ok-keep-in-Ok-Some.ensures.ok in
    let shorter : length c.keep.new.reader < length s = grind arith in
    let less = read_key-shorter l.reader (Some k) s named in
    let turn = λ (old : Members). member_read (value c.args.depth) (l.invariant.2 old) l.invariant.0 k l.reader s c.keep.new.reader read.0 (omega (arith, less, l.invariant.1)) named read.1 in (
      l.invariant.0 - 1,
      omega (arith, shorter, less, l.invariant.1),
      (λ old. put k read.0 (l.invariant.2 old)),
      (λ old. l.invariant.3 old ∙ turn old),
      (λ old tells. read.2 k (l.invariant.2 old) c.member_name.ensures (l.invariant.4 old tells)),
    )

pub returns-in-Ok-None-clause-ok : goal.returns-in-Ok-None-clause-ok
returns-in-Ok-None-clause-ok c old =
    let l = c.members in
    let over : read_key l.reader ≡ Some (None, c.next_key.new.self) = grind arith in
    let less = read_key-shorter l.reader None c.next_key.new.self over in
    (l.invariant.2 old, l.invariant.3 old ∙ members_over (value c.args.depth) (l.invariant.2 old) l.invariant.0 l.reader c.next_key.new.self (omega (arith, less, l.invariant.1)) over, l.invariant.4 old)

pub returns-in-Err-clause-err : goal.returns-in-Err-clause-err
returns-in-Err-clause-err c refused = λ (old : Members).
    let l = c.members in
    let none : read_key l.reader ≡ None = grind arith in
    l.invariant.3 old ∙ key_refused (value c.args.depth) (l.invariant.2 old) l.invariant.0 l.reader none
