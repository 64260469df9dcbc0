use Rattle.std.proofs.Common.{◌≡◌, ◌-◌, ◌∷◌, List, ℕ, length, take, drop, MatchOption, sym, subst, arith}
use Rattle.std.proofs.lemmas.Grind.{common_steps}
use Rattle.serde_json.specs.Data.{Data, Members, put}
use Rattle.trace_reader.specs.Looks.{Tells}
use Rattle.trace_reader.specs.Plain.{IsMember}
use Rattle.trace_reader.proofs.PlainLemmas.{no_members_yet, member_is_left, member_and_comma, member_and_end}
use Rattle.trace_reader.proofs.plain.line.plain_members.Goals as goal

pub members-init : goal.members-init
members-init c = no_members_yet c.args.kept.now (take (length c.args.line.now - 1) (drop 1 c.args.line.now)) c.after_spaces-rest.result.now c.after_spaces-rest.ensures

pub returns-in_default-2 : goal.returns-in_default-2
returns-in_default-2 c =
    let l = c.members in
    let line = c.args.line.now in
    let text = take (length line - 1) (drop 1 line) in
    let rest = l.rest.now in
    let named = take (length rest - 1) (drop 1 rest) in
    let opens : line ≡ 123 ∷ text = grind (arith, common_steps) in
    let quoted : rest ≡ 34 ∷ named = grind (arith, common_steps) in
    let same = subst (λ found. MatchOption found (c.member.new.kept ≡ l.kept) (λ tail. (key : List ℕ) × (d : Data) × IsMember named key d tail.now × ((ms : Members) → Tells l.kept ms → Tells c.member.new.kept (put key d ms)))) c.in_default-2.is c.in_ok-after.ensures in
    let left = member_is_left c.args.kept.now l.kept line text rest named l.invariant opens quoted in
    (left.0, left.1, λ tells. subst (λ kept. Tells kept left.0) (sym same) (left.2 tells))

pub members-preserved : goal.members-preserved
members-preserved c =
    let l = c.members in
    let line = c.args.line.now in
    let text = take (length line - 1) (drop 1 line) in
    let rest = l.rest.now in
    let named = take (length rest - 1) (drop 1 rest) in
    let after = c.in-Some.after.now in
    let spaced = take (length after - 1) (drop 1 after) in
    let quoted : rest ≡ 34 ∷ named = grind (arith, common_steps) in
    let comma : after ≡ 44 ∷ spaced = grind (arith, common_steps) in
    let read = subst (λ found. MatchOption found (c.member.new.kept ≡ l.kept) (λ tail. (key : List ℕ) × (d : Data) × IsMember named key d tail.now × ((ms : Members) → Tells l.kept ms → Tells c.member.new.kept (put key d ms)))) c.in-Some.is c.in_ok-after.ensures in
    member_and_comma c.args.kept.now l.kept c.member.new.kept text rest named read.0 after read.1 l.invariant quoted read.2 read.3 c.after_spaces-rest-in-44.result.now spaced comma c.after_spaces-rest-in-44.ensures

pub returns-then-is_end : goal.returns-then-is_end
returns-then-is_end c =
    let l = c.members in
    let line = c.args.line.now in
    let text = take (length line - 1) (drop 1 line) in
    let rest = l.rest.now in
    let named = take (length rest - 1) (drop 1 rest) in
    let after = c.in-Some.after.now in
    let opens : line ≡ 123 ∷ text = grind (arith, common_steps) in
    let quoted : rest ≡ 34 ∷ named = grind (arith, common_steps) in
    let read = subst (λ found. MatchOption found (c.member.new.kept ≡ l.kept) (λ tail. (key : List ℕ) × (d : Data) × IsMember named key d tail.now × ((ms : Members) → Tells l.kept ms → Tells c.member.new.kept (put key d ms)))) c.in-Some.is c.in_ok-after.ensures in
    member_and_end c.args.kept.now l.kept c.member.new.kept text rest named read.0 after read.1 l.invariant quoted read.2 read.3 line opens (c.is_end.ensures.tokens c.if-is_end.true) (c.is_end.ensures.utf8 c.if-is_end.true)
