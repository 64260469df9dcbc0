use Rattle.std.proofs.Common.{rules, ◌≡◌, ◌∷◌, ◌++◌, [], ◌+◌, ◌<◌, ℕ, length, ap, sym, subst, arith, length-append}
use Rattle.std.specs.Prelude.{slice_index_or}
use Rattle.command_race.specs.Race.{requests_of, others_of}
use Rattle.command_race.proofs.Splits.{split_more, rest_more, split_all}
use Rattle.command_race.proofs.split.by_session.Goals as goal

pub loop-session-preserved : goal.loop-session-preserved
loop-session-preserved c =
    let sessions = c.loop-session.sessions.items in
    let lines = c.args.lines.items in
    let rest = c.loop-session.rest.items in
    let n = c.loop-session.session in
    let own = c.in-Ok.own in
    let others = c.in-Ok.others.items in
    let many = c.loop-session.invariant.many in
    let grown : c.push.new.self.items ≡ sessions ++ own ∷ [] = search rules in
    let is : own ≡ requests_of n rest = search rules in
    let left : others ≡ others_of n rest = search rules in record {
      many = omega (arith, many, ap length grown, length-append sessions (own ∷ []));
      each = subst (λ xs. (s : ℕ) → s < n + 1 → slice_index_or xs s [] ≡ requests_of s lines) (sym grown) (split_more n sessions own rest lines many c.loop-session.invariant.each c.loop-session.invariant.left is);
      left = rest_more n rest others lines c.loop-session.invariant.left left;
    }

pub returns-clause-each : goal.returns-clause-each
returns-clause-each c =
    let none : length c.loop-session.rest.items ≡ 0 = search rules in
    split_all c.loop-session.session c.loop-session.sessions.items c.loop-session.rest.items c.args.lines.items c.loop-session.invariant.many c.loop-session.invariant.each c.loop-session.invariant.left none
