use Rattle.std.specs.List.{All}
use Rattle.std.proofs.Common.{rules, refl, ◌≡◌, ◌∷◌, ◌++◌, [], Some, ap, sym, ◌∙◌, subst, arith, length, length-append}
use Rattle.live_sessions.specs.Places.{AreOwn, IsUnused}
use Rattle.live_sessions.proofs.InPlace.{own_more}
use Rattle.live_sessions.proofs.Prefixes.{all_more}
use Rattle.live_sessions.proofs.places.Places.new.Goals as goal

pub loop-session-preserved : goal.loop-session-preserved
loop-session-preserved g c =
    let passes = c.loop-session.passes.items in
    let p = c.new-pass.result in
    let many = c.loop-session.invariant.many in
    let grown : c.push.new.self.items ≡ passes ++ Some p ∷ [] = search rules in
    let own : p.session ≡ length passes = c.new-pass.ensures.0 ∙ sym many in record {
      many = omega (arith, many, ap length grown, length-append passes (Some p ∷ []));
      own = subst AreOwn (sym grown) (own_more passes (Some p) c.loop-session.invariant.own own);
      unused = subst (All (IsUnused c.args.front.now)) (sym grown)
          (all_more (IsUnused c.args.front.now) passes (Some p) c.loop-session.invariant.unused (p, refl, c.new-pass.ensures.1 ∙ c.again.ensures, c.new-pass.ensures.2));
    }
