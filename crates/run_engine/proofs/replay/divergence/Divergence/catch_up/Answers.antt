use Rattle.std.proofs.Common.{sym, ◌∙◌}
use Rattle.run_engine.specs.inner.OldRun.{new_trace}
use Rattle.run_engine.proofs.DivergenceLemmas.{caught-up}
use Rattle.run_engine.proofs.replay.divergence.Divergence.catch_up.Goals.{in-Some+in_ok-is_known+then-not-is_known+in-Some-1, then-branch+in_ok-is_known-2, else-branch, in-Some+in_ok-is_known+then-not-is_known+in-None-1, in-Some+in_ok-is_known+else-not-is_known, in_default}
use Rattle.run_engine.proofs.replay.divergence.Divergence.catch_up.Goals as goal

pub returns-clause-known : goal.returns-clause-known
returns-clause-known c =
    elim c.match-self.branch [
      | in-Some+in_ok-is_known+then-not-is_known+in-Some-1 w ↦ rw w.self-is tt
      | in-Some+in_ok-is_known+then-not-is_known+in-None-1 w ↦ rw w.self-is tt
      | in-Some+in_ok-is_known+else-not-is_known w ↦ elim w.if-branch.branch [
        | then-branch+in_ok-is_known-2 v ↦
            rw (w.self-is, v.self-is)
            (caught-up (new_trace c.args.revision.now) c.args.revision.now.segments.now c.args.progress.now.prefix.segments c.begin_anew.new.self.edited c.begin_anew.new.self.base c.args.progress.now.prefix.len c.args.index c.args.at
            w.in-Some.suspects w.follow.new.suspects v.follow-then-branch.new.suspects c.args.progress.now.prefix.end
            (rw w.in-Some.is at c.begin_anew.ensures.known c.args.revision.now c.requires.known c.requires.fork) c.requires.prefix
            (rw w.len.ensures at w.in_ok-is_known.ensures v.if-branch.true)
            (v.in_ok-is_known-2.ensures (sym v.is_known-is ∙ w.if-not-is_known.false)) c.requires.place)
        | else-branch v ↦ absurd (let no = sym v.is_known-is ∙ w.if-not-is_known.false in cc)
      ]
      | in_default w ↦ rw (w.self-is, w.in_default.is) tt
    ]
