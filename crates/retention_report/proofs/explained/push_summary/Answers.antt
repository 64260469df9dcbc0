use Rattle.std.proofs.Common.{◌≡◌, ◌++◌, List, ℕ, sym, subst, string_bytes}
use Rattle.retention_report.specs.Explained.{AreLines}
use Rattle.retention_report.specs.Sources.{AreMade}
use Rattle.retention_report.proofs.ToldLemmas.{summary, note_made}
use Rattle.retention_report.proofs.explained.push_summary.Goals as goal

pub push_lines-requires : goal.push_lines-requires
push_lines-requires c = record {
  told = c.requires.told;
  lives = c.requires.lives;
  made = subst (λ (os : List ℕ). AreMade c.args.ops.now os) (sym c.deref.ensures.value)
      (note_made c.args.ops.now c.args.told.now.end c.in_ok-noted.noted.items c.requires.told.of (c.in_ok-noted.ensures c.args.ops.now c.requires.told.of));
}

pub returns : goal.returns
returns c =
    summary c.args.with_lives c.args.ops.now c.in_ok-noted.noted.items (string_bytes c.args.text.now) _ _ (c.in_ok-noted.ensures c.args.ops.now c.requires.told.of)
    (subst (λ (os : List ℕ). (lines : List ℕ) × AreLines c.args.with_lives c.args.ops.now os lines × (string_bytes c.push_lines.new.text ≡ string_bytes c.args.text.now ++ lines)) c.deref.ensures.value c.in_ok-push_lines.ensures.lines)
    c.in_ok-push_totals_line.ensures
