-- The text of a reply (profile of this project).
use Rattle.std.specs.Prelude.{ℕ, List, ◌++◌, codes, decimal}
use Rattle.run_engine.specs.declared.editing.faults.Refusal.{Refusal}
use Rattle.run_engine.specs.declared.editing.faults.Refusal.TheVariants.{NoSuchOp, IdTaken, TooMany, EmptyBatch, TooManyEdits}
use Rattle.edit_desk.specs.declared.replies.Reply.{Reply}
use Rattle.edit_desk.specs.declared.replies.Reply.TheVariants.{Accepted, Stale, Refused, HistoryFull}

-- the cause of a refusal
abbrev pub cause_text : Refusal → List ℕ
cause_text (NoSuchOp edit) = codes "NoSuchOp"
cause_text (IdTaken edit) = codes "IdTaken"
cause_text (TooMany edit) = codes "TooMany"
cause_text EmptyBatch = codes "EmptyBatch"
cause_text TooManyEdits = codes "TooManyEdits"

-- the index of the edit that is refused, from 0; 0 where it is the batch
abbrev pub edit_index : Refusal → ℕ
edit_index (NoSuchOp edit) = edit
edit_index (IdTaken edit) = edit
edit_index (TooMany edit) = edit
edit_index EmptyBatch = 0
edit_index TooManyEdits = 0

-- the line of a reply, without its newline
abbrev pub reply_text : Reply → List ℕ
reply_text (Accepted version) = codes "accepted " ++ decimal version
reply_text (Stale version) = codes "stale " ++ decimal version
reply_text (Refused why) = codes "refused " ++ cause_text why ++ codes " " ++ decimal (edit_index why)
reply_text HistoryFull = codes "full"
