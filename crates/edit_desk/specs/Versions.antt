-- What a desk has, and what it prepares.
use Rattle.std.specs.Prelude.{◌≡◌, ◌⊎◌, ℕ, List, Ok, refl}
use Rattle.std.specs.Coded.{Coded, code_by, coded×, coded_ℕ, coded_list}
use Rattle.trace_types.specs.Operation.{Operation}
use Rattle.trace_types.specs.declared.edits.Edit.{Edit}
use Rattle.op_step.specs.Chunk.{Chunk}
use Rattle.run_engine.specs.RunView.{RunView}
use Rattle.run_engine.specs.Bounds.{StepsAtMostFrom}
use Rattle.trace_types.specs.contracts.ops.Op as op
use Rattle.mark_shelf.specs.Shelf.{Shelf, shelf_code}
use Rattle.run_engine.specs.GivenUp.{AreMarksKept}
use Rattle.run_engine.specs.Steps.{AreSteppedFrom}
use Rattle.edit_desk.specs.declared.entries.Entry.{Entry}
use Rattle.edit_desk.specs.contracts.entries.Entry as entry
use Rattle.edit_desk.specs.declared.entries.Request.{Request}
use Rattle.edit_desk.specs.declared.replies.Reply.{Reply}
use Rattle.run_engine.specs.Edited.{edited_by}
use Rattle.edit_desk.specs.Answers.{Standing, reply_with_room, reply_to, next_trace, next_version, after}

-- a version of the trace, with its run
pub record Version : Type 0 where
  pub version : ℕ
  pub run : RunView

-- what stands, the checkpoints of its run, the shelf, how many entries more the history has room for, and how many operations were replayed
pub record DeskView : Type 0 where
  pub standing : Standing
  pub marks : List ℕ
  pub shelf : Shelf
  pub room : ℕ
  pub meter : ℕ

-- by which a proof tells desks apart
abbrev pub desk_code : Coded DeskView
desk_code = code_by ((List Operation × (List Operation × (ℕ × List Entry))) × (List ℕ × (Shelf × (ℕ × ℕ))))
    (coded× (coded× (coded_list op.the_row.coded) (coded× (coded_list op.the_row.coded) (coded× coded_ℕ (coded_list entry.the_row.coded)))) (coded× (coded_list coded_ℕ) (coded× shelf_code (coded× coded_ℕ coded_ℕ))))
    (λ d. ((d.standing.opening, (d.standing.trace, (d.standing.version, d.standing.history))), (d.marks, (d.shelf, (d.room, d.meter)))))
    (λ p. record { standing = record { opening = p.0.0; trace = p.0.1.0; version = p.0.1.1.0; history = p.0.1.1.1 }; marks = p.1.0; shelf = p.1.1.0; room = p.1.1.1.0; meter = p.1.1.1.1 })
    (λ _. refl)

-- a request with the reply to it, and what will stand
pub record PreparedView : Type 0 where
  pub entry : Entry
  pub next : Version

-- this was prepared for what stands
pub record IsDue (s : Standing) (p : PreparedView) : Type 0 where
  pub reply : p.entry.reply ≡ reply_to s p.entry.request
  pub trace : p.next.run.trace ≡ (after s p.entry.session p.entry.request).trace
  pub version : p.next.version ≡ (after s p.entry.session p.entry.request).version

-- the reply to a request that a history has room for, and what stands then
pub record IsSettled (v : Version) (r : Request) (reply : Reply) (next : Version) : Type 0 where
  pub reply_is : reply ≡ reply_with_room v.version v.run.trace r
  pub trace : next.run.trace ≡ next_trace v.run.trace r reply
  pub version : next.version ≡ next_version v.version reply

-- where the edits are made, the meter rises from one count to the other by at most the bound of the edit
unfoldable pub ReplaysWithin : List Operation → List ℕ → List Edit → ℕ → ℕ → Type 0
ReplaysWithin trace marks batch before after = (ops : List Operation) → edited_by trace batch ≡ Ok ops → StepsAtMostFrom trace ops marks before after

-- and by at least the operations that neither an old stretch nor one of the chunks covers: those that were on the shelf, and guesses
unfoldable pub StepsAtLeast : List Operation → List ℕ → List (ℕ × Chunk) → List Edit → ℕ → ℕ → Type 0
StepsAtLeast trace marks chunks batch before after = (ops : List Operation) → edited_by trace batch ≡ Ok ops → AreSteppedFrom trace ops marks chunks before after

-- the next run is the one that stands, with the shelf as it was, or that of an edit of its trace, with the checkpoints that such an edit
-- leaves, and the shelf after it
abbrev pub IsNextRun : List Chunk → List Operation → List ℕ → RunView → Shelf → Shelf → Type 0
IsNextRun guesses trace marks next shelf after = let now : RunView = record { trace = trace; marks = marks } in ((next ≡ now) × (after ≡ shelf)) ⊎ AreMarksKept guesses now next shelf after
