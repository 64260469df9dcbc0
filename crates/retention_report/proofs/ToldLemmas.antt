-- Pieces of text that are told, over plain variables.
use Rattle.std.proofs.Common.{◌≡◌, ℕ, ◌<◌, List, [], ◌∷◌, ◌++◌, length, refl, sym, ap, ◌∙◌, subst, arith, append_assoc, get_or, Bool, true, false}
use Rattle.std.specs.Prelude.{Option, Some, None, ◌==◌, ◌||◌, is_some, filter, if◌then◌else◌}
use Rattle.std.proofs.lemmas.Bool.Decides.{nat_tests}
use Rattle.std.proofs.lemmas.List.{append-nil}
use Rattle.std.specs.FinMap.{get, keys, contains_key-keys}
use Rattle.trace_types.specs.declared.slots.Entry.{Entry}
use Rattle.trace_types.specs.Operation.{Operation}
use Rattle.ownership_model.specs.State.{nothing_held}
use Rattle.ownership_model.specs.Step.{outcomes_from, end_from}
use Rattle.ownership_model.specs.Reach.{has}
use Rattle.ownership_model.proofs.Searching.{has_as_any, or_right}
use Rattle.leak_report.specs.Lives.{life_of, made_after}
use Rattle.leak_report.specs.Text.{life_text}
use Rattle.retention_model.specs.Turns.{marks_of, AreMarked}
use Rattle.retention_model.specs.declared.mark.Marked.{Marked}
use Rattle.retention_model.specs.declared.account.Account.{Account}
use Rattle.retention_model.specs.declared.totals.Totals.{Totals}
use Rattle.retention.specs.declared.lifelines.Lifelines.{Lifelines}
use Rattle.retention.specs.declared.ending.Ending.{Ending}
use Rattle.retention.specs.Endings.{IsEndOf}
use Rattle.retention.specs.Ends.{AreAll, IsOfNote, AreTotals}
use Rattle.retention.specs.Told.{IsAccount}
use Rattle.retention_text.specs.Pieces.{totals_text}
use Rattle.retention_text.specs.Turns.{life_lines}
use Rattle.retention_text.specs.Accounts.{account_text}
use Rattle.retention_report.specs.Explained.{AreLifeLines, AreLinesOfEntry, AreAccountLines, IsObjectText, AreLines, IsSummary, IsTold, IsExplanation, Explains, first_unmade, missing_text}
use Rattle.retention_report.specs.Sources.{AreLivesOf, AreMade}
use Rattle.retention_report.proofs.MadeLemmas.{end_made}
use Rattle.retention_report.proofs.LineLemmas.{item_has}

-- ---- the lines of a life

pub life_some : (with_lives : Bool) (ops : List Operation) (o : ℕ) (l : Lifelines) (before after : List ℕ) → AreLivesOf with_lives ops (Some l)
    → after ≡ before ++ life_lines ops (marks_of o l.marks.items) → (piece : List ℕ) × AreLifeLines with_lives ops o piece × (after ≡ before ++ piece)
life_some true ops o l before after are is = (life_lines ops (marks_of o l.marks.items), (are.0, are.1, ap (life_lines ops) (are.2 o)), is)
life_some false ops o l before after are is = absurd are

pub life_none : (with_lives : Bool) (ops : List Operation) (o : ℕ) (before after : List ℕ) → AreLivesOf with_lives ops None
    → after ≡ before → (piece : List ℕ) × AreLifeLines with_lives ops o piece × (after ≡ before ++ piece)
life_none true ops o before after are is = absurd are
life_none false ops o before after are is = ([], refl, is ∙ sym (append-nil before))

-- ---- what is told of an object at the end

entry_of : (x : Option Entry) → is_some x ≡ false → x ≡ None
entry_of None h = refl
entry_of (Some x) h = absurd cc

key_has : (ops : List Operation) (o : ℕ) → is_some (get (end_from nothing_held ops).objects o) ≡ has o (keys (end_from nothing_held ops).objects)
key_has ops o = contains_key-keys (end_from nothing_held ops).objects o ∙ has_as_any o (keys (end_from nothing_held ops).objects)

pub account_none : (ops : List Operation) (e : Ending) (o : ℕ) (before after : List ℕ) → IsEndOf ops e → has o e.graph.objects.items ≡ false → after ≡ before
    → (piece : List ℕ) × AreAccountLines ops o piece × (after ≡ before ++ piece)
account_none ops e o before after of gone is =
    let none : is_some (get (end_from nothing_held ops).objects o) ≡ false = key_has ops o ∙ ap (has o) (sym of.1.objects) ∙ gone in
    ([], subst (λ (x : Option Entry). AreLinesOfEntry ops o x []) (sym (entry_of (get (end_from nothing_held ops).objects o) none)) refl, is ∙ sym (append-nil before))

lines_there : (ops : List Operation) (o : ℕ) (x : Option Entry) (text : List ℕ) → is_some x ≡ true → (a : Account) × IsAccount ops (end_from nothing_held ops) o a × (text ≡ account_text a) → AreLinesOfEntry ops o x text
lines_there ops o None text there it = absurd cc
lines_there ops o (Some x) text there it = it

pub account_some : (ops : List Operation) (e : Ending) (o i : ℕ) (a : Account) (before after : List ℕ) → IsEndOf ops e → i < length e.graph.objects.items → get_or e.graph.objects.items i 0 ≡ o
    → IsAccount ops (end_from nothing_held ops) (get_or e.graph.objects.items i 0) a → after ≡ before ++ account_text a
    → (piece : List ℕ) × AreAccountLines ops o piece × (after ≡ before ++ piece)
account_some ops e o i a before after of within named account is =
    let there : has o (keys (end_from nothing_held ops).objects) ≡ true =
    subst (λ ks. has o ks ≡ true) of.1.objects (subst (λ x. has x e.graph.objects.items ≡ true) named (item_has e.graph.objects.items i within)) in
    (account_text a, lines_there ops o (get (end_from nothing_held ops).objects o) (account_text a) (key_has ops o ∙ there) (a, subst (λ x. IsAccount ops (end_from nothing_held ops) x a) named account, refl), is)

-- ---- all lines of an object

pieces : (t a b c : List ℕ) → ((t ++ a) ++ b) ++ c ≡ t ++ ((a ++ b) ++ c)
pieces t a b c = simp append_assoc

pub object_lines : (with_lives : Bool) (ops : List Operation) (o : ℕ) (t s1 s2 s3 : List ℕ) → s1 ≡ t ++ life_text (life_of (outcomes_from nothing_held ops) o)
    → (piece : List ℕ) × AreLifeLines with_lives ops o piece × (s2 ≡ s1 ++ piece)
    → (piece : List ℕ) × AreAccountLines ops o piece × (s3 ≡ s2 ++ piece)
    → (lines : List ℕ) × IsObjectText with_lives ops o lines × (s3 ≡ t ++ lines)
object_lines with_lives ops o t s1 s2 s3 first life account = (
  (life_text (life_of (outcomes_from nothing_held ops) o) ++ life.0) ++ account.0,
  (life.0, account.0, life.1, account.1, refl),
  account.2 ∙ ap (λ xs. xs ++ account.0) (life.2 ∙ ap (λ xs. xs ++ life.0) first) ∙ pieces t (life_text (life_of (outcomes_from nothing_held ops) o)) life.0 account.0,
)

-- ---- the whole

pub summary : (with_lives : Bool) (ops : List Operation) (os t s1 s2 : List ℕ) → AreAll (end_from nothing_held ops) (IsOfNote (end_from nothing_held ops)) os
    → (lines : List ℕ) × AreLines with_lives ops os lines × (s1 ≡ t ++ lines)
    → (totals : Totals) × AreTotals (end_from nothing_held ops) totals × (s2 ≡ s1 ++ totals_text totals ++ 10 ∷ [])
    → (piece : List ℕ) × IsSummary with_lives ops piece × (s2 ≡ t ++ piece)
summary with_lives ops os t s1 s2 all lines totals = (
  (lines.0 ++ totals_text totals.0) ++ 10 ∷ [],
  (os, lines.0, totals.0, all, lines.1, totals.1, refl),
  totals.2 ∙ ap (λ xs. (xs ++ totals_text totals.0) ++ 10 ∷ []) lines.2 ∙ pieces t lines.0 (totals_text totals.0) (10 ∷ []),
)

same_text : (t s piece : List ℕ) → t ≡ [] → s ≡ t ++ piece → s ≡ piece
same_text t s piece none is = is ∙ ap (λ xs. xs ++ piece) none

pub told_none : (with_lives : Bool) (ops : List Operation) (os t s : List ℕ) → os ≡ [] → t ≡ [] → (piece : List ℕ) × IsSummary with_lives ops piece × (s ≡ t ++ piece) → IsTold with_lives ops os s
told_none with_lives ops os t s none empty it =
    subst (λ xs. IsTold with_lives ops xs s) (sym none) (subst (λ x. IsSummary with_lives ops x) (sym (same_text t s it.0 empty it.2)) it.1)

pub told_some : (with_lives : Bool) (ops : List Operation) (os t s : List ℕ) → (length os == 0) ≡ false → t ≡ [] → (lines : List ℕ) × AreLines with_lives ops os lines × (s ≡ t ++ lines) → IsTold with_lives ops os s
told_some with_lives ops [] t s some empty it = absurd cc
told_some with_lives ops (o ∷ os) t s some empty it = subst (λ x. AreLines with_lives ops (o ∷ os) x) (sym (same_text t s it.0 empty it.2)) it.1

-- ---- which numbers are none

unmade_by : (o : ℕ) (made : List ℕ) (os : List ℕ) (b : Bool) → (if b then first_unmade made os else Some o) ≡ None → (b ≡ true) × (first_unmade made os ≡ None)
unmade_by o made os true h = (refl, h)
unmade_by o made os false h = absurd cc

pub all_made : (made os : List ℕ) → first_unmade made os ≡ None → (o : ℕ) → has o os ≡ true → has o made ≡ true
all_made made [] none o h = absurd cc
all_made made (x ∷ os) none o h =
    let both = unmade_by x made os (has x made) none in
    by_first both.0 (λ there. all_made made os both.1 o there) (x == o) refl h
  where
    by_first : has x made ≡ true → (has o os ≡ true → has o made ≡ true) → (b : Bool) → (x == o) ≡ b → (b || has o os) ≡ true → has o made ≡ true
    by_first first rest true e there = let same : x ≡ o = grind (arith, nat_tests, e) in subst (λ y. has y made ≡ true) same first
    by_first first rest false e there = rest there

pub explains_none : (with_lives : Bool) (ops : List Operation) (os text : List ℕ) (is_missing : Bool) → first_unmade (made_after [] (outcomes_from nothing_held ops)) os ≡ None
    → IsTold with_lives ops os text → is_missing ≡ false → Explains with_lives ops os text is_missing
explains_none with_lives ops os text is_missing none told found =
    subst (λ (x : Option ℕ). IsExplanation with_lives ops os x text is_missing) (sym none) (told, found)

pub explains_some : (with_lives : Bool) (ops : List Operation) (os text : List ℕ) (is_missing : Bool) (o : ℕ) → first_unmade (made_after [] (outcomes_from nothing_held ops)) os ≡ Some o
    → text ≡ missing_text o → is_missing ≡ true → Explains with_lives ops os text is_missing
explains_some with_lives ops os text is_missing o some told missing =
    subst (λ (x : Option ℕ). IsExplanation with_lives ops os x text is_missing) (sym some) (told, missing)

-- ---- the objects of note were made

kept_key : (k : ℕ → Bool) (ks : List ℕ) (o : ℕ) → has o (filter k ks) ≡ true → has o ks ≡ true
kept_key k [] o h = absurd cc
kept_key k (x ∷ ks) o h = by_test (λ there. kept_key k ks o there) (k x) h
  where
    by_head : (has o (filter k ks) ≡ true → has o ks ≡ true) → (b : Bool) → (b || has o (filter k ks)) ≡ true → (b || has o ks) ≡ true
    by_head rest true there = refl
    by_head rest false there = rest there

    by_test : (has o (filter k ks) ≡ true → has o ks ≡ true) → (b : Bool) → has o (if b then x ∷ filter k ks else filter k ks) ≡ true → ((x == o) || has o ks) ≡ true
    by_test rest true there = by_head rest (x == o) there
    by_test rest false there = or_right (x == o) (has o ks) (rest there)

pub note_made : (ops : List Operation) (e : Ending) (os : List ℕ) → IsEndOf ops e → AreAll (end_from nothing_held ops) (IsOfNote (end_from nothing_held ops)) os → AreMade ops os
note_made ops e os of all o h =
    end_made ops of.0 o (key_has ops o ∙ kept_key all.0 (keys (end_from nothing_held ops).objects) o (subst (λ xs. has o xs ≡ true) all.2 h))

-- ---- what is told from

pub lives_none : (with_lives : Bool) (ops : List Operation) → with_lives ≡ false → AreLivesOf with_lives ops None
lives_none false ops h = tt
lives_none true ops h = absurd cc

pub lives_some : (with_lives : Bool) (ops : List Operation) (marked : List Marked) (l : Lifelines) → with_lives ≡ true → ((o : ℕ) → marks_of o l.marks.items ≡ marks_of o marked)
    → (with_lives ≡ true → AreMarked nothing_held ops marked) → AreLivesOf with_lives ops (Some l)
lives_some true ops marked l h same are = (marked, are refl, same)
lives_some false ops marked l h same are = absurd cc
